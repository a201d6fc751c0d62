-- The parts of a text that is read on, and that they are those of the grammar.
use Rattle.std.proofs.Common.{◌≡◌, ℕ, Bool, true, false, List, [], ◌∷◌, ◌++◌, refl, sym, ◌∙◌, ap, append_assoc}
use Rattle.std.proofs.Common.{append-nil}
use Rattle.soy_tree.specs.MessageParts.{MsgPart, MsgParts, TextPart, Placeholder, NumberPart, PluralPart, SelectPart}
use Rattle.soy_tree.specs.MessageParts.{no_part, part}
use Rattle.soy_tree.specs.ViewMessageParts.{parts_of}
use Rattle.soy_rules.specs.IcuText.{with_text}
use Rattle.icu_text.specs.PatternSteps.{finished}

-- parts and the text after them, once these parts were read too
abbrev pub with_parts : List MsgPart × List ℕ → MsgParts → List MsgPart × List ℕ
with_parts l no_part = l
with_parts l (part (TextPart text) ps) = with_parts (l.0, l.1 ++ text) ps
with_parts l (part p ps) = with_parts (finished l.0 l.1 ++ p ∷ [], []) ps

abbrev pub IsNoText : MsgPart → Type 0
IsNoText (TextPart text) = ⊥
IsNoText _ = Unit {0}

pub with_part : (l : List MsgPart × List ℕ) (p : MsgPart) (ps : MsgParts) → IsNoText p
    → with_parts (finished l.0 l.1 ++ p ∷ [], []) ps ≡ with_parts l (part p ps)
with_part l (TextPart text) ps h = absurd h
with_part l (Placeholder name) ps h = refl
with_part l NumberPart ps h = refl
with_part l (PluralPart ordinal name by exact named) ps h = refl
with_part l (SelectPart name arms) ps h = refl

-- text that was read before
pub with_more : (l : List MsgPart × List ℕ) (text : List ℕ) (ps : MsgParts)
    → with_parts (l.0, l.1 ++ text) ps ≡ with_parts l (with_text text ps)
with_more l [] ps = ap (λ t. with_parts (l.0, t) ps) (append-nil l.1)
with_more l (c ∷ cs) no_part = refl
with_more l (c ∷ cs) (part (TextPart text) ps) = ap (λ t. with_parts (l.0, t) ps) (append_assoc l.1 (c ∷ cs) text)
with_more l (c ∷ cs) (part (Placeholder name) ps) = refl
with_more l (c ∷ cs) (part NumberPart ps) = refl
with_more l (c ∷ cs) (part (PluralPart ordinal name by exact named) ps) = refl
with_more l (c ∷ cs) (part (SelectPart name arms) ps) = refl

-- no text is empty, and none is the neighbour of another; the flag says whether a text may come first
abbrev pub IsJoined : Bool → MsgParts → Type 0
IsJoined first no_part = Unit {0}
IsJoined true (part (TextPart (c ∷ cs)) ps) = IsJoined false ps
IsJoined true (part (TextPart []) ps) = ⊥
IsJoined false (part (TextPart text) ps) = ⊥
IsJoined first (part p ps) = IsJoined true ps

joined_weakly : (ps : MsgParts) → IsJoined false ps → IsJoined true ps
joined_weakly no_part h = tt
joined_weakly (part (TextPart text) ps) h = absurd h
joined_weakly (part (Placeholder name) ps) h = h
joined_weakly (part NumberPart ps) h = h
joined_weakly (part (PluralPart ordinal name by exact named) ps) h = h
joined_weakly (part (SelectPart name arms) ps) h = h

joined_text : (text : List ℕ) (ps : MsgParts) → IsJoined true ps → IsJoined true (with_text text ps)
joined_text [] ps h = h
joined_text (c ∷ cs) no_part h = tt
joined_text (c ∷ cs) (part (TextPart []) ps) h = absurd h
joined_text (c ∷ cs) (part (TextPart (d ∷ ds)) ps) h = h
joined_text (c ∷ cs) (part (Placeholder name) ps) h = h
joined_text (c ∷ cs) (part NumberPart ps) h = h
joined_text (c ∷ cs) (part (PluralPart ordinal name by exact named) ps) h = h
joined_text (c ∷ cs) (part (SelectPart name arms) ps) h = h

pub joined_part : (p : MsgPart) (ps : MsgParts) → IsNoText p → IsJoined true ps → IsJoined true (part p ps)
joined_part (TextPart text) ps h j = absurd h
joined_part (Placeholder name) ps h j = j
joined_part NumberPart ps h j = j
joined_part (PluralPart ordinal name by exact named) ps h j = j
joined_part (SelectPart name arms) ps h j = j

pub joined_more : (text : List ℕ) (ps qs : MsgParts) → qs ≡ with_text text ps → IsJoined true ps → IsJoined true qs
joined_more text ps qs e h = rw e (joined_text text ps h)

-- parts after a list of parts
abbrev pub after_parts : List MsgPart → MsgParts → MsgParts
after_parts [] ps = ps
after_parts (q ∷ qs) ps = part q (after_parts qs ps)

parts_then : (qs rs : List MsgPart) → parts_of (qs ++ rs) ≡ after_parts qs (parts_of rs)
parts_then [] rs = refl
parts_then (q ∷ qs) rs = ap (part q) (parts_then qs rs)

after_then : (qs rs : List MsgPart) (ps : MsgParts) → after_parts (qs ++ rs) ps ≡ after_parts qs (after_parts rs ps)
after_then [] rs ps = refl
after_then (q ∷ qs) rs ps = ap (part q) (after_then qs rs ps)

pub finished_end : (qs : List MsgPart) (text : List ℕ)
    → parts_of (finished qs text) ≡ after_parts qs (with_text text no_part)
finished_end qs [] = ap parts_of (sym (append-nil qs)) ∙ parts_then qs []
finished_end qs (c ∷ cs) = parts_then qs (TextPart (c ∷ cs) ∷ [])

pub finished_then : (qs : List MsgPart) (text : List ℕ) (p : MsgPart) (ps : MsgParts) → IsNoText p
    → after_parts (finished qs text ++ p ∷ []) ps ≡ after_parts qs (with_text text (part p ps))
finished_then qs [] p ps h = after_then qs (p ∷ []) ps
finished_then qs (c ∷ cs) (TextPart text) ps h = absurd h
finished_then qs (c ∷ cs) (Placeholder name) ps h =
    after_then (qs ++ TextPart (c ∷ cs) ∷ []) (Placeholder name ∷ []) ps
    ∙ after_then qs (TextPart (c ∷ cs) ∷ []) (part (Placeholder name) ps)
finished_then qs (c ∷ cs) NumberPart ps h =
    after_then (qs ++ TextPart (c ∷ cs) ∷ []) (NumberPart ∷ []) ps
    ∙ after_then qs (TextPart (c ∷ cs) ∷ []) (part NumberPart ps)
finished_then qs (c ∷ cs) (PluralPart ordinal name by exact named) ps h =
    after_then (qs ++ TextPart (c ∷ cs) ∷ []) (PluralPart ordinal name by exact named ∷ []) ps
    ∙ after_then qs (TextPart (c ∷ cs) ∷ []) (part (PluralPart ordinal name by exact named) ps)
finished_then qs (c ∷ cs) (SelectPart name arms) ps h =
    after_then (qs ++ TextPart (c ∷ cs) ∷ []) (SelectPart name arms ∷ []) ps
    ∙ after_then qs (TextPart (c ∷ cs) ∷ []) (part (SelectPart name arms) ps)

-- text before text
pub texts_join : (text more : List ℕ) (ps : MsgParts) → with_text (text ++ more) ps ≡ with_text text (with_text more ps)
texts_join [] more ps = refl
texts_join (c ∷ cs) [] ps = ap (λ t. with_text t ps) (append-nil (c ∷ cs))
texts_join (c ∷ cs) (d ∷ ds) no_part = refl
texts_join (c ∷ cs) (d ∷ ds) (part (TextPart text) ps) =
    ap (λ t. part (TextPart t) ps) (append_assoc (c ∷ cs) (d ∷ ds) text)
texts_join (c ∷ cs) (d ∷ ds) (part (Placeholder name) ps) = refl
texts_join (c ∷ cs) (d ∷ ds) (part NumberPart ps) = refl
texts_join (c ∷ cs) (d ∷ ds) (part (PluralPart ordinal name by exact named) ps) = refl
texts_join (c ∷ cs) (d ∷ ds) (part (SelectPart name arms) ps) = refl

text_alone : (d : ℕ) (ds : List ℕ) (ps : MsgParts) → IsJoined false ps
    → with_text (d ∷ ds) ps ≡ part (TextPart (d ∷ ds)) ps
text_alone d ds no_part h = refl
text_alone d ds (part (TextPart text) ps) h = absurd h
text_alone d ds (part (Placeholder name) ps) h = refl
text_alone d ds (part NumberPart ps) h = refl
text_alone d ds (part (PluralPart ordinal name by exact named) ps) h = refl
text_alone d ds (part (SelectPart name arms) ps) h = refl

-- all parts that were read, as a list
abbrev pub all_parts : List MsgPart × List ℕ → List MsgPart
all_parts l = finished l.0 l.1

read_are : (l : List MsgPart × List ℕ) (ps : MsgParts) → IsJoined true ps
    → parts_of (all_parts (with_parts l ps)) ≡ after_parts l.0 (with_text l.1 ps)
read_are l no_part h = finished_end l.0 l.1
read_are l (part (TextPart []) ps) h = absurd h
read_are l (part (TextPart (d ∷ ds)) ps) h =
    read_are (l.0, l.1 ++ d ∷ ds) ps (joined_weakly ps h)
    ∙ (ap (after_parts l.0) (texts_join l.1 (d ∷ ds) ps) ∙ ap (λ q. after_parts l.0 (with_text l.1 q))
    (text_alone d ds ps h))
read_are l (part (Placeholder name) ps) h =
    read_are (finished l.0 l.1 ++ Placeholder name ∷ [], []) ps h ∙ finished_then l.0 l.1 (Placeholder name) ps tt
read_are l (part NumberPart ps) h =
    read_are (finished l.0 l.1 ++ NumberPart ∷ [], []) ps h ∙ finished_then l.0 l.1 NumberPart ps tt
read_are l (part (PluralPart ordinal name by exact named) ps) h =
    read_are (finished l.0 l.1 ++ PluralPart ordinal name by exact named ∷ [], []) ps h
    ∙ finished_then l.0 l.1 (PluralPart ordinal name by exact named) ps tt
read_are l (part (SelectPart name arms) ps) h =
    read_are (finished l.0 l.1 ++ SelectPart name arms ∷ [], []) ps h
    ∙ finished_then l.0 l.1 (SelectPart name arms) ps tt

-- so parts that are read from nothing are those parts
pub read_is : (ps : MsgParts) → IsJoined true ps → parts_of (all_parts (with_parts ([], []) ps)) ≡ ps
read_is ps h = read_are ([], []) ps h
