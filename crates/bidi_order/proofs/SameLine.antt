-- The limit is kept in both lines or in neither, and lines of cleaned values keep the order.
use Rattle.std.proofs.Common.{◌≡◌, ℕ, ◌+◌, ◌<◌, true, false, not, ◌&&◌, ◌||◌, inl, inr, List, [], ◌∷◌, ◌++◌, map}
use Rattle.std.proofs.Common.{refl, length, length-append, append_assoc, get_or, arith}
use Rattle.std.proofs.Common.{sym, ap, subst, ◌∙◌}
use Rattle.std.specs.List.{flat_map, enumerate_from}
use Rattle.std.proofs.lemmas.Bool.{cond-true, cond-false, cases_Bool, both_ways, and_parts}
use Rattle.std.proofs.lemmas.List.{map-append, get_or_at}
use Rattle.bidi_class.specs.declared.class.Class.{Class}
use Rattle.bidi_class.specs.declared.class.Class.TheVariants.{S}
use Rattle.bidi_class.specs.Class.{bidi_class}
use Rattle.bidi_class.specs.Pairs.{is_initiator}
use Rattle.bidi_text.specs.Clean.{cleaned_text, cleaned_character, is_dropped, is_separator, spaced}
use Rattle.bidi_order.specs.DirectionalStatus.{DirectionalStatus, initial_status, status_after, is_within_depth}
use Rattle.bidi_order.specs.Explicit.{act_of_character, status_before}
use Rattle.bidi_order.specs.Reset.{ResetKind, reset_kind}
use Rattle.bidi_order.specs.Reset.ResetKind.{Separator, Whitespace, Removed, Text}
use Rattle.bidi_order.specs.Levels.{line_levels}
use Rattle.bidi_order.specs.VisualOrder.{is_left_of}
use Rattle.bidi_order.specs.WithinLimit.{LabelledCharacter, line_characters, value_character, value_characters}
use Rattle.bidi_order.specs.WithinLimit.{is_within_from, is_within_limit}
use Rattle.bidi_order.specs.TwoLines.{Both, one_line, other_line, is_surrounding, one_labelled, other_labelled}
use Rattle.bidi_order.specs.TwoLines.{HoldsCleaned, ComparedLines, whole_line, are_surrounding, one_character}
use Rattle.bidi_order.specs.TwoLines.{one_after, one_before, other_after, other_before, other_character, one_first}
use Rattle.bidi_order.specs.TwoLines.{one_second, other_first, other_second}
use Rattle.bidi_order.specs.TwoLines.Both.{Shared, Values}
use Rattle.bidi_order.proofs.RestoredStatus.{Matched, Value, value, act_of_class-same}
use Rattle.bidi_order.proofs.AroundValues.{closing-pdi, initiator-starts}
use Rattle.bidi_order.proofs.CleanedMatched.{Matched-cleaned}
use Rattle.bidi_order.proofs.ResetOrder.{has_separator}
use Rattle.bidi_order.proofs.SameOrder.{kinds, Held, Limited, Alike-both}
use Rattle.bidi_order.proofs.ChosenParts.{chosen_order, one_line-line, other_line-line}
use Rattle.bidi_order.proofs.KeptCharacters.{HasLevel, HasLevel-surrounding}
use Rattle.bidi_order.proofs.LeastLevel.{is_left_of-contrary}
use Rattle.bidi_order.proofs.SameOrder.Held.{held_end, held_shared, held_value}
use Rattle.bidi_order.proofs.SameOrder.Limited.{limited_end, limited_shared, limited_value}

-- the characters of a line with its labels
line_characters-one_line : (line : List Both) → line_characters (one_labelled line) ≡ one_line line
line_characters-one_line [] = refl
line_characters-one_line (Shared c ∷ line) = ap (λ l. c ∷ l) (line_characters-one_line line)
line_characters-one_line (Values k i j v w ∷ line) =
    ap (λ l. i ∷ l) (map-append (λ (m : LabelledCharacter). m.character)
    (map (value_character k) v ++ value_character k 0x2069 ∷ []) (one_labelled line)
    ∙ ap (λ l. line_characters (map (value_character k) v ++ value_character k 0x2069 ∷ []) ++ l)
    (line_characters-one_line line)
    ∙ inside v)
  where
    inside : (v : List ℕ) → line_characters (map (value_character k) v ++ value_character k 0x2069 ∷ []) ++ one_line
        line ≡ v ++ 0x2069 ∷ one_line line
    inside [] = refl
    inside (c ∷ v) = ap (λ l. c ∷ l) (inside v)

line_characters-other_line : (line : List Both) → line_characters (other_labelled line) ≡ other_line line
line_characters-other_line [] = refl
line_characters-other_line (Shared c ∷ line) = ap (λ l. c ∷ l) (line_characters-other_line line)
line_characters-other_line (Values k i j v w ∷ line) =
    ap (λ l. j ∷ l) (map-append (λ (m : LabelledCharacter). m.character)
    (map (value_character k) w ++ value_character k 0x2069 ∷ []) (other_labelled line)
    ∙ ap (λ l. line_characters (map (value_character k) w ++ value_character k 0x2069 ∷ []) ++ l)
    (line_characters-other_line line)
    ∙ inside w)
  where
    inside : (v : List ℕ) → line_characters (map (value_character k) v ++ value_character k 0x2069 ∷ []) ++ other_line
        line ≡ v ++ 0x2069 ∷ other_line line
    inside [] = refl
    inside (c ∷ v) = ap (λ l. c ∷ l) (inside v)

-- inside a value nothing is asked of the limit
through : (n : ℕ) (v : List ℕ) (s : DirectionalStatus) (rest : List LabelledCharacter)
    → is_within_from s ((map (value_character n) v ++ value_character n 0x2069 ∷ []) ++ rest)
    ≡ is_within_from (status_after (act_of_character 0x2069 (line_characters rest))
    (status_before s v (0x2069 ∷ line_characters rest))) rest
through n [] s rest = refl
through n (c ∷ v) s rest =
    ap (λ cs. is_within_from (status_after (act_of_character c cs) s)
    ((map (value_character n) v ++ value_character n 0x2069 ∷ []) ++ rest)) (chars v)
    ∙ through n v (status_after (act_of_character c (v ++ 0x2069 ∷ line_characters rest)) s) rest
  where
    chars : (v : List ℕ) → line_characters ((map (value_character n) v ++ value_character n 0x2069 ∷ []) ++ rest)
        ≡ v ++ 0x2069 ∷ line_characters rest
    chars [] = refl
    chars (c ∷ v) = ap (λ l. c ∷ l) (chars v)

-- the limit from a value on
from_value : (n i : ℕ) (v : List ℕ) (s : DirectionalStatus) (rest : List LabelledCharacter) → is_initiator i ≡ true
    → Matched 0 v
    → is_within_from s (value_characters n i v ++ rest) ≡ is_within_depth s && is_within_from s rest
from_value n i v s rest si mv =
    elim (cases_Bool (is_within_depth s)) [
      | inl room ↦
          let gives : Value s i 0x2069 v (line_characters rest) = value s i 0x2069 v (line_characters rest) si
          closing-pdi mv room in
          ap (λ b. b && is_within_from (status_after (act_of_character i (line_characters inner)) s) inner) room
          ∙ ap (λ cs. is_within_from (status_after (act_of_character i cs) s) inner) (chars v)
          ∙ through n v (status_after (act_of_character i (v ++ 0x2069 ∷ line_characters rest)) s) rest
          ∙ ap (λ s. is_within_from s rest) gives.restored
          ∙ sym (ap (λ b. b && is_within_from s rest) room)
      | inr full ↦ ap (λ b. b && is_within_from (status_after (act_of_character i (line_characters inner)) s) inner)
          full ∙ sym (ap (λ b. b && is_within_from s rest) full)
    ]
  where
    inner : List LabelledCharacter
    inner = (map (value_character n) v ++ value_character n 0x2069 ∷ []) ++ rest

    chars : (v : List ℕ) → line_characters ((map (value_character n) v ++ value_character n 0x2069 ∷ []) ++ rest)
        ≡ v ++ 0x2069 ∷ line_characters rest
    chars [] = refl
    chars (c ∷ v) = ap (λ l. c ∷ l) (chars v)

-- what values hold is cleaned
not_separator : (k : Class) → is_separator k ≡ false → has_separator (reset_kind k ∷ []) ≡ false
not_separator S h = absurd (both_ways _ h refl)
not_separator _ h = refl

space-kind : has_separator (reset_kind (bidi_class 32) ∷ []) ≡ false
unfolding bidi_class
space-kind = refl

spaced-kind : (c : ℕ) → has_separator (reset_kind (bidi_class (spaced c)) ∷ []) ≡ false
spaced-kind c =
    elim (cases_Bool (is_separator (bidi_class c))) [
      | inl is ↦ ap (λ d. has_separator (reset_kind (bidi_class d) ∷ [])) (cond-true _ _ _ is) ∙ space-kind
      | inr other ↦ ap (λ d. has_separator (reset_kind (bidi_class d) ∷ [])) (cond-false _ _ _ other)
          ∙ not_separator (bidi_class c) other
    ]

no_separators : (kind : ResetKind) (ss : List ResetKind) → has_separator (kind ∷ []) ≡ false
    → has_separator ss ≡ false → has_separator (kind ∷ ss) ≡ false
no_separators Separator ss h g = h
no_separators Whitespace ss h g = g
no_separators Removed ss h g = g
no_separators Text ss h g = g

cleaned-kinds : (text : List ℕ) (n : ℕ) (cs : List ℕ)
    → has_separator (kinds (flat_map (cleaned_character text) (enumerate_from n cs))) ≡ false
cleaned-kinds text n [] = refl
cleaned-kinds text n (c ∷ cs) =
    let rest : List ℕ = flat_map (cleaned_character text) (enumerate_from (n + 1) cs) in
    elim (cases_Bool (is_dropped text (n, c))) [
      | inl out ↦ ap (λ l. has_separator (kinds (l ++ rest))) (cond-true _ _ _ out) ∙ cleaned-kinds text (n + 1) cs
      | inr kept ↦ ap (λ l. has_separator (kinds (l ++ rest))) (cond-false _ _ _ kept)
          ∙ no_separators (reset_kind (bidi_class (spaced c))) (kinds rest) (spaced-kind c)
          (cleaned-kinds text (n + 1) cs)
    ]

pub kinds-cleaned : (text : List ℕ) → has_separator (kinds (cleaned_text text)) ≡ false
kinds-cleaned text = cleaned-kinds text 0 text

Matched-held : (v : List ℕ) → cleaned_text v ≡ v → Matched 0 v
Matched-held v e = subst (Matched 0) e (Matched-cleaned v)

kinds-held : (v : List ℕ) → cleaned_text v ≡ v → has_separator (kinds v) ≡ false
kinds-held v e = subst (λ l. has_separator (kinds l) ≡ false) e (cleaned-kinds v 0 v)

pub Held-cleaned : (line : List Both) → HoldsCleaned line → Held line
Held-cleaned [] h = held_end
Held-cleaned (Shared c ∷ line) h = held_shared (Held-cleaned line h)
Held-cleaned (Values k i j v w ∷ line) h =
    held_value (initiator-starts i h.0.0) (initiator-starts j h.0.1) (Matched-held v h.0.2) (Matched-held w h.0.3)
    (kinds-held v h.0.2) (kinds-held w h.0.3) (Held-cleaned line h.1)

Limited-from : (s : DirectionalStatus) (line : List Both) → Held line → is_within_from s (one_labelled line)
    ≡ true → Limited s line
Limited-from s [] h l = limited_end
Limited-from s (Shared c ∷ line) (held_shared h) l =
    limited_shared (Limited-from (status_after (act_of_character c (one_line line)) s) line h
    (subst (λ cs. is_within_from (status_after (act_of_character c cs) s) (one_labelled line) ≡ true)
    (line_characters-one_line line)
    (and_parts (not false || is_within_depth s)
    (is_within_from (status_after (act_of_character c (line_characters (one_labelled line))) s)
    (one_labelled line)) l).1))
Limited-from s (Values k i j v w ∷ line) (held_value bi bj mv mw sv sw h) l =
    let parts = and_parts (is_within_depth s) (is_within_from s (one_labelled line))
    (sym (from_value k i v s (one_labelled line) bi mv) ∙ l) in
    limited_value parts.0 (Limited-from s line h parts.1)

-- the limit is kept in both lines or in neither
same_limit : (s : DirectionalStatus) (line : List Both) → Held line → is_within_from s (one_labelled line)
    ≡ is_within_from s (other_labelled line)
same_limit s [] h = refl
same_limit s (Shared c ∷ line) (held_shared h) =
    ap (λ cs. is_within_from (status_after (act_of_character c cs) s) (one_labelled line))
    (line_characters-one_line line)
    ∙ ap (λ a. is_within_from (status_after a s) (one_labelled line))
    (act_of_class-same (bidi_class c) (map bidi_class (one_line line)) (map bidi_class (other_line line))
    (Alike-both line h 0))
    ∙ same_limit (status_after (act_of_character c (other_line line)) s) line h
    ∙ ap (λ cs. is_within_from (status_after (act_of_character c cs) s) (other_labelled line))
    (sym (line_characters-other_line line))
same_limit s (Values k i j v w ∷ line) (held_value bi bj mv mw sv sw h) =
    from_value k i v s (one_labelled line) bi mv
    ∙ ap (λ b. is_within_depth s && b) (same_limit s line h)
    ∙ sym (from_value k j w s (other_labelled line) bj mw)

pub within_both : (base : ℕ) (line : List Both) → HoldsCleaned line → is_within_limit base (one_labelled line)
    ≡ is_within_limit base (other_labelled line)
unfolding is_within_limit
within_both base line h = same_limit (initial_status base) line (Held-cleaned line h)

-- a surrounding character at its index in a line
at-character : (a : List ℕ) (x : ℕ) (b : List ℕ) → (length a < length (a ++ x ∷ b))
    × (get_or (a ++ x ∷ b) (length a) 0 ≡ x)
at-character a x b = (omega (arith, length-append a (x ∷ b)), get_or_at a x b 0 (length a) refl)

-- the order of two surrounding characters of a line the other way
contrary : (base : ℕ) (a : List ℕ) (x : ℕ) (m : List ℕ) (y : ℕ) (b : List ℕ) → is_surrounding (bidi_class x) ≡ true
    → is_surrounding (bidi_class y) ≡ true
    → is_left_of (line_levels base (a ++ x ∷ (m ++ y ∷ b))) (length a + 1 + length m) (length a)
    ≡ not (is_left_of (line_levels base (a ++ x ∷ (m ++ y ∷ b))) (length a) (length a + 1 + length m))
contrary base a x m y b sx sy =
    let line : List ℕ = a ++ x ∷ (m ++ y ∷ b) in
    let regrouped : (a ++ x ∷ m) ++ y ∷ b ≡ line = append_assoc a (x ∷ m) (y ∷ b) in
    let at_x = at-character a x (m ++ y ∷ b) in
    let at_y = at-character (a ++ x ∷ m) y b in
    let long : length (a ++ x ∷ m) ≡ length a + 1 + length m = omega (arith, length-append a (x ∷ m)) in
    let first : HasLevel (line_levels base line) (length a) = HasLevel-surrounding base line (length a) at_x.0
    (subst (λ c. is_surrounding (bidi_class c) ≡ true) (sym at_x.1) sx) in
    let second : HasLevel (line_levels base line) (length a + 1 + length m) =
    subst (HasLevel (line_levels base line)) long (subst (λ l. HasLevel (line_levels base l) (length (a ++ x ∷ m)))
    regrouped (HasLevel-surrounding base ((a ++ x ∷ m) ++ y ∷ b) (length (a ++ x ∷ m)) at_y.0
    (subst (λ c. is_surrounding (bidi_class c) ≡ true) (sym at_y.1) sy))) in
    is_left_of-contrary (line_levels base line) (length a) (length a + 1 + length m) first.0 second.0 (omega arith)
    first.1 second.1

-- the characters that are compared are surrounding on both lines
record AreSurrounding (c : ComparedLines) : Type 0 where
  one_first_is : is_surrounding (bidi_class (one_character c.first)) ≡ true
  other_first_is : is_surrounding (bidi_class (other_character c.first)) ≡ true
  one_second_is : is_surrounding (bidi_class (one_character c.second)) ≡ true
  other_second_is : is_surrounding (bidi_class (other_character c.second)) ≡ true

surrounding-parts : (c : ComparedLines) → are_surrounding c ≡ true → AreSurrounding c
surrounding-parts c surround =
    let both = and_parts (is_surrounding (bidi_class (one_character c.first))
    && is_surrounding (bidi_class (other_character c.first)))
    (is_surrounding (bidi_class (one_character c.second))
    && is_surrounding (bidi_class (other_character c.second))) surround in
    let one = and_parts (is_surrounding (bidi_class (one_character c.first)))
    (is_surrounding (bidi_class (other_character c.first))) both.0 in
    let two = and_parts (is_surrounding (bidi_class (one_character c.second)))
    (is_surrounding (bidi_class (other_character c.second))) both.1 in
    record {
      one_first_is = one.0;
      other_first_is = one.1;
      one_second_is = two.0;
      other_second_is = two.1;
    }

pub compared_order : (base : ℕ) (c : ComparedLines) → HoldsCleaned (whole_line c) → are_surrounding c ≡ true
    → is_within_limit base (one_labelled (whole_line c)) ≡ true
    → is_left_of (line_levels base (one_line (whole_line c))) (one_first c) (one_second c)
    ≡ is_left_of (line_levels base (other_line (whole_line c))) (other_first c) (other_second c)
unfolding is_within_limit
compared_order base c h surround limit =
    let are : AreSurrounding c = surrounding-parts c surround in
    let held : Held (whole_line c) = Held-cleaned (whole_line c) h in
    chosen_order base c.prefix c.first c.mid c.second c.suffix are.one_first_is are.other_first_is are.one_second_is
    are.other_second_is held (Limited-from (initial_status base) (whole_line c) held limit)

-- the same the other way
one-contrary : (base : ℕ) (c : ComparedLines) → are_surrounding c ≡ true
    → is_left_of (line_levels base (one_line (whole_line c))) (one_second c) (one_first c)
    ≡ not (is_left_of (line_levels base (one_line (whole_line c))) (one_first c) (one_second c))
one-contrary base c surround =
    let are : AreSurrounding c = surrounding-parts c surround in
    subst (λ line. is_left_of (line_levels base line) (one_second c) (one_first c)
    ≡ not (is_left_of (line_levels base line) (one_first c) (one_second c)))
    (sym (one_line-line c.prefix c.first c.mid c.second c.suffix))
    (contrary base (one_line c.prefix ++ one_before c.first) (one_character c.first)
    (one_after c.first ++ (one_line c.mid ++ one_before c.second)) (one_character c.second)
    (one_after c.second ++ one_line c.suffix) are.one_first_is are.one_second_is)

pub other-contrary : (base : ℕ) (c : ComparedLines) → are_surrounding c ≡ true
    → is_left_of (line_levels base (other_line (whole_line c))) (other_second c) (other_first c)
    ≡ not (is_left_of (line_levels base (other_line (whole_line c))) (other_first c) (other_second c))
other-contrary base c surround =
    let are : AreSurrounding c = surrounding-parts c surround in
    subst (λ line. is_left_of (line_levels base line) (other_second c) (other_first c)
    ≡ not (is_left_of (line_levels base line) (other_first c) (other_second c)))
    (sym (other_line-line c.prefix c.first c.mid c.second c.suffix))
    (contrary base (other_line c.prefix ++ other_before c.first) (other_character c.first)
    (other_after c.first ++ (other_line c.mid ++ other_before c.second)) (other_character c.second)
    (other_after c.second ++ other_line c.suffix) are.other_first_is are.other_second_is)

pub compared_order_back : (base : ℕ) (c : ComparedLines) → HoldsCleaned (whole_line c) → are_surrounding c ≡ true
    → is_within_limit base (one_labelled (whole_line c)) ≡ true
    → is_left_of (line_levels base (one_line (whole_line c))) (one_second c) (one_first c)
    ≡ is_left_of (line_levels base (other_line (whole_line c))) (other_second c) (other_first c)
compared_order_back base c h surround limit =
    one-contrary base c surround ∙ ap not (compared_order base c h surround limit)
    ∙ sym (other-contrary base c surround)

-- a line compared with itself: any two characters of a value stand alike to a third one
pub compared_block : (base : ℕ) (c : ComparedLines) → HoldsCleaned (whole_line c) → are_surrounding c ≡ true
    → is_within_limit base (one_labelled (whole_line c)) ≡ true → one_line (whole_line c) ≡ other_line (whole_line c)
    → is_left_of (line_levels base (one_line (whole_line c))) (one_first c) (one_second c)
    ≡ is_left_of (line_levels base (one_line (whole_line c))) (other_first c) (other_second c)
compared_block base c h surround limit same =
    compared_order base c h surround limit
    ∙ ap (λ line. is_left_of (line_levels base line) (other_first c) (other_second c)) (sym same)
