-- What may follow a `{`, put together to an argument.
use Rattle.std.proofs.Common.{◌≡◌, inl, inr, ℕ, suc, Bool, true, false, List, [], ◌∷◌, ◌++◌, refl, sym}
use Rattle.std.proofs.Common.{◌∙◌, ap, subst, append_assoc}
use Rattle.std.specs.Prelude.{codes}
use Rattle.std.specs.List.{list_all}
use Rattle.soy_base.specs.Characters.{right_brace, comma}
use Rattle.soy_base.specs.Names.{begins_name, continues_name}
use Rattle.soy_base.specs.WhiteSpace.{is_template_space}
use Rattle.soy_tree.specs.MessageParts.{MsgPart, Placeholder, PluralPart, SelectPart}
use Rattle.soy_rules.specs.IcuText as icu
use Rattle.soy_rules.specs.IcuText.{IsArgument, IsSpacedName, IsSpacedKeyword, exact_arms, named_arms, select_arms}
use Rattle.soy_rules.specs.IcuText.{plural_keyword}
use Rattle.icu_text.specs.PatternStates.{Argument}
use Rattle.icu_text.specs.declared.state.ChoiceKind.{ChoiceKind}
use Rattle.icu_text.specs.declared.state.ChoiceKind.TheVariants as choice
use Rattle.icu_text.specs.declared.state.Frame.{Frame}
use Rattle.icu_text.specs.PatternSteps.{with_offset, new_plural, new_select}
use Rattle.icu_text.proofs.CharacterTests.{and_both}
use Rattle.icu_text.proofs.KeptArms.{plural_is, plural_before, plural_other, select_is_part}
use Rattle.icu_text.proofs.KeptArms.{select_before, select_other}
use Rattle.icu_text.proofs.Heads.{kind_word, joined_word}
use Rattle.icu_text.proofs.PatternComplete.{joined_offset}
use Rattle.icu_text.proofs.PatternLeft.{After, Behind, Passed, IsHead, TextLeft, WordsLeft, KeyTail}
use Rattle.icu_text.proofs.PatternLeft.{OpenedLeft, ChoiceLeft, NameTail}

-- white space before an argument

name_after : (c : ℕ) (text name : List ℕ) → is_template_space c ≡ true → IsSpacedName text name
    → IsSpacedName (c ∷ text) name
name_after c text name w s = record {
  before = c ∷ s.before;
  after = s.after;
  white_before = and_both (is_template_space c) (list_all is_template_space s.before) w s.white_before;
  white_after = s.white_after;
  is = s.is;
  whole = ap (λ l. c ∷ l) s.whole;
}

argument_after : {n : ℕ} {text rest : List ℕ} {p : MsgPart} (c : ℕ) → is_template_space c ≡ true
    → IsArgument n text p rest → IsArgument n (c ∷ text) p rest
argument_after c w (icu.placeholder text rest name s) =
    icu.placeholder (c ∷ text) rest name (name_after c text name w s)
argument_after c w (icu.plural text word offset inside rest name ordinal by arms s v o a h) =
    icu.plural (c ∷ text) word offset inside rest name ordinal by arms (name_after c text name w s) v o a h
argument_after c w (icu.select text word inside rest name arms s v a h) =
    icu.select (c ∷ text) word inside rest name arms (name_after c text name w s) v a h

pub head_after : {n : ℕ} {T : List MsgPart × List ℕ → List ℕ → Type 0} {before : List MsgPart} {text : List ℕ} (c : ℕ)
    → is_template_space c ≡ true
    → IsHead n T before text → IsHead n T before (c ∷ text)
head_after c w h = record { argument = h.argument; rest = h.rest; is = argument_after c w h.is; follows = h.follows }

module _ (fs : List Frame) (n : ℕ) (out : List MsgPart) where
  -- after the last white space of a word of choice
  abbrev OpenedTail : Argument → ChoiceKind → List ℕ → Type 0
  OpenedTail a choice.Plural text = KeyTail fs n out true (new_plural false a) text
  OpenedTail a choice.Ordinal text = KeyTail fs n out true (new_plural true a) text
  OpenedTail a choice.Select text = WordsLeft fs n out (new_select a) text

  opened_tail : (a : Argument) (kind : ChoiceKind) (text : List ℕ) → OpenedLeft fs n out a kind text
      → After (OpenedTail a kind) text
  opened_tail a choice.Plural text h = h
  opened_tail a choice.Ordinal text h = h
  opened_tail a choice.Select text h = h

  record IsChoice (a : Argument) (text : List ℕ) : Type 0 where
    kind : ChoiceKind
    word : List ℕ
    tail : List ℕ
    whole : text ≡ word ++ tail
    is : IsSpacedKeyword word (kind_word kind)
    left : OpenedTail a kind tail

  is_choice : (a : Argument) (text : List ℕ) → Behind comma (ChoiceLeft fs n out a) text → IsChoice a text
  is_choice a text b =
      let k = b.left in
      let w = k.left in
      let e = w.left in
      let c = e.left in
      let o = opened_tail a w.kind c.tail c.left in
      record {
        kind = w.kind;
        word = comma ∷ (k.white ++ (kind_word w.kind ++ (e.white ++ comma ∷ o.white)));
        tail = o.tail;
        whole = b.whole ∙ ap (λ l. comma ∷ l)
            (k.whole ∙ (ap (λ l. k.white ++ l) (w.whole ∙ ap (λ l. kind_word w.kind ++ l) (e.whole
            ∙ ap (λ l. e.white ++ l) (c.whole ∙ ap (λ l. comma ∷ l) o.whole)))
            ∙ sym (joined_word k.white (kind_word w.kind) e.white o.white o.tail)));
        is = record {
          before = k.white;
          after = e.white;
          last = o.white;
          white_before = k.is_white;
          white_after = e.is_white;
          white_last = o.is_white;
          whole = refl;
        };
        left = o.left;
      }

  plural_head : (a : Argument) (ordinal : Bool) (text word tail : List ℕ) → IsSpacedName text a.name
      → IsSpacedKeyword word (plural_keyword ordinal)
      → KeyTail fs n out true (new_plural ordinal a) tail
      → IsHead n (TextLeft fs (suc n) out) a.before (text ++ (word ++ tail))
  plural_head a ordinal text word tail s w (inl m) = record {
    argument = PluralPart ordinal a.name 0 (exact_arms [] m.arms) (named_arms [] m.arms);
    rest = m.rest;
    is = icu.plural text word [] tail (right_brace ∷ m.rest) a.name ordinal 0 m.arms s w icu.none m.reads
        (sym (plural_other a ordinal 0 m.arms) ∙ m.other);
    follows = subst (λ q. TextLeft fs (suc n) out (q, []) m.rest)
        (λ i. plural_before (new_plural ordinal a) m.arms i ++ plural_is a ordinal 0 m.arms i ∷ []) m.follows;
  }
  plural_head a ordinal text word tail s w (inr l) =
      let o = l.left in
      let v = o.left in
      let x = v.left in
      let m = x.left in
      let whole : tail ≡ (codes "offset:" ++ (o.white ++ (v.digits ++ x.white))) ++ x.tail =
      l.whole ∙ (ap (λ t. codes "offset:" ++ t)
      (o.whole ∙ ap (λ t. o.white ++ t) (v.whole ∙ ap (λ t. v.digits ++ t) x.whole))
      ∙ sym (joined_offset o.white v.digits x.white x.tail)) in
      record {
        argument = PluralPart ordinal a.name v.value (exact_arms [] m.arms) (named_arms [] m.arms);
        rest = m.rest;
        is = subst (λ t. IsArgument n (text ++ (word ++ t))
            (PluralPart ordinal a.name v.value (exact_arms [] m.arms) (named_arms [] m.arms)) (right_brace ∷ m.rest))
            (sym whole)
            (icu.plural text word (codes "offset:" ++ (o.white ++ (v.digits ++ x.white))) x.tail (right_brace ∷ m.rest)
            a.name ordinal v.value m.arms s w
            (icu.given o.white v.digits x.white v.value o.is_white v.is x.is_white) m.reads
            (sym (plural_other a ordinal v.value m.arms) ∙ m.other));
        follows = subst (λ q. TextLeft fs (suc n) out (q, []) m.rest)
            (λ i. plural_before (with_offset (new_plural ordinal a) v.value) m.arms i ++ plural_is a ordinal v.value
            m.arms i ∷ []) m.follows;
      }

  select_head : (a : Argument) (text word tail : List ℕ) → IsSpacedName text a.name
      → IsSpacedKeyword word (codes "select")
      → WordsLeft fs n out (new_select a) tail → IsHead n (TextLeft fs (suc n) out) a.before (text ++ (word ++ tail))
  select_head a text word tail s w m = record {
    argument = SelectPart a.name (select_arms [] m.arms);
    rest = m.rest;
    is = icu.select text word tail (right_brace ∷ m.rest) a.name m.arms s w m.reads
        (sym (select_other a m.arms) ∙ m.other);
    follows = subst (λ q. TextLeft fs (suc n) out (q, []) m.rest)
        (λ i. select_before (new_select a) m.arms i ++ select_is_part a m.arms i ∷ []) m.follows;
  }

  choice_head : (a : Argument) (text : List ℕ) (kind : ChoiceKind) (word tail : List ℕ) → IsSpacedName text a.name
      → IsSpacedKeyword word (kind_word kind)
      → OpenedTail a kind tail → IsHead n (TextLeft fs (suc n) out) a.before (text ++ (word ++ tail))
  choice_head a text choice.Plural word tail s w h = plural_head a false text word tail s w h
  choice_head a text choice.Ordinal word tail s w h = plural_head a true text word tail s w h
  choice_head a text choice.Select word tail s w h = select_head a text word tail s w h

  head_made : (a : Argument) (text tail : List ℕ) → IsSpacedName text a.name → NameTail fs n out a tail
      → IsHead n (TextLeft fs (suc n) out) a.before (text ++ tail)
  head_made a text tail s (inl b) = record {
    argument = Placeholder a.name;
    rest = b.tail;
    is = subst (λ l. IsArgument n (text ++ l) (Placeholder a.name) (right_brace ∷ b.tail)) (sym b.whole)
        (icu.placeholder text (right_brace ∷ b.tail) a.name s);
    follows = b.left;
  }
  head_made a text tail s (inr b) =
      let k = is_choice a tail b in
      subst (λ l. IsHead n (TextLeft fs (suc n) out) a.before (text ++ l)) (sym k.whole)
      (choice_head a text k.kind k.word k.tail s k.is k.left)

  pub head_left : (before : List MsgPart) (c : ℕ) (text : List ℕ) → begins_name c ≡ true
      → Passed continues_name (c ∷ []) (λ name. After (NameTail fs n out (record { before = before; name = name })))
      text
      → IsHead n (TextLeft fs (suc n) out) before (c ∷ text)
  head_left before c text b p =
      let e = p.left in
      let name : List ℕ = c ∷ p.more in
      let s : IsSpacedName (name ++ e.white) name = record {
        before = [];
        after = e.white;
        white_before = refl;
        white_after = e.is_white;
        is = and_both (begins_name c) (list_all continues_name p.more) b p.passes;
        whole = refl;
      } in
      subst (λ l. IsHead n (TextLeft fs (suc n) out) before l)
      (append_assoc name e.white e.tail ∙ sym (ap (λ l. c ∷ l) (p.whole ∙ ap (λ l. p.more ++ l) e.whole)))
      (head_made (record { before = before; name = name }) (name ++ e.white) e.tail s e.left)
