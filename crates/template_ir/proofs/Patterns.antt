-- In the parts of a pattern numbers stand directly in arms of plurals alone, offsets are ints, and each plural and each
-- select has an arm other.
use Rattle.std.proofs.Common.{◌≡◌, ℕ, suc, ℤ, Bool, true, false, List, [], ◌∷◌, if◌then◌else◌, refl, sym, ap, ◌∙◌}
use Rattle.std.proofs.Common.{subst}
use Rattle.std.specs.Prelude.{bytes_eq, codes, nat_le, ◌||◌}
use Rattle.std.specs.List.{list_any}
use Rattle.std.proofs.lemmas.Bool.{le-leb}
use Rattle.soy_base.specs.Characters.{single_quote}
use Rattle.plural_rules.specs.Category.{is_same}
use Rattle.plural_rules.specs.declared.category.Category.{Category}
use Rattle.plural_rules.specs.declared.category.Category.TheVariants as category
use Rattle.soy_rules.specs.IcuText.{Exact, InPlural, IsArgument, IsOffset, IsPattern, Key, Named, PatternMode}
use Rattle.soy_rules.specs.IcuText.{PluralArms}
use Rattle.soy_rules.specs.IcuText.{AtTop, InSelect, Reads, WordArms, argument, exact_arms, given, is_int_among}
use Rattle.soy_rules.specs.IcuText.{named_arms}
use Rattle.soy_rules.specs.IcuText.{no_more, no_more_words, none, number, placeholder, plain, plural, plural_arm}
use Rattle.soy_rules.specs.IcuText.{quoted}
use Rattle.soy_rules.specs.IcuText.{is_other, select, select_arms, single, stop, two, with_text, word_arm}
use Rattle.soy_base.specs.Limits.{largest}
use Rattle.soy_tree.specs.MessageParts.{MsgPart, MsgParts, ExactArms, NamedArms, SelectArms, TextPart, Placeholder}
use Rattle.soy_tree.specs.MessageParts.{NumberPart, PluralPart, SelectPart, no_part, part, no_exact_arm, exact_arm}
use Rattle.soy_tree.specs.MessageParts.{no_named_arm, named_arm, no_select_arm, select_arm}
use Rattle.soy_tree.proofs.SameNames.{same_name}
use Rattle.soy_meaning.specs.Runs.TranslationFits.{has_other, has_other_word}
use Rattle.soy_meaning.proofs.Typing.CheckedNodes.{same_bytes}

-- by whether a number may stand here
abbrev mutual
  pub IsWhole : Bool → MsgPart → Type 0
  IsWhole here NumberPart = here ≡ true
  IsWhole here (PluralPart ordinal name offset exact named) =
      (nat_le offset largest ≡ true) × ExactWhole exact × NamedWhole named × (has_other named ≡ true)
  IsWhole here (SelectPart name arms) = WordsWhole arms × (has_other_word arms ≡ true)
  IsWhole here _ = Unit {0}

  pub AreWhole : Bool → MsgParts → Type 0
  AreWhole here no_part = Unit {0}
  AreWhole here (part p ps) = IsWhole here p × AreWhole here ps

  pub ExactWhole : ExactArms → Type 0
  ExactWhole no_exact_arm = Unit {0}
  ExactWhole (exact_arm n ps arms) = AreWhole true ps × ExactWhole arms

  pub NamedWhole : NamedArms → Type 0
  NamedWhole no_named_arm = Unit {0}
  NamedWhole (named_arm of ps arms) = AreWhole true ps × NamedWhole arms

  pub WordsWhole : SelectArms → Type 0
  WordsWhole no_select_arm = Unit {0}
  WordsWhole (select_arm word ps arms) = AreWhole false ps × WordsWhole arms

-- what has no number by itself may stand anywhere
pub whole_anywhere : (here : Bool) (ps : MsgParts) → AreWhole false ps → AreWhole here ps
whole_anywhere here no_part h = tt
whole_anywhere here (part (TextPart text) ps) h = (tt, whole_anywhere here ps h.1)
whole_anywhere here (part (Placeholder name) ps) h = (tt, whole_anywhere here ps h.1)
whole_anywhere here (part NumberPart ps) h = let no : ⊥ = cc in absurd no
whole_anywhere here (part (PluralPart ordinal name offset exact named) ps) h = (h.0, whole_anywhere here ps h.1)
whole_anywhere here (part (SelectPart name arms) ps) h = (h.0, whole_anywhere here ps h.1)

-- ---- what reading makes

abbrev may_stand : PatternMode → Bool
may_stand AtTop = false
may_stand InPlural = true
may_stand InSelect = false

text_whole : (here : Bool) (text : List ℕ) (ps : MsgParts) → AreWhole here ps → AreWhole here (with_text text ps)
text_whole here [] ps h = h
text_whole here (c ∷ cs) no_part h = (tt, tt)
text_whole here (c ∷ cs) (part (TextPart text) ps) h = (tt, h.1)
text_whole here (c ∷ cs) (part (Placeholder name) ps) h = (tt, h)
text_whole here (c ∷ cs) (part NumberPart ps) h = (tt, h)
text_whole here (c ∷ cs) (part (PluralPart ordinal name offset exact named) ps) h = (tt, h)
text_whole here (c ∷ cs) (part (SelectPart name arms) ps) h = (tt, h)

abbrev ArmsWhole : List (Key × MsgParts) → Type 0
ArmsWhole [] = Unit {0}
ArmsWhole (arm ∷ arms) = AreWhole true arm.1 × ArmsWhole arms

abbrev WordArmsWhole : List (List ℕ × MsgParts) → Type 0
WordArmsWhole [] = Unit {0}
WordArmsWhole (arm ∷ arms) = AreWhole false arm.1 × WordArmsWhole arms

exact_if : (test : Bool) (n : ℤ) (ps : MsgParts) (one more : ExactArms) → AreWhole true ps → ExactWhole one
    → ExactWhole more → ExactWhole (if test then one else exact_arm n ps more)
exact_if true n ps one more h k j = k
exact_if false n ps one more h k j = (h, j)

exact_whole : (before : List ℤ) (arms : List (Key × MsgParts)) → ArmsWhole arms
    → ExactWhole (exact_arms before arms)
exact_whole before [] h = tt
exact_whole before ((Exact n, ps) ∷ arms) h =
    exact_if (is_int_among n before) n ps (exact_arms before arms) (exact_arms (n ∷ before) arms) h.0
    (exact_whole before arms h.1) (exact_whole (n ∷ before) arms h.1)
exact_whole before ((Named c, ps) ∷ arms) h = exact_whole before arms h.1

named_if : (test : Bool) (c : Category) (ps : MsgParts) (one more : NamedArms) → AreWhole true ps
    → NamedWhole one → NamedWhole more → NamedWhole (if test then one else named_arm c ps more)
named_if true c ps one more h k j = k
named_if false c ps one more h k j = (h, j)

named_whole : (before : List Category) (arms : List (Key × MsgParts)) → ArmsWhole arms
    → NamedWhole (named_arms before arms)
named_whole before [] h = tt
named_whole before ((Exact n, ps) ∷ arms) h = named_whole before arms h.1
named_whole before ((Named c, ps) ∷ arms) h =
    named_if (list_any (is_same c) before) c ps (named_arms before arms) (named_arms (c ∷ before) arms) h.0
    (named_whole before arms h.1) (named_whole (c ∷ before) arms h.1)

word_if : (test : Bool) (word : List ℕ) (ps : MsgParts) (one more : SelectArms) → AreWhole false ps
    → WordsWhole one → WordsWhole more → WordsWhole (if test then one else select_arm word ps more)
word_if true word ps one more h k j = k
word_if false word ps one more h k j = (h, j)

words_whole : (before : List (List ℕ)) (arms : List (List ℕ × MsgParts)) → WordArmsWhole arms
    → WordsWhole (select_arms before arms)
words_whole before [] h = tt
words_whole before (arm ∷ arms) h =
    word_if (list_any (bytes_eq arm.0) before) arm.0 arm.1 (select_arms before arms)
    (select_arms (arm.0 ∷ before) arms) h.0 (words_whole before arms h.1)
    (words_whole (arm.0 ∷ before) arms h.1)

-- ---- the arm other is kept

or_rest : (t u : Bool) → (t || u) ≡ true → t ≡ false → u ≡ true
or_rest false u h e = h
or_rest true u h e = let no : ⊥ = cc in absurd no

other_if : (test : Bool) (c : Category) (ps : MsgParts) (one more : NamedArms) → has_other one ≡ true
    → has_other more ≡ true → has_other (if test then one else named_arm c ps more) ≡ true
other_if true c ps one more h k = h
other_if false c ps one more h k = behind (is_same c category.Other) (has_other more) k
  where
    behind : (t u : Bool) → u ≡ true → (t || u) ≡ true
    behind true u e = refl
    behind false u e = e

other_here : (test : Bool) (ps : MsgParts) (one more : NamedArms) → test ≡ false
    → has_other (if test then one else named_arm category.Other ps more) ≡ true
other_here false ps one more h = refl
other_here true ps one more h = let no : ⊥ = cc in absurd no

other_kept : (before : List Category) (arms : List (Key × MsgParts))
    → list_any (is_same category.Other) before ≡ false → list_any is_other arms ≡ true
    → has_other (named_arms before arms) ≡ true
other_kept before [] free has = let no : ⊥ = cc in absurd no
other_kept before ((Exact n, ps) ∷ arms) free has = other_kept before arms free has
other_kept before ((Named category.Zero, ps) ∷ arms) free has =
    other_if (list_any (is_same category.Zero) before) category.Zero ps (named_arms before arms)
    (named_arms (category.Zero ∷ before) arms) (other_kept before arms free has)
    (other_kept (category.Zero ∷ before) arms free has)
other_kept before ((Named category.One, ps) ∷ arms) free has =
    other_if (list_any (is_same category.One) before) category.One ps (named_arms before arms)
    (named_arms (category.One ∷ before) arms) (other_kept before arms free has)
    (other_kept (category.One ∷ before) arms free has)
other_kept before ((Named category.Two, ps) ∷ arms) free has =
    other_if (list_any (is_same category.Two) before) category.Two ps (named_arms before arms)
    (named_arms (category.Two ∷ before) arms) (other_kept before arms free has)
    (other_kept (category.Two ∷ before) arms free has)
other_kept before ((Named category.Few, ps) ∷ arms) free has =
    other_if (list_any (is_same category.Few) before) category.Few ps (named_arms before arms)
    (named_arms (category.Few ∷ before) arms) (other_kept before arms free has)
    (other_kept (category.Few ∷ before) arms free has)
other_kept before ((Named category.Many, ps) ∷ arms) free has =
    other_if (list_any (is_same category.Many) before) category.Many ps (named_arms before arms)
    (named_arms (category.Many ∷ before) arms) (other_kept before arms free has)
    (other_kept (category.Many ∷ before) arms free has)
other_kept before ((Named category.Other, ps) ∷ arms) free has =
    other_here (list_any (is_same category.Other) before) ps (named_arms before arms)
    (named_arms (category.Other ∷ before) arms) free

abbrev the_other : List ℕ
the_other = codes "other"

word_if_there : (test same : Bool) (word : List ℕ) (ps : MsgParts) (one more : SelectArms)
    → bytes_eq word the_other ≡ same → (same ≡ true → test ≡ false)
    → (same ≡ false → has_other_word one ≡ true) → (same ≡ false → has_other_word more ≡ true)
    → has_other_word (if test then one else select_arm word ps more) ≡ true
word_if_there true true word ps one more e h k j = let no : true ≡ false = h refl in let nothing : ⊥ = cc in absurd
    nothing
word_if_there true false word ps one more e h k j = k refl
word_if_there false true word ps one more e h k j = ap (λ t. t || has_other_word more) e
word_if_there false false word ps one more e h k j = ap (λ t. t || has_other_word more) e ∙ j refl

word_kept : (before : List (List ℕ)) (arms : List (List ℕ × MsgParts)) → list_any (bytes_eq the_other) before ≡ false
    → list_any (λ arm. bytes_eq arm.0 (codes "other")) arms ≡ true → has_other_word (select_arms before arms) ≡ true
word_kept before [] free has = let no : ⊥ = cc in absurd no
word_kept before (arm ∷ arms) free has =
    word_if_there (list_any (bytes_eq arm.0) before) (bytes_eq arm.0 the_other) arm.0 arm.1 (select_arms before arms)
    (select_arms (arm.0 ∷ before) arms) refl
    (λ same. ap (λ w. list_any (bytes_eq w) before) (same_name arm.0 the_other same) ∙ free)
    (λ apart. word_kept before arms free
    (or_rest (bytes_eq arm.0 the_other) (list_any (λ arm. bytes_eq arm.0 (codes "other")) arms) has apart))
    (λ apart. word_kept (arm.0 ∷ before) arms
    (ap (λ t. t || list_any (bytes_eq the_other) before) (same_bytes the_other arm.0 ∙ apart) ∙ free)
    (or_rest (bytes_eq arm.0 the_other) (list_any (λ arm. bytes_eq arm.0 (codes "other")) arms) has apart))

offset_within : (text : List ℕ) (n : ℕ) → IsOffset text n → nat_le n largest ≡ true
offset_within text n none = refl
offset_within text n (given white digits after m is_white number_ is_after) = le-leb m largest number_.within

mutual
  reads_whole : (mode : PatternMode) (n : ℕ) (text rest : List ℕ) (ps : MsgParts) → Reads mode n text ps rest
      → AreWhole (may_stand mode) ps
  reads_whole mode n text rest ps (stop rest_) = tt
  reads_whole mode n text rest ps (plain c more rest_ qs all is r e) =
      subst (AreWhole (may_stand mode)) (sym e)
      (text_whole (may_stand mode) (c ∷ []) qs (reads_whole mode n more rest qs r))
  reads_whole mode n text rest ps (two more rest_ qs all r e) =
      subst (AreWhole (may_stand mode)) (sym e)
      (text_whole (may_stand mode) (single_quote ∷ []) qs (reads_whole mode n more rest qs r))
  reads_whole mode n text rest ps (single more rest_ qs all one other r e) =
      subst (AreWhole (may_stand mode)) (sym e)
      (text_whole (may_stand mode) (single_quote ∷ []) qs (reads_whole mode n more rest qs r))
  reads_whole mode n text rest ps (quoted more chars after rest_ qs all one q r e) =
      subst (AreWhole (may_stand mode)) (sym e)
      (text_whole (may_stand mode) chars qs (reads_whole mode n after rest qs r))
  reads_whole mode n text rest ps (number more rest_ qs r) = (refl, reads_whole InPlural n more rest qs r)
  reads_whole mode n text rest ps (argument {n = m} more after rest_ p qs a r) =
      (argument_whole (may_stand mode) m more _ p a, reads_whole mode (suc m) after rest qs r)

  argument_whole : (here : Bool) (n : ℕ) (text rest : List ℕ) (p : MsgPart) → IsArgument n text p rest
      → IsWhole here p
  argument_whole here n text rest p (placeholder more rest_ name is) = tt
  argument_whole here n text rest p (plural more middle offset inside rest_ name ordinal by arms is word by_is all
      has) =
      let read : ArmsWhole arms = arms_whole n inside rest arms all in
      (offset_within offset by by_is, exact_whole [] arms read, named_whole [] arms read, other_kept [] arms refl has)
  argument_whole here n text rest p (select more middle inside rest_ name arms is word all has) =
      (words_whole [] arms (word_arms_whole n inside rest arms all), word_kept [] arms refl has)

  arms_whole : (n : ℕ) (text rest : List ℕ) (arms : List (Key × MsgParts)) → PluralArms n text arms rest
      → ArmsWhole arms
  arms_whole n text rest arms (no_more rest_) = tt
  arms_whole n text rest arms (plural_arm more white inside after text_ rest_ key ps others is w r w_ all) =
      (reads_whole InPlural n inside _ ps r, arms_whole n text_ rest others all)

  word_arms_whole : (n : ℕ) (text rest : List ℕ) (arms : List (List ℕ × MsgParts)) → WordArms n text arms rest
      → WordArmsWhole arms
  word_arms_whole n text rest arms (no_more_words rest_) = tt
  word_arms_whole n text rest arms (word_arm word white inside after text_ rest_ ps others is w r w_ all) =
      (reads_whole InSelect n inside _ ps r, word_arms_whole n text_ rest others all)

pub pattern_whole : (text : List ℕ) (ps : MsgParts) → IsPattern text ps → AreWhole false ps
pattern_whole text ps r = reads_whole AtTop 64 text [] ps r
