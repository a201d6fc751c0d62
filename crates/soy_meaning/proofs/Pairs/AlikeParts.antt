-- What the parts of a translation give is alike where the choices are the same.
use Rattle.std.proofs.Common.{◌≡◌, ℕ, ℤ, pos, Bool, true, false, List, [], ◌∷◌, ◌++◌, Option}
use Rattle.std.proofs.Common.{Some, None, sym, ap, ◌∙◌, subst}
use Rattle.std.specs.Prelude.{◌&&◌, ◌-ℤ◌, codes, is_some}
use Rattle.std.proofs.lemmas.Bool.{and_parts}
use Rattle.soy_base.specs.declared.direction.Dir.{Dir}
use Rattle.plural_rules.specs.declared.category.Category.{Category}
use Rattle.soy_rules.specs.Cost.{cost}
use Rattle.soy_tree.specs.Expressions.{Expr}
use Rattle.soy_tree.specs.MessageParts.{MsgPart, MsgParts, ExactArms, NamedArms, SelectArms, TextPart, Placeholder}
use Rattle.soy_tree.specs.MessageParts.{NumberPart, PluralPart, SelectPart, no_part, part, no_exact_arm, exact_arm}
use Rattle.soy_tree.specs.MessageParts.{no_named_arm, named_arm, no_select_arm, select_arm}
use Rattle.soy_tree.specs.MessageText.{MessageItem, Character, Printed, Cut, TextCut, PrintCut, TagCut}
use Rattle.soy_rules.specs.Placeholders.{Use}
use Rattle.soy_rules.specs.Val.{operand, val}
use Rattle.soy_tree.specs.Values.{IntValue}
use Rattle.soy_pieces.specs.Branch.{PartMeans, arm_means, cut_means, exact_rows, int_of}
use Rattle.soy_pieces.specs.Branch.{named_rows, part_means, parts_means, plural_means, print_means}
use Rattle.soy_pieces.specs.Branch.{select_means, select_of, select_rows, selector, tag_means, word_of}
use Rattle.soy_meaning.specs.Runs.EqualChoices.{AlikeByChoices, BlocksAlike, EnvsAlike}
use Rattle.soy_pieces.specs.Giving.{RunEnv, StateSoFar, printed_means, with_choice}
use Rattle.soy_pieces.specs.Outcome.{ArmTaken, Outcome, choices_of_outcome}
use Rattle.soy_meaning.specs.Runs.PicksValues.{Marks, cut_picks, may_give_block, picks_values, tag_picks, uses_pick}
use Rattle.soy_rules.specs.Placeholders.{placeholder_cut}
use Rattle.soy_meaning.specs.Runs.TranslationFits.{exact_fit, has_other, has_other_word, named_fit, part_fits}
use Rattle.soy_meaning.specs.Runs.TranslationFits.{parts_fit}
use Rattle.soy_meaning.specs.Runs.TranslationFits.{select_fit}
use Rattle.soy_meaning.proofs.Pairs.AlikeBindings.{val_alike}
use Rattle.soy_meaning.proofs.Pairs.AlikeOutcomes.{OnAlike, alike_behind, alike_costs, choice_of, first_choices}
use Rattle.soy_meaning.proofs.Pairs.AlikeOutcomes.{printed_alike, same_arm, text_alike, value_alike}
use Rattle.soy_meaning.proofs.Runs.RunPieces.{spent_same}
use Rattle.soy_meaning.proofs.Pairs.ChosenArms.{AllBy, IsArm, IsChosen, all_more, arms_of, is_some_or}
use Rattle.soy_meaning.proofs.Pairs.ChosenArms.{placeholder_picks}
use Rattle.soy_meaning.proofs.Pairs.ChosenArms.{plural_arm, plural_chosen, plural_found, same_parts, word_arm}
use Rattle.soy_meaning.proofs.Pairs.ChosenArms.{word_chosen}
use Rattle.soy_meaning.proofs.Pairs.ChosenArms.{word_found}

-- ---- the arm of a number

abbrev pub PartsAlike : PartMeans → PartMeans → Type 0
PartsAlike one two = (n q : ℤ) (s t : StateSoFar) (on after : StateSoFar → Outcome) → OnAlike on after
    → AlikeByChoices (one n s on) (two q t after)

-- two chosen arms are of one number
arms_alike : (arms more : List PartMeans) → AllBy PartsAlike arms more → (one two : Option (ℕ × PartMeans))
    → is_some one ≡ true → is_some two ≡ true → IsChosen 0 arms one → IsChosen 0 more two →
    PartsAlike (arm_means one) (arm_means two)
arms_alike arms more alike None two there is h i n q s t on after next = let no : ⊥ = cc in absurd no
arms_alike arms more alike (Some one) None there is h i n q s t on after next = let no : ⊥ = cc in absurd no
arms_alike arms more alike (Some one) (Some two) there is h i n q s t on after next = λ past further e.
    let left : Outcome = one.1 n s on in
    let right : Outcome = two.1 q t after in
    let same : one.0 ≡ two.0 = same_arm one.0 two.0 left right past further e in
    alike_behind (ArmTaken (Some one.0) ∷ []) (with_choice (ArmTaken (Some one.0)) left)
    (with_choice (ArmTaken (Some two.0)) right) left right
    (first_choices (choice_of (ArmTaken (Some one.0))) left)
    (first_choices (choice_of (ArmTaken (Some two.0))) right
    ∙ ap (λ j. ArmTaken (Some j) ∷ choices_of_outcome right) (sym same))
    (spent_same (choice_of (ArmTaken (Some one.0))) left) (spent_same (choice_of (ArmTaken (Some two.0))) right)
    (same_parts PartsAlike 0 one.0 one.1 two.1 arms more alike h
    (subst (λ j. IsArm 0 j two.1 more) (sym same) i) n q s t on after next) past further e

-- ---- translations

module _ (context : Dir) (category_of : Bool → ℤ → Category) (uses : List Use) (marks : Marks) (env other : RunEnv)
    (alike : EnvsAlike marks env other) (picks : uses_pick uses marks ≡ true) where
  print_alike : (e : Expr) → picks_values e marks ≡ true → (s t : StateSoFar) (on after : StateSoFar → Outcome)
      → OnAlike on after → AlikeByChoices (print_means context category_of uses env e s on)
      (print_means context category_of uses other e t after)
  print_alike e values s t on after next =
      alike_costs (cost e env) (cost e other) (printed_means context (val e env) s on)
      (printed_means context (val e other) t after)
      (printed_alike context (may_give_block e marks) (val e env) (val e other)
      (val_alike BlocksAlike marks env other alike e values) s t on after next)

  tag_alike : (text : List ℕ) (tag : List MessageItem) → tag_picks tag marks ≡ true
      → (s t : StateSoFar) (on after : StateSoFar → Outcome) → OnAlike on after →
      AlikeByChoices (tag_means context category_of uses env text tag s on)
      (tag_means context category_of uses other text tag t after)
  tag_alike text [] values s t on after next = text_alike text s t on after next
  tag_alike text (Character c span ∷ rest) values s t on after next =
      tag_alike (text ++ (c ∷ [])) rest values s t on after next
  tag_alike text (Printed e phname span ∷ rest) values s t on after next =
      let parts = and_parts (picks_values e marks) (tag_picks rest marks) values in
      let first : StateSoFar → Outcome = λ past. tag_means context category_of uses env [] rest past on in
      let second : StateSoFar → Outcome = λ past. tag_means context category_of uses other [] rest past after in
      text_alike text s t (λ now. print_means context category_of uses env e now first)
      (λ now. print_means context category_of uses other e now second)
      (λ v w. print_alike e parts.0 v w first second (λ x y. tag_alike [] rest parts.1 x y on after next))

  cut_alike : (cut : Option Cut) → cut_picks cut marks ≡ true
      → (s t : StateSoFar) (on after : StateSoFar → Outcome) → OnAlike on after →
      AlikeByChoices (cut_means context category_of uses env cut s on)
      (cut_means context category_of uses other cut t after)
  cut_alike None values s t on after next = next s t
  cut_alike (Some (TextCut text)) values s t on after next = next s t
  cut_alike (Some (PrintCut e phname span)) values s t on after next = print_alike e values s t on after next
  cut_alike (Some (TagCut tag)) values s t on after next = tag_alike [] tag values s t on after next

  abbrev ExactAlike : ExactArms → Type 0
  ExactAlike arms = AllBy PartsAlike (arms_of (exact_rows context category_of uses env arms))
      (arms_of (exact_rows context category_of uses other arms))

  abbrev NamedAlike : NamedArms → Type 0
  NamedAlike arms = AllBy PartsAlike (arms_of (named_rows context category_of uses env arms))
      (arms_of (named_rows context category_of uses other arms))

  abbrev WordsAlike : SelectArms → Type 0
  WordsAlike arms = AllBy PartsAlike (arms_of (select_rows context category_of uses env arms))
      (arms_of (select_rows context category_of uses other arms))

  plural_alike : (ordinal : Bool) (selects : Option Expr) (offset : ℕ) (exact : ExactArms) (named : NamedArms)
      → is_some selects ≡ true → has_other named ≡ true → ExactAlike exact → NamedAlike named →
      (s t : StateSoFar) (on after : StateSoFar → Outcome) → OnAlike on after →
      AlikeByChoices (plural_means context category_of uses env ordinal selects offset
      (exact_rows context category_of uses env exact) (named_rows context category_of uses env named) s on)
      (plural_means context category_of uses other ordinal selects offset
      (exact_rows context category_of uses other exact) (named_rows context category_of uses other named) t after)
  plural_alike ordinal None offset exact named there has e_alike n_alike s t on after next =
      let no : ⊥ = cc in absurd no
  plural_alike ordinal (Some e) offset exact named there has e_alike n_alike s t on after next =
      let n : ℤ = int_of (operand (val e env)) in
      let q : ℤ = int_of (operand (val e other)) in
      let one : Option (ℕ × PartMeans) = plural_chosen context category_of uses env ordinal n offset exact named in
      let two : Option (ℕ × PartMeans) = plural_chosen context category_of uses other ordinal q offset exact named in
      alike_costs (cost e env) (cost e other) (arm_means one (n -ℤ pos offset) s on)
      (arm_means two (q -ℤ pos offset) t after)
      (arms_alike (arms_of (exact_rows context category_of uses env exact)
      ++ arms_of (named_rows context category_of uses env named))
      (arms_of (exact_rows context category_of uses other exact)
      ++ arms_of (named_rows context category_of uses other named))
      (all_more PartsAlike (arms_of (exact_rows context category_of uses env exact))
      (arms_of (exact_rows context category_of uses other exact))
      (arms_of (named_rows context category_of uses env named))
      (arms_of (named_rows context category_of uses other named)) e_alike n_alike) one two
      (plural_found context category_of uses env ordinal n offset exact named has)
      (plural_found context category_of uses other ordinal q offset exact named has)
      (plural_arm context category_of uses env ordinal n offset exact named)
      (plural_arm context category_of uses other ordinal q offset exact named) (n -ℤ pos offset) (q -ℤ pos offset) s t
      on after next)

  select_alike : (selects : Option Expr) (arms : SelectArms) → is_some selects ≡ true
      → has_other_word arms ≡ true → WordsAlike arms → (s t : StateSoFar) (on after : StateSoFar → Outcome)
      → OnAlike on after →
      AlikeByChoices (select_means context category_of uses env selects
      (select_rows context category_of uses env arms) s on)
      (select_means context category_of uses other selects (select_rows context category_of uses other arms) t after)
  select_alike None arms there has w_alike s t on after next = let no : ⊥ = cc in absurd no
  select_alike (Some e) arms there has w_alike s t on after next =
      let word : List ℕ = word_of (operand (val e env)) in
      let term : List ℕ = word_of (operand (val e other)) in
      let rows : List (List ℕ × PartMeans) = select_rows context category_of uses env arms in
      let lines : List (List ℕ × PartMeans) = select_rows context category_of uses other arms in
      let one : Option (ℕ × PartMeans) = word_chosen context category_of uses env word arms in
      let two : Option (ℕ × PartMeans) = word_chosen context category_of uses other term arms in
      alike_costs (cost e env) (cost e other) (arm_means one (pos 0) s on) (arm_means two (pos 0) t after)
      (arms_alike (arms_of rows) (arms_of lines) w_alike one two
      (is_some_or (select_of word 0 rows) (select_of (codes "other") 0 rows)
      (word_found context category_of uses env arms 0 has))
      (is_some_or (select_of term 0 lines) (select_of (codes "other") 0 lines)
      (word_found context category_of uses other arms 0 has))
      (word_arm context category_of uses env word arms) (word_arm context category_of uses other term arms) (pos 0)
      (pos 0) s t on after next)

  mutual
    part_alike : (p : MsgPart) → part_fits uses p ≡ true
        → PartsAlike (part_means context category_of uses env p) (part_means context category_of uses other p)
    part_alike (TextPart text) fits n q s t on after next = text_alike text s t on after next
    part_alike (Placeholder name) fits n q s t on after next =
        cut_alike (placeholder_cut name uses uses) (placeholder_picks uses marks name uses picks) s t on after next
    part_alike NumberPart fits n q s t on after next =
        value_alike context (IntValue n) (IntValue q) s t on after next
    part_alike (PluralPart ordinal name offset exact named) fits n q s t on after next =
        let parts = and_parts (is_some (selector true name uses uses) && has_other named) (exact_fit uses exact
        && named_fit uses named) fits in
        let head = and_parts (is_some (selector true name uses uses)) (has_other named) parts.0 in
        let rest = and_parts (exact_fit uses exact) (named_fit uses named) parts.1 in
        plural_alike ordinal (selector true name uses uses) offset exact named head.0 head.1
        (exact_alike exact rest.0) (named_alike named rest.1) s t on after next
    part_alike (SelectPart name arms) fits n q s t on after next =
        let parts = and_parts (is_some (selector false name uses uses) && has_other_word arms) (select_fit uses arms)
        fits in
        let head = and_parts (is_some (selector false name uses uses)) (has_other_word arms) parts.0 in
        select_alike (selector false name uses uses) arms head.0 head.1 (words_alike arms parts.1) s t on after next

    pub parts_alike : (ps : MsgParts) → parts_fit uses ps ≡ true
        → PartsAlike (parts_means context category_of uses env ps) (parts_means context category_of uses other ps)
    parts_alike no_part fits n q s t on after next = next s t
    parts_alike (part p ps) fits n q s t on after next =
        let fit = and_parts (part_fits uses p) (parts_fit uses ps) fits in
        part_alike p fit.0 n q s t (λ now. parts_means context category_of uses env ps n now on)
        (λ now. parts_means context category_of uses other ps q now after)
        (λ v w. parts_alike ps fit.1 n q v w on after next)

    exact_alike : (arms : ExactArms) → exact_fit uses arms ≡ true → ExactAlike arms
    exact_alike no_exact_arm fits = tt
    exact_alike (exact_arm m ps arms) fits =
        let fit = and_parts (parts_fit uses ps) (exact_fit uses arms) fits in
        (parts_alike ps fit.0, exact_alike arms fit.1)

    named_alike : (arms : NamedArms) → named_fit uses arms ≡ true → NamedAlike arms
    named_alike no_named_arm fits = tt
    named_alike (named_arm of ps arms) fits =
        let fit = and_parts (parts_fit uses ps) (named_fit uses arms) fits in
        (parts_alike ps fit.0, named_alike arms fit.1)

    words_alike : (arms : SelectArms) → select_fit uses arms ≡ true → WordsAlike arms
    words_alike no_select_arm fits = tt
    words_alike (select_arm word ps arms) fits =
        let fit = and_parts (parts_fit uses ps) (select_fit uses arms) fits in
        (parts_alike ps fit.0, words_alike arms fit.1)
