-- Two runs of a translation side by side.
use Rattle.std.proofs.Common.{◌≡◌, ℕ, ℤ, pos, Bool, true, false, List, [], ◌∷◌, ◌++◌, inl, inr, Option, Some, None}
use Rattle.std.proofs.Common.{refl}
use Rattle.std.proofs.Common.{sym, ap, subst}
use Rattle.std.specs.Prelude.{◌&&◌, ◌-ℤ◌, codes, is_some}
use Rattle.std.proofs.lemmas.Bool.{and_parts}
use Rattle.soy_base.specs.declared.direction.Dir.{Dir}
use Rattle.soy_base.specs.declared.place.ValueClass.TheVariants as class
use Rattle.soy_base.specs.Piece.{Piece}
use Rattle.plural_rules.specs.declared.category.Category.{Category}
use Rattle.soy_rules.specs.Cost.{cost}
use Rattle.soy_tree.specs.Expressions.{Expr}
use Rattle.soy_tree.specs.MessageParts.{MsgPart, MsgParts, ExactArms, NamedArms, SelectArms, TextPart, Placeholder}
use Rattle.soy_tree.specs.MessageParts.{NumberPart, PluralPart, SelectPart, no_part, part, no_exact_arm, exact_arm}
use Rattle.soy_tree.specs.MessageParts.{no_named_arm, named_arm, no_select_arm, select_arm}
use Rattle.soy_tree.specs.MessageText.{MessageItem, Character, Printed, Cut, TextCut, PrintCut, TagCut}
use Rattle.soy_rules.specs.Placeholders.{Use}
use Rattle.soy_rules.specs.TypeOf.{Scope}
use Rattle.soy_rules.specs.Val.{operand, val}
use Rattle.soy_tree.specs.Values.{IntValue}
use Rattle.soy_pieces.specs.Branch.{PartMeans, arm_means, cut_means, exact_rows, int_of, named_rows, part_means}
use Rattle.soy_pieces.specs.Branch.{parts_means, plural_means, print_means, select_means, select_of, select_rows}
use Rattle.soy_pieces.specs.Branch.{selector, tag_means, word_of}
use Rattle.soy_meaning.specs.Runs.EqualChoices.{EnvsBy}
use Rattle.soy_meaning.specs.Runs.FrameRun.{FrameRun}
use Rattle.soy_meaning.specs.Runs.GivenAt.{HasPlaceholderOf, cut_prints, tag_prints}
use Rattle.soy_pieces.specs.Giving.{RunEnv, StateSoFar, printed_means}
use Rattle.soy_pieces.specs.Outcome.{ArmTaken, Outcome}
use Rattle.soy_meaning.specs.Paths.PathParts.{HolePart, PathPart, both, empty_path, hole}
use Rattle.soy_meaning.specs.Runs.PicksValues.{Marks, cut_picks, may_give_block, picks_values, tag_picks, uses_pick}
use Rattle.soy_pieces.specs.Pieces.{RunContext}
use Rattle.soy_meaning.specs.Paths.Plan.{Hole, Plan, Then}
use Rattle.soy_pieces.specs.Site.{Site}
use Rattle.soy_meaning.specs.Paths.PlanOfParts.{cut_plan, exact_plans, named_plans, part_plan, parts_plan}
use Rattle.soy_rules.specs.Placeholders.{placeholder_cut}
use Rattle.soy_meaning.specs.Paths.PlanOfParts.{printed_classes, select_arm_plans, tag_plan, text_plan}
use Rattle.soy_meaning.specs.Walks.States.{IsMember}
use Rattle.soy_meaning.specs.Runs.TranslationFits.{exact_fit, has_other, has_other_word, named_fit, part_fits}
use Rattle.soy_meaning.specs.Runs.TranslationFits.{parts_fit}
use Rattle.soy_meaning.specs.Runs.TranslationFits.{select_fit}
use Rattle.soy_meaning.proofs.Pairs.AlikeBindings.{val_alike}
use Rattle.soy_meaning.proofs.Pairs.AlikeOutcomes.{same_arm}
use Rattle.soy_meaning.proofs.Pairs.ChosenArms.{AllBy, IsArm, IsChosen, all_more, arms_of, is_some_or}
use Rattle.soy_meaning.proofs.Pairs.ChosenArms.{placeholder_picks}
use Rattle.soy_meaning.proofs.Pairs.ChosenArms.{plural_arm, plural_chosen, plural_found, same_parts, word_arm}
use Rattle.soy_meaning.proofs.Pairs.ChosenArms.{word_chosen}
use Rattle.soy_meaning.proofs.Pairs.ChosenArms.{word_found}
use Rattle.soy_meaning.proofs.Runs.Goings.{GivesBlocks, HasClass}
use Rattle.soy_meaning.proofs.Members.{mem_left, mem_right}
use Rattle.soy_meaning.proofs.Pairs.NestOutcomes.{AnyStop, At, Behind, HasSome, Joins, OnTwin, TwinBlocks, TwinBy}
use Rattle.soy_meaning.proofs.Pairs.NestOutcomes.{has_behind, joins_arm, joins_behind, joins_then, twin_costs}
use Rattle.soy_meaning.proofs.Pairs.NestOutcomes.{twin_printed}
use Rattle.soy_meaning.proofs.Pairs.NestOutcomes.{twin_same, twin_text, twin_value, twin_wider}
use Rattle.soy_meaning.proofs.Paths.SomePaths.{parts_path, tag_path}

module _ (c : RunContext) (whole : Plan) (Claim : Type 0) (q p : FrameRun) (uses : List Use) (scope : Scope)
    (at : Site) (marks : Marks) (env other : RunEnv) (alike : EnvsBy (TwinBlocks c whole Claim) marks env other)
    (picks : uses_pick uses marks ≡ true)
    (given : (e : Expr) → HasPlaceholderOf uses e → GivesBlocks c whole Claim AnyStop q at (val e env))
    (also : (e : Expr) → HasPlaceholderOf uses e → GivesBlocks c whole Claim AnyStop p at (val e other))
    (has : Claim → (e : Expr) → HasPlaceholderOf uses e → HasClass (val e env) (printed_classes e scope))
    (also_has : Claim → (e : Expr) → HasPlaceholderOf uses e → HasClass (val e other) (printed_classes e scope)) where
  abbrev context : Dir
  context = c.direction

  abbrev category_of : Bool → ℤ → Category
  category_of = c.category

  abbrev First : List Piece → StateSoFar
  First before = At c whole Claim q before

  abbrev Second : List Piece → StateSoFar
  Second after = At c whole Claim p after

  abbrev By : (List PathPart → Type 0) → List Piece → List Piece → Outcome → Outcome → Type 0
  By P before after o two = TwinBy c whole Claim q p P before after o two

  abbrev On : (List PathPart → Type 0) → (StateSoFar → Outcome) → (StateSoFar → Outcome) → Type 0
  On P on following = OnTwin c whole Claim q p P on following

  -- ---- placeholders

  abbrev IsPrintedRight : Expr → Type 0
  IsPrintedRight e =
      GivesBlocks c whole Claim AnyStop q at (val e env) × GivesBlocks c whole Claim AnyStop p at (val e other)
      × (Claim → HasClass (val e env) (printed_classes e scope))
      × (Claim → HasClass (val e other) (printed_classes e scope))

  abbrev AllRight : List Expr → Type 0
  AllRight es = (e : Expr) → IsMember e es → IsPrintedRight e

  print_twin : (e : Expr) → picks_values e marks ≡ true → IsPrintedRight e → (P Q : List PathPart → Type 0)
      → HasSome P → ((l : List PathPart) → P l → Q (HolePart at (printed_classes e scope) ∷ l))
      → (before after : List Piece) (on following : StateSoFar → Outcome) → On P on following →
      By Q before after (print_means context category_of uses env e (First before) on)
      (print_means context category_of uses other e (Second after) following)
  print_twin e values right P Q some into before after on following twin =
      twin_costs c whole Claim q p Q before after (cost e env) (cost e other)
      (printed_means context (val e env) (First before) on) (printed_means context (val e other) (Second after)
      following) (twin_printed c whole Claim q p P Q at (printed_classes e scope) (may_give_block e marks) (val e env)
      (val e other) (val_alike (TwinBlocks c whole Claim) marks env other alike e values) right.0 right.1 right.2
      right.3 some into before after on following twin)

  tag_twin : (text : List ℕ) (tag : List MessageItem) → tag_picks tag marks ≡ true → AllRight (tag_prints tag)
      → (P Q : List PathPart → Type 0) → HasSome P → Joins (tag_plan scope at text tag) P Q
      → (before after : List Piece) (on following : StateSoFar → Outcome) → On P on following →
      By Q before after (tag_means context category_of uses env text tag (First before) on)
      (tag_means context category_of uses other text tag (Second after) following)
  tag_twin text [] values all P Q some joins before after on following twin =
      twin_text c whole Claim q p P Q at text joins before after on following twin
  tag_twin text (Character code span ∷ rest) values all P Q some joins before after on following twin =
      tag_twin (text ++ (code ∷ [])) rest values all P Q some joins before after on following twin
  tag_twin text (Printed e phname span ∷ rest) values all P Q some joins before after on following twin =
      let parts = and_parts (picks_values e marks) (tag_picks rest marks) values in
      let tail : Plan = tag_plan scope at [] rest in
      let print : Plan = Hole at (printed_classes e scope) in
      let first : StateSoFar → Outcome = λ past. tag_means context category_of uses env [] rest past on in
      let second : StateSoFar → Outcome = λ past. tag_means context category_of uses other [] rest past following in
      twin_text c whole Claim q p (Behind (Then print tail) P) Q at text
      (joins_then (text_plan at text) (Then print tail) P Q joins) before after
      (λ now. print_means context category_of uses env e now first)
      (λ now. print_means context category_of uses other e now second)
      (λ x y. print_twin e parts.0 (all e (inl refl)) (Behind tail P) (Behind (Then print tail) P)
      (has_behind tail P (tag_path scope at [] rest) some)
      (λ l k. record {
        first = HolePart at (printed_classes e scope) ∷ k.first;
        last = k.last;
        path = both hole k.path;
        rest = k.rest;
        is = ap (λ m. HolePart at (printed_classes e scope) ∷ m) k.is;
      })
      x y first second
      (λ v w. tag_twin [] rest parts.1 (λ f member. all f (inr member)) P (Behind tail P) some (joins_behind tail P) v
      w on following twin))

  cut_twin : (cut : Option Cut) → cut_picks cut marks ≡ true → AllRight (cut_prints cut)
      → (P Q : List PathPart → Type 0) → HasSome P → Joins (cut_plan scope at cut) P Q
      → (before after : List Piece) (on following : StateSoFar → Outcome) → On P on following →
      By Q before after (cut_means context category_of uses env cut (First before) on)
      (cut_means context category_of uses other cut (Second after) following)
  cut_twin None values all P Q some joins before after on following twin =
      twin_wider c whole Claim q p P Q before after (on (First before)) (following (Second after))
      (λ l k. joins [] l empty_path k) (twin before after)
  cut_twin (Some (TextCut text)) values all P Q some joins before after on following twin =
      twin_wider c whole Claim q p P Q before after (on (First before)) (following (Second after))
      (λ l k. joins [] l empty_path k) (twin before after)
  cut_twin (Some (PrintCut e phname span)) values all P Q some joins before after on following twin =
      print_twin e values (all e (inl refl)) P Q some
      (λ l k. joins (HolePart at (printed_classes e scope) ∷ []) l hole k) before after on following twin
  cut_twin (Some (TagCut tag)) values all P Q some joins before after on following twin =
      tag_twin [] tag values all P Q some joins before after on following twin

  -- ---- arms

  abbrev pub ArmTwin : (List PathPart → Type 0) → (List PathPart → Type 0) → PartMeans → PartMeans → Type 0
  ArmTwin P Q one two = (n m : ℤ) (before after : List Piece) (on following : StateSoFar → Outcome)
      → On P on following → By Q before after (one n (First before) on) (two m (Second after) following)

  arms_twin : (P Q : List PathPart → Type 0) (arms more : List PartMeans) → AllBy (ArmTwin P Q) arms more
      → (one two : Option (ℕ × PartMeans)) → is_some one ≡ true → is_some two ≡ true → IsChosen 0 arms one
      → IsChosen 0 more two → ArmTwin P Q (arm_means one) (arm_means two)
  arms_twin P Q arms more all None two there is h i n m before after on following twin = let no : ⊥ = cc in absurd no
  arms_twin P Q arms more all (Some one) None there is h i n m before after on following twin =
      let no : ⊥ = cc in absurd no
  arms_twin P Q arms more all (Some one) (Some two) there is h i n m before after on following twin =
      λ past further e.
      let left : Outcome = one.1 n (First before) on in
      let right : Outcome = two.1 m (Second after) following in
      let same : one.0 ≡ two.0 = same_arm one.0 two.0 left right past further e in
      twin_same c whole Claim q p Q before after (ArmTaken (Some one.0)) (ArmTaken (Some two.0)) left right
      (ap (λ j. ArmTaken (Some j)) same)
      (same_parts (ArmTwin P Q) 0 one.0 one.1 two.1 arms more all h
      (subst (λ j. IsArm 0 j two.1 more) (sym same) i) n m before after on following twin) past further e

  abbrev AllExact : (List PathPart → Type 0) → (List PathPart → Type 0) → ExactArms → Type 0
  AllExact P Q arms = AllBy (ArmTwin P Q) (arms_of (exact_rows context category_of uses env arms))
      (arms_of (exact_rows context category_of uses other arms))

  abbrev AllNamed : (List PathPart → Type 0) → (List PathPart → Type 0) → NamedArms → Type 0
  AllNamed P Q arms = AllBy (ArmTwin P Q) (arms_of (named_rows context category_of uses env arms))
      (arms_of (named_rows context category_of uses other arms))

  abbrev AllWords : (List PathPart → Type 0) → (List PathPart → Type 0) → SelectArms → Type 0
  AllWords P Q arms = AllBy (ArmTwin P Q) (arms_of (select_rows context category_of uses env arms))
      (arms_of (select_rows context category_of uses other arms))

  plural_twin : (P Q : List PathPart → Type 0) (ordinal : Bool) (selects : Option Expr) (offset : ℕ)
      (exact : ExactArms) (named : NamedArms) → is_some selects ≡ true → has_other named ≡ true
      → AllExact P Q exact → AllNamed P Q named
      → (before after : List Piece) (on following : StateSoFar → Outcome) → On P on following →
      By Q before after (plural_means context category_of uses env ordinal selects offset
      (exact_rows context category_of uses env exact) (named_rows context category_of uses env named) (First before)
      on)
      (plural_means context category_of uses other ordinal selects offset
      (exact_rows context category_of uses other exact) (named_rows context category_of uses other named)
      (Second after) following)
  plural_twin P Q ordinal None offset exact named there is e_all n_all before after on following twin =
      let no : ⊥ = cc in absurd no
  plural_twin P Q ordinal (Some e) offset exact named there is e_all n_all before after on following twin =
      let n : ℤ = int_of (operand (val e env)) in
      let m : ℤ = int_of (operand (val e other)) in
      let one : Option (ℕ × PartMeans) = plural_chosen context category_of uses env ordinal n offset exact named in
      let two : Option (ℕ × PartMeans) = plural_chosen context category_of uses other ordinal m offset exact named in
      twin_costs c whole Claim q p Q before after (cost e env) (cost e other)
      (arm_means one (n -ℤ pos offset) (First before) on) (arm_means two (m -ℤ pos offset) (Second after) following)
      (arms_twin P Q (arms_of (exact_rows context category_of uses env exact)
      ++ arms_of (named_rows context category_of uses env named))
      (arms_of (exact_rows context category_of uses other exact)
      ++ arms_of (named_rows context category_of uses other named))
      (all_more (ArmTwin P Q) (arms_of (exact_rows context category_of uses env exact))
      (arms_of (exact_rows context category_of uses other exact))
      (arms_of (named_rows context category_of uses env named))
      (arms_of (named_rows context category_of uses other named)) e_all n_all) one two
      (plural_found context category_of uses env ordinal n offset exact named is)
      (plural_found context category_of uses other ordinal m offset exact named is)
      (plural_arm context category_of uses env ordinal n offset exact named)
      (plural_arm context category_of uses other ordinal m offset exact named) (n -ℤ pos offset) (m -ℤ pos offset)
      before after on following twin)

  select_twin : (P Q : List PathPart → Type 0) (selects : Option Expr) (arms : SelectArms) → is_some selects ≡ true
      → has_other_word arms ≡ true → AllWords P Q arms
      → (before after : List Piece) (on following : StateSoFar → Outcome) → On P on following →
      By Q before after (select_means context category_of uses env selects
      (select_rows context category_of uses env arms) (First before) on)
      (select_means context category_of uses other selects (select_rows context category_of uses other arms)
      (Second after) following)
  select_twin P Q None arms there is w_all before after on following twin = let no : ⊥ = cc in absurd no
  select_twin P Q (Some e) arms there is w_all before after on following twin =
      let word : List ℕ = word_of (operand (val e env)) in
      let term : List ℕ = word_of (operand (val e other)) in
      let rows : List (List ℕ × PartMeans) = select_rows context category_of uses env arms in
      let lines : List (List ℕ × PartMeans) = select_rows context category_of uses other arms in
      let one : Option (ℕ × PartMeans) = word_chosen context category_of uses env word arms in
      let two : Option (ℕ × PartMeans) = word_chosen context category_of uses other term arms in
      twin_costs c whole Claim q p Q before after (cost e env) (cost e other)
      (arm_means one (pos 0) (First before) on) (arm_means two (pos 0) (Second after) following)
      (arms_twin P Q (arms_of rows) (arms_of lines) w_all one two
      (is_some_or (select_of word 0 rows) (select_of (codes "other") 0 rows)
      (word_found context category_of uses env arms 0 is))
      (is_some_or (select_of term 0 lines) (select_of (codes "other") 0 lines)
      (word_found context category_of uses other arms 0 is))
      (word_arm context category_of uses env word arms) (word_arm context category_of uses other term arms) (pos 0)
      (pos 0) before after on following twin)

  -- each plan's paths, and then what comes next
  abbrev AllJoin : List Plan → (List PathPart → Type 0) → (List PathPart → Type 0) → Type 0
  AllJoin ps P Q = (r : Plan) → IsMember r ps → Joins r P Q

  mutual
    part_twin : (m : MsgPart) → part_fits uses m ≡ true → (P Q : List PathPart → Type 0) → HasSome P
        → Joins (part_plan uses scope at m) P Q
        → ArmTwin P Q (part_means context category_of uses env m) (part_means context category_of uses other m)
    part_twin (TextPart text) fits P Q some joins n k before after on following twin =
        twin_text c whole Claim q p P Q at text joins before after on following twin
    part_twin (Placeholder name) fits P Q some joins n k before after on following twin =
        cut_twin (placeholder_cut name uses uses) (placeholder_picks uses marks name uses picks)
        (λ e member. (
          given e (name, member),
          also e (name, member),
          (λ j. has j e (name, member)),
          (λ j. also_has j e (name, member)),
        ))
        P Q some joins before after on following twin
    part_twin NumberPart fits P Q some joins n k before after on following twin =
        twin_value c whole Claim q p P Q at (class.Int ∷ []) (IntValue n) (IntValue k) (λ j. inl refl) (λ j. inl refl)
        (λ l j. joins (HolePart at (class.Int ∷ []) ∷ []) l hole j) before after on following twin
    part_twin (PluralPart ordinal name offset exact named) fits P Q some joins n k before after on following twin =
        let parts = and_parts (is_some (selector true name uses uses) && has_other named) (exact_fit uses exact
        && named_fit uses named) fits in
        let head = and_parts (is_some (selector true name uses uses)) (has_other named) parts.0 in
        let rest = and_parts (exact_fit uses exact) (named_fit uses named) parts.1 in
        let ps : List Plan = exact_plans uses scope at exact ++ named_plans uses scope at named in
        plural_twin P Q ordinal (selector true name uses uses) offset exact named head.0 head.1
        (exact_twin exact rest.0 P Q some
        (λ r h. joins_arm at ps r P Q (mem_left r (exact_plans uses scope at exact) (named_plans uses scope at named) h)
        joins))
        (named_twin named rest.1 P Q some
        (λ r h. joins_arm at ps r P Q
        (mem_right r (exact_plans uses scope at exact) (named_plans uses scope at named) h) joins)) before after on
        following twin
    part_twin (SelectPart name arms) fits P Q some joins n k before after on following twin =
        let parts = and_parts (is_some (selector false name uses uses) && has_other_word arms) (select_fit uses arms)
        fits in
        let head = and_parts (is_some (selector false name uses uses)) (has_other_word arms) parts.0 in
        let ps : List Plan = select_arm_plans uses scope at arms in
        select_twin P Q (selector false name uses uses) arms head.0 head.1
        (words_twin arms parts.1 P Q some (λ r h. joins_arm at ps r P Q h joins)) before after on following twin

    pub parts_twin : (ps : MsgParts) → parts_fit uses ps ≡ true → (P Q : List PathPart → Type 0) → HasSome P
        → Joins (parts_plan uses scope at ps) P Q
        → ArmTwin P Q (parts_means context category_of uses env ps) (parts_means context category_of uses other ps)
    parts_twin no_part fits P Q some joins n k before after on following twin =
        twin_wider c whole Claim q p P Q before after (on (First before)) (following (Second after))
        (λ l j. joins [] l empty_path j) (twin before after)
    parts_twin (part m ps) fits P Q some joins n k before after on following twin =
        let fit = and_parts (part_fits uses m) (parts_fit uses ps) fits in
        let tail : Plan = parts_plan uses scope at ps in
        part_twin m fit.0 (Behind tail P) Q (has_behind tail P (parts_path uses scope at ps fit.1) some)
        (joins_then (part_plan uses scope at m) tail P Q joins) n k before after
        (λ now. parts_means context category_of uses env ps n now on)
        (λ now. parts_means context category_of uses other ps k now following)
        (λ x y. parts_twin ps fit.1 P (Behind tail P) some (joins_behind tail P) n k x y on following twin)

    exact_twin : (arms : ExactArms) → exact_fit uses arms ≡ true → (P Q : List PathPart → Type 0) → HasSome P
        → AllJoin (exact_plans uses scope at arms) P Q → AllExact P Q arms
    exact_twin no_exact_arm fits P Q some into = tt
    exact_twin (exact_arm m ps arms) fits P Q some into =
        let fit = and_parts (parts_fit uses ps) (exact_fit uses arms) fits in (
          parts_twin ps fit.0 P Q some (into (parts_plan uses scope at ps) (inl refl)),
          exact_twin arms fit.1 P Q some (λ r h. into r (inr h)),
        )

    named_twin : (arms : NamedArms) → named_fit uses arms ≡ true → (P Q : List PathPart → Type 0) → HasSome P
        → AllJoin (named_plans uses scope at arms) P Q → AllNamed P Q arms
    named_twin no_named_arm fits P Q some into = tt
    named_twin (named_arm of ps arms) fits P Q some into =
        let fit = and_parts (parts_fit uses ps) (named_fit uses arms) fits in (
          parts_twin ps fit.0 P Q some (into (parts_plan uses scope at ps) (inl refl)),
          named_twin arms fit.1 P Q some (λ r h. into r (inr h)),
        )

    words_twin : (arms : SelectArms) → select_fit uses arms ≡ true → (P Q : List PathPart → Type 0) → HasSome P
        → AllJoin (select_arm_plans uses scope at arms) P Q → AllWords P Q arms
    words_twin no_select_arm fits P Q some into = tt
    words_twin (select_arm word ps arms) fits P Q some into =
        let fit = and_parts (parts_fit uses ps) (select_fit uses arms) fits in (
          parts_twin ps fit.0 P Q some (into (parts_plan uses scope at ps) (inl refl)),
          words_twin arms fit.1 P Q some (λ r h. into r (inr h)),
        )
