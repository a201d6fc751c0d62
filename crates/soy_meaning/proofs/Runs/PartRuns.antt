-- What the parts of a translation mean goes along paths of its plan.
use Rattle.std.proofs.Common.{◌≡◌, ℕ, ◌+◌, ℤ, pos, Bool, true, false, List, [], ◌∷◌, ◌++◌, inl, inr, Option, Some}
use Rattle.std.proofs.Common.{None, if◌then◌else◌, refl}
use Rattle.std.specs.Prelude.{◌&&◌, ◌||◌, ◌-ℤ◌, bytes_eq, codes, is_some}
use Rattle.std.specs.Option.{option_or}
use Rattle.std.proofs.lemmas.Bool.{and_parts}
use Rattle.soy_base.specs.declared.direction.Dir.{Dir}
use Rattle.soy_base.specs.declared.place.ValueClass.TheVariants as class
use Rattle.plural_rules.specs.Category.{is_same}
use Rattle.plural_rules.specs.declared.category.Category.{Category}
use Rattle.plural_rules.specs.declared.category.Category.TheVariants as category
use Rattle.soy_base.specs.Piece.{Piece}
use Rattle.soy_rules.specs.Cost.{cost}
use Rattle.soy_tree.specs.Expressions.{Expr}
use Rattle.soy_tree.specs.MessageParts.{MsgPart, MsgParts, ExactArms, NamedArms, SelectArms, TextPart, Placeholder}
use Rattle.soy_tree.specs.MessageParts.{NumberPart, PluralPart, SelectPart, no_part, part, no_exact_arm, exact_arm}
use Rattle.soy_tree.specs.MessageParts.{no_named_arm, named_arm, no_select_arm, select_arm}
use Rattle.soy_tree.specs.MessageText.{MessageItem, Character, Printed, Cut, TextCut, PrintCut, TagCut}
use Rattle.soy_rules.specs.Placeholders.{Use}
use Rattle.soy_rules.specs.TypeOf.{Scope}
use Rattle.soy_rules.specs.Val.{is_same_int, operand, val}
use Rattle.soy_tree.specs.Values.{IntValue}
use Rattle.soy_pieces.specs.Branch.{PartMeans, arm_means, cut_means, exact_of, exact_rows, int_of, named_of}
use Rattle.soy_pieces.specs.Branch.{named_rows}
use Rattle.soy_pieces.specs.Branch.{part_means, parts_means, plural_means, print_means, row_count, select_means}
use Rattle.soy_pieces.specs.Branch.{select_of, select_rows, selector, tag_means, word_of}
use Rattle.soy_meaning.specs.Runs.FrameRun.{FrameRun}
use Rattle.soy_meaning.specs.Runs.GivenAt.{HasPlaceholderOf, cut_prints, tag_prints}
use Rattle.soy_pieces.specs.Giving.{RunEnv, StateSoFar, printed_means, text_means}
use Rattle.soy_pieces.specs.Giving.{with_choice, with_cost}
use Rattle.soy_pieces.specs.Outcome.{ArmTaken, ChoiceMade, Outcome}
use Rattle.soy_meaning.specs.Paths.PathParts.{both, empty_path, hole}
use Rattle.soy_pieces.specs.Pieces.{RunContext}
use Rattle.soy_meaning.specs.Paths.Plan.{Plan, Hole, Nothing, Then, arms_meet}
use Rattle.soy_pieces.specs.Site.{Site}
use Rattle.soy_meaning.specs.Paths.PlanOfParts.{cut_plan, exact_plans, named_plans, part_plan, parts_plan}
use Rattle.soy_rules.specs.Placeholders.{placeholder_cut}
use Rattle.soy_meaning.specs.Paths.PlanOfParts.{printed_classes, select_arm_plans, tag_plan, text_plan}
use Rattle.soy_meaning.specs.Walks.States.{IsMember}
use Rattle.soy_meaning.specs.Runs.TranslationFits.{exact_fit, has_other, has_other_word}
use Rattle.soy_meaning.specs.Runs.TranslationFits.{named_fit, part_fits, parts_fit, select_fit}
use Rattle.soy_meaning.proofs.Runs.Goings.{GivesBlocks, Goes, GoesSome, HasClass, after_so_far, goes_both}
use Rattle.soy_meaning.proofs.Runs.Goings.{passes, printed_goes, same_goes}
use Rattle.soy_meaning.proofs.Runs.Goings.{some_meets, some_same, text_goes, value_goes}
use Rattle.soy_meaning.proofs.Members.{mem_left, mem_right}
use Rattle.soy_meaning.proofs.Runs.RunBindings.{AllRun, val_runs}
use Rattle.soy_meaning.proofs.Runs.RunPieces.{SameRun}
use Rattle.soy_meaning.proofs.Runs.RunPieces.{spent_same}
use Rattle.soy_meaning.proofs.Paths.SomePaths.{parts_path, tag_path}

pub cost_same : (n : ℕ) (o : Outcome) → SameRun (with_cost n o) o
cost_same n o = spent_same (record { cost = n; work = 0; choices = [] }) o

pub choice_same : (choice : ChoiceMade) (o : Outcome) → SameRun (with_choice choice o) o
choice_same choice o = spent_same (record { cost = 0; work = 1; choices = choice ∷ [] }) o

-- ---- translations

module _ (c : RunContext) (whole : Plan) (Claim : Type 0) (IsStop : Site → Type 0) (q : FrameRun) (uses : List Use)
    (scope : Scope)
    (at : Site) (env : RunEnv) (runs : AllRun c whole Claim IsStop env)
    (given : (e : Expr) → HasPlaceholderOf uses e → GivesBlocks c whole Claim IsStop q at (val e env))
    (fits : Claim → (e : Expr) → HasPlaceholderOf uses e → HasClass (val e env) (printed_classes e scope)) where
  abbrev context : Dir
  context = c.direction

  abbrev category_of : Bool → ℤ → Category
  category_of = c.category

  abbrev At : List Piece → StateSoFar
  At before = after_so_far c whole Claim IsStop q before

  -- what is printed of an expression: its block is given, and under the claim it has a class of the hole
  abbrev IsPrintedRight : Expr → Type 0
  IsPrintedRight e =
      GivesBlocks c whole Claim IsStop q at (val e env) × (Claim → HasClass (val e env) (printed_classes e scope))

  print_goes : (e : Expr) → IsPrintedRight e → (before : List Piece) (on : StateSoFar → Outcome) →
      Goes c whole Claim IsStop q (Hole at (printed_classes e scope)) before
      (print_means context category_of uses env e (At before) on) on
  print_goes e right before on =
      same_goes c whole Claim IsStop q (Hole at (printed_classes e scope)) before
      (print_means context category_of uses env e (At before) on)
      (printed_means context (val e env) (At before) on) on
      (cost_same (cost e env) (printed_means context (val e env) (At before) on))
      (printed_goes c whole Claim IsStop q at (printed_classes e scope) (val e env) before on
      (val_runs c whole Claim IsStop e env runs) right.0 right.1)

  abbrev AllGiven : List Expr → Type 0
  AllGiven es = (e : Expr) → IsMember e es → IsPrintedRight e

  tag_goes : (text : List ℕ) (tag : List MessageItem) → AllGiven (tag_prints tag)
      → (before : List Piece) (on : StateSoFar → Outcome) →
      Goes c whole Claim IsStop q (tag_plan scope at text tag) before
      (tag_means context category_of uses env text tag (At before) on) on
  tag_goes text [] all before on = text_goes c whole Claim IsStop q at text before on
  tag_goes text (Character code span ∷ rest) all before on = tag_goes (text ++ (code ∷ [])) rest all before on
  tag_goes text (Printed e phname span ∷ rest) all before on =
      let print : Plan = Hole at (printed_classes e scope) in
      let following : Plan = tag_plan scope at [] rest in
      let printed : StateSoFar → Outcome = λ now. print_means context category_of uses env e now
      (λ past. tag_means context category_of uses env [] rest past on) in
      goes_both c whole Claim IsStop q (text_plan at text) (Then print following)
      (Then (text_plan at text) (Then print following)) before (text_means text (At before) printed) printed on
      (λ a b h k. both h k)
      (record { parts = _; path = both hole (tag_path scope at [] rest).path })
      (text_goes c whole Claim IsStop q at text before printed)
      (λ more. goes_both c whole Claim IsStop q print following (Then print following) more (printed (At more))
      (λ past. tag_means context category_of uses env [] rest past on) on (λ a b h k. both h k)
      (tag_path scope at [] rest)
      (print_goes e (all e (inl refl)) more
      (λ past. tag_means context category_of uses env [] rest past on))
      (λ further. tag_goes [] rest (λ other member. all other (inr member)) further on))

  cut_goes : (cut : Option Cut) → AllGiven (cut_prints cut) → (before : List Piece) (on : StateSoFar → Outcome)
      → Goes c whole Claim IsStop q (cut_plan scope at cut) before
      (cut_means context category_of uses env cut (At before) on) on
  cut_goes None all before on = passes c whole Claim IsStop q Nothing before on empty_path
  cut_goes (Some (TextCut text)) all before on = passes c whole Claim IsStop q Nothing before on empty_path
  cut_goes (Some (PrintCut e phname span)) all before on =
      print_goes e (all e (inl refl)) before on
  cut_goes (Some (TagCut tag)) all before on = tag_goes [] tag all before on

  -- the parts of an arm, whatever the number, go along one of these plans
  abbrev ArmGoes : List Plan → PartMeans → Type 0
  ArmGoes ps means = (n : ℤ) (before : List Piece) (on : StateSoFar → Outcome)
      → GoesSome c whole Claim IsStop q ps before (means n (At before) on) on

  abbrev RowsGo : {A : Type 0} → List Plan → List (A × PartMeans) → Type 0
  RowsGo ps [] = Unit {0}
  RowsGo ps (row ∷ rows) = ArmGoes ps row.1 × RowsGo ps rows

  abbrev ChosenGoes : List Plan → Option (ℕ × PartMeans) → Type 0
  ChosenGoes ps None = Unit {0}
  ChosenGoes ps (Some taken) = ArmGoes ps taken.1

  chosen_if : (ps : List Plan) (test : Bool) (taken : ℕ × PartMeans) (other : Option (ℕ × PartMeans))
      → ArmGoes ps taken.1 → ChosenGoes ps other → ChosenGoes ps (if test then Some taken else other)
  chosen_if ps true taken other h k = h
  chosen_if ps false taken other h k = k

  chosen_or : (ps : List Plan) (one other : Option (ℕ × PartMeans)) → ChosenGoes ps one → ChosenGoes ps other
      → ChosenGoes ps (option_or one other)
  chosen_or ps None other h k = k
  chosen_or ps (Some taken) other h k = h

  exact_chosen : (ps : List Plan) (n : ℤ) (k : ℕ) (rows : List (ℤ × PartMeans)) → RowsGo ps rows
      → ChosenGoes ps (exact_of n k rows)
  exact_chosen ps n k [] h = tt
  exact_chosen ps n k (row ∷ rows) h = chosen_if ps (is_same_int row.0 n) (k, row.1) (exact_of n (k + 1) rows) h.0
      (exact_chosen ps n (k + 1) rows h.1)

  named_chosen : (ps : List Plan) (wanted : Category) (k : ℕ) (rows : List (Category × PartMeans)) → RowsGo ps rows
      → ChosenGoes ps (named_of wanted k rows)
  named_chosen ps wanted k [] h = tt
  named_chosen ps wanted k (row ∷ rows) h = chosen_if ps (is_same row.0 wanted) (k, row.1)
      (named_of wanted (k + 1) rows) h.0 (named_chosen ps wanted (k + 1) rows h.1)

  select_chosen : (ps : List Plan) (word : List ℕ) (k : ℕ) (rows : List (List ℕ × PartMeans)) → RowsGo ps rows
      → ChosenGoes ps (select_of word k rows)
  select_chosen ps word k [] h = tt
  select_chosen ps word k (row ∷ rows) h = chosen_if ps (bytes_eq row.0 word) (k, row.1) (select_of word (k + 1) rows)
      h.0 (select_chosen ps word (k + 1) rows h.1)

  -- an arm other is found
  is_found : (test rest : Bool) (taken : ℕ × PartMeans) (other : Option (ℕ × PartMeans))
      → (rest ≡ true → is_some other ≡ true) → (test || rest) ≡ true → is_some (if test then Some taken else other)
      ≡ true
  is_found true rest taken other later h = refl
  is_found false rest taken other later h = later h

  is_some_or : (one other : Option (ℕ × PartMeans)) → is_some other ≡ true → is_some (option_or one other) ≡ true
  is_some_or None other h = h
  is_some_or (Some taken) other h = refl

  other_found : (arms : NamedArms) (k : ℕ) → has_other arms ≡ true
      → is_some (named_of category.Other k (named_rows context category_of uses env arms)) ≡ true
  other_found no_named_arm k h = h
  other_found (named_arm of ps arms) k h =
      is_found (is_same of category.Other) (has_other arms) (k, parts_means context category_of uses env ps)
      (named_of category.Other (k + 1) (named_rows context category_of uses env arms))
      (λ later. other_found arms (k + 1) later) h

  word_found : (arms : SelectArms) (k : ℕ) → has_other_word arms ≡ true
      → is_some (select_of (codes "other") k (select_rows context category_of uses env arms)) ≡ true
  word_found no_select_arm k h = h
  word_found (select_arm word ps arms) k h =
      is_found (bytes_eq word (codes "other")) (has_other_word arms) (k, parts_means context category_of uses env ps)
      (select_of (codes "other") (k + 1) (select_rows context category_of uses env arms))
      (λ later. word_found arms (k + 1) later) h

  arm_goes : (ps : List Plan) (found : Option (ℕ × PartMeans)) → is_some found ≡ true → ChosenGoes ps found
      → (n : ℤ) (before : List Piece) (on : StateSoFar → Outcome)
      → GoesSome c whole Claim IsStop q ps before (arm_means found n (At before) on) on
  arm_goes ps None there goes n before on = let no : ⊥ = cc in absurd no
  arm_goes ps (Some taken) there goes n before on =
      some_same c whole Claim IsStop q ps before (arm_means (Some taken) n (At before) on) (taken.1 n (At before) on) on
      (choice_same (ArmTaken (Some taken.0)) (taken.1 n (At before) on)) (goes n before on)

  plural_goes : (ps : List Plan) (ordinal : Bool) (selects : Option Expr) (offset : ℕ) (exact : List (ℤ × PartMeans))
      (arms : NamedArms) → is_some selects ≡ true → has_other arms ≡ true → RowsGo ps exact →
      RowsGo ps (named_rows context category_of uses env arms) → (before : List Piece) (on : StateSoFar → Outcome) →
      Goes c whole Claim IsStop q (arms_meet at ps) before
      (plural_means context category_of uses env ordinal selects offset exact
      (named_rows context category_of uses env arms) (At before) on) on
  plural_goes ps ordinal None offset exact arms there has e_go n_go before on = let no : ⊥ = cc in absurd no
  plural_goes ps ordinal (Some e) offset exact arms there has e_go n_go before on =
      let named : List (Category × PartMeans) = named_rows context category_of uses env arms in
      let n : ℤ = int_of (operand (val e env)) in
      let rest : ℤ = n -ℤ pos offset in
      let one : Option (ℕ × PartMeans) = named_of (category_of ordinal rest) (row_count exact) named in
      let other : Option (ℕ × PartMeans) = named_of category.Other (row_count exact) named in
      let chosen : Option (ℕ × PartMeans) = option_or (exact_of n 0 exact) (option_or one other) in
      let is_there : is_some chosen ≡ true = is_some_or (exact_of n 0 exact) (option_or one other)
      (is_some_or one other (other_found arms (row_count exact) has)) in
      let goes : ChosenGoes ps chosen = chosen_or ps (exact_of n 0 exact) (option_or one other)
      (exact_chosen ps n 0 exact e_go)
      (chosen_or ps one other (named_chosen ps (category_of ordinal rest) (row_count exact) named n_go)
      (named_chosen ps category.Other (row_count exact) named n_go)) in
      some_meets c whole Claim IsStop q at ps before (with_cost (cost e env) (arm_means chosen rest (At before) on)) on
      (some_same c whole Claim IsStop q ps before (with_cost (cost e env) (arm_means chosen rest (At before) on))
      (arm_means chosen rest (At before) on) on (cost_same (cost e env) (arm_means chosen rest (At before) on))
      (arm_goes ps chosen is_there goes rest before on))

  select_goes : (ps : List Plan) (selects : Option Expr) (arms : SelectArms) → is_some selects ≡ true
      → has_other_word arms ≡ true → RowsGo ps (select_rows context category_of uses env arms) →
      (before : List Piece) (on : StateSoFar → Outcome) → Goes c whole Claim IsStop q (arms_meet at ps) before
      (select_means context category_of uses env selects (select_rows context category_of uses env arms)
      (At before) on) on
  select_goes ps None arms there has rows_go before on = let no : ⊥ = cc in absurd no
  select_goes ps (Some e) arms there has rows_go before on =
      let rows : List (List ℕ × PartMeans) = select_rows context category_of uses env arms in
      let word : List ℕ = word_of (operand (val e env)) in
      let chosen : Option (ℕ × PartMeans) = option_or (select_of word 0 rows) (select_of (codes "other") 0 rows) in
      let is_there : is_some chosen ≡ true = is_some_or (select_of word 0 rows) (select_of (codes "other") 0 rows)
      (word_found arms 0 has) in
      let goes : ChosenGoes ps chosen = chosen_or ps (select_of word 0 rows) (select_of (codes "other") 0 rows)
      (select_chosen ps word 0 rows rows_go) (select_chosen ps (codes "other") 0 rows rows_go) in
      some_meets c whole Claim IsStop q at ps before (with_cost (cost e env) (arm_means chosen (pos 0) (At before) on))
      on
      (some_same c whole Claim IsStop q ps before (with_cost (cost e env) (arm_means chosen (pos 0) (At before) on))
      (arm_means chosen (pos 0) (At before) on) on
      (cost_same (cost e env) (arm_means chosen (pos 0) (At before) on))
      (arm_goes ps chosen is_there goes (pos 0) before on))

  abbrev AreAmong : List Plan → List Plan → Type 0
  AreAmong ps all = (p : Plan) → IsMember p ps → IsMember p all

  mutual
    part_goes : (p : MsgPart) → part_fits uses p ≡ true → (n : ℤ) (before : List Piece) (on : StateSoFar → Outcome) →
        Goes c whole Claim IsStop q (part_plan uses scope at p) before
        (part_means context category_of uses env p n (At before) on) on
    part_goes (TextPart text) fit n before on = text_goes c whole Claim IsStop q at text before on
    part_goes (Placeholder name) fit n before on =
        cut_goes (placeholder_cut name uses uses) (λ e member. (given e (name, member), (λ k. fits k e (name, member))))
        before on
    part_goes NumberPart fit n before on =
        value_goes c whole Claim IsStop q at (class.Int ∷ []) (IntValue n) before on (λ k. inl refl)
    part_goes (PluralPart ordinal name offset exact named) fits n before on =
        let parts = and_parts (is_some (selector true name uses uses) && has_other named) (exact_fit uses exact
        && named_fit uses named) fits in
        let head = and_parts (is_some (selector true name uses uses)) (has_other named) parts.0 in
        let rest = and_parts (exact_fit uses exact) (named_fit uses named) parts.1 in
        let ps : List Plan = exact_plans uses scope at exact ++ named_plans uses scope at named in
        plural_goes ps ordinal (selector true name uses uses) offset (exact_rows context category_of uses env exact)
        named head.0 head.1
        (exact_go exact rest.0 ps
        (λ p h. mem_left p (exact_plans uses scope at exact) (named_plans uses scope at named) h))
        (named_go named rest.1 ps
        (λ p h. mem_right p (exact_plans uses scope at exact) (named_plans uses scope at named) h)) before on
    part_goes (SelectPart name arms) fits n before on =
        let parts = and_parts (is_some (selector false name uses uses) && has_other_word arms) (select_fit uses arms)
        fits in
        let head = and_parts (is_some (selector false name uses uses)) (has_other_word arms) parts.0 in
        let ps : List Plan = select_arm_plans uses scope at arms in
        select_goes ps (selector false name uses uses) arms head.0 head.1 (select_go arms parts.1 ps (λ p h. h))
        before on

    pub parts_go : (ps : MsgParts) → parts_fit uses ps ≡ true
        → (n : ℤ) (before : List Piece) (on : StateSoFar → Outcome) →
        Goes c whole Claim IsStop q (parts_plan uses scope at ps) before
        (parts_means context category_of uses env ps n (At before) on) on
    parts_go no_part fits n before on = passes c whole Claim IsStop q Nothing before on empty_path
    parts_go (part p ps) fits n before on =
        let fit = and_parts (part_fits uses p) (parts_fit uses ps) fits in
        let following : StateSoFar → Outcome = λ now. parts_means context category_of uses env ps n now on in
        goes_both c whole Claim IsStop q (part_plan uses scope at p) (parts_plan uses scope at ps)
        (Then (part_plan uses scope at p) (parts_plan uses scope at ps)) before
        (part_means context category_of uses env p n (At before) following) following on
        (λ a b h k. both h k) (parts_path uses scope at ps fit.1) (part_goes p fit.0 n before following)
        (λ more. parts_go ps fit.1 n more on)

    exact_go : (arms : ExactArms) → exact_fit uses arms ≡ true → (all : List Plan)
        → AreAmong (exact_plans uses scope at arms) all → RowsGo all (exact_rows context category_of uses env arms)
    exact_go no_exact_arm fits all among = tt
    exact_go (exact_arm m ps arms) fits all among =
        let fit = and_parts (parts_fit uses ps) (exact_fit uses arms) fits in (
          (λ n before on. record {
            plan = parts_plan uses scope at ps;
            member = among (parts_plan uses scope at ps) (inl refl);
            goes = parts_go ps fit.0 n before on;
          }),
          exact_go arms fit.1 all (λ p h. among p (inr h)),
        )

    named_go : (arms : NamedArms) → named_fit uses arms ≡ true → (all : List Plan)
        → AreAmong (named_plans uses scope at arms) all → RowsGo all (named_rows context category_of uses env arms)
    named_go no_named_arm fits all among = tt
    named_go (named_arm of ps arms) fits all among =
        let fit = and_parts (parts_fit uses ps) (named_fit uses arms) fits in (
          (λ n before on. record {
            plan = parts_plan uses scope at ps;
            member = among (parts_plan uses scope at ps) (inl refl);
            goes = parts_go ps fit.0 n before on;
          }),
          named_go arms fit.1 all (λ p h. among p (inr h)),
        )

    select_go : (arms : SelectArms) → select_fit uses arms ≡ true → (all : List Plan)
        → AreAmong (select_arm_plans uses scope at arms) all
        → RowsGo all (select_rows context category_of uses env arms)
    select_go no_select_arm fits all among = tt
    select_go (select_arm word ps arms) fits all among =
        let fit = and_parts (parts_fit uses ps) (select_fit uses arms) fits in (
          (λ n before on. record {
            plan = parts_plan uses scope at ps;
            member = among (parts_plan uses scope at ps) (inl refl);
            goes = parts_go ps fit.0 n before on;
          }),
          select_go arms fit.1 all (λ p h. among p (inr h)),
        )
