-- Which arm of a translation is chosen, and what its placeholders pick.
use Rattle.std.proofs.Common.{◌≡◌, ◌≤◌, ℕ, ◌+◌, ℤ, pos, Bool, true, false, List, [], ◌∷◌, ◌++◌, ◌⊎◌, inl, inr, Option}
use Rattle.std.proofs.Common.{Some, None, if◌then◌else◌, refl, sym, subst, arith}
use Rattle.std.specs.Prelude.{◌||◌, ◌-ℤ◌, bytes_eq, codes, is_some}
use Rattle.std.specs.Option.{option_or}
use Rattle.std.proofs.lemmas.Bool.{and_parts}
use Rattle.soy_base.specs.declared.direction.Dir.{Dir}
use Rattle.plural_rules.specs.Category.{is_same}
use Rattle.plural_rules.specs.declared.category.Category.{Category}
use Rattle.plural_rules.specs.declared.category.Category.TheVariants as category
use Rattle.soy_tree.specs.Types.{Name}
use Rattle.soy_tree.specs.MessageParts.{ExactArms, NamedArms, SelectArms}
use Rattle.soy_tree.specs.MessageParts.{no_named_arm, named_arm, no_select_arm, select_arm}
use Rattle.soy_tree.specs.MessageText.{Cut}
use Rattle.soy_rules.specs.Placeholders.{Use, name_of}
use Rattle.soy_rules.specs.Val.{is_same_int}
use Rattle.soy_pieces.specs.Branch.{PartMeans, exact_of, exact_rows, named_of}
use Rattle.soy_pieces.specs.Branch.{named_rows, parts_means, row_count}
use Rattle.soy_pieces.specs.Branch.{select_of, select_rows}
use Rattle.soy_pieces.specs.Giving.{RunEnv}
use Rattle.soy_meaning.specs.Runs.PicksValues.{Marks, cut_picks, uses_pick}
use Rattle.soy_rules.specs.Placeholders.{cut_of_role, placeholder_cut}
use Rattle.soy_meaning.specs.Runs.TranslationFits.{has_other, has_other_word}

-- ---- the arm of a number

-- each two are so
abbrev pub AllBy : (PartMeans → PartMeans → Type 0) → List PartMeans → List PartMeans → Type 0
AllBy So [] [] = Unit {0}
AllBy So (x ∷ xs) (y ∷ ys) = So x y × AllBy So xs ys
AllBy So _ _ = ⊥

-- an arm is the one of this number, where they are counted from k
abbrev pub IsArm : ℕ → ℕ → PartMeans → List PartMeans → Type 0
IsArm k j means [] = ⊥
IsArm k j means (x ∷ xs) = ((j ≡ k) × (means ≡ x)) ⊎ IsArm (k + 1) j means xs

arm_above : (k j : ℕ) (means : PartMeans) (xs : List PartMeans) → IsArm k j means xs → k ≤ j
arm_above k j means [] h = absurd h
arm_above k j means (x ∷ xs) (inl h) = omega (arith, h.0)
arm_above k j means (x ∷ xs) (inr h) = let above : k + 1 ≤ j = arm_above (k + 1) j means xs h in omega (arith, above)

arm_apart : (k j : ℕ) → j ≡ k → k + 1 ≤ j → ⊥
arm_apart k j e h = omega (arith, e, h)

pub same_parts : (So : PartMeans → PartMeans → Type 0) (k j : ℕ) (one two : PartMeans) (xs ys : List PartMeans)
    → AllBy So xs ys → IsArm k j one xs → IsArm k j two ys → So one two
same_parts So k j one two [] ys alike h i = absurd h
same_parts So k j one two (x ∷ xs) [] alike h i = absurd i
same_parts So k j one two (x ∷ xs) (y ∷ ys) alike (inl h) (inl i) =
    subst (λ z. So z two) (sym h.1) (subst (λ z. So x z) (sym i.1) alike.0)
same_parts So k j one two (x ∷ xs) (y ∷ ys) alike (inl h) (inr i) =
    absurd (arm_apart k j h.0 (arm_above (k + 1) j two ys i))
same_parts So k j one two (x ∷ xs) (y ∷ ys) alike (inr h) (inl i) =
    absurd (arm_apart k j i.0 (arm_above (k + 1) j one xs h))
same_parts So k j one two (x ∷ xs) (y ∷ ys) alike (inr h) (inr i) = same_parts So (k + 1) j one two xs ys alike.1 h i

pub all_more : (So : PartMeans → PartMeans → Type 0) (xs ys one two : List PartMeans) → AllBy So xs ys
    → AllBy So one two → AllBy So (xs ++ one) (ys ++ two)
all_more So [] [] one two h k = k
all_more So [] (y ∷ ys) one two h k = absurd h
all_more So (x ∷ xs) [] one two h k = absurd h
all_more So (x ∷ xs) (y ∷ ys) one two h k = (h.0, all_more So xs ys one two h.1 k)

-- ---- the arm that is chosen

abbrev pub arms_of : {A : Type 0} → List (A × PartMeans) → List PartMeans
arms_of [] = []
arms_of (row ∷ rows) = row.1 ∷ arms_of rows

abbrev pub IsChosen : ℕ → List PartMeans → Option (ℕ × PartMeans) → Type 0
IsChosen k arms None = Unit {0}
IsChosen k arms (Some taken) = IsArm k taken.0 taken.1 arms

chosen_if : (k : ℕ) (test : Bool) (means : PartMeans) (arms : List PartMeans) (other : Option (ℕ × PartMeans))
    → IsChosen (k + 1) arms other → IsChosen k (means ∷ arms) (if test then Some (k, means) else other)
chosen_if k true means arms other h = inl (refl, refl)
chosen_if k false means arms None h = tt
chosen_if k false means arms (Some taken) h = inr h

chosen_or : (k : ℕ) (arms : List PartMeans) (one other : Option (ℕ × PartMeans)) → IsChosen k arms one
    → IsChosen k arms other → IsChosen k arms (option_or one other)
chosen_or k arms None other h i = i
chosen_or k arms (Some taken) other h i = h

exact_chosen : (n : ℤ) (k : ℕ) (rows : List (ℤ × PartMeans)) → IsChosen k (arms_of rows) (exact_of n k rows)
exact_chosen n k [] = tt
exact_chosen n k (row ∷ rows) = chosen_if k (is_same_int row.0 n) row.1 (arms_of rows) (exact_of n (k + 1) rows)
    (exact_chosen n (k + 1) rows)

named_chosen : (wanted : Category) (k : ℕ) (rows : List (Category × PartMeans))
    → IsChosen k (arms_of rows) (named_of wanted k rows)
named_chosen wanted k [] = tt
named_chosen wanted k (row ∷ rows) = chosen_if k (is_same row.0 wanted) row.1 (arms_of rows)
    (named_of wanted (k + 1) rows) (named_chosen wanted (k + 1) rows)

select_chosen : (word : List ℕ) (k : ℕ) (rows : List (List ℕ × PartMeans))
    → IsChosen k (arms_of rows) (select_of word k rows)
select_chosen word k [] = tt
select_chosen word k (row ∷ rows) = chosen_if k (bytes_eq row.0 word) row.1 (arms_of rows)
    (select_of word (k + 1) rows) (select_chosen word (k + 1) rows)

arm_left : (k j : ℕ) (means : PartMeans) (xs ys : List PartMeans) → IsArm k j means xs → IsArm k j means (xs ++ ys)
arm_left k j means [] ys h = absurd h
arm_left k j means (x ∷ xs) ys (inl h) = inl h
arm_left k j means (x ∷ xs) ys (inr h) = inr (arm_left (k + 1) j means xs ys h)

arm_right : {A : Type 0} (rows : List (A × PartMeans)) (k i j : ℕ) (means : PartMeans) (ys : List PartMeans)
    → i ≡ k + row_count rows → IsArm i j means ys → IsArm k j means (arms_of rows ++ ys)
arm_right [] k i j means ys e h =
    let at : i ≡ k + 0 = e in let same : i ≡ k = omega (arith, at) in subst (λ x. IsArm x j means ys) same h
arm_right (row ∷ rows) k i j means ys e h =
    let at : i ≡ k + (1 + row_count rows) = e in
    inr (arm_right rows (k + 1) i j means ys (omega (arith, at)) h)

chosen_left : (k : ℕ) (xs ys : List PartMeans) (taken : Option (ℕ × PartMeans)) → IsChosen k xs taken
    → IsChosen k (xs ++ ys) taken
chosen_left k xs ys None h = tt
chosen_left k xs ys (Some taken) h = arm_left k taken.0 taken.1 xs ys h

chosen_right : {A : Type 0} (rows : List (A × PartMeans)) (ys : List PartMeans) (taken : Option (ℕ × PartMeans))
    → IsChosen (row_count rows) ys taken → IsChosen 0 (arms_of rows ++ ys) taken
chosen_right rows ys None h = tt
chosen_right rows ys (Some taken) h = arm_right rows 0 (row_count rows) taken.0 taken.1 ys (omega arith) h

-- an arm other is found
is_found : (test rest : Bool) (taken : ℕ × PartMeans) (other : Option (ℕ × PartMeans))
    → (rest ≡ true → is_some other ≡ true) → (test || rest) ≡ true → is_some (if test then Some taken else other)
    ≡ true
is_found true rest taken other later h = refl
is_found false rest taken other later h = later h

pub is_some_or : (one other : Option (ℕ × PartMeans)) → is_some other ≡ true → is_some (option_or one other) ≡ true
is_some_or None other h = h
is_some_or (Some taken) other h = refl

-- ---- translations

module _ (context : Dir) (category_of : Bool → ℤ → Category) (uses : List Use) (env : RunEnv) where
  other_found : (arms : NamedArms) (k : ℕ) → has_other arms ≡ true
      → is_some (named_of category.Other k (named_rows context category_of uses env arms)) ≡ true
  other_found no_named_arm k h = h
  other_found (named_arm of ps arms) k h =
      is_found (is_same of category.Other) (has_other arms) (k, parts_means context category_of uses env ps)
      (named_of category.Other (k + 1) (named_rows context category_of uses env arms))
      (λ later. other_found arms (k + 1) later) h

  pub word_found : (arms : SelectArms) (k : ℕ) → has_other_word arms ≡ true
      → is_some (select_of (codes "other") k (select_rows context category_of uses env arms)) ≡ true
  word_found no_select_arm k h = h
  word_found (select_arm word ps arms) k h =
      is_found (bytes_eq word (codes "other")) (has_other_word arms) (k, parts_means context category_of uses env ps)
      (select_of (codes "other") (k + 1) (select_rows context category_of uses env arms))
      (λ later. word_found arms (k + 1) later) h

  abbrev pub plural_chosen : Bool → ℤ → ℕ → ExactArms → NamedArms → Option (ℕ × PartMeans)
  plural_chosen ordinal n offset exact named =
      let rows : List (ℤ × PartMeans) = exact_rows context category_of uses env exact in
      let names : List (Category × PartMeans) = named_rows context category_of uses env named in
      option_or (exact_of n 0 rows)
      (option_or (named_of (category_of ordinal (n -ℤ pos offset)) (row_count rows) names)
      (named_of category.Other (row_count rows) names))

  pub plural_found : (ordinal : Bool) (n : ℤ) (offset : ℕ) (exact : ExactArms) (named : NamedArms)
      → has_other named ≡ true → is_some (plural_chosen ordinal n offset exact named) ≡ true
  plural_found ordinal n offset exact named has =
      let rows : List (ℤ × PartMeans) = exact_rows context category_of uses env exact in
      let names : List (Category × PartMeans) = named_rows context category_of uses env named in
      is_some_or (exact_of n 0 rows)
      (option_or (named_of (category_of ordinal (n -ℤ pos offset)) (row_count rows) names)
      (named_of category.Other (row_count rows) names))
      (is_some_or (named_of (category_of ordinal (n -ℤ pos offset)) (row_count rows) names)
      (named_of category.Other (row_count rows) names) (other_found named (row_count rows) has))

  pub plural_arm : (ordinal : Bool) (n : ℤ) (offset : ℕ) (exact : ExactArms) (named : NamedArms)
      → IsChosen 0 (arms_of (exact_rows context category_of uses env exact)
      ++ arms_of (named_rows context category_of uses env named)) (plural_chosen ordinal n offset exact named)
  plural_arm ordinal n offset exact named =
      let rows : List (ℤ × PartMeans) = exact_rows context category_of uses env exact in
      let names : List (Category × PartMeans) = named_rows context category_of uses env named in
      let wanted : Category = category_of ordinal (n -ℤ pos offset) in
      chosen_or 0 (arms_of rows ++ arms_of names) (exact_of n 0 rows)
      (option_or (named_of wanted (row_count rows) names) (named_of category.Other (row_count rows) names))
      (chosen_left 0 (arms_of rows) (arms_of names) (exact_of n 0 rows) (exact_chosen n 0 rows))
      (chosen_or 0 (arms_of rows ++ arms_of names) (named_of wanted (row_count rows) names)
      (named_of category.Other (row_count rows) names)
      (chosen_right rows (arms_of names) (named_of wanted (row_count rows) names)
      (named_chosen wanted (row_count rows) names))
      (chosen_right rows (arms_of names) (named_of category.Other (row_count rows) names)
      (named_chosen category.Other (row_count rows) names)))

  abbrev pub word_chosen : List ℕ → SelectArms → Option (ℕ × PartMeans)
  word_chosen word arms =
      let rows : List (List ℕ × PartMeans) = select_rows context category_of uses env arms in
      option_or (select_of word 0 rows) (select_of (codes "other") 0 rows)

  pub word_arm : (word : List ℕ) (arms : SelectArms)
      → IsChosen 0 (arms_of (select_rows context category_of uses env arms)) (word_chosen word arms)
  word_arm word arms =
      let rows : List (List ℕ × PartMeans) = select_rows context category_of uses env arms in
      chosen_or 0 (arms_of rows) (select_of word 0 rows) (select_of (codes "other") 0 rows)
      (select_chosen word 0 rows) (select_chosen (codes "other") 0 rows)

-- ---- placeholders

picks_if : (marks : Marks) (test : Bool) (one rest : Option Cut) → cut_picks one marks ≡ true
    → cut_picks rest marks ≡ true → cut_picks (if test then option_or one rest else rest) marks ≡ true
picks_if marks true None rest h k = k
picks_if marks true (Some cut) rest h k = h
picks_if marks false one rest h k = k

pub placeholder_picks : (uses : List Use) (marks : Marks) (name : Name) (us : List Use) → uses_pick us marks ≡ true
    → cut_picks (placeholder_cut name uses us) marks ≡ true
placeholder_picks uses marks name [] h = refl
placeholder_picks uses marks name (u ∷ us) h =
    let parts = and_parts (cut_picks (cut_of_role u.role) marks) (uses_pick us marks) h in
    picks_if marks (bytes_eq (name_of uses u.base u.content) name) (cut_of_role u.role)
    (placeholder_cut name uses us) parts.0 (placeholder_picks uses marks name us parts.1)
