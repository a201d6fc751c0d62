-- What a translation gives reads no span: without spans it gives the same, without positions.
use Rattle.std.proofs.Common.{◌≡◌, ℕ, ◌+◌, ℤ, pos, Bool, true, false, List, [], ◌∷◌, ◌++◌, Option, Some, None}
use Rattle.std.proofs.Common.{bytes_eq, refl, sym, ap, ◌∙◌}
use Rattle.std.specs.Prelude.{◌-ℤ◌, codes, option_map, if◌then◌else◌}
use Rattle.std.specs.Option.{option_or}
use Rattle.soy_base.specs.declared.direction.Dir.{Dir}
use Rattle.plural_rules.specs.Category.{is_same}
use Rattle.plural_rules.specs.declared.category.Category.{Category}
use Rattle.plural_rules.specs.declared.category.Category.TheVariants as category
use Rattle.soy_rules.specs.Cost.{cost}
use Rattle.soy_tree.specs.Expressions.{Expr}
use Rattle.soy_tree.specs.MessageParts.{MsgPart, MsgParts, ExactArms, NamedArms, SelectArms, TextPart, Placeholder}
use Rattle.soy_tree.specs.MessageParts.{NumberPart, PluralPart, SelectPart, no_part, part, no_exact_arm, exact_arm}
use Rattle.soy_tree.specs.MessageParts.{no_named_arm, named_arm, no_select_arm, select_arm}
use Rattle.soy_tree.specs.MessageText.{Character, Cut, MessageItem, PrintCut, Printed, TagCut, TextCut}
use Rattle.soy_rules.specs.Placeholders.{AsPlaceholder, AsPlural, AsSelect, Role, Use, name_of}
use Rattle.soy_tree.specs.Types.{Name}
use Rattle.soy_rules.specs.Val.{is_same_int, operand, val}
use Rattle.soy_tree.specs.Values.{IntValue}
use Rattle.soy_pieces.specs.Branch.{PartMeans, arm_means, cut_means, exact_of, exact_rows, int_of, named_of}
use Rattle.soy_pieces.specs.Branch.{named_rows}
use Rattle.soy_pieces.specs.Branch.{part_means, parts_means, plural_means, print_means, row_count, select_means}
use Rattle.soy_pieces.specs.Branch.{select_of, select_rows, selector, selector_of_role, tag_means, word_of}
use Rattle.soy_pieces.specs.Giving.{RunEnv, printed_means, with_choice}
use Rattle.soy_pieces.specs.Outcome.{ArmTaken}
use Rattle.soy_rules.specs.Placeholders.{placeholder_cut}
use Rattle.soy_format.specs.WithoutSpans.{expr_without_spans}
use Rattle.alike_files.proofs.ExpressionValues.{cost_same, operand_same, through_if, value_same}
use Rattle.alike_files.proofs.Faults.{first_same}
use Rattle.alike_files.proofs.MessageCuts.{cut_without_spans, either_same, items_without_spans}
use Rattle.alike_files.proofs.Outcomes.{MeansSame, block_placeless, choice_next, cost_next, env_placeless}
use Rattle.alike_files.proofs.Outcomes.{print_given, text_given, value_given}
use Rattle.alike_files.proofs.PartPlans.{placeholder_cut_same}
use Rattle.alike_files.proofs.PlaceholderNames.{name_of_same, role_without_spans, uses_without_spans}

-- ---- selectors

role_selector_same : (of_plural : Bool) (r : Role)
    → selector_of_role of_plural (role_without_spans r) ≡ option_map expr_without_spans (selector_of_role of_plural r)
role_selector_same of_plural (AsPlaceholder cut) = refl
role_selector_same of_plural (AsPlural e) = through_if (option_map expr_without_spans) of_plural (Some e) None
role_selector_same of_plural (AsSelect e) = through_if (option_map expr_without_spans) of_plural None (Some e)

selector_same : (of_plural : Bool) (name : Name) (all uses : List Use)
    → selector of_plural name (uses_without_spans all) (uses_without_spans uses)
    ≡ option_map expr_without_spans (selector of_plural name all uses)
selector_same of_plural name all [] = refl
selector_same of_plural name all (u ∷ uses) =
    rw (name_of_same all u.base u.content)
    (either_same (option_map expr_without_spans) (bytes_eq (name_of all u.base u.content) name) _
    (selector of_plural name all uses) _ _
    (first_same expr_without_spans (selector_of_role of_plural u.role) _ (selector of_plural name all uses) _
    (role_selector_same of_plural u.role) (selector_same of_plural name all uses))
    (selector_same of_plural name all uses))

pub valued_same : (e : Expr) (env : RunEnv)
    → operand (val (expr_without_spans e) (env_placeless env)) ≡ operand (val e env)
valued_same e env =
    ap operand (value_same block_placeless e env) ∙ operand_same block_placeless (val e env)

-- ---- the arm that is chosen

-- two chosen arms have one number, and mean the same
abbrev ArmSame : Option (ℕ × PartMeans) → Option (ℕ × PartMeans) → Type 0
ArmSame None None = Unit {0}
ArmSame (Some a) (Some b) = (a.0 ≡ b.0) × ((n : ℤ) → MeansSame (a.1 n) (b.1 n))
ArmSame _ _ = ⊥

arm_if : (b : Bool) (x y x' y' : Option (ℕ × PartMeans)) → ArmSame x x' → ArmSame y y'
    → ArmSame (if b then x else y) (if b then x' else y')
arm_if true x y x' y' one two = one
arm_if false x y x' y' one two = two

arm_or : (x y x' y' : Option (ℕ × PartMeans)) → ArmSame x x' → ArmSame y y'
    → ArmSame (option_or x y) (option_or x' y')
arm_or None y None y' one two = two
arm_or (Some a) y (Some b) y' one two = one
arm_or None y (Some b) y' one two = absurd one
arm_or (Some a) y None y' one two = absurd one

arm_given : (x x' : Option (ℕ × PartMeans)) → ArmSame x x' → (n : ℤ) → MeansSame (arm_means x n) (arm_means x' n)
arm_given None None same n so_far next other h = h so_far
arm_given (Some a) (Some b) same n so_far next other h =
    ap (λ k. with_choice (ArmTaken (Some k)) (b.1 n so_far other)) (sym same.0)
    ∙ choice_next (ArmTaken (Some a.0)) (a.1 n so_far next) (b.1 n so_far other) (same.1 n so_far next other h)
arm_given None (Some b) same n so_far next other h = absurd same
arm_given (Some a) None same n so_far next other h = absurd same

-- ---- parts

module _ (context : Dir) (category_of : Bool → ℤ → Category) (uses : List Use) (env : RunEnv) where
  expression_given : (e : Expr)
      → MeansSame (print_means context category_of uses env e)
      (print_means context category_of (uses_without_spans uses) (env_placeless env) (expr_without_spans e))
  expression_given e so_far next other h =
      rw (cost_same block_placeless e env, value_same block_placeless e env)
      (cost_next (cost e env) (printed_means context (val e env) so_far next) _
      (print_given context (val e env) so_far next other h))

  tag_given : (text : Name) (items : List MessageItem)
      → MeansSame (tag_means context category_of uses env text items)
      (tag_means context category_of (uses_without_spans uses) (env_placeless env) text (items_without_spans items))
  tag_given text [] so_far next other h = text_given text so_far next other h
  tag_given text (Character c span ∷ rest) so_far next other h = tag_given (text ++ (c ∷ [])) rest so_far next other h
  tag_given text (Printed e phname span ∷ rest) so_far next other h =
      text_given text so_far _ _ (λ now. expression_given e now _ _ (λ after. tag_given [] rest after next other h))

  cut_given : (o : Option Cut)
      → MeansSame (cut_means context category_of uses env o)
      (cut_means context category_of (uses_without_spans uses) (env_placeless env) (option_map cut_without_spans o))
  cut_given None so_far next other h = h so_far
  cut_given (Some (TextCut items)) so_far next other h = h so_far
  cut_given (Some (PrintCut e phname span)) so_far next other h = expression_given e so_far next other h
  cut_given (Some (TagCut items)) so_far next other h = tag_given [] items so_far next other h

  plural_given : (ordinal : Bool) (o : Option Expr) (offset : ℕ) (exact exact' : List (ℤ × PartMeans))
      (named named' : List (Category × PartMeans)) → row_count exact' ≡ row_count exact
      → ((n : ℤ) (k : ℕ) → ArmSame (exact_of n k exact) (exact_of n k exact'))
      → ((wanted : Category) (k : ℕ) → ArmSame (named_of wanted k named) (named_of wanted k named'))
      → MeansSame (plural_means context category_of uses env ordinal o offset exact named)
      (plural_means context category_of (uses_without_spans uses) (env_placeless env) ordinal
      (option_map expr_without_spans o) offset exact' named')
  plural_given ordinal None offset exact exact' named named' count by_number by_name so_far next other h = h so_far
  plural_given ordinal (Some e) offset exact exact' named named' count by_number by_name so_far next other h =
      let n : ℤ = int_of (operand (val e env)) in
      let rest : ℤ = n -ℤ pos offset in
      rw (cost_same block_placeless e env, valued_same e env, count)
      (cost_next (cost e env) _ _
      (arm_given
      (option_or (exact_of n 0 exact)
      (option_or (named_of (category_of ordinal rest) (row_count exact) named)
      (named_of category.Other (row_count exact) named)))
      (option_or (exact_of n 0 exact')
      (option_or (named_of (category_of ordinal rest) (row_count exact) named')
      (named_of category.Other (row_count exact) named')))
      (arm_or (exact_of n 0 exact) _ (exact_of n 0 exact') _ (by_number n 0)
      (arm_or (named_of (category_of ordinal rest) (row_count exact) named) _
      (named_of (category_of ordinal rest) (row_count exact) named') _
      (by_name (category_of ordinal rest) (row_count exact)) (by_name category.Other (row_count exact))))
      rest so_far next other h))

  select_given : (o : Option Expr) (arms arms' : List (Name × PartMeans))
      → ((word : Name) (k : ℕ) → ArmSame (select_of word k arms) (select_of word k arms'))
      → MeansSame (select_means context category_of uses env o arms)
      (select_means context category_of (uses_without_spans uses) (env_placeless env) (option_map expr_without_spans o)
      arms')
  select_given None arms arms' by_word so_far next other h = h so_far
  select_given (Some e) arms arms' by_word so_far next other h =
      let word : Name = word_of (operand (val e env)) in
      rw (cost_same block_placeless e env, valued_same e env)
      (cost_next (cost e env) _ _
      (arm_given (option_or (select_of word 0 arms) (select_of (codes "other") 0 arms))
      (option_or (select_of word 0 arms') (select_of (codes "other") 0 arms'))
      (arm_or (select_of word 0 arms) _ (select_of word 0 arms') _ (by_word word 0) (by_word (codes "other") 0))
      (pos 0) so_far next other h))

  count_same : (arms : ExactArms)
      → row_count (exact_rows context category_of (uses_without_spans uses) (env_placeless env) arms)
      ≡ row_count (exact_rows context category_of uses env arms)
  count_same no_exact_arm = refl
  count_same (exact_arm n ps arms) = ap (λ k. 1 + k) (count_same arms)

  mutual
    part_given : (p : MsgPart) (n : ℤ)
        → MeansSame (part_means context category_of uses env p n)
        (part_means context category_of (uses_without_spans uses) (env_placeless env) p n)
    part_given (TextPart text) n so_far next other h = text_given text so_far next other h
    part_given (Placeholder name) n so_far next other h =
        rw (placeholder_cut_same name uses uses) (cut_given (placeholder_cut name uses uses) so_far next other h)
    part_given NumberPart n so_far next other h = value_given context (IntValue n) so_far next other h
    part_given (PluralPart ordinal name offset exact named) n so_far next other h =
        rw (selector_same true name uses uses)
        (plural_given ordinal (selector true name uses uses) offset (exact_rows context category_of uses env exact)
        (exact_rows context category_of (uses_without_spans uses) (env_placeless env) exact)
        (named_rows context category_of uses env named)
        (named_rows context category_of (uses_without_spans uses) (env_placeless env) named) (count_same exact)
        (λ m k. exact_given m k exact) (λ wanted k. named_given wanted k named) so_far next other h)
    part_given (SelectPart name arms) n so_far next other h =
        rw (selector_same false name uses uses)
        (select_given (selector false name uses uses) (select_rows context category_of uses env arms)
        (select_rows context category_of (uses_without_spans uses) (env_placeless env) arms)
        (λ word k. words_given word k arms) so_far next other h)

    -- **what a translation gives**
    pub parts_given : (ps : MsgParts) (n : ℤ)
        → MeansSame (parts_means context category_of uses env ps n)
        (parts_means context category_of (uses_without_spans uses) (env_placeless env) ps n)
    parts_given no_part n so_far next other h = h so_far
    parts_given (part p ps) n so_far next other h =
        part_given p n so_far _ _ (λ now. parts_given ps n now next other h)

    exact_given : (n : ℤ) (k : ℕ) (arms : ExactArms)
        → ArmSame (exact_of n k (exact_rows context category_of uses env arms))
        (exact_of n k (exact_rows context category_of (uses_without_spans uses) (env_placeless env) arms))
    exact_given n k no_exact_arm = tt
    exact_given n k (exact_arm m ps arms) =
        arm_if (is_same_int m n) _ _ _ _ (refl, λ j. parts_given ps j) (exact_given n (k + 1) arms)

    named_given : (wanted : Category) (k : ℕ) (arms : NamedArms)
        → ArmSame (named_of wanted k (named_rows context category_of uses env arms))
        (named_of wanted k (named_rows context category_of (uses_without_spans uses) (env_placeless env) arms))
    named_given wanted k no_named_arm = tt
    named_given wanted k (named_arm of ps arms) =
        arm_if (is_same of wanted) _ _ _ _ (refl, λ j. parts_given ps j) (named_given wanted (k + 1) arms)

    words_given : (word : Name) (k : ℕ) (arms : SelectArms)
        → ArmSame (select_of word k (select_rows context category_of uses env arms))
        (select_of word k (select_rows context category_of (uses_without_spans uses) (env_placeless env) arms))
    words_given word k no_select_arm = tt
    words_given word k (select_arm is ps arms) =
        arm_if (bytes_eq is word) _ _ _ _ (refl, λ j. parts_given ps j) (words_given word (k + 1) arms)
