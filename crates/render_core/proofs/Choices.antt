-- Which block is taken, from one branch, case or value on to the next.
use Rattle.std.proofs.Common.{◌≡◌, ℕ, zero, suc, ◌+◌, ◌<◌, ◌≤◌, Bool, true, false, List, [], ◌∷◌, Option, Some}
use Rattle.std.proofs.Common.{length, map, drop, refl, sym, ap, ◌∙◌, arith, slice_index_or}
use Rattle.std.proofs.Common.{rules, tests}
use Rattle.std.specs.Prelude.{ℤ, pos, negsuc, if◌then◌else◌, bytes_eq}
use Rattle.plural_rules.specs.Category.{is_same}
use Rattle.plural_rules.specs.declared.category.Category.{Category}
use Rattle.soy_rules.specs.Cost.{cost}
use Rattle.soy_tree.specs.Expressions.{Expr}
use Rattle.soy_rules.specs.Val.{Binding, BlockOf, Known, is_same_int, is_same_value, is_truthy, operand, val}
use Rattle.soy_tree.specs.Values as values
use Rattle.soy_tree.specs.ViewExpressions.{view_expr, view_exprs}
use Rattle.soy_tree.specs.declared.expr.Expr as code_expr
use Rattle.soy_expr.specs.ForgottenBlocks.{forgotten, forgotten_env}
use Rattle.soy_expr.specs.ViewShallow.{shallow_value}
use Rattle.soy_expr.proofs.Forgetting.{forgotten_val}
use Rattle.soy_expr.proofs.Shallows.{same_seen}
use Rattle.soy_pieces.specs.Branch.{int_of, word_of}
use Rattle.soy_pieces.specs.Giving.{RunEnv}
use Rattle.soy_pieces.specs.Pieces.{is_one, valued}
use Rattle.template_ir.specs.Ops.{Choice}
use Rattle.template_ir.specs.Run.{exact_block, named_block, word_block}
use Rattle.template_ir.specs.ViewOps.{view_branch, view_choice}
use Rattle.template_ir.specs.declared.op.Block.{Block}
use Rattle.template_ir.specs.declared.op.Branch as code_branch
use Rattle.template_ir.specs.declared.op.ExactBlock.{ExactBlock}
use Rattle.template_ir.specs.declared.op.NamedBlock.{NamedBlock}
use Rattle.template_ir.specs.declared.op.WordBlock.{WordBlock}
use Rattle.template_ir.specs.declared.op.Choice as code_choice
use Rattle.render_core.specs.Chosen.{branch_chosen, choice_chosen}
use Rattle.render_core.proofs.Conditions.{if_false, if_true}

-- ---- values

pub one_same : (v : values.Value) (env : RunEnv) (es : List code_expr.Expr) (n : ℕ) (e : code_expr.Expr) → n < length es
    → e ≡ slice_index_or es n e → is_same_value v (valued (view_expr e) env) ≡ true
    → is_one v (view_exprs (drop n es)) env ≡ (true, cost (view_expr e) env)
one_same v env [] n e below is same = absurd (omega arith)
one_same v env (x ∷ es) zero e below is same =
    ap (λ y. is_one v (view_expr y ∷ view_exprs es) env) (sym is)
    ∙ if_true (is_same_value v (valued (view_expr e) env)) (true, cost (view_expr e) env)
    ((is_one v (view_exprs es) env).0, cost (view_expr e) env + (is_one v (view_exprs es) env).1) same
one_same v env (x ∷ es) (suc n) e below is same = one_same v env es n e (omega arith) is same

pub one_other : (v : values.Value) (env : RunEnv) (es : List code_expr.Expr) (n : ℕ) (e : code_expr.Expr)
    → n < length es
    → e ≡ slice_index_or es n e → is_same_value v (valued (view_expr e) env) ≡ false
    → is_one v (view_exprs (drop n es)) env
    ≡ (
      (is_one v (view_exprs (drop (n + 1) es)) env).0,
      cost (view_expr e) env + (is_one v (view_exprs (drop (n + 1) es)) env).1,
    )
one_other v env [] n e below is other = absurd (omega arith)
one_other v env (x ∷ es) zero e below is other =
    ap (λ y. is_one v (view_expr y ∷ view_exprs es) env) (sym is)
    ∙ if_false (is_same_value v (valued (view_expr e) env)) (true, cost (view_expr e) env)
    ((is_one v (view_exprs es) env).0, cost (view_expr e) env + (is_one v (view_exprs es) env).1) other
one_other v env (x ∷ es) (suc n) e below is other =
    let t : suc n + 1 ≡ suc (n + 1) = omega arith in rw t (one_other v env es n e (omega arith) is other)

-- ---- branches

pub branch_here : (other : Option Block) (env : RunEnv) (bs : List code_branch.Branch) (n : ℕ) (b : code_branch.Branch)
    → n < length bs → b ≡ slice_index_or bs n b → is_truthy (val (view_expr b.when) env) ≡ true
    → branch_chosen (map view_branch (drop n bs)) other env ≡ (Some b.body, cost (view_expr b.when) env)
branch_here other env [] n b below is holds = absurd (omega arith)
branch_here other env (x ∷ bs) zero b below is holds =
    ap (λ y. branch_chosen (view_branch y ∷ map view_branch bs) other env) (sym is)
    ∙ if_true (is_truthy (val (view_expr b.when) env)) (Some b.body, cost (view_expr b.when) env) (
      (branch_chosen (map view_branch bs) other env).0,
      cost (view_expr b.when) env + (branch_chosen (map view_branch bs) other env).1,
    ) holds
branch_here other env (x ∷ bs) (suc n) b below is holds = branch_here other env bs n b (omega arith) is holds

pub branch_past : (other : Option Block) (env : RunEnv) (bs : List code_branch.Branch) (n : ℕ) (b : code_branch.Branch)
    → n < length bs → b ≡ slice_index_or bs n b → is_truthy (val (view_expr b.when) env) ≡ false
    → branch_chosen (map view_branch (drop n bs)) other env
    ≡ (
      (branch_chosen (map view_branch (drop (n + 1) bs)) other env).0,
      cost (view_expr b.when) env + (branch_chosen (map view_branch (drop (n + 1) bs)) other env).1,
    )
branch_past other env [] n b below is fails = absurd (omega arith)
branch_past other env (x ∷ bs) zero b below is fails =
    ap (λ y. branch_chosen (view_branch y ∷ map view_branch bs) other env) (sym is)
    ∙ if_false (is_truthy (val (view_expr b.when) env)) (Some b.body, cost (view_expr b.when) env) (
      (branch_chosen (map view_branch bs) other env).0,
      cost (view_expr b.when) env + (branch_chosen (map view_branch bs) other env).1,
    ) fails
branch_past other env (x ∷ bs) (suc n) b below is fails =
    let t : suc n + 1 ≡ suc (n + 1) = omega arith in rw t (branch_past other env bs n b (omega arith) is fails)

-- ---- cases

pub choice_here : (v : values.Value) (other : Option Block) (env : RunEnv) (cs : List code_choice.Choice) (n : ℕ)
    (c : code_choice.Choice) → n < length cs → c ≡ slice_index_or cs n c
    → (is_one v (view_exprs c.values) env).0 ≡ true
    → choice_chosen v (map view_choice (drop n cs)) other env
    ≡ (Some c.body, (is_one v (view_exprs c.values) env).1)
choice_here v other env [] n c below is holds = absurd (omega arith)
choice_here v other env (x ∷ cs) zero c below is holds =
    ap (λ y. choice_chosen v (view_choice y ∷ map view_choice cs) other env) (sym is)
    ∙ if_true (is_one v (view_exprs c.values) env).0 (Some c.body, (is_one v (view_exprs c.values) env).1) (
      (choice_chosen v (map view_choice cs) other env).0,
      (is_one v (view_exprs c.values) env).1 + (choice_chosen v (map view_choice cs) other env).1,
    ) holds
choice_here v other env (x ∷ cs) (suc n) c below is holds = choice_here v other env cs n c (omega arith) is holds

pub choice_past : (v : values.Value) (other : Option Block) (env : RunEnv) (cs : List code_choice.Choice) (n : ℕ)
    (c : code_choice.Choice) → n < length cs → c ≡ slice_index_or cs n c
    → (is_one v (view_exprs c.values) env).0 ≡ false
    → choice_chosen v (map view_choice (drop n cs)) other env
    ≡ (
      (choice_chosen v (map view_choice (drop (n + 1) cs)) other env).0,
      (is_one v (view_exprs c.values) env).1 + (choice_chosen v (map view_choice (drop (n + 1) cs)) other env).1,
    )
choice_past v other env [] n c below is fails = absurd (omega arith)
choice_past v other env (x ∷ cs) zero c below is fails =
    ap (λ y. choice_chosen v (view_choice y ∷ map view_choice cs) other env) (sym is)
    ∙ if_false (is_one v (view_exprs c.values) env).0 (Some c.body, (is_one v (view_exprs c.values) env).1) (
      (choice_chosen v (map view_choice cs) other env).0,
      (is_one v (view_exprs c.values) env).1 + (choice_chosen v (map view_choice cs) other env).1,
    ) fails
choice_past v other env (x ∷ cs) (suc n) c below is fails =
    let t : suc n + 1 ≡ suc (n + 1) = omega arith in rw t (choice_past v other env cs n c (omega arith) is fails)

-- ---- what is seen of values

left_shallow : (v w : values.Value) → is_same_value (shallow_value v) w ≡ is_same_value v w
left_shallow values.NullValue w = refl
left_shallow (values.BoolValue b) w = refl
left_shallow (values.IntValue n) w = refl
left_shallow (values.StringValue t) w = refl
left_shallow (values.ListValue vs) w = refl
left_shallow (values.MapValue es) w = refl
left_shallow (values.RecordValue es) w = refl

pub same_shallow : (v w : values.Value) → is_same_value v (shallow_value w) ≡ is_same_value v w
same_shallow v w = sym (left_shallow v (shallow_value w)) ∙ same_seen v w

operand_known : {A : Type 0} (b : Binding A) → operand (forgotten b) ≡ operand b
operand_known (Known v) = refl
operand_known (BlockOf a) = refl

pub same_valued : (e : Expr) (env : RunEnv) → operand (val e (forgotten_env env)) ≡ valued e env
same_valued e env = ap operand (forgotten_val e env) ∙ operand_known (val e env)

pub int_shallow : (w : values.Value) → int_of (shallow_value w) ≡ int_of w
int_shallow values.NullValue = refl
int_shallow (values.BoolValue b) = refl
int_shallow (values.IntValue n) = refl
int_shallow (values.StringValue t) = refl
int_shallow (values.ListValue vs) = refl
int_shallow (values.MapValue es) = refl
int_shallow (values.RecordValue es) = refl

pub word_shallow : (w : values.Value) → word_of (shallow_value w) ≡ word_of w
word_shallow values.NullValue = refl
word_shallow (values.BoolValue b) = refl
word_shallow (values.IntValue n) = refl
word_shallow (values.StringValue t) = refl
word_shallow (values.ListValue vs) = refl
word_shallow (values.MapValue es) = refl
word_shallow (values.RecordValue es) = refl

ones_shallow : (v : values.Value) (es : List Expr) (env : RunEnv) → is_one (shallow_value v) es env ≡ is_one v es env
ones_shallow v [] env = refl
ones_shallow v (e ∷ es) env =
    ap (λ (t : Bool). if t then (true, cost e env)
    else ((is_one (shallow_value v) es env).0, cost e env + (is_one (shallow_value v) es env).1))
    (left_shallow v (valued e env))
    ∙ ap (λ (r : Bool × ℕ). if is_same_value v (valued e env) then (true, cost e env) else (r.0, cost e env + r.1))
    (ones_shallow v es env)

-- the choices by what is seen of a subject
pub choices_shallow : (v : values.Value) (cs : List Choice) (other : Option Block) (env : RunEnv)
    → choice_chosen (shallow_value v) cs other env ≡ choice_chosen v cs other env
choices_shallow v [] other env = refl
choices_shallow v (c ∷ cs) other env =
    ap (λ (t : Bool × ℕ). if t.0 then (Some c.body, t.1)
    else ((choice_chosen (shallow_value v) cs other env).0, t.1 + (choice_chosen (shallow_value v) cs other env).1))
    (ones_shallow v c.values env)
    ∙ ap (λ (t : Option Block × ℕ). if (is_one v c.values env).0 then (Some c.body, (is_one v c.values env).1)
    else (t.0, (is_one v c.values env).1 + t.1)) (choices_shallow v cs other env)

-- ---- arms

same_self : (n : ℤ) → is_same_int n n ≡ true
same_self (pos n) = search (rules, tests)
same_self (negsuc n) = search (rules, tests)

pub exact_here : (n : ℤ) (arms : List ExactBlock) (i : ℕ) (arm : ExactBlock) → i < length arms
    → arm ≡ slice_index_or arms i arm → arm.is ≡ n → exact_block n (drop i arms) ≡ Some arm.body
exact_here n [] i arm below is same = absurd (omega arith)
exact_here n (x ∷ arms) zero arm below is same =
    ap (λ (y : ExactBlock). exact_block n (y ∷ arms)) (sym is)
    ∙ if_true (is_same_int arm.is n) (Some arm.body) (exact_block n arms)
    (ap (λ (m : ℤ). is_same_int m n) same ∙ same_self n)
exact_here n (x ∷ arms) (suc i) arm below is same = exact_here n arms i arm (omega arith) is same

pub word_here : (word : List ℕ) (arms : List WordBlock) (i : ℕ) (arm : WordBlock) → i < length arms
    → arm ≡ slice_index_or arms i arm → bytes_eq arm.is word ≡ true → word_block word (drop i arms) ≡ Some arm.body
word_here word [] i arm below is same = absurd (omega arith)
word_here word (x ∷ arms) zero arm below is same =
    ap (λ (y : WordBlock). word_block word (y ∷ arms)) (sym is)
    ∙ if_true (bytes_eq arm.is word) (Some arm.body) (word_block word arms) same
word_here word (x ∷ arms) (suc i) arm below is same = word_here word arms i arm (omega arith) is same

pub named_here : (wanted : Category) (arms : List NamedBlock) (i : ℕ) (arm : NamedBlock) → i < length arms
    → arm ≡ slice_index_or arms i arm → is_same arm.category wanted ≡ true
    → named_block wanted (drop i arms) ≡ Some arm.body
named_here wanted [] i arm below is same = absurd (omega arith)
named_here wanted (x ∷ arms) zero arm below is same =
    ap (λ (y : NamedBlock). named_block wanted (y ∷ arms)) (sym is)
    ∙ if_true (is_same arm.category wanted) (Some arm.body) (named_block wanted arms) same
named_here wanted (x ∷ arms) (suc i) arm below is same = named_here wanted arms i arm (omega arith) is same

-- ---- the least that is valued

abbrev chosen_by : {A : Type 0} → Bool → ℕ → A → A × ℕ → A × ℕ
chosen_by b c a x = if b then (a, c) else (x.0, c + x.1)

least_if : {A : Type 0} (b : Bool) (c : ℕ) (a : A) (x : A × ℕ) → c ≤ (chosen_by b c a x).1
least_if true c a x = omega arith
least_if false c a x = omega arith

pub one_least : (v : values.Value) (env : RunEnv) (es : List code_expr.Expr) (n : ℕ) (e : code_expr.Expr)
    → n < length es
    → e ≡ slice_index_or es n e → cost (view_expr e) env ≤ (is_one v (view_exprs (drop n es)) env).1
one_least v env [] n e below is = absurd (omega arith)
one_least v env (x ∷ es) zero e below is =
    rw is
    (least_if (is_same_value v (valued (view_expr x) env)) (cost (view_expr x) env) true
    (is_one v (view_exprs es) env))
one_least v env (x ∷ es) (suc n) e below is = one_least v env es n e (omega arith) is

pub branch_least : (other : Option Block) (env : RunEnv) (bs : List code_branch.Branch) (n : ℕ) (b : code_branch.Branch)
    → n < length bs → b ≡ slice_index_or bs n b
    → cost (view_expr b.when) env ≤ (branch_chosen (map view_branch (drop n bs)) other env).1
branch_least other env [] n b below is = absurd (omega arith)
branch_least other env (x ∷ bs) zero b below is =
    rw is (least_if (is_truthy (val (view_expr x.when) env)) (cost (view_expr x.when) env) (Some x.body)
    (branch_chosen (map view_branch bs) other env))
branch_least other env (x ∷ bs) (suc n) b below is = branch_least other env bs n b (omega arith) is

pub choice_least : (v : values.Value) (other : Option Block) (env : RunEnv) (cs : List code_choice.Choice) (n : ℕ)
    (c : code_choice.Choice) → n < length cs → c ≡ slice_index_or cs n c
    → (is_one v (view_exprs c.values) env).1 ≤ (choice_chosen v (map view_choice (drop n cs)) other env).1
choice_least v other env [] n c below is = absurd (omega arith)
choice_least v other env (x ∷ cs) zero c below is =
    rw is (least_if (is_one v (view_exprs x.values) env).0 (is_one v (view_exprs x.values) env).1 (Some x.body)
    (choice_chosen v (map view_choice cs) other env))
choice_least v other env (x ∷ cs) (suc n) c below is = choice_least v other env cs n c (omega arith) is
