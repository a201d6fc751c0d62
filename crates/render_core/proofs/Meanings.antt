-- What ops mean: what they cost, and what they give then.
use Rattle.std.proofs.Common.{◌≡◌, ℕ, ℤ, ◌+◌, pos, Bool, true, false, List, [], ◌∷◌, Option, Some, None, map, refl}
use Rattle.std.proofs.Common.{sym}
use Rattle.std.proofs.Common.{ap, ◌∙◌, arith}
use Rattle.std.specs.Prelude.{if◌then◌else◌}
use Rattle.soy_rules.specs.Cost.{cost}
use Rattle.soy_rules.specs.Val.{is_truthy, val}
use Rattle.soy_tree.specs.ViewExpressions.{view_expr}
use Rattle.soy_tree.specs.declared.expr.Expr as code_expr
use Rattle.soy_tree.specs.Values as values
use Rattle.soy_pieces.specs.Giving.{RunEnv, with_cost}
use Rattle.soy_pieces.specs.Outcome.{Outcome, Spent, spent_first}
use Rattle.soy_pieces.specs.Pieces.{is_one, valued}
use Rattle.soy_pieces.proofs.Outcomes.{first_none, first_twice}
use Rattle.template_ir.specs.Ops.{Branch, Choice}
use Rattle.template_ir.specs.Run.{OpMeans, arm_gives, block_gives, branches_give, choices_give, one_step}
use Rattle.template_ir.specs.Run.{rest_gives}
use Rattle.template_ir.specs.ViewOps.{view_branch, view_choice}
use Rattle.template_ir.specs.declared.op.Block.{Block}
use Rattle.template_ir.specs.declared.op.Branch as code_branch
use Rattle.template_ir.specs.declared.op.Choice as code_choice
use Rattle.template_ir.specs.declared.op.Op.TheVariants as op
use Rattle.template_ir.specs.declared.program.ProgramParts.{ProgramParts}
use Rattle.render_core.specs.Chosen.{added_cost, branch_chosen, choice_chosen}
use Rattle.render_core.specs.Frames.{means_before}
use Rattle.render_core.proofs.Ops.{op_there}

-- a cost alone
abbrev cost_alone : ℕ → Spent
cost_alone n = record { cost = n; work = 0; choices = [] }

spent_is : (c d v w : ℕ) → c ≡ d → v ≡ w →
    ◌≡◌ {A = Spent} (record { cost = c; work = v; choices = [] }) (record { cost = d; work = w; choices = [] })
spent_is c d v w same_cost same_work = cc

pub step_cost : (m n : ℕ) (o : Outcome) → spent_first (one_step m) (with_cost n o) ≡ spent_first (one_step (m + n)) o
step_cost m n o =
    first_twice (one_step m) (cost_alone n) o
    ∙ ap (λ s. spent_first s o) (spent_is (m + n) (m + n) (1 + 0) 1 refl (omega arith))

pub cost_twice : (m n : ℕ) (o : Outcome) → with_cost m (with_cost n o) ≡ with_cost (m + n) o
cost_twice m n o =
    first_twice (cost_alone m) (cost_alone n) o
    ∙ ap (λ s. spent_first s o) (spent_is (m + n) (m + n) (0 + 0) 0 refl (omega arith))

pub cost_none : (m : ℕ) (o : Outcome) → spent_first (one_step m) o ≡ spent_first (one_step (0 + m)) o
cost_none m o = ap (λ k. spent_first (one_step k) o) (let e : m ≡ 0 + m = omega arith in e)

-- a block, or none, where `#` stands for no number
pub rest_arm : (ms : List OpMeans) (b : Option Block) (env : RunEnv) → rest_gives ms b env ≡ arm_gives ms b (pos 0) env
rest_arm ms None env = refl
rest_arm ms (Some b) env = refl

cost_zero : (o : Outcome) → o ≡ with_cost 0 o
cost_zero o = sym (first_none o)

-- ---- if

abbrev chosen_if : Bool → ℕ → Block → Option Block × ℕ → Option Block × ℕ
chosen_if t c b rest = if t then (Some b, c) else (rest.0, c + rest.1)

if_case : (ms : List OpMeans) (t : Bool) (c : ℕ) (b : Block) (rest : Option Block × ℕ) (env : RunEnv) (x : Outcome)
    → x ≡ with_cost rest.1 (rest_gives ms rest.0 env)
    → with_cost c (if t then block_gives ms b (pos 0) env else x)
    ≡ with_cost (chosen_if t c b rest).1 (rest_gives ms (chosen_if t c b rest).0 env)
if_case ms true c b rest env x e = refl
if_case ms false c b rest env x e = ap (with_cost c) e ∙ cost_twice c rest.1 (rest_gives ms rest.0 env)

pub branches_chosen : (ms : List OpMeans) (bs : List Branch) (other : Option Block) (env : RunEnv)
    → branches_give ms bs other env
    ≡ with_cost (branch_chosen bs other env).1 (rest_gives ms (branch_chosen bs other env).0 env)
branches_chosen ms [] other env = cost_zero (rest_gives ms other env)
branches_chosen ms (b ∷ bs) other env =
    if_case ms (is_truthy (val b.when env)) (cost b.when env) b.body (branch_chosen bs other env) env
    (branches_give ms bs other env) (branches_chosen ms bs other env)

-- ---- switch

pub choices_chosen : (ms : List OpMeans) (v : values.Value) (cs : List Choice) (other : Option Block) (env : RunEnv)
    → choices_give ms v cs other env
    ≡ with_cost (choice_chosen v cs other env).1 (rest_gives ms (choice_chosen v cs other env).0 env)
choices_chosen ms v [] other env = cost_zero (rest_gives ms other env)
choices_chosen ms v (c ∷ cs) other env =
    if_case ms (is_one v c.values env).0 (is_one v c.values env).1 c.body (choice_chosen v cs other env) env
    (choices_give ms v cs other env) (choices_chosen ms v cs other env)

-- ---- ops

module _ (p : ProgramParts) (left at : ℕ) where
  pub means_if : (bs : List code_branch.Branch) (other : Option Block) (n : ℤ) (env : RunEnv)
      → op_there p left at (op.If bs other) n env
      ≡ (
        spent_first (one_step (branch_chosen (map view_branch bs) other env).1)
            (arm_gives (means_before p left at) (branch_chosen (map view_branch bs) other env).0 (pos 0) env),
        env,
      )
  means_if bs other n env =
      let taken : Option Block × ℕ = branch_chosen (map view_branch bs) other env in
      ap (λ (o : Outcome). (spent_first (one_step 0) o, env))
      (branches_chosen (means_before p left at) (map view_branch bs) other env)
      ∙ (ap (λ (o : Outcome). (o, env)) (step_cost 0 taken.1 (rest_gives (means_before p left at) taken.0 env)
      ∙ sym (cost_none taken.1 (rest_gives (means_before p left at) taken.0 env)))
      ∙ ap (λ (o : Outcome). (spent_first (one_step taken.1) o, env)) (rest_arm (means_before p left at) taken.0 env))

  pub means_switch : (e : code_expr.Expr) (cs : List code_choice.Choice) (other : Option Block) (n : ℤ) (env : RunEnv)
      (taken : Option Block × ℕ)
      → taken ≡ added_cost (cost (view_expr e) env)
      (choice_chosen (valued (view_expr e) env) (map view_choice cs) other env)
      → op_there p left at (op.Switch e cs other) n env
      ≡ (spent_first (one_step taken.1) (arm_gives (means_before p left at) taken.0 (pos 0) env), env)
  means_switch e cs other n env taken is =
      let v : values.Value = valued (view_expr e) env in
      let chosen : Option Block × ℕ = choice_chosen v (map view_choice cs) other env in
      let c : ℕ = cost (view_expr e) env in
      ap (λ (o : Outcome). (spent_first (one_step c) o, env))
      (choices_chosen (means_before p left at) v (map view_choice cs) other env)
      ∙ (ap (λ (o : Outcome). (o, env)) (step_cost c chosen.1 (rest_gives (means_before p left at) chosen.0 env))
      ∙ (ap (λ (o : Outcome). (spent_first (one_step (c + chosen.1)) o, env))
      (rest_arm (means_before p left at) chosen.0 env)
      ∙ ap (λ (t : Option Block × ℕ).
      (spent_first (one_step t.1) (arm_gives (means_before p left at) t.0 (pos 0) env), env)) (sym is)))
