-- Which block an if or a switch takes, and what is valued to know it.
--
-- Example: of `{if $a}..{elseif $b}..{/if}` with `$a` false and `$b` true it is the second, and two nodes are valued.
use Rattle.std.specs.Prelude.{ℕ, ◌+◌, List, [], ◌∷◌, Option, Some, if◌then◌else◌}
use Rattle.soy_rules.specs.Cost.{cost}
use Rattle.soy_rules.specs.Val.{is_truthy, val}
use Rattle.soy_tree.specs.Values as values
use Rattle.soy_pieces.specs.Giving.{RunEnv}
use Rattle.soy_pieces.specs.Pieces.{is_one}
use Rattle.template_ir.specs.Ops.{Branch, Choice}
use Rattle.template_ir.specs.declared.op.Block.{Block}

abbrev pub branch_chosen : List Branch → Option Block → RunEnv → Option Block × ℕ
branch_chosen [] other env = (other, 0)
branch_chosen (b ∷ bs) other env =
    if is_truthy (val b.when env) then (Some b.body, cost b.when env)
    else ((branch_chosen bs other env).0, cost b.when env + (branch_chosen bs other env).1)

abbrev pub choice_chosen : values.Value → List Choice → Option Block → RunEnv → Option Block × ℕ
choice_chosen v [] other env = (other, 0)
choice_chosen v (c ∷ cs) other env =
    if (is_one v c.values env).0 then (Some c.body, (is_one v c.values env).1)
    else ((choice_chosen v cs other env).0, (is_one v c.values env).1 + (choice_chosen v cs other env).1)

-- with more valued at first
abbrev pub added_cost : {A : Type 0} → ℕ → A × ℕ → A × ℕ
added_cost n taken = (taken.0, n + taken.1)
