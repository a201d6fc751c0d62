-- The arm of a plural that is gone into.
use Rattle.std.proofs.Common.{◌≡◌, List, Option, pos, ap, ◌∙◌}
use Rattle.std.specs.Prelude.{ℤ, ◌-ℤ◌}
use Rattle.soy_pieces.specs.Giving.{RunEnv}
use Rattle.template_ir.specs.Run.{OpMeans, arm_gives, plural_block}
use Rattle.template_ir.specs.ViewOps.{view_program}
use Rattle.template_ir.specs.declared.op.Block.{Block}
use Rattle.template_ir.specs.declared.op.PluralOp as code_plural
use Rattle.template_ir.specs.declared.program.ProgramParts.{ProgramParts}

pub plural_arm : (p : ProgramParts) (ms : List OpMeans) (plural : code_plural.PluralOp) (b : Option Block)
    (n m rest : ℤ) (env : RunEnv) → b ≡ plural_block (view_program p) plural.ordinal plural.exact plural.named n rest
    → rest ≡ n -ℤ pos plural.offset → n ≡ m
    → arm_gives ms b rest env
    ≡ arm_gives ms
    (plural_block (view_program p) plural.ordinal plural.exact plural.named m (m -ℤ pos plural.offset))
    (m -ℤ pos plural.offset) env
plural_arm p ms plural b n m rest env block without number =
    ap (λ (x : Option Block). arm_gives ms x rest env) block
    ∙ (ap (λ (k : ℤ). arm_gives ms (plural_block (view_program p) plural.ordinal plural.exact plural.named n k) k env)
    without
    ∙ ap (λ (k : ℤ). arm_gives ms
    (plural_block (view_program p) plural.ordinal plural.exact plural.named k (k -ℤ pos plural.offset))
    (k -ℤ pos plural.offset) env) number)
