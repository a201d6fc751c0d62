use Rattle.std.proofs.Common.{List, refl, arith}
use Rattle.soy_tree.specs.Values as values
use Rattle.template_ir.specs.declared.program.ProgramParts.{ProgramParts}
use Rattle.render_core.specs.Rest.{PieceFits}
use Rattle.render_core.specs.declared.held.Bound.{Bound}
use Rattle.render_core.proofs.machine.left_of.Goals as goal

pub returns-then-left-gt0 : goal.returns-then-left-gt0
returns-then-left-gt0 c = (
  refl,
  λ (p : ProgramParts) (input : values.Value) (bound : List Bound) (fits : PieceFits p input bound c.args.begun).
      (let size = c.left.ensures p input bound fits in omega (arith, size, c.if-left-gt0.true)),
)

pub returns-else-left-gt0 : goal.returns-else-left-gt0
returns-else-left-gt0 c =
    λ (p : ProgramParts) (input : values.Value) (bound : List Bound) (fits : PieceFits p input bound c.args.begun).
    (let size = c.left.ensures p input bound fits in omega (arith, size, c.if-left-gt0.false))
