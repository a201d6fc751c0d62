-- What stands at a point where expressions are valued.
use Rattle.std.specs.Prelude.{List}
use Rattle.soy_tree.specs.Values.{Value}
use Rattle.soy_tree.specs.ViewValues.{view_value}
use Rattle.soy_pieces.specs.Giving.{RunEnv}
use Rattle.template_ir.specs.declared.program.ProgramParts.{ProgramParts}
use Rattle.render_core.specs.Variables.{Cell, cells_of, env_at}
use Rattle.render_core.specs.declared.parts.Point.{Point}

abbrev pub program_seen : Point → ProgramParts
program_seen point = point.scene.program.now

abbrev pub input_seen : Point → Value
input_seen point = view_value point.scene.input.now

abbrev pub cells_seen : Point → List Cell
cells_seen point = cells_of (program_seen point) (input_seen point) point.bound.now

-- the variables that are visible
abbrev pub env_seen : Point → RunEnv
env_seen point = env_at (cells_seen point) point.env
