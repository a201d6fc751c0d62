-- The numbers of block commands that are open around each of a list of commands.
use Rattle.std.specs.Prelude.{ℕ, List, [], ◌∷◌, length, Option, Some, None}
use Rattle.soy_parser.specs.declared.block.CommandState.{CommandState}
use Rattle.soy_parser.specs.declared.command.Command.{Command}
use Rattle.soy_parser.specs.CommandSteps.{command_step}

abbrev pub levels_from : (CommandState → List ℕ) → Option CommandState → List ℕ
levels_from go_on None = []
levels_from go_on (Some s) = go_on s

abbrev pub command_levels : List Command → CommandState → List ℕ
command_levels [] s = []
command_levels (c ∷ cs) s = length s.blocks ∷ levels_from (command_levels cs) (command_step s c)
