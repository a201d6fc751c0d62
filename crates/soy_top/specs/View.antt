-- The program's own types as the definitions see them.
--
-- Example: the command of the words `format t.soy` is seen as what these words ask for.
use Rattle.std.specs.Prelude.{List, map}
use Rattle.soy_top.specs.declared.command.Command.{Command}
use Rattle.soy_top.specs.declared.command.Command.TheVariants as command
use Rattle.soy_top.specs.declared.wanted.FileWanted.{FileWanted}
use Rattle.soy_top.specs.Asked.{Asked, Render, Check, Extract, Gen, Play, Preview, Format}
use Rattle.soy_top.specs.FilesWanted as files
use Rattle.soy_top.specs.Words.{command_words}

abbrev pub view_command : Command → Asked
view_command (command.Render template json bundle files) =
    Render template.now json.now bundle.now (command_words files.now)
view_command (command.Check bundle files) = Check bundle.now (command_words files.now)
view_command (command.Extract files) = Extract (command_words files.now)
view_command (command.Gen number) = Gen number
view_command (command.Play script first second files) = Play script.now first.now second.now (command_words files.now)
view_command (command.Preview template json bundle files) =
    Preview template.now json.now bundle.now (command_words files.now)
view_command (command.Format file) = Format file.now

abbrev pub view_file : FileWanted → files.FileWanted
view_file file = record { name = file.name.now; limit = file.limit }

abbrev pub view_files : List FileWanted → List files.FileWanted
view_files wanted = map view_file wanted
