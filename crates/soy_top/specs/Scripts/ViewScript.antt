-- What the code has of a script, as the definitions see it.
--
-- Example: once the first line of `close 0`, LF, `close 1` is read, the line `close 1` is left.
use Rattle.std.specs.Prelude.{ℕ, List, [], Option, None, Some}
use Rattle.std.specs.Str.{chars}
use Rattle.soy_top.specs.declared.script.ScriptBundle as code_bundle
use Rattle.soy_top.specs.declared.script.ScriptBundle.TheVariants as bundle
use Rattle.soy_top.specs.declared.script.ScriptLine as code_line
use Rattle.soy_top.specs.declared.script.ScriptLine.TheVariants as line
use Rattle.soy_top.specs.Scripts.Script.{ScriptBundle, ScriptLine, FirstBundle, SecondBundle, Open, Pull, Close}
use Rattle.soy_top.specs.Scripts.Script.{Publish}
use Rattle.soy_top.specs.Scripts.Script.{script_lines}
use denote.Ref.{Bor}

abbrev pub view_bundle : code_bundle.ScriptBundle → ScriptBundle
view_bundle bundle.First = FirstBundle
view_bundle bundle.Second = SecondBundle

abbrev pub view_line : code_line.ScriptLine → ScriptLine
view_line (line.Open template json) = Open (chars template.now) (chars json.now)
view_line (line.Pull name count) = Pull name count
view_line (line.Close name) = Close name
view_line (line.Publish bundle) = Publish (view_bundle bundle)

-- the lines that are left
abbrev pub lines_left : Option (Bor (List ℕ)) → List (List ℕ)
lines_left None = []
lines_left (Some rest) = script_lines (chars rest.now)
