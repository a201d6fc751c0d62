use Rattle.std.proofs.Common.{◌≤◌, ◌+◌, length}
use Rattle.std.specs.Str.{chars}
use Rattle.soy_top.specs.Scripts.Script.{script_lines}
use Rattle.soy_top.specs.Scripts.ViewScript.{lines_left}
use Rattle.soy_top.proofs.CheckedLines.{Ends, left_count}
use Rattle.soy_top.proofs.play.Play.check.Given as goal

-- what the lines that are left are found to be, all are; and lines are no more than characters, and one
abbrev pub invariant-loop-rest : goal.invariant-loop-rest
invariant-loop-rest l = record {
  all : Ends l.self (script_lines (chars l.self.script.now)) (l.number + 1) (lines_left l.rest);
  few : l.number + left_count l.rest ≤ length (chars l.self.script.now) + 1;
}

abbrev pub decreases-loop-rest : goal.decreases-loop-rest
decreases-loop-rest l = left_count l.rest
