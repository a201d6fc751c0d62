use Rattle.std.proofs.Common.{◌≤◌, ◌+◌, length}
use Rattle.std.specs.Str.{chars}
use Rattle.soy_top.specs.Scripts.ViewScript.{lines_left}
use Rattle.soy_top.proofs.CheckedLines.{left_count}
use Rattle.soy_top.proofs.Plays.PlayedLines.{PlaysOn}
use Rattle.soy_top.proofs.play.Play.put_lines.Given as goal

abbrev pub invariant-loop-rest : goal.invariant-loop-rest
invariant-loop-rest g l = record {
  few : l.desk.opened + left_count l.rest ≤ length (chars l.self.script.now) + 1;
  on : PlaysOn l.self (g.K.Sink.taken l.initial.out) (g.K.Sink.taken l.out) l.desk (lines_left l.rest);
  later : g.K.Sink.faults l.initial.out ≤ g.K.Sink.faults l.out;
}

abbrev pub decreases-loop-rest : goal.decreases-loop-rest
decreases-loop-rest g l = left_count l.rest
