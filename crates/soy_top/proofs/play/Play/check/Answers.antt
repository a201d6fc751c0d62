use Rattle.std.proofs.Common.{◌+◌, Option, None, Ok, Err, length, ap, ◌∙◌, subst, arith}
use Rattle.std.specs.Str.{chars}
use Rattle.soy_top.specs.Scripts.Script.{ScriptLine, script_lines}
use Rattle.soy_top.specs.Scripts.ViewPlay.{ChecksLine}
use Rattle.soy_top.specs.Scripts.ViewPlay.Checks.{Ended}
use Rattle.soy_top.specs.Scripts.ViewScript.{lines_left}
use Rattle.soy_top.proofs.CheckedLines.{Ends, fewer_left, line_passed, line_stopped, some_left}
use Rattle.soy_top.proofs.play.Play.check.Goals as goal

pub overflow_add-number : goal.overflow_add-number
overflow_add-number c =
    let script = chars c.args.self.now.script.now in
    let within = some_left c.loop-rest.rest c.in-Some.text c.loop-rest.number (length script) c.in-Some.is
    c.loop-rest.invariant.few in
    omega (arith, within, c.bytes_of-bytes.ensures.within, c.bytes_of-bytes.ensures.small)

pub returns-in-Err : goal.returns-in-Err
returns-in-Err c =
    let play = c.args.self.now in
    let all = script_lines (chars play.script.now) in
    let line = chars c.first_line.result.0.now in
    let lines = lines_left c.first_line.result.1 in
    line_stopped play (c.loop-rest.number + 1) line lines c.in-Err.refusal c.at_line.result
    (subst (λ (l : Option ScriptLine). ChecksLine play l (Err c.in-Err.refusal)) c.read_line.ensures c.in-Err.ensures)
    c.at_line.ensures
    (subst (Ends play all (c.loop-rest.number + 1)) (ap lines_left c.in-Some.is ∙ c.first_line.ensures.lines)
    c.loop-rest.invariant.all)

pub loop-rest-preserved : goal.loop-rest-preserved
loop-rest-preserved c =
    let play = c.args.self.now in
    let script = chars play.script.now in
    let all = script_lines script in
    let line = chars c.first_line.result.0.now in
    let lines = lines_left c.first_line.result.1 in record {
      all = line_passed play all (c.loop-rest.number + 1) line lines
          (subst (λ (l : Option ScriptLine). ChecksLine play l (Ok tt)) c.read_line.ensures
          c.in_default-check_line.ensures)
          (subst (Ends play all (c.loop-rest.number + 1)) (ap lines_left c.in-Some.is ∙ c.first_line.ensures.lines)
          c.loop-rest.invariant.all);
      few = fewer_left c.loop-rest.rest c.first_line.result.1 c.in-Some.text c.loop-rest.number (length script + 1)
          c.in-Some.is c.loop-rest.invariant.few c.first_line.ensures.shorter;
    }

pub returns : goal.returns
returns c =
    let play = c.args.self.now in
    let all = script_lines (chars play.script.now) in
    subst (Ends play all (c.loop-rest.number + 1)) (ap lines_left c.in_default.is) c.loop-rest.invariant.all None Ended
