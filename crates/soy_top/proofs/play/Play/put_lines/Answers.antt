use Rattle.std.proofs.Common.{◌+◌, ◌≡◌, ◌≤◌, List, ℕ, Option, length, take, ap, ◌∙◌, subst, arith}
use Rattle.std.specs.Str.{chars}
use Rattle.std.specs.String.{string_bytes}
use Rattle.soy_desk.specs.DeskState.{DeskState}
use Rattle.soy_io.specs.Added.{added}
use Rattle.soy_top.specs.Scripts.Script.{ScriptLine, script_line}
use Rattle.soy_top.specs.Scripts.ViewPlay.{PlaysLine, read_step}
use Rattle.soy_top.specs.Scripts.ViewScript.{lines_left}
use Rattle.soy_top.proofs.CheckedLines.{fewer_left, some_left}
use Rattle.soy_top.proofs.Plays.PlayedLines.{PlaysOn, line_opens, plays_more, plays_none, plays_part, plays_prefix}
use Rattle.soy_top.proofs.play.Play.put_lines.Goals as goal

pub loop-rest-init : goal.loop-rest-init
loop-rest-init g c =
    let none : c.args.desk.opened ≡ 0 = ap (λ (d : DeskState). d.opened) c.requires.desk in record {
      few = omega (arith, none);
      on = plays_none c.args.self.now (g.K.Sink.taken c.args.out.now) c.args.desk c.requires.desk;
      later = omega arith;
    }

pub play_line-requires : goal.play_line-requires
play_line-requires g c =
    let script = chars c.args.self.now.script.now in
    let within = some_left c.loop-rest.rest c.in-Some.text c.loop-rest.desk.opened (length script) c.in-Some.is
    c.loop-rest.invariant.few in
    omega (arith, within, c.bytes_of-bytes.ensures.within, c.bytes_of-bytes.ensures.small)

pub returns-in_default-play_line-clause-err : goal.returns-in_default-play_line-clause-err
returns-in_default-play_line-clause-err g c =
    plays_prefix c.args.self.now (g.K.Sink.taken c.args.out.now) (g.K.Sink.taken c.loop-rest.out) c.loop-rest.desk
    (lines_left c.loop-rest.rest) c.loop-rest.invariant.on

pub returns-in-Err-clause-err : goal.returns-in-Err-clause-err
returns-in-Err-clause-err g c =
    let play = c.args.self.now in
    let before = g.K.Sink.taken c.args.out.now in
    let now = g.K.Sink.taken c.loop-rest.out in
    let line = chars c.first_line.result.0.now in
    let lines = lines_left c.first_line.result.1 in
    let text = string_bytes c.in-Ok.shown in
    let on = subst (PlaysOn play before now c.loop-rest.desk) (ap lines_left c.in-Some.is ∙ c.first_line.ensures.lines)
    c.loop-rest.invariant.on in
    let plays = subst (λ (l : Option ScriptLine). PlaysLine play l c.loop-rest.desk c.play_line.new.desk text)
    c.read_line.ensures c.in-Ok.ensures in
    plays_part play before now c.loop-rest.desk c.play_line.new.desk line lines text on plays
    (g.K.Sink.taken c.put_all.new.sink) c.in-Err.stop.taken
    (subst (λ (bs : List ℕ). c.in-Err.stop.taken ≤ length bs) c.as_bytes.ensures.value
    (omega (arith, c.in-Err.ensures.within)))
    (c.in-Err.ensures.err ∙ ap (λ (bs : List ℕ). added now (take c.in-Err.stop.taken bs)) c.as_bytes.ensures.value)

pub loop-rest-preserved : goal.loop-rest-preserved
loop-rest-preserved g c =
    let play = c.args.self.now in
    let before = g.K.Sink.taken c.args.out.now in
    let now = g.K.Sink.taken c.loop-rest.out in
    let script = chars play.script.now in
    let line = chars c.first_line.result.0.now in
    let lines = lines_left c.first_line.result.1 in
    let text = string_bytes c.in-Ok.shown in
    let on = subst (PlaysOn play before now c.loop-rest.desk) (ap lines_left c.in-Some.is ∙ c.first_line.ensures.lines)
    c.loop-rest.invariant.on in
    let plays = subst (λ (l : Option ScriptLine). PlaysLine play l c.loop-rest.desk c.play_line.new.desk text)
    c.read_line.ensures c.in-Ok.ensures in
    let one = line_opens play.first.value play.second.value (read_step play (script_line line)) c.loop-rest.desk
    c.play_line.new.desk text plays in
    let fewer = fewer_left c.loop-rest.rest c.first_line.result.1 c.in-Some.text c.loop-rest.desk.opened
    (length script + 1) c.in-Some.is c.loop-rest.invariant.few c.first_line.ensures.shorter in
    record {
      few = omega (arith, one, fewer);
      on = plays_more play before now c.loop-rest.desk c.play_line.new.desk line lines text on plays
          (g.K.Sink.taken c.put_all.new.sink)
          (c.in_default-put_all.ensures.ok ∙ ap (added now) c.as_bytes.ensures.value);
      later = omega (arith, c.loop-rest.invariant.later, c.in_default-put_all.ensures.later);
    }
