use Rattle.std.proofs.Common.{ap, subst, sym, ◌∙◌}
use Rattle.std.specs.Str.{IsUtf8}
use Rattle.soy_top.specs.Answer.{play_answer}
use Rattle.soy_top.specs.Scripts.ScriptSteps.{step_line}
use Rattle.soy_top.proofs.Plays.PlayChecks.{script_played, script_refused}
use Rattle.soy_top.proofs.played.accept_steps.Goals as goal

pub returns-in-Ok : goal.returns-in-Ok
returns-in-Ok c = λ contents bundle other_bundle one are are_other same.
    let play = c.in_ok-play.play in
    let made = c.in_ok-play.ensures in
    ap (λ bs. play_answer c.args.script.now bs are.of are_other.of) (sym made.script)
    ∙ script_played contents bundle other_bundle one c.args.other are are_other play made.typed (made.first ∙ sym same)
    made.second c.args.script.now play.script.now (subst (λ bs. IsUtf8 bs) (sym made.script) c.utf8.text)
    c.in-Ok.ensures

pub returns-in-Err-Because : goal.returns-in-Err-Because
returns-in-Err-Because c = λ contents bundle other_bundle one are are_other same.
    let play = c.in_ok-play.play in
    let made = c.in_ok-play.ensures in
    let fault = c.in-Err-Because.fault in (
      step_line c.args.script.now fault,
      ap (λ bs. play_answer c.args.script.now bs are.of are_other.of) (sym made.script)
          ∙ script_refused contents bundle other_bundle one c.args.other are are_other play made.typed
          (made.first ∙ sym same) made.second c.args.script.now play.script.now fault
          (subst (λ bs. IsUtf8 bs) (sym made.script) c.utf8.text)
          (rw c.in-Err-Because.field-0-is at c.in-Err-Because.ensures),
      c.in_ok-line-in-Err-Because.ensures,
    )
