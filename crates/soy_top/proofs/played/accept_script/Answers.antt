use Rattle.std.proofs.Common.{subst, ◌∙◌}
use Rattle.soy_base.specs.declared.code.Code.TheVariants as code
use Rattle.soy_top.specs.Scripts.AcceptsScript.{AcceptsScript}
use Rattle.soy_top.specs.Line.{fault_line}
use Rattle.soy_top.proofs.Plays.PlayChecks.{bytes_refused}
use Rattle.soy_top.proofs.played.accept_script.Goals as goal

pub returns-in-Ok : goal.returns-in-Ok
returns-in-Ok c =
    subst (λ bs. AcceptsScript c.args.script.now bs c.args.first c.args.other c.accept_steps.result)
    c.in-Ok.ensures.cases.0 c.accept_steps.ensures

pub returns-in_ok-line-in-Err : goal.returns-in_ok-line-in-Err
returns-in_ok-line-in-Err c = λ contents bundle other_bundle one are are_other same. (
  fault_line c.args.script.now c.args.bytes.now
      (record { code = code.NotUtf8; file = 0; at = c.valid_up_to.result }),
  bytes_refused c.args.script.now c.args.bytes.now c.valid_up_to.result are.of are_other.of c.in-Err.ensures.cases.0
      (c.valid_up_to.ensures ∙ c.in-Err.ensures.valid_len),
  c.in_ok-line-in-Err.ensures,
)
