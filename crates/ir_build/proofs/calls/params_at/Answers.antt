use Rattle.std.proofs.Common.{◌∙◌, ap, option_map, sym}
use Rattle.ir_build.proofs.Callees.{params_found, params_missing}
use Rattle.ir_build.proofs.calls.params_at.Goals as goal

pub returns-in-Some : goal.returns-in-Some
returns-in-Some c =
    params_found c.args.all.now c.args.number c.in-Some.declared.now c.items.result.now
    (sym (ap (option_map (λ d. d.now)) c.in-Some.is) ∙ c.get.ensures) c.items.ensures

pub returns-in-None : goal.returns-in-None
returns-in-None c =
    params_missing c.args.all.now c.args.number (sym (ap (option_map (λ d. d.now)) c.in-None.is)
    ∙ c.get.ensures)
