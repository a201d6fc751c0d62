use Rattle.std.proofs.Common.{◌∙◌, ap, length, sym}
use Rattle.ir_build.specs.Numbers.{number_if_visible}
use Rattle.ir_build.proofs.Numbered.{found_number, number_found}
use Rattle.ir_build.proofs.templates.number_of.Goals as goal

pub returns-in-Some : goal.returns-in-Some
returns-in-Some c =
    let all = c.args.all.now in
    c.number_if_visible.ensures
    ∙ ap (λ ds. number_if_visible c.args.namespace.now ds c.in-Some.number) c.declared-declared.ensures
    ∙ ap (found_number c.args.namespace.now all) (sym c.in-Some.is ∙ c.number.ensures)
    ∙ sym (number_found c.args.namespace.now c.args.full.now all)

pub returns-in-None : goal.returns-in-None
returns-in-None c =
    let all = c.args.all.now in
    ap length c.declared-declared.ensures
    ∙ ap (found_number c.args.namespace.now all) (sym c.in-None.is ∙ c.number.ensures)
    ∙ sym (number_found c.args.namespace.now c.args.full.now all)
