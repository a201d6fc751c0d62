use Rattle.soy_top.specs.Answer.{entry_of}
use Rattle.soy_top.proofs.Pages.{entry_numbered}
use Rattle.soy_top.proofs.render.accept_template.Goals as goal

pub returns-clause-accepts : goal.returns-clause-accepts
returns-clause-accepts c = λ content are.
    c.accept_entry.ensures.accepts content are (entry_of are.of c.args.template.now)
    (entry_numbered _ content c.args.compiled are c.args.template.now _ c.entry-entry.ensures)
