use Rattle.soy_front.specs.ViewSources.{view_contents}
use Rattle.soy_top.specs.Answer.{render_answer}
use Rattle.soy_top.specs.Words.{command_words}
use Rattle.soy_top.proofs.Answering.{page_then}
use Rattle.soy_top.proofs.render.accept_page.Goals as goal

pub returns-in-Ok-clause-accepts : goal.returns-in-Ok-clause-accepts
returns-in-Ok-clause-accepts c =
    page_then (command_words c.args.names.now) (view_contents c.args.sources.now) c.args.bundle.now _ c.in-Ok.compiled
    (λ page. render_answer page c.args.template.now c.args.json_name.now c.args.json.now) c.accept_template.result
    c.in-Ok.ensures (c.accept_template.ensures.accepts _ c.in-Ok.ensures)

pub returns-in-Err-clause-accepts : goal.returns-in-Err-clause-accepts
returns-in-Err-clause-accepts c =
    λ page. c.in-Err.ensures (render_answer page c.args.template.now c.args.json_name.now c.args.json.now)
