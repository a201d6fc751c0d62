use Rattle.std.proofs.Common.{Ok, Err, ap, refl}
use Rattle.soy_front.specs.ViewSources.{view_contents}
use Rattle.soy_top.specs.Answer.{accepted_then, ended_page, render_answer}
use Rattle.soy_top.specs.declared.output.Output.TheVariants as output
use Rattle.soy_top.specs.Words.{command_words}
use Rattle.soy_top.proofs.Answering.{pages_same}
use Rattle.soy_top.proofs.Pages.{page_written}
use Rattle.soy_top.proofs.render.accept_render.Goals as goal

pub returns-in-Ok : goal.returns-in-Ok
returns-in-Ok c =
    let names = command_words c.args.names.now in
    let files = view_contents c.args.sources.now in
    pages_same names files (ended_page names files) c.args.json_name.now c.args.bundle.now c.args.template.now
    c.args.template.now _ _ _ _ (Ok (output.Page c.in-Ok.page)) refl
    c.content_at.ensures c.bundle_content.ensures
    (page_written (λ page. accepted_then names files c.args.bundle.now _
    (render_answer page c.args.template.now c.args.json_name.now c.content_at.result.now)) names files c.in-Ok.page
    (ap command_words c.in-Ok.ensures.names) (ap view_contents c.in-Ok.ensures.sources) c.in-Ok.ensures.accepts)

pub returns-in-Err : goal.returns-in-Err
returns-in-Err c =
    let names = command_words c.args.names.now in
    let files = view_contents c.args.sources.now in
    pages_same names files (ended_page names files) c.args.json_name.now c.args.bundle.now c.args.template.now
    c.args.template.now _ _ _ _ (Err c.in-Err.ending) refl
    c.content_at.ensures c.bundle_content.ensures (c.in-Err.ensures.accepts (ended_page names files))
