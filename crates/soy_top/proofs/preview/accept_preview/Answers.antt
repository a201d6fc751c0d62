use Rattle.std.proofs.Common.{Err, ap}
use Rattle.soy_front.specs.ViewSources.{view_contents}
use Rattle.soy_top.specs.Answer.{accepted_then, preview_answer, seen_page}
use Rattle.soy_top.specs.Words.{command_words}
use Rattle.soy_top.proofs.Answering.{contents_same}
use Rattle.soy_top.proofs.Previews.ShownPages.{shown_accepted}
use Rattle.soy_top.proofs.preview.accept_preview.Goals as goal

pub returns-in-Ok : goal.returns-in-Ok
returns-in-Ok c =
    let names = command_words c.args.names.now in
    let files = view_contents c.args.sources.now in
    contents_same names files c.args.bundle.now
    (preview_answer (seen_page names files) c.args.template.now c.args.json_name.now) _ _ _ _ c.show.result
    c.content_at.ensures c.bundle_content.ensures
    (shown_accepted (λ page. accepted_then names files c.args.bundle.now _
    (preview_answer page c.args.template.now c.args.json_name.now c.content_at.result.now)) names files c.in-Ok.shown
    c.show.result (ap command_words c.in-Ok.ensures.names) (ap view_contents c.in-Ok.ensures.sources)
    c.in-Ok.ensures.accepts c.show.ensures)

pub returns-in-Err : goal.returns-in-Err
returns-in-Err c =
    let names = command_words c.args.names.now in
    let files = view_contents c.args.sources.now in
    contents_same names files c.args.bundle.now
    (preview_answer (seen_page names files) c.args.template.now c.args.json_name.now) _ _ _ _ (Err c.in-Err.ending)
    c.content_at.ensures c.bundle_content.ensures (c.in-Err.ensures.accepts (seen_page names files))
