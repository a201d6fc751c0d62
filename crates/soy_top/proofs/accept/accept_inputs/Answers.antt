use Rattle.std.proofs.Common.{sym, subst}
use Rattle.soy_front.specs.Sources.{source_answer}
use Rattle.soy_front.specs.ViewSources.{view_contents}
use Rattle.soy_top.specs.Accepts.{Accepts}
use Rattle.soy_top.specs.Answer.{Done, accepted_text, accepted_then, inputs_answer, tree_answer}
use Rattle.soy_top.specs.View.{view_command}
use Rattle.soy_top.specs.Words.{command_words}
use Rattle.soy_top.proofs.accept.accept_inputs.Goals as goal

pub returns-in-Render : goal.returns-in-Render
returns-in-Render c =
    subst (λ command. Accepts (inputs_answer (view_command command) (view_contents c.args.before.now)
    (view_contents c.args.sources.now)) c.accept_render.result) (sym c.in-Render.is) c.accept_render.ensures

pub returns-in-Check : goal.returns-in-Check
returns-in-Check c =
    subst (λ command. Accepts (inputs_answer (view_command command) (view_contents c.args.before.now)
    (view_contents c.args.sources.now)) c.accept_check.result) (sym c.in-Check.is)
    (subst (λ content. Accepts (accepted_then (command_words c.in-Check.files.now) (view_contents c.args.sources.now)
    c.in-Check.bundle.now content (λ of. Done accepted_text)) c.accept_check.result) c.bundle_content.ensures
    c.accept_check.ensures)

pub returns-in-Gen : goal.returns-in-Gen
returns-in-Gen c =
    subst (λ command. Accepts (inputs_answer (view_command command) (view_contents c.args.before.now)
    (view_contents c.args.sources.now)) c.accept_gen.result) (sym c.in-Gen.is) c.accept_gen.ensures

pub returns-in-Play : goal.returns-in-Play
returns-in-Play c =
    subst (λ command. Accepts (inputs_answer (view_command command) (view_contents c.args.before.now)
    (view_contents c.args.sources.now)) c.accept_play.result) (sym c.in-Play.is) c.accept_play.ensures

pub returns-in-Preview : goal.returns-in-Preview
returns-in-Preview c =
    subst (λ command. Accepts (inputs_answer (view_command command) (view_contents c.args.before.now)
    (view_contents c.args.sources.now)) c.accept_preview.result) (sym c.in-Preview.is) c.accept_preview.ensures

pub returns-in-Format : goal.returns-in-Format
returns-in-Format c =
    subst (λ command. Accepts (inputs_answer (view_command command) (view_contents c.args.before.now)
    (view_contents c.args.sources.now)) c.accept_format.result) (sym c.in-Format.is)
    (subst (λ bytes. Accepts (tree_answer c.in-Format.file.now bytes (source_answer bytes)) c.accept_format.result)
    c.content_at.ensures c.accept_format.ensures)
