use Rattle.std.proofs.Common.{subst, ap, ◌∙◌, option_map}
use Rattle.soy_front.specs.FrontAnswer.{Front}
use Rattle.soy_front.specs.ViewSources.{view_contents}
use Rattle.soy_top.specs.Accepts.{Refuses}
use Rattle.soy_top.specs.Answer.{Answer, accepted_then, play_answer}
use Rattle.soy_top.specs.Inputs.{bundle_content, second_number}
use Rattle.soy_top.specs.Numbered.{numbered}
use Rattle.soy_top.specs.Words.{command_words}
use Rattle.soy_top.proofs.Answering.{compiled_then, play_same}
use Rattle.soy_top.proofs.played.accept_play.Goals as goal

pub accept_second-requires : goal.accept_second-requires
accept_second-requires c = (_, c.in-Ok.ensures)

pub returns-in-Ok : goal.returns-in-Ok
returns-in-Ok c =
    let names = command_words c.args.names.now in
    let files = view_contents c.args.sources.now in
    let bytes = c.content_at-bytes.result.now in
    let one = option_map (λ b. b.now) c.bundle_content.result in
    let other = option_map (λ b. b.now) c.bundle_content-content.result in
    play_same names files c.args.script.now c.args.first.now c.args.second.now bytes _ one _ other _
    c.accept_second.result c.content_at-bytes.ensures c.bundle_content.ensures
    (c.bundle_content-content.ensures
    ∙ ap (λ n. bundle_content c.args.second.now n (view_contents c.args.before.now)) c.second_number.ensures)
    (compiled_then names files c.args.first.now one c.in-Ok.one (λ of.
    accepted_then names files c.args.second.now other (play_answer c.args.script.now bytes of)) c.accept_second.result
    c.in-Ok.ensures (c.accept_second.ensures one c.in-Ok.ensures))

pub returns-in-Err : goal.returns-in-Err
returns-in-Err c =
    let names = command_words c.args.names.now in
    let files = view_contents c.args.sources.now in
    let before = view_contents c.args.before.now in
    let answer : Front → Answer = λ of. accepted_then names files c.args.second.now
    (bundle_content c.args.second.now (second_number c.args.first.now) before)
    (play_answer c.args.script.now (numbered 0 before) of) in
    subst (λ x. Refuses (accepted_then names files c.args.first.now x answer) c.in-Err.ending) c.bundle_content.ensures
    (c.in-Err.ensures answer)
