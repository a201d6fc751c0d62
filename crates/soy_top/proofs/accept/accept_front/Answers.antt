use Rattle.std.specs.Prelude.{option_map}
use Rattle.soy_front.specs.ViewSources.{view_contents}
use Rattle.soy_front.proofs.FrontAnswers.{accepted_answered}
use Rattle.soy_top.specs.Words.{command_words}
use Rattle.soy_top.proofs.Answering.{front_refused}
use Rattle.soy_top.proofs.accept.accept_front.Goals as goal

pub returns-in-Ok : goal.returns-in-Ok
returns-in-Ok c =
    accepted_answered (view_contents c.args.sources.now) (option_map (λ b. b.now) c.args.content) c.in-Ok.accepted
    c.in-Ok.ensures.accepts

pub returns-in_ok-line-in-Err-Because : goal.returns-in_ok-line-in-Err-Because
returns-in_ok-line-in-Err-Because c =
    front_refused (command_words c.args.names.now) (view_contents c.args.sources.now) c.args.bundle.now
    (option_map (λ b. b.now) c.args.content) c.in-Err-Because.refusal.fault c.in_ok-line-in-Err-Because.line
    (rw c.in-Err-Because.field-0-is at c.in-Err-Because.ensures.accepts) c.in_ok-line-in-Err-Because.ensures
