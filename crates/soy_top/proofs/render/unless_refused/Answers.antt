use Rattle.soy_front.specs.ViewSources.{view_contents}
use Rattle.soy_top.specs.Words.{command_words}
use Rattle.soy_top.proofs.Answering.{front_refused}
use Rattle.soy_top.proofs.render.unless_refused.Goals as goal

pub returns-in_ok-line-in-Err-Because : goal.returns-in_ok-line-in-Err-Because
returns-in_ok-line-in-Err-Because c = λ content first.
    front_refused (command_words c.args.names.now) (view_contents c.args.sources.now) c.args.bundle.now content
    c.in-Err-Because.refusal.fault c.in_ok-line-in-Err-Because.line
    (rw (c.in-Err-Because.is, c.in-Err-Because.field-0-is) at first) c.in_ok-line-in-Err-Because.ensures
