use Rattle.soy_top.specs.Answer.{Done, accepted_text}
use Rattle.soy_top.proofs.accept.accept_check.Goals as goal

pub returns : goal.returns
returns c = c.in-Err.ensures (λ of. Done accepted_text)
