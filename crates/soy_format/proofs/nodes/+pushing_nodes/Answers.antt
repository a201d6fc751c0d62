use Rattle.std.proofs.lemmas.Result.{on_ok_weaker}
use Rattle.soy_format.proofs.Pushes.{three_pushed}
use Rattle.soy_format.proofs.nodes.+pushing_nodes.Goals as goal

pub push_messages-returns : goal.push_messages-returns
push_messages-returns t c =
    on_ok_weaker c.push_ascii.result
    (λ h. three_pushed _ _ _ _ _ _ _ c.in_ok-push_message.ensures c.in_ok-push_message-2.ensures h)
    c.push_ascii.ensures
