use Rattle.std.proofs.Common.{◌∙◌, ap, map, sym}
use Rattle.std.proofs.lemmas.Result.{IfOk-weaker}
use Rattle.soy_tree.specs.ViewNodes.{view_body, view_message}
use Rattle.msg_extract.specs.MessageId.{id_of, id_of_text}
use Rattle.msg_extract.specs.Views.ViewPieces.{view_piece}
use Rattle.msg_extract.proofs.MessageRows.{text_is}
use Rattle.msg_extract.proofs.ViewBodies.{view_message_is}
use Rattle.msg_extract.proofs.named_message.NamedMessage.id.Goals as goal

pub returns : goal.returns
returns c =
    let m = c.self.inside.message.now in
    IfOk-weaker c.id_of_text.result _ _
    (λ id e. e ∙ (ap (id_of_text m.meaning) (c.in_ok-text.ensures
    ∙ text_is (view_body m.body) (map view_piece c.self.inside.names.pieces) c.self.invariant.pieces)
    ∙ (sym (ap id_of (view_message_is m)) ∙ ap (λ n. id_of (view_message n)) c.self.view_is)))
    c.id_of_text.ensures
