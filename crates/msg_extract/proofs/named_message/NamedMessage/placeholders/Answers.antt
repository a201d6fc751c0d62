use Rattle.std.proofs.Common.{◌∙◌, ap, map, sym}
use Rattle.std.proofs.lemmas.Result.{IfOk-weaker}
use Rattle.soy_tree.specs.ViewNodes.{view_body, view_message}
use Rattle.msg_extract.specs.PlaceholderNodes.{placeholders_of}
use Rattle.msg_extract.specs.Views.ViewPieces.{view_piece}
use Rattle.msg_extract.proofs.MessageRows.{placeholders_rows}
use Rattle.msg_extract.proofs.ViewBodies.{view_message_is}
use Rattle.msg_extract.proofs.named_message.NamedMessage.placeholders.Goals as goal

pub returns : goal.returns
returns c =
    let m = c.self.inside.message.now in
    IfOk-weaker c.placeholders_of.result _ _
    (λ rows e. e ∙ (placeholders_rows (view_body m.body) (map view_piece c.self.inside.names.pieces)
    c.self.invariant.pieces ∙ (sym (ap placeholders_of (view_message_is m))
    ∙ ap (λ n. placeholders_of (view_message n)) c.self.view_is)))
    c.placeholders_of.ensures
