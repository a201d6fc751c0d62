use Rattle.std.proofs.Common.{◌∙◌, ap, map, sym}
use Rattle.std.proofs.lemmas.Result.{IfOk-weaker}
use Rattle.soy_tree.specs.ViewNodes.{view_body, view_message}
use Rattle.msg_extract.specs.SelectorRows.{selectors_of}
use Rattle.msg_extract.specs.Views.ViewPieces.{view_piece}
use Rattle.msg_extract.proofs.SelectorRows.{rows_of_message}
use Rattle.msg_extract.proofs.ViewBodies.{view_message_is}
use Rattle.msg_extract.proofs.named_message.NamedMessage.selectors.Goals as goal

pub returns : goal.returns
returns c =
    let m = c.self.inside.message.now in
    IfOk-weaker c.selectors_among.result _ _
    (λ rows e. e ∙ (rows_of_message (view_body m.body) (map view_piece c.self.inside.names.pieces)
    c.self.invariant.pieces ∙ (sym (ap selectors_of (view_message_is m))
    ∙ ap (λ n. selectors_of (view_message n)) c.self.view_is)))
    c.selectors_among.ensures
