use Rattle.std.proofs.Common.{map, ap, sym, ◌∙◌}
use Rattle.soy_tree.specs.ViewNodes.{view_body}
use Rattle.msg_extract.specs.Catalogue.{listed}
use Rattle.msg_extract.specs.Views.ViewPieces.{view_piece}
use Rattle.msg_extract.proofs.MessageRows.{row_is}
use Rattle.msg_extract.proofs.ViewBodies.{view_message_is}
use Rattle.msg_extract.proofs.catalogue.named_row.Goals as goal

pub returns : goal.returns
returns c =
    row_is c.args.message.now.desc c.args.message.now.meaning (view_body c.args.message.now.body)
    c.args.message.now.span (map view_piece c.args.names.now.pieces) c.in_ok-id.id c.in_ok-text.text
    c.in_ok-desc.desc c.in_ok-meaning.meaning c.in_ok-placeholders.placeholders c.in_ok-plurals.plurals
    c.in_ok-selects.selects c.requires.pieces c.in_ok-text.ensures c.in_ok-id.ensures
    c.in_ok-desc.ensures c.in_ok-meaning.ensures c.in_ok-placeholders.ensures c.in_ok-plurals.ensures
    c.in_ok-selects.ensures
    ∙ sym (ap listed (view_message_is c.args.message.now))
