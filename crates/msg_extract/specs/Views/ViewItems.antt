-- The characters, prints and cuts that those of the code stand for.
use Rattle.std.specs.Prelude.{map}
use Rattle.soy_tree.specs.MessageText.{MessageItem, Character, Printed, Cut, TextCut, PrintCut, TagCut}
use Rattle.soy_tree.specs.ViewExpressions.{view_expr}
use Rattle.msg_extract.specs.declared.item.Item.{Item}
use Rattle.msg_extract.specs.declared.item.Item.TheVariants as code
use Rattle.msg_extract.specs.declared.cut.MessageCut.{MessageCut}
use Rattle.msg_extract.specs.declared.cut.MessageCut.TheVariants as code_cut

abbrev pub view_item : Item → MessageItem
view_item (code.Character c span) = Character c span
view_item (code.Printed e phname span) = Printed (view_expr e.now) phname.now span

abbrev pub view_cut : MessageCut → Cut
view_cut (code_cut.Text text) = TextCut (map view_item text)
view_cut (code_cut.Print e phname span) = PrintCut (view_expr e.now) phname.now span
view_cut (code_cut.Tag tag) = TagCut (map view_item tag)
