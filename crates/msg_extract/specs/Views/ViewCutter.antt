-- What a `Cutter` of the code makes of the items that are still to come.
-- Example: before `a>b`, a cutter that is in the tag `<` makes the tag `<a>` and the text `b`.
use Rattle.std.specs.Prelude.{List, ◌++◌, map, Option, option_map}
use Rattle.soy_tree.specs.MessageText.{MessageItem, Cut, cuts_after_text, cuts_in_tag}
use Rattle.msg_extract.specs.Views.ViewItems.{view_item, view_cut}
use Rattle.msg_extract.specs.declared.cut.Cutter.{Cutter}
use Rattle.msg_extract.specs.declared.cut.CutMode.{CutMode}
use Rattle.msg_extract.specs.declared.cut.CutMode.TheVariants as mode

abbrev pub cuts_in_mode : CutMode → List MessageItem → List MessageItem → Option (List Cut)
cuts_in_mode mode.Text rest begun = cuts_after_text rest begun
cuts_in_mode (mode.Tag quote) rest begun = cuts_in_tag rest quote begun

-- the cuts so far before others
abbrev pub cuts_before : List Cut → Option (List Cut) → Option (List Cut)
cuts_before done others = option_map (λ more. done ++ more) others

abbrev pub cutter_cuts : Cutter → List MessageItem → Option (List Cut)
cutter_cuts c rest = cuts_before (map view_cut c.cuts) (cuts_in_mode c.mode rest (map view_item c.begun))
