use Rattle.std.proofs.Common.{◌≡◌, ◌++◌, drop, map}
use Rattle.std.specs.Str.{chars}
use Rattle.std.specs.String.{string_bytes}
use Rattle.msg_extract.specs.Canonical.CanonicalText.{text_of_items, written_text}
use Rattle.msg_extract.specs.Canonical.QuotedRuns.{written_from}
use Rattle.msg_extract.specs.Views.ViewItems.{view_item}
use Rattle.msg_extract.proofs.quoting.quoted.Given as goal

abbrev pub invariant-loop-item : goal.invariant-loop-item
invariant-loop-item l =
    chars (string_bytes l.out)
    ++ written_from l.in_plural l.in_run (text_of_items (map view_item (drop l.item-index l.text)))
    ≡ written_text l.in_plural (text_of_items (map view_item l.text))
