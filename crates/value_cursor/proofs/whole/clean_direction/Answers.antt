use Rattle.std.proofs.Common.{◌∙◌, ap, sym}
use Rattle.std.specs.List.{list_all}
use Rattle.value_cursor.specs.Cleaned.{is_printable}
use Rattle.value_cursor.proofs.CleanBytes.{printable_ascii, printable_clean}
use Rattle.value_cursor.proofs.whole.clean_direction.Goals as goal

pub ascii_direction-requires : goal.ascii_direction-requires
ascii_direction-requires c =
    printable_ascii c.args.text.now (ap (list_all is_printable) (sym c.as_bytes.ensures.value)
    ∙ sym c.all_printable.ensures ∙ c.if-all_printable.true)

pub returns-then-all_printable-clause-clean : goal.returns-then-all_printable-clause-clean
returns-then-all_printable-clause-clean c =
    printable_clean c.args.text.now c.utf8.text (ap (list_all is_printable) (sym c.as_bytes.ensures.value)
    ∙ sym c.all_printable.ensures ∙ c.if-all_printable.true)
