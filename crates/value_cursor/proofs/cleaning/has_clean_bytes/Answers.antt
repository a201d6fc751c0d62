use Rattle.std.proofs.Common.{◌∙◌, ap, sym}
use Rattle.std.specs.List.{list_all}
use Rattle.value_cursor.specs.Cleaned.{is_clean_byte}
use Rattle.value_cursor.proofs.CleanBytes.{bytes_clean}
use Rattle.value_cursor.proofs.cleaning.has_clean_bytes.Goals as goal

pub returns : goal.returns
returns c e =
    bytes_clean c.args.text.now c.utf8.text (ap (list_all is_clean_byte) (sym c.as_bytes.ensures.value)
    ∙ sym c.all_clean.ensures ∙ e)
