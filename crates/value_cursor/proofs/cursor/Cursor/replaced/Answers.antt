use Rattle.std.proofs.Common.{◌∙◌, Some, ap, append-nil, encode_utf8_all, refl}
use Rattle.std.specs.Str.{chars}
use Rattle.std.proofs.lemmas.Str.{encodes-chars}
use Rattle.escapers.specs.declared.escaper.Escaper.TheVariants as escaper
use Rattle.value_cursor.specs.BytesLeft.{bytes_from}
use Rattle.value_cursor.specs.declared.cleaning.Cleaning.TheVariants as cleaning
use Rattle.value_cursor.specs.declared.plan.Plan.{Plan}
use Rattle.value_cursor.proofs.Forms.{escaped_bytes, plain_text}
use Rattle.value_cursor.proofs.cursor.Cursor.replaced.Goals as goal

pub returns-clause-whole : goal.returns-clause-whole
returns-clause-whole c =
    let plan : Plan = record { how = escaper.Plain; cleaning = cleaning.Nothing; instead = Some c.args.other } in
    c.enclosed.ensures.whole ∙ append-nil (bytes_from plan c.args.other.now 0) ∙ escaped_bytes plan escaper.Plain refl
    refl c.args.other.now
    ∙ ap encode_utf8_all (plain_text (chars c.args.other.now)) ∙ encodes-chars c.args.other.now c.utf8.other
