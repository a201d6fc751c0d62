use Rattle.std.proofs.Common.{◌∙◌, ap, append-nil}
use Rattle.std.specs.Option.{option_map_or}
use Rattle.value_cursor.specs.BytesLeft.{bytes_from, source}
use Rattle.value_cursor.proofs.Forms.{escaped_bytes}
use Rattle.value_cursor.proofs.cursor.Cursor.by_characters.Goals as goal

pub returns-clause-whole : goal.returns-clause-whole
returns-clause-whole c =
    c.enclosed.ensures.whole ∙ append-nil (bytes_from c.escaping.result (source c.escaping.result c.args.text.now) 0)
    ∙ ap (λ other. bytes_from c.escaping.result (option_map_or (λ o. o.now) other c.args.text.now) 0)
    c.escaping.ensures.own
    ∙ escaped_bytes c.escaping.result c.args.how c.escaping.ensures.how c.escaping.ensures.nothing c.args.text.now
