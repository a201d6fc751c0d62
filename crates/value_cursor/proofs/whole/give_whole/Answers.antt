use Rattle.std.proofs.Common.{[], ◌∙◌, Some, ap, append-nil, encode_utf8_all, option_map, sym}
use Rattle.std.specs.Str.{chars}
use Rattle.value_cursor.specs.EscapedForm.{escaped_form}
use Rattle.value_cursor.proofs.Enclosed.{plain_bytes}
use Rattle.value_cursor.proofs.Givings.{gives_same}
use Rattle.value_cursor.proofs.Wholes.{whole_given}
use Rattle.value_cursor.proofs.whole.give_whole.Goals as goal

pub returns-in-Plain-clause-whole : goal.returns-in-Plain-clause-whole
returns-in-Plain-clause-whole c =
    let text = c.args.text.now in
    whole_given (escaped_form c.args.how c.args.class (chars text) c.args.context) text c.args.room.now
    c.put_text.new.room (Some c.put_text.result)
    (ap (λ how. option_map encode_utf8_all (escaped_form how c.args.class (chars text) c.args.context)) c.in-Plain.is
    ∙ ap Some (plain_bytes text c.utf8.text))
    (gives_same text (c.put_text.ensures.gives []) (sym (append-nil text)))
