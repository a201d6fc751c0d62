use Rattle.std.proofs.Common.{[], ◌∙◌, ap, encode_utf8_all, subst, sym}
use Rattle.std.specs.Prelude.{IfSome}
use Rattle.std.specs.Str.{chars}
use Rattle.escapers.specs.JsValue.{js_value}
use Rattle.value_cursor.specs.Gives.{Gives}
use Rattle.value_cursor.proofs.Enclosed.{literal_text, other_value, word_text}
use Rattle.value_cursor.proofs.Givings.{gives_same}
use Rattle.value_cursor.proofs.whole.give_js_value.Goals as goal

pub returns-in-Text-clause-gives : goal.returns-in-Text-clause-gives
returns-in-Text-clause-gives c =
    subst (λ l. IfSome c.give_enclosed.result (Gives l [] c.args.room.now c.give_enclosed.new.room))
    (literal_text c.args.text.now
    ∙ ap (λ class. encode_utf8_all (js_value class (chars c.args.text.now))) (sym c.in-Text.is))
    c.give_enclosed.ensures.gives

pub returns-in_default : goal.returns-in_default
returns-in_default c = record {
  gives = gives_same (encode_utf8_all (js_value c.args.class (chars c.args.text.now))) c.put_between.ensures
      (ap encode_utf8_all (other_value c.args.class (chars c.args.text.now) c.in_default.not-Text)
      ∙ word_text c.args.text.now c.utf8.text);
  unchanged = λ e. cc;
}
