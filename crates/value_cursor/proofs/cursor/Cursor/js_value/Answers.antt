use Rattle.std.proofs.Common.{◌∙◌, ap, encode_utf8_all, sym}
use Rattle.std.specs.Str.{chars}
use Rattle.escapers.specs.JsValue.{js_value}
use Rattle.value_cursor.proofs.Enclosed.{literal_bytes, other_value, word_bytes}
use Rattle.value_cursor.proofs.cursor.Cursor.js_value.Goals as goal

pub returns-in-Text-clause-whole : goal.returns-in-Text-clause-whole
returns-in-Text-clause-whole c =
    c.enclosed.ensures.whole ∙ literal_bytes c.escaping.result c.args.text.now c.escaping.ensures.how
    c.escaping.ensures.nothing c.escaping.ensures.own
    ∙ ap (λ class. encode_utf8_all (js_value class (chars c.args.text.now))) (sym c.in-Text.is)

pub returns-in_default : goal.returns-in_default
returns-in_default c = record {
  fits = c.enclosed-in_default.ensures.fits;
  whole = c.enclosed-in_default.ensures.whole
      ∙ word_bytes c.escaping-in_default.result c.args.text.now c.escaping-in_default.ensures.how
      c.escaping-in_default.ensures.nothing c.escaping-in_default.ensures.own
      ∙ ap encode_utf8_all (sym (other_value c.args.class (chars c.args.text.now) c.in_default.not-Text));
}
