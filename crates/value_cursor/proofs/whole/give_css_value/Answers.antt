use Rattle.std.proofs.Common.{[], ◌∙◌, ap, append-nil, codes, encode_utf8_all, sym}
use Rattle.std.specs.Str.{chars}
use Rattle.std.proofs.lemmas.Bool.{cond-false, cond-true}
use Rattle.std.proofs.lemmas.Str.{encodes-chars}
use Rattle.escapers.specs.CssValue.{css_value, is_css_value}
use Rattle.value_cursor.proofs.Enclosed.{css_instead}
use Rattle.value_cursor.proofs.Givings.{gives_same}
use Rattle.value_cursor.proofs.whole.give_css_value.Goals as goal

pub returns-then-is_css_value : goal.returns-then-is_css_value
returns-then-is_css_value c =
    let text = chars c.args.text.now in
    record {
      gives = gives_same (encode_utf8_all (css_value text)) (c.put_text.ensures.gives [])
          (ap encode_utf8_all (cond-true (is_css_value text) text (codes "zSoyz")
          (sym c.is_css_value.ensures ∙ c.if-is_css_value.true))
          ∙ encodes-chars c.args.text.now c.utf8.text ∙ sym (append-nil c.args.text.now));
    }

pub returns-else-is_css_value : goal.returns-else-is_css_value
returns-else-is_css_value c =
    let text = chars c.args.text.now in
    record {
      gives = gives_same (encode_utf8_all (css_value text)) (c.put_text-else-is_css_value.ensures.gives [])
          (ap encode_utf8_all (cond-false (is_css_value text) text (codes "zSoyz")
          (sym c.is_css_value.ensures ∙ c.if-is_css_value.false)) ∙ css_instead);
    }
