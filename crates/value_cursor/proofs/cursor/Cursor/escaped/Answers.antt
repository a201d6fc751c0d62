use Rattle.std.proofs.Common.{◌∙◌, ap, encode_utf8_all, option_map, codes, Some, sym}
use Rattle.std.specs.Str.{chars}
use Rattle.std.proofs.lemmas.Bool.{cond-true}
use Rattle.escapers.specs.CssValue.{is_css_value}
use Rattle.escapers.specs.Esc.{esc}
use Rattle.value_cursor.proofs.Forms.{plain_text}
use Rattle.value_cursor.proofs.cursor.Cursor.escaped.Goals as goal

pub returns-in-CssValue-clause-whole : goal.returns-in-CssValue-clause-whole
returns-in-CssValue-clause-whole c =
    let text = chars c.args.text.now in
    ap (λ how. option_map encode_utf8_all (esc how c.args.class text)) c.in-CssValue.is
    ∙ ap (λ l. Some (encode_utf8_all l))
    (cond-true (is_css_value text) text (codes "zSoyz") (sym c.is_css_value.ensures ∙ c.if-is_css_value.true))
    ∙ ap Some (sym (c.by_characters-in-CssValue.ensures.whole ∙ ap encode_utf8_all (plain_text text)))
