use Rattle.std.proofs.Common.{◌∙◌, sym, ap}
use Rattle.std.specs.Str.{chars}
use Rattle.esc_table.specs.PlainPrefix.{plain_prefix as rowless_prefix}
use Rattle.escapers.specs.PlainPrefix.{plain_prefix}
use Rattle.escapers.proofs.PlainPrefixes.{alphanumeric_prefix, component_prefix, css_prefix, html_prefix, js_prefix}
use Rattle.escapers.proofs.PlainPrefixes.{normal_prefix, whole_plain}
use Rattle.escapers.proofs.characters.plain_prefix.Goals as goal

pub returns-then-is_alphanumeric-clause-prefix : goal.returns-then-is_alphanumeric-clause-prefix
returns-then-is_alphanumeric-clause-prefix c =
    alphanumeric_prefix c.args.how c.requires.by_characters (chars c.args.text.now) (sym c.is_alphanumeric.ensures
    ∙ c.if-is_alphanumeric.true)

pub returns-in-Html-clause-prefix : goal.returns-in-Html-clause-prefix
returns-in-Html-clause-prefix c =
    c.plain_prefix.ensures.prefix ∙ ap (λ rows. rowless_prefix rows (chars c.args.text.now)) c.html.ensures
    ∙ html_prefix (chars c.args.text.now) ∙ ap (λ how. plain_prefix how (chars c.args.text.now)) (sym c.in-Html.is)

pub returns-in-UriNormal-clause-prefix : goal.returns-in-UriNormal-clause-prefix
returns-in-UriNormal-clause-prefix c =
    c.normal_prefix.ensures.prefix ∙ normal_prefix (chars c.args.text.now)
    ∙ ap (λ how. plain_prefix how (chars c.args.text.now)) (sym c.in-UriNormal.is)

pub returns-in-UriComponent-clause-prefix : goal.returns-in-UriComponent-clause-prefix
returns-in-UriComponent-clause-prefix c =
    c.unreserved_prefix.ensures.prefix ∙ component_prefix (chars c.args.text.now)
    ∙ ap (λ how. plain_prefix how (chars c.args.text.now)) (sym c.in-UriComponent.is)

pub returns-in-JsString-clause-prefix : goal.returns-in-JsString-clause-prefix
returns-in-JsString-clause-prefix c =
    c.plain_prefix-in-JsString.ensures.prefix ∙ ap (λ rows. rowless_prefix rows (chars c.args.text.now))
    c.js_table.ensures ∙ js_prefix (chars c.args.text.now) ∙ ap (λ how. plain_prefix how (chars c.args.text.now))
    (sym c.in-JsString.is)

pub returns-in-CssString-clause-prefix : goal.returns-in-CssString-clause-prefix
returns-in-CssString-clause-prefix c =
    c.plain_prefix-in-CssString.ensures.prefix ∙ ap (λ rows. rowless_prefix rows (chars c.args.text.now))
    c.css_table.ensures ∙ css_prefix (chars c.args.text.now)
    ∙ ap (λ how. plain_prefix how (chars c.args.text.now)) (sym c.in-CssString.is)

pub returns-in-Plain-clause-prefix : goal.returns-in-Plain-clause-prefix
returns-in-Plain-clause-prefix c =
    whole_plain (chars c.args.text.now) ∙ ap (λ how. plain_prefix how (chars c.args.text.now)) (sym c.in-Plain.is)
