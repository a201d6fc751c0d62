use Rattle.std.proofs.Common.{subst, sym}
use Rattle.value_cursor.specs.declared.shares.TheConstants.{CSS_STRING, HTML, JS_STRING, URI_COMPONENT, URI_NORMAL}
use Rattle.value_cursor.specs.Shares.{AreShares}
use Rattle.value_cursor.proofs.ShareTables.{component_shares, css_shares, html_shares, js_shares, normal_shares}
use Rattle.value_cursor.proofs.shares.shares_by.Goals as goal

pub returns-in-Html : goal.returns-in-Html
returns-in-Html c = subst (λ how. AreShares how HTML) (sym c.in-Html.is) html_shares

pub returns-in-UriNormal : goal.returns-in-UriNormal
returns-in-UriNormal c = subst (λ how. AreShares how URI_NORMAL) (sym c.in-UriNormal.is) normal_shares

pub returns-in-UriComponent : goal.returns-in-UriComponent
returns-in-UriComponent c = subst (λ how. AreShares how URI_COMPONENT) (sym c.in-UriComponent.is) component_shares

pub returns-in-JsString : goal.returns-in-JsString
returns-in-JsString c = subst (λ how. AreShares how JS_STRING) (sym c.in-JsString.is) js_shares

pub returns-in-CssString : goal.returns-in-CssString
returns-in-CssString c = subst (λ how. AreShares how CSS_STRING) (sym c.in-CssString.is) css_shares
