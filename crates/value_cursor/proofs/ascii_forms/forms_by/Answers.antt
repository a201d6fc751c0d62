-- The texts of each table are computed.
use Rattle.std.proofs.Common.{◌∙◌, ap, refl, sym}
use Rattle.std.specs.List.{list_all}
use lib.Utf8.{encode}
use Rattle.value_cursor.specs.AsciiForms.{ascii_forms}
use Rattle.value_cursor.specs.ByteForms.{is_short}
use Rattle.value_cursor.proofs.ascii_forms.forms_by.Goals as goal

pub returns-in-Html-clause-forms : goal.returns-in-Html-clause-forms
unfolding encode
returns-in-Html-clause-forms c = refl ∙ ap ascii_forms (sym c.in-Html.is)

pub returns-in-Html-clause-short : goal.returns-in-Html-clause-short
unfolding encode
returns-in-Html-clause-short c = ap (λ how. list_all is_short (ascii_forms how)) c.in-Html.is ∙ refl

pub returns-in-UriNormal-clause-forms : goal.returns-in-UriNormal-clause-forms
unfolding encode
returns-in-UriNormal-clause-forms c = refl ∙ ap ascii_forms (sym c.in-UriNormal.is)

pub returns-in-UriNormal-clause-short : goal.returns-in-UriNormal-clause-short
unfolding encode
returns-in-UriNormal-clause-short c = ap (λ how. list_all is_short (ascii_forms how)) c.in-UriNormal.is ∙ refl

pub returns-in-UriComponent-clause-forms : goal.returns-in-UriComponent-clause-forms
unfolding encode
returns-in-UriComponent-clause-forms c = refl ∙ ap ascii_forms (sym c.in-UriComponent.is)

pub returns-in-UriComponent-clause-short : goal.returns-in-UriComponent-clause-short
unfolding encode
returns-in-UriComponent-clause-short c = ap (λ how. list_all is_short (ascii_forms how)) c.in-UriComponent.is ∙ refl

pub returns-in-JsString-clause-forms : goal.returns-in-JsString-clause-forms
unfolding encode
returns-in-JsString-clause-forms c = refl ∙ ap ascii_forms (sym c.in-JsString.is)

pub returns-in-JsString-clause-short : goal.returns-in-JsString-clause-short
unfolding encode
returns-in-JsString-clause-short c = ap (λ how. list_all is_short (ascii_forms how)) c.in-JsString.is ∙ refl

pub returns-in-CssString-clause-forms : goal.returns-in-CssString-clause-forms
unfolding encode
returns-in-CssString-clause-forms c = refl ∙ ap ascii_forms (sym c.in-CssString.is)

pub returns-in-CssString-clause-short : goal.returns-in-CssString-clause-short
unfolding encode
returns-in-CssString-clause-short c = ap (λ how. list_all is_short (ascii_forms how)) c.in-CssString.is ∙ refl
