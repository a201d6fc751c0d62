use Rattle.std.proofs.Common.{ap, refl, ◌∙◌, ◌≡◌}
use Rattle.std.specs.Prelude.{Ok, Err, Some, None}
use Rattle.soy_base.specs.StateAfter.{state_after}
use Rattle.script_state.specs.CssNext.{css_next}
use Rattle.html_state.specs.declared.row.AttributeValue.TheVariants as value
use Rattle.html_state.specs.RowAt.{quoted}
use Rattle.html_state.specs.PartNext.{part_next}
use Rattle.html_state.specs.AfterAll.{after_all}
use Rattle.html_state.specs.Texts.{and_then}
use Rattle.html_state.specs.ValueNext.{followed}
use Rattle.html_state.proofs.PlainTexts.{plain_quoted, plain_style_value, plain_uri, plain_value}
use Rattle.html_state.proofs.laws.law_quoted_text.Goals as goal

pub returns-clause-plain : goal.returns-clause-plain
returns-clause-plain c = λ around quote now text is none.
    plain_quoted around quote now text none ∙ ap (and_then (λ following. Ok (quoted around quote following)))
    (plain_value now text is)

pub returns-clause-uri : goal.returns-clause-uri
returns-clause-uri c = λ around quote name part text none.
    plain_quoted around quote (value.Uri name part) text none
    ∙ (ap (and_then (λ following. Ok (quoted around quote following))) (plain_uri name part text)
    ∙ elim (after_all part_next part text) as (λ o. and_then (λ following. Ok (quoted around quote following))
    (and_then (λ following. Ok (value.Uri name following)) o)
    ≡ and_then (λ following. Ok (quoted around quote (value.Uri name following))) o)
    [ Ok following ↦ refl | Err fault ↦ refl ])

pub returns-clause-style : goal.returns-clause-style
returns-clause-style c = λ around quote state text none.
    plain_quoted around quote (value.Style state) text none
    ∙ (ap (and_then (λ following. Ok (quoted around quote following))) (plain_style_value state text)
    ∙ elim (state_after css_next state text) as (λ o. and_then (λ following. Ok (quoted around quote following))
    (followed value.Style o) ≡ followed (λ following. quoted around quote (value.Style following)) o)
    [ Some following ↦ refl | None ↦ refl ])
