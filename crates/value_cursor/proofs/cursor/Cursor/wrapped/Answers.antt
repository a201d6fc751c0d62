use Rattle.std.proofs.Common.{◌≡◌, ◌∙◌, None, ◌++◌, ap, codes, encode_utf8_all, refl, sym}
use Rattle.std.specs.Str.{chars}
use Rattle.bidi_text.specs.Clean.{cleaned_text}
use Rattle.bidi_text.specs.Estimate.{estimated_direction}
use Rattle.esc_table.specs.EscapedText.{escaped_text}
use Rattle.esc_table.specs.HtmlRows.{html_rows}
use Rattle.escapers.specs.declared.escaper.Escaper.TheVariants as escaper
use Rattle.value_cursor.specs.BytesLeft.{forms}
use Rattle.value_cursor.specs.declared.plan.Plan.{Plan}
use Rattle.value_cursor.proofs.Enclosed.{opening_bytes, span_end, span_ltr, span_rtl, wrapped_bytes}
use Rattle.value_cursor.proofs.Wrapped.{forms_cleaned}
use Rattle.value_cursor.proofs.cursor.Cursor.wrapped.Goals as goal
use Rattle.value_cursor.proofs.cursor.Cursor.wrapped.Goals.{in-Ltr, in-Rtl}

pub returns-clause-whole : goal.returns-clause-whole
returns-clause-whole c =
    let direction = estimated_direction (chars c.args.text.now) c.args.context in
    let opening : c.match-estimate.opening.now ≡ opening_bytes direction = elim c.match-estimate.branch [
      | in-Ltr w ↦ ap (λ o. o.now) w.opening-is ∙ sym span_ltr ∙ ap opening_bytes (sym w.in-Ltr.is ∙ c.estimate.ensures)
      | in-Rtl w ↦ ap (λ o. o.now) w.opening-is ∙ sym span_rtl ∙ ap opening_bytes (sym w.in-Rtl.is ∙ c.estimate.ensures)
    ] in
    let plan : Plan = record { how = escaper.Html; cleaning = c.args.cleaning; instead = None } in
    c.enclosed.ensures.whole
    ∙ ap (λ l. (l ++ encode_utf8_all (forms plan 0 (chars c.args.text.now))) ++ codes "</span>") opening
    ∙ ap (λ l. (opening_bytes direction ++ encode_utf8_all l) ++ codes "</span>")
    (forms_cleaned plan (chars c.args.text.now) refl c.requires.cleans)
    ∙ ap (λ l. (opening_bytes direction ++ encode_utf8_all
    (escaped_text html_rows (cleaned_text (chars c.args.text.now)))) ++ l) (sym span_end)
    ∙ sym (wrapped_bytes direction (escaped_text html_rows (cleaned_text (chars c.args.text.now))))
