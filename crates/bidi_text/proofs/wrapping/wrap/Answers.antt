use Rattle.std.proofs.Common.{◌++◌, codes, ap, sym, ◌∙◌, encode_utf8_all}
use Rattle.std.specs.Str.{chars}
use Rattle.std.specs.String.{string_bytes}
use Rattle.std.proofs.lemmas.Str.{chars-nil, encodes-chars, IsUtf8-string_bytes}
use Rattle.esc_table.specs.EscapedText.{escaped_text}
use Rattle.esc_table.specs.HtmlRows.{html_rows}
use Rattle.bidi_text.specs.Clean.{cleaned_text}
use Rattle.bidi_text.specs.Estimate.{estimated_direction}
use Rattle.bidi_text.specs.Wrap.{direction_word}
use Rattle.bidi_text.proofs.WrappedParts.{begins_span, ends_span, ends_tag, five_added}
use Rattle.bidi_text.proofs.wrapping.wrap.Goals as goal

pub returns-clause-characters : goal.returns-clause-characters
returns-clause-characters c =
    five_added (codes "<span dir=\"") (direction_word (estimated_direction (chars c.args.text.now) c.args.context))
    (codes "\">")
    (escaped_text html_rows (cleaned_text (chars c.args.text.now))) (codes "</span>")
    (chars (string_bytes c.new-wrapped.result)) (chars (string_bytes c.push_text.new.out))
    (chars (string_bytes c.push_text-2.new.out))
    (chars (string_bytes c.push_text-3.new.out)) (chars (string_bytes c.push_escaped.new.out))
    (chars (string_bytes c.push_text-4.new.out))
    (ap chars c.new-wrapped.ensures.bytes ∙ chars-nil)
    (c.in_ok-push_text.ensures.ok ∙ ap (λ l. chars (string_bytes c.new-wrapped.result) ++ l) begins_span)
    (c.in_ok-push_text-2.ensures.ok ∙ ap (λ l. chars (string_bytes c.push_text.new.out) ++ l)
    (c.direction_word.ensures ∙ ap direction_word c.estimate.ensures))
    (c.in_ok-push_text-3.ensures.ok ∙ ap (λ l. chars (string_bytes c.push_text-2.new.out) ++ l) ends_tag)
    (c.in_ok-push_escaped.ensures
    ∙ ap (λ l. chars (string_bytes c.push_text-3.new.out) ++ escaped_text html_rows l)
    (ap chars c.as_str.ensures.value ∙ c.in_ok-cleaned.ensures))
    (c.in_ok-push_text-4.ensures.ok ∙ ap (λ l. chars (string_bytes c.push_escaped.new.out) ++ l) ends_span)

pub returns-clause-bytes : goal.returns-clause-bytes
returns-clause-bytes c =
    sym (encodes-chars (string_bytes c.push_text-4.new.out) (IsUtf8-string_bytes c.push_text-4.new.out))
    ∙ ap encode_utf8_all (returns-clause-characters c)
