use Rattle.std.proofs.Common.{[], ◌∙◌, ◌++◌, ap, codes, encode_utf8_all, subst, sym}
use Rattle.std.specs.Prelude.{IfSome}
use Rattle.std.specs.List.{flat_map, list_all}
use Rattle.std.specs.Str.{chars}
use Rattle.escapers.specs.declared.escaper.Escaper.TheVariants as escaper
use Rattle.escapers.specs.Esc.{escaped_character}
use Rattle.bidi_text.specs.Wrap.{wrapped_text}
use Rattle.value_cursor.specs.Gives.{Gives}
use Rattle.value_cursor.specs.PlainBytes.{is_plain}
use Rattle.value_cursor.proofs.Enclosed.{opening_bytes}
use Rattle.value_cursor.proofs.Givings.{gives_same}
use Rattle.value_cursor.proofs.PlainTexts.{plain_ascii, plain_clean, plain_forms}
use Rattle.value_cursor.proofs.Wrapped.{wrapped_clean}
use Rattle.value_cursor.proofs.whole.give_wrapped.Goals as goal

pub ascii_direction-requires : goal.ascii_direction-requires
ascii_direction-requires c =
    plain_ascii c.args.text.now (ap (list_all is_plain) (sym c.as_bytes.ensures.value) ∙ sym c.all_plain.ensures
    ∙ c.if-all_plain.true)

pub returns-then-all_plain-clause-gives : goal.returns-then-all_plain-clause-gives
returns-then-all_plain-clause-gives c =
    let text = c.args.text.now in
    let direction = c.ascii_direction.result in
    let plain = ap (list_all is_plain) (sym c.as_bytes.ensures.value) ∙ sym c.all_plain.ensures
    ∙ c.if-all_plain.true in
    gives_same (encode_utf8_all (wrapped_text (chars text) c.args.context)) c.put_plain.ensures
    (sym (wrapped_clean (chars text) c.args.context direction (plain_clean text c.utf8.text plain)
    c.ascii_direction.ensures)
    ∙ ap (λ l. (opening_bytes direction ++ l) ++ codes "</span>") (plain_forms text c.utf8.text plain))

pub returns-clause-gives : goal.returns-clause-gives
returns-clause-gives c =
    let text = chars c.args.text.now in
    subst (λ l. IfSome c.give_enclosed.result (Gives l [] c.args.room.now c.give_enclosed.new.room))
    (ap (λ l. (l ++ encode_utf8_all (flat_map (escaped_character escaper.Html) text)) ++ codes "</span>")
    c.span_begin.ensures.tag
    ∙ wrapped_clean text c.args.context c.in-Some.direction c.in-Some.ensures.clean c.in-Some.ensures.direction)
    c.give_enclosed.ensures.gives
