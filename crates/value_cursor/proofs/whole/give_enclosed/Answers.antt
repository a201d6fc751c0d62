use Rattle.std.proofs.Common.{[], ◌∙◌, ◌++◌, ◌-◌, ap, drop, encode_utf8_all, length, refl, sym, take}
use Rattle.std.specs.List.{flat_map}
use Rattle.std.specs.Str.{chars}
use Rattle.escapers.specs.Esc.{escaped_character}
use Rattle.value_cursor.specs.ByteForms.{byte_form}
use Rattle.value_cursor.proofs.ByteForms.{body_forms}
use Rattle.value_cursor.proofs.Givings.{gives_same}
use Rattle.value_cursor.proofs.Wholes.{enclosed_given}
use Rattle.value_cursor.proofs.whole.give_enclosed.Goals as goal

pub returns-clause-gives : goal.returns-clause-gives
returns-clause-gives c =
    let body = encode_utf8_all (flat_map (escaped_character c.args.how) (chars c.args.text.now)) in
    let plain = c.own_run.result.0.now in
    let others = c.own_run.result.1.now in
    let first = c.put_text-opened.new.room in
    let n = c.put_text-opened.result in
    enclosed_given c.args.opening.now c.args.closing.now
    (take n first ++ (c.put_body.new.room ++ drop (length first - n) (drop n first)))
    (c.put_text-opened.ensures.gives (body ++ c.args.closing.now))
    (gives_same body c.put_body.ensures.gives
    (body_forms c.args.how c.args.text.now plain others c.own_run.ensures.whole c.own_run.ensures.run_utf8
    c.own_run.ensures.plain (c.is_by_bytes.ensures c.if-not-is_by_bytes.false)
    ∙ ap (λ l. plain ++ flat_map (byte_form c.args.how) l) (sym c.as_bytes.ensures.value)))
    refl (c.put_text.ensures.gives [])
