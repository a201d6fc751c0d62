use Rattle.std.proofs.Common.{◌≡◌, [], ap, ◌∙◌, subst}
use mir.Facts.{to_z-of_z}
use Rattle.std.specs.Fmt.{signed_decimal}
use Rattle.std.specs.Prelude.{IfSome, encode_utf8_all}
use Rattle.std.specs.Str.{chars}
use Rattle.std.proofs.lemmas.Fmt.{IsAscii-signed}
use Rattle.std.proofs.lemmas.Str.{chars-IsAscii}
use Rattle.soy_base.specs.declared.place.ValueClass.TheVariants as class
use Rattle.render_core.specs.Forms.{form_at}
use Rattle.render_core.specs.Pulls.{Gave}
use Rattle.render_core.proofs.ready.put_int.Goals as goal

pub returns-clause-gave : goal.returns-clause-gave
returns-clause-gave c =
    let text : c.format.result.now ≡ signed_decimal c.args.number = simp
    (to_z-of_z c.ranges.number) at c.format.ensures.text in
    let digits : chars c.format.result.now ≡ signed_decimal c.args.number =
    ap chars text ∙ chars-IsAscii (signed_decimal c.args.number) (IsAscii-signed c.args.number c.ranges.number.sfits) in
    subst (λ text. IfSome c.put_form.result (λ n. Gave (encode_utf8_all
    (form_at c.args.place class.Int text c.args.dir)) [] c.args.room.now c.put_form.new.room n)) digits
    c.put_form.ensures.gave
