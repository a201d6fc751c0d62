use Rattle.std.proofs.Common.{◌≡◌, ap, ◌∙◌}
use mir.Facts.{to_z-of_z}
use Rattle.std.specs.Fmt.{signed_decimal}
use Rattle.std.specs.Str.{chars}
use Rattle.std.specs.String.{string_bytes}
use Rattle.std.proofs.lemmas.Str.{chars-IsAscii}
use Rattle.std.proofs.lemmas.Fmt.{IsAscii-signed}
use Rattle.soy_format.proofs.ascii.signed_decimal.Goals as goal

pub returns : goal.returns
returns c =
    let digits : string_bytes c.in_ok-to_string.field-0 ≡ signed_decimal c.args.number = simp
    (to_z-of_z c.ranges.number) at c.in_ok-to_string.ensures.ok in
    c.new.ensures ∙ ap chars digits
    ∙ chars-IsAscii (signed_decimal c.args.number) (IsAscii-signed c.args.number c.ranges.number.sfits)
