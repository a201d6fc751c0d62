use Rattle.std.proofs.Common.{◌≡◌, ap, ◌∙◌, arith}
use Rattle.std.specs.Fmt.{decimal}
use Rattle.std.specs.Str.{chars}
use Rattle.std.specs.String.{string_bytes}
use Rattle.std.proofs.lemmas.Str.{chars-IsAscii}
use Rattle.std.proofs.lemmas.Fmt.{IsAscii-decimal}
use Rattle.soy_format.proofs.ascii.decimal.Goals as goal

pub returns : goal.returns
returns c =
    let digits : string_bytes c.in_ok-to_string.field-0 ≡ decimal c.args.number = c.in_ok-to_string.ensures.ok in
    c.new.ensures ∙ ap chars digits
    ∙ chars-IsAscii (decimal c.args.number) (IsAscii-decimal c.args.number (omega (arith, c.ranges.number)))
