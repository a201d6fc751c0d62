use Rattle.std.proofs.Common.{sym, ap, ◌∙◌}
use Rattle.std.specs.Str.{chars}
use Rattle.std.specs.String.{string_bytes}
use Rattle.std.proofs.lemmas.List.{nil_from_length}
use Rattle.std.proofs.lemmas.Str.{chars-nil}
use Rattle.soy_format.proofs.TextLines.{no_line}
use Rattle.soy_format.proofs.text.push_body_line.Goals as goal

pub returns-in-None : goal.returns-in-None
returns-in-None c =
    no_line (chars (string_bytes c.args.out.now)) (chars (string_bytes c.args.line))
    (ap chars (nil_from_length (string_bytes c.args.line) (sym c.args.line.bytes.ok.0 ∙ c.in-None.ensures.none))
    ∙ chars-nil)
