use Rattle.std.proofs.Common.{◌≡◌, drop, map}
use Rattle.std.specs.Char.{to_ascii_lowercase}
use Rattle.std.specs.Str.{bytes_eq}
use Rattle.bidi_preview.proofs.names.is_lower.Given as goal

abbrev pub invariant-loop-i : goal.invariant-loop-i
invariant-loop-i l = bytes_eq (map to_ascii_lowercase (drop l.i l.characters)) (drop l.i l.text)
    ≡ bytes_eq (map to_ascii_lowercase l.characters) l.text
