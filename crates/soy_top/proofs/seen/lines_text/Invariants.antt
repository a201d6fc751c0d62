use Rattle.std.proofs.Common.{◌≡◌, ◌++◌, drop}
use Rattle.std.specs.String.{string_bytes}
use Rattle.soy_top.specs.SeenText.{lines_text}
use Rattle.soy_top.proofs.seen.lines_text.Given as goal

abbrev pub invariant-loop-line : goal.invariant-loop-line
invariant-loop-line l = string_bytes l.text ++ lines_text (drop l.line-index l.lines) ≡ lines_text l.lines
