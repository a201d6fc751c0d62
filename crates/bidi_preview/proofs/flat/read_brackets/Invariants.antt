use Rattle.std.proofs.Common.{◌≡◌, ◌++◌, drop, map}
use Rattle.bidi_class.specs.Brackets.{bracket}
use Rattle.bidi_preview.proofs.flat.read_brackets.Given as goal

abbrev pub invariant-loop-c : goal.invariant-loop-c
invariant-loop-c l = l.brackets.items ++ map bracket (drop l.c-index l.line) ≡ map bracket l.line
