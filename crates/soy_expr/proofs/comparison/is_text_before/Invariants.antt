use Rattle.std.proofs.Common.{◌≡◌, length}
use Rattle.std.specs.Str.{chars}
use denote.Shadow.{shadow}
use denote.Text.{Utf8}
use Rattle.soy_rules.specs.Val.{is_text_before}
use Rattle.soy_expr.proofs.comparison.is_text_before.Given as goal

abbrev pub invariant-loop-d : goal.invariant-loop-d
invariant-loop-d l =
    (is_text_before (chars l.left) (chars l.right) ≡ is_text_before (chars l.left_rest) (chars l.right_rest))
    × shadow (Utf8 l.left_rest) × shadow (Utf8 l.right_rest)

abbrev pub decreases-loop-d : goal.decreases-loop-d
decreases-loop-d l = length (chars l.right_rest)
