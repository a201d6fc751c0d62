use Rattle.std.proofs.Common.{◌≡◌, drop}
use Rattle.html_state.specs.Texts.{is_prefix}
use Rattle.html_state.proofs.text.begins.Given as goal

abbrev pub invariant-loop-i : goal.invariant-loop-i
invariant-loop-i l = is_prefix (drop l.i l.prefix) (drop l.i l.text) ≡ is_prefix l.prefix l.text
