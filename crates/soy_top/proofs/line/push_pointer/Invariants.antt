use Rattle.std.proofs.Common.{◌≡◌, ◌++◌, drop}
use Rattle.std.specs.List.{flat_map}
use Rattle.std.specs.String.{string_bytes}
use Rattle.soy_top.specs.Pointer.{pointer_step}
use Rattle.soy_top.proofs.line.push_pointer.Given as goal

abbrev pub invariant-loop-step : goal.invariant-loop-step
invariant-loop-step l =
    string_bytes l.text ++ flat_map pointer_step (drop l.step-index l.path)
    ≡ string_bytes l.initial.text ++ flat_map pointer_step l.path
