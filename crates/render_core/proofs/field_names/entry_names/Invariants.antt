use Rattle.std.proofs.Common.{◌≡◌, ◌++◌, drop, map}
use Rattle.render_core.specs.Begins.{entry_names}
use Rattle.render_core.proofs.field_names.entry_names.Given as goal

abbrev pub invariant-loop-entry : goal.invariant-loop-entry
invariant-loop-entry l =
    map (λ name. name.now) l.names.items ++ entry_names (drop l.entry-index l.entries) ≡ entry_names l.entries
