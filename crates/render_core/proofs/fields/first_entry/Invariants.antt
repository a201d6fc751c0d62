use Rattle.std.proofs.Common.{◌≡◌, drop}
use Rattle.soy_rules.specs.Has.{entry_value}
use Rattle.soy_tree.specs.ViewValues.{view_entries}
use Rattle.render_core.proofs.fields.first_entry.Given as goal

abbrev pub invariant-loop-number : goal.invariant-loop-number
invariant-loop-number l =
    entry_value l.name (view_entries l.entries) ≡ entry_value l.name (view_entries (drop l.number l.entries))
