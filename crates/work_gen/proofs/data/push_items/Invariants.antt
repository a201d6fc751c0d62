use Rattle.std.proofs.Common.{◌≡◌, ◌-◌, ◌++◌}
use Rattle.std.specs.Str.{chars}
use Rattle.std.specs.String.{string_bytes}
use Rattle.work_gen.specs.Data.{items_from, items_json}
use Rattle.work_gen.proofs.data.push_items.Given as goal

-- what is written, and the items that are left
abbrev pub invariant-loop-before : goal.invariant-loop-before
invariant-loop-before l =
    chars (string_bytes l.out) ++ items_json l.before (items_from (l.count - l.before) l.draws.state)
    ≡ chars (string_bytes l.initial.out) ++ items_json 0 (items_from l.count l.initial.draws.state)
