use Rattle.std.proofs.Common.{◌≡◌, drop}
use Rattle.soy_rules.specs.FieldNames.{field_names}
use Rattle.soy_rules.specs.FirstNames.{first_from, first_number}
use Rattle.soy_rules.proofs.field_names.walked.Given as goal

abbrev pub invariant-loop-number : goal.invariant-loop-number
invariant-loop-number l =
    first_number l.name (field_names l.fields) ≡ first_from l.name l.number (field_names (drop l.number l.fields))
