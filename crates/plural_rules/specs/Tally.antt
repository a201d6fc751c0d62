-- What is known of a number and a flat condition after some of its parts.
-- Example: of 3 and `n = 1 or n = 2..4`, after the part 1..1 no alternative holds yet, and the open relation hasn't
-- found 3.
use Rattle.std.specs.Prelude.{ℤ, Bool, true, false, ◌&&◌, ◌||◌, nat_le, List, [], Option, Some, None}
use Rattle.plural_rules.specs.declared.condition.Comparison.{Comparison}
use Rattle.plural_rules.specs.declared.condition.Values.{Values}
use Rattle.plural_rules.specs.declared.condition.RulePart.{RulePart}
use Rattle.plural_rules.specs.declared.condition.RulePart.TheVariants as part
use Rattle.plural_rules.specs.declared.number.Compared.{Compared}
use Rattle.plural_rules.specs.declared.number.Tally.{Tally}
use Rattle.plural_rules.specs.Holds.{compared, is_in_ranges, is_met}

-- whether the relation holds that the parts left it in, with these values to come
abbrev pub is_met_with : List Values → Option Compared → Bool
is_met_with ranges None = true
is_met_with ranges (Some open_one) = is_met open_one.equal (open_one.found || is_in_ranges open_one.value ranges)

-- before the first part
abbrev pub no_tally : Tally
no_tally = record { any = false; all = false; relation = None }

-- one of the values may be what is compared
abbrev pub found_in : Values → Option Compared → Option Compared
found_in range None = None
found_in range (Some r) =
    Some (record {
      value = r.value;
      equal = r.equal;
      found = r.found || (nat_le range.first r.value && nat_le r.value range.last);
    })

-- a relation before its values
abbrev pub comparing : Comparison → ℤ → Compared
comparing by n = record { value = compared by n; equal = by.equal; found = false }

-- the tally after one more part
abbrev pub tally_with : ℤ → RulePart → Tally → Tally
tally_with n part.Alternative tally =
    record { any = tally.any || (tally.all && is_met_with [] tally.relation); all = true; relation = None }
tally_with n (part.Comparison by) tally = record {
  any = tally.any;
  all = tally.all && is_met_with [] tally.relation;
  relation = Some (comparing by n);
}
tally_with n (part.Values range) tally =
    record { any = tally.any; all = tally.all; relation = found_in range tally.relation }
