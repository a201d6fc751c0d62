-- A part moved from the rest into the tally leaves whether the condition holds.
use Rattle.std.proofs.Common.{◌≡◌, Bool, true, false, ◌&&◌, ◌||◌, ℤ, Option, Some, None, refl, ap}
use Rattle.plural_rules.specs.declared.condition.RulePart.{RulePart}
use Rattle.plural_rules.specs.declared.condition.RulePart.TheVariants as part
use Rattle.plural_rules.specs.declared.condition.Values.{Values}
use Rattle.plural_rules.specs.declared.number.Compared.{Compared}
use Rattle.plural_rules.specs.declared.number.Tally.{Tally}
use Rattle.std.specs.List.{list_all}
use Rattle.std.specs.Prelude.{List, ◌∷◌, [], nat_le}
use Rattle.plural_rules.specs.Holds.{is_met, is_in_ranges, holds, relation_holds, compared}
use Rattle.plural_rules.specs.Parts.{Rest, with_part}
use Rattle.plural_rules.specs.Tally.{tally_with, is_met_with, found_in}

-- whether the condition holds, with the rest to come
abbrev pub holds_with : ℤ → Rest → Tally → Bool
holds_with n rest tally =
    tally.any || (tally.all && is_met_with rest.ranges tally.relation && list_all (relation_holds n) rest.relations)
    || holds rest.alternatives n

-- an alternative that has ended
ended_alternative : (a x l h : Bool) → ((a || (x && true)) || (l || h)) ≡ (((a || x) || ((true && true) && l)) || h)
ended_alternative true x l h = refl
ended_alternative false true l h = refl
ended_alternative false false l h = refl

-- `and` may be grouped either way
and_assoc : (x y l : Bool) → (x && (y && l)) ≡ ((x && y) && l)
and_assoc true y l = refl
and_assoc false y l = refl

-- `or` may be grouped either way
or_assoc : (x y l : Bool) → (x || (y || l)) ≡ ((x || y) || l)
or_assoc true y l = refl
or_assoc false y l = refl

-- the first of the values to come may be what is compared
found_first : (range : Values) (ranges : List Values) (r : Option Compared)
    → is_met_with (range ∷ ranges) r ≡ is_met_with ranges (found_in range r)
found_first range ranges None = refl
found_first range ranges (Some r) =
    ap (is_met r.equal) (or_assoc r.found (nat_le range.first r.value && nat_le r.value range.last)
    (is_in_ranges r.value ranges))

-- the law for each part
pub holds_with-with_part : (n : ℤ) (p : RulePart) (rest : Rest) (t : Tally)
    → holds_with n (with_part p rest) t ≡ holds_with n rest (tally_with n p t)
holds_with-with_part n part.Alternative rest t =
    ended_alternative t.any (t.all && is_met_with [] t.relation) (list_all (relation_holds n) rest.relations)
    (holds rest.alternatives n)
holds_with-with_part n (part.Comparison by) rest t =
    ap (λ b. (t.any || b) || holds rest.alternatives n)
    (and_assoc (t.all && is_met_with [] t.relation) (is_met by.equal (is_in_ranges (compared by n) rest.ranges))
    (list_all (relation_holds n) rest.relations))
holds_with-with_part n (part.Values range) rest t =
    ap (λ b. (t.any || ((t.all && b) && list_all (relation_holds n) rest.relations)) || holds rest.alternatives n)
    (found_first range rest.ranges t.relation)
