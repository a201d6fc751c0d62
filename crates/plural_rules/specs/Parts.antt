-- What a flat condition says: its parts are taken from the last to the first.
-- Example: the parts of `n = 1, 3 or i = 2` are Alternative, Comparison n, Values 1..1, Values 3..3, Alternative,
-- Comparison i and Values 2..2, and say two alternatives of one relation each.
use Rattle.std.specs.Prelude.{List, [], ◌∷◌}
use Rattle.plural_rules.specs.declared.condition.Values.{Values}
use Rattle.plural_rules.specs.declared.condition.RulePart.{RulePart}
use Rattle.plural_rules.specs.declared.condition.RulePart.TheVariants as part
use Rattle.plural_rules.specs.Condition.{Relation, Alternatives}

-- what the parts from some state on say: values of a relation that began before, relations of an alternative that began
-- before, and whole alternatives
pub record Rest : Type 0 where
  pub ranges : List Values
  pub relations : List Relation
  pub alternatives : Alternatives

abbrev pub nothing_more : Rest
nothing_more = record { ranges = []; relations = []; alternatives = [] }

abbrev pub with_part : RulePart → Rest → Rest
with_part (part.Values range) rest =
    record { ranges = range ∷ rest.ranges; relations = rest.relations; alternatives = rest.alternatives }
with_part (part.Comparison by) rest =
    record {
      ranges = [];
      relations = (record { comparison = by; ranges = rest.ranges }) ∷ rest.relations;
      alternatives = rest.alternatives;
    }
with_part part.Alternative rest =
    record { ranges = []; relations = []; alternatives = rest.relations ∷ rest.alternatives }

abbrev pub rest_of : List RulePart → Rest
rest_of [] = nothing_more
rest_of (p ∷ parts) = with_part p (rest_of parts)

abbrev pub condition_of : List RulePart → Alternatives
condition_of parts = (rest_of parts).alternatives
