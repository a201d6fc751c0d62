-- The places of a plan's holes: there is one for each hole, in the order in which the walk first meets them, and it is
-- the placing of each state in which a path of the hole's frame leads to the hole.
--
-- Example: `{$a}<p title="{$b}">` has the places Text and Attr.
use Rattle.std.specs.Prelude.{◌≡◌, ◌+◌, List, Some, length, get_or}
use Rattle.soy_base.specs.declared.kind.Kind.{Kind}
use Rattle.soy_base.specs.declared.place.Place.{Place}
use Rattle.soy_base.specs.declared.place.Placing.TheVariants.{Takes}
use Rattle.soy_base.specs.declared.place.ValueClass.{ValueClass}
use Rattle.html_state.specs.StatePlacing.{placing}
use Rattle.html_state.specs.declared.row.State.{State}
use Rattle.soy_meaning.specs.Walks.FourPoints.{StartsAs}
use Rattle.soy_meaning.specs.Walks.Holes.{hole_count, holes_before}
use Rattle.soy_meaning.specs.Walks.PageMachine.{page_machine}
use Rattle.soy_meaning.specs.Paths.Plan.{Plan}
use Rattle.soy_meaning.specs.Walks.Points.{Address, AtHole, StandsAt, frame_at, point_at}

pub record PlacesOfHoles (p : Plan) (places : List Place) : Type 0 where
  pub count : length places ≡ hole_count p
  pub placed : (y : Address) (kind : Kind) (q : Plan) → frame_at p y ≡ Some (kind, q) →
      (x : Address) (classes : List ValueClass) → point_at q x ≡ Some (AtHole classes) →
      (t : State) → StandsAt page_machine q (StartsAs page_machine kind) x t →
      (d : Place) → placing t ≡ Takes (get_or places (holes_before p y + holes_before q x) d)
