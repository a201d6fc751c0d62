-- The places of a plan's holes, in order, where each hole has one placing.
use Rattle.std.specs.Prelude.{◌≡◌, List, [], ◌∷◌, ◌++◌}
use Rattle.soy_base.specs.declared.place.Place.{Place}
use Rattle.soy_base.specs.declared.place.Placing.TheVariants.{Takes}
use Rattle.soy_meaning.specs.Walks.Machine.{Machine}
use Rattle.soy_meaning.specs.Paths.Plan.{Plan, Hole, Then, Either, Meet, Loop, Frame}
use Rattle.soy_meaning.specs.Paths.PathParts.{StandsAfter}
use Rattle.soy_meaning.specs.Walks.FourPoints.{StartsAs}

-- two lists of places, one after the other
pub record TwoLists (X Y : List Place → Type 0) (places : List Place) : Type 0 where
  pub one : List Place
  pub other : List Place
  pub joined : places ≡ one ++ other
  pub of_one : X one
  pub of_other : Y other

module _ {S : Type 0} (m : Machine S) where
  abbrev pub HolePlaces : Plan → (S → Type 0) → List Place → Type 0
  HolePlaces (Hole at classes) P places = (point : Place) × (places ≡ point ∷ [])
      × ((s : S) → P s → m.placing s ≡ Takes point)
  HolePlaces (Then p q) P places = TwoLists (HolePlaces p P) (HolePlaces q (StandsAfter m p P)) places
  HolePlaces (Either p q) P places = TwoLists (HolePlaces p P) (HolePlaces q P) places
  HolePlaces (Meet at p) P places = HolePlaces p P places
  HolePlaces (Loop at p) P places = HolePlaces p (StandsAfter m (Loop at p) P) places
  HolePlaces (Frame kind at p) P places = HolePlaces p (StartsAs m kind) places
  HolePlaces _ P places = places ≡ []
