-- The four points, place by place, by recursion on the plan; P are the states before it.
use Rattle.std.specs.Prelude.{IsTrue}
use Rattle.soy_meaning.specs.Walks.Machine.{Machine}
use Rattle.soy_meaning.specs.Paths.Plan.{Plan, Nothing, Nowhere, StaticText, Hole, Then, Either, Meet, Loop, Frame}
use Rattle.soy_meaning.specs.Paths.PathParts.{StandsAfter}
use Rattle.soy_meaning.specs.Walks.States.{AtMost}
use Rattle.soy_meaning.specs.Walks.FourPoints.{Passes, OnePlacing, StartsAs}

module _ {S : Type 0} (m : Machine S) where
  abbrev pub Holds : Plan → (S → Type 0) → Type 0
  Holds Nothing P = Unit {0}
  Holds Nowhere P = Unit {0}
  Holds (StaticText at text) P = (s : S) → P s → Passes m text s
  Holds (Hole at classes) P = OnePlacing m classes P
  Holds (Then p q) P = Holds p P × Holds q (StandsAfter m p P)
  Holds (Either p q) P = Holds p P × Holds q P
  Holds (Meet at p) P = Holds p P × AtMost 16 (StandsAfter m p P)
  Holds (Loop at p) P = Holds p (StandsAfter m (Loop at p) P) × AtMost 16 (StandsAfter m (Loop at p) P)
  Holds (Frame kind at p) P =
      Holds p (StartsAs m kind) × ((t : S) → StandsAfter m p (StartsAs m kind) t → IsTrue (m.may_end kind t))
