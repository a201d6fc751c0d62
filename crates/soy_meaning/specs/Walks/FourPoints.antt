-- What is demanded of all paths of a frame.
--
-- 1. No character of a static text, and no end of one, is a fault.
-- 2. All paths to one hole give it one placing, which takes its classes.
-- 3. Each path ends in a state in which the frame's kind may end.
-- 4. Where arms or turns meet, at most 16 different states stand.
-- It is demanded of the frame, and of each frame within.
-- Example: `<a {if $x}href="{/if}{$y}">` breaks the second, since one path leads to `$y` in a URI and one in a tag.
use Rattle.std.specs.Prelude.{◌≡◌, ℕ, Bool, false, List, Option, Some, None, Ok, IsTrue}
use Rattle.std.specs.List.{list_all}
use Rattle.soy_base.specs.declared.kind.Kind.{Kind}
use Rattle.soy_base.specs.declared.place.Placing.{Placing}
use Rattle.soy_base.specs.declared.place.Placing.TheVariants.{Takes, Refuses}
use Rattle.soy_base.specs.declared.place.ValueClass.{ValueClass}
use Rattle.html_state.specs.TakesClass.{takes_class}
use Rattle.soy_meaning.specs.Walks.Machine.{Machine}
use Rattle.soy_meaning.specs.Paths.Plan.{Plan, Then, Either, Meet, Loop, Frame}
use Rattle.soy_meaning.specs.Walks.Points.{Address, Point, AtText, AtHole, AtMeet, point_at, StandsAt}
use Rattle.soy_meaning.specs.Paths.PathParts.{after_text, StandsAfter}
use Rattle.soy_meaning.specs.Walks.States.{AtMost, state_limit}

-- whether a placing takes each of these classes
abbrev pub takes_classes : Placing → List ValueClass → Bool
takes_classes (Takes point) classes = list_all (takes_class (Takes point)) classes
takes_classes (Refuses code) classes = false

module _ {S : Type 0} (m : Machine S) where
  abbrev pub Passes : List ℕ → S → Type 0
  Passes text s = (t : S) × (after_text m text s ≡ Ok t)

  -- one placing, which takes the classes
  pub record OnePlacing (classes : List ValueClass) (P : S → Type 0) : Type 0 where
    pub one : (s t : S) → P s → P t → m.placing s ≡ m.placing t
    pub takes : (s : S) → P s → IsTrue (takes_classes (m.placing s) classes)

  -- what a point demands of the states that stand there
  abbrev pub PointHolds : Option Point → (S → Type 0) → Type 0
  PointHolds None P = Unit {0}
  PointHolds (Some (AtText text)) P = (s : S) → P s → Passes text s
  PointHolds (Some (AtHole classes)) P = OnePlacing classes P
  PointHolds (Some AtMeet) P = AtMost state_limit P

  abbrev pub StartsAs : Kind → S → Type 0
  StartsAs kind s = s ≡ m.start kind

  -- a frame
  pub record FourPoints (kind : Kind) (p : Plan) : Type 0 where
    pub points : (x : Address) → PointHolds (point_at p x) (StandsAt m p (StartsAs kind) x)
    pub ends : (t : S) → StandsAfter m p (StartsAs kind) t → IsTrue (m.may_end kind t)

  -- all frames of a plan
  abbrev pub AcceptedPaths : Plan → Type 0
  AcceptedPaths (Then p q) = AcceptedPaths p × AcceptedPaths q
  AcceptedPaths (Either p q) = AcceptedPaths p × AcceptedPaths q
  AcceptedPaths (Meet at p) = AcceptedPaths p
  AcceptedPaths (Loop at p) = AcceptedPaths p
  AcceptedPaths (Frame kind at p) = FourPoints kind p × AcceptedPaths p
  AcceptedPaths _ = Unit {0}
