-- The points of a plan, by their addresses, and which states stand at a point.
--
-- A point is a static text, a hole, or where arms or turns meet. An address leads to it through the plan, so that "all
-- paths to one hole" needs no numbers. A path leads to a point by the parts before it; none leads into a frame
-- within, which has points of its own.
-- Example: in `Then p q` the address `Right Here` is that of q itself, to which the whole paths of p lead.
use Rattle.std.specs.Prelude.{◌≡◌, ℕ, List, [], ◌++◌, Option, Some, None, Ok}
use Rattle.soy_base.specs.declared.kind.Kind.{Kind}
use Rattle.soy_base.specs.declared.place.ValueClass.{ValueClass}
use Rattle.soy_meaning.specs.Walks.Machine.{Machine}
use Rattle.soy_meaning.specs.Paths.Plan.{Plan, StaticText, Hole, Then, Either, Meet, Loop, Frame}
use Rattle.soy_pieces.specs.Site.{Site}
use Rattle.soy_meaning.specs.Paths.PathParts.{PathPart, IsPath, state_after_parts}

pub data Address : Type 0 where
  Here : Address
  Left : Address → Address
  Right : Address → Address
  Inside : Address → Address

pub data Point : Type 0 where
  AtText : List ℕ → Point
  AtHole : List ValueClass → Point
  AtMeet : Point

abbrev pub point_at : Plan → Address → Option Point
point_at (StaticText at text) Here = Some (AtText text)
point_at (Hole at classes) Here = Some (AtHole classes)
point_at (Then p q) (Left x) = point_at p x
point_at (Then p q) (Right x) = point_at q x
point_at (Either p q) (Left x) = point_at p x
point_at (Either p q) (Right x) = point_at q x
point_at (Meet at p) Here = Some AtMeet
point_at (Meet at p) (Inside x) = point_at p x
point_at (Loop at p) Here = Some AtMeet
point_at (Loop at p) (Inside x) = point_at p x
point_at _ _ = None

-- the frame at an address: its kind and its plan
abbrev pub frame_at : Plan → Address → Option (Kind × Plan)
frame_at (Frame kind at p) Here = Some (kind, p)
frame_at (Frame kind at p) (Inside x) = frame_at p x
frame_at (Then p q) (Left x) = frame_at p x
frame_at (Then p q) (Right x) = frame_at q x
frame_at (Either p q) (Left x) = frame_at p x
frame_at (Either p q) (Right x) = frame_at q x
frame_at (Meet at p) (Inside x) = frame_at p x
frame_at (Loop at p) (Inside x) = frame_at p x
frame_at _ _ = None

-- the parts lead through a plan to a point of it
pub data LeadsTo : Plan → List PathPart → Address → Type 0 where
  to_text : {at : Site} {text : List ℕ} → LeadsTo (StaticText at text) [] Here
  to_hole : {at : Site} {classes : List ValueClass} → LeadsTo (Hole at classes) [] Here
  to_first : {p q : Plan} {a : List PathPart} {x : Address} → LeadsTo p a x → LeadsTo (Then p q) a (Left x)
  to_second : {p q : Plan} {a b : List PathPart} {x : Address} → IsPath p a → LeadsTo q b x →
      LeadsTo (Then p q) (a ++ b) (Right x)
  one_way : {p q : Plan} {a : List PathPart} {x : Address} → LeadsTo p a x → LeadsTo (Either p q) a (Left x)
  other_way : {p q : Plan} {a : List PathPart} {x : Address} → LeadsTo q a x → LeadsTo (Either p q) a (Right x)
  in_arms : {at : Site} {p : Plan} {a : List PathPart} {x : Address} → LeadsTo p a x → LeadsTo (Meet at p) a (Inside x)
  to_meet : {at : Site} {p : Plan} {a : List PathPart} → IsPath p a → LeadsTo (Meet at p) a Here
  to_head : {at : Site} {p : Plan} {a : List PathPart} → IsPath (Loop at p) a → LeadsTo (Loop at p) a Here
  in_body : {at : Site} {p : Plan} {a b : List PathPart} {x : Address} → IsPath (Loop at p) a → LeadsTo p b x →
      LeadsTo (Loop at p) (a ++ b) (Inside x)

-- a path leads to the point in this state
pub record StandsAt {S : Type 0} (m : Machine S) (p : Plan) (P : S → Type 0) (x : Address) (t : S) : Type 0 where
  pub from : S
  pub before : P from
  pub parts : List PathPart
  pub leads : LeadsTo p parts x
  pub reads : state_after_parts m parts from ≡ Ok t
