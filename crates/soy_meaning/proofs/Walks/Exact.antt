-- The walk meets no fault exactly where the four points hold, and then gives the places of the holes.
use Rattle.std.proofs.Common.{◌≡◌, List, [], ◌∷◌, ◌++◌, map, Option, Some, Ok, ◌+◌, length, get_or}
use Rattle.std.proofs.Common.{sym, ap}
use Rattle.std.proofs.Common.{◌∙◌}
use Rattle.soy_base.specs.declared.kind.Kind.{Kind}
use Rattle.soy_base.specs.declared.place.Place.{Place}
use Rattle.soy_base.specs.declared.place.Placing.TheVariants.{Takes}
use Rattle.soy_base.specs.declared.place.ValueClass.{ValueClass}
use Rattle.soy_meaning.specs.Walks.FourPoints.{AcceptedPaths, StartsAs}
use Rattle.soy_meaning.specs.Walks.Holes.{hole_count, holes_before}
use Rattle.soy_meaning.specs.Walks.Machine.{ComparesEqual, Machine}
use Rattle.soy_meaning.specs.Paths.Plan.{Plan, Frame, in_turn}
use Rattle.soy_pieces.specs.Site.{Site}
use Rattle.soy_meaning.specs.Walks.Points.{Address, AtHole, Point, StandsAt, frame_at, point_at}
use Rattle.soy_meaning.specs.Paths.PathParts.{StandsAfter}
use Rattle.soy_meaning.specs.Walks.States.{AtMost, IsMember}
use Rattle.soy_meaning.specs.Walks.Walk.{Walked, walk, walked}
use Rattle.soy_meaning.specs.Walks.AcceptedTrees.{AcceptedTrees, walk_trees}
use Rattle.soy_meaning.specs.Walks.PageMachine.{page_machine}
use Rattle.soy_meaning.specs.Paths.PlanOfNodes.{PlanContext, closes_at, declared_plan, nodes_plan, trees_plan}
use Rattle.html_state.specs.declared.row.State.{State}
use Rattle.soy_tree.specs.MessageParts.{MsgParts}
use Rattle.soy_tree.specs.Nodes.{Message}
use Rattle.soy_rules.specs.Templates.{Declared, declared, param_scope}
use Rattle.soy_tree.specs.Trees.{Tree}
use Rattle.soy_meaning.proofs.Paths.BuiltPlans.{trees_built}
use Rattle.soy_meaning.proofs.Walks.FewStates.{built_at, few_after, few_at, start_few}
use Rattle.soy_meaning.proofs.Paths.InnerFrames.{inner_holds, PlacedWithin, inner_places}
use Rattle.soy_meaning.proofs.Walks.PageStates.{page_compares}
use Rattle.soy_meaning.proofs.Walks.Holds.{Holds}
use Rattle.soy_meaning.proofs.Walks.Sound.{sound}
use Rattle.soy_meaning.proofs.Walks.Complete.{complete}
use Rattle.soy_meaning.proofs.Walks.PointsAndHolds.{frames_of_good, good_of_points}
use Rattle.soy_meaning.proofs.Walks.AddsPlaces.{AddsPlaces, adds_places}
use Rattle.soy_meaning.proofs.Paths.FinePaths.{hole_has_place, hole_within, places_length}

module _ {S : Type 0} (m : Machine S) (compares : ComparesEqual m) where
  pub accepted_when_walked : (p : Plan) (w v : Walked S) → walk m p w ≡ Ok v → AcceptedPaths m p
  accepted_when_walked p w v h = frames_of_good m p (λ s. IsMember s w.states) (sound m compares p w v h).good

  pub frame_holds : (kind : Kind) (at : Site) (p : Plan) (P : S → Type 0) → AcceptedPaths m (Frame kind at p)
      → Holds m (Frame kind at p) P
  frame_holds kind at p P g = (good_of_points m p (StartsAs m kind) g.0.points g.1, g.0.ends)

  -- the place that the walk gives to a hole of a frame is the placing of each state which a path of the frame leads to
  -- it in
  pub walked_places : (p : Plan) (w v : Walked S) → walk m p w ≡ Ok v
      → (new : List Place) × (v.places ≡ w.places ++ new) × (length new ≡ hole_count p)
      × ((y : Address) (kind : Kind) (q : Plan) → frame_at p y ≡ Some (kind, q)
      → (x : Address) (classes : List ValueClass) → point_at q x ≡ Some (AtHole classes)
      → (t : S) → StandsAt m q (StartsAs m kind) x t → (d : Place)
      → m.placing t ≡ Takes (get_or new (holes_before p y + holes_before q x) d))
  walked_places p w v h =
      let a : AddsPlaces m p w.states w.places v.places = adds_places m compares p w v h in (
        a.more,
        a.is,
        places_length m p (λ s. IsMember s w.states) a.more a.of_holes,
        (λ y kind q f x classes e t k d.
            let r : PlacedWithin m kind q a.more (holes_before p y) = inner_places m p (λ s. IsMember s w.states)
            a.more a.of_holes y (kind, q) f in
            sym (ap Takes (r.each (holes_before q x) d (hole_within m q x classes e))
            ∙ hole_has_place m q (StartsAs m kind) r.inner r.of_holes x classes e t k d)),
      )

-- the trees of all files
pub trees_hold : (translation : Message → Option MsgParts) (all ds : List Declared) (P : State → Type 0) →
    AcceptedPaths page_machine (in_turn (map (declared_plan translation all) ds))
    → Holds page_machine (in_turn (map (declared_plan translation all) ds)) P
trees_hold translation all [] P g = tt
trees_hold translation all (d ∷ ds) P g =
    let c : PlanContext = record { file = d.file; namespace = d.namespace; declared = all; translation = translation }
    in (
      frame_holds page_machine page_compares d.template.kind (closes_at d.file d.template.span)
          (nodes_plan c d.template.body (param_scope d.template.params)) P g.0,
      trees_hold translation all ds (StandsAfter page_machine (declared_plan translation all d) P) g.1,
    )

pub trees_walked : (translation : Message → Option MsgParts) (trees : List Tree) → AcceptedTrees translation trees
    → (v : Walked State) × (walk_trees translation trees ≡ Ok v)
trees_walked translation trees g =
    complete page_machine page_compares (trees_plan translation trees) (walked [] []) tt
    (trees_hold translation (declared trees) (declared trees) (λ s. IsMember s []) g)

-- ---- at most 16 states at each point

pub few_states : (translation : Message → Option MsgParts) (trees : List Tree) → AcceptedTrees translation trees →
    (y : Address) (kind : Kind) (q : Plan) → frame_at (trees_plan translation trees) y ≡ Some (kind, q) →
    (x : Address) (pt : Point) → point_at q x ≡ Some pt
    → AtMost 16 (StandsAt page_machine q (StartsAs page_machine kind) x)
few_states translation trees g y kind q within x pt e =
    let whole : Holds page_machine (trees_plan translation trees) (λ s. IsMember s []) =
    trees_hold translation (declared trees) (declared trees) (λ s. IsMember s []) g in
    let inner : Holds page_machine q (StartsAs page_machine kind) =
    inner_holds page_machine (trees_plan translation trees) (λ s. IsMember s []) whole y (kind, q) within in
    few_at page_machine q
    (built_at (trees_plan translation trees) (trees_built translation (declared trees) (declared trees)) y
    (kind, q) within)
    (StartsAs page_machine kind) inner (start_few page_machine kind) x pt e

pub few_ends : (translation : Message → Option MsgParts) (trees : List Tree) → AcceptedTrees translation trees →
    (y : Address) (kind : Kind) (q : Plan) → frame_at (trees_plan translation trees) y ≡ Some (kind, q) →
    AtMost 16 (StandsAfter page_machine q (StartsAs page_machine kind))
few_ends translation trees g y kind q within =
    let whole : Holds page_machine (trees_plan translation trees) (λ s. IsMember s []) =
    trees_hold translation (declared trees) (declared trees) (λ s. IsMember s []) g in
    let inner : Holds page_machine q (StartsAs page_machine kind) =
    inner_holds page_machine (trees_plan translation trees) (λ s. IsMember s []) whole y (kind, q) within in
    few_after page_machine q
    (built_at (trees_plan translation trees) (trees_built translation (declared trees) (declared trees)) y
    (kind, q) within)
    (StartsAs page_machine kind) inner (start_few page_machine kind)
