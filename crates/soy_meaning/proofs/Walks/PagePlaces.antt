-- The places that the walk gives are those of the pieces.
use Rattle.std.proofs.Common.{◌≡◌, ◌+◌, true, List, [], ◌++◌, ◌⊎◌, inl, inr, Option, Some, None, Ok, length}
use Rattle.std.proofs.Common.{get_or, refl, ap, ◌∙◌, subst}
use Rattle.soy_base.specs.declared.direction.Dir.{Dir}
use Rattle.soy_base.specs.declared.kind.Kind.{Kind}
use Rattle.soy_base.specs.declared.place.Place.{Place}
use Rattle.soy_base.specs.declared.place.Placing.{Placing}
use Rattle.soy_base.specs.declared.place.Placing.TheVariants.{Takes}
use Rattle.soy_base.specs.declared.place.ValueClass.{ValueClass}
use Rattle.html_state.specs.AfterPieces.{placing_after}
use Rattle.soy_base.specs.Piece.{Piece}
use Rattle.html_state.specs.Start.{start}
use Rattle.html_state.specs.StatePlacing.{placing}
use Rattle.html_state.specs.Texts.{and_then as after}
use Rattle.html_state.specs.declared.row.State.{State}
use Rattle.html_state.proofs.PagePlaces.{page_place}
use Rattle.soy_meaning.specs.Paths.Filled.{Filled, parts_of_filled, filled_pieces, FillsHoles}
use Rattle.soy_meaning.specs.Walks.FourPoints.{OnePlacing, PointHolds, StartsAs, takes_classes}
use Rattle.soy_meaning.specs.Walks.Holes.{hole_count, holes_before}
use Rattle.soy_meaning.specs.Walks.PageMachine.{page_machine}
use Rattle.soy_meaning.specs.Paths.Plan.{Plan}
use Rattle.soy_meaning.specs.Walks.Points.{Address, AtHole, LeadsTo, Point, StandsAt, frame_at, point_at}
use Rattle.soy_meaning.specs.Paths.PathParts.{state_after_parts}
use Rattle.soy_meaning.specs.Walks.Walk.{Walked, walk}
use Rattle.soy_meaning.proofs.Paths.FinePaths.{Fine, fine_runs, leads_fine}
use Rattle.soy_meaning.proofs.Walks.Holds.{Holds}
use Rattle.soy_meaning.specs.Walks.States.{IsMember}
use Rattle.soy_meaning.proofs.Paths.InnerFrames.{inner_holds}
use Rattle.soy_meaning.proofs.Walks.PageStates.{page_compares}
use Rattle.soy_meaning.proofs.Paths.Pages.{GoesOn, IsLost, follows_itself, lost_hole, pieces_follow, same_placing_alone}
use Rattle.soy_meaning.proofs.Paths.Pages.{starts_settled}
use Rattle.soy_meaning.proofs.Walks.PointsAndHolds.{points_of_good}
use Rattle.soy_meaning.proofs.Walks.Sound.{sound}
use Rattle.soy_meaning.proofs.Walks.Exact.{walked_places}

at_hole : (o : Option Point) (classes : List ValueClass) (X : State → Type 0) → o ≡ Some (AtHole classes)
    → PointHolds page_machine o X → OnePlacing page_machine classes X
at_hole o classes X e holds = subst (λ z. PointHolds page_machine z X) e holds

pub static_places : (p : Plan) (w v : Walked State) → walk page_machine p w ≡ Ok v →
    (new : List Place) × (v.places ≡ w.places ++ new) × (length new ≡ hole_count p)
    × ((y : Address) (kind : Kind) (q : Plan) → frame_at p y ≡ Some (kind, q)
    → (x : Address) (classes : List ValueClass) → point_at q x ≡ Some (AtHole classes)
    → (context : Dir) (f : Filled) →
    LeadsTo q (parts_of_filled f) x → FillsHoles f → (d : Place)
    → placing_after kind (filled_pieces context f kind [])
    ≡ Ok (Takes (get_or new (holes_before p y + holes_before q x) d)))
static_places p w v h =
    let found = walked_places page_machine page_compares p w v h in (
      found.0,
      found.1,
      found.2,
      (λ y kind q within x classes e context f leads fills d.
          let good : Holds page_machine q (StartsAs page_machine kind) =
          inner_holds page_machine p (λ s. IsMember s w.states) (sound page_machine page_compares p w v h).good y
          (kind, q) within in
          let fine : Fine page_machine (parts_of_filled f) (start kind) =
          leads_fine page_machine q (StartsAs page_machine kind) good (parts_of_filled f) x leads (start kind)
          refl in
          let runs : (t : State) × (state_after_parts page_machine (parts_of_filled f) (start kind) ≡ Ok t) =
          fine_runs page_machine (parts_of_filled f) (start kind) fine in
          let here : StandsAt page_machine q (StartsAs page_machine kind) x runs.0 =
          record { from = start kind; before = refl; parts = parts_of_filled f; leads = leads; reads = runs.1 } in
          let one : OnePlacing page_machine classes (StandsAt page_machine q (StartsAs page_machine kind) x) =
          at_hole (point_at q x) classes (StandsAt page_machine q (StartsAs page_machine kind) x) e
          (points_of_good page_machine q (StartsAs page_machine kind) good x) in
          placed (filled_pieces context f kind []) kind runs.0 classes
          (Takes (get_or found.0 (holes_before p y + holes_before q x) d)) (one.takes runs.0 here)
          (found.3 y kind q within x classes e runs.0 here d)
          (pieces_follow context f None kind [] (start kind) (start kind) (start kind) runs.0 fills refl
          (follows_itself (start kind)) (follows_itself (start kind)) (starts_settled kind) fine runs.1)),
    )
  where
    placed : (pieces : List Piece) (kind : Kind) (t : State) (classes : List ValueClass) (q : Placing)
        → takes_classes (placing t) classes ≡ true → placing t ≡ q →
        (IsLost t ⊎ GoesOn None kind [] pieces (start kind) t) → placing_after kind pieces ≡ Ok q
    placed pieces kind t classes q takes is (inl lost) = absurd (lost_hole t classes lost takes)
    placed pieces kind t classes q takes is (inr on) =
        ap (after (λ state. Ok (placing state))) on.own.1
        ∙ ap Ok (same_placing_alone (placing on.own.0) (placing t) classes (page_place None on.own.0 t on.own.2)
        takes ∙ is)
