-- The places of what fills the holes of a run, by its pieces and by the walk.
--
-- Behind the parts and the pieces of a frame so far stands a hole of the frame's plan. Its place by those pieces, the
-- characters of values and of nested frames among them, is the one that the walk gave it among all places of the whole
-- plan. So it is for each value and frame of a run, and within each frame. Of two runs that go along one path, each
-- value and frame of both stands at the place of one hole.
-- Example: in `<p title="{$x}">{$x}`, run with `$x` bound to `<`, the first value stands at the place of an attribute's
-- value and the second at that of text. So they do where `$x` is bound to 7.
use Rattle.std.specs.Prelude.{◌≡◌, ◌+◌, List, [], ◌∷◌, ◌++◌, Some, Ok, get_or}
use Rattle.soy_base.specs.declared.direction.Dir.{Dir}
use Rattle.soy_base.specs.declared.kind.Kind.{Kind}
use Rattle.soy_base.specs.declared.place.Place.{Place}
use Rattle.soy_base.specs.declared.place.Placing.TheVariants.{Takes}
use Rattle.soy_base.specs.declared.place.ValueClass.{ValueClass}
use Rattle.html_state.specs.AfterPieces.{placing_after}
use Rattle.soy_base.specs.Piece.{Piece, Static, Value}
use Rattle.soy_meaning.specs.Paths.Filled.{Filled, filled_end, filled_pieces, frame_before, text_before, value_before}
use Rattle.soy_pieces.specs.EscapedAt.{value_form}
use Rattle.soy_meaning.specs.Walks.Holes.{holes_before}
use Rattle.soy_meaning.specs.Paths.PathParts.{HolePart, PathPart, StaticPart}
use Rattle.soy_meaning.specs.Paths.Plan.{Plan}
use Rattle.soy_meaning.specs.Walks.Points.{Address, AtHole, LeadsTo, frame_at, point_at}

-- a frame of the whole plan, at an address
pub record FrameWithin (whole : Plan) (kind : Kind) : Type 0 where
  pub address : Address
  pub plan : Plan
  pub within : frame_at whole address ≡ Some (kind, plan)

module _ (whole : Plan) (places : List Place) (context : Dir) where
  -- a hole behind these parts and pieces of the frame
  pub record IsPlaced (kind : Kind) (q : FrameWithin whole kind) (classes : List ValueClass) (parts : List PathPart)
      (so_far : List Piece) : Type 0 where
    pub hole : Address
    pub point : point_at q.plan hole ≡ Some (AtHole classes)
    pub leads : LeadsTo q.plan parts hole
    pub place : (d : Place) → placing_after kind so_far
        ≡ Ok (Takes (get_or places (holes_before whole q.address + holes_before q.plan hole) d))

  -- what fills the rest of the frame behind these parts and pieces
  abbrev pub ArePlaced : (kind : Kind) → FrameWithin whole kind → List PathPart → List Piece → Filled → Type 0
  ArePlaced kind q parts so_far filled_end = Unit {0}
  ArePlaced kind q parts so_far (text_before text f) =
      ArePlaced kind q (parts ++ (StaticPart text ∷ [])) (so_far ++ (Static text ∷ [])) f
  ArePlaced kind q parts so_far (value_before at classes value text f) =
      IsPlaced kind q classes parts so_far
      × ArePlaced kind q (parts ++ (HolePart at classes ∷ []))
      (so_far ++ (Value (value_form (placing_after kind so_far) value text context) ∷ [])) f
  ArePlaced kind q parts so_far (frame_before at classes inner_kind inner f) =
      IsPlaced kind q classes parts so_far
      × ((r : FrameWithin whole inner_kind) × ArePlaced inner_kind r [] [] inner)
      × ArePlaced kind q (parts ++ (HolePart at classes ∷ []))
      (so_far ++ filled_pieces context inner inner_kind []) f

  -- a hole behind these parts, and behind the pieces of either frame
  pub record IsPlacedInBoth (kind : Kind) (q : FrameWithin whole kind) (classes : List ValueClass)
      (parts : List PathPart) (one two : List Piece) : Type 0 where
    pub hole : Address
    pub point : point_at q.plan hole ≡ Some (AtHole classes)
    pub leads : LeadsTo q.plan parts hole
    pub first : (d : Place) → placing_after kind one
        ≡ Ok (Takes (get_or places (holes_before whole q.address + holes_before q.plan hole) d))
    pub second : (d : Place) → placing_after kind two
        ≡ Ok (Takes (get_or places (holes_before whole q.address + holes_before q.plan hole) d))

  -- what fills the rest of two frames behind these parts, each behind its own pieces
  abbrev pub ArePlacedInBoth : (kind : Kind) → FrameWithin whole kind → List PathPart → List Piece → List Piece → Filled
      → Filled → Type 0
  ArePlacedInBoth kind q parts one two filled_end filled_end = Unit {0}
  ArePlacedInBoth kind q parts one two (text_before text f) (text_before other g) =
      ArePlacedInBoth kind q (parts ++ (StaticPart text ∷ [])) (one ++ (Static text ∷ []))
      (two ++ (Static other ∷ [])) f g
  ArePlacedInBoth kind q parts one two (value_before at classes value text f) (value_before _ _ class other g) =
      IsPlacedInBoth kind q classes parts one two
      × ArePlacedInBoth kind q (parts ++ (HolePart at classes ∷ []))
      (one ++ (Value (value_form (placing_after kind one) value text context) ∷ []))
      (two ++ (Value (value_form (placing_after kind two) class other context) ∷ [])) f g
  ArePlacedInBoth kind q parts one two (frame_before at classes inner_kind inner f) (frame_before _ _ k within g) =
      IsPlacedInBoth kind q classes parts one two
      × ((r : FrameWithin whole inner_kind) × ArePlacedInBoth inner_kind r [] [] [] inner within)
      × ArePlacedInBoth kind q (parts ++ (HolePart at classes ∷ []))
      (one ++ filled_pieces context inner inner_kind []) (two ++ filled_pieces context within k []) f g
  ArePlacedInBoth kind q parts one two _ _ = ⊥
