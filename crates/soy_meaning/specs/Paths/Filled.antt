-- A path with its holes filled: with values, and with frames of kind html or attributes, at any depth.
--
-- What fills a path gives pieces. A value gives its escaped form at the place of the pieces of its own frame so far,
-- and a frame gives its own pieces, which are made from the start of its kind.
-- Example: `<p {$b}>`, filled with the frame `class="a"`, gives the static texts `<p `, `class="a"` and `>`.
use Rattle.std.specs.Prelude.{ℕ, List, [], ◌∷◌, ◌++◌, IsTrue}
use Rattle.soy_base.specs.declared.direction.Dir.{Dir}
use Rattle.soy_base.specs.declared.kind.Kind.{Kind}
use Rattle.soy_base.specs.declared.kind.Kind.TheVariants as kind
use Rattle.soy_base.specs.declared.place.ValueClass.{ValueClass}
use Rattle.html_state.specs.AfterPieces.{placing_after}
use Rattle.soy_base.specs.Piece.{Piece, Static, Value}
use Rattle.soy_pieces.specs.EscapedAt.{is_text_of}
use Rattle.soy_meaning.specs.Walks.FourPoints.{FourPoints, AcceptedPaths}
use Rattle.soy_meaning.specs.Walks.PageMachine.{page_machine}
use Rattle.soy_meaning.specs.Paths.Plan.{Plan}
use Rattle.soy_pieces.specs.Site.{Site}
use Rattle.soy_meaning.specs.Paths.PlanOfNodes.{kind_class}
use Rattle.soy_meaning.specs.Paths.PathParts.{PathPart, StaticPart, HolePart, IsPath}
use Rattle.soy_meaning.specs.Walks.States.{IsMember}
use Rattle.soy_pieces.specs.EscapedAt.{value_form}

pub data Filled : Type 0 where
  filled_end : Filled
  text_before : List ℕ → Filled → Filled
  -- the site and the classes of the hole, and the class and the text of the value
  value_before : Site → List ValueClass → ValueClass → List ℕ → Filled → Filled
  -- the site and the classes of the hole, and the kind of the frame and what fills it
  frame_before : Site → List ValueClass → Kind → Filled → Filled → Filled

abbrev pub parts_of_filled : Filled → List PathPart
parts_of_filled filled_end = []
parts_of_filled (text_before text f) = StaticPart text ∷ parts_of_filled f
parts_of_filled (value_before at classes value text f) = HolePart at classes ∷ parts_of_filled f
parts_of_filled (frame_before at classes kind inner f) = HolePart at classes ∷ parts_of_filled f

-- the pieces of a frame of a kind, after those so far
abbrev pub filled_pieces : Dir → Filled → Kind → List Piece → List Piece
filled_pieces context filled_end kind so_far = so_far
filled_pieces context (text_before text f) kind so_far = filled_pieces context f kind (so_far ++ (Static text ∷ []))
filled_pieces context (value_before at classes value text f) kind so_far =
    filled_pieces context f kind (so_far ++ (Value (value_form (placing_after kind so_far) value text context) ∷ []))
filled_pieces context (frame_before at classes inner_kind inner f) kind so_far =
    filled_pieces context f kind (so_far ++ filled_pieces context inner inner_kind [])

abbrev pub IsBlockKind : Kind → Type 0
IsBlockKind kind.Text = ⊥
IsBlockKind _ = Unit {0}

-- these parts are a path of an accepted frame of this kind
pub record IsFrameOf (kind : Kind) (parts : List PathPart) : Type 0 where
  pub plan : Plan
  pub points : FourPoints page_machine kind plan
  pub inner : AcceptedPaths page_machine plan
  pub path : IsPath plan parts

-- each value is one of its hole's classes, and each frame is of a block kind among them and accepted
abbrev pub FillsHoles : Filled → Type 0
FillsHoles filled_end = Unit {0}
FillsHoles (text_before text f) = FillsHoles f
FillsHoles (value_before at classes value text f) = IsMember value classes × IsTrue (is_text_of value text) ×
    FillsHoles f
FillsHoles (frame_before at classes kind inner f) =
    IsBlockKind kind × IsMember (kind_class kind) classes × IsFrameOf kind (parts_of_filled inner)
    × FillsHoles inner × FillsHoles f
