-- What a rendering has still to give: the bytes of the piece that has begun, and then the pieces that are to come, each
-- with what is spent before it, and the end. Pieces without bytes are left out, and what is spent before them goes to
-- the next.
--
-- Example: at first it is what `run` gives. After a pull into a room of one byte, a piece `ab` and the end, it is `b`
-- and the end.
use Rattle.std.specs.Prelude.{◌≡◌, ℕ, ◌≤◌, ◌<◌, Bool, true, false, List, [], ◌∷◌, ◌++◌, Option, Some, None}
use Rattle.std.specs.Prelude.{drop, encode_utf8_all, length, slice_get}
use Rattle.soy_base.specs.Piece.{Piece, Static, Value}
use Rattle.soy_tree.specs.Values.{StringValue}
use Rattle.soy_tree.specs.Values as values
use Rattle.soy_pieces.specs.Meaning.{joined_pieces}
use Rattle.soy_pieces.specs.Outcome.{GivesPiece, Outcome, RunEnd, RunEnds, Spent, WholeRun, end_of_outcome}
use Rattle.soy_pieces.specs.Outcome.{pieces_of_outcome, spent_first}
use Rattle.template_ir.specs.declared.op.Op.{Op}
use Rattle.template_ir.specs.declared.op.Op.TheVariants as op
use Rattle.template_ir.specs.declared.program.ProgramParts.{ProgramParts}
use Rattle.value_cursor.specs.BytesLeft.{CursorFits, bytes_left}
use Rattle.render_core.specs.Frames.{MachineFits, machine_gives}
use Rattle.render_core.specs.Variables.{Cell, cells_of, path_value}
use Rattle.render_core.specs.declared.begun.Begun.{Begun}
use Rattle.render_core.specs.declared.begun.Begun.TheVariants as begun
use Rattle.render_core.specs.declared.held.Bound.{Bound}
use Rattle.render_core.specs.declared.rendering.Rendering.{Rendering}
use Rattle.render_core.specs.declared.showing.Source.{Source}
use Rattle.render_core.specs.declared.showing.Source.TheVariants as source
use Rattle.render_core.specs.declared.stack.Machine.{Machine}

-- ---- pieces

abbrev pub piece_text : Piece → List ℕ
piece_text (Static text) = text
piece_text (Value text) = text

abbrev pub piece_bytes : Piece → List ℕ
piece_bytes piece = encode_utf8_all (piece_text piece)

abbrev pub solid_piece : Spent → Piece → List ℕ → Outcome → Outcome
solid_piece spent piece [] o = spent_first spent o
solid_piece spent piece (c ∷ text) o = GivesPiece spent piece o

-- without the empty pieces
abbrev pub solid : Outcome → Outcome
solid (RunEnds spent end) = RunEnds spent end
solid (GivesPiece spent piece o) = solid_piece spent piece (piece_text piece) (solid o)

-- what is spent up to and with the first piece, or up to the end
abbrev pub first_spent : Outcome → Spent
first_spent (RunEnds spent end) = spent
first_spent (GivesPiece spent piece o) = spent

-- ---- the piece that has begun

abbrev pub static_text : Option Op → List ℕ
static_text (Some (op.Static text)) = text
static_text _ = []

abbrev pub string_text : values.Value → List ℕ
string_text (StringValue text) = text
string_text _ = []

abbrev pub source_text : List Cell → Source → List ℕ
source_text cells (source.Made text) = text
source_text cells (source.Part path) = string_text (path_value cells path)

module _ (p : ProgramParts) (input : values.Value) where
  abbrev pub piece_left : List Bound → Begun → List ℕ
  piece_left bound (begun.Static fixed) =
      drop fixed.start (encode_utf8_all (static_text (slice_get p.ops fixed.op)))
  piece_left bound (begun.Escaped form) =
      bytes_left form.cursor (encode_utf8_all (source_text (cells_of p input bound) form.source))

  abbrev pub PieceFits : List Bound → Begun → Type 0
  PieceFits bound (begun.Static fixed) =
      (fixed.start ≤ fixed.end) × (fixed.end ≡ length (encode_utf8_all (static_text (slice_get p.ops fixed.op))))
  PieceFits bound (begun.Escaped form) =
      CursorFits form.cursor (encode_utf8_all (source_text (cells_of p input bound) form.source))

  abbrev pub begun_left : List Bound → Option Begun → List ℕ
  begun_left bound None = []
  begun_left bound (Some piece) = piece_left bound piece

  -- some bytes are left of a piece that has begun
  abbrev pub BegunFits : List Bound → Option Begun → Type 0
  BegunFits bound None = Unit {0}
  BegunFits bound (Some piece) = PieceFits bound piece × (0 < length (piece_left bound piece))

-- a piece of which bytes are left, or none
abbrev pub LeftOf : Begun → Option Begun → Type 0
LeftOf piece (Some same) =
    (same ≡ piece) × ((p : ProgramParts) (input : values.Value) (bound : List Bound) → PieceFits p input bound piece
    → 0 < length (piece_left p input bound piece))
LeftOf piece None =
    (p : ProgramParts) (input : values.Value) (bound : List Bound) → PieceFits p input bound piece
    → length (piece_left p input bound piece) ≡ 0

-- ---- renderings

pub record Rest : Type 0 where
  pub begun : List ℕ
  pub coming : Outcome

module _ (p : ProgramParts) (input : values.Value) where
  abbrev pub coming : Machine → Outcome
  coming m = solid (machine_gives p input m)

  abbrev pub rest_of : Rendering → Rest
  rest_of r = record { begun = begun_left p input r.machine.bound r.piece; coming = coming r.machine }

-- the bytes joined
abbrev pub rest_bytes : Rest → List ℕ
rest_bytes rest = rest.begun ++ encode_utf8_all (joined_pieces (pieces_of_outcome rest.coming))

abbrev pub rest_end : Rest → RunEnd
rest_end rest = end_of_outcome rest.coming

-- nothing is to come, and the end is whole
abbrev pub IsWhole : Outcome → Type 0
IsWhole o = (pieces_of_outcome o ≡ []) × (end_of_outcome o ≡ WholeRun)

-- what is to come of a rendering that is done
abbrev pub DoneFits : Bool → Option Begun → Outcome → Type 0
DoneFits true piece o = (piece ≡ None) × IsWhole o
DoneFits false piece o = Unit {0}

-- whether a pull has given nothing since nothing was to come
abbrev pub has_ended : Rendering → Bool
has_ended r = r.done

-- a rendering fits program and data: its frames, and the piece that has begun; one that is done has nothing to come
pub record Fits (p : ProgramParts) (input : values.Value) (r : Rendering) : Type 0 where
  pub machine : MachineFits r.machine
  pub piece : BegunFits p input r.machine.bound r.piece
  pub done : DoneFits r.done r.piece (coming p input r.machine)
