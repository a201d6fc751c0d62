-- What comes before a stack of frames, and what it gives to them.
use Rattle.std.proofs.Common.{◌≡◌, ℕ, List, [], ◌∷◌, ◌++◌, refl, sym, ap, ◌∙◌, take}
use Rattle.soy_base.specs.Piece.{Piece, Static, Value}
use Rattle.soy_tree.specs.Values as values
use Rattle.soy_pieces.specs.Outcome.{GivesPiece, Outcome, RunEnds, Spent, StopsAt, and_spent, gathered}
use Rattle.soy_pieces.specs.Outcome.{spent_first}
use Rattle.soy_pieces.specs.Site.{Site}
use Rattle.soy_pieces.proofs.Outcomes.{first_followed, first_gathered, first_twice}
use Rattle.template_ir.specs.declared.program.ProgramParts.{ProgramParts}
use Rattle.render_core.specs.Frames.{ended, frame_over, mark_of, over, texts_past}
use Rattle.render_core.specs.Rest.{piece_text, solid, solid_piece}
use Rattle.render_core.specs.declared.frame.Frame.{Frame}
use Rattle.render_core.specs.declared.frame.Frame.TheVariants as frame
use Rattle.render_core.specs.declared.held.Bound.{Bound}

-- ---- without the empty pieces

solid_piece_first : (a b : Spent) (piece : Piece) (text : List ℕ) (o : Outcome)
    → solid_piece (and_spent a b) piece text o ≡ spent_first a (solid_piece b piece text o)
solid_piece_first a b piece [] o = sym (first_twice a b o)
solid_piece_first a b piece (c ∷ text) o = refl

pub solid_first : (a : Spent) (o : Outcome) → solid (spent_first a o) ≡ spent_first a (solid o)
solid_first a (RunEnds b end) = refl
solid_first a (GivesPiece b piece o) = solid_piece_first a b piece (piece_text piece) (solid o)

-- ---- spent before a stack

gathered_piece : (text : List ℕ) (a : Spent) (piece : Piece) (o : Outcome) (next : List ℕ → Outcome)
    → gathered text (GivesPiece a piece o) next ≡ spent_first a (gathered (text ++ piece_text piece) o next)
gathered_piece text a (Static more) o next = refl
gathered_piece text a (Value more) o next = refl

module _ (p : ProgramParts) (input : values.Value) where
  frame_over_first : (bound : List Bound) (f : Frame) (texts : List (List ℕ)) (a : Spent) (o : Outcome)
      → frame_over p input bound f texts (spent_first a o) ≡ spent_first a (frame_over p input bound f texts o)
  frame_over_first bound (frame.Gather f what) (text ∷ texts) a o = first_gathered text a o _
  frame_over_first bound (frame.Gather f what) [] a o = first_followed a o _
  frame_over_first bound (frame.Ops f) texts a o = first_followed a o _
  frame_over_first bound (frame.Turns r) texts a o = first_followed a o _
  frame_over_first bound (frame.Show f at) texts a o = first_followed a o _
  frame_over_first bound (frame.Call f h) texts a o = first_followed a o _

  ended_first : (texts : List (List ℕ)) (a : Spent) (o : Outcome)
      → ended p input texts (spent_first a o) ≡ spent_first a (ended p input texts o)
  ended_first [] a o = refl
  ended_first (text ∷ texts) a o = first_gathered text a o _

  -- what is spent before the frames is spent first
  pub over_first : (fs : List Frame) (bound : List Bound) (texts : List (List ℕ)) (a : Spent) (o : Outcome)
      → over p input bound fs texts (spent_first a o) ≡ spent_first a (over p input bound fs texts o)
  over_first [] bound texts a o = ended_first texts a o
  over_first (f ∷ fs) bound texts a o =
      ap (over p input (take (mark_of f) bound) fs (texts_past p input f texts)) (frame_over_first bound f texts a o)
      ∙ over_first fs (take (mark_of f) bound) (texts_past p input f texts) a (frame_over p input bound f texts o)

  -- a piece comes out where nothing is gathered
  pub over_piece : (fs : List Frame) (bound : List Bound) (a : Spent) (piece : Piece) (o : Outcome)
      → over p input bound fs [] (GivesPiece a piece o) ≡ GivesPiece a piece (over p input bound fs [] o)
  over_piece [] bound a piece o = refl
  over_piece (frame.Ops f ∷ fs) bound a piece o = over_piece fs (take f.mark bound) a piece _
  over_piece (frame.Turns r ∷ fs) bound a piece o = over_piece fs (take r.mark bound) a piece _
  over_piece (frame.Gather f what ∷ fs) bound a piece o = over_piece fs (take f.mark bound) a piece _
  over_piece (frame.Show f at ∷ fs) bound a piece o = over_piece fs (take f.mark bound) a piece _
  over_piece (frame.Call f h ∷ fs) bound a piece o = over_piece fs (take f.mark bound) a piece _

  -- and else is added to the innermost text
  pub over_text : (fs : List Frame) (bound : List Bound) (text : List ℕ) (texts : List (List ℕ)) (a : Spent)
      (piece : Piece) (o : Outcome)
      → over p input bound fs (text ∷ texts) (GivesPiece a piece o)
      ≡ spent_first a (over p input bound fs ((text ++ piece_text piece) ∷ texts) o)
  over_text [] bound text texts a piece o = gathered_piece text a piece o _
  over_text (frame.Ops f ∷ fs) bound text texts a piece o = over_text fs (take f.mark bound) text texts a piece _
  over_text (frame.Turns r ∷ fs) bound text texts a piece o = over_text fs (take r.mark bound) text texts a piece _
  over_text (frame.Gather f what ∷ fs) bound text texts a piece o =
      ap (over p input (take f.mark bound) fs texts) (gathered_piece text a piece o _)
      ∙ over_first fs (take f.mark bound) texts a _
  over_text (frame.Show f at ∷ fs) bound text texts a piece o = over_text fs (take f.mark bound) text texts a piece _
  over_text (frame.Call f h ∷ fs) bound text texts a piece o = over_text fs (take f.mark bound) text texts a piece _

  -- a stop is the end of all
  pub over_stop : (fs : List Frame) (bound : List Bound) (texts : List (List ℕ)) (a : Spent) (call : Site)
      → over p input bound fs texts (RunEnds a (StopsAt call)) ≡ RunEnds a (StopsAt call)
  over_stop [] bound [] a call = refl
  over_stop [] bound (text ∷ texts) a call = refl
  over_stop (frame.Ops f ∷ fs) bound texts a call = over_stop fs (take f.mark bound) texts a call
  over_stop (frame.Turns r ∷ fs) bound texts a call = over_stop fs (take r.mark bound) texts a call
  over_stop (frame.Gather f what ∷ fs) bound [] a call = over_stop fs (take f.mark bound) [] a call
  over_stop (frame.Gather f what ∷ fs) bound (text ∷ texts) a call = over_stop fs (take f.mark bound) texts a call
  over_stop (frame.Show f at ∷ fs) bound texts a call = over_stop fs (take f.mark bound) texts a call
  over_stop (frame.Call f h ∷ fs) bound texts a call = over_stop fs (take f.mark bound) texts a call
