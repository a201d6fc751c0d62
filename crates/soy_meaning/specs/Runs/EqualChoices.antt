-- Two runs that make the same choices.
--
-- They are alike where their texts are the same, values stand at the same points between them, and they end alike:
-- whole, or at the same call. What the values are doesn't count. They nest alike where they go along paths with the
-- same texts and holes, with values in the same holes, and in each other hole two frames of one kind, filled alike in
-- their turn.
-- Example: two runs of `{if $x}<b>{$y}</b>{/if}`, both with `$x` true, are alike, whatever `$y` is. They go along the
-- path of `<b>`, a hole and `</b>`, and in the hole of both stands a value.
use Rattle.std.specs.Prelude.{◌≡◌, Bool, true, List, [], ◌∷◌, ◌++◌}
use Rattle.soy_base.specs.Piece.{Piece, Static, Value}
use Rattle.soy_rules.specs.Val.{Binding, BlockOf, Known}
use Rattle.soy_meaning.specs.Paths.Filled.{Filled, filled_end, frame_before, text_before, value_before}
use Rattle.soy_meaning.specs.Runs.FrameRun.{FrameRun, run_outcome}
use Rattle.soy_pieces.specs.Giving.{BoundBlock, RunEnv}
use Rattle.soy_pieces.specs.Outcome.{ChoiceMade, Outcome, choices_of_outcome, end_of_outcome, pieces_of_outcome}
use Rattle.soy_meaning.specs.Runs.PicksValues.{Marks}
use Rattle.soy_pieces.specs.Pieces.{RunContext}
use Rattle.soy_meaning.specs.Paths.Plan.{Plan}
use Rattle.soy_meaning.specs.Runs.RunsAlong.{RunsAlong}

abbrev pub AlikePieces : List Piece → List Piece → Type 0
AlikePieces [] [] = Unit {0}
AlikePieces (Static text ∷ l) (Static other ∷ m) = (text ≡ other) × AlikePieces l m
AlikePieces (Value text ∷ l) (Value other ∷ m) = AlikePieces l m
AlikePieces _ _ = ⊥

pub record AlikeRuns (o other : Outcome) : Type 0 where
  pub choices : choices_of_outcome o ≡ choices_of_outcome other
  pub pieces : AlikePieces (pieces_of_outcome o) (pieces_of_outcome other)
  pub ends : end_of_outcome o ≡ end_of_outcome other

-- alike where their choices are the same, also where choices of other runs follow those
abbrev pub AlikeByChoices : Outcome → Outcome → Type 0
AlikeByChoices o other =
    (rest more : List ChoiceMade) → choices_of_outcome o ++ rest ≡ choices_of_outcome other ++ more → AlikeRuns o other

-- two values, or, where there may be blocks, two blocks that are as is asked
abbrev pub BindingsBy : (BoundBlock → BoundBlock → Type 0) → Bool → Binding BoundBlock → Binding BoundBlock → Type 0
BindingsBy Blocks may (Known v) (Known w) = Unit {0}
BindingsBy Blocks true (BlockOf a) (BlockOf b) = Blocks a b
BindingsBy Blocks _ _ _ = ⊥

-- of the same variables, in the same order, each bound so
abbrev pub EnvsBy : (BoundBlock → BoundBlock → Type 0) → Marks → RunEnv → RunEnv → Type 0
EnvsBy Blocks [] [] [] = Unit {0}
EnvsBy Blocks (m ∷ marks) (v ∷ env) (w ∷ other) =
    (v.0 ≡ m.0) × (w.0 ≡ m.0) × BindingsBy Blocks m.1 v.1 w.1 × EnvsBy Blocks marks env other
EnvsBy Blocks _ _ _ = ⊥

abbrev pub BlocksAlike : BoundBlock → BoundBlock → Type 0
BlocksAlike a b = AlikeByChoices a.outcome b.outcome

abbrev pub BindingsAlike : Bool → Binding BoundBlock → Binding BoundBlock → Type 0
BindingsAlike may v w = BindingsBy BlocksAlike may v w

abbrev pub EnvsAlike : Marks → RunEnv → RunEnv → Type 0
EnvsAlike marks env other = EnvsBy BlocksAlike marks env other

-- ---- how their frames nest

-- the same texts and holes, with values in the same ones, and frames of one kind in the others, filled alike
abbrev pub FilledAlike : Filled → Filled → Type 0
FilledAlike filled_end filled_end = Unit {0}
FilledAlike (text_before text f) (text_before other g) = (text ≡ other) × FilledAlike f g
FilledAlike (value_before at classes value text f) (value_before site others class other g) =
    (at ≡ site) × (classes ≡ others) × FilledAlike f g
FilledAlike (frame_before at classes kind inner f) (frame_before site others k within g) =
    (at ≡ site) × (classes ≡ others) × (kind ≡ k) × FilledAlike inner within × FilledAlike f g
FilledAlike _ _ = ⊥

-- two frames run along paths with the same parts, filled alike, up to one end
pub record NestAlike (c : RunContext) (whole : Plan) (q p : FrameRun) : Type 0 where
  pub one : RunsAlong c whole q
  pub two : RunsAlong c whole p
  pub alike : FilledAlike one.filled two.filled
  pub ends : end_of_outcome (run_outcome c q) ≡ end_of_outcome (run_outcome c p)
