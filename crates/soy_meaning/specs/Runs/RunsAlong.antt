-- A run of a frame goes along a path of the frame's plan.
--
-- Its pieces are those of the path with each hole filled: by a value, or by the pieces of the frame that is printed or
-- called at the hole's command, which runs along a path of its own plan. A run that ends whole takes a whole path. One
-- that stops at a call takes a prefix of one, and may have stopped within the frame in its last hole.
-- Example: `{if $x}<b {$c}>{/if}`, with `$x` true and with the block `id="a"` in `$c`, runs along the path of the text
-- `<b `, a hole and the text `>`; in the hole stands a run along the path of the one text `id="a"`.
use Rattle.std.specs.Prelude.{◌≡◌, List, [], ◌∷◌, ◌++◌, Some, IsTrue}
use Rattle.soy_base.specs.declared.kind.Kind.{Kind}
use Rattle.soy_rules.specs.Val.{Binding, BlockOf, Known}
use Rattle.soy_pieces.specs.EscapedAt.{is_text_of}
use Rattle.soy_meaning.specs.Paths.Filled.{Filled, IsBlockKind, filled_end, filled_pieces, frame_before}
use Rattle.soy_meaning.specs.Paths.Filled.{parts_of_filled}
use Rattle.soy_meaning.specs.Paths.Filled.{text_before, value_before}
use Rattle.soy_meaning.specs.Runs.FrameRun.{FrameRun, IsBlockOf, run_outcome, run_plan}
use Rattle.soy_pieces.specs.Giving.{BoundBlock, RunEnv}
use Rattle.soy_meaning.specs.Runs.GivenAt.{IsGivenAt}
use Rattle.soy_pieces.specs.Outcome.{RunEnd, StopsAt, WholeRun, end_of_outcome, pieces_of_outcome}
use Rattle.soy_meaning.specs.Paths.PathParts.{IsPath, PathPart}
use Rattle.soy_pieces.specs.Pieces.{RunContext}
use Rattle.soy_meaning.specs.Paths.Plan.{Plan}
use Rattle.soy_pieces.specs.Site.{Site}
use Rattle.soy_meaning.specs.Paths.PlanOfNodes.{kind_class}
use Rattle.soy_meaning.specs.Walks.Points.{Address, frame_at}
use Rattle.soy_meaning.specs.Walks.States.{IsMember}

-- a whole path, or a prefix of one where the run stops
abbrev pub IsPathUpTo : RunEnd → Plan → List PathPart → Type 0
IsPathUpTo WholeRun p parts = IsPath p parts
IsPathUpTo (StopsAt call) p parts = (more : List PathPart) × IsPath p (parts ++ more)

-- a frame stands somewhere in a plan
abbrev pub IsFrameWithin : Plan → Kind → Plan → Type 0
IsFrameWithin whole kind p = (y : Address) × (frame_at whole y ≡ Some (kind, p))

-- how a frame in a hole ends, before what comes next: whole, unless nothing does
abbrev pub end_before : Filled → RunEnd → RunEnd
end_before filled_end end = end
end_before _ end = WholeRun

-- a frame that is given at a hole's command, whose plan is one of the whole plan; the parts are a path of it
pub record RunsInFrame (c : RunContext) (whole : Plan) (q : FrameRun) (end : RunEnd) (at : Site) (kind : Kind)
    (parts : List PathPart) : Type 0 where
  pub frame : FrameRun
  pub is_kind : frame.kind ≡ kind
  pub given : IsGivenAt c q at frame
  pub within : IsFrameWithin whole kind (run_plan c frame)
  pub path : IsPathUpTo end (run_plan c frame) parts

-- each hole of a frame is filled by a text that its value may have, or by the run of the frame that is given there
abbrev pub FilledByRuns : RunContext → Plan → FrameRun → RunEnd → Filled → Type 0
FilledByRuns c whole q end filled_end = Unit {0}
FilledByRuns c whole q end (text_before text f) = FilledByRuns c whole q end f
FilledByRuns c whole q end (value_before at classes value text f) =
    IsTrue (is_text_of value text) × FilledByRuns c whole q end f
FilledByRuns c whole q end (frame_before at classes kind inner f) =
    IsBlockKind kind × ((r : RunsInFrame c whole q (end_before f end) at kind (parts_of_filled inner))
    × FilledByRuns c whole r.frame (end_before f end) inner) × FilledByRuns c whole q end f

-- each value, and each frame, is of one of its hole's classes
abbrev pub FitsClasses : Filled → Type 0
FitsClasses filled_end = Unit {0}
FitsClasses (text_before text f) = FitsClasses f
FitsClasses (value_before at classes value text f) = IsMember value classes × FitsClasses f
FitsClasses (frame_before at classes kind inner f) =
    IsMember (kind_class kind) classes × FitsClasses inner × FitsClasses f

pub record RunsAlong (c : RunContext) (whole : Plan) (q : FrameRun) : Type 0 where
  pub filled : Filled
  pub pieces : pieces_of_outcome (run_outcome c q) ≡ filled_pieces c.direction filled q.kind []
  pub path : IsPathUpTo (end_of_outcome (run_outcome c q)) (run_plan c q) (parts_of_filled filled)
  pub runs : FilledByRuns c whole q (end_of_outcome (run_outcome c q)) filled

-- a block that is bound runs along a path of a frame of the whole plan
pub record BlockRuns (c : RunContext) (whole : Plan) (block : BoundBlock) : Type 0 where
  pub frame : FrameRun
  pub is_its : IsBlockOf c (BlockOf block) frame
  pub is_block : IsBlockKind frame.kind
  pub within : IsFrameWithin whole frame.kind (run_plan c frame)
  pub runs : RunsAlong c whole frame

abbrev pub BindingRuns : RunContext → Plan → Binding BoundBlock → Type 0
BindingRuns c whole (Known v) = Unit {0}
BindingRuns c whole (BlockOf block) = BlockRuns c whole block

-- each block that the variables are bound to does
abbrev pub EnvRuns : RunContext → Plan → RunEnv → Type 0
EnvRuns c whole [] = Unit {0}
EnvRuns c whole (v ∷ env) = BindingRuns c whole v.1 × EnvRuns c whole env

-- the variables are bound to values alone, as data are
abbrev pub BindsValues : RunEnv → Type 0
BindsValues [] = Unit {0}
BindsValues ((name, Known v) ∷ env) = BindsValues env
BindsValues ((name, BlockOf block) ∷ env) = ⊥
