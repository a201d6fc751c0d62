-- The blocks that variables are bound to run along paths of frames.
use Rattle.std.proofs.Common.{◌≡◌, ℕ, Bool, true, false, List, [], ◌∷◌, ◌++◌, inl, inr, Option, Some, None}
use Rattle.std.proofs.Common.{if◌then◌else◌, refl}
use Rattle.std.specs.Prelude.{bytes_eq, is_some, ◌&&◌}
use Rattle.soy_base.specs.declared.kind.Kind.{Kind}
use Rattle.soy_tree.specs.Types.{Name}
use Rattle.soy_rules.specs.Bodies.{param_of}
use Rattle.soy_tree.specs.Expressions.{Expr, NullLiteral, BoolLiteral, IntLiteral, StringLiteral, Variable, Member}
use Rattle.soy_tree.specs.Expressions.{Index, Minus, Not, Binary, Coalesce, Conditional}
use Rattle.soy_rules.specs.Templates.{Declared, callee, called_name, full_name, is_visible_from, template_of, visible}
use Rattle.soy_tree.specs.Trees.{Param}
use Rattle.soy_rules.specs.Val.{Binding, BlockOf, Known, binding, is_null, is_truthy, val}
use Rattle.soy_pieces.specs.Giving.{BoundBlock, RunEnv}
use Rattle.soy_pieces.specs.Pieces.{
  GivenArguments,
  RunContext,
  callee_env,
  given_binding,
  handed_on,
  param_binding,
  with_index,
}
use Rattle.soy_meaning.specs.Paths.Plan.{Plan, Either, any_of}
use Rattle.soy_pieces.specs.Site.{Site}
use Rattle.soy_meaning.specs.Walks.Points.{Address, Left, Right, frame_at}
use Rattle.soy_meaning.specs.Runs.RunsAlong.{BindsValues, EnvRuns, IsFrameWithin}
use Rattle.soy_meaning.specs.Walks.States.{IsMember}
use Rattle.soy_meaning.proofs.Runs.Goings.{IsGood}

-- ---- frames within a plan

-- each frame of the plan is one of the whole plan
abbrev pub FramesIn : Plan → Plan → Type 0
FramesIn whole p = (y : Address) (kind : Kind) (q : Plan) → frame_at p y ≡ Some (kind, q) → IsFrameWithin whole kind q

abbrev pub AllFramesIn : Plan → List Plan → Type 0
AllFramesIn whole [] = Unit {0}
AllFramesIn whole (p ∷ ps) = FramesIn whole p × AllFramesIn whole ps

pub any_frames : (whole p : Plan) (ps : List Plan) → FramesIn whole (any_of p ps) → FramesIn whole p
    × AllFramesIn whole ps
any_frames whole p [] h = (h, tt)
any_frames whole p (q ∷ qs) h =
    let r : FramesIn whole (Either p q) × AllFramesIn whole qs = any_frames whole (Either p q) qs h in
    ((λ y kind f e. r.0 (Left y) kind f e), ((λ y kind f e. r.0 (Right y) kind f e), r.1))

pub frames_left : (whole : Plan) (ps qs : List Plan) → AllFramesIn whole (ps ++ qs) → AllFramesIn whole ps
frames_left whole [] qs h = tt
frames_left whole (p ∷ ps) qs h = (h.0, frames_left whole ps qs h.1)

pub frames_right : (whole : Plan) (ps qs : List Plan) → AllFramesIn whole (ps ++ qs) → AllFramesIn whole qs
frames_right whole [] qs h = h
frames_right whole (p ∷ ps) qs h = frames_right whole ps qs h.1

-- ---- values of variables and of expressions

module _ (c : RunContext) (whole : Plan) (Claim : Type 0) (IsStop : Site → Type 0) where
  abbrev Runs : Binding BoundBlock → Type 0
  Runs = IsGood c whole Claim IsStop

  abbrev pub AllRun : RunEnv → Type 0
  AllRun [] = Unit {0}
  AllRun (v ∷ env) = Runs v.1 × AllRun env

  -- where nothing is claimed and the calls at which a block may stop aren't asked, and where no variable is a block
  pub env_runs : (Claim → ⊥) → ((at : Site) → IsStop at) → (env : RunEnv) → EnvRuns c whole env → AllRun env
  env_runs none any [] h = tt
  env_runs none any ((name, Known v) ∷ env) h = (tt, env_runs none any env h.1)
  env_runs none any ((name, BlockOf block) ∷ env) h =
      ((h.0, (λ call ends. any call), (λ k. absurd (none k))), env_runs none any env h.1)

  pub values_run : (env : RunEnv) → BindsValues env → AllRun env
  values_run [] h = tt
  values_run ((name, Known v) ∷ env) h = (tt, values_run env h)
  values_run ((name, BlockOf block) ∷ env) h = absurd h

  binding_if : (test : Bool) (one other : Binding BoundBlock) → Runs one → Runs other
      → Runs (if test then one else other)
  binding_if true one other a b = a
  binding_if false one other a b = b

  pub variable_runs : (name : Name) (env : RunEnv) → AllRun env → Runs (binding name env)
  variable_runs name [] h = tt
  variable_runs name (v ∷ env) h = binding_if (bytes_eq v.0 name) v.1 (binding name env) h.0
      (variable_runs name env h.1)

  pub val_runs : (e : Expr) (env : RunEnv) → AllRun env → Runs (val e env)
  val_runs (NullLiteral span) env h = tt
  val_runs (BoolLiteral b span) env h = tt
  val_runs (IntLiteral n span) env h = tt
  val_runs (StringLiteral text span) env h = tt
  val_runs (Variable name span) env h = variable_runs name env h
  val_runs (Member e name takes_null span) env h = tt
  val_runs (Index e i takes_null span) env h = tt
  val_runs (Minus e span) env h = tt
  val_runs (Not e span) env h = tt
  val_runs (Binary op a b span) env h = tt
  val_runs (Coalesce a b span) env h = binding_if (is_null (val a env)) (val b env) (val a env) (val_runs b env h)
      (val_runs a env h)
  val_runs (Conditional c a b span) env h = binding_if (is_truthy (val c env)) (val a env) (val b env)
      (val_runs a env h) (val_runs b env h)

  pub env_more : (env more : RunEnv) → AllRun env → AllRun more → AllRun (env ++ more)
  env_more [] more h k = k
  env_more (v ∷ env) more h k = (h.0, env_more env more h.1 k)

  pub index_runs : (index : Option Name) (n : ℕ) (env : RunEnv) → AllRun env → AllRun (with_index index n env)
  index_runs None n env h = h
  index_runs (Some name) n env h = (tt, h)

  -- ---- the variables of a callee

  abbrev GivenRuns : Option (Binding BoundBlock) → Type 0
  GivenRuns None = Unit {0}
  GivenRuns (Some bound) = Runs bound

  given_if : (test : Bool) (bound : Binding BoundBlock) (other : Option (Binding BoundBlock)) → Runs bound
      → GivenRuns other → GivenRuns (if test then Some bound else other)
  given_if true bound other a b = a
  given_if false bound other a b = b

  given_runs : (name : Name) (given : GivenArguments) → AllRun given → GivenRuns (given_binding name given)
  given_runs name [] h = tt
  given_runs name (a ∷ rest) h = given_if (bytes_eq a.0 name) a.1 (given_binding name rest) h.0
      (given_runs name rest h.1)

  handed_runs : (hands : Bool) (own : Binding BoundBlock) → Runs own → Runs (handed_on hands own)
  handed_runs true own h = h
  handed_runs false own h = tt

  param_runs : (given : Option (Binding BoundBlock)) (other : Binding BoundBlock) → GivenRuns given → Runs other
      → Runs (param_binding given other)
  param_runs None other h k = k
  param_runs (Some bound) other h k = h

  pub callee_runs : (params : List Param) (given : GivenArguments) (all : Bool) (own : List Param) (env : RunEnv)
      → AllRun given → AllRun env → AllRun (callee_env params given all own env)
  callee_runs [] given all own env h k = tt
  callee_runs (p ∷ ps) given all own env h k = (
    param_runs (given_binding p.name given) (handed_on (all && is_some (param_of p.name own)) (binding p.name env))
        (given_runs p.name given h)
        (handed_runs (all && is_some (param_of p.name own)) (binding p.name env) (variable_runs p.name env k)),
    callee_runs ps given all own env h k,
  )

-- ---- templates that are called

abbrev pub IsAmong : List Declared → Option Declared → Type 0
IsAmong ds None = Unit {0}
IsAmong ds (Some d) = IsMember d ds

among_if : (ds : List Declared) (test : Bool) (d : Declared) (other : Option Declared) → IsMember d ds
    → IsAmong ds other → IsAmong ds (if test then Some d else other)
among_if ds true d other h k = h
among_if ds false d other h k = k

among_more : (d : Declared) (ds : List Declared) (found : Option Declared) → IsAmong ds found → IsAmong (d ∷ ds) found
among_more d ds None h = tt
among_more d ds (Some e) h = inr h

template_among : (name : Name) (ds : List Declared) → IsAmong ds (template_of name ds)
template_among name [] = tt
template_among name (d ∷ ds) = among_if (d ∷ ds) (bytes_eq (full_name d) name) d (template_of name ds) (inl refl)
    (among_more d ds (template_of name ds) (template_among name ds))

visible_among : (namespace : Name) (ds : List Declared) (found : Option Declared) → IsAmong ds found
    → IsAmong ds (visible namespace found)
visible_among namespace ds None h = tt
visible_among namespace ds (Some d) h = among_if ds (is_visible_from namespace d) d None h tt

pub callee_among : (ds : List Declared) (namespace name : Name) → IsAmong ds (callee ds namespace name)
callee_among ds namespace name = visible_among namespace ds (template_of (called_name namespace name) ds)
    (template_among (called_name namespace name) ds)
