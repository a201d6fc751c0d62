-- A frame that is run: a template or a block of one, with the variables that it begins with.
--
-- The template that it is written in says how its names are read, and so many calls may be open within it. A block of
-- kind text is bound as its joined text, one of another kind as what it gives.
-- Example: within an entry 100 calls may be open, within a block of it as many, and within a template that it calls 99.
use Rattle.std.specs.Prelude.{◌≡◌, ℕ}
use Rattle.soy_base.specs.declared.kind.Kind.{Kind}
use Rattle.soy_base.specs.declared.kind.Kind.TheVariants as kind
use Rattle.soy_tree.specs.Nodes.{Nodes}
use Rattle.soy_rules.specs.Templates.{Declared, param_scope}
use Rattle.soy_rules.specs.TypeOf.{Scope}
use Rattle.soy_rules.specs.Val.{Binding, BlockOf}
use Rattle.soy_pieces.specs.Giving.{BoundBlock, RunEnv}
use Rattle.soy_pieces.specs.Outcome.{Outcome}
use Rattle.soy_pieces.specs.Pieces.{RunContext, called_within, context_in, frame_outcome, call_limit}
use Rattle.soy_meaning.specs.Paths.Plan.{Plan}
use Rattle.soy_meaning.specs.Paths.PlanOfNodes.{PlanContext, nodes_plan}

pub record FrameRun : Type 0 where
  pub template : Declared
  pub left : ℕ
  pub kind : Kind
  pub body : Nodes
  pub scope : Scope
  pub env : RunEnv

-- a template, within which so many calls may be open
abbrev pub template_frame : ℕ → Declared → RunEnv → FrameRun
template_frame left d env = record {
  template = d;
  left = left;
  kind = d.template.kind;
  body = d.template.body;
  scope = param_scope d.template.params;
  env = env;
}

abbrev pub entry_frame : Declared → RunEnv → FrameRun
entry_frame = template_frame call_limit

-- a block that is written in a frame
abbrev pub inner_frame : FrameRun → Kind → Nodes → Scope → RunEnv → FrameRun
inner_frame q kind body scope env = record {
  template = q.template;
  left = q.left;
  kind = kind;
  body = body;
  scope = scope;
  env = env;
}

abbrev pub plan_context : RunContext → PlanContext
plan_context c = record { file = c.file; namespace = c.namespace; declared = c.declared; translation = c.translation }

module _ (c : RunContext) where
  -- what a body gives that is written in a frame
  abbrev pub inner_outcome : FrameRun → Kind → Nodes → RunEnv → Outcome
  inner_outcome q kind body env = frame_outcome (context_in c q.template) (called_within c q.left) kind body env

  abbrev pub run_outcome : FrameRun → Outcome
  run_outcome q = inner_outcome q q.kind q.body q.env

  abbrev pub run_plan : FrameRun → Plan
  run_plan q = nodes_plan (plan_context (context_in c q.template)) q.body q.scope

  -- what is bound to a name is the block whose frame this is
  abbrev pub IsBlockOf : Binding BoundBlock → FrameRun → Type 0
  IsBlockOf bound q = bound ≡ BlockOf (record { kind = q.kind; outcome = run_outcome q })
