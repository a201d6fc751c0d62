-- What loops, cases, calls and messages go by reads no span: without spans it is the same, without positions.
use Rattle.std.proofs.Common.{◌≡◌, ℕ, ◌+◌, pos, Bool, List, [], ◌∷◌, ◌++◌, map, Option, Some, None}
use Rattle.std.proofs.Common.{bytes_eq, refl, ap, ◌∙◌}
use Rattle.std.specs.Prelude.{◌&&◌, is_some, option_map}
use Rattle.soy_rules.specs.Bodies.{param_of}
use Rattle.soy_tree.specs.Expressions.{Expr}
use Rattle.soy_tree.specs.MessageParts.{MsgParts}
use Rattle.soy_tree.specs.Nodes.{Fallback, Message, no_fallback, fallback}
use Rattle.soy_rules.specs.Templates.{Declared}
use Rattle.soy_tree.specs.Trees.{Param}
use Rattle.soy_tree.specs.Types.{Name}
use Rattle.soy_rules.specs.Val.{Binding, Known, binding}
use Rattle.soy_tree.specs.Values.{Items, NullValue, Value, item, no_item}
use Rattle.soy_pieces.specs.Giving.{BoundBlock, Means, RunEnv, called_means}
use Rattle.soy_pieces.specs.Outcome.{Outcome}
use Rattle.soy_pieces.specs.Pieces.{ChosenText, GivenArguments, RunContext, TheFallback, TheOwn, TheSource, callee_env}
use Rattle.soy_pieces.specs.Pieces.{chosen_after, chosen_of, chosen_text, fallback_text, given_binding, handed_on}
use Rattle.soy_pieces.specs.Pieces.{is_one}
use Rattle.soy_pieces.specs.Pieces.{opened_means, param_binding, translated_means, turns_mean, with_index}
use Rattle.soy_pieces.specs.Site.{Site}
use Rattle.soy_rules.specs.Placeholders.{uses_of}
use Rattle.alike_files.specs.RunWithoutPositions.{outcome_without_positions, site_without_position}
use Rattle.soy_format.specs.WithoutSpans.{expr_without_spans, fallback_without_spans, message_without_spans}
use Rattle.soy_format.specs.WithoutSpans.{param_without_spans}
use Rattle.alike_files.proofs.Branches.{parts_given, valued_same}
use Rattle.alike_files.proofs.DeclaredTemplates.{declared_without_spans, has_param_same}
use Rattle.alike_files.proofs.ExpressionValues.{binding_same, cost_same, through_if}
use Rattle.alike_files.proofs.NodePlans.{ReadsNoSpan, uses_of_same}
use Rattle.alike_files.proofs.Outcomes.{MeansSame, binding_placeless, block_placeless, call_given, env_placeless}
use Rattle.alike_files.proofs.Outcomes.{value_given}

-- ---- loops and cases

index_same : (index : Option Name) (n : ℕ) (env : RunEnv)
    → with_index index n (env_placeless env) ≡ env_placeless (with_index index n env)
index_same None n env = refl
index_same (Some index) n env = refl

pub turns_given : (body other_body : RunEnv → Means)
    → ((env : RunEnv) → MeansSame (body env) (other_body (env_placeless env)))
    → (name : Name) (index : Option Name) (env : RunEnv) (n : ℕ) (items : Items)
    → MeansSame (turns_mean body name index env n items)
    (turns_mean other_body name index (env_placeless env) n items)
turns_given body other_body bodies name index env n no_item so_far next other h = h so_far
turns_given body other_body bodies name index env n (item v vs) so_far next other h =
    let inner : RunEnv = with_index index n ((name, Known v) ∷ env) in
    ap (λ e. other_body e so_far
    (λ now. turns_mean other_body name index (env_placeless env) (n + 1) vs now other))
    (index_same index n ((name, Known v) ∷ env))
    ∙ bodies inner so_far (λ now. turns_mean body name index env (n + 1) vs now next)
    (λ now. turns_mean other_body name index (env_placeless env) (n + 1) vs now other)
    (λ now. turns_given body other_body bodies name index env (n + 1) vs now next other h)

pub one_same : (v : Value) (es : List Expr) (env : RunEnv)
    → is_one v (map expr_without_spans es) (env_placeless env) ≡ is_one v es env
one_same v [] env = refl
one_same v (e ∷ es) env = rw (valued_same e env, cost_same block_placeless e env, one_same v es env) refl

-- ---- calls

pub env_append : (a b : RunEnv) → env_placeless (a ++ b) ≡ env_placeless a ++ env_placeless b
env_append [] b = refl
env_append (v ∷ a) b = ap (λ env. (v.0, binding_placeless v.1) ∷ env) (env_append a b)

given_same : (name : Name) (given : GivenArguments)
    → given_binding name (env_placeless given) ≡ option_map binding_placeless (given_binding name given)
given_same name [] = refl
given_same name (a ∷ rest) =
    rw (given_same name rest)
    (through_if (option_map binding_placeless) (bytes_eq a.0 name) (Some a.1) (given_binding name rest))

param_same : (o : Option (Binding BoundBlock)) (other : Binding BoundBlock)
    → param_binding (option_map binding_placeless o) (binding_placeless other)
    ≡ binding_placeless (param_binding o other)
param_same None other = refl
param_same (Some given) other = refl

handed_same : (hands : Bool) (own : Binding BoundBlock)
    → handed_on hands (binding_placeless own) ≡ binding_placeless (handed_on hands own)
handed_same hands own = through_if binding_placeless hands own (Known NullValue)

callee_env_same : (ps : List Param) (given : GivenArguments) (all : Bool) (own : List Param) (env : RunEnv)
    → callee_env (map param_without_spans ps) (env_placeless given) all (map param_without_spans own)
    (env_placeless env) ≡ env_placeless (callee_env ps given all own env)
callee_env_same [] given all own env = refl
callee_env_same (p ∷ ps) given all own env =
    let hands : Bool = all && is_some (param_of p.name own) in
    rw (
      given_same p.name given,
      has_param_same p.name own,
      binding_same block_placeless p.name env,
      handed_same hands (binding p.name env),
      param_same (given_binding p.name given) (handed_on hands (binding p.name env)),
      callee_env_same ps given all own env,
    ) refl

-- ---- which text of a message

abbrev pub chosen_without_spans : ChosenText → ChosenText
chosen_without_spans TheSource = TheSource
chosen_without_spans (TheOwn parts) = TheOwn parts
chosen_without_spans (TheFallback m parts) = TheFallback (message_without_spans m) parts

module _ (translation : Message → Option MsgParts) (same : ReadsNoSpan translation) where
  after_same : (m : Message) (o : Option MsgParts)
      → chosen_after (message_without_spans m) o ≡ chosen_without_spans (chosen_after m o)
  after_same m None = refl
  after_same m (Some parts) = refl

  fallback_same : (f : Fallback)
      → fallback_text translation (fallback_without_spans f) ≡ chosen_without_spans (fallback_text translation f)
  fallback_same no_fallback = refl
  fallback_same (fallback m) = rw (same m) (after_same m (translation m))

  of_same : (o : Option MsgParts) (other : ChosenText)
      → chosen_of o (chosen_without_spans other) ≡ chosen_without_spans (chosen_of o other)
  of_same None other = refl
  of_same (Some parts) other = refl

  pub chosen_same : (m : Message) (f : Fallback)
      → chosen_text translation (message_without_spans m) (fallback_without_spans f)
      ≡ chosen_without_spans (chosen_text translation m f)
  chosen_same m f = rw (same m, fallback_same f) (of_same (translation m) (fallback_text translation f))

-- ---- what is opened

abbrev pub context_without_spans : RunContext → RunContext
context_without_spans c =
    record c { params = map param_without_spans c.params; declared = map declared_without_spans c.declared }

-- a call gives the same without positions
abbrev pub CallsSame : (Site → Declared → RunEnv → Outcome) → (Site → Declared → RunEnv → Outcome) → Type 0
CallsSame called other =
    (at : Site) (d : Declared) (env : RunEnv)
    → other (site_without_position at) (declared_without_spans d) (env_placeless env)
    ≡ outcome_without_positions (called at d env)

module _ (c : RunContext) (called other_called : Site → Declared → RunEnv → Outcome) where
  pub translation_given : (env : RunEnv) (m : Message) (parts : MsgParts)
      → MeansSame (translated_means c called env m parts)
      (translated_means (context_without_spans c) other_called (env_placeless env) (message_without_spans m) parts)
  translation_given env m parts so_far next other h =
      rw (uses_of_same m) (parts_given c.direction c.category (uses_of m) env parts (pos 0) so_far next other h)

  pub opened_given : CallsSame called other_called → (at : Site) (o : Option Declared) (given : GivenArguments)
      (all : Bool) (env : RunEnv)
      → MeansSame (opened_means c called at o given all env)
      (opened_means (context_without_spans c) other_called (site_without_position at)
      (option_map declared_without_spans o) (env_placeless given) all (env_placeless env))
  opened_given calls at None given all env so_far next other h = value_given c.direction NullValue so_far next other h
  opened_given calls at (Some d) given all env so_far next other h =
      let inner : RunEnv = callee_env d.template.params given all c.params env in
      ap (λ e. called_means c.direction d.template.kind
      (other_called (site_without_position at) (declared_without_spans d) e) so_far other)
      (callee_env_same d.template.params given all c.params env)
      ∙ (ap (λ o. called_means c.direction d.template.kind o so_far other) (calls at d inner)
      ∙ call_given c.direction d.template.kind (called at d inner) so_far next other h)
