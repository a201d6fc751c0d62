-- What nodes and templates give reads no span: without spans they give the same, without positions.
use Rattle.std.proofs.Common.{◌≡◌, ℕ, zero, suc, ◌+◌, ℤ, Bool, [], ◌∷◌, ◌++◌}
use Rattle.std.proofs.Common.{Some, None, bytes_eq, refl, sym, ap, ◌∙◌}
use Rattle.std.specs.Prelude.{Ok, if◌then◌else◌}
use Rattle.soy_base.specs.declared.kind.Kind.{Kind}
use Rattle.html_state.specs.Start.{start}
use Rattle.soy_rules.specs.Cost.{cost}
use Rattle.soy_tree.specs.Nodes.{Node, Nodes, Otherwise, Arms, Cases, Arguments, Given, Message, MessageBody}
use Rattle.soy_tree.specs.Nodes.{PluralCases, SelectCases, TextNode, Print, If, Switch, For, Let, LetBlock, Call}
use Rattle.soy_tree.specs.Nodes.{MessageNode, no_node, node, no_otherwise, otherwise, no_arm, arm, no_case, case}
use Rattle.soy_tree.specs.Nodes.{no_argument, argument, Plain, Block, message, Parts, Plural}
use Rattle.soy_tree.specs.Nodes.{Select, no_plural_case, plural_case, no_select_case, select_case}
use Rattle.soy_rules.specs.ShortLists.{item_count}
use Rattle.soy_rules.specs.Templates.{Declared, callee}
use Rattle.soy_tree.specs.Types.{Name}
use Rattle.soy_rules.specs.Val.{Binding, is_same_int, is_truthy, val}
use Rattle.soy_tree.specs.Values.{Value}
use Rattle.soy_pieces.specs.Branch.{int_of, word_of}
use Rattle.soy_pieces.specs.Giving.{BoundBlock, Means, RunEnv, StateSoFar, block_bound, with_choice}
use Rattle.soy_pieces.specs.Outcome.{ArmTaken, FallbackTranslation, Outcome, OwnTranslation, SourceText, TextTaken}
use Rattle.soy_pieces.specs.Outcome.{Turns}
use Rattle.soy_pieces.specs.Pieces.{ChosenText, GivenArguments, RunContext, TheFallback, TheOwn, TheSource}
use Rattle.soy_pieces.specs.Pieces.{arguments_mean, arms_mean, at_end, called_within, cases_mean, chosen_text}
use Rattle.soy_pieces.specs.Pieces.{context_in}
use Rattle.soy_pieces.specs.Pieces.{frame_outcome, given_means, is_one, listed_items, message_means, node_means}
use Rattle.soy_pieces.specs.Pieces.{nodes_mean, otherwise_means, plural_cases_mean, select_cases_mean, source_means}
use Rattle.soy_pieces.specs.Pieces.{template_run, unbound, valued}
use Rattle.soy_pieces.specs.Site.{Site}
use Rattle.soy_pieces.specs.Site.{starts_at}
use Rattle.alike_files.specs.RunWithoutPositions.{outcome_without_positions}
use Rattle.soy_format.specs.WithoutSpans.{arguments_without_spans, arms_without_spans, body_without_spans}
use Rattle.soy_format.specs.WithoutSpans.{cases_without_spans, given_without_spans}
use Rattle.soy_format.specs.WithoutSpans.{message_without_spans, node_without_spans, nodes_without_spans}
use Rattle.soy_format.specs.WithoutSpans.{otherwise_without_spans, plural_cases_without_spans}
use Rattle.soy_format.specs.WithoutSpans.{select_cases_without_spans}
use Rattle.alike_files.proofs.Branches.{valued_same}
use Rattle.alike_files.proofs.Calls.{CallsSame, chosen_same, chosen_without_spans, context_without_spans, env_append}
use Rattle.alike_files.proofs.Calls.{one_same, opened_given, translation_given, turns_given}
use Rattle.alike_files.proofs.DeclaredTemplates.{callee_same, declared_without_spans}
use Rattle.alike_files.proofs.ExpressionValues.{cost_same, truthy_same, value_same}
use Rattle.alike_files.proofs.MessageCuts.{either_same}
use Rattle.alike_files.proofs.NodePlans.{ReadsNoSpan}
use Rattle.alike_files.proofs.Outcomes.{MeansSame, binding_placeless, block_placeless, bound_given, choice_next}
use Rattle.alike_files.proofs.Outcomes.{cost_next, env_placeless, print_given, text_given}

-- what comes next, under variables, gives the same without positions
abbrev BoundNextSame : (RunEnv → StateSoFar → Outcome) → (RunEnv → StateSoFar → Outcome) → Type 0
BoundNextSame next other =
    (env : RunEnv) (now : StateSoFar) → other (env_placeless env) now ≡ outcome_without_positions (next env now)

-- the one or the other of two outcomes
one_or_other : (b : Bool) (x y x' y' : Outcome) → x' ≡ outcome_without_positions x → y' ≡ outcome_without_positions y
    → (if b then x' else y') ≡ outcome_without_positions (if b then x else y)
one_or_other = either_same outcome_without_positions

module _ (c : RunContext) (called other_called : Site → Declared → RunEnv → Outcome)
    (calls : CallsSame called other_called) (same : ReadsNoSpan c.translation) where
  mutual
    node_given : (n : Node) (env : RunEnv) (so_far : StateSoFar) (next other : RunEnv → StateSoFar → Outcome)
        → BoundNextSame next other
        → node_means (context_without_spans c) other_called (node_without_spans n) (env_placeless env) so_far other
        ≡ outcome_without_positions (node_means c called n env so_far next)
    node_given (TextNode text span) env so_far next other h = text_given text so_far _ _ (h env)
    node_given (Print e phname span) env so_far next other h =
        rw (cost_same block_placeless e env, value_same block_placeless e env)
        (cost_next (cost e env) _ _ (print_given c.direction (val e env) so_far _ _ (h env)))
    node_given (If arms last span) env so_far next other h =
        arms_given arms (λ k. otherwise_means c called last k env) _ (λ k. otherwise_given last k env) 0 env so_far _ _
        (h env)
    node_given (Switch e cases last span) env so_far next other h =
        rw (cost_same block_placeless e env, valued_same e env)
        (cost_next (cost e env) _ _
        (cases_given (valued e env) cases (λ k. otherwise_means c called last k env) _
        (λ k. otherwise_given last k env) 0 env so_far _ _ (h env)))
    node_given (For name index e body span) env so_far next other h =
        rw (cost_same block_placeless e env, valued_same e env)
        (cost_next (cost e env) _ _ (choice_next (Turns (item_count (listed_items (valued e env)))) _ _
        (turns_given (λ inner now after. nodes_mean c called body inner now (unbound after))
        (λ inner now after.
        nodes_mean (context_without_spans c) other_called (nodes_without_spans body) inner now (unbound after))
        (λ inner now after more k. nodes_given body inner now (unbound after) (unbound more) (λ e at. k at))
        name index env 0 (listed_items (valued e env)) so_far _ _ (h env))))
    node_given (Let name e span) env so_far next other h =
        rw (cost_same block_placeless e env, value_same block_placeless e env)
        (cost_next (cost e env) _ _ (h ((name, val e env) ∷ env) so_far))
    node_given (LetBlock name kind body span) env so_far next other h =
        ap (λ o. block_bound kind o (λ bound. other ((name, bound) ∷ env_placeless env) so_far))
        (nodes_given body env (Ok (start kind)) at_end at_end (λ inner now. refl))
        ∙ bound_given kind (nodes_mean c called body env (Ok (start kind)) at_end)
        (λ bound. next ((name, bound) ∷ env) so_far)
        (λ bound. other ((name, bound) ∷ env_placeless env) so_far) (λ bound. h ((name, bound) ∷ env) so_far)
    node_given (Call name all given span) env so_far next other h =
        arguments_given given [] env _ _ (λ arguments.
        rw (callee_same c.declared c.namespace name)
        (opened_given c called other_called calls (starts_at c.file span) (callee c.declared c.namespace name) arguments
        all env so_far _ _ (h env)))
    node_given (MessageNode m last span) env so_far next other h =
        ap (λ t. message_means (context_without_spans c) other_called t (message_without_spans m) (env_placeless env)
        so_far (other (env_placeless env))) (chosen_same c.translation same m last)
        ∙ message_given (chosen_text c.translation m last) m env so_far _ _ (h env)

    nodes_given : (ns : Nodes) (env : RunEnv) (so_far : StateSoFar) (next other : RunEnv → StateSoFar → Outcome)
        → BoundNextSame next other
        → nodes_mean (context_without_spans c) other_called (nodes_without_spans ns) (env_placeless env) so_far other
        ≡ outcome_without_positions (nodes_mean c called ns env so_far next)
    nodes_given no_node env so_far next other h = h env so_far
    nodes_given (node n ns) env so_far next other h =
        node_given n env so_far _ _ (λ inner now. nodes_given ns inner now next other h)

    otherwise_given : (o : Otherwise) (k : ℕ) (env : RunEnv)
        → MeansSame (otherwise_means c called o k env)
        (otherwise_means (context_without_spans c) other_called (otherwise_without_spans o) k (env_placeless env))
    otherwise_given no_otherwise k env so_far next other h =
        choice_next (ArmTaken None) (next so_far) (other so_far) (h so_far)
    otherwise_given (otherwise body) k env so_far next other h =
        choice_next (ArmTaken (Some k)) _ _
        (nodes_given body env so_far (unbound next) (unbound other) (λ inner now. h now))

    arms_given : (arms : Arms) (last last' : ℕ → Means) → ((k : ℕ) → MeansSame (last k) (last' k)) → (k : ℕ)
        (env : RunEnv)
        → MeansSame (arms_mean c called arms last k env)
        (arms_mean (context_without_spans c) other_called (arms_without_spans arms) last' k (env_placeless env))
    arms_given no_arm last last' lasts k env so_far next other h = lasts k so_far next other h
    arms_given (arm e body arms) last last' lasts k env so_far next other h =
        rw (
          cost_same block_placeless e env,
          value_same block_placeless e env,
          truthy_same block_placeless (val e env),
        )
        (cost_next (cost e env) _ _
        (one_or_other (is_truthy (val e env))
        (with_choice (ArmTaken (Some k)) (nodes_mean c called body env so_far (unbound next)))
        (arms_mean c called arms last (k + 1) env so_far next) _ _
        (choice_next (ArmTaken (Some k)) _ _
        (nodes_given body env so_far (unbound next) (unbound other) (λ inner now. h now)))
        (arms_given arms last last' lasts (k + 1) env so_far next other h)))

    cases_given : (v : Value) (cases : Cases) (last last' : ℕ → Means) → ((k : ℕ) → MeansSame (last k) (last' k))
        → (k : ℕ) (env : RunEnv)
        → MeansSame (cases_mean c called v cases last k env)
        (cases_mean (context_without_spans c) other_called v (cases_without_spans cases) last' k (env_placeless env))
    cases_given v no_case last last' lasts k env so_far next other h = lasts k so_far next other h
    cases_given v (case es body cases) last last' lasts k env so_far next other h =
        rw (one_same v es env)
        (cost_next (is_one v es env).1 _ _
        (one_or_other (is_one v es env).0
        (with_choice (ArmTaken (Some k)) (nodes_mean c called body env so_far (unbound next)))
        (cases_mean c called v cases last (k + 1) env so_far next) _ _
        (choice_next (ArmTaken (Some k)) _ _
        (nodes_given body env so_far (unbound next) (unbound other) (λ inner now. h now)))
        (cases_given v cases last last' lasts (k + 1) env so_far next other h)))

    arguments_given : (given : Arguments) (before : GivenArguments) (env : RunEnv)
        (next other : GivenArguments → Outcome)
        → ((done : GivenArguments) → other (env_placeless done) ≡ outcome_without_positions (next done))
        → arguments_mean (context_without_spans c) other_called (arguments_without_spans given) (env_placeless before)
        (env_placeless env) other
        ≡ outcome_without_positions (arguments_mean c called given before env next)
    arguments_given no_argument before env next other h = h before
    arguments_given (argument name given span rest) before env next other h =
        given_given given env
        (λ bound. arguments_mean c called rest (before ++ ((name, bound) ∷ [])) env next)
        (λ bound. arguments_mean (context_without_spans c) other_called (arguments_without_spans rest)
        (env_placeless before ++ ((name, bound) ∷ [])) (env_placeless env) other)
        (λ bound. ap (λ done. arguments_mean (context_without_spans c) other_called (arguments_without_spans rest) done
        (env_placeless env) other) (sym (env_append before ((name, bound) ∷ [])))
        ∙ arguments_given rest (before ++ ((name, bound) ∷ [])) env next other h)

    given_given : (given : Given) (env : RunEnv) (next other : Binding BoundBlock → Outcome)
        → ((b : Binding BoundBlock) → other (binding_placeless b) ≡ outcome_without_positions (next b))
        → given_means (context_without_spans c) other_called (given_without_spans given) (env_placeless env) other
        ≡ outcome_without_positions (given_means c called given env next)
    given_given (Plain e) env next other h =
        rw (cost_same block_placeless e env, value_same block_placeless e env)
        (cost_next (cost e env) _ _ (h (val e env)))
    given_given (Block kind body) env next other h =
        ap (λ o. block_bound kind o other) (nodes_given body env (Ok (start kind)) at_end at_end (λ inner now. refl))
        ∙ bound_given kind (nodes_mean c called body env (Ok (start kind)) at_end) next other h

    message_given : (chosen : ChosenText) (m : Message) (env : RunEnv)
        → MeansSame (message_means c called chosen m env)
        (message_means (context_without_spans c) other_called (chosen_without_spans chosen) (message_without_spans m)
        (env_placeless env))
    message_given TheSource (message desc meaning body span) env so_far next other h =
        choice_next (TextTaken SourceText) _ _ (source_given body env so_far next other h)
    message_given (TheOwn parts) m env so_far next other h =
        choice_next (TextTaken OwnTranslation) _ _
        (translation_given c called other_called env m parts so_far next other h)
    message_given (TheFallback m parts) first env so_far next other h =
        choice_next (TextTaken FallbackTranslation) _ _
        (translation_given c called other_called env m parts so_far next other h)

    source_given : (b : MessageBody) (env : RunEnv)
        → MeansSame (source_means c called b env)
        (source_means (context_without_spans c) other_called (body_without_spans b) (env_placeless env))
    source_given (Parts ns) env so_far next other h =
        nodes_given ns env so_far (unbound next) (unbound other) (λ inner now. h now)
    source_given (Plural e offset cases last) env so_far next other h =
        rw (cost_same block_placeless e env, valued_same e env)
        (cost_next (cost e env) _ _
        (plurals_given (int_of (valued e env)) cases (source_means c called last env) _ (source_given last env) 0 env
        so_far next other h))
    source_given (Select e cases last) env so_far next other h =
        rw (cost_same block_placeless e env, valued_same e env)
        (cost_next (cost e env) _ _
        (selects_given (word_of (valued e env)) cases (source_means c called last env) _ (source_given last env) 0 env
        so_far next other h))

    plurals_given : (n : ℤ) (cases : PluralCases) (last last' : Means) → MeansSame last last' → (k : ℕ) (env : RunEnv)
        → MeansSame (plural_cases_mean c called n cases last k env)
        (plural_cases_mean (context_without_spans c) other_called n (plural_cases_without_spans cases) last' k
        (env_placeless env))
    plurals_given n no_plural_case last last' lasts k env so_far next other h =
        choice_next (ArmTaken (Some k)) (last so_far next) (last' so_far other) (lasts so_far next other h)
    plurals_given n (plural_case m body cases) last last' lasts k env so_far next other h =
        one_or_other (is_same_int m n) _ (plural_cases_mean c called n cases last (k + 1) env so_far next) _ _
        (choice_next (ArmTaken (Some k)) (source_means c called body env so_far next) _
        (source_given body env so_far next other h))
        (plurals_given n cases last last' lasts (k + 1) env so_far next other h)

    selects_given : (word : Name) (cases : SelectCases) (last last' : Means) → MeansSame last last' → (k : ℕ)
        (env : RunEnv)
        → MeansSame (select_cases_mean c called word cases last k env)
        (select_cases_mean (context_without_spans c) other_called word (select_cases_without_spans cases) last' k
        (env_placeless env))
    selects_given word no_select_case last last' lasts k env so_far next other h =
        choice_next (ArmTaken (Some k)) (last so_far next) (last' so_far other) (lasts so_far next other h)
    selects_given word (select_case is body cases) last last' lasts k env so_far next other h =
        one_or_other (bytes_eq is word) _ (select_cases_mean c called word cases last (k + 1) env so_far next) _ _
        (choice_next (ArmTaken (Some k)) (source_means c called body env so_far next) _
        (source_given body env so_far next other h))
        (selects_given word cases last last' lasts (k + 1) env so_far next other h)

  -- a frame by itself
  pub frame_given : (kind : Kind) (body : Nodes) (env : RunEnv)
      → frame_outcome (context_without_spans c) other_called kind (nodes_without_spans body) (env_placeless env)
      ≡ outcome_without_positions (frame_outcome c called kind body env)
  frame_given kind body env = nodes_given body env (Ok (start kind)) at_end at_end (λ inner now. refl)

-- ---- templates

module _ (c : RunContext) (same : ReadsNoSpan c.translation) where
  within_given : (left : ℕ) → CallsSame (called_within c left) (called_within (context_without_spans c) left)
  unfolding called_within
  within_given zero at d env = refl
  within_given (suc left) at d env =
      frame_given (context_in c d) (called_within c left) (called_within (context_without_spans c) left)
      (within_given left) same d.template.kind d.template.body env

  -- **what an entry gives**
  pub run_same : (d : Declared) (env : RunEnv)
      → template_run (context_without_spans c) (declared_without_spans d) (env_placeless env)
      ≡ outcome_without_positions (template_run c d env)
  run_same d env =
      frame_given (context_in c d) (called_within c 100) (called_within (context_without_spans c) 100)
      (within_given 100) same d.template.kind d.template.body env
