-- What nodes mean goes along paths of their plans.
use Rattle.std.proofs.Common.{◌≡◌, ℕ, zero, suc, ◌+◌, ℤ, pos, Bool, List, [], ◌∷◌, ◌++◌, ◌⊎◌, inl, inr, Option, Some}
use Rattle.std.proofs.Common.{None, if◌then◌else◌, refl, sym, ap, ◌∙◌, subst, append_assoc}
use Rattle.std.specs.Prelude.{bytes_eq}
use Rattle.std.proofs.lemmas.List.{append-nil}
use Rattle.soy_base.specs.declared.fault.Span.{Span}
use Rattle.soy_base.specs.declared.kind.Kind.{Kind}
use Rattle.soy_base.specs.Piece.{Piece}
use Rattle.soy_tree.specs.Types.{Name}
use Rattle.soy_rules.specs.Cost.{cost}
use Rattle.soy_tree.specs.MessageParts.{MsgParts}
use Rattle.soy_rules.specs.Narrowing.{narrowed}
use Rattle.soy_tree.specs.Nodes.{Node, Nodes, Otherwise, Arms, Cases, Arguments, Given, Message, Fallback, MessageBody}
use Rattle.soy_tree.specs.Nodes.{PluralCases, SelectCases, TextNode, Print, If, Switch, For, Let, LetBlock, Call}
use Rattle.soy_tree.specs.Nodes.{MessageNode, no_node, node, no_otherwise, otherwise, no_arm, arm, no_case, case}
use Rattle.soy_tree.specs.Nodes.{no_argument, argument, Plain, Block, message, no_fallback, fallback, Parts, Plural}
use Rattle.soy_tree.specs.Nodes.{Select, no_plural_case, plural_case, no_select_case, select_case}
use Rattle.soy_tree.specs.Expressions.{Expr}
use Rattle.soy_rules.specs.Bodies.{Around}
use Rattle.soy_rules.specs.Templates.{Declared, callee, kind_type, param_scope}
use Rattle.soy_rules.specs.TypeOf.{Scope, type_of}
use Rattle.soy_rules.specs.Val.{Binding, Known, is_same_int, is_truthy, val}
use Rattle.soy_tree.specs.Values.{Items, NullValue, Value, item, no_item}
use Rattle.soy_pieces.specs.Branch.{int_of}
use Rattle.soy_pieces.specs.Branch.{word_of}
use Rattle.soy_pieces.specs.Giving.{
  BoundBlock,
  Means,
  RunEnv,
  StateSoFar,
  block_bound,
  called_means,
  printed_means,
  text_means,
}
use Rattle.soy_pieces.specs.Giving.{with_choice, with_cost}
use Rattle.soy_pieces.specs.Outcome.{ArmTaken, ChoiceMade, FallbackTranslation, Outcome, OwnTranslation, SourceText}
use Rattle.soy_pieces.specs.Outcome.{TextTaken, Turns}
use Rattle.soy_meaning.specs.Paths.PathParts.{IsPath, both, empty_path, no_turn, passed_by, turn}
use Rattle.soy_pieces.specs.Pieces.{GivenArguments, RunContext, arguments_mean, arms_mean, at_end, callee_env}
use Rattle.soy_pieces.specs.Pieces.{cases_mean, chosen_after, chosen_of, chosen_text, fallback_text}
use Rattle.soy_rules.specs.ShortLists.{item_count}
use Rattle.soy_pieces.specs.Pieces.{given_means, is_one, listed_items, message_means, node_means}
use Rattle.soy_pieces.specs.Pieces.{nodes_mean}
use Rattle.soy_pieces.specs.Pieces.{opened_means, otherwise_means, plural_cases_mean, select_cases_mean, source_means}
use Rattle.soy_pieces.specs.Pieces.{translated_means, turns_mean, unbound, valued, with_index}
use Rattle.soy_pieces.specs.Pieces.{TheSource, called_within, context_in}
use Rattle.soy_meaning.specs.Paths.Plan.{Plan, Frame, Hole, Loop, Nothing, Nowhere, Then, arms_meet}
use Rattle.soy_pieces.specs.Site.{Site}
use Rattle.soy_meaning.specs.Paths.PlanOfNodes.{PlanContext, arm_plans, argument_frames, body_plan, body_scope}
use Rattle.soy_meaning.specs.Paths.PlanOfNodes.{called_classes, kind_class}
use Rattle.soy_meaning.specs.Paths.PlanOfNodes.{case_plans, closes_at, fallback_plans, given_frame, node_plan}
use Rattle.soy_meaning.specs.Paths.PlanOfNodes.{nodes_plan}
use Rattle.soy_meaning.specs.Paths.PlanOfNodes.{other_plan, plural_plans, scope_past, select_plans}
use Rattle.soy_pieces.specs.Site.{starts_at}
use Rattle.soy_meaning.specs.Paths.PlanOfNodes.{translated_plan, translation_plans}
use Rattle.soy_rules.specs.Placeholders.{uses_of}
use Rattle.soy_meaning.specs.Paths.PlanOfParts.{parts_plan}
use Rattle.soy_meaning.specs.Paths.PlanOfParts.{printed_classes, text_plan}
use Rattle.soy_meaning.specs.Walks.Points.{Here, Inside, Left, Right}
use Rattle.soy_meaning.specs.Runs.RunsAlong.{FitsClasses, IsFrameWithin, RunsAlong}
use Rattle.soy_meaning.specs.Runs.ComesNext.{ComesNext, IsItem, arm_bodies, at_first, case_bodies, in_a_turn, in_an_arm}
use Rattle.soy_meaning.specs.Runs.ComesNext.{other_bodies, past, plural_bodies, select_bodies, source_bodies}
use Rattle.soy_meaning.specs.Runs.FrameRun.{FrameRun, inner_frame, plan_context, run_outcome, run_plan, template_frame}
use Rattle.soy_meaning.specs.Runs.GivenAt.{FallbackPrints, HasPlaceholderOf, IsGivenAt, OpensCall, given_binding_of}
use Rattle.soy_meaning.specs.Runs.GivenAt.{given_bindings}
use Rattle.soy_meaning.specs.Runs.StopsWithin.{GivesBlock, IsOpened, StopsWithin, a_block, a_call}
use Rattle.soy_meaning.specs.Walks.States.{IsMember}
use Rattle.soy_meaning.specs.Runs.TranslationFits.{ArgumentsFit, ArmsFit, BodyFits, CasesFit, FallbackFits, FitsMessage}
use Rattle.soy_meaning.specs.Runs.TranslationFits.{GivenFits, NodeFits, NodesFit, OtherFits, PluralFits, SelectFits}
use Rattle.soy_meaning.proofs.Runs.Goings.{GivesBlocks, Goes, GoesSome, IsGood, Joins, Ran, Stopped, Through}
use Rattle.soy_meaning.proofs.Runs.Goings.{after_so_far}
use Rattle.soy_meaning.proofs.Runs.Goings.{along, block_binds, called_goes, goes_behind, goes_both, goes_whole}
use Rattle.soy_meaning.proofs.Runs.Goings.{halts_stopped, passes, printed_goes, refused_goes, silent_goes}
use Rattle.soy_meaning.proofs.Runs.Goings.{stopped_first}
use Rattle.soy_meaning.proofs.Runs.Goings.{through_stopped}
use Rattle.soy_meaning.proofs.Runs.Goings.{same_goes, some_behind, some_here, some_if}
use Rattle.soy_meaning.proofs.Runs.Goings.{some_meets, some_same, text_goes, value_goes}
use Rattle.soy_meaning.proofs.Runs.RunBindings.{
  AllFramesIn,
  AllRun,
  FramesIn,
  IsAmong,
  any_frames,
  callee_among,
  callee_runs,
}
use Rattle.soy_meaning.proofs.Runs.RunBindings.{env_more, frames_left, frames_right, index_runs, val_runs}
use Rattle.soy_meaning.proofs.Runs.OpenedCalls.{called_more, called_none, first_gives, rest_gives}
use Rattle.soy_meaning.proofs.Runs.RunPieces.{IsSilent, StopsOnlyAt, silent_as, silent_then}
use Rattle.soy_meaning.proofs.Members.{mem_left, mem_right}
use Rattle.soy_meaning.proofs.Paths.SomePaths.{frames_path, node_path, nodes_path}
use Rattle.soy_meaning.specs.Paths.Filled.{filled_pieces}
use Rattle.soy_meaning.proofs.Runs.PartRuns.{choice_same, cost_same, parts_go}
use Rattle.soy_meaning.proofs.Typing.CheckedTrees.{around_template}
use Rattle.soy_meaning.proofs.Typing.PrintableUses.{message_printable}
use Rattle.soy_meaning.proofs.Typing.TypedEnvs.{EnvTyped, arm_typed, callee_typed, let_block_typed, let_typed}
use Rattle.soy_meaning.proofs.Typing.TypedEnvs.{loop_typed}
use Rattle.soy_meaning.proofs.Typing.TypedEnvs.{placeholders_have_classes, printed_has_class}
use Rattle.soy_meaning.proofs.Typing.TypedNodes.{ArgumentsTyped, ArmsTyped, BodyTyped, CalleeTakes, CasesTyped}
use Rattle.soy_meaning.proofs.Typing.TypedNodes.{FallbackTyped}
use Rattle.soy_meaning.proofs.Typing.TypedNodes.{GivenTyped, NodeTyped, NodesTyped, OtherTyped, PluralTyped}
use Rattle.soy_meaning.proofs.Typing.TypedNodes.{SelectTyped}
use Rattle.soy_meaning.proofs.Typing.TypedNodes.{UsesPrintable}

module _ (c : RunContext) (whole : Plan) (Claim : Type 0) (IsStop : Site → Type 0) (entry : FrameRun)
    (stop : (at : Site) → StopsWithin c entry at → IsStop at) (left : ℕ)
    (deeper : (fewer : ℕ) → left ≡ suc fewer → (d : Declared) (env : RunEnv) → IsMember d c.declared
    → AllRun c whole Claim IsStop env → (Claim → EnvTyped (param_scope d.template.params) env)
    → IsOpened c entry (template_frame fewer d env)
    → Ran c whole Claim IsStop (template_frame fewer d env)) where
  abbrev AllGood : RunEnv → Type 0
  AllGood = AllRun c whole Claim IsStop

  abbrev own : FrameRun → RunContext
  own q = context_in c q.template

  abbrev called : FrameRun → Site → Declared → RunEnv → Outcome
  called q = called_within c q.left

  abbrev At : FrameRun → List Piece → StateSoFar
  At = after_so_far c whole Claim IsStop

  abbrev Gone : FrameRun → Plan → List Piece → Outcome → (StateSoFar → Outcome) → Type 0
  Gone = Goes c whole Claim IsStop

  abbrev Some_ : FrameRun → List Plan → List Piece → Outcome → (StateSoFar → Outcome) → Type 0
  Some_ = GoesSome c whole Claim IsStop

  -- what the checker asks of a frame's commands, and what its variables are bound to, under the claim
  abbrev around : FrameRun → Around
  around q = around_template c.declared q.template

  abbrev Fitting : Scope → RunEnv → Type 0
  Fitting scope env = Claim → EnvTyped scope env

  abbrev of_context : FrameRun → PlanContext
  of_context q = plan_context (context_in c q.template)

  -- a frame that the entry opens, where so many calls are left
  pub record IsWithin (q : FrameRun) : Type 0 where
    pub same_left : q.left ≡ left
    pub opened : IsOpened c entry q

  -- along the plan, and on with these variables
  record LeavesThrough (q : FrameRun) (p : Plan) (ns : Nodes) (before : List Piece) (o : Outcome)
      (next : RunEnv → StateSoFar → Outcome) (IsFit : RunEnv → Type 0) : Type 0 where
    pub env : RunEnv
    pub runs : AllGood env
    pub fit : IsFit env
    pub comes : ComesNext c q ns env
    pub through : Through c whole Claim IsStop q p before o (next env)

  abbrev LeavesAs : FrameRun → Plan → Nodes → List Piece → Outcome → (RunEnv → StateSoFar → Outcome)
      → (RunEnv → Type 0) → Type 0
  LeavesAs q p ns before o next IsFit =
      LeavesThrough q p ns before o next IsFit ⊎ Stopped c whole Claim IsStop q p before o

  -- where nothing stays bound
  abbrev Leaves : FrameRun → Plan → Nodes → List Piece → Outcome → (RunEnv → StateSoFar → Outcome) → Type 0
  Leaves q p ns before o next = LeavesAs q p ns before o next (λ env. Unit {0})

  leaves : (q : FrameRun) (p : Plan) (ns : Nodes) (before : List Piece) (o : Outcome)
      (next : RunEnv → StateSoFar → Outcome) (IsFit : RunEnv → Type 0) (env : RunEnv) → AllGood env → IsFit env
      → ComesNext c q ns env → Gone q p before o (next env) → LeavesAs q p ns before o next IsFit
  leaves q p ns before o next IsFit env runs fit comes (inl t) =
      inl (record { env = env; runs = runs; fit = fit; comes = comes; through = t })
  leaves q p ns before o next IsFit env runs fit comes (inr s) = inr s

  goes_on : (q : FrameRun) (p : Plan) (ns : Nodes) (before : List Piece) (o : Outcome) (on : StateSoFar → Outcome)
      → Leaves q p ns before o (unbound on) → Gone q p before o on
  goes_on q p ns before o on (inl l) = inl l.through
  goes_on q p ns before o on (inr s) = inr s

  ran : (q : FrameRun) → IsFrameWithin whole q.kind (run_plan c q)
      → (r : RunsAlong c whole q) × StopsOnlyAt IsStop (run_outcome c q) × (Claim → FitsClasses r.filled)
      → Ran c whole Claim IsStop q
  ran q within r = record { within = within; runs = r.0; stops = r.1; fits = r.2 }

  frame_ends : (q : FrameRun) → IsFrameWithin whole q.kind (run_plan c q)
      → Leaves q (run_plan c q) no_node [] (run_outcome c q) at_end → Ran c whole Claim IsStop q
  frame_ends q within (inl l) = ran q within
      (goes_whole c whole Claim IsStop q (at_end l.env) (λ s. refl) (inl l.through))
  frame_ends q within (inr k) = ran q within (goes_whole c whole Claim IsStop q (at_end q.env) (λ s. refl) (inr k))

  costs_goes : (q : FrameRun) (p : Plan) (before : List Piece) (n : ℕ) (o : Outcome) (on : StateSoFar → Outcome)
      → Gone q p before o on → Gone q p before (with_cost n o) on
  costs_goes q p before n o on goes = same_goes c whole Claim IsStop q p before (with_cost n o) o on
      (cost_same n o) goes

  chooses_goes : (q : FrameRun) (p : Plan) (before : List Piece) (choice : ChoiceMade) (o : Outcome)
      (on : StateSoFar → Outcome) → Gone q p before o on → Gone q p before (with_choice choice o) on
  chooses_goes q p before choice o on goes = same_goes c whole Claim IsStop q p before (with_choice choice o) o on
      (choice_same choice o) goes

  costs_some : (q : FrameRun) (ps : List Plan) (before : List Piece) (n : ℕ) (o : Outcome) (on : StateSoFar → Outcome)
      → Some_ q ps before o on → Some_ q ps before (with_cost n o) on
  costs_some q ps before n o on some = some_same c whole Claim IsStop q ps before (with_cost n o) o on
      (cost_same n o) some

  -- ---- calls and loops

  opened_at : (q : FrameRun) → IsWithin q → (name : Name) (all : Bool) (given : Arguments) (span : Span) (ns : Nodes)
      (env : RunEnv) → ComesNext c q (node (Call name all given span) ns) env → (d : Declared)
      → callee c.declared q.template.namespace name ≡ Some d → IsMember d c.declared
      → AllGood (given_bindings c q given env) → AllGood env
      → Fitting (param_scope d.template.params) (callee_env d.template.params (given_bindings c q given env) all
      q.template.template.params env)
      → (before : List Piece) (on : StateSoFar → Outcome) (n : ℕ) → q.left ≡ n →
      Gone q (Hole (starts_at q.template.file span) (kind_class d.template.kind ∷ [])) before
      (called_means c.direction d.template.kind (called_within c n (starts_at q.template.file span) d
      (callee_env d.template.params (given_bindings c q given env) all q.template.template.params env))
      (At q before) on) on
  opened_at q facts name all given span ns env here d found among given_run runs fit before on zero none =
      let at : Site = starts_at q.template.file span in
      let inner : RunEnv = callee_env d.template.params (given_bindings c q given env) all q.template.template.params
      env in
      subst (λ o. Gone q (Hole at (kind_class d.template.kind ∷ [])) before
      (called_means c.direction d.template.kind o (At q before) on) on) (sym (called_none c at d inner))
      (refused_goes c whole Claim IsStop q at (kind_class d.template.kind ∷ []) d.template.kind before on
      (stop at (record {
        frame = q;
        opened = facts.opened;
        none_left = none;
        name = name;
        all = all;
        given = given;
        span = span;
        rest = ns;
        env = env;
        comes = here;
        site = refl;
      })))
  opened_at q facts name all given span ns env here d found among given_run runs fit before on (suc fewer) some =
      let at : Site = starts_at q.template.file span in
      let inner : RunEnv = callee_env d.template.params (given_bindings c q given env) all q.template.template.params
      env in
      let frame : FrameRun = template_frame fewer d inner in
      let opens : OpensCall c q name all given env frame =
      record { template = d; found = found; left = fewer; one_less = some; frame = refl } in
      let given_there : IsGivenAt c q at frame =
      record { command = Call name all given span; rest = ns; env = env; comes = here; gives = (refl, opens) } in
      let ran_there : Ran c whole Claim IsStop frame = deeper fewer (sym facts.same_left ∙ some) d inner among
      (callee_runs c whole Claim IsStop d.template.params (given_bindings c q given env) all
      q.template.template.params env
      given_run runs) fit (a_call facts.opened here opens) in
      subst (λ o. Gone q (Hole at (kind_class d.template.kind ∷ [])) before
      (called_means c.direction d.template.kind o (At q before) on) on) (sym (called_more c fewer at d inner))
      (called_goes c whole Claim IsStop q at (kind_class d.template.kind ∷ []) frame before on (λ k. inl refl)
      given_there ran_there)

  opened_goes : (q : FrameRun) → IsWithin q → (name : Name) (all : Bool) (given : Arguments) (span : Span) (ns : Nodes)
      (env : RunEnv) → ComesNext c q (node (Call name all given span) ns) env → (found : Option Declared)
      → callee c.declared q.template.namespace name ≡ found → IsAmong c.declared found
      → AllGood (given_bindings c q given env) → AllGood env → (scope : Scope)
      → (Claim → CalleeTakes found given all q.template.template.params scope) → Fitting scope env
      → (before : List Piece) (on : StateSoFar → Outcome) →
      Gone q (Hole (starts_at q.template.file span) (called_classes found)) before
      (opened_means (own q) (called q) (starts_at q.template.file span) found (given_bindings c q given env) all env
      (At q before) on) on
  opened_goes q facts name all given span ns env here None found among given_run runs scope typed fit before on =
      value_goes c whole Claim IsStop q (starts_at q.template.file span) [] NullValue before on
      (λ k. absurd (typed k))
  opened_goes q facts name all given span ns env here (Some d) found among given_run runs scope typed fit before on =
      opened_at q facts name all given span ns env here d found among given_run runs
      (λ k. callee_typed c q scope env (fit k) d.template.params given all q.template.template.params (typed k))
      before on q.left refl

  turns_go : (q : FrameRun) (at : Site) (p : Plan) (body : RunEnv → Means) (name : Name) (index : Option Name)
      (env : RunEnv) (n : ℕ) (items : Items)
      → ((k : ℕ) (v : Value) → IsItem n items k v → (before : List Piece) (on : StateSoFar → Outcome)
      → Gone q p before (body (with_index index k ((name, Known v) ∷ env)) (At q before) on) on) →
      (before : List Piece) (on : StateSoFar → Outcome)
      → Gone q (Loop at p) before (turns_mean body name index env n items (At q before) on) on
  turns_go q at p body name index env n no_item goes before on =
      passes c whole Claim IsStop q (Loop at p) before on no_turn
  turns_go q at p body name index env n (item v vs) goes before on =
      let inner : RunEnv = with_index index n ((name, Known v) ∷ env) in
      let following : StateSoFar → Outcome = λ now. turns_mean body name index env (n + 1) vs now on in
      goes_both c whole Claim IsStop q p (Loop at p) (Loop at p) before (body inner (At q before) following)
      following on (λ a b h k. turn h k) (record { parts = []; path = no_turn })
      (goes n v (inl (refl, refl)) before following)
      (λ more. turns_go q at p body name index env (n + 1) vs (λ k w h. goes k w (inr h)) more on)

  -- ---- messages

  -- the blocks that placeholders print are given at the message
  abbrev AllGiven : FrameRun → Site → RunEnv → (Expr → Type 0) → Type 0
  AllGiven q at env IsPrinted = (e : Expr) → IsPrinted e → GivesBlocks c whole Claim IsStop q at (val e env)

  after_go : (q : FrameRun) (m : Message) (source : Plan) (scope : Scope) (at : Site) (env : RunEnv) → AllGood env
      → (before : List Piece) (on : StateSoFar → Outcome) →
      Gone q source before (message_means (own q) (called q) TheSource m env (At q before) on) on
      → (other : Message) (found : Option MsgParts) → FitsMessage (uses_of other) found
      → AllGiven q at env (HasPlaceholderOf (uses_of other)) → (Claim → UsesPrintable (uses_of other) scope)
      → Fitting scope env →
      Some_ q (source ∷ translated_plan (uses_of other) scope at found) before
      (message_means (own q) (called q) (chosen_after other found) m env (At q before) on) on
  after_go q m source scope at env runs before on goes other None fit given uses fitting =
      some_here c whole Claim IsStop q source [] before
      (message_means (own q) (called q) TheSource m env (At q before) on) on goes
  after_go q m source scope at env runs before on goes other (Some parts) fit given uses fitting =
      let p : Plan = parts_plan (uses_of other) scope at parts in
      let o : Outcome = translated_means (own q) (called q) env other parts (At q before) on in
      some_behind c whole Claim IsStop q source (p ∷ []) before (with_choice (TextTaken FallbackTranslation) o) on
      (some_here c whole Claim IsStop q p [] before (with_choice (TextTaken FallbackTranslation) o) on
      (chooses_goes q p before (TextTaken FallbackTranslation) o on
      (parts_go c whole Claim IsStop q (uses_of other) scope at env runs given
      (λ k. placeholders_have_classes (uses_of other) scope env (uses k) (fitting k)) parts fit (pos 0) before on)))

  own_go : (q : FrameRun) (m : Message) (source : Plan) (scope : Scope) (at : Site) (env : RunEnv) → AllGood env
      → (before : List Piece) (on : StateSoFar → Outcome) →
      Gone q source before (message_means (own q) (called q) TheSource m env (At q before) on) on
      → (found : Option MsgParts) → FitsMessage (uses_of m) found → AllGiven q at env (HasPlaceholderOf (uses_of m))
      → (Claim → UsesPrintable (uses_of m) scope) → Fitting scope env
      → (other : Fallback) → FallbackFits c.translation other → AllGiven q at env (FallbackPrints other)
      → (Claim → FallbackTyped (around q) other scope) →
      Some_ q (source ∷ (translated_plan (uses_of m) scope at found ++ fallback_plans (of_context q) other scope at))
      before (message_means (own q) (called q) (chosen_of found (fallback_text c.translation other)) m env (At q before)
      on) on
  own_go q m source scope at env runs before on goes None fit given uses fitting no_fallback other_fit other_given
      other_typed =
      some_here c whole Claim IsStop q source [] before
      (message_means (own q) (called q) TheSource m env (At q before) on)
      on goes
  own_go q m source scope at env runs before on goes None fit given uses fitting (fallback other) other_fit
      other_given other_typed =
      after_go q m source scope at env runs before on goes other (c.translation other) other_fit other_given
      (λ k. message_printable (around q) other scope (other_typed k)) fitting
  own_go q m source scope at env runs before on goes (Some parts) fit given uses fitting other other_fit other_given
      other_typed =
      let p : Plan = parts_plan (uses_of m) scope at parts in
      let o : Outcome = translated_means (own q) (called q) env m parts (At q before) on in
      some_behind c whole Claim IsStop q source (p ∷ fallback_plans (of_context q) other scope at) before
      (with_choice (TextTaken OwnTranslation) o) on
      (some_here c whole Claim IsStop q p (fallback_plans (of_context q) other scope at) before
      (with_choice (TextTaken OwnTranslation) o) on
      (chooses_goes q p before (TextTaken OwnTranslation) o on
      (parts_go c whole Claim IsStop q (uses_of m) scope at env runs given
      (λ k. placeholders_have_classes (uses_of m) scope env (uses k) (fitting k)) parts fit (pos 0) before on)))

  -- ---- nodes

  -- the bodies that come where a node does
  abbrev AllCome : FrameRun → List Nodes → RunEnv → Type 0
  AllCome q bodies env = (body : Nodes) → IsMember body bodies → ComesNext c q body env

  come_left : (q : FrameRun) (bodies others : List Nodes) (env : RunEnv) → AllCome q (bodies ++ others) env
      → AllCome q bodies env
  come_left q bodies others env all body member = all body (mem_left body bodies others member)

  come_right : (q : FrameRun) (bodies others : List Nodes) (env : RunEnv) → AllCome q (bodies ++ others) env
      → AllCome q others env
  come_right q bodies others env all body member = all body (mem_right body bodies others member)

  -- the blocks of a call that a frame opens
  abbrev AllOpened : FrameRun → Arguments → RunEnv → Type 0
  AllOpened q given env =
      (k : Kind) (b : Nodes) → GivesBlock given k b → (scope : Scope) → IsOpened c entry (inner_frame q k b scope env)

  abbrev IsGiven : FrameRun → Arguments → RunEnv → GivenArguments → GivenArguments → Type 0
  IsGiven q given env before all = AllGood all × (all ≡ before ++ given_bindings c q given env)

  abbrev IsGivenAs : FrameRun → Given → RunEnv → Binding BoundBlock → Type 0
  IsGivenAs q given env bound = IsGood c whole Claim IsStop bound × (bound ≡ given_binding_of c q given env)

  -- behind nodes that are gone through
  behind_first : (q : FrameRun) (one two both_ : Plan) (before : List Piece) (o : Outcome) (on : StateSoFar → Outcome)
      (next : RunEnv → StateSoFar → Outcome) → Joins c whole Claim IsStop q one two both_
      → (t : Through c whole Claim IsStop q one before o on) →
      Leaves q two no_node (filled_pieces c.direction t.filled q.kind before)
      (on (At q (filled_pieces c.direction t.filled q.kind before))) next → Leaves q both_ no_node before o next
  behind_first q one two both_ before o on next joins t (inl l) =
      leaves q both_ no_node before o next (λ env. Unit {0}) l.env l.runs tt l.comes
      (goes_behind c whole Claim IsStop q one two both_ before o on (next l.env) joins t (inl l.through))
  behind_first q one two both_ before o on next joins t (inr s) =
      inr (through_stopped c whole Claim IsStop q one two both_ before o on joins t s)

  mutual
    node_goes : (q : FrameRun) → IsWithin q → (n : Node) (ns : Nodes) (env : RunEnv) → ComesNext c q (node n ns) env
        → AllGood env → (scope : Scope) → FramesIn whole (node_plan (of_context q) n scope) → NodeFits c.translation n
        → (Claim → NodeTyped (around q) n scope) → Fitting scope env
        → (before : List Piece) (next : RunEnv → StateSoFar → Outcome) →
        LeavesAs q (node_plan (of_context q) n scope) ns before
        (node_means (own q) (called q) n env (At q before) next) next (Fitting (scope_past n scope))
    node_goes q facts (TextNode text span) ns env here runs scope frames fit typed fitting before next =
        let at : Site = starts_at q.template.file span in
        leaves q (text_plan at text) ns before (text_means text (At q before) (next env)) next (Fitting scope) env runs
        fitting (past here)
        (text_goes c whole Claim IsStop q at text before (next env))
    node_goes q facts (Print e phname span) ns env here runs scope frames fit typed fitting before next =
        let at : Site = starts_at q.template.file span in
        let p : Plan = Hole at (printed_classes e scope) in
        let o : Outcome = printed_means c.direction (val e env) (At q before) (next env) in
        leaves q p ns before (with_cost (cost e env) o) next (Fitting scope) env runs fitting (past here)
        (costs_goes q p before (cost e env) o (next env)
        (printed_goes c whole Claim IsStop q at (printed_classes e scope) (val e env) before (next env)
        (val_runs c whole Claim IsStop e env runs)
        (λ inner is. record {
          command = Print e phname span;
          rest = ns;
          env = env;
          comes = here;
          gives = (refl, is);
        })
        (λ k. printed_has_class e scope env (typed k) (fitting k))))
    node_goes q facts (If arms other span) ns env here runs scope frames fit typed fitting before next =
        let at : Site = starts_at q.template.file span in
        let last : Plan = other_plan (of_context q) other scope in
        let ps : List Plan = arm_plans (of_context q) arms scope ++ (last ∷ []) in
        let all = any_frames whole Nowhere ps (λ y k f e. frames (Inside y) k f e) in
        let come : AllCome q (arm_bodies arms ++ other_bodies other) env = λ body member. in_an_arm here member in
        let o : Outcome = node_means (own q) (called q) (If arms other span) env (At q before) next in
        leaves q (arms_meet at ps) ns before o next (Fitting scope) env runs fitting (past here)
        (some_meets c whole Claim IsStop q at ps before o (next env)
        (arms_go q facts arms env (come_left q (arm_bodies arms) (other_bodies other) env come) runs scope
        (frames_left whole (arm_plans (of_context q) arms scope) (last ∷ []) all.1) fit.0 (λ k. (typed k).0) fitting
        (last ∷ [])
        (λ k. otherwise_means (own q) (called q) other k env) 0 before (next env)
        (λ k. some_here c whole Claim IsStop q last [] before
        (otherwise_means (own q) (called q) other k env (At q before) (next env)) (next env)
        (otherwise_goes q facts other k env (come_right q (arm_bodies arms) (other_bodies other) env come) runs scope
        (frames_right whole (arm_plans (of_context q) arms scope) (last ∷ []) all.1).0 fit.1 (λ k. (typed k).1) fitting
        before (next env)))))
    node_goes q facts (Switch e cases other span) ns env here runs scope frames fit typed fitting before next =
        let at : Site = starts_at q.template.file span in
        let last : Plan = other_plan (of_context q) other scope in
        let ps : List Plan = case_plans (of_context q) cases scope ++ (last ∷ []) in
        let all = any_frames whole Nowhere ps (λ y k f e. frames (Inside y) k f e) in
        let come : AllCome q (case_bodies cases ++ other_bodies other) env = λ body member. in_an_arm here member in
        let o : Outcome = cases_mean (own q) (called q) (valued e env) cases
        (λ k. otherwise_means (own q) (called q) other k env) 0 env (At q before) (next env) in
        leaves q (arms_meet at ps) ns before (with_cost (cost e env) o) next (Fitting scope) env runs fitting
        (past here)
        (some_meets c whole Claim IsStop q at ps before (with_cost (cost e env) o) (next env)
        (costs_some q ps before (cost e env) o (next env)
        (cases_go q facts (valued e env) cases env (come_left q (case_bodies cases) (other_bodies other) env come) runs
        scope (frames_left whole (case_plans (of_context q) cases scope) (last ∷ []) all.1) fit.0 (λ k. (typed k).0)
        fitting (last ∷ [])
        (λ k. otherwise_means (own q) (called q) other k env) 0 before (next env)
        (λ k. some_here c whole Claim IsStop q last [] before
        (otherwise_means (own q) (called q) other k env (At q before) (next env)) (next env)
        (otherwise_goes q facts other k env (come_right q (case_bodies cases) (other_bodies other) env come) runs scope
        (frames_right whole (case_plans (of_context q) cases scope) (last ∷ []) all.1).0 fit.1 (λ k. (typed k).1)
        fitting before (next env))))))
    node_goes q facts (For name index e body span) ns env here runs scope frames fit typed fitting before next =
        let at : Site = starts_at q.template.file span in
        let within : Scope = body_scope name index (type_of e scope) scope in
        let p : Plan = nodes_plan (of_context q) body within in
        let items : Items = listed_items (valued e env) in
        let turn_of : RunEnv → Means = λ inner now on. nodes_mean (own q) (called q) body inner now (unbound on) in
        let o : Outcome = turns_mean turn_of name index env 0 items (At q before) (next env) in
        leaves q (Loop at p) ns before (with_cost (cost e env) (with_choice (Turns (item_count items)) o)) next
        (Fitting scope) env runs fitting (past here)
        (costs_goes q (Loop at p) before (cost e env) (with_choice (Turns (item_count items)) o) (next env)
        (chooses_goes q (Loop at p) before (Turns (item_count items)) o (next env)
        (turns_go q at p turn_of name index env 0 items
        (λ k v there more on. goes_on q p no_node more
        (nodes_mean (own q) (called q) body (with_index index k ((name, Known v) ∷ env)) (At q more) (unbound on)) on
        (nodes_go q facts body (with_index index k ((name, Known v) ∷ env)) (in_a_turn k v here there)
        (index_runs c whole Claim IsStop index k ((name, Known v) ∷ env) (tt, runs)) within
        (λ y k f e. frames (Inside y) k f e) fit (λ j. (typed j).1)
        (λ j. loop_typed name index e scope env k v (typed j).0 (fitting j) there) more (unbound on)))
        before (next env))))
    node_goes q facts (Let name e span) ns env here runs scope frames fit typed fitting before next =
        let inner : RunEnv = (name, val e env) ∷ env in
        leaves q Nothing ns before (with_cost (cost e env) (next inner (At q before))) next
        (Fitting (scope_past (Let name e span) scope)) inner (val_runs c whole Claim IsStop e env runs, runs)
        (λ k. let_typed name e scope env (typed k) (fitting k)) (past here)
        (costs_goes q Nothing before (cost e env) (next inner (At q before)) (next inner)
        (passes c whole Claim IsStop q Nothing before (next inner) empty_path))
    node_goes q facts (LetBlock name k body span) ns env here runs scope frames fit typed fitting before next =
        let p : Plan = nodes_plan (of_context q) body scope in
        let passed : Plan = Frame k (closes_at q.template.file span) p in
        let bind : Binding BoundBlock → Outcome = λ bound. next ((name, bound) ∷ env) (At q before) in
        let block : FrameRun = inner_frame q k body scope env in
        let inside : IsWithin block =
        record { same_left = facts.same_left; opened = a_block facts.opened here (refl, refl) } in
        let ran_block : Ran c whole Claim IsStop block = frame_ends block (frames Here k p refl)
        (nodes_go block inside body env at_first runs scope (λ y k f e. frames (Inside y) k f e) fit typed fitting []
        at_end) in
        elim (block_binds c whole Claim IsStop block bind ran_block) [
          | inl b ↦ leaves q passed ns before (block_bound k (run_outcome c block) bind) next
              (Fitting ((name, kind_type k) ∷ scope)) ((name, b.value) ∷ env) (b.good.0, runs)
              (λ j. let_block_typed name k (run_outcome c block) b.value scope env b.good.1 (fitting j))
              (subst (λ v. ComesNext c q ns ((name, v) ∷ env)) (sym b.good.1) (past here))
              (same_goes c whole Claim IsStop q passed before (block_bound k (run_outcome c block) bind) (bind b.value)
              (next ((name, b.value) ∷ env)) b.same
              (passes c whole Claim IsStop q passed before (next ((name, b.value) ∷ env)) passed_by))
          | inr h ↦ inr (halts_stopped c whole Claim IsStop q passed before (block_bound k (run_outcome c block) bind)
              (record { parts = []; path = passed_by }) h)
        ]
    node_goes q facts (Call name all given span) ns env here runs scope frames fit typed fitting before next =
        let at : Site = starts_at q.template.file span in
        let found : Option Declared = callee c.declared q.template.namespace name in
        let p : Plan = Hole at (called_classes found) in
        let whole_call : Plan = Then p (argument_frames (of_context q) given scope) in
        let opens : GivenArguments → Outcome = λ arguments. opened_means (own q) (called q) at found arguments all env
        (At q before) (next env) in
        leaves q whole_call ns before (arguments_mean (own q) (called q) given [] env opens) next (Fitting scope) env
        runs fitting (past here)
        (silent_goes c whole Claim IsStop q (IsGiven q given env []) whole_call before
        (arguments_mean (own q) (called q) given [] env opens) opens (next env)
        (node_path (of_context q) (Call name all given span) scope)
        (arguments_bind q facts given [] tt env (λ k b gives scope. a_block facts.opened here gives) runs scope
        (λ y k f e. frames (Right y) k f e) fit (λ k. (typed k).1) fitting opens)
        (λ arguments good. subst (λ a. Gone q whole_call before (opens a) (next env)) (sym good.1)
        (along c whole Claim IsStop q p whole_call before (opens (given_bindings c q given env)) (next env)
        (λ l h. subst (λ z. IsPath whole_call z) (append-nil l) (both h (frames_path (of_context q) given scope)))
        (opened_goes q facts name all given span ns env here found refl
        (callee_among c.declared q.template.namespace name) (subst AllGood good.1 good.0) runs scope
        (λ k. (typed k).0) fitting before (next env)))))
    node_goes q facts (MessageNode (message desc meaning body within) other span) ns env here runs scope frames fit
        typed fitting before next =
        let at : Site = starts_at q.template.file span in
        let m : Message = message desc meaning body within in
        let source : Plan = body_plan (of_context q) body scope at in
        let ps : List Plan = source ∷ (translation_plans (of_context q) m scope at ++ fallback_plans (of_context q)
        other scope at) in
        let all = any_frames whole Nowhere ps (λ y k f e. frames (Inside y) k f e) in
        let o : Outcome = message_means (own q) (called q) (chosen_text c.translation m other) m env (At q before)
        (next env) in
        leaves q (arms_meet at ps) ns before o next (Fitting scope) env runs fitting (past here)
        (some_meets c whole Claim IsStop q at ps before o (next env)
        (own_go q m source scope at env runs before (next env)
        (chooses_goes q source before (TextTaken SourceText)
        (source_means (own q) (called q) body env (At q before) (next env)) (next env)
        (body_goes q facts body env (λ ns member. in_an_arm here member) runs scope at all.1.0 fit.1
        (λ k. (typed k).0) fitting before (next env)))
        (c.translation m) fit.0
        (λ e has inner is. record {
          command = MessageNode m other span;
          rest = ns;
          env = env;
          comes = here;
          gives = (refl, e, inl has, is);
        })
        (λ k. message_printable (around q) m scope (typed k).0) fitting other fit.2
        (λ e has inner is. record {
          command = MessageNode m other span;
          rest = ns;
          env = env;
          comes = here;
          gives = (refl, e, inr has, is);
        })
        (λ k. (typed k).1)))

    nodes_go : (q : FrameRun) → IsWithin q → (ns : Nodes) (env : RunEnv) → ComesNext c q ns env → AllGood env
        → (scope : Scope) → FramesIn whole (nodes_plan (of_context q) ns scope) → NodesFit c.translation ns
        → (Claim → NodesTyped (around q) ns scope) → Fitting scope env
        → (before : List Piece) (next : RunEnv → StateSoFar → Outcome) →
        Leaves q (nodes_plan (of_context q) ns scope) no_node before
        (nodes_mean (own q) (called q) ns env (At q before) next) next
    nodes_go q facts no_node env here runs scope frames fit typed fitting before next =
        leaves q Nothing no_node before (next env (At q before)) next (λ inner. Unit {0}) env runs tt here
        (passes c whole Claim IsStop q Nothing before (next env) empty_path)
    nodes_go q facts (node n ns) env here runs scope frames fit typed fitting before next =
        let one : Plan = node_plan (of_context q) n scope in
        let two : Plan = nodes_plan (of_context q) ns (scope_past n scope) in
        let o : Outcome = nodes_mean (own q) (called q) (node n ns) env (At q before) next in
        let first : LeavesAs q one ns before o (λ inner now. nodes_mean (own q) (called q) ns inner now next)
        (Fitting (scope_past n scope)) =
        node_goes q facts n ns env here runs scope (λ y k f e. frames (Left y) k f e) fit.0 (λ k. (typed k).0) fitting
        before (λ inner now. nodes_mean (own q) (called q) ns inner now next) in
        elim first [
          | inl l ↦ (let more : List Piece = filled_pieces c.direction l.through.filled q.kind before in
              let rest : Leaves q two no_node more (nodes_mean (own q) (called q) ns l.env (At q more) next) next =
              nodes_go q facts ns l.env l.comes l.runs (scope_past n scope) (λ y k f e. frames (Right y) k f e) fit.1
              (λ k. (typed k).1) l.fit more next in
              behind_first q one two (Then one two) before o (λ now. nodes_mean (own q) (called q) ns l.env now next)
              next (λ a b h k. both h k) l.through rest)
          | inr s ↦ inr (stopped_first c whole Claim IsStop q one two (Then one two) before o (λ a b h k. both h k)
              (nodes_path (of_context q) ns (scope_past n scope)) s)
        ]

    otherwise_goes : (q : FrameRun) → IsWithin q → (other : Otherwise) (k : ℕ) (env : RunEnv)
        → AllCome q (other_bodies other) env → AllGood env → (scope : Scope)
        → FramesIn whole (other_plan (of_context q) other scope) → OtherFits c.translation other
        → (Claim → OtherTyped (around q) other scope) → Fitting scope env
        → (before : List Piece) (on : StateSoFar → Outcome) →
        Gone q (other_plan (of_context q) other scope) before
        (otherwise_means (own q) (called q) other k env (At q before) on) on
    otherwise_goes q facts no_otherwise k env come runs scope frames fit typed fitting before on =
        chooses_goes q Nothing before (ArmTaken None) (on (At q before)) on
        (passes c whole Claim IsStop q Nothing before on empty_path)
    otherwise_goes q facts (otherwise body) k env come runs scope frames fit typed fitting before on =
        chooses_goes q (nodes_plan (of_context q) body scope) before (ArmTaken (Some k))
        (nodes_mean (own q) (called q) body env (At q before) (unbound on)) on
        (goes_on q (nodes_plan (of_context q) body scope) no_node before
        (nodes_mean (own q) (called q) body env (At q before) (unbound on)) on
        (nodes_go q facts body env (come body (inl refl)) runs scope frames fit typed fitting before (unbound on)))

    arms_go : (q : FrameRun) → IsWithin q → (arms : Arms) (env : RunEnv) → AllCome q (arm_bodies arms) env
        → AllGood env → (scope : Scope)
        → AllFramesIn whole (arm_plans (of_context q) arms scope) → ArmsFit c.translation arms
        → (Claim → ArmsTyped (around q) arms scope) → Fitting scope env → (rest : List Plan) (other : ℕ → Means)
        (k : ℕ) (before : List Piece) (on : StateSoFar → Outcome) →
        ((k : ℕ) → Some_ q rest before (other k (At q before) on) on)
        → Some_ q (arm_plans (of_context q) arms scope ++ rest) before
        (arms_mean (own q) (called q) arms other k env (At q before) on) on
    arms_go q facts no_arm env come runs scope frames fit typed fitting rest other k before on others = others k
    arms_go q facts (arm e body arms) env come runs scope frames fit typed fitting rest other k before on others =
        let p : Plan = nodes_plan (of_context q) body (narrowed e scope) in
        let ps : List Plan = arm_plans (of_context q) arms scope ++ rest in
        let taken : Outcome = nodes_mean (own q) (called q) body env (At q before) (unbound on) in
        let following : Outcome = arms_mean (own q) (called q) arms other (k + 1) env (At q before) on in
        costs_some q (p ∷ ps) before (cost e env) (if is_truthy (val e env) then with_choice (ArmTaken (Some k))
        taken else following) on
        (some_if c whole Claim IsStop q (p ∷ ps) before (is_truthy (val e env))
        (with_choice (ArmTaken (Some k)) taken) following on
        (λ holds. some_here c whole Claim IsStop q p ps before (with_choice (ArmTaken (Some k)) taken) on
        (chooses_goes q p before (ArmTaken (Some k)) taken on
        (goes_on q p no_node before taken on
        (nodes_go q facts body env (come body (inl refl)) runs (narrowed e scope) frames.0 fit.0 (λ j. (typed j).0)
        (λ j. arm_typed e scope env holds (fitting j)) before (unbound on)))))
        (some_behind c whole Claim IsStop q p ps before following on
        (arms_go q facts arms env (λ other member. come other (inr member)) runs scope frames.1 fit.1
        (λ j. (typed j).1) fitting rest other (k + 1) before on others)))

    cases_go : (q : FrameRun) → IsWithin q → (v : Value) (cases : Cases) (env : RunEnv)
        → AllCome q (case_bodies cases) env → AllGood env → (scope : Scope)
        → AllFramesIn whole (case_plans (of_context q) cases scope) → CasesFit c.translation cases
        → (Claim → CasesTyped (around q) cases scope) → Fitting scope env → (rest : List Plan) (other : ℕ → Means)
        (k : ℕ) (before : List Piece) (on : StateSoFar → Outcome) →
        ((k : ℕ) → Some_ q rest before (other k (At q before) on) on)
        → Some_ q (case_plans (of_context q) cases scope ++ rest) before
        (cases_mean (own q) (called q) v cases other k env (At q before) on) on
    cases_go q facts v no_case env come runs scope frames fit typed fitting rest other k before on others = others k
    cases_go q facts v (case es body cases) env come runs scope frames fit typed fitting rest other k before on others
        =
        let p : Plan = nodes_plan (of_context q) body scope in
        let ps : List Plan = case_plans (of_context q) cases scope ++ rest in
        let taken : Outcome = nodes_mean (own q) (called q) body env (At q before) (unbound on) in
        let following : Outcome = cases_mean (own q) (called q) v cases other (k + 1) env (At q before) on in
        costs_some q (p ∷ ps) before (is_one v es env).1
        (if (is_one v es env).0 then with_choice (ArmTaken (Some k)) taken else following) on
        (some_if c whole Claim IsStop q (p ∷ ps) before (is_one v es env).0 (with_choice (ArmTaken (Some k)) taken)
        following on
        (λ holds. some_here c whole Claim IsStop q p ps before (with_choice (ArmTaken (Some k)) taken) on
        (chooses_goes q p before (ArmTaken (Some k)) taken on
        (goes_on q p no_node before taken on
        (nodes_go q facts body env (come body (inl refl)) runs scope frames.0 fit.0 (λ j. (typed j).0) fitting before
        (unbound on)))))
        (some_behind c whole Claim IsStop q p ps before following on
        (cases_go q facts v cases env (λ other member. come other (inr member)) runs scope frames.1 fit.1
        (λ j. (typed j).1) fitting rest other (k + 1) before on others)))

    arguments_bind : (q : FrameRun) → IsWithin q → (given : Arguments) (before : GivenArguments) → AllGood before
        → (env : RunEnv) → AllOpened q given env → AllGood env → (scope : Scope)
        → FramesIn whole (argument_frames (of_context q) given scope) → ArgumentsFit c.translation given
        → (Claim → ArgumentsTyped (around q) given scope) → Fitting scope env → (next : GivenArguments → Outcome) →
        IsSilent IsStop (IsGiven q given env before) (arguments_mean (own q) (called q) given before env next) next
    arguments_bind q facts no_argument before before_runs env opened runs scope frames fit typed fitting next =
        inl (record {
          value = before;
          good = (before_runs, sym (append-nil before));
          same = record { pieces = refl; ends = refl };
        })
    arguments_bind q facts (argument name given span rest) before before_runs env opened runs scope frames fit typed
        fitting next =
        let following : Binding BoundBlock → Outcome =
        λ bound. arguments_mean (own q) (called q) rest (before ++ ((name, bound) ∷ [])) env next in
        let others : GivenArguments = given_bindings c q rest env in
        silent_then IsStop (IsGivenAs q given env) (IsGiven q (argument name given span rest) env before)
        (given_means (own q) (called q) given env following) following next
        (given_binds q facts given span env
        (λ k b is scope. opened k b (first_gives name given span rest k b is) scope) runs scope
        (λ y k f e. frames (Left y) k f e) fit.0 (λ j. (typed j).0) fitting following)
        (λ bound good. silent_as IsStop (IsGiven q rest env (before ++ ((name, bound) ∷ [])))
        (IsGiven q (argument name given span rest) env before) (following bound) next
        (λ all is. (
          is.0,
          is.1 ∙ (append_assoc before ((name, bound) ∷ []) others
              ∙ ap (λ b. before ++ ((name, b) ∷ others)) good.1),
        ))
        (arguments_bind q facts rest (before ++ ((name, bound) ∷ []))
        (env_more c whole Claim IsStop before ((name, bound) ∷ []) before_runs (good.0, tt)) env
        (λ k b gives scope. opened k b (rest_gives name given span rest k b gives) scope) runs scope
        (λ y k f e. frames (Right y) k f e) fit.1 (λ j. (typed j).1) fitting next))

    given_binds : (q : FrameRun) → IsWithin q → (given : Given) (span : Span) (env : RunEnv)
        → ((k : Kind) (b : Nodes) → given ≡ Block k b → (scope : Scope)
        → IsOpened c entry (inner_frame q k b scope env))
        → AllGood env → (scope : Scope) → FramesIn whole (given_frame (of_context q) given span scope)
        → GivenFits c.translation given → (Claim → GivenTyped (around q) given scope) → Fitting scope env
        → (next : Binding BoundBlock → Outcome) →
        IsSilent IsStop (IsGivenAs q given env) (given_means (own q) (called q) given env next) next
    given_binds q facts (Plain e) span env opened runs scope frames fit typed fitting next =
        inl (record {
          value = val e env;
          good = (val_runs c whole Claim IsStop e env runs, refl);
          same = cost_same (cost e env) (next (val e env));
        })
    given_binds q facts (Block k body) span env opened runs scope frames fit typed fitting next =
        let p : Plan = nodes_plan (of_context q) body scope in
        let block : FrameRun = inner_frame q k body scope env in
        let inside : IsWithin block = record { same_left = facts.same_left; opened = opened k body refl scope } in
        block_binds c whole Claim IsStop block next
        (frame_ends block (frames Here k p refl)
        (nodes_go block inside body env at_first runs scope (λ y k f e. frames (Inside y) k f e) fit typed fitting []
        at_end))

    body_goes : (q : FrameRun) → IsWithin q → (body : MessageBody) (env : RunEnv)
        → AllCome q (source_bodies body) env → AllGood env → (scope : Scope) (at : Site)
        → FramesIn whole (body_plan (of_context q) body scope at) → BodyFits c.translation body
        → (Claim → BodyTyped (around q) body scope) → Fitting scope env
        → (before : List Piece) (on : StateSoFar → Outcome) →
        Gone q (body_plan (of_context q) body scope at) before (source_means (own q) (called q) body env (At q before)
        on) on
    body_goes q facts (Parts ns) env come runs scope at frames fit typed fitting before on =
        goes_on q (nodes_plan (of_context q) ns scope) no_node before
        (nodes_mean (own q) (called q) ns env (At q before) (unbound on)) on
        (nodes_go q facts ns env (come ns (inl refl)) runs scope frames fit typed fitting before (unbound on))
    body_goes q facts (Plural e offset cases other) env come runs scope at frames fit typed fitting before on =
        let last : Plan = body_plan (of_context q) other scope at in
        let ps : List Plan = plural_plans (of_context q) cases scope at ++ (last ∷ []) in
        let all = any_frames whole Nowhere ps (λ y k q f. frames (Inside y) k q f) in
        let n : ℤ = int_of (valued e env) in
        let o : Outcome = plural_cases_mean (own q) (called q) n cases (source_means (own q) (called q) other env) 0
        env (At q before)
        on in
        some_meets c whole Claim IsStop q at ps before (with_cost (cost e env) o) on
        (costs_some q ps before (cost e env) o on
        (plural_cases_go q facts n cases env (come_left q (plural_bodies cases) (source_bodies other) env come) runs
        scope at (frames_left whole (plural_plans (of_context q) cases scope at) (last ∷ []) all.1) fit.0
        (λ j. (typed j).0) fitting (last ∷ [])
        (source_means (own q) (called q) other env) 0 before on
        (λ k. some_here c whole Claim IsStop q last [] before
        (with_choice (ArmTaken (Some k)) (source_means (own q) (called q) other env (At q before) on)) on
        (chooses_goes q last before (ArmTaken (Some k)) (source_means (own q) (called q) other env (At q before) on) on
        (body_goes q facts other env (come_right q (plural_bodies cases) (source_bodies other) env come) runs scope at
        (frames_right whole (plural_plans (of_context q) cases scope at) (last ∷ []) all.1).0 fit.1 (λ j. (typed j).1)
        fitting before on)))))
    body_goes q facts (Select e cases other) env come runs scope at frames fit typed fitting before on =
        let last : Plan = body_plan (of_context q) other scope at in
        let ps : List Plan = select_plans (of_context q) cases scope at ++ (last ∷ []) in
        let all = any_frames whole Nowhere ps (λ y k q f. frames (Inside y) k q f) in
        let word : List ℕ = word_of (valued e env) in
        let o : Outcome = select_cases_mean (own q) (called q) word cases (source_means (own q) (called q) other env) 0
        env
        (At q before) on in
        some_meets c whole Claim IsStop q at ps before (with_cost (cost e env) o) on
        (costs_some q ps before (cost e env) o on
        (select_cases_go q facts word cases env (come_left q (select_bodies cases) (source_bodies other) env come)
        runs scope at (frames_left whole (select_plans (of_context q) cases scope at) (last ∷ []) all.1) fit.0
        (λ j. (typed j).0) fitting (last ∷ [])
        (source_means (own q) (called q) other env) 0 before on
        (λ k. some_here c whole Claim IsStop q last [] before
        (with_choice (ArmTaken (Some k)) (source_means (own q) (called q) other env (At q before) on)) on
        (chooses_goes q last before (ArmTaken (Some k)) (source_means (own q) (called q) other env (At q before) on) on
        (body_goes q facts other env (come_right q (select_bodies cases) (source_bodies other) env come) runs scope at
        (frames_right whole (select_plans (of_context q) cases scope at) (last ∷ []) all.1).0 fit.1 (λ j. (typed j).1)
        fitting before on)))))

    plural_cases_go : (q : FrameRun) → IsWithin q → (n : ℤ) (cases : PluralCases) (env : RunEnv)
        → AllCome q (plural_bodies cases) env → AllGood env
        → (scope : Scope) (at : Site) → AllFramesIn whole (plural_plans (of_context q) cases scope at)
        → PluralFits c.translation cases → (Claim → PluralTyped (around q) cases scope) → Fitting scope env
        → (rest : List Plan) (other : Means) (k : ℕ) (before : List Piece)
        (on : StateSoFar → Outcome)
        → ((k : ℕ) → Some_ q rest before (with_choice (ArmTaken (Some k)) (other (At q before) on)) on) →
        Some_ q (plural_plans (of_context q) cases scope at ++ rest) before
        (plural_cases_mean (own q) (called q) n cases other k env (At q before) on) on
    plural_cases_go q facts n no_plural_case env come runs scope at frames fit typed fitting rest other k before on
        others = others k
    plural_cases_go q facts n (plural_case m body cases) env come runs scope at frames fit typed fitting rest other k
        before on others =
        let p : Plan = body_plan (of_context q) body scope at in
        let ps : List Plan = plural_plans (of_context q) cases scope at ++ rest in
        let taken : Outcome = source_means (own q) (called q) body env (At q before) on in
        let following : Outcome = plural_cases_mean (own q) (called q) n cases other (k + 1) env (At q before) on in
        some_if c whole Claim IsStop q (p ∷ ps) before (is_same_int m n) (with_choice (ArmTaken (Some k)) taken)
        following on
        (λ holds. some_here c whole Claim IsStop q p ps before (with_choice (ArmTaken (Some k)) taken) on
        (chooses_goes q p before (ArmTaken (Some k)) taken on
        (body_goes q facts body env (come_left q (source_bodies body) (plural_bodies cases) env come) runs scope at
        frames.0 fit.0 (λ j. (typed j).0) fitting before on)))
        (some_behind c whole Claim IsStop q p ps before following on
        (plural_cases_go q facts n cases env (come_right q (source_bodies body) (plural_bodies cases) env come) runs
        scope at frames.1 fit.1 (λ j. (typed j).1) fitting rest other (k + 1) before on others))

    select_cases_go : (q : FrameRun) → IsWithin q → (word : List ℕ) (cases : SelectCases) (env : RunEnv)
        → AllCome q (select_bodies cases) env → AllGood env
        → (scope : Scope) (at : Site) → AllFramesIn whole (select_plans (of_context q) cases scope at)
        → SelectFits c.translation cases → (Claim → SelectTyped (around q) cases scope) → Fitting scope env
        → (rest : List Plan) (other : Means) (k : ℕ) (before : List Piece)
        (on : StateSoFar → Outcome)
        → ((k : ℕ) → Some_ q rest before (with_choice (ArmTaken (Some k)) (other (At q before) on)) on) →
        Some_ q (select_plans (of_context q) cases scope at ++ rest) before
        (select_cases_mean (own q) (called q) word cases other k env (At q before) on) on
    select_cases_go q facts word no_select_case env come runs scope at frames fit typed fitting rest other k before on
        others = others k
    select_cases_go q facts word (select_case is body cases) env come runs scope at frames fit typed fitting rest other
        k before on others =
        let p : Plan = body_plan (of_context q) body scope at in
        let ps : List Plan = select_plans (of_context q) cases scope at ++ rest in
        let taken : Outcome = source_means (own q) (called q) body env (At q before) on in
        let following : Outcome = select_cases_mean (own q) (called q) word cases other (k + 1) env (At q before) on in
        some_if c whole Claim IsStop q (p ∷ ps) before (bytes_eq is word) (with_choice (ArmTaken (Some k)) taken)
        following on
        (λ holds. some_here c whole Claim IsStop q p ps before (with_choice (ArmTaken (Some k)) taken) on
        (chooses_goes q p before (ArmTaken (Some k)) taken on
        (body_goes q facts body env (come_left q (source_bodies body) (select_bodies cases) env come) runs scope at
        frames.0 fit.0 (λ j. (typed j).0) fitting before on)))
        (some_behind c whole Claim IsStop q p ps before following on
        (select_cases_go q facts word cases env (come_right q (source_bodies body) (select_bodies cases) env come) runs
        scope at frames.1 fit.1 (λ j. (typed j).1) fitting rest other (k + 1) before on others))

  -- a frame by itself
  pub frame_runs : (q : FrameRun) → IsWithin q → AllGood q.env → IsFrameWithin whole q.kind (run_plan c q)
      → FramesIn whole (run_plan c q) → NodesFit c.translation q.body
      → (Claim → NodesTyped (around q) q.body q.scope) → Fitting q.scope q.env → Ran c whole Claim IsStop q
  frame_runs q facts runs within frames fit typed fitting =
      frame_ends q within (nodes_go q facts q.body q.env at_first runs q.scope frames fit typed fitting [] at_end)
