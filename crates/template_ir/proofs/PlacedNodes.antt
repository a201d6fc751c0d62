-- What nodes give stands where the walk says, where they are typed and the variables are bound to what their types
-- have.
use Rattle.std.proofs.Common.{◌≡◌, ℕ, suc, ◌+◌, ℤ, Bool, true, false, List, [], ◌∷◌, ◌++◌, inl, inr, Option, Some, None}
use Rattle.std.proofs.Common.{refl, sym, ap, ◌∙◌, subst, append_assoc, arith}
use Rattle.std.specs.Prelude.{bytes_eq, is_some, pos, ◌||◌}
use Rattle.std.proofs.lemmas.Bool.{or_parts}
use Rattle.std.proofs.lemmas.List.{append-nil}
use Rattle.soy_base.specs.declared.fault.Span.{Span}
use Rattle.soy_base.specs.declared.kind.Kind.{Kind}
use Rattle.soy_base.specs.declared.place.Place.{Place}
use Rattle.soy_base.specs.Piece.{Piece}
use Rattle.soy_rules.specs.Bodies.{Around, names_given, param_of}
use Rattle.soy_base.specs.Among.{is_among}
use Rattle.soy_tree.specs.MessageParts.{MsgParts}
use Rattle.soy_rules.specs.Narrowing.{narrowed}
use Rattle.soy_tree.specs.Nodes.{Node, Nodes, Otherwise, Arms, Cases, Arguments, Given, Message, Fallback, MessageBody}
use Rattle.soy_tree.specs.Nodes.{PluralCases, SelectCases, TextNode, Print, If, Switch, For, Let, LetBlock, Call}
use Rattle.soy_tree.specs.Nodes.{MessageNode, no_node, node, no_otherwise, otherwise, no_arm, arm, no_case, case}
use Rattle.soy_tree.specs.Nodes.{no_argument, argument, Plain, Block, message, no_fallback, fallback, Parts, Plural}
use Rattle.soy_tree.specs.Nodes.{Select, no_plural_case, plural_case, no_select_case, select_case}
use Rattle.soy_rules.specs.Templates.{Declared, callee, param_scope}
use Rattle.soy_tree.specs.Trees.{Param}
use Rattle.soy_tree.specs.Types.{Name}
use Rattle.soy_rules.specs.TypeOf.{Scope, type_of}
use Rattle.soy_tree.proofs.SameNames.{same_name}
use Rattle.soy_rules.specs.Val.{Binding, Known, is_same_int, is_truthy, val}
use Rattle.soy_tree.specs.Values.{Items, Value, item, no_item}
use Rattle.soy_pieces.specs.Branch.{int_of, word_of}
use Rattle.soy_meaning.specs.Runs.ComesNext.{IsItem}
use Rattle.soy_meaning.specs.Paths.Filled.{Filled, FillsHoles, filled_end, filled_pieces, parts_of_filled}
use Rattle.soy_meaning.specs.Walks.FourPoints.{AcceptedPaths}
use Rattle.soy_meaning.specs.Runs.FrameRun.{FrameRun, inner_outcome, plan_context, template_frame}
use Rattle.soy_pieces.specs.Meaning.{bound_as}
use Rattle.soy_meaning.specs.Runs.GivenAt.{given_binding_of, given_bindings}
use Rattle.soy_pieces.specs.Giving.{BoundBlock, RunEnv, StateSoFar}
use Rattle.soy_meaning.specs.Walks.Holes.{hole_count}
use Rattle.soy_pieces.specs.Outcome.{Outcome}
use Rattle.soy_meaning.specs.Walks.PageMachine.{page_machine}
use Rattle.soy_meaning.specs.Paths.PathParts.{IsPath, both, empty_path, no_turn, passed_by}
use Rattle.soy_pieces.specs.Pieces.{GivenArguments, RunContext, callee_env, called_within, chosen_after, chosen_of}
use Rattle.soy_pieces.specs.Pieces.{context_in, fallback_text, given_binding, is_one, listed_items, valued, with_index}
use Rattle.soy_meaning.specs.Paths.Plan.{Plan, Frame, Hole, Loop, Then}
use Rattle.soy_pieces.specs.Site.{Site, starts_at}
use Rattle.soy_meaning.specs.Paths.PlanOfNodes.{PlanContext, arm_plans, argument_frames, body_plan, body_scope}
use Rattle.soy_meaning.specs.Paths.PlanOfNodes.{called_classes, case_plans, closes_at, fallback_plans, given_frame}
use Rattle.soy_meaning.specs.Paths.PlanOfNodes.{node_plan, nodes_plan, other_plan, plural_plans, scope_past}
use Rattle.soy_meaning.specs.Paths.PlanOfNodes.{select_plans, translated_plan, translation_plans}
use Rattle.soy_rules.specs.Placeholders.{uses_of}
use Rattle.soy_meaning.specs.Paths.PlanOfParts.{parts_plan, printed_classes}
use Rattle.soy_meaning.specs.Runs.TranslationFits.{ArgumentsFit, ArmsFit, BodyFits, CasesFit, FallbackFits, FitsMessage}
use Rattle.soy_meaning.specs.Runs.TranslationFits.{GivenFits, NodeFits, NodesFit, OtherFits, PluralFits, SelectFits}
use Rattle.soy_meaning.specs.Walks.Points.{Inside}
use Rattle.soy_meaning.proofs.Typing.CheckedNodes.{same_bytes}
use Rattle.soy_meaning.proofs.Typing.CheckedTrees.{around_template}
use Rattle.soy_meaning.proofs.Members.{mem_left, mem_right}
use Rattle.soy_meaning.proofs.Typing.PrintableUses.{message_printable}
use Rattle.soy_meaning.proofs.Runs.RunBindings.{IsAmong, callee_among, callee_runs, index_runs, val_runs}
use Rattle.soy_meaning.proofs.Paths.SomePaths.{frames_path}
use Rattle.soy_meaning.proofs.Typing.TypedEnvs.{EnvTyped, arm_typed, callee_typed, let_block_typed, let_typed}
use Rattle.soy_meaning.proofs.Typing.TypedEnvs.{loop_typed, placeholders_have_classes, printed_has_class}
use Rattle.soy_meaning.proofs.Typing.TypedNodes.{ArgumentsTyped, ArmsTyped, BodyTyped, CalleeTakes, CasesTyped}
use Rattle.soy_meaning.proofs.Typing.TypedNodes.{FallbackTyped, GivenTyped, MessageTyped, NodeTyped, NodesTyped}
use Rattle.soy_meaning.proofs.Typing.TypedNodes.{OtherTyped, PluralTyped, SelectTyped}
use Rattle.template_ir.specs.Compiles.{callee_number, handed_on_names, params_there}
use Rattle.template_ir.specs.HoleCounts.{arm_holes, body_holes, case_holes, given_holes, node_holes, nodes_holes}
use Rattle.template_ir.specs.HoleCounts.{plural_holes, select_holes, translated_holes, translation_holes}
use Rattle.template_ir.specs.Placed.{ArgumentsPlaced, ArmsPlaced, CasesPlaced, GivenPlaced, IsFresh, MessagePlaced}
use Rattle.template_ir.specs.Placed.{NodePlaced, NodesPlaced, OpenedPlaced, OtherPlaced, PluralPlaced, SelectPlaced}
use Rattle.template_ir.specs.Placed.{PartsPlaced, SourcePlaced, TurnsPlaced}
use Rattle.template_ir.proofs.CalleeBindings.{callee_binds, given_more}
use Rattle.template_ir.proofs.Counts.{arm_count, body_count, case_count, given_count, node_count, nodes_count}
use Rattle.template_ir.proofs.Counts.{plural_count, select_count}
use Rattle.template_ir.proofs.Demands.{ArgumentsDemand, ArmsDemand, BodyDemands, CasesDemand, GivenDemands, NodeDemands}
use Rattle.template_ir.proofs.Demands.{NodesDemand, OtherDemands, PluralDemands, SelectDemands}
use Rattle.template_ir.proofs.PlacedHoles.{AfterEach, Afterwards, AllGood, At, HasRun, IsGoodBinding, TemplatesRun}
use Rattle.template_ir.proofs.PlacedHoles.{after_arms, after_then, after_turn, bound_good, bound_placed, call_placed}
use Rattle.template_ir.proofs.PlacedHoles.{frame_has_run, print_placed, text_placed}
use Rattle.template_ir.proofs.PlacedParts.{parts_placed, picks}
use Rattle.template_ir.proofs.SeenHoles.{AllSeen, Seen, SeesFrames, all_at, arms_seen, body_seen, first_seen}
use Rattle.template_ir.proofs.SeenHoles.{frame_seen, frame_stands, frames_first, frames_second, last_seen, second_seen}
use Rattle.template_ir.proofs.SeenHoles.{seen_same, turn_seen}

module _ (c : RunContext) (whole : Plan) (accepted : AcceptedPaths page_machine whole) (places : List Place)
    (d : Declared) (left : ℕ) (deeper : (fewer : ℕ) → left ≡ suc fewer → TemplatesRun c whole accepted places fewer)
    (Opened : ℕ → RunEnv → Type 0)
    (opens : (name : Name) (e : Declared) → callee c.declared d.namespace name ≡ Some e → (env : RunEnv)
    → AllGood c whole accepted places env → EnvTyped (param_scope e.template.params) env
    → Opened (callee_number c.declared d.namespace name) env) where
  abbrev own : RunContext
  own = context_in c d

  abbrev called : Site → Declared → RunEnv → Outcome
  called = called_within c left

  abbrev of_context : PlanContext
  of_context = plan_context (context_in c d)

  abbrev around : Around
  around = around_template c.declared d

  abbrev Good : RunEnv → Type 0
  Good = AllGood c whole accepted places

  abbrev SeenAt : Kind → Plan → List Piece → ℕ → Type 0
  SeenAt = Seen c.direction whole places

  abbrev AllSeenAt : Kind → List Plan → List Piece → ℕ → Type 0
  AllSeenAt = AllSeen c.direction whole places

  abbrev FramesAt : Plan → ℕ → Type 0
  FramesAt = SeesFrames c.direction whole places

  abbrev After : Kind → Plan → List Piece → (StateSoFar → Type 0) → Type 0
  After = Afterwards c whole accepted places

  abbrev AfterAll : Kind → List Plan → List Piece → (StateSoFar → Type 0) → Type 0
  AfterAll = AfterEach c whole accepted places

  abbrev Here : Kind → List Piece → StateSoFar
  Here = At c whole accepted places

  -- a frame of the template, by which what is given in it is said
  abbrev frame_of_template : RunEnv → FrameRun
  frame_of_template env = template_frame left d env

  abbrev block_frame : Kind → Nodes → Scope → RunEnv → FrameRun
  block_frame k body scope env = record {
    template = d;
    left = left;
    kind = k;
    body = body;
    scope = scope;
    env = env;
  }

  -- behind a node, with the variables after it
  abbrev Behind : Node → Scope → Kind → List Piece → (RunEnv → StateSoFar → Type 0) → Type 0
  Behind n scope kind before Next =
      (f : Filled) → FillsHoles f → IsPath (node_plan of_context n scope) (parts_of_filled f) → (inner : RunEnv)
      → Good inner → EnvTyped (scope_past n scope) inner → Next inner (Here kind
      (filled_pieces c.direction f kind before))

  -- ---- calls

  abbrev IsGiven : List Name → GivenArguments → Type 0
  IsGiven names before = (x : Name) → is_among names x ≡ false → given_binding x before ≡ None

  given_once : (name : Name) (bound : Binding BoundBlock) (names : List Name) (before : GivenArguments)
      → IsGiven names before → IsGiven (name ∷ names) (before ++ ((name, bound) ∷ []))
  given_once name bound names before is x h =
      let parts = or_parts (bytes_eq x name) (is_among names x) h in
      given_more x name bound before (is x parts.1) (same_bytes name x ∙ parts.0)

  fresh_here : (name : Name) (names : List Name) (before : GivenArguments) → is_among names name ≡ false
      → IsGiven names before → IsFresh name before
  fresh_here name names before fresh is x same =
      is x (subst (λ z. is_among names z ≡ false) (same_name name x same) fresh)

  -- each name that is given is a parameter's
  all_named : (given : Arguments) (names : List Name) (params : List Param) (scope : Scope)
      → ArgumentsDemand around given names params scope → (x : Name) → is_among (names_given given) x ≡ true
      → is_some (param_of x params) ≡ true
  all_named no_argument names params scope demands x h = let no : ⊥ = cc in absurd no
  all_named (argument name given span rest) names params scope demands x h =
      by_test (bytes_eq x name) refl (λ k. all_named rest (name ∷ names) params scope demands.2 x k) h
    where
      by_test : (t : Bool) → bytes_eq x name ≡ t
          → (is_among (names_given rest) x ≡ true → is_some (param_of x params) ≡ true)
          → (t || is_among (names_given rest) x) ≡ true → is_some (param_of x params) ≡ true
      by_test true e more k =
          ap (λ z. is_some (param_of z params)) (same_name x name e) ∙ ap is_some demands.0.named
      by_test false e more k = more k

  opened_placed : (name : Name) (all : Bool) (given : Arguments) (span : Span) (kind : Kind) (hole : ℕ) (env : RunEnv)
      (scope : Scope) (before : List Piece) (found : Option Declared)
      → callee c.declared d.namespace name ≡ found → IsAmong c.declared found
      → SeenAt kind (Hole (starts_at d.file span) (called_classes found)) before hole
      → CalleeTakes found given all d.template.params scope
      → ArgumentsDemand around given [] (params_there found) scope → Good env → EnvTyped scope env
      → Good (given_bindings c (frame_of_template env) given env)
      → (Next : StateSoFar → Type 0) → After kind (Hole (starts_at d.file span) (called_classes found)) before Next
      → OpenedPlaced own places called Opened (starts_at d.file span) found (callee_number c.declared d.namespace name)
      (handed_on_names all d.template.params (names_given given) (params_there found))
      (given_bindings c (frame_of_template env) given env) all env hole (Here kind before) Next
  opened_placed name all given span kind hole env scope before None is among seen takes demands good fitting goods Next
      after = absurd takes
  opened_placed name all given span kind hole env scope before (Some e) is among seen takes demands good fitting goods
      Next after =
      let inner : RunEnv = callee_env e.template.params (given_bindings c (frame_of_template env) given env) all
      d.template.params env in
      let runs : Good inner = callee_runs c whole (Unit {0}) (λ at. Unit {0}) e.template.params
      (given_bindings c (frame_of_template env) given env) all d.template.params env goods good in
      let fits : EnvTyped (param_scope e.template.params) inner =
      callee_typed c (frame_of_template env) scope env fitting e.template.params given all d.template.params takes in (
        callee_binds c (frame_of_template env) env all d.template.params e.template.params given
            (all_named given [] e.template.params scope demands),
        opens name e is inner runs fits,
        call_placed c whole accepted places called Opened d (starts_at d.file span) (called_classes (Some e)) kind
            before hole seen Next after left deeper e inner among runs fits (inl refl) (starts_at d.file span),
      )

  -- ---- loops

  turns_placed : (kind : Kind) (at : Site) (p : Plan) (hole : ℕ)
      (Body : RunEnv → StateSoFar → (StateSoFar → Type 0) → Type 0) (name : Name) (index : Option Name) (env : RunEnv)
      (n : ℕ) (items : Items)
      → ((k : ℕ) (v : Value) → IsItem n items k v → (before : List Piece) → SeenAt kind p before hole
      → (Next : StateSoFar → Type 0) → After kind p before Next
      → Body (with_index index k ((name, Known v) ∷ env)) (Here kind before) Next)
      → (before : List Piece) → SeenAt kind (Loop at p) before hole → (Next : StateSoFar → Type 0)
      → After kind (Loop at p) before Next
      → TurnsPlaced Body name index env n items (Here kind before) Next
  turns_placed kind at p hole Body name index env n no_item bodies before seen Next after = after filled_end tt no_turn
  turns_placed kind at p hole Body name index env n (item v vs) bodies before seen Next after =
      bodies n v (inl (refl, refl)) before (body_seen c.direction whole places kind at p before hole seen no_turn) _
      (λ f fills path. turns_placed kind at p hole Body name index env (n + 1) vs (λ k w there. bodies k w (inr there))
      (filled_pieces c.direction f kind before)
      (turn_seen c.direction whole places kind at p before hole seen f fills path) Next
      (after_turn c whole accepted places kind at p before Next after f fills path))

  -- ---- messages

  module _ (desc meaning : List ℕ) (body : MessageBody) (within : Span) (kind : Kind) (hole : ℕ) (env : RunEnv)
      (scope : Scope) (at : Site) (before : List Piece) (good : Good env) (fitting : EnvTyped scope env)
      (Next : StateSoFar → Type 0)
      (source : SourcePlaced own places called Opened body hole env (Here kind before) Next) where
    abbrev first : Message
    first = message desc meaning body within

    translated_placed : (m : Message) → MessageTyped around m scope → (parts : MsgParts)
        → FitsMessage (uses_of m) (Some parts) → (start_ : ℕ)
        → SeenAt kind (parts_plan (uses_of m) scope at parts) before start_
        → After kind (parts_plan (uses_of m) scope at parts) before Next
        → PartsPlaced own places called Opened (uses_of m) env parts start_ (pos 0) (Here kind before) Next
    translated_placed m typed parts fit start_ seen after =
        parts_placed c whole accepted places called Opened d kind (uses_of m) scope at env good
        (λ e has. placeholders_have_classes (uses_of m) scope env (message_printable around m scope typed) fitting e
        has) parts fit (pos 0) before start_ seen Next after

    fallback_placed : (other : Message) → MessageTyped around other scope → (found : Option MsgParts)
        → FitsMessage (uses_of other) found
        → AllSeenAt kind (translated_plan (uses_of other) scope at found) before
        (hole + (body_holes c.translation body + translation_holes c.translation first))
        → AfterAll kind (translated_plan (uses_of other) scope at found) before Next
        → MessagePlaced own places called Opened (chosen_after other found) first hole env (Here kind before) Next
    fallback_placed other typed None fit seen after = source
    fallback_placed other typed (Some parts) fit seen after =
        translated_placed other typed parts fit
        (hole + (body_holes c.translation body + translation_holes c.translation first)) seen.0
        (after (parts_plan (uses_of other) scope at parts) (inl refl))

    -- which text of the message
    chosen_placed : (found : Option MsgParts) → c.translation first ≡ found → (other : Fallback)
        → AllSeenAt kind (translated_plan (uses_of first) scope at found ++ fallback_plans of_context other scope at)
        before (hole + body_holes c.translation body)
        → FitsMessage (uses_of first) found → FallbackFits c.translation other → MessageTyped around first scope
        → FallbackTyped around other scope
        → AfterAll kind (translated_plan (uses_of first) scope at found ++ fallback_plans of_context other scope at)
        before Next
        → MessagePlaced own places called Opened (chosen_of found (fallback_text c.translation other)) first hole env
        (Here kind before) Next
    chosen_placed None is no_fallback seen fit other_fit typed other_typed after = source
    chosen_placed None is (fallback other) seen fit other_fit typed other_typed after =
        let none : translation_holes c.translation first ≡ 0 = ap (translated_holes (uses_of first)) is in
        fallback_placed other other_typed (c.translation other) other_fit
        (all_at c.direction whole places kind (translation_plans of_context other scope at) before
        (hole + body_holes c.translation body)
        (hole + (body_holes c.translation body + translation_holes c.translation first)) (omega (arith, none)) seen)
        after
    chosen_placed (Some parts) is other seen fit other_fit typed other_typed after =
        translated_placed first typed parts fit (hole + body_holes c.translation body) seen.0
        (after (parts_plan (uses_of first) scope at parts) (inl refl))

  -- ---- nodes

  -- a block by itself has run
  block_ran : (body : Nodes) (k : Kind) (hole : ℕ) (env : RunEnv) (scope : Scope) (closes : Site)
      → FramesAt (Frame k closes (nodes_plan of_context body scope)) hole → NodesFit c.translation body
      → NodesTyped around body scope → Good env → EnvTyped scope env
      → HasRun c whole accepted places (block_frame k body scope env)
  block_ran body k hole env scope closes frames fit typed good fitting =
      frame_has_run c whole accepted places (block_frame k body scope env) deeper good
      (frame_stands c.direction whole places closes k (nodes_plan of_context body scope) hole frames)
      (λ y kind r e. (frames (Inside y) kind r e).0) fit typed fitting

  mutual
    node_placed : (n : Node) (kind : Kind) (hole : ℕ) (env : RunEnv) (scope : Scope) (before : List Piece)
        → SeenAt kind (node_plan of_context n scope) before hole → NodeFits c.translation n → NodeTyped around n scope
        → NodeDemands around n scope → Good env → EnvTyped scope env → (Next : RunEnv → StateSoFar → Type 0)
        → Behind n scope kind before Next
        → NodePlaced own places called Opened n hole env (Here kind before) Next
    node_placed (TextNode text span) kind hole env scope before seen fit typed demands good fitting Next after =
        text_placed c whole accepted places (starts_at d.file span) text kind before (Next env)
        (λ f fills path. after f fills path env good fitting)
    node_placed (Print e phname span) kind hole env scope before seen fit typed demands good fitting Next after =
        print_placed c whole accepted places called Opened d (starts_at d.file span) (printed_classes e scope) kind
        before hole seen (Next env) (λ f fills path. after f fills path env good fitting) (val e env)
        (val_runs c whole (Unit {0}) (λ at. Unit {0}) e env good) (printed_has_class e scope env typed fitting)
    node_placed (If arms other span) kind hole env scope before seen fit typed demands good fitting Next after =
        let at : Site = starts_at d.file span in
        let ps : List Plan = arm_plans of_context arms scope in
        let last : Plan = other_plan of_context other scope in
        let split = last_seen c.direction whole places kind ps last before hole (arm_holes c.translation arms)
        (arm_count of_context arms scope) (arms_seen c.direction whole places kind at (ps ++ (last ∷ [])) before hole
        seen) in
        let each : AfterAll kind (ps ++ (last ∷ [])) before (Next env) =
        after_arms c whole accepted places kind at (ps ++ (last ∷ [])) before (Next env)
        (λ f fills path. after f fills path env good fitting) in
        arms_placed arms kind hole env scope before split.0 fit.0 typed.0 demands.0 good fitting (Next env)
        (λ p member. each p (mem_left p ps (last ∷ []) member)) _
        (other_placed other kind (hole + arm_holes c.translation arms) env scope before split.1 fit.1 typed.1 demands.1
        good fitting (Next env) (each last (mem_right last ps (last ∷ []) (inl refl))))
    node_placed (Switch e cases other span) kind hole env scope before seen fit typed demands good fitting Next after =
        let at : Site = starts_at d.file span in
        let ps : List Plan = case_plans of_context cases scope in
        let last : Plan = other_plan of_context other scope in
        let split = last_seen c.direction whole places kind ps last before hole (case_holes c.translation cases)
        (case_count of_context cases scope) (arms_seen c.direction whole places kind at (ps ++ (last ∷ [])) before hole
        seen) in
        let each : AfterAll kind (ps ++ (last ∷ [])) before (Next env) =
        after_arms c whole accepted places kind at (ps ++ (last ∷ [])) before (Next env)
        (λ f fills path. after f fills path env good fitting) in
        cases_placed cases (valued e env) kind hole env scope before split.0 fit.0 typed.0 demands.1 good fitting
        (Next env) (λ p member. each p (mem_left p ps (last ∷ []) member)) _
        (other_placed other kind (hole + case_holes c.translation cases) env scope before split.1 fit.1 typed.1
        demands.2 good fitting (Next env) (each last (mem_right last ps (last ∷ []) (inl refl))))
    node_placed (For name index e body span) kind hole env scope before seen fit typed demands good fitting Next
        after =
        let at : Site = starts_at d.file span in
        let within : Scope = body_scope name index (type_of e scope) scope in
        turns_placed kind at (nodes_plan of_context body within) hole
        (λ inner now On. NodesPlaced own places called Opened body hole inner now (λ other past. On past)) name index
        env 0 (listed_items (valued e env))
        (λ k v there more body_here On on. nodes_placed body kind hole (with_index index k ((name, Known v) ∷ env))
        within more body_here fit typed.1 demands
        (index_runs c whole (Unit {0}) (λ at. Unit {0}) index k ((name, Known v) ∷ env) (tt, good))
        (loop_typed name index e scope env k v typed.0 fitting there) (λ inner past. On past) (λ inner. on))
        before seen (Next env) (λ f fills path. after f fills path env good fitting)
    node_placed (Let name e span) kind hole env scope before seen fit typed demands good fitting Next after =
        after filled_end tt empty_path ((name, val e env) ∷ env)
        (val_runs c whole (Unit {0}) (λ at. Unit {0}) e env good, good) (let_typed name e scope env typed fitting)
    node_placed (LetBlock name k body span) kind hole env scope before seen fit typed demands good fitting Next after =
        let p : Plan = nodes_plan of_context body scope in
        let o : Outcome = inner_outcome c (frame_of_template env) k body env in
        let ran : HasRun c whole accepted places (block_frame k body scope env) =
        block_ran body k hole env scope (closes_at d.file span) seen.frames fit typed good fitting in (
          nodes_placed body k hole env scope []
              (frame_seen c.direction whole places (closes_at d.file span) k p hole seen.frames) fit typed demands good
              fitting (λ inner now. Unit {0}) (λ inner f fills path. tt),
          bound_placed k o _
              (after filled_end tt passed_by ((name, bound_as k o) ∷ env)
              (bound_good c whole accepted places (block_frame k body scope env) ran k refl, good)
              (let_block_typed name k o (bound_as k o) scope env refl fitting)),
        )
    node_placed (Call name all given span) kind hole env scope before seen fit typed demands good fitting Next after =
        let at : Site = starts_at d.file span in
        let found : Option Declared = callee c.declared d.namespace name in
        let p : Plan = Hole at (called_classes found) in
        let frames : Plan = argument_frames of_context given scope in
        arguments_placed given (params_there found) [] [] (hole + 1) env scope
        (frames_second c.direction whole places p frames hole seen.frames) fit typed.1 demands (λ x h. refl) good
        fitting _
        (λ goods. opened_placed name all given span kind hole env scope before found refl
        (callee_among c.declared d.namespace name) (first_seen c.direction whole places kind p frames before hole seen)
        typed.0 demands good fitting goods (Next env)
        (λ f fills path. after f fills
        (subst (λ z. IsPath (Then p frames) z) (append-nil (parts_of_filled f))
        (both path (frames_path of_context given scope))) env good fitting))
    node_placed (MessageNode (message desc meaning body within) other span) kind hole env scope before seen fit typed
        demands good fitting Next after =
        let at : Site = starts_at d.file span in
        let m : Message = message desc meaning body within in
        let source : Plan = body_plan of_context body scope at in
        let ps : List Plan =
        source ∷ (translation_plans of_context m scope at ++ fallback_plans of_context other scope at) in
        let all : AllSeenAt kind ps before hole = arms_seen c.direction whole places kind at ps before hole seen in
        let each : AfterAll kind ps before (Next env) =
        after_arms c whole accepted places kind at ps before (Next env)
        (λ f fills path. after f fills path env good fitting) in
        chosen_placed desc meaning body within kind hole env scope at before good fitting (Next env)
        (source_placed body kind hole env scope at before all.0 fit.1 typed.0 demands.0 good fitting (Next env)
        (each source (inl refl))) (c.translation m) refl other
        (all_at c.direction whole places kind
        (translation_plans of_context m scope at ++ fallback_plans of_context other scope at) before
        (hole + hole_count source) (hole + body_holes c.translation body)
        (ap (λ k. hole + k) (body_count of_context body scope at)) all.1) fit.0 fit.2 typed.0 typed.1
        (λ p member. each p (inr member))

    pub nodes_placed : (ns : Nodes) (kind : Kind) (hole : ℕ) (env : RunEnv) (scope : Scope) (before : List Piece)
        → SeenAt kind (nodes_plan of_context ns scope) before hole → NodesFit c.translation ns
        → NodesTyped around ns scope → NodesDemand around ns scope → Good env → EnvTyped scope env
        → (Next : RunEnv → StateSoFar → Type 0)
        → ((inner : RunEnv) → After kind (nodes_plan of_context ns scope) before (Next inner))
        → NodesPlaced own places called Opened ns hole env (Here kind before) Next
    nodes_placed no_node kind hole env scope before seen fit typed demands good fitting Next after =
        after env filled_end tt empty_path
    nodes_placed (node n ns) kind hole env scope before seen fit typed demands good fitting Next after =
        let one : Plan = node_plan of_context n scope in
        let two : Plan = nodes_plan of_context ns (scope_past n scope) in
        node_placed n kind hole env scope before (first_seen c.direction whole places kind one two before hole seen)
        fit.0 typed.0 demands.0 good fitting _
        (λ f fills path inner good_past fitting_past. nodes_placed ns kind (hole + node_holes c.translation n) inner
        (scope_past n scope) (filled_pieces c.direction f kind before)
        (seen_same c.direction whole places kind two (filled_pieces c.direction f kind before) (hole + hole_count one)
        (hole + node_holes c.translation n) (ap (λ k. hole + k) (node_count of_context n scope))
        (second_seen c.direction whole places kind one two before hole seen f fills path)) fit.1 typed.1 demands.1
        good_past fitting_past Next
        (λ last. after_then c whole accepted places kind one two before (Next last) (after last) f fills path))

    other_placed : (other : Otherwise) (kind : Kind) (hole : ℕ) (env : RunEnv) (scope : Scope) (before : List Piece)
        → SeenAt kind (other_plan of_context other scope) before hole → OtherFits c.translation other
        → OtherTyped around other scope → OtherDemands around other scope → Good env → EnvTyped scope env
        → (Next : StateSoFar → Type 0) → After kind (other_plan of_context other scope) before Next
        → OtherPlaced own places called Opened other hole env (Here kind before) Next
    other_placed no_otherwise kind hole env scope before seen fit typed demands good fitting Next after =
        after filled_end tt empty_path
    other_placed (otherwise body) kind hole env scope before seen fit typed demands good fitting Next after =
        nodes_placed body kind hole env scope before seen fit typed demands good fitting (λ inner now. Next now)
        (λ inner. after)

    arms_placed : (arms : Arms) (kind : Kind) (hole : ℕ) (env : RunEnv) (scope : Scope) (before : List Piece)
        → AllSeenAt kind (arm_plans of_context arms scope) before hole → ArmsFit c.translation arms
        → ArmsTyped around arms scope → ArmsDemand around arms scope → Good env → EnvTyped scope env
        → (Next : StateSoFar → Type 0) → AfterAll kind (arm_plans of_context arms scope) before Next
        → (Other : Type 0) → Other
        → ArmsPlaced own places called Opened arms Other hole env (Here kind before) Next
    arms_placed no_arm kind hole env scope before seen fit typed demands good fitting Next after Other other = other
    arms_placed (arm e body arms) kind hole env scope before seen fit typed demands good fitting Next after Other
        other =
        let p : Plan = nodes_plan of_context body (narrowed e scope) in
        picks (is_truthy (val e env)) _ _
        (λ holds. nodes_placed body kind hole env (narrowed e scope) before seen.0 fit.0 typed.0 demands.1 good
        (arm_typed e scope env holds fitting) (λ inner now. Next now) (λ inner. after p (inl refl)))
        (arms_placed arms kind (hole + nodes_holes c.translation body) env scope before
        (all_at c.direction whole places kind (arm_plans of_context arms scope) before (hole + hole_count p)
        (hole + nodes_holes c.translation body)
        (ap (λ k. hole + k) (nodes_count of_context body (narrowed e scope))) seen.1) fit.1 typed.1 demands.2 good
        fitting Next (λ q member. after q (inr member)) Other other)

    cases_placed : (cases : Cases) (v : Value) (kind : Kind) (hole : ℕ) (env : RunEnv) (scope : Scope)
        (before : List Piece) → AllSeenAt kind (case_plans of_context cases scope) before hole
        → CasesFit c.translation cases → CasesTyped around cases scope → CasesDemand around cases scope → Good env
        → EnvTyped scope env → (Next : StateSoFar → Type 0)
        → AfterAll kind (case_plans of_context cases scope) before Next → (Other : Type 0) → Other
        → CasesPlaced own places called Opened v cases Other hole env (Here kind before) Next
    cases_placed no_case v kind hole env scope before seen fit typed demands good fitting Next after Other other = other
    cases_placed (case es body cases) v kind hole env scope before seen fit typed demands good fitting Next after Other
        other =
        let p : Plan = nodes_plan of_context body scope in
        picks (is_one v es env).0 _ _
        (λ holds. nodes_placed body kind hole env scope before seen.0 fit.0 typed.0 demands.1 good fitting
        (λ inner now. Next now) (λ inner. after p (inl refl)))
        (cases_placed cases v kind (hole + nodes_holes c.translation body) env scope before
        (all_at c.direction whole places kind (case_plans of_context cases scope) before (hole + hole_count p)
        (hole + nodes_holes c.translation body)
        (ap (λ k. hole + k) (nodes_count of_context body scope)) seen.1) fit.1 typed.1 demands.2 good
        fitting Next (λ q member. after q (inr member)) Other other)

    arguments_placed : (given : Arguments) (params : List Param) (names : List Name) (before : GivenArguments)
        (hole : ℕ) (env : RunEnv) (scope : Scope) → FramesAt (argument_frames of_context given scope) hole
        → ArgumentsFit c.translation given → ArgumentsTyped around given scope
        → ArgumentsDemand around given names params scope → IsGiven names before → Good env → EnvTyped scope env
        → (Next : GivenArguments → Type 0)
        → (Good (given_bindings c (frame_of_template env) given env)
        → Next (before ++ given_bindings c (frame_of_template env) given env))
        → ArgumentsPlaced own places called Opened given before hole env Next
    arguments_placed no_argument params names before hole env scope frames fit typed demands is good fitting Next next =
        subst Next (append-nil before) (next tt)
    arguments_placed (argument name given span rest) params names before hole env scope frames fit typed demands is good
        fitting Next next =
        let one : Plan = given_frame of_context given span scope in
        let two : Plan = argument_frames of_context rest scope in
        let bound : Binding BoundBlock = given_binding_of c (frame_of_template env) given env in (
          fresh_here name names before demands.0.fresh is,
          given_placed given span hole env scope (frames_first c.direction whole places one two hole frames) fit.0
              typed.0 demands.1 good fitting _
              (λ good_bound. arguments_placed rest params (name ∷ names) (before ++ ((name, bound) ∷ []))
              (hole + given_holes c.translation given) env scope
              (subst (λ k. FramesAt two k) (ap (λ k. hole + k) (given_count of_context given span scope))
              (frames_second c.direction whole places one two hole frames)) fit.1 typed.1 demands.2
              (given_once name bound names before is) good fitting Next
              (λ goods. subst Next
              (sym (append_assoc before ((name, bound) ∷ []) (given_bindings c (frame_of_template env) rest env)))
              (next (good_bound, goods)))),
        )

    given_placed : (given : Given) (span : Span) (hole : ℕ) (env : RunEnv) (scope : Scope)
        → FramesAt (given_frame of_context given span scope) hole → GivenFits c.translation given
        → GivenTyped around given scope → GivenDemands around given scope → Good env → EnvTyped scope env
        → (Next : Binding BoundBlock → Type 0)
        → (IsGoodBinding c whole accepted places (given_binding_of c (frame_of_template env) given env)
        → Next (given_binding_of c (frame_of_template env) given env))
        → GivenPlaced own places called Opened given hole env Next
    given_placed (Plain e) span hole env scope frames fit typed demands good fitting Next next =
        next (val_runs c whole (Unit {0}) (λ at. Unit {0}) e env good)
    given_placed (Block k body) span hole env scope frames fit typed demands good fitting Next next =
        let p : Plan = nodes_plan of_context body scope in
        let ran : HasRun c whole accepted places (block_frame k body scope env) =
        block_ran body k hole env scope (closes_at d.file span) frames fit typed good fitting in (
          nodes_placed body k hole env scope []
              (frame_seen c.direction whole places (closes_at d.file span) k p hole frames) fit typed demands good
              fitting (λ inner now. Unit {0}) (λ inner f fills path. tt),
          bound_placed k (inner_outcome c (frame_of_template env) k body env) _
              (next (bound_good c whole accepted places (block_frame k body scope env) ran k refl)),
        )

    source_placed : (body : MessageBody) (kind : Kind) (hole : ℕ) (env : RunEnv) (scope : Scope) (at : Site)
        (before : List Piece) → SeenAt kind (body_plan of_context body scope at) before hole
        → BodyFits c.translation body → BodyTyped around body scope → BodyDemands around body scope → Good env
        → EnvTyped scope env → (Next : StateSoFar → Type 0) → After kind (body_plan of_context body scope at) before
        Next
        → SourcePlaced own places called Opened body hole env (Here kind before) Next
    source_placed (Parts ns) kind hole env scope at before seen fit typed demands good fitting Next after = (
      demands.0,
      nodes_placed ns kind hole env scope before seen fit typed demands.1 good fitting (λ inner now. Next now)
          (λ inner. after),
    )
    source_placed (Plural e offset cases other) kind hole env scope at before seen fit typed demands good fitting Next
        after =
        let ps : List Plan = plural_plans of_context cases scope at in
        let last : Plan = body_plan of_context other scope at in
        let split = last_seen c.direction whole places kind ps last before hole (plural_holes c.translation cases)
        (plural_count of_context cases scope at) (arms_seen c.direction whole places kind at (ps ++ (last ∷ [])) before
        hole seen) in
        let each : AfterAll kind (ps ++ (last ∷ [])) before Next =
        after_arms c whole accepted places kind at (ps ++ (last ∷ [])) before Next after in
        plural_placed cases (int_of (valued e env)) kind hole env scope at before split.0 fit.0 typed.0 demands.2 good
        fitting Next (λ p member. each p (mem_left p ps (last ∷ []) member)) _
        (source_placed other kind (hole + plural_holes c.translation cases) env scope at before split.1 fit.1 typed.1
        demands.3 good fitting Next (each last (mem_right last ps (last ∷ []) (inl refl))))
    source_placed (Select e cases other) kind hole env scope at before seen fit typed demands good fitting Next after =
        let ps : List Plan = select_plans of_context cases scope at in
        let last : Plan = body_plan of_context other scope at in
        let split = last_seen c.direction whole places kind ps last before hole (select_holes c.translation cases)
        (select_count of_context cases scope at) (arms_seen c.direction whole places kind at (ps ++ (last ∷ [])) before
        hole seen) in
        let each : AfterAll kind (ps ++ (last ∷ [])) before Next =
        after_arms c whole accepted places kind at (ps ++ (last ∷ [])) before Next after in (
          demands.1,
          select_placed cases (word_of (valued e env)) kind hole env scope at before split.0 fit.0 typed.0 demands.2
              good fitting Next (λ p member. each p (mem_left p ps (last ∷ []) member)) _
              (source_placed other kind (hole + select_holes c.translation cases) env scope at before split.1 fit.1
              typed.1 demands.3 good fitting Next (each last (mem_right last ps (last ∷ []) (inl refl)))),
        )

    plural_placed : (cases : PluralCases) (n : ℤ) (kind : Kind) (hole : ℕ) (env : RunEnv) (scope : Scope) (at : Site)
        (before : List Piece) → AllSeenAt kind (plural_plans of_context cases scope at) before hole
        → PluralFits c.translation cases → PluralTyped around cases scope → PluralDemands around cases scope → Good env
        → EnvTyped scope env → (Next : StateSoFar → Type 0)
        → AfterAll kind (plural_plans of_context cases scope at) before Next → (Last : Type 0) → Last
        → PluralPlaced own places called Opened n cases Last hole env (Here kind before) Next
    plural_placed no_plural_case n kind hole env scope at before seen fit typed demands good fitting Next after Last
        last = last
    plural_placed (plural_case m body cases) n kind hole env scope at before seen fit typed demands good fitting Next
        after Last last =
        let p : Plan = body_plan of_context body scope at in
        picks (is_same_int m n) _ _
        (λ holds. source_placed body kind hole env scope at before seen.0 fit.0 typed.0 demands.0 good fitting Next
        (after p (inl refl)))
        (plural_placed cases n kind (hole + body_holes c.translation body) env scope at before
        (all_at c.direction whole places kind (plural_plans of_context cases scope at) before (hole + hole_count p)
        (hole + body_holes c.translation body)
        (ap (λ k. hole + k) (body_count of_context body scope at)) seen.1) fit.1 typed.1 demands.1 good
        fitting Next (λ q member. after q (inr member)) Last last)

    select_placed : (cases : SelectCases) (word : List ℕ) (kind : Kind) (hole : ℕ) (env : RunEnv) (scope : Scope)
        (at : Site) (before : List Piece) → AllSeenAt kind (select_plans of_context cases scope at) before hole
        → SelectFits c.translation cases → SelectTyped around cases scope → SelectDemands around cases scope → Good env
        → EnvTyped scope env → (Next : StateSoFar → Type 0)
        → AfterAll kind (select_plans of_context cases scope at) before Next → (Last : Type 0) → Last
        → SelectPlaced own places called Opened word cases Last hole env (Here kind before) Next
    select_placed no_select_case word kind hole env scope at before seen fit typed demands good fitting Next after Last
        last = last
    select_placed (select_case is body cases) word kind hole env scope at before seen fit typed demands good fitting
        Next after Last last =
        let p : Plan = body_plan of_context body scope at in
        picks (bytes_eq is word) _ _
        (λ holds. source_placed body kind hole env scope at before seen.0 fit.0 typed.0 demands.0 good fitting Next
        (after p (inl refl)))
        (select_placed cases word kind (hole + body_holes c.translation body) env scope at before
        (all_at c.direction whole places kind (select_plans of_context cases scope at) before (hole + hole_count p)
        (hole + body_holes c.translation body)
        (ap (λ k. hole + k) (body_count of_context body scope at)) seen.1) fit.1 typed.1 demands.1 good
        fitting Next (λ q member. after q (inr member)) Last last)
