-- One frame of two runs: what its loops, messages and calls give.
use Rattle.std.proofs.Common.{◌≡◌, ℕ, zero, suc, ◌+◌, pos, Bool, true, List, [], ◌∷◌, ◌++◌, inl, inr, Option, Some}
use Rattle.std.proofs.Common.{None, refl, sym, ap, ◌∙◌, subst, append_assoc}
use Rattle.std.proofs.lemmas.List.{append-nil}
use Rattle.soy_base.specs.declared.fault.Span.{Span}
use Rattle.soy_base.specs.declared.kind.Kind.{Kind}
use Rattle.soy_base.specs.Piece.{Piece}
use Rattle.soy_tree.specs.Types.{Name}
use Rattle.soy_tree.specs.MessageParts.{MsgParts}
use Rattle.soy_tree.specs.Nodes.{Nodes, Arguments, Message, Fallback}
use Rattle.soy_tree.specs.Nodes.{Call}
use Rattle.soy_tree.specs.Nodes.{node}
use Rattle.soy_tree.specs.Nodes.{no_fallback, fallback}
use Rattle.soy_tree.specs.Expressions.{Expr}
use Rattle.soy_rules.specs.Bodies.{Around}
use Rattle.soy_rules.specs.Templates.{Declared, callee, param_scope}
use Rattle.soy_rules.specs.TypeOf.{Scope}
use Rattle.soy_rules.specs.Val.{Known, val}
use Rattle.soy_tree.specs.Values.{Items, NullValue, Value, item, no_item}
use Rattle.soy_meaning.specs.Runs.ComesNext.{ComesNext, IsItem}
use Rattle.soy_meaning.specs.Runs.EqualChoices.{EnvsBy}
use Rattle.soy_meaning.specs.Runs.FrameRun.{FrameRun, plan_context, run_outcome, template_frame}
use Rattle.soy_meaning.specs.Runs.GivenAt.{FallbackPrints, HasPlaceholderOf, IsGivenAt, OpensCall}
use Rattle.soy_meaning.specs.Runs.GivenAt.{given_bindings}
use Rattle.soy_pieces.specs.Giving.{BoundBlock, Means, RunEnv, StateSoFar, called_means}
use Rattle.soy_pieces.specs.Outcome.{FallbackTranslation, Outcome, OwnTranslation, RunEnds}
use Rattle.soy_pieces.specs.Outcome.{StopsAt}
use Rattle.soy_pieces.specs.Outcome.{TextTaken, none_spent}
use Rattle.soy_meaning.specs.Paths.PathParts.{HolePart, IsPath, PathPart, no_turn, turn}
use Rattle.soy_meaning.specs.Runs.PicksValues.{FallbackPicks}
use Rattle.soy_meaning.specs.Runs.PicksValues.{Marks}
use Rattle.soy_meaning.specs.Runs.PicksValues.{argument_marks, callee_takes}
use Rattle.soy_meaning.specs.Runs.PicksValues.{param_marks, turn_marks, uses_pick}
use Rattle.soy_pieces.specs.Pieces.{RunContext, TheSource}
use Rattle.soy_pieces.specs.Pieces.{callee_env, called_within, chosen_after, chosen_of}
use Rattle.soy_rules.specs.ShortLists.{item_count}
use Rattle.soy_pieces.specs.Pieces.{context_in, fallback_text}
use Rattle.soy_pieces.specs.Pieces.{message_means, opened_means}
use Rattle.soy_pieces.specs.Pieces.{translated_means, turns_mean}
use Rattle.soy_pieces.specs.Pieces.{with_index}
use Rattle.soy_meaning.specs.Paths.Plan.{Loop, Plan}
use Rattle.soy_pieces.specs.Site.{Site}
use Rattle.soy_meaning.specs.Paths.PlanOfNodes.{PlanContext}
use Rattle.soy_meaning.specs.Paths.PlanOfNodes.{called_classes, fallback_plans, kind_class}
use Rattle.soy_meaning.specs.Paths.PlanOfNodes.{nodes_plan}
use Rattle.soy_pieces.specs.Site.{starts_at}
use Rattle.soy_meaning.specs.Paths.PlanOfNodes.{translated_plan}
use Rattle.soy_rules.specs.Placeholders.{uses_of}
use Rattle.soy_meaning.specs.Paths.PlanOfParts.{parts_plan}
use Rattle.soy_meaning.specs.Runs.RunsAlong.{IsFrameWithin}
use Rattle.soy_meaning.specs.Walks.States.{IsMember}
use Rattle.soy_meaning.specs.Runs.TranslationFits.{FallbackFits, FitsMessage}
use Rattle.soy_meaning.proofs.Pairs.AlikeBindings.{callee_alike}
use Rattle.soy_meaning.proofs.Pairs.AlikeNodes.{fewer, one_more}
use Rattle.soy_meaning.proofs.Typing.CheckedTrees.{around_template}
use Rattle.soy_meaning.proofs.Runs.Goings.{GivesBlocks}
use Rattle.soy_meaning.proofs.Members.{mem_left, mem_right}
use Rattle.soy_meaning.proofs.Pairs.NestOutcomes.{AnyStop, At, Behind, HasSome, Joins, OnTwin, TwinBlocks, TwinBy}
use Rattle.soy_meaning.proofs.Pairs.NestOutcomes.{Twins}
use Rattle.soy_meaning.proofs.Pairs.NestOutcomes.{joins_behind}
use Rattle.soy_meaning.proofs.Pairs.NestOutcomes.{twin_called, twin_chosen}
use Rattle.soy_meaning.proofs.Pairs.NestOutcomes.{twin_refused, twin_value, twin_whole, twin_wider}
use Rattle.soy_meaning.proofs.Pairs.NestParts.{parts_twin}
use Rattle.soy_meaning.proofs.Runs.OpenedCalls.{called_more, called_none}
use Rattle.soy_meaning.proofs.Typing.PrintableUses.{message_printable}
use Rattle.soy_meaning.proofs.Runs.RunBindings.{IsAmong}
use Rattle.soy_meaning.proofs.Typing.TypedEnvs.{EnvTyped, callee_typed}
use Rattle.soy_meaning.proofs.Typing.TypedEnvs.{placeholders_have_classes}
use Rattle.soy_meaning.proofs.Typing.TypedNodes.{CalleeTakes, FallbackTyped}
use Rattle.soy_meaning.proofs.Typing.TypedNodes.{UsesPrintable}

-- one frame, begun with the variables of two runs
pub record Pair : Type 0 where
  pub kind : Kind
  pub body : Nodes
  pub scope : Scope
  pub env : RunEnv
  pub other : RunEnv

-- ---- loops

pub joins_turn : (at : Site) (p : Plan) (P : List PathPart → Type 0)
    → Joins p (Behind (Loop at p) P) (Behind (Loop at p) P)
joins_turn at p P a b h k = record {
  first = a ++ k.first;
  last = k.last;
  path = turn h k.path;
  rest = k.rest;
  is = ap (λ l. a ++ l) k.is ∙ sym (append_assoc a k.first k.last);
}

pub joins_end : (p : Plan) → Joins p (λ l. l ≡ []) (IsPath p)
joins_end p a b h k = subst (IsPath p) (sym (append-nil a) ∙ ap (λ l. a ++ l) (sym k)) h

pub turn_env : (Blocks : BoundBlock → BoundBlock → Type 0) (name : Name) (index : Option Name) (marks : Marks)
    (env other : RunEnv) (n : ℕ) (v w : Value) → EnvsBy Blocks marks env other
    → EnvsBy Blocks (turn_marks name index marks) (with_index index n ((name, Known v) ∷ env))
    (with_index index n ((name, Known w) ∷ other))
turn_env Blocks name None marks env other n v w alike = (refl, refl, tt, alike)
turn_env Blocks name (Some index) marks env other n v w alike = (refl, refl, tt, (refl, refl, tt, alike))

module _ (c : RunContext) (whole : Plan) (Claim : Type 0) (t : Declared) (left : ℕ) where
  abbrev pub Blocks : BoundBlock → BoundBlock → Type 0
  Blocks = TwinBlocks c whole Claim

  abbrev pub own : RunContext
  own = context_in c t

  abbrev pub called : Site → Declared → RunEnv → Outcome
  called = called_within c left

  abbrev pub of_context : PlanContext
  of_context = plan_context own

  abbrev pub around : Around
  around = around_template c.declared t

  abbrev pub first : Pair → FrameRun
  first w = record {
    template = t;
    left = left;
    kind = w.kind;
    body = w.body;
    scope = w.scope;
    env = w.env;
  }

  abbrev pub second : Pair → FrameRun
  second w = record {
    template = t;
    left = left;
    kind = w.kind;
    body = w.body;
    scope = w.scope;
    env = w.other;
  }

  abbrev pub First : Pair → List Piece → StateSoFar
  First w before = At c whole Claim (first w) before

  abbrev pub Second : Pair → List Piece → StateSoFar
  Second w after = At c whole Claim (second w) after

  abbrev pub By : Pair → (List PathPart → Type 0) → List Piece → List Piece → Outcome → Outcome → Type 0
  By w P before after o two = TwinBy c whole Claim (first w) (second w) P before after o two

  abbrev pub On : Pair → (List PathPart → Type 0) → (StateSoFar → Outcome) → (StateSoFar → Outcome) → Type 0
  On w P on following = OnTwin c whole Claim (first w) (second w) P on following

  -- these nodes come next in both
  abbrev pub Come : Pair → Nodes → RunEnv → RunEnv → Type 0
  Come w ns env other = ComesNext c (first w) ns env × ComesNext c (second w) ns other

  abbrev pub AllCome : Pair → List Nodes → RunEnv → RunEnv → Type 0
  AllCome w bodies env other = (body : Nodes) → IsMember body bodies → Come w body env other

  pub come_left : (w : Pair) (bodies others : List Nodes) (env other : RunEnv) → AllCome w (bodies ++ others) env other
      → AllCome w bodies env other
  come_left w bodies others env other all body member = all body (mem_left body bodies others member)

  pub come_right : (w : Pair) (bodies others : List Nodes) (env other : RunEnv) → AllCome w (bodies ++ others) env other
      → AllCome w others env other
  come_right w bodies others env other all body member = all body (mem_right body bodies others member)

  -- what the variables are bound to, in both
  pub record Envs (marks : Marks) (scope : Scope) (env other : RunEnv) : Type 0 where
    pub alike : EnvsBy Blocks marks env other
    pub one : Claim → EnvTyped scope env
    pub two : Claim → EnvTyped scope other

  abbrev pub NextTwin : Pair → Nodes → Marks → Scope → (List PathPart → Type 0) → (RunEnv → StateSoFar → Outcome)
      → (RunEnv → StateSoFar → Outcome) → Type 0
  NextTwin w ns marks scope P next following = (env other : RunEnv) → Come w ns env other → Envs marks scope env other
      → (x y : List Piece) → By w P x y (next env (First w x)) (following other (Second w y))

  -- each plan's paths, and then what comes next
  abbrev pub AllJoin : List Plan → (List PathPart → Type 0) → (List PathPart → Type 0) → Type 0
  AllJoin ps P Q = (r : Plan) → IsMember r ps → Joins r P Q

  pub join_left : (ps qs : List Plan) (P Q : List PathPart → Type 0) → AllJoin (ps ++ qs) P Q → AllJoin ps P Q
  join_left ps qs P Q all r member = all r (mem_left r ps qs member)

  pub join_last : (ps : List Plan) (last : Plan) (P Q : List PathPart → Type 0) → AllJoin (ps ++ (last ∷ [])) P Q
      → Joins last P Q
  join_last ps last P Q all = all last (mem_right last ps (last ∷ []) (inl refl))

  -- a frame by itself
  pub whole_twins : (w : Pair) → IsFrameWithin whole w.kind (nodes_plan of_context w.body w.scope)
      → By w (IsPath (nodes_plan of_context w.body w.scope)) [] [] (run_outcome c (first w))
      (run_outcome c (second w)) → Twins c whole Claim (first w) (second w)
  whole_twins w within twin =
      twin_whole c whole Claim (first w) (second w) (nodes_plan of_context w.body w.scope) refl refl within within twin

  -- ---- loops

  pub turns_twin : (w : Pair) (at : Site) (p : Plan) (P : List PathPart → Type 0) → HasSome P
      → (body : RunEnv → Means) (name : Name) (index : Option Name) (env other : RunEnv) (n : ℕ) (items others : Items)
      → item_count items ≡ item_count others
      → ((k : ℕ) (v u : Value) → IsItem n items k v → IsItem n others k u
      → (before after : List Piece) (on following : StateSoFar → Outcome) → On w (Behind (Loop at p) P) on following
      → By w (Behind (Loop at p) P) before after
      (body (with_index index k ((name, Known v) ∷ env)) (First w before) on)
      (body (with_index index k ((name, Known u) ∷ other)) (Second w after) following))
      → (before after : List Piece) (on following : StateSoFar → Outcome) → On w P on following →
      By w (Behind (Loop at p) P) before after (turns_mean body name index env n items (First w before) on)
      (turns_mean body name index other n others (Second w after) following)
  turns_twin w at p P some body name index env other n no_item no_item same bodies before after on following twin =
      twin_wider c whole Claim (first w) (second w) P (Behind (Loop at p) P) before after (on (First w before))
      (following (Second w after)) (λ l j. joins_behind (Loop at p) P [] l no_turn j) (twin before after)
  turns_twin w at p P some body name index env other n no_item (item u us) same bodies before after on following twin =
      absurd (one_more (item_count us) same)
  turns_twin w at p P some body name index env other n (item v vs) no_item same bodies before after on following twin =
      absurd (one_more (item_count vs) (sym same))
  turns_twin w at p P some body name index env other n (item v vs) (item u us) same bodies before after on following
      twin =
      bodies n v u (inl (refl, refl)) (inl (refl, refl)) before after
      (λ now. turns_mean body name index env (n + 1) vs now on)
      (λ now. turns_mean body name index other (n + 1) us now following)
      (λ x y. turns_twin w at p P some body name index env other (n + 1) vs us
      (fewer (item_count vs) (item_count us) same) (λ k i j h m. bodies k i j (inr h) (inr m)) x y on following twin)

  -- ---- messages

  abbrev pub AllGiven : Pair → Site → RunEnv → RunEnv → (Expr → Type 0) → Type 0
  AllGiven w at env other IsPrinted = (e : Expr) → IsPrinted e
      → GivesBlocks c whole Claim AnyStop (first w) at (val e env)
      × GivesBlocks c whole Claim AnyStop (second w) at (val e other)

  translated_twin : (w : Pair) (m : Message) (parts : MsgParts) (marks : Marks) (scope : Scope) (at : Site)
      (env other : RunEnv) → Envs marks scope env other → uses_pick (uses_of m) marks ≡ true
      → FitsMessage (uses_of m) (Some parts) → AllGiven w at env other (HasPlaceholderOf (uses_of m))
      → (Claim → UsesPrintable (uses_of m) scope) → (P Q : List PathPart → Type 0) → HasSome P
      → Joins (parts_plan (uses_of m) scope at parts) P Q
      → (before after : List Piece) (on following : StateSoFar → Outcome) → On w P on following →
      By w Q before after (translated_means own called env m parts (First w before) on)
      (translated_means own called other m parts (Second w after) following)
  translated_twin w m parts marks scope at env other envs picks fit given uses P Q some joins before after on following
      twin =
      parts_twin c whole Claim (first w) (second w) (uses_of m) scope at marks env other envs.alike picks
      (λ e is. (given e is).0) (λ e is. (given e is).1)
      (λ k. placeholders_have_classes (uses_of m) scope env (uses k) (envs.one k))
      (λ k. placeholders_have_classes (uses_of m) scope other (uses k) (envs.two k)) parts fit P Q some joins (pos 0)
      (pos 0) before after on following twin

  after_twin : (w : Pair) (m : Message) (marks : Marks) (scope : Scope) (at : Site) (env other : RunEnv)
      → Envs marks scope env other → (P Q : List PathPart → Type 0) → HasSome P
      → (before after : List Piece) (on following : StateSoFar → Outcome) → On w P on following →
      By w Q before after (message_means own called TheSource m env (First w before) on)
      (message_means own called TheSource m other (Second w after) following)
      → (last : Message) (found : Option MsgParts) → FitsMessage (uses_of last) found
      → uses_pick (uses_of last) marks ≡ true → AllGiven w at env other (HasPlaceholderOf (uses_of last))
      → (Claim → UsesPrintable (uses_of last) scope)
      → AllJoin (translated_plan (uses_of last) scope at found) P Q →
      By w Q before after (message_means own called (chosen_after last found) m env (First w before) on)
      (message_means own called (chosen_after last found) m other (Second w after) following)
  after_twin w m marks scope at env other envs P Q some before after on following twin source last None fit picks given
      uses into = source
  after_twin w m marks scope at env other envs P Q some before after on following twin source last (Some parts) fit
      picks given uses into =
      twin_chosen c whole Claim (first w) (second w) Q before after (TextTaken FallbackTranslation)
      (translated_means own called env last parts (First w before) on)
      (translated_means own called other last parts (Second w after) following)
      (translated_twin w last parts marks scope at env other envs picks fit given uses P Q some
      (into (parts_plan (uses_of last) scope at parts) (inl refl)) before after on following twin)

  pub own_twin : (w : Pair) (m : Message) (marks : Marks) (scope : Scope) (at : Site) (env other : RunEnv)
      → Envs marks scope env other → (P Q : List PathPart → Type 0) → HasSome P
      → (before after : List Piece) (on following : StateSoFar → Outcome) → On w P on following →
      By w Q before after (message_means own called TheSource m env (First w before) on)
      (message_means own called TheSource m other (Second w after) following)
      → (found : Option MsgParts) → FitsMessage (uses_of m) found → uses_pick (uses_of m) marks ≡ true
      → AllGiven w at env other (HasPlaceholderOf (uses_of m)) → (Claim → UsesPrintable (uses_of m) scope)
      → (last : Fallback) → FallbackFits c.translation last → FallbackPicks last marks
      → AllGiven w at env other (FallbackPrints last) → (Claim → FallbackTyped around last scope)
      → AllJoin (translated_plan (uses_of m) scope at found ++ fallback_plans of_context last scope at) P Q →
      By w Q before after
      (message_means own called (chosen_of found (fallback_text c.translation last)) m env (First w before) on)
      (message_means own called (chosen_of found (fallback_text c.translation last)) m other (Second w after)
      following)
  own_twin w m marks scope at env other envs P Q some before after on following twin source None fit picks given uses
      no_fallback last_fit last_picks last_given last_typed into = source
  own_twin w m marks scope at env other envs P Q some before after on following twin source None fit picks given uses
      (fallback last) last_fit last_picks last_given last_typed into =
      after_twin w m marks scope at env other envs P Q some before after on following twin source last
      (c.translation last) last_fit last_picks last_given
      (λ k. message_printable around last scope (last_typed k)) into
  own_twin w m marks scope at env other envs P Q some before after on following twin source (Some parts) fit picks
      given uses last last_fit last_picks last_given last_typed into =
      twin_chosen c whole Claim (first w) (second w) Q before after (TextTaken OwnTranslation)
      (translated_means own called env m parts (First w before) on)
      (translated_means own called other m parts (Second w after) following)
      (translated_twin w m parts marks scope at env other envs picks fit given uses P Q some
      (into (parts_plan (uses_of m) scope at parts) (inl refl)) before after on following twin)

  -- ---- calls

  module _ (deeper : (fewer : ℕ) → left ≡ suc fewer → (d : Declared) (env other : RunEnv) → IsMember d c.declared
      → EnvsBy Blocks (param_marks d.template.params) env other
      → (Claim → EnvTyped (param_scope d.template.params) env)
      → (Claim → EnvTyped (param_scope d.template.params) other)
      → Twins c whole Claim (template_frame fewer d env) (template_frame fewer d other)) where
    opened_at : (w : Pair) (name : Name) (all : Bool) (given : Arguments) (span : Span) (ns : Nodes)
        (env other : RunEnv) → Come w (node (Call name all given span) ns) env other → (d : Declared)
        → callee c.declared t.namespace name ≡ Some d → IsMember d c.declared
        → EnvsBy Blocks (param_marks d.template.params)
        (callee_env d.template.params (given_bindings c (first w) given env) all t.template.params env)
        (callee_env d.template.params (given_bindings c (second w) given other) all t.template.params other)
        → (Claim → EnvTyped (param_scope d.template.params)
        (callee_env d.template.params (given_bindings c (first w) given env) all t.template.params env))
        → (Claim → EnvTyped (param_scope d.template.params)
        (callee_env d.template.params (given_bindings c (second w) given other) all t.template.params other))
        → (P Q : List PathPart → Type 0) → HasSome P
        → ((l : List PathPart) → P l → Q (HolePart (starts_at t.file span) (kind_class d.template.kind ∷ []) ∷ l))
        → (before after : List Piece) (on following : StateSoFar → Outcome) → On w P on following
        → (n : ℕ) → left ≡ n →
        By w Q before after
        (called_means c.direction d.template.kind (called_within c n (starts_at t.file span) d
        (callee_env d.template.params (given_bindings c (first w) given env) all t.template.params env))
        (First w before) on)
        (called_means c.direction d.template.kind (called_within c n (starts_at t.file span) d
        (callee_env d.template.params (given_bindings c (second w) given other) all t.template.params other))
        (Second w after) following)
    opened_at w name all given span ns env other here d found member alike one two P Q some into before after on
        following twin zero none =
        let at : Site = starts_at t.file span in
        let inner : RunEnv = callee_env d.template.params (given_bindings c (first w) given env) all t.template.params
        env in
        let within : RunEnv = callee_env d.template.params (given_bindings c (second w) given other) all
        t.template.params other in
        subst (λ o. By w Q before after (called_means c.direction d.template.kind o (First w before) on)
        (called_means c.direction d.template.kind (called_within c zero at d within) (Second w after) following))
        (sym (called_none c at d inner))
        (subst (λ o. By w Q before after
        (called_means c.direction d.template.kind (RunEnds none_spent (StopsAt at)) (First w before) on)
        (called_means c.direction d.template.kind o (Second w after) following)) (sym (called_none c at d within))
        (twin_refused c whole Claim (first w) (second w) Q at d.template.kind
        (HolePart at (kind_class d.template.kind ∷ []) ∷ some.0, into some.0 some.1) before after on following))
    opened_at w name all given span ns env other here d found member alike one two P Q some into before after on
        following twin (suc fewer) less =
        let at : Site = starts_at t.file span in
        let inner : RunEnv = callee_env d.template.params (given_bindings c (first w) given env) all t.template.params
        env in
        let within : RunEnv = callee_env d.template.params (given_bindings c (second w) given other) all
        t.template.params other in
        let a : FrameRun = template_frame fewer d inner in
        let b : FrameRun = template_frame fewer d within in
        let opens : OpensCall c (first w) name all given env a =
        record { template = d; found = found; left = fewer; one_less = less; frame = refl } in
        let also_opens : OpensCall c (second w) name all given other b =
        record { template = d; found = found; left = fewer; one_less = less; frame = refl } in
        let there : IsGivenAt c (first w) at a =
        record { command = Call name all given span; rest = ns; env = env; comes = here.0; gives = (refl, opens) } in
        let also : IsGivenAt c (second w) at b =
        record {
          command = Call name all given span;
          rest = ns;
          env = other;
          comes = here.1;
          gives = (refl, also_opens);
        } in
        subst (λ o. By w Q before after (called_means c.direction d.template.kind o (First w before) on)
        (called_means c.direction d.template.kind (called_within c (suc fewer) at d within) (Second w after) following))
        (sym (called_more c fewer at d inner))
        (subst (λ o. By w Q before after
        (called_means c.direction d.template.kind (run_outcome c a) (First w before) on)
        (called_means c.direction d.template.kind o (Second w after) following)) (sym (called_more c fewer at d within))
        (twin_called c whole Claim (first w) (second w) P Q at (kind_class d.template.kind ∷ []) d.template.kind a b
        refl refl there also (λ k. inl refl) (deeper fewer less d inner within member alike one two)
        some into before after
        on following twin))

    pub opened_twin : (w : Pair) (name : Name) (all : Bool) (given : Arguments) (span : Span) (ns : Nodes)
        (marks : Marks) (scope : Scope) (env other : RunEnv) → Come w (node (Call name all given span) ns) env other
        → Envs marks scope env other → (found : Option Declared)
        → callee c.declared t.namespace name ≡ found → IsAmong c.declared found
        → callee_takes found (argument_marks given marks) all t.template.params marks ≡ true
        → EnvsBy Blocks (argument_marks given marks) (given_bindings c (first w) given env)
        (given_bindings c (second w) given other)
        → (Claim → CalleeTakes found given all t.template.params scope)
        → (P Q : List PathPart → Type 0) → HasSome P
        → ((l : List PathPart) → P l → Q (HolePart (starts_at t.file span) (called_classes found) ∷ l))
        → (before after : List Piece) (on following : StateSoFar → Outcome) → On w P on following →
        By w Q before after
        (opened_means own called (starts_at t.file span) found (given_bindings c (first w) given env) all env
        (First w before) on)
        (opened_means own called (starts_at t.file span) found (given_bindings c (second w) given other) all other
        (Second w after) following)
    opened_twin w name all given span ns marks scope env other here envs None found among takes givens typed P Q some
        into before after on following twin =
        twin_value c whole Claim (first w) (second w) P Q (starts_at t.file span) [] NullValue NullValue
        (λ k. absurd (typed k)) (λ k. absurd (typed k)) into before after on following twin
    opened_twin w name all given span ns marks scope env other here envs (Some d) found among takes givens typed P Q
        some into before after on following twin =
        opened_at w name all given span ns env other here d found among
        (callee_alike Blocks (argument_marks given marks) marks (given_bindings c (first w) given env)
        (given_bindings c (second w) given other) env other all t.template.params givens envs.alike d.template.params
        takes)
        (λ k. callee_typed c (first w) scope env (envs.one k) d.template.params given all t.template.params (typed k))
        (λ k. callee_typed c (second w) scope other (envs.two k) d.template.params given all t.template.params (typed
        k)) P Q some into before after on following twin left refl
