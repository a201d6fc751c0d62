-- Two runs of nodes side by side.
use Rattle.std.proofs.Common.{◌≡◌, ℕ, suc, ◌+◌, ℤ, List, [], ◌∷◌, ◌++◌, inl, inr, Option, Some}
use Rattle.std.proofs.Common.{None, if◌then◌else◌, refl, sym, ap, ◌∙◌, subst, append_assoc}
use Rattle.std.specs.Prelude.{bytes_eq}
use Rattle.std.proofs.lemmas.List.{append-nil}
use Rattle.soy_base.specs.declared.fault.Span.{Span}
use Rattle.soy_base.specs.Piece.{Piece}
use Rattle.soy_rules.specs.Cost.{cost}
use Rattle.soy_rules.specs.Narrowing.{narrowed}
use Rattle.soy_tree.specs.Nodes.{Node, Nodes, Otherwise, Arms, Cases, Arguments, Given, Message, MessageBody}
use Rattle.soy_tree.specs.Nodes.{PluralCases, SelectCases, TextNode, Print, If, Switch, For, Let, LetBlock, Call}
use Rattle.soy_tree.specs.Nodes.{MessageNode, no_node, node, no_otherwise, otherwise, no_arm, arm, no_case, case}
use Rattle.soy_tree.specs.Nodes.{no_argument, argument, Plain, Block, message, Parts, Plural}
use Rattle.soy_tree.specs.Nodes.{Select, no_plural_case, plural_case, no_select_case, select_case}
use Rattle.soy_rules.specs.Bodies.{Around}
use Rattle.soy_rules.specs.Templates.{Declared, callee, param_scope}
use Rattle.soy_rules.specs.TypeOf.{Scope, type_of}
use Rattle.soy_rules.specs.Val.{Binding, Known, is_same_int, is_truthy, val}
use Rattle.soy_tree.specs.Values.{Items, Value}
use Rattle.soy_pieces.specs.Branch.{int_of, word_of}
use Rattle.soy_meaning.specs.Runs.ComesNext.{ComesNext, arm_bodies, at_first, case_bodies, in_a_turn}
use Rattle.soy_meaning.specs.Runs.ComesNext.{in_an_arm, other_bodies, past, plural_bodies, select_bodies, source_bodies}
use Rattle.soy_meaning.specs.Runs.EqualChoices.{BindingsBy, EnvsBy}
use Rattle.soy_meaning.specs.Runs.FrameRun.{FrameRun, run_outcome, template_frame}
use Rattle.soy_meaning.specs.Runs.GivenAt.{given_binding_of}
use Rattle.soy_meaning.specs.Runs.GivenAt.{given_bindings}
use Rattle.soy_pieces.specs.Giving.{BoundBlock, Means, RunEnv, StateSoFar, printed_means}
use Rattle.soy_pieces.specs.Giving.{with_choice}
use Rattle.soy_pieces.specs.Outcome.{ArmTaken, Outcome, SourceText}
use Rattle.soy_pieces.specs.Outcome.{TextTaken, Turns}
use Rattle.soy_meaning.specs.Paths.PathParts.{HolePart, IsPath, PathPart, both, empty_path, hole, no_turn, passed_by}
use Rattle.soy_meaning.specs.Runs.PicksValues.{ArgumentsPick, ArmsPick, BodyPicks, CasesPick, GivenPicks}
use Rattle.soy_meaning.specs.Runs.PicksValues.{Marks, NodePicks, NodesPick, OtherPicks, PluralPicks, SelectPicks}
use Rattle.soy_meaning.specs.Runs.PicksValues.{argument_marks, given_mark, marks_past}
use Rattle.soy_meaning.specs.Runs.PicksValues.{may_give_block, param_marks, turn_marks}
use Rattle.soy_pieces.specs.Pieces.{GivenArguments, RunContext, arguments_mean, arms_mean, at_end}
use Rattle.soy_pieces.specs.Pieces.{cases_mean}
use Rattle.soy_rules.specs.ShortLists.{item_count}
use Rattle.soy_pieces.specs.Pieces.{given_means, is_one, listed_items}
use Rattle.soy_pieces.specs.Pieces.{node_means, nodes_mean, opened_means, otherwise_means}
use Rattle.soy_pieces.specs.Pieces.{plural_cases_mean, select_cases_mean, source_means, turns_mean}
use Rattle.soy_pieces.specs.Pieces.{unbound, valued, with_index}
use Rattle.soy_meaning.specs.Paths.Plan.{Loop, Nowhere, Plan}
use Rattle.soy_pieces.specs.Site.{Site}
use Rattle.soy_meaning.specs.Paths.PlanOfNodes.{PlanContext, arm_plans, argument_frames, body_plan, body_scope}
use Rattle.soy_meaning.specs.Paths.PlanOfNodes.{called_classes, case_plans, fallback_plans, given_frame}
use Rattle.soy_meaning.specs.Paths.PlanOfNodes.{node_plan}
use Rattle.soy_meaning.specs.Paths.PlanOfNodes.{nodes_plan, other_plan, plural_plans, scope_past, select_plans}
use Rattle.soy_pieces.specs.Site.{starts_at}
use Rattle.soy_meaning.specs.Paths.PlanOfNodes.{translation_plans}
use Rattle.soy_meaning.specs.Paths.PlanOfParts.{printed_classes}
use Rattle.soy_meaning.specs.Walks.Points.{Here, Inside, Left, Right}
use Rattle.soy_meaning.specs.Runs.RunsAlong.{IsFrameWithin}
use Rattle.soy_meaning.specs.Walks.States.{IsMember}
use Rattle.soy_meaning.specs.Runs.TranslationFits.{ArgumentsFit, ArmsFit, BodyFits, CasesFit}
use Rattle.soy_meaning.specs.Runs.TranslationFits.{GivenFits, NodeFits, NodesFit, OtherFits, PluralFits, SelectFits}
use Rattle.soy_meaning.proofs.Pairs.AlikeBindings.{envs_more, val_alike}
use Rattle.soy_meaning.proofs.Pairs.AlikeNodes.{arms_from, cases_from, otherwise_from, plural_from}
use Rattle.soy_meaning.proofs.Pairs.AlikeNodes.{select_from}
use Rattle.soy_meaning.proofs.Pairs.AlikeOutcomes.{BeginsFrom}
use Rattle.soy_meaning.proofs.Pairs.NestOutcomes.{Behind, HasSome, Joins, TwinBlocks, Twins}
use Rattle.soy_meaning.proofs.Pairs.NestOutcomes.{has_behind, joins_arm, joins_behind, joins_then, twin_bound}
use Rattle.soy_meaning.proofs.Pairs.NestOutcomes.{twin_chosen, twin_costs, twin_if, twin_nothing, twin_printed}
use Rattle.soy_meaning.proofs.Pairs.NestOutcomes.{twin_text, twin_turns, twin_wider}
use Rattle.soy_meaning.proofs.Typing.PrintableUses.{message_printable}
use Rattle.soy_meaning.proofs.Runs.RunBindings.{AllFramesIn, FramesIn, any_frames, callee_among, frames_left}
use Rattle.soy_meaning.proofs.Runs.RunBindings.{frames_right}
use Rattle.soy_meaning.proofs.Paths.SomePaths.{frames_path, nodes_path}
use Rattle.soy_meaning.proofs.Typing.TypedEnvs.{EnvTyped, arm_typed, let_block_typed, let_typed, loop_typed}
use Rattle.soy_meaning.proofs.Typing.TypedEnvs.{printed_has_class}
use Rattle.soy_meaning.proofs.Typing.TypedNodes.{ArgumentsTyped, ArmsTyped, BodyTyped, CasesTyped}
use Rattle.soy_meaning.proofs.Typing.TypedNodes.{GivenTyped, NodeTyped, NodesTyped, OtherTyped, PluralTyped}
use Rattle.soy_meaning.proofs.Typing.TypedNodes.{SelectTyped}
use Rattle.soy_meaning.proofs.Pairs.NestFrames as pair
use Rattle.soy_meaning.proofs.Pairs.NestFrames.{Pair, joins_end, joins_turn, turn_env}

module _ (c : RunContext) (whole : Plan) (Claim : Type 0) (t : Declared) (left : ℕ)
    (deeper : (fewer : ℕ) → left ≡ suc fewer → (d : Declared) (env other : RunEnv) → IsMember d c.declared
    → EnvsBy (TwinBlocks c whole Claim) (param_marks d.template.params) env other
    → (Claim → EnvTyped (param_scope d.template.params) env)
    → (Claim → EnvTyped (param_scope d.template.params) other)
    → Twins c whole Claim (template_frame fewer d env) (template_frame fewer d other)) where
  abbrev Blocks : BoundBlock → BoundBlock → Type 0
  Blocks = TwinBlocks c whole Claim

  abbrev own : RunContext
  own = pair.own c whole Claim t left

  abbrev called : Site → Declared → RunEnv → Outcome
  called = pair.called c whole Claim t left

  abbrev of_context : PlanContext
  of_context = pair.of_context c whole Claim t left

  abbrev around : Around
  around = pair.around c whole Claim t left

  abbrev first : Pair → FrameRun
  first = pair.first c whole Claim t left

  abbrev second : Pair → FrameRun
  second = pair.second c whole Claim t left

  abbrev First : Pair → List Piece → StateSoFar
  First = pair.First c whole Claim t left

  abbrev Second : Pair → List Piece → StateSoFar
  Second = pair.Second c whole Claim t left

  abbrev By : Pair → (List PathPart → Type 0) → List Piece → List Piece → Outcome → Outcome → Type 0
  By = pair.By c whole Claim t left

  abbrev On : Pair → (List PathPart → Type 0) → (StateSoFar → Outcome) → (StateSoFar → Outcome) → Type 0
  On = pair.On c whole Claim t left

  abbrev Come : Pair → Nodes → RunEnv → RunEnv → Type 0
  Come = pair.Come c whole Claim t left

  abbrev AllCome : Pair → List Nodes → RunEnv → RunEnv → Type 0
  AllCome = pair.AllCome c whole Claim t left

  abbrev Envs : Marks → Scope → RunEnv → RunEnv → Type 0
  Envs = pair.Envs c whole Claim t left

  abbrev NextTwin : Pair → Nodes → Marks → Scope → (List PathPart → Type 0) → (RunEnv → StateSoFar → Outcome)
      → (RunEnv → StateSoFar → Outcome) → Type 0
  NextTwin = pair.NextTwin c whole Claim t left

  abbrev AllJoin : List Plan → (List PathPart → Type 0) → (List PathPart → Type 0) → Type 0
  AllJoin = pair.AllJoin c whole Claim t left

  -- ---- nodes

  mutual
    node_twin : (w : Pair) (n : Node) (ns : Nodes) (marks : Marks) (scope : Scope) (env other : RunEnv)
        → Come w (node n ns) env other → Envs marks scope env other → FramesIn whole (node_plan of_context n scope)
        → NodePicks own n marks → NodeFits c.translation n → (Claim → NodeTyped around n scope)
        → (P Q : List PathPart → Type 0) → HasSome P → Joins (node_plan of_context n scope) P Q
        → (before after : List Piece) (next following : RunEnv → StateSoFar → Outcome)
        → NextTwin w ns (marks_past n marks) (scope_past n scope) P next following →
        By w Q before after (node_means own called n env (First w before) next)
        (node_means own called n other (Second w after) following)
    node_twin w (TextNode text span) ns marks scope env other here envs frames picks fit typed P Q some joins before
        after next following h =
        twin_text c whole Claim (first w) (second w) P Q (starts_at t.file span) text joins before after (next env)
        (following other) (h env other (past here.0, past here.1) envs)
    node_twin w (Print e phname span) ns marks scope env other here envs frames picks fit typed P Q some joins before
        after next following h =
        let at : Site = starts_at t.file span in
        twin_costs c whole Claim (first w) (second w) Q before after (cost e env) (cost e other)
        (printed_means c.direction (val e env) (First w before) (next env))
        (printed_means c.direction (val e other) (Second w after) (following other))
        (twin_printed c whole Claim (first w) (second w) P Q at (printed_classes e scope) (may_give_block e marks)
        (val e env) (val e other) (val_alike Blocks marks env other envs.alike e picks)
        (λ inner is. record {
          command = Print e phname span;
          rest = ns;
          env = env;
          comes = here.0;
          gives = (refl, is);
        })
        (λ inner is. record {
          command = Print e phname span;
          rest = ns;
          env = other;
          comes = here.1;
          gives = (refl, is);
        })
        (λ k. printed_has_class e scope env (typed k) (envs.one k))
        (λ k. printed_has_class e scope other (typed k) (envs.two k)) some
        (λ l k. joins (HolePart at (printed_classes e scope) ∷ []) l hole k) before after (next env) (following other)
        (h env other (past here.0, past here.1) envs))
    node_twin w (If arms last span) ns marks scope env other here envs frames picks fit typed P Q some joins before
        after next following h =
        let at : Site = starts_at t.file span in
        let rest : Plan = other_plan of_context last scope in
        let ps : List Plan = arm_plans of_context arms scope ++ (rest ∷ []) in
        let all = any_frames whole Nowhere ps (λ y k f e. frames (Inside y) k f e) in
        let come : AllCome w (arm_bodies arms ++ other_bodies last) env other =
        λ body member. (in_an_arm here.0 member, in_an_arm here.1 member) in
        let into : AllJoin ps P Q = λ r member. joins_arm at ps r P Q member joins in
        let on : On w P (next env) (following other) = h env other (past here.0, past here.1) envs in
        arms_twin w arms marks scope env other (pair.come_left c whole Claim t left w (arm_bodies arms) (other_bodies
        last) env other come) envs
        (frames_left whole (arm_plans of_context arms scope) (rest ∷ []) all.1) picks.0 fit.0 (λ k. (typed k).0) P Q
        some (pair.join_left c whole Claim t left (arm_plans of_context arms scope) (rest ∷ []) P Q into)
        (λ k. otherwise_means own called last k env) (λ k. otherwise_means own called last k other) 0 before after
        (next env) (following other) on (λ k. otherwise_from own called last k env (First w before) (next env))
        (λ k. otherwise_from own called last k other (Second w after) (following other))
        (λ k. otherwise_twin w last k marks scope env other
        (pair.come_right c whole Claim t left w (arm_bodies arms) (other_bodies last) env other come) envs
        (frames_right whole (arm_plans of_context arms scope) (rest ∷ []) all.1).0 picks.1 fit.1 (λ j. (typed j).1) P Q
        some (pair.join_last c whole Claim t left (arm_plans of_context arms scope) rest P Q into) before after (next
        env) (following other) on)
    node_twin w (Switch e cases last span) ns marks scope env other here envs frames picks fit typed P Q some joins
        before after next following h =
        let at : Site = starts_at t.file span in
        let rest : Plan = other_plan of_context last scope in
        let ps : List Plan = case_plans of_context cases scope ++ (rest ∷ []) in
        let all = any_frames whole Nowhere ps (λ y k f e. frames (Inside y) k f e) in
        let come : AllCome w (case_bodies cases ++ other_bodies last) env other =
        λ body member. (in_an_arm here.0 member, in_an_arm here.1 member) in
        let into : AllJoin ps P Q = λ r member. joins_arm at ps r P Q member joins in
        let on : On w P (next env) (following other) = h env other (past here.0, past here.1) envs in
        twin_costs c whole Claim (first w) (second w) Q before after (cost e env) (cost e other)
        (cases_mean own called (valued e env) cases (λ k. otherwise_means own called last k env) 0 env
        (First w before) (next env))
        (cases_mean own called (valued e other) cases (λ k. otherwise_means own called last k other) 0 other
        (Second w after) (following other))
        (cases_twin w (valued e env) (valued e other) cases marks scope env other
        (pair.come_left c whole Claim t left w (case_bodies cases) (other_bodies last) env other come) envs
        (frames_left whole (case_plans of_context cases scope) (rest ∷ []) all.1) picks.0 fit.0 (λ k. (typed k).0) P Q
        some (pair.join_left c whole Claim t left (case_plans of_context cases scope) (rest ∷ []) P Q into)
        (λ k. otherwise_means own called last k env) (λ k. otherwise_means own called last k other) 0 before after
        (next env) (following other) on (λ k. otherwise_from own called last k env (First w before) (next env))
        (λ k. otherwise_from own called last k other (Second w after) (following other))
        (λ k. otherwise_twin w last k marks scope env other
        (pair.come_right c whole Claim t left w (case_bodies cases) (other_bodies last) env other come) envs
        (frames_right whole (case_plans of_context cases scope) (rest ∷ []) all.1).0 picks.1 fit.1 (λ j. (typed j).1) P
        Q some (pair.join_last c whole Claim t left (case_plans of_context cases scope) rest P Q into) before after
        (next env) (following other) on))
    node_twin w (For name index e body span) ns marks scope env other here envs frames picks fit typed P Q some joins
        before after next following h =
        let at : Site = starts_at t.file span in
        let inside : Scope = body_scope name index (type_of e scope) scope in
        let p : Plan = nodes_plan of_context body inside in
        let loop : Plan = Loop at p in
        let turn_of : RunEnv → Means = λ inner now on. nodes_mean own called body inner now (unbound on) in
        let items : Items = listed_items (valued e env) in
        let others : Items = listed_items (valued e other) in
        let one : Outcome = turns_mean turn_of name index env 0 items (First w before) (next env) in
        let two : Outcome = turns_mean turn_of name index other 0 others (Second w after) (following other) in
        twin_costs c whole Claim (first w) (second w) Q before after (cost e env) (cost e other)
        (with_choice (Turns (item_count items)) one) (with_choice (Turns (item_count others)) two)
        (twin_turns c whole Claim (first w) (second w) Q before after (item_count items) (item_count others) one two
        (λ same. twin_wider c whole Claim (first w) (second w) (Behind loop P) Q before after one two
        (λ l j. subst Q (sym j.is) (joins j.first j.last j.path j.rest))
        (pair.turns_twin c whole Claim t left w at p P some turn_of name index env other 0 items others same
        (λ k v u there also x y on past_it on_twin. nodes_twin w body (turn_marks name index marks) inside
        (with_index index k ((name, Known v) ∷ env)) (with_index index k ((name, Known u) ∷ other))
        (in_a_turn k v here.0 there, in_a_turn k u here.1 also)
        (record {
          alike = turn_env Blocks name index marks env other k v u envs.alike;
          one = λ j. loop_typed name index e scope env k v (typed j).0 (envs.one j) there;
          two = λ j. loop_typed name index e scope other k u (typed j).0 (envs.two j) also;
        })
        (λ z g f i. frames (Inside z) g f i) picks fit (λ j. (typed j).1) (Behind loop P) (Behind loop P)
        (has_behind loop P (record { parts = []; path = no_turn }) some) (joins_turn at p P) x y (unbound on)
        (unbound past_it) (λ i j m r. on_twin m r))
        before after (next env) (following other) (h env other (past here.0, past here.1) envs))))
    node_twin w (Let name e span) ns marks scope env other here envs frames picks fit typed P Q some joins before after
        next following h =
        let inner : RunEnv = (name, val e env) ∷ env in
        let within : RunEnv = (name, val e other) ∷ other in
        twin_costs c whole Claim (first w) (second w) Q before after (cost e env) (cost e other)
        (next inner (First w before)) (following within (Second w after))
        (twin_wider c whole Claim (first w) (second w) P Q before after (next inner (First w before))
        (following within (Second w after)) (λ l j. joins [] l empty_path j)
        (h inner within (past here.0, past here.1)
        (record {
          alike = (refl, refl, val_alike Blocks marks env other envs.alike e picks, envs.alike);
          one = λ k. let_typed name e scope env (typed k) (envs.one k);
          two = λ k. let_typed name e scope other (typed k) (envs.two k);
        })
        before after))
    node_twin w (LetBlock name k body span) ns marks scope env other here envs frames picks fit typed P Q some joins
        before after next following h =
        let p : Plan = nodes_plan of_context body scope in
        let v : Pair = record { kind = k; body = body; scope = scope; env = env; other = other } in
        let twins : Twins c whole Claim (first v) (second v) = pair.whole_twins c whole Claim t left v (frames Here k p
        refl)
        (nodes_twin v body marks scope env other (at_first, at_first) envs (λ y g f e. frames (Inside y) g f e) picks
        fit typed (λ l. l ≡ []) (IsPath p) ([], refl) (joins_end p) [] [] at_end at_end
        (λ i j x y. twin_nothing c whole Claim (first v) (second v) x y)) in
        twin_bound c whole Claim (first w) (second w) Q before after k (first v) (second v) refl refl twins
        (some.0, joins [] some.0 passed_by some.1) (λ bound. next ((name, bound) ∷ env) (First w before))
        (λ bound. following ((name, bound) ∷ other) (Second w after))
        (λ x y x_is y_is bound. twin_wider c whole Claim (first w) (second w) P Q before after
        (next ((name, x) ∷ env) (First w before)) (following ((name, y) ∷ other) (Second w after))
        (λ l j. joins [] l passed_by j)
        (h ((name, x) ∷ env) ((name, y) ∷ other) (
          subst (λ z. ComesNext c (first w) ns ((name, z) ∷ env)) (sym x_is) (past here.0),
          subst (λ z. ComesNext c (second w) ns ((name, z) ∷ other)) (sym y_is) (past here.1),
        )
        (record {
          alike = (refl, refl, bound, envs.alike);
          one = λ j. let_block_typed name k (run_outcome c (first v)) x scope env x_is (envs.one j);
          two = λ j. let_block_typed name k (run_outcome c (second v)) y scope other y_is (envs.two j);
        })
        before after))
    node_twin w (Call name all given span) ns marks scope env other here envs frames picks fit typed P Q some joins
        before after next following h =
        let at : Site = starts_at t.file span in
        let found : Option Declared = callee c.declared t.namespace name in
        let into : (l : List PathPart) → P l → Q (HolePart at (called_classes found) ∷ l) =
        λ l j. joins (HolePart at (called_classes found) ∷ []) l (both hole (frames_path of_context given scope)) j in
        let opens : GivenArguments → Outcome = λ arguments. opened_means own called at found arguments all env
        (First w before) (next env) in
        let also_opens : GivenArguments → Outcome = λ arguments. opened_means own called at found arguments all other
        (Second w after) (following other) in
        arguments_twin w given [] [] [] tt marks scope env other envs (λ y g f e. frames (Right y) g f e) picks.1 fit
        (λ k. (typed k).1) Q (HolePart at (called_classes found) ∷ some.0, into some.0 some.1) before after opens
        also_opens
        (λ a b both_alike a_is b_is.
        subst (λ z. By w Q before after (opens z) (also_opens b)) (sym a_is)
        (subst (λ z. By w Q before after (opens (given_bindings c (first w) given env)) (also_opens z)) (sym b_is)
        (pair.opened_twin c whole Claim t left deeper w name all given span ns marks scope env other here envs found
        refl (callee_among c.declared t.namespace name) picks.0
        (subst (λ z. EnvsBy Blocks (argument_marks given marks) z (given_bindings c (second w) given other)) a_is
        (subst (λ z. EnvsBy Blocks (argument_marks given marks) a z) b_is both_alike))
        (λ k. (typed k).0) P Q some into before after (next env) (following other)
        (h env other (past here.0, past here.1) envs))))
    node_twin w (MessageNode (message desc meaning body within) last span) ns marks scope env other here envs frames
        picks fit typed P Q some joins before after next following h =
        let at : Site = starts_at t.file span in
        let m : Message = message desc meaning body within in
        let source : Plan = body_plan of_context body scope at in
        let ps : List Plan = source ∷ (translation_plans of_context m scope at
        ++ fallback_plans of_context last scope at) in
        let all = any_frames whole Nowhere ps (λ y k f e. frames (Inside y) k f e) in
        let into : AllJoin ps P Q = λ r member. joins_arm at ps r P Q member joins in
        let on : On w P (next env) (following other) = h env other (past here.0, past here.1) envs in
        pair.own_twin c whole Claim t left w m marks scope at env other envs P Q some before after (next env)
        (following other) on (twin_chosen c whole Claim (first w) (second w) Q before after (TextTaken SourceText)
        (source_means own called body env (First w before) (next env))
        (source_means own called body other (Second w after) (following other))
        (body_twin w body marks scope at env other
        (λ inner member. (in_an_arm here.0 member, in_an_arm here.1 member)) envs all.1.0 picks.1 fit.1
        (λ k. (typed k).0) P Q some (into source (inl refl)) before after (next env) (following other) on))
        (c.translation m) fit.0 picks.0
        (λ e has. (
          (λ inner is. record {
            command = MessageNode m last span;
            rest = ns;
            env = env;
            comes = here.0;
            gives = (refl, e, inl has, is);
          }),
          (λ inner is. record {
            command = MessageNode m last span;
            rest = ns;
            env = other;
            comes = here.1;
            gives = (refl, e, inl has, is);
          }),
        ))
        (λ k. message_printable around m scope (typed k).0) last fit.2 picks.2
        (λ e has. (
          (λ inner is. record {
            command = MessageNode m last span;
            rest = ns;
            env = env;
            comes = here.0;
            gives = (refl, e, inr has, is);
          }),
          (λ inner is. record {
            command = MessageNode m last span;
            rest = ns;
            env = other;
            comes = here.1;
            gives = (refl, e, inr has, is);
          }),
        ))
        (λ k. (typed k).1) (λ r member. into r (inr member))

    pub nodes_twin : (w : Pair) (ns : Nodes) (marks : Marks) (scope : Scope) (env other : RunEnv)
        → Come w ns env other → Envs marks scope env other → FramesIn whole (nodes_plan of_context ns scope)
        → NodesPick own ns marks → NodesFit c.translation ns → (Claim → NodesTyped around ns scope)
        → (P Q : List PathPart → Type 0) → HasSome P → Joins (nodes_plan of_context ns scope) P Q
        → (before after : List Piece) (next following : RunEnv → StateSoFar → Outcome)
        → ((inner within : RunEnv) (x y : List Piece)
        → By w P x y (next inner (First w x)) (following within (Second w y))) →
        By w Q before after (nodes_mean own called ns env (First w before) next)
        (nodes_mean own called ns other (Second w after) following)
    nodes_twin w no_node marks scope env other here envs frames picks fit typed P Q some joins before after next
        following h =
        twin_wider c whole Claim (first w) (second w) P Q before after (next env (First w before))
        (following other (Second w after)) (λ l j. joins [] l empty_path j) (h env other before after)
    nodes_twin w (node n ns) marks scope env other here envs frames picks fit typed P Q some joins before after next
        following h =
        let tail : Plan = nodes_plan of_context ns (scope_past n scope) in
        node_twin w n ns marks scope env other here envs (λ y k f e. frames (Left y) k f e) picks.0 fit.0
        (λ k. (typed k).0) (Behind tail P) Q
        (has_behind tail P (nodes_path of_context ns (scope_past n scope)) some)
        (joins_then (node_plan of_context n scope) tail P Q joins) before after
        (λ inner now. nodes_mean own called ns inner now next)
        (λ inner now. nodes_mean own called ns inner now following)
        (λ inner within come both_envs x y. nodes_twin w ns (marks_past n marks) (scope_past n scope) inner within come
        both_envs (λ z k f e. frames (Right z) k f e) picks.1 fit.1 (λ k. (typed k).1) P (Behind tail P) some
        (joins_behind tail P) x y next following h)

    otherwise_twin : (w : Pair) (last : Otherwise) (k : ℕ) (marks : Marks) (scope : Scope) (env other : RunEnv)
        → AllCome w (other_bodies last) env other → Envs marks scope env other
        → FramesIn whole (other_plan of_context last scope) → OtherPicks own last marks
        → OtherFits c.translation last → (Claim → OtherTyped around last scope)
        → (P Q : List PathPart → Type 0) → HasSome P → Joins (other_plan of_context last scope) P Q
        → (before after : List Piece) (on following : StateSoFar → Outcome) → On w P on following →
        By w Q before after (otherwise_means own called last k env (First w before) on)
        (otherwise_means own called last k other (Second w after) following)
    otherwise_twin w no_otherwise k marks scope env other come envs frames picks fit typed P Q some joins before after
        on following twin =
        twin_chosen c whole Claim (first w) (second w) Q before after (ArmTaken None) (on (First w before))
        (following (Second w after))
        (twin_wider c whole Claim (first w) (second w) P Q before after (on (First w before))
        (following (Second w after)) (λ l j. joins [] l empty_path j) (twin before after))
    otherwise_twin w (otherwise body) k marks scope env other come envs frames picks fit typed P Q some joins before
        after on following twin =
        twin_chosen c whole Claim (first w) (second w) Q before after (ArmTaken (Some k))
        (nodes_mean own called body env (First w before) (unbound on))
        (nodes_mean own called body other (Second w after) (unbound following))
        (nodes_twin w body marks scope env other (come body (inl refl)) envs frames picks fit typed P Q some joins
        before after (unbound on) (unbound following) (λ u v x y. twin x y))

    arms_twin : (w : Pair) (arms : Arms) (marks : Marks) (scope : Scope) (env other : RunEnv)
        → AllCome w (arm_bodies arms) env other → Envs marks scope env other
        → AllFramesIn whole (arm_plans of_context arms scope) → ArmsPick own arms marks → ArmsFit c.translation arms
        → (Claim → ArmsTyped around arms scope) → (P Q : List PathPart → Type 0) → HasSome P
        → AllJoin (arm_plans of_context arms scope) P Q → (one two : ℕ → Means) (k : ℕ)
        (before after : List Piece) (on following : StateSoFar → Outcome) → On w P on following
        → ((j : ℕ) → BeginsFrom j (one j (First w before) on))
        → ((j : ℕ) → BeginsFrom j (two j (Second w after) following))
        → ((j : ℕ) → By w Q before after (one j (First w before) on) (two j (Second w after) following)) →
        By w Q before after (arms_mean own called arms one k env (First w before) on)
        (arms_mean own called arms two k other (Second w after) following)
    arms_twin w no_arm marks scope env other come envs frames picks fit typed P Q some into one two k before after on
        following twin begin also_begin others = others k
    arms_twin w (arm e body arms) marks scope env other come envs frames picks fit typed P Q some into one two k before
        after on following twin begin also_begin others =
        let left_one : Outcome = nodes_mean own called body env (First w before) (unbound on) in
        let right_one : Outcome = nodes_mean own called body other (Second w after) (unbound following) in
        let left_rest : Outcome = arms_mean own called arms one (k + 1) env (First w before) on in
        let right_rest : Outcome = arms_mean own called arms two (k + 1) other (Second w after) following in
        twin_costs c whole Claim (first w) (second w) Q before after (cost e env) (cost e other)
        (if is_truthy (val e env) then with_choice (ArmTaken (Some k)) left_one else left_rest)
        (if is_truthy (val e other) then with_choice (ArmTaken (Some k)) right_one else right_rest)
        (twin_if c whole Claim (first w) (second w) Q before after k (is_truthy (val e env)) (is_truthy (val e other))
        left_one right_one left_rest right_rest
        (λ holds also. nodes_twin w body marks (narrowed e scope) env other (come body (inl refl))
        (record {
          alike = envs.alike;
          one = λ j. arm_typed e scope env holds (envs.one j);
          two = λ j. arm_typed e scope other also (envs.two j);
        })
        frames.0 picks.0 fit.0 (λ j. (typed j).0) P Q some
        (into (nodes_plan of_context body (narrowed e scope)) (inl refl)) before after (unbound on) (unbound following)
        (λ u v x y. twin x y))
        (arms_from own called arms env one (k + 1) (First w before) on begin)
        (arms_from own called arms other two (k + 1) (Second w after) following also_begin)
        (arms_twin w arms marks scope env other (λ b member. come b (inr member)) envs frames.1 picks.1 fit.1
        (λ j. (typed j).1) P Q some (λ r member. into r (inr member)) one two (k + 1) before after on following twin
        begin also_begin others))

    cases_twin : (w : Pair) (v u : Value) (cases : Cases) (marks : Marks) (scope : Scope) (env other : RunEnv)
        → AllCome w (case_bodies cases) env other → Envs marks scope env other
        → AllFramesIn whole (case_plans of_context cases scope) → CasesPick own cases marks
        → CasesFit c.translation cases → (Claim → CasesTyped around cases scope)
        → (P Q : List PathPart → Type 0) → HasSome P → AllJoin (case_plans of_context cases scope) P Q
        → (one two : ℕ → Means) (k : ℕ) (before after : List Piece) (on following : StateSoFar → Outcome)
        → On w P on following → ((j : ℕ) → BeginsFrom j (one j (First w before) on))
        → ((j : ℕ) → BeginsFrom j (two j (Second w after) following))
        → ((j : ℕ) → By w Q before after (one j (First w before) on) (two j (Second w after) following)) →
        By w Q before after (cases_mean own called v cases one k env (First w before) on)
        (cases_mean own called u cases two k other (Second w after) following)
    cases_twin w v u no_case marks scope env other come envs frames picks fit typed P Q some into one two k before after
        on following twin begin also_begin others = others k
    cases_twin w v u (case es body cases) marks scope env other come envs frames picks fit typed P Q some into one two k
        before after on following twin begin also_begin others =
        let left_one : Outcome = nodes_mean own called body env (First w before) (unbound on) in
        let right_one : Outcome = nodes_mean own called body other (Second w after) (unbound following) in
        let left_rest : Outcome = cases_mean own called v cases one (k + 1) env (First w before) on in
        let right_rest : Outcome = cases_mean own called u cases two (k + 1) other (Second w after) following in
        twin_costs c whole Claim (first w) (second w) Q before after (is_one v es env).1 (is_one u es other).1
        (if (is_one v es env).0 then with_choice (ArmTaken (Some k)) left_one else left_rest)
        (if (is_one u es other).0 then with_choice (ArmTaken (Some k)) right_one else right_rest)
        (twin_if c whole Claim (first w) (second w) Q before after k (is_one v es env).0 (is_one u es other).0 left_one
        right_one left_rest right_rest
        (λ holds also. nodes_twin w body marks scope env other (come body (inl refl)) envs frames.0 picks.0 fit.0
        (λ j. (typed j).0) P Q some (into (nodes_plan of_context body scope) (inl refl)) before after (unbound on)
        (unbound following) (λ i j x y. twin x y))
        (cases_from own called v cases env one (k + 1) (First w before) on begin)
        (cases_from own called u cases other two (k + 1) (Second w after) following also_begin)
        (cases_twin w v u cases marks scope env other (λ b member. come b (inr member)) envs frames.1 picks.1 fit.1
        (λ j. (typed j).1) P Q some (λ r member. into r (inr member)) one two (k + 1) before after on following twin
        begin also_begin others))

    arguments_twin : (w : Pair) (given : Arguments) (done also : GivenArguments) (so_far : Marks)
        → EnvsBy Blocks so_far done also → (marks : Marks) (scope : Scope) (env other : RunEnv)
        → Envs marks scope env other → FramesIn whole (argument_frames of_context given scope)
        → ArgumentsPick own given marks → ArgumentsFit c.translation given
        → (Claim → ArgumentsTyped around given scope) → (Q : List PathPart → Type 0) → HasSome Q
        → (before after : List Piece) (next following : GivenArguments → Outcome)
        → ((a b : GivenArguments) → EnvsBy Blocks (so_far ++ argument_marks given marks) a b
        → a ≡ done ++ given_bindings c (first w) given env → b ≡ also ++ given_bindings c (second w) given other
        → By w Q before after (next a) (following b)) →
        By w Q before after (arguments_mean own called given done env next)
        (arguments_mean own called given also other following)
    arguments_twin w no_argument done also so_far both_alike marks scope env other envs frames picks fit typed Q some
        before after next following h =
        h done also (subst (λ l. EnvsBy Blocks l done also) (sym (append-nil so_far)) both_alike)
        (sym (append-nil done)) (sym (append-nil also))
    arguments_twin w (argument name given span rest) done also so_far both_alike marks scope env other envs frames picks
        fit typed Q some before after next following h =
        let mark : Marks = (name, given_mark given marks) ∷ [] in
        given_twin w given span marks scope env other envs (λ y k f e. frames (Left y) k f e) picks.0 fit.0
        (λ j. (typed j).0) Q some before after
        (λ bound. arguments_mean own called rest (done ++ ((name, bound) ∷ [])) env next)
        (λ bound. arguments_mean own called rest (also ++ ((name, bound) ∷ [])) other following)
        (λ a b k a_is b_is. arguments_twin w rest (done ++ ((name, a) ∷ [])) (also ++ ((name, b) ∷ []))
        (so_far ++ mark)
        (envs_more Blocks so_far mark done also ((name, a) ∷ []) ((name, b) ∷ []) both_alike (refl, refl, k, tt)) marks
        scope env other envs (λ y j f e. frames (Right y) j f e) picks.1 fit.1 (λ j. (typed j).1) Q some before after
        next following
        (λ x y all x_is y_is. h x y
        (subst (λ l. EnvsBy Blocks l x y) (append_assoc so_far mark (argument_marks rest marks)) all)
        (x_is ∙ (append_assoc done ((name, a) ∷ []) (given_bindings c (first w) rest env)
        ∙ ap (λ z. done ++ ((name, z) ∷ given_bindings c (first w) rest env)) a_is))
        (y_is ∙ (append_assoc also ((name, b) ∷ []) (given_bindings c (second w) rest other)
        ∙ ap (λ z. also ++ ((name, z) ∷ given_bindings c (second w) rest other)) b_is))))

    given_twin : (w : Pair) (given : Given) (span : Span) (marks : Marks) (scope : Scope) (env other : RunEnv)
        → Envs marks scope env other → FramesIn whole (given_frame of_context given span scope)
        → GivenPicks own given marks → GivenFits c.translation given → (Claim → GivenTyped around given scope)
        → (Q : List PathPart → Type 0) → HasSome Q
        → (before after : List Piece) (next following : Binding BoundBlock → Outcome)
        → ((a b : Binding BoundBlock) → BindingsBy Blocks (given_mark given marks) a b
        → a ≡ given_binding_of c (first w) given env → b ≡ given_binding_of c (second w) given other
        → By w Q before after (next a) (following b)) →
        By w Q before after (given_means own called given env next) (given_means own called given other following)
    given_twin w (Plain e) span marks scope env other envs frames picks fit typed Q some before after next following h =
        twin_costs c whole Claim (first w) (second w) Q before after (cost e env) (cost e other) (next (val e env))
        (following (val e other))
        (h (val e env) (val e other) (val_alike Blocks marks env other envs.alike e picks) refl refl)
    given_twin w (Block k body) span marks scope env other envs frames picks fit typed Q some before after next
        following h =
        let p : Plan = nodes_plan of_context body scope in
        let v : Pair = record { kind = k; body = body; scope = scope; env = env; other = other } in
        let twins : Twins c whole Claim (first v) (second v) = pair.whole_twins c whole Claim t left v (frames Here k p
        refl)
        (nodes_twin v body marks scope env other (at_first, at_first) envs (λ y g f e. frames (Inside y) g f e) picks
        fit typed (λ l. l ≡ []) (IsPath p) ([], refl) (joins_end p) [] [] at_end at_end
        (λ i j x y. twin_nothing c whole Claim (first v) (second v) x y)) in
        twin_bound c whole Claim (first w) (second w) Q before after k (first v) (second v) refl refl twins some next
        following (λ x y x_is y_is bound. h x y bound x_is y_is)

    body_twin : (w : Pair) (body : MessageBody) (marks : Marks) (scope : Scope) (at : Site) (env other : RunEnv)
        → AllCome w (source_bodies body) env other → Envs marks scope env other
        → FramesIn whole (body_plan of_context body scope at) → BodyPicks own body marks
        → BodyFits c.translation body → (Claim → BodyTyped around body scope)
        → (P Q : List PathPart → Type 0) → HasSome P → Joins (body_plan of_context body scope at) P Q
        → (before after : List Piece) (on following : StateSoFar → Outcome) → On w P on following →
        By w Q before after (source_means own called body env (First w before) on)
        (source_means own called body other (Second w after) following)
    body_twin w (Parts ns) marks scope at env other come envs frames picks fit typed P Q some joins before after on
        following twin =
        nodes_twin w ns marks scope env other (come ns (inl refl)) envs frames picks fit typed P Q some joins before
        after (unbound on) (unbound following) (λ u v x y. twin x y)
    body_twin w (Plural e offset cases last) marks scope at env other come envs frames picks fit typed P Q some joins
        before after on following twin =
        let rest : Plan = body_plan of_context last scope at in
        let ps : List Plan = plural_plans of_context cases scope at ++ (rest ∷ []) in
        let all = any_frames whole Nowhere ps (λ y k f i. frames (Inside y) k f i) in
        let into : AllJoin ps P Q = λ r member. joins_arm at ps r P Q member joins in
        let n : ℤ = int_of (valued e env) in
        let m : ℤ = int_of (valued e other) in
        twin_costs c whole Claim (first w) (second w) Q before after (cost e env) (cost e other)
        (plural_cases_mean own called n cases (source_means own called last env) 0 env (First w before) on)
        (plural_cases_mean own called m cases (source_means own called last other) 0 other (Second w after) following)
        (plural_twin w n m cases marks scope at env other
        (pair.come_left c whole Claim t left w (plural_bodies cases) (source_bodies last) env other come) envs
        (frames_left whole (plural_plans of_context cases scope at) (rest ∷ []) all.1) picks.0 fit.0 (λ j. (typed j).0)
        P Q some (pair.join_left c whole Claim t left (plural_plans of_context cases scope at) (rest ∷ []) P Q into)
        (source_means own called last env) (source_means own called last other) 0 before after on following twin
        (body_twin w last marks scope at env other
        (pair.come_right c whole Claim t left w (plural_bodies cases) (source_bodies last) env other come) envs
        (frames_right whole (plural_plans of_context cases scope at) (rest ∷ []) all.1).0 picks.1 fit.1
        (λ j. (typed j).1) P Q some (pair.join_last c whole Claim t left (plural_plans of_context cases scope at) rest
        P Q into) before after on following twin))
    body_twin w (Select e cases last) marks scope at env other come envs frames picks fit typed P Q some joins before
        after on following twin =
        let rest : Plan = body_plan of_context last scope at in
        let ps : List Plan = select_plans of_context cases scope at ++ (rest ∷ []) in
        let all = any_frames whole Nowhere ps (λ y k f i. frames (Inside y) k f i) in
        let into : AllJoin ps P Q = λ r member. joins_arm at ps r P Q member joins in
        let word : List ℕ = word_of (valued e env) in
        let term : List ℕ = word_of (valued e other) in
        twin_costs c whole Claim (first w) (second w) Q before after (cost e env) (cost e other)
        (select_cases_mean own called word cases (source_means own called last env) 0 env (First w before) on)
        (select_cases_mean own called term cases (source_means own called last other) 0 other (Second w after)
        following)
        (select_twin w word term cases marks scope at env other
        (pair.come_left c whole Claim t left w (select_bodies cases) (source_bodies last) env other come) envs
        (frames_left whole (select_plans of_context cases scope at) (rest ∷ []) all.1) picks.0 fit.0 (λ j. (typed j).0)
        P Q some (pair.join_left c whole Claim t left (select_plans of_context cases scope at) (rest ∷ []) P Q into)
        (source_means own called last env) (source_means own called last other) 0 before after on following twin
        (body_twin w last marks scope at env other
        (pair.come_right c whole Claim t left w (select_bodies cases) (source_bodies last) env other come) envs
        (frames_right whole (select_plans of_context cases scope at) (rest ∷ []) all.1).0 picks.1 fit.1
        (λ j. (typed j).1) P Q some (pair.join_last c whole Claim t left (select_plans of_context cases scope at) rest
        P Q into) before after on following twin))

    plural_twin : (w : Pair) (n m : ℤ) (cases : PluralCases) (marks : Marks) (scope : Scope) (at : Site)
        (env other : RunEnv) → AllCome w (plural_bodies cases) env other → Envs marks scope env other
        → AllFramesIn whole (plural_plans of_context cases scope at) → PluralPicks own cases marks
        → PluralFits c.translation cases → (Claim → PluralTyped around cases scope)
        → (P Q : List PathPart → Type 0) → HasSome P → AllJoin (plural_plans of_context cases scope at) P Q
        → (one two : Means) (k : ℕ) (before after : List Piece) (on following : StateSoFar → Outcome)
        → On w P on following
        → By w Q before after (one (First w before) on) (two (Second w after) following) →
        By w Q before after (plural_cases_mean own called n cases one k env (First w before) on)
        (plural_cases_mean own called m cases two k other (Second w after) following)
    plural_twin w n m no_plural_case marks scope at env other come envs frames picks fit typed P Q some into one two k
        before after on following twin others =
        twin_chosen c whole Claim (first w) (second w) Q before after (ArmTaken (Some k)) (one (First w before) on)
        (two (Second w after) following) others
    plural_twin w n m (plural_case z body cases) marks scope at env other come envs frames picks fit typed P Q some into
        one two k before after on following twin others =
        twin_if c whole Claim (first w) (second w) Q before after k (is_same_int z n) (is_same_int z m)
        (source_means own called body env (First w before) on)
        (source_means own called body other (Second w after) following)
        (plural_cases_mean own called n cases one (k + 1) env (First w before) on)
        (plural_cases_mean own called m cases two (k + 1) other (Second w after) following)
        (λ holds also. body_twin w body marks scope at env other
        (pair.come_left c whole Claim t left w (source_bodies body) (plural_bodies cases) env other come) envs frames.0
        picks.0 fit.0
        (λ j. (typed j).0) P Q some (into (body_plan of_context body scope at) (inl refl)) before after on following
        twin)
        (plural_from own called n cases env one (k + 1) (First w before) on)
        (plural_from own called m cases other two (k + 1) (Second w after) following)
        (plural_twin w n m cases marks scope at env other
        (pair.come_right c whole Claim t left w (source_bodies body) (plural_bodies cases) env other come) envs
        frames.1 picks.1 fit.1
        (λ j. (typed j).1) P Q some (λ r member. into r (inr member)) one two (k + 1) before after on following twin
        others)

    select_twin : (w : Pair) (word term : List ℕ) (cases : SelectCases) (marks : Marks) (scope : Scope) (at : Site)
        (env other : RunEnv) → AllCome w (select_bodies cases) env other → Envs marks scope env other
        → AllFramesIn whole (select_plans of_context cases scope at) → SelectPicks own cases marks
        → SelectFits c.translation cases → (Claim → SelectTyped around cases scope)
        → (P Q : List PathPart → Type 0) → HasSome P → AllJoin (select_plans of_context cases scope at) P Q
        → (one two : Means) (k : ℕ) (before after : List Piece) (on following : StateSoFar → Outcome)
        → On w P on following
        → By w Q before after (one (First w before) on) (two (Second w after) following) →
        By w Q before after (select_cases_mean own called word cases one k env (First w before) on)
        (select_cases_mean own called term cases two k other (Second w after) following)
    select_twin w word term no_select_case marks scope at env other come envs frames picks fit typed P Q some into one
        two k before after on following twin others =
        twin_chosen c whole Claim (first w) (second w) Q before after (ArmTaken (Some k)) (one (First w before) on)
        (two (Second w after) following) others
    select_twin w word term (select_case is body cases) marks scope at env other come envs frames picks fit typed P Q
        some into one two k before after on following twin others =
        twin_if c whole Claim (first w) (second w) Q before after k (bytes_eq is word) (bytes_eq is term)
        (source_means own called body env (First w before) on)
        (source_means own called body other (Second w after) following)
        (select_cases_mean own called word cases one (k + 1) env (First w before) on)
        (select_cases_mean own called term cases two (k + 1) other (Second w after) following)
        (λ holds also. body_twin w body marks scope at env other
        (pair.come_left c whole Claim t left w (source_bodies body) (select_bodies cases) env other come) envs frames.0
        picks.0 fit.0
        (λ j. (typed j).0) P Q some (into (body_plan of_context body scope at) (inl refl)) before after on following
        twin)
        (select_from own called word cases env one (k + 1) (First w before) on)
        (select_from own called term cases other two (k + 1) (Second w after) following)
        (select_twin w word term cases marks scope at env other
        (pair.come_right c whole Claim t left w (source_bodies body) (select_bodies cases) env other come) envs
        frames.1 picks.1 fit.1
        (λ j. (typed j).1) P Q some (λ r member. into r (inr member)) one two (k + 1) before after on following twin
        others)

  -- a frame begun with the variables of two runs
  pub frames_twin : (w : Pair) (marks : Marks) → Envs marks w.scope w.env w.other
      → IsFrameWithin whole w.kind (nodes_plan of_context w.body w.scope)
      → FramesIn whole (nodes_plan of_context w.body w.scope) → NodesPick own w.body marks
      → NodesFit c.translation w.body → (Claim → NodesTyped around w.body w.scope)
      → Twins c whole Claim (first w) (second w)
  frames_twin w marks envs within frames picks fit typed =
      pair.whole_twins c whole Claim t left w within
      (nodes_twin w w.body marks w.scope w.env w.other (at_first, at_first) envs frames picks fit typed (λ l. l ≡ [])
      (IsPath (nodes_plan of_context w.body w.scope)) ([], refl)
      (joins_end (nodes_plan of_context w.body w.scope)) [] [] at_end at_end
      (λ i j x y. twin_nothing c whole Claim (first w) (second w) x y))
