-- What a program gives for nodes is what they give, where the places are those of the holes.
use Rattle.std.proofs.Common.{◌≡◌, ◌+◌, ◌≤◌, ℕ, ℤ, pos, Bool, true, false, List, [], ◌∷◌, Option, Some, None, Ok}
use Rattle.std.proofs.Common.{◌++◌, if◌then◌else◌, map, subst, refl, sym, ap, ◌∙◌, arith, take}
use Rattle.html_state.specs.Start.{start}
use Rattle.std.specs.Prelude.{option_map}
use Rattle.soy_rules.specs.Bodies.{names_given}
use Rattle.soy_tree.specs.Expressions.{Expr}
use Rattle.soy_tree.specs.Nodes.{Arguments, Given, Message, Plain, Block, no_argument, argument, message}
use Rattle.soy_pieces.specs.Giving.{BoundBlock}
use Rattle.soy_pieces.specs.Outcome.{FallbackTranslation, OwnTranslation, SourceText, TextTaken}
use Rattle.soy_pieces.specs.Pieces.{ChosenText, GivenArguments, TheFallback, TheOwn, TheSource, arguments_mean}
use Rattle.soy_pieces.specs.Pieces.{callee_env}
use Rattle.soy_pieces.specs.Pieces.{chosen_text, given_means, message_means, opened_means, source_means}
use Rattle.soy_pieces.specs.Pieces.{translated_means}
use Rattle.soy_rules.specs.Placeholders.{uses_of}
use Rattle.soy_pieces.specs.Site.{starts_at}
use Rattle.template_ir.specs.Compiles.{StandsGiven, StandsHanded, StandsMessage, callee_number, handed_on_names}
use Rattle.template_ir.specs.Compiles.{params_there, same_handed}
use Rattle.template_ir.specs.HoleCounts.{given_holes}
use Rattle.template_ir.specs.Ops.{Handed, HandedBy, HandedBlock, HandedSame, HandedValue}
use Rattle.template_ir.specs.Run.{all_handed_give, category_in, handed_binding, handed_env, handed_gives}
use Rattle.template_ir.specs.Run.{kind_of_template}
use Rattle.template_ir.specs.Run.{opened_gives}
use Rattle.template_ir.specs.StandFor.{place_of}
use Rattle.template_ir.proofs.CallLaws.{HandsMatch, callee_match, called_same, hands_more, same_give}
use Rattle.template_ir.proofs.Core.{value_same}
use Rattle.template_ir.proofs.Matching.{Matches, val_match}
use Rattle.template_ir.proofs.PartLaws.{parts_law}
use Rattle.template_ir.specs.Placed.{ArgumentsPlaced, GivenPlaced, MessagePlaced, OpenedPlaced}
use Rattle.template_ir.proofs.SourceLaws.{source_law}
use Rattle.soy_tree.specs.Types.{Name}
use Rattle.soy_tree.specs.Values.{IntValue, Items, NullValue, Value, item, no_item}
use Rattle.soy_base.specs.declared.place.Place.{Place}
use Rattle.soy_rules.specs.Cost.{cost}
use Rattle.soy_tree.specs.Nodes.{Node, Nodes, Otherwise, Arms, Cases, TextNode, Print, If, Switch, For, Let, LetBlock}
use Rattle.soy_tree.specs.Nodes.{Call, MessageNode, no_node, node, no_otherwise, otherwise, no_arm, arm, no_case, case}
use Rattle.soy_rules.specs.Templates.{Declared, callee}
use Rattle.soy_rules.specs.Val.{Binding, Known, is_same_value, is_truthy, val}
use Rattle.soy_pieces.specs.Meaning.{bound_as}
use Rattle.soy_pieces.specs.Giving.{Means, RunEnv, StateSoFar, block_bound, with_choice, with_cost}
use Rattle.soy_pieces.specs.Outcome.{ArmTaken, Outcome, Turns, continued_by, gives_nothing}
use Rattle.soy_rules.specs.ShortLists.{item_count}
use Rattle.soy_pieces.specs.Pieces.{RunContext, arms_mean, at_end, cases_mean, frame_outcome, is_one}
use Rattle.soy_pieces.specs.Pieces.{listed_items, node_means, nodes_mean, otherwise_means, turns_mean, unbound, valued}
use Rattle.soy_pieces.specs.Pieces.{with_index}
use Rattle.soy_pieces.specs.Site.{Site}
use Rattle.soy_pieces.proofs.Outcomes.{first_followed, first_none, followed_joined, followed_nothing}
use Rattle.template_ir.specs.Compiles.{StandsArms, StandsCases, StandsNode, StandsNodes, StandsOther}
use Rattle.template_ir.specs.HoleCounts.{arm_holes, case_holes, node_holes, nodes_holes}
use Rattle.template_ir.specs.Ops.{Branch, Choice, ForOp, IfOp, LetBlockOp, Program, SwitchOp}
use Rattle.template_ir.specs.Run.{OpMeans, block_gives, bound_gives, branches_give, choices_give, one_step, ops_give}
use Rattle.template_ir.specs.Run.{rest_gives, turns_give}
use Rattle.template_ir.specs.declared.op.Block as code_block
use Rattle.template_ir.proofs.Core.{GoesOn, all_means, context, costed, free_step, from_here, let_law, op_first}
use Rattle.template_ir.proofs.Core.{print_law}
use Rattle.template_ir.proofs.Core.{text_law}
use Rattle.template_ir.proofs.GatheredTexts.{bound_match, bound_same}
use Rattle.template_ir.proofs.Forward.{nodes_forward}
use Rattle.template_ir.proofs.Matching.{EnvsMatch, cost_match, match_more, operand_match, truth_match}
use Rattle.template_ir.specs.Placed.{ArmsPlaced, CasesPlaced, NodePlaced, NodesPlaced, OtherPlaced, Picks, TurnsPlaced}
use Rattle.template_ir.proofs.Plain.{Same, plain, same_first, same_free}
use Rattle.soy_base.proofs.Tables.{part_none, part_take}

behind : {a b c : ℕ} → a ≤ b → b ≤ c → a ≤ c
behind h k = omega (arith, h, k)

picked : (t u : Bool) → t ≡ u → (X Y : Type 0) → Picks t X Y → (a b c d z : Outcome)
    → (X → Same a (continued_by c z)) → (Y → Same b (continued_by d z))
    → Same (if t then a else b) (continued_by (if u then c else d) z)
picked true true same X Y h a b c d z f g = f h
picked true false same X Y h a b c d z f g = let no : ⊥ = cc in absurd no
picked false true same X Y h a b c d z f g = let no : ⊥ = cc in absurd no
picked false false same X Y h a b c d z f g = g h

priced : (m n : ℕ) (a o z : Outcome) → m ≡ n → Same a (continued_by o z)
    → Same (with_cost m a) (continued_by (with_cost n o) z)
priced m n a o z h k =
    same_first (record { cost = m; work = 0; choices = [] }) (record { cost = n; work = 0; choices = [] }) a
    (continued_by o z) h k
    ∙ ap plain (sym (first_followed (record { cost = n; work = 0; choices = [] }) o z))

-- whether a value is one of some, under variables that match
one_match : (env other : RunEnv) → EnvsMatch env other → (v : Value) (es : List Expr)
    → is_one v es env ≡ is_one v es other
one_match env other all v [] = refl
one_match env other all v (e ∷ es) =
    ap (λ w. if is_same_value v w then (true, cost e env) else ((is_one v es env).0, cost e env + (is_one v es env).1))
    (operand_match env other all e)
    ∙ (ap (λ n. if is_same_value v (valued e other) then (true, n)
    else ((is_one v es env).0, n + (is_one v es env).1)) (cost_match env other all e)
    ∙ ap (λ r. if is_same_value v (valued e other) then (true, cost e other) else (r.0, cost e other + r.1))
    (one_match env other all v es))

turn_match : (name : Name) (index : Option Name) (n : ℕ) (v : Value) (env other : RunEnv) → EnvsMatch env other
    → EnvsMatch (with_index index n ((name, Known v) ∷ env)) (with_index index n ((name, Known v) ∷ other))
turn_match name None n v env other all = match_more name (Known v) (Known v) env other refl all
turn_match name (Some index) n v env other all =
    match_more index (Known (IntValue (pos n))) (Known (IntValue (pos n))) ((name, Known v) ∷ env)
    ((name, Known v) ∷ other) refl (match_more name (Known v) (Known v) env other refl all)

-- a body for each item
turns_same : (body : RunEnv → Means) (block : RunEnv → Outcome) (name : Name) (index : Option Name)
    (Body : RunEnv → StateSoFar → (StateSoFar → Type 0) → Type 0)
    → ((inner within : RunEnv) → EnvsMatch inner within → (now : StateSoFar) (on : StateSoFar → Outcome)
    (Next : StateSoFar → Type 0) (z : Outcome) → Body inner now Next → ((past : StateSoFar) → Next past → Same (on
    past) z)
    → Same (body inner now on) (continued_by (block within) z))
    → (env other : RunEnv) → EnvsMatch env other → (n : ℕ) (items : Items) (so_far : StateSoFar)
    (on : StateSoFar → Outcome) (Next : StateSoFar → Type 0) (z : Outcome)
    → TurnsPlaced Body name index env n items so_far Next → ((past : StateSoFar) → Next past → Same (on past) z)
    → Same (turns_mean body name index env n items so_far on) (continued_by (turns_give block name index other n
    items) z)
turns_same body block name index Body bodies env other all n no_item so_far on Next z placed next =
    next so_far placed ∙ sym (same_free (one_step 0) z refl)
turns_same body block name index Body bodies env other all n (item v vs) so_far on Next z placed next =
    let inner : RunEnv = with_index index n ((name, Known v) ∷ env) in
    let within : RunEnv = with_index index n ((name, Known v) ∷ other) in
    let rest : Outcome = turns_give block name index other (n + 1) vs in
    free_step (body inner so_far (λ now. turns_mean body name index env (n + 1) vs now on))
    (continued_by (block within) rest) z
    (bodies inner within (turn_match name index n v env other all) so_far
    (λ now. turns_mean body name index env (n + 1) vs now on)
    (λ now. TurnsPlaced Body name index env (n + 1) vs now Next) (continued_by rest z) placed
    (λ past h. turns_same body block name index Body bodies env other all (n + 1) vs past on Next z h next)
    ∙ ap plain (sym (followed_joined (block within) rest z)))

module _ (c : RunContext) (p : Program) (places : List Place) (called : Site → Declared → RunEnv → Outcome)
    (opens : Site → ℕ → RunEnv → Outcome) (Opened : ℕ → RunEnv → Type 0)
    (direction : p.direction ≡ c.direction)
    (categories : (ordinal : Bool) (n : ℤ) → category_in p ordinal n ≡ c.category ordinal n)
    (kinds : (name : Name) → kind_of_template p (callee_number c.declared c.namespace name)
    ≡ option_map (λ (d : Declared). d.template.kind) (callee c.declared c.namespace name))
    (calls : (at : Site) (name : Name) (d : Declared) → callee c.declared c.namespace name ≡ Some d
    → (env other : RunEnv) → EnvsMatch env other → Opened (callee_number c.declared c.namespace name) env
    → Same (called at d env) (opens at (callee_number c.declared c.namespace name) other)) where
  opened_law : (name : Name) (arguments : GivenArguments) (inner : RunEnv) → HandsMatch arguments inner
      → (same : List Name) (given : Bool) (hole : ℕ) (env other : RunEnv) → EnvsMatch env other → (ms : List OpMeans)
      (site : Site) (so_far : StateSoFar) (on : StateSoFar → Outcome) (Next : StateSoFar → Type 0) (z : Outcome)
      (found : Option Declared) → callee c.declared c.namespace name ≡ found
      → OpenedPlaced c places called Opened site found (callee_number c.declared c.namespace name) same arguments given
      env hole so_far Next
      → ((now : StateSoFar) → Next now → Same (on now) z)
      → Same (opened_means c called site found arguments given env so_far on)
      (continued_by (opened_gives p.direction (place_of places hole)
      (kind_of_template p (callee_number c.declared c.namespace name))
      (opens site (callee_number c.declared c.namespace name) (handed_env ms (map same_handed same) other inner))) z)
  opened_law name arguments inner hands same given hole env other all ms site so_far on Next z None is placed next =
      value_same c p places called opens Opened direction NullValue hole so_far on Next z placed next
      ∙ ap (λ k. plain (continued_by (opened_gives p.direction (place_of places hole) k
      (opens site (callee_number c.declared c.namespace name) (handed_env ms (map same_handed same) other inner))) z))
      (sym (kinds name ∙ ap (λ f. option_map (λ (d : Declared). d.template.kind) f) is))
  opened_law name arguments inner hands same given hole env other all ms site so_far on Next z (Some d) is placed next =
      let within : RunEnv = callee_env d.template.params arguments given c.params env in
      called_same c p places called opens Opened direction d.template.kind (called site d within) _
      (calls site name d is within (handed_env ms (map same_handed same) other inner)
      (callee_match ms same arguments env other inner within all hands placed.0) placed.1) hole so_far on Next
      z placed.2 next
      ∙ ap (λ k. plain (continued_by (opened_gives p.direction (place_of places hole) k
      (opens site (callee_number c.declared c.namespace name) (handed_env ms (map same_handed same) other inner))) z))
      (sym (kinds name ∙ ap (λ f. option_map (λ (d : Declared). d.template.kind) f) is))

  -- at the end of a block
  block_end : (end : ℕ) (k : ℤ) (other : RunEnv) (a z : Outcome) → Same a z
      → Same a (from_here c p places called opens Opened direction end end k other z)
  block_end end k other a z h =
      h ∙ (sym (same_free (one_step 0) z refl)
      ∙ ap (λ ms. plain (continued_by (ops_give ms k other) z))
      (sym (part_none (all_means c p places called opens Opened direction) end end (omega arith))))

  -- a body as a block, where its nodes go on as its ops do
  block_of : (b : code_block.Block) (before : ℕ) → b.end ≤ before → (other : RunEnv) (a z : Outcome)
      → Same a (from_here c p places called opens Opened direction b.first b.end (pos 0) other z)
      → Same a
      (continued_by (block_gives (take before (all_means c p places called opens Opened direction)) b (pos 0) other) z)
  block_of b before l other a z h =
      h
      ∙ ap (λ ms. plain (continued_by (ops_give ms (pos 0) other) z))
      (sym (part_take (all_means c p places called opens Opened direction) before b.first b.end l))

  mutual
    pub node_law : (n : Node) → (hole at past : ℕ)
        → StandsNode (context c p places called opens Opened direction) n hole at past
        → (end : ℕ) (rest : Outcome) → past ≤ end → (env other : RunEnv) → EnvsMatch env other
        → (so_far : StateSoFar) (next : RunEnv → StateSoFar → Outcome) (Next : RunEnv → StateSoFar → Type 0)
        → NodePlaced c places called Opened n hole env so_far Next
        → GoesOn c p places called opens Opened direction Next next past end (pos 0) rest
        → Same (node_means c called n env so_far next)
        (from_here c p places called opens Opened direction at end (pos 0) other rest)
    node_law (TextNode text span) hole at past h end rest l env other all so_far next Next placed goes =
        text_law c p places called opens Opened direction text at past end (pos 0) rest h l other so_far (next env)
        (Next env)
        placed (λ now x. goes env other now all x)
    node_law (Print e phname span) hole at past h end rest l env other all so_far next Next placed goes =
        print_law c p places called opens Opened direction e hole at past end (pos 0) rest h l env other all so_far
        (next env)
        (Next env) placed (λ now x. goes env other now all x)
    node_law (Let name e span) hole at past h end rest l env other all so_far next Next placed goes =
        let_law c p places called opens Opened direction name e at past end (pos 0) rest h l env other all so_far next
        Next
        placed goes
    node_law (If arms last span) hole at past h end rest l env other all so_far next Next placed goes =
        let z : Outcome = from_here c p places called opens Opened direction past end (pos 0) other rest in
        free_step (node_means c called (If arms last span) env so_far next)
        (branches_give (take at (all_means c p places called opens Opened direction)) h.0 h.1 other) z
        (arms_law arms h.0 hole at h.2 h.1 0 env other all so_far (next env) (Next env) z
        (λ j. otherwise_means c called last j env)
        (OtherPlaced c places called Opened last (hole + arm_holes c.translation arms) env so_far (Next env))
        (λ j x. other_law last h.1 (hole + arm_holes c.translation arms) at h.3 j env other all so_far (next env)
        (Next env) z x (λ now y. goes env other now all y)) placed (λ now x. goes env other now all x))
        ∙ ap plain (sym (op_first c p places called opens Opened direction (IfOp h.0 h.1) at past end (pos 0) other
        rest h.4 l))
    node_law (Switch e cases last span) hole at past h end rest l env other all so_far next Next placed goes =
        let z : Outcome = from_here c p places called opens Opened direction past end (pos 0) other rest in
        let ms : List OpMeans = take at (all_means c p places called opens Opened direction) in
        costed (cost e env) (cost e other)
        (cases_mean c called (valued e env) cases (λ j. otherwise_means c called last j env) 0 env so_far (next env))
        (choices_give ms (valued e other) h.0 h.1 other) z (cost_match env other all e)
        (cases_law (valued e env) (valued e other) (operand_match env other all e) cases h.0 hole at h.2 h.1 0 env
        other all so_far (next env) (Next env) z (λ j. otherwise_means c called last j env)
        (OtherPlaced c places called Opened last (hole + case_holes c.translation cases) env so_far (Next env))
        (λ j x. other_law last h.1 (hole + case_holes c.translation cases) at h.3 j env other all so_far
        (next env) (Next env) z x (λ now y. goes env other now all y)) placed (λ now x. goes env other now all x))
        ∙ ap plain
        (sym (op_first c p places called opens Opened direction (SwitchOp e h.0 h.1) at past end (pos 0) other rest
        h.4 l))
    node_law (For name index e body span) hole at past h end rest l env other all so_far next Next placed goes =
        let z : Outcome = from_here c p places called opens Opened direction past end (pos 0) other rest in
        let ms : List OpMeans = take at (all_means c p places called opens Opened direction) in
        let turns : Outcome = turns_mean (λ inner now after. nodes_mean c called body inner now (unbound after)) name
        index
        env 0 (listed_items (valued e env)) so_far (next env) in
        costed (cost e env) (cost e other) (with_choice (Turns (item_count (listed_items (valued e env)))) turns)
        (turns_give (block_gives ms h.0 (pos 0)) name index other 0 (listed_items (valued e other))) z
        (cost_match env other all e)
        (same_free (record { cost = 0; work = 1; choices = Turns (item_count (listed_items (valued e env))) ∷ [] })
        turns
        refl
        ∙ (turns_same (λ inner now after. nodes_mean c called body inner now (unbound after))
        (block_gives ms h.0 (pos 0)) name index
        (λ inner now After. NodesPlaced c places called Opened body hole inner now (λ within past. After past))
        (λ inner within same now on After y here more.
        block_of h.0 at h.1 within (nodes_mean c called body inner now (unbound on)) y
        (nodes_law body hole h.0.first h.0.end h.2 h.0.end y (omega arith) inner within same now (unbound on)
        (λ u v. After v) here (λ u v x s w. block_end h.0.end (pos 0) v (on x) y (more x w))))
        env other all 0 (listed_items (valued e env)) so_far (next env) (Next env) z placed
        (λ now x. goes env other now all x)
        ∙ ap (λ v. plain (continued_by (turns_give (block_gives ms h.0 (pos 0)) name index other 0 (listed_items v)) z))
        (operand_match env other all e)))
        ∙ ap plain
        (sym (op_first c p places called opens Opened direction (ForOp name index e h.0) at past end (pos 0) other
        rest h.3 l))
    node_law (LetBlock name kind body span) hole at past h end rest l env other all so_far next Next placed goes =
        let ms : List OpMeans = take at (all_means c p places called opens Opened direction) in
        let block : Outcome = block_gives ms h.0 (pos 0) other in
        let frame : Outcome = frame_outcome c called kind body env in
        let same : Same frame block =
        block_of h.0 at h.1 other frame gives_nothing
        (nodes_law body hole h.0.first h.0.end h.2 h.0.end gives_nothing (omega arith) env other all
        (Ok (start kind)) at_end (λ u v. Unit {0}) placed.0
        (λ u v x s w. block_end h.0.end (pos 0) v gives_nothing gives_nothing refl))
        ∙ ap plain (followed_nothing block) in
        let z : Outcome = from_here c p places called opens Opened direction past end (pos 0)
        ((name, bound_as kind block) ∷ other) rest in
        free_step (block_bound kind frame (λ bound. next ((name, bound) ∷ env) so_far)) (bound_gives kind block) z
        (bound_same kind frame block same (λ bound. next ((name, bound) ∷ env) so_far) z
        (Next ((name, bound_as kind frame) ∷ env) so_far) placed.1
        (λ x. goes ((name, bound_as kind frame) ∷ env) ((name, bound_as kind block) ∷ other) so_far
        (match_more name (bound_as kind frame) (bound_as kind block) env other (bound_match kind frame block same)
        all) x))
        ∙ ap plain
        (sym (op_first c p places called opens Opened direction (LetBlockOp name kind h.0) at past end (pos 0) other
        rest h.3 l))
    node_law (Call name given handed span) hole at past h end rest l env other all so_far next Next placed goes =
        let ms : List OpMeans = take at (all_means c p places called opens Opened direction) in
        let z : Outcome = from_here c p places called opens Opened direction past end (pos 0) other rest in
        let number : ℕ = callee_number c.declared c.namespace name in
        let found : Option Declared = callee c.declared c.namespace name in
        let same : List Name = handed_on_names given c.params (names_given handed) (params_there found) in
        let site : Site = starts_at c.file span in
        free_step (node_means c called (Call name given handed span) env so_far next) _ z
        (arguments_law handed h.0 same (hole + 1) at h.1 [] [] (λ x. refl) env other all
        (λ arguments. opened_means c called site found arguments given env so_far (next env))
        (λ arguments. OpenedPlaced c places called Opened site found number same arguments given env hole so_far (Next
        env))
        (λ inner. continued_by (opened_gives p.direction (place_of places hole) (kind_of_template p number)
        (opens site number inner)) z) placed
        (λ arguments inner hands x. opened_law name arguments inner hands same given hole env other all ms site so_far
        (next env) (Next env) z found refl x (λ now y. goes env other now all y))
        ∙ ap plain (sym (followed_joined (all_handed_give ms h.0 other) _ z)))
        ∙ ap plain (sym (op_first c p places called opens Opened direction _ at past end (pos 0) other rest h.2 l))
    node_law (MessageNode m last span) hole at past h end rest l env other all so_far next Next placed goes =
        message_law m (chosen_text c.translation m last) hole at past h end rest l env other all so_far (next env)
        (Next env) placed (λ now x. goes env other now all x)

    pub nodes_law : (ns : Nodes) → (hole at past : ℕ)
        → StandsNodes (context c p places called opens Opened direction) ns hole at past
        → (end : ℕ) (rest : Outcome) → past ≤ end → (env other : RunEnv) → EnvsMatch env other
        → (so_far : StateSoFar) (next : RunEnv → StateSoFar → Outcome) (Next : RunEnv → StateSoFar → Type 0)
        → NodesPlaced c places called Opened ns hole env so_far Next
        → GoesOn c p places called opens Opened direction Next next past end (pos 0) rest
        → Same (nodes_mean c called ns env so_far next)
        (from_here c p places called opens Opened direction at end (pos 0) other rest)
    nodes_law no_node hole at past h end rest l env other all so_far next Next placed goes =
        goes env other so_far all placed
        ∙ ap (λ n. plain (from_here c p places called opens Opened direction n end (pos 0) other rest)) h
    nodes_law (node n ns) hole at past h end rest l env other all so_far next Next placed goes =
        node_law n hole at h.0 h.1 end rest (behind (nodes_forward (context c p places called opens Opened direction)
        ns (hole + node_holes c.translation n) h.0 past h.2) l) env other all so_far
        (λ inner now. nodes_mean c called ns inner now next)
        (λ inner now. NodesPlaced c places called Opened ns (hole + node_holes c.translation n) inner now Next) placed
        (λ inner within now same x. nodes_law ns (hole + node_holes c.translation n) h.0 past h.2 end rest l
        inner within same now next Next x goes)

    other_law : (last : Otherwise) → (b : Option code_block.Block) (hole before : ℕ)
        → StandsOther (context c p places called opens Opened direction) last b hole before
        → (k : ℕ) (env other : RunEnv) → EnvsMatch env other
        → (so_far : StateSoFar) (on : StateSoFar → Outcome) (Next : StateSoFar → Type 0) (z : Outcome)
        → OtherPlaced c places called Opened last hole env so_far Next
        → ((now : StateSoFar) → Next now → Same (on now) z)
        → Same (otherwise_means c called last k env so_far on)
        (continued_by (rest_gives (take before (all_means c p places called opens Opened direction)) b other) z)
    other_law no_otherwise None hole before h k env other all so_far on Next z placed next =
        same_free (record { cost = 0; work = 1; choices = ArmTaken None ∷ [] }) (on so_far) refl
        ∙ (next so_far placed ∙ ap plain (sym (first_none z)))
    other_law no_otherwise (Some b) hole before h k env other all so_far on Next z placed next = absurd h
    other_law (otherwise body) None hole before h k env other all so_far on Next z placed next = absurd h
    other_law (otherwise body) (Some b) hole before h k env other all so_far on Next z placed next =
        same_free (record { cost = 0; work = 1; choices = ArmTaken (Some k) ∷ [] })
        (nodes_mean c called body env so_far (unbound on)) refl
        ∙ block_of b before h.0 other (nodes_mean c called body env so_far (unbound on)) z
        (nodes_law body hole b.first b.end h.1 b.end z (omega arith) env other all so_far (unbound on)
        (λ inner now. Next now) placed
        (λ inner within now same x. block_end b.end (pos 0) within (on now) z (next now x)))

    arms_law : (arms : Arms) → (branches : List Branch) (hole before : ℕ)
        → StandsArms (context c p places called opens Opened direction) arms branches hole before
        → (b : Option code_block.Block) (k : ℕ) (env other : RunEnv) → EnvsMatch env other
        → (so_far : StateSoFar) (on : StateSoFar → Outcome) (Next : StateSoFar → Type 0) (z : Outcome)
        → (last : ℕ → Means) (Last : Type 0)
        → ((j : ℕ) → Last → Same (last j so_far on)
        (continued_by (rest_gives (take before (all_means c p places called opens Opened direction)) b other) z))
        → ArmsPlaced c places called Opened arms Last hole env so_far Next
        → ((now : StateSoFar) → Next now → Same (on now) z)
        → Same (arms_mean c called arms last k env so_far on)
        (continued_by (branches_give (take before (all_means c p places called opens Opened direction)) branches b
        other)
        z)
    arms_law no_arm [] hole before h b k env other all so_far on Next z last Last lasts placed next =
        lasts k placed
    arms_law no_arm (x ∷ branches) hole before h b k env other all so_far on Next z last Last lasts placed next =
        absurd h
    arms_law (arm e body arms) [] hole before h b k env other all so_far on Next z last Last lasts placed next =
        absurd h
    arms_law (arm e body arms) (x ∷ branches) hole before h b k env other all so_far on Next z last Last lasts
        placed next =
        let ms : List OpMeans = take before (all_means c p places called opens Opened direction) in
        let taken : Outcome = nodes_mean c called body env so_far (unbound on) in
        priced (cost e env) (cost x.when other)
        (if is_truthy (val e env) then with_choice (ArmTaken (Some k)) taken
        else arms_mean c called arms last (k + 1) env so_far on)
        (if is_truthy (val x.when other) then block_gives ms x.body (pos 0) other
        else branches_give ms branches b other) z
        (cost_match env other all e ∙ ap (λ d. cost d other) (sym h.0))
        (picked (is_truthy (val e env)) (is_truthy (val x.when other))
        (truth_match env other all e ∙ ap (λ d. is_truthy (val d other)) (sym h.0)) _ _ placed
        (with_choice (ArmTaken (Some k)) taken) (arms_mean c called arms last (k + 1) env so_far on)
        (block_gives ms x.body (pos 0) other) (branches_give ms branches b other) z
        (λ here. same_free (record { cost = 0; work = 1; choices = ArmTaken (Some k) ∷ [] }) taken refl
        ∙ block_of x.body before h.1 other taken z
        (nodes_law body hole x.body.first x.body.end h.2 x.body.end z (omega arith) env other all so_far
        (unbound on) (λ inner now. Next now) here
        (λ inner within now same y. block_end x.body.end (pos 0) within (on now) z (next now y))))
        (λ there. arms_law arms branches (hole + nodes_holes c.translation body) before h.3 b (k + 1) env other
        all so_far on Next z last Last lasts there next))

    cases_law : (v w : Value) → v ≡ w → (cases : Cases) → (choices : List Choice)
        (hole before : ℕ)
        → StandsCases (context c p places called opens Opened direction) cases choices hole before
        → (b : Option code_block.Block) (k : ℕ) (env other : RunEnv) → EnvsMatch env other
        → (so_far : StateSoFar) (on : StateSoFar → Outcome) (Next : StateSoFar → Type 0) (z : Outcome)
        → (last : ℕ → Means) (Last : Type 0)
        → ((j : ℕ) → Last → Same (last j so_far on)
        (continued_by (rest_gives (take before (all_means c p places called opens Opened direction)) b other) z))
        → CasesPlaced c places called Opened v cases Last hole env so_far Next
        → ((now : StateSoFar) → Next now → Same (on now) z)
        → Same (cases_mean c called v cases last k env so_far on)
        (continued_by (choices_give (take before (all_means c p places called opens Opened direction)) w choices b
        other)
        z)
    cases_law v w same no_case [] hole before h b k env other all so_far on Next z last Last lasts placed next =
        lasts k placed
    cases_law v w same no_case (x ∷ choices) hole before h b k env other all so_far on Next z last Last lasts placed
        next = absurd h
    cases_law v w same (case es body cases) [] hole before h b k env other all so_far on Next z last Last lasts
        placed next = absurd h
    cases_law v w same (case es body cases) (x ∷ choices) hole before h b k env other all so_far on Next z last
        Last lasts placed next =
        let ms : List OpMeans = take before (all_means c p places called opens Opened direction) in
        let taken : Outcome = nodes_mean c called body env so_far (unbound on) in
        let tested : is_one v es env ≡ is_one w x.values other =
        one_match env other all v es
        ∙ (ap (λ u. is_one u es other) same ∙ ap (λ values. is_one w values other) (sym h.0)) in
        priced (is_one v es env).1 (is_one w x.values other).1
        (if (is_one v es env).0 then with_choice (ArmTaken (Some k)) taken
        else cases_mean c called v cases last (k + 1) env so_far on)
        (if (is_one w x.values other).0 then block_gives ms x.body (pos 0) other
        else choices_give ms w choices b other) z (ap (λ r. r.1) tested)
        (picked (is_one v es env).0 (is_one w x.values other).0 (ap (λ r. r.0) tested) _ _ placed
        (with_choice (ArmTaken (Some k)) taken) (cases_mean c called v cases last (k + 1) env so_far on)
        (block_gives ms x.body (pos 0) other) (choices_give ms w choices b other) z
        (λ here. same_free (record { cost = 0; work = 1; choices = ArmTaken (Some k) ∷ [] }) taken refl
        ∙ block_of x.body before h.1 other taken z
        (nodes_law body hole x.body.first x.body.end h.2 x.body.end z (omega arith) env other all so_far
        (unbound on) (λ inner now. Next now) here
        (λ inner within now same y. block_end x.body.end (pos 0) within (on now) z (next now y))))
        (λ there. cases_law v w same cases choices (hole + nodes_holes c.translation body) before h.3 b (k + 1)
        env other all so_far on Next z last Last lasts there next))

    message_law : (m : Message) (chosen : ChosenText) (hole at past : ℕ)
        → StandsMessage (context c p places called opens Opened direction) chosen m hole at past
        → (end : ℕ) (rest : Outcome) → past ≤ end → (env other : RunEnv) → EnvsMatch env other
        → (so_far : StateSoFar) (on : StateSoFar → Outcome) (Next : StateSoFar → Type 0)
        → MessagePlaced c places called Opened chosen m hole env so_far Next
        → ((now : StateSoFar) → Next now
        → Same (on now) (from_here c p places called opens Opened direction past end (pos 0) other rest))
        → Same (message_means c called chosen m env so_far on)
        (from_here c p places called opens Opened direction at end (pos 0) other rest)
    message_law (message desc meaning body span) TheSource hole at past h end rest l env other all so_far on Next placed
        next =
        same_free (record { cost = 0; work = 1; choices = TextTaken SourceText ∷ [] })
        (source_means c called body env so_far on) refl
        ∙ source_law c p places called opens Opened direction env other all body hole at past h end (pos 0) rest l
        so_far on
        Next placed next
    message_law (message desc meaning body span) (TheOwn parts) hole at past h end rest l env other all so_far on Next
        placed next =
        same_free (record { cost = 0; work = 1; choices = TextTaken OwnTranslation ∷ [] })
        (translated_means c called env (message desc meaning body span) parts so_far on) refl
        ∙ parts_law c p places called opens Opened direction categories (uses_of (message desc meaning body span)) env
        other
        all parts _ at past h end (pos 0) rest l so_far on Next placed next
    message_law (message desc meaning body span) (TheFallback m parts) hole at past h end rest l env other all so_far on
        Next placed next =
        same_free (record { cost = 0; work = 1; choices = TextTaken FallbackTranslation ∷ [] })
        (translated_means c called env m parts so_far on) refl
        ∙ parts_law c p places called opens Opened direction categories (uses_of m) env other all parts _ at past h end
        (pos 0) rest l so_far on Next placed next

    arguments_law : (given : Arguments) (handed : List Handed) (same : List Name) (hole before : ℕ)
        → StandsGiven (context c p places called opens Opened direction) given same handed hole before
        → (so : GivenArguments) (inner : RunEnv) → HandsMatch so inner → (env other : RunEnv) → EnvsMatch env other
        → (next : GivenArguments → Outcome) (Next : GivenArguments → Type 0) (Z : RunEnv → Outcome)
        → ArgumentsPlaced c places called Opened given so hole env Next
        → ((all_given : GivenArguments) (within : RunEnv) → HandsMatch all_given within → Next all_given
        → Same (next all_given) (Z (handed_env (take before (all_means c p places called opens Opened direction))
        (map same_handed same) other within)))
        → Same (arguments_mean c called given so env next)
        (continued_by (all_handed_give (take before (all_means c p places called opens Opened direction)) handed other)
        (Z (handed_env (take before (all_means c p places called opens Opened direction)) handed other inner)))
    arguments_law no_argument handed same hole before h so inner hands env other all next Next Z placed goes =
        let ms : List OpMeans = take before (all_means c p places called opens Opened direction) in
        goes so inner hands placed
        ∙ (ap (λ hs. plain (Z (handed_env ms hs other inner))) (sym h)
        ∙ (ap plain (sym (first_none (Z (handed_env ms handed other inner))))
        ∙ (ap (λ o. plain (continued_by o (Z (handed_env ms handed other inner)))) (sym (same_give ms same other))
        ∙ ap (λ hs. plain (continued_by (all_handed_give ms hs other) (Z (handed_env ms handed other inner)))) (sym
        h))))
    arguments_law (argument name given span more) [] same hole before h so inner hands env other all next Next Z placed
        goes = absurd h
    arguments_law (argument name given span more) (x ∷ handed) same hole before h so inner hands env other all next
        Next Z
        placed goes =
        let ms : List OpMeans = take before (all_means c p places called opens Opened direction) in
        let bound : Binding BoundBlock = handed_binding ms x.name x.by other in
        given_law given x.name x.by hole before h.1 env other all
        (λ a. arguments_mean c called more (so ++ ((name, a) ∷ [])) env next)
        (λ a. ArgumentsPlaced c places called Opened more (so ++ ((name, a) ∷ [])) (hole + given_holes c.translation
        given)
        env Next)
        (continued_by (all_handed_give ms handed other) (Z (handed_env ms handed other ((x.name, bound) ∷ inner))))
        placed.1
        (λ a matched y. arguments_law more handed same (hole + given_holes c.translation given) before h.2
        (so ++ ((name, a) ∷ [])) ((x.name, bound) ∷ inner)
        (subst (λ n. HandsMatch (so ++ ((name, a) ∷ [])) ((n, bound) ∷ inner)) (sym h.0)
        (hands_more name a bound so inner matched hands placed.0)) env other all next Next Z y goes)
        ∙ ap plain (sym (followed_joined (handed_gives ms x.by other) (all_handed_give ms handed other)
        (Z (handed_env ms handed other ((x.name, bound) ∷ inner)))))

    given_law : (given : Given) (name : Name) (by : HandedBy) (hole before : ℕ)
        → StandsHanded (context c p places called opens Opened direction) given by hole before
        → (env other : RunEnv) → EnvsMatch env other
        → (next : Binding BoundBlock → Outcome) (Next : Binding BoundBlock → Type 0) (z : Outcome)
        → GivenPlaced c places called Opened given hole env Next
        → ((a : Binding BoundBlock) → Matches a
        (handed_binding (take before (all_means c p places called opens Opened direction)) name by other)
        → Next a → Same (next a) z)
        → Same (given_means c called given env next)
        (continued_by (handed_gives (take before (all_means c p places called opens Opened direction)) by other) z)
    given_law (Plain e) name (HandedValue d) hole before h env other all next Next z placed goes =
        priced (cost e env) (cost d other) (next (val e env)) gives_nothing z
        (cost_match env other all e ∙ ap (λ x. cost x other) (sym h))
        (goes (val e env) (subst (λ x. Matches (val e env) (val x other)) (sym h) (val_match env other all e)) placed
        ∙ ap plain (sym (first_none z)))
    given_law (Plain e) name (HandedBlock of b) hole before h env other all next Next z placed goes = absurd h
    given_law (Plain e) name HandedSame hole before h env other all next Next z placed goes = absurd h
    given_law (Block kind body) name (HandedValue d) hole before h env other all next Next z placed goes = absurd h
    given_law (Block kind body) name HandedSame hole before h env other all next Next z placed goes = absurd h
    given_law (Block kind body) name (HandedBlock of b) hole before h env other all next Next z placed goes =
        let ms : List OpMeans = take before (all_means c p places called opens Opened direction) in
        let block : Outcome = block_gives ms b (pos 0) other in
        let frame : Outcome = frame_outcome c called kind body env in
        let same : Same frame block =
        block_of b before h.1 other frame gives_nothing
        (nodes_law body hole b.first b.end h.2 b.end gives_nothing (omega arith) env other all (Ok (start kind)) at_end
        (λ u v. Unit {0}) placed.0 (λ u v x s w. block_end b.end (pos 0) v gives_nothing gives_nothing refl))
        ∙ ap plain (followed_nothing block) in
        bound_same kind frame block same next z (Next (bound_as kind frame)) placed.1
        (λ x. goes (bound_as kind frame)
        (subst (λ k. Matches (bound_as kind frame) (bound_as k block)) (sym h.0) (bound_match kind frame block same)) x)
        ∙ ap (λ k. plain (continued_by (bound_gives k block) z)) (sym h.0)
