-- What nodes give is alike where the choices are the same.
use Rattle.std.proofs.Common.{◌≡◌, ℕ, ◌+◌, ℤ, pos, Bool, true, List, [], ◌∷◌, ◌++◌, Option, Some, None, Ok}
use Rattle.std.proofs.Common.{if◌then◌else◌}
use Rattle.std.proofs.Common.{refl, sym, ap, ◌∙◌, subst, arith, append_assoc, bytes_eq}
use Rattle.std.proofs.lemmas.List.{append-nil}
use Rattle.soy_base.specs.declared.kind.Kind.{Kind}
use Rattle.html_state.specs.Start.{start}
use Rattle.soy_tree.specs.Types.{Name}
use Rattle.soy_rules.specs.Cost.{cost}
use Rattle.soy_tree.specs.MessageParts.{MsgParts}
use Rattle.soy_tree.specs.Nodes.{Node, Nodes, Otherwise, Arms, Cases, Arguments, Given, Message, Fallback, MessageBody}
use Rattle.soy_tree.specs.Nodes.{PluralCases, SelectCases, TextNode, Print, If, Switch, For, Let, LetBlock, Call}
use Rattle.soy_tree.specs.Nodes.{MessageNode, no_node, node, no_otherwise, otherwise, no_arm, arm, no_case, case}
use Rattle.soy_tree.specs.Nodes.{no_argument, argument, Plain, Block, message, no_fallback, fallback, Parts, Plural}
use Rattle.soy_tree.specs.Nodes.{Select, no_plural_case, plural_case, no_select_case, select_case}
use Rattle.soy_rules.specs.Templates.{Declared, callee}
use Rattle.soy_rules.specs.Val.{Binding, Known, is_same_int, is_truthy, val}
use Rattle.soy_tree.specs.Values.{Items, NullValue, Value, item, no_item}
use Rattle.soy_pieces.specs.Branch.{int_of, word_of}
use Rattle.soy_meaning.specs.Runs.EqualChoices.{AlikeByChoices, BindingsAlike, BlocksAlike, EnvsAlike}
use Rattle.soy_pieces.specs.Giving.{BoundBlock, Means, RunEnv, StateSoFar, printed_means, with_choice}
use Rattle.soy_pieces.specs.Outcome.{ArmTaken, ChoiceMade, FallbackTranslation, Outcome, OwnTranslation, SourceText}
use Rattle.soy_pieces.specs.Outcome.{TextTaken, Turns, choices_of_outcome, gives_nothing}
use Rattle.soy_meaning.specs.Runs.PicksValues.{ArgumentsPick, ArmsPick, BodyPicks, CasesPick, FallbackPicks, GivenPicks}
use Rattle.soy_meaning.specs.Runs.PicksValues.{Marks, NodePicks, NodesPick, OtherPicks, PluralPicks, SelectPicks}
use Rattle.soy_meaning.specs.Runs.PicksValues.{argument_marks, callee_takes, given_mark, marks_past, may_give_block}
use Rattle.soy_meaning.specs.Runs.PicksValues.{param_marks, turn_marks, uses_pick}
use Rattle.soy_pieces.specs.Pieces.{GivenArguments, RunContext, TheSource, arguments_mean, arms_mean, at_end}
use Rattle.soy_pieces.specs.Pieces.{callee_env, cases_mean, chosen_after, chosen_of, fallback_text}
use Rattle.soy_rules.specs.ShortLists.{item_count}
use Rattle.soy_pieces.specs.Pieces.{given_means, is_one, listed_items, message_means, node_means}
use Rattle.soy_pieces.specs.Pieces.{nodes_mean, opened_means, otherwise_means, plural_cases_mean}
use Rattle.soy_pieces.specs.Pieces.{select_cases_mean, source_means, translated_means, turns_mean, unbound, valued}
use Rattle.soy_pieces.specs.Pieces.{with_index}
use Rattle.soy_pieces.specs.Site.{Site}
use Rattle.soy_rules.specs.Placeholders.{uses_of}
use Rattle.soy_pieces.specs.Site.{starts_at}
use Rattle.soy_meaning.specs.Walks.States.{IsMember}
use Rattle.soy_meaning.specs.Runs.TranslationFits.{ArgumentsFit, ArmsFit, BodyFits, CasesFit, FallbackFits, FitsMessage}
use Rattle.soy_meaning.specs.Runs.TranslationFits.{GivenFits, NodeFits, NodesFit, OtherFits, PluralFits, SelectFits}
use Rattle.soy_meaning.proofs.Pairs.AlikeBindings.{callee_alike, envs_more, val_alike}
use Rattle.soy_meaning.proofs.Pairs.AlikeOutcomes.{BeginsFrom, OnAlike, alike_behind, alike_chosen, alike_costs}
use Rattle.soy_meaning.proofs.Pairs.AlikeOutcomes.{alike_if}
use Rattle.soy_meaning.proofs.Pairs.AlikeOutcomes.{bound_alike, called_alike, choice_of, first_choices, from_cost}
use Rattle.soy_meaning.proofs.Pairs.AlikeOutcomes.{from_here, from_if, from_none, printed_alike, text_alike}
use Rattle.soy_meaning.proofs.Pairs.AlikeOutcomes.{value_alike}
use Rattle.soy_meaning.proofs.Pairs.AlikeParts.{parts_alike}
use Rattle.soy_meaning.proofs.Runs.RunBindings.{IsAmong, callee_among}
use Rattle.soy_meaning.proofs.Runs.RunPieces.{spent_same}

pub nothing_alike : AlikeByChoices gives_nothing gives_nothing
nothing_alike rest more h = record { choices = refl; pieces = tt; ends = refl }

-- ---- loops

abbrev pub first_turns : List ChoiceMade → ℕ
first_turns (Turns n ∷ l) = n
first_turns _ = 0

pub alike_turns : (n q : ℕ) (one two : Outcome) → (n ≡ q → AlikeByChoices one two)
    → AlikeByChoices (with_choice (Turns n) one) (with_choice (Turns q) two)
alike_turns n q one two alike rest more h =
    let same : n ≡ q = ap first_turns
    (ap (λ l. l ++ rest) (sym (first_choices (choice_of (Turns n)) one))
    ∙ (h ∙ ap (λ l. l ++ more) (first_choices (choice_of (Turns q)) two))) in
    alike_behind (Turns n ∷ []) (with_choice (Turns n) one) (with_choice (Turns q) two) one two
    (first_choices (choice_of (Turns n)) one)
    (first_choices (choice_of (Turns q)) two ∙ ap (λ j. Turns j ∷ choices_of_outcome two) (sym same))
    (spent_same (choice_of (Turns n)) one) (spent_same (choice_of (Turns q)) two) (alike same) rest more h

pub one_more : (n : ℕ) → 0 ≡ 1 + n → ⊥
one_more n e = omega (arith, e)

pub fewer : (n q : ℕ) → 1 + n ≡ 1 + q → n ≡ q
fewer n q e = omega (arith, e)

turn_env : (name : Name) (index : Option Name) (marks : Marks) (env other : RunEnv) (n : ℕ) (v w : Value)
    → EnvsAlike marks env other → EnvsAlike (turn_marks name index marks)
    (with_index index n ((name, Known v) ∷ env)) (with_index index n ((name, Known w) ∷ other))
turn_env name None marks env other n v w alike = (refl, refl, tt, alike)
turn_env name (Some index) marks env other n v w alike = (refl, refl, tt, (refl, refl, tt, alike))

turns_alike : (body : RunEnv → Means) (name : Name) (index : Option Name) (marks : Marks)
    → ((env other : RunEnv) → EnvsAlike (turn_marks name index marks) env other
    → (s t : StateSoFar) (on after : StateSoFar → Outcome) → OnAlike on after
    → AlikeByChoices (body env s on) (body other t after)) →
    (env other : RunEnv) → EnvsAlike marks env other → (n : ℕ) (items others : Items)
    → item_count items ≡ item_count others → (s t : StateSoFar) (on after : StateSoFar → Outcome) → OnAlike on after →
    AlikeByChoices (turns_mean body name index env n items s on) (turns_mean body name index other n others t after)
turns_alike body name index marks bodies env other alike n no_item no_item same s t on after next = next s t
turns_alike body name index marks bodies env other alike n no_item (item w ws) same s t on after next =
    absurd (one_more (item_count ws) same)
turns_alike body name index marks bodies env other alike n (item v vs) no_item same s t on after next =
    absurd (one_more (item_count vs) (sym same))
turns_alike body name index marks bodies env other alike n (item v vs) (item w ws) same s t on after next =
    bodies (with_index index n ((name, Known v) ∷ env)) (with_index index n ((name, Known w) ∷ other))
    (turn_env name index marks env other n v w alike) s t
    (λ now. turns_mean body name index env (n + 1) vs now on)
    (λ now. turns_mean body name index other (n + 1) ws now after)
    (λ x y. turns_alike body name index marks bodies env other alike (n + 1) vs ws
    (fewer (item_count vs) (item_count ws) same) x y on after next)

-- ---- where arms begin

module _ (c : RunContext) (called : Site → Declared → RunEnv → Outcome) where
  pub otherwise_from : (other : Otherwise) (k : ℕ) (env : RunEnv) (s : StateSoFar) (on : StateSoFar → Outcome)
      → BeginsFrom k (otherwise_means c called other k env s on)
  otherwise_from no_otherwise k env s on = from_none k (on s)
  otherwise_from (otherwise body) k env s on = from_here k (nodes_mean c called body env s (unbound on))

  pub arms_from : (arms : Arms) (env : RunEnv) (one : ℕ → Means) (k : ℕ) (s : StateSoFar) (on : StateSoFar → Outcome)
      → ((j : ℕ) → BeginsFrom j (one j s on)) → BeginsFrom k (arms_mean c called arms one k env s on)
  arms_from no_arm env one k s on last = last k
  arms_from (arm e body arms) env one k s on last =
      let taken : Outcome = nodes_mean c called body env s (unbound on) in
      let following : Outcome = arms_mean c called arms one (k + 1) env s on in
      from_cost k (cost e env) (if is_truthy (val e env) then with_choice (ArmTaken (Some k)) taken else following)
      (from_if k (is_truthy (val e env)) taken following (arms_from arms env one (k + 1) s on last))

  pub cases_from : (v : Value) (cases : Cases) (env : RunEnv) (one : ℕ → Means) (k : ℕ) (s : StateSoFar)
      (on : StateSoFar → Outcome) → ((j : ℕ) → BeginsFrom j (one j s on))
      → BeginsFrom k (cases_mean c called v cases one k env s on)
  cases_from v no_case env one k s on last = last k
  cases_from v (case es body cases) env one k s on last =
      let taken : Outcome = nodes_mean c called body env s (unbound on) in
      let following : Outcome = cases_mean c called v cases one (k + 1) env s on in
      from_cost k (is_one v es env).1
      (if (is_one v es env).0 then with_choice (ArmTaken (Some k)) taken else following)
      (from_if k (is_one v es env).0 taken following (cases_from v cases env one (k + 1) s on last))

  pub plural_from : (n : ℤ) (cases : PluralCases) (env : RunEnv) (one : Means) (k : ℕ) (s : StateSoFar)
      (on : StateSoFar → Outcome) → BeginsFrom k (plural_cases_mean c called n cases one k env s on)
  plural_from n no_plural_case env one k s on = from_here k (one s on)
  plural_from n (plural_case m body cases) env one k s on =
      from_if k (is_same_int m n) (source_means c called body env s on)
      (plural_cases_mean c called n cases one (k + 1) env s on) (plural_from n cases env one (k + 1) s on)

  pub select_from : (word : List ℕ) (cases : SelectCases) (env : RunEnv) (one : Means) (k : ℕ) (s : StateSoFar)
      (on : StateSoFar → Outcome) → BeginsFrom k (select_cases_mean c called word cases one k env s on)
  select_from word no_select_case env one k s on = from_here k (one s on)
  select_from word (select_case is body cases) env one k s on =
      from_if k (bytes_eq is word) (source_means c called body env s on)
      (select_cases_mean c called word cases one (k + 1) env s on) (select_from word cases env one (k + 1) s on)

module _ (c : RunContext) (called : Site → Declared → RunEnv → Outcome)
    (calls : (at : Site) (d : Declared) (env other : RunEnv) → IsMember d c.declared
    → EnvsAlike (param_marks d.template.params) env other → AlikeByChoices (called at d env) (called at d other)) where
  -- ---- calls

  opened_alike : (at : Site) (found : Option Declared) → IsAmong c.declared found → (given_marks : Marks)
      (given others : GivenArguments) → EnvsAlike given_marks given others → (all : Bool) (marks : Marks)
      (env other : RunEnv) → EnvsAlike marks env other → callee_takes found given_marks all c.params marks ≡ true →
      (s t : StateSoFar) (on after : StateSoFar → Outcome) → OnAlike on after →
      AlikeByChoices (opened_means c called at found given all env s on)
      (opened_means c called at found others all other t after)
  opened_alike at None among given_marks given others givens all marks env other alike takes s t on after next =
      value_alike c.direction NullValue NullValue s t on after next
  opened_alike at (Some d) among given_marks given others givens all marks env other alike takes s t on after next =
      let inner : RunEnv = callee_env d.template.params given all c.params env in
      let within : RunEnv = callee_env d.template.params others all c.params other in
      called_alike c.direction d.template.kind (called at d inner) (called at d within)
      (calls at d inner within among
      (callee_alike BlocksAlike given_marks marks given others env other all c.params givens alike d.template.params
      takes)) s t on after next

  -- ---- messages

  after_alike : (m : Message) (marks : Marks) (env other : RunEnv) → EnvsAlike marks env other
      → (s t : StateSoFar) (on after : StateSoFar → Outcome) → OnAlike on after →
      AlikeByChoices (message_means c called TheSource m env s on) (message_means c called TheSource m other t after)
      → (second : Message) → uses_pick (uses_of second) marks ≡ true → (found : Option MsgParts)
      → FitsMessage (uses_of second) found →
      AlikeByChoices (message_means c called (chosen_after second found) m env s on)
      (message_means c called (chosen_after second found) m other t after)
  after_alike m marks env other alike s t on after next source second picks None fit = source
  after_alike m marks env other alike s t on after next source second picks (Some parts) fit =
      alike_chosen (TextTaken FallbackTranslation) (translated_means c called env second parts s on)
      (translated_means c called other second parts t after)
      (parts_alike c.direction c.category (uses_of second) marks env other alike picks parts fit (pos 0) (pos 0) s t on
      after next)

  own_alike : (m : Message) (marks : Marks) (env other : RunEnv) → EnvsAlike marks env other
      → (s t : StateSoFar) (on after : StateSoFar → Outcome) → OnAlike on after →
      AlikeByChoices (message_means c called TheSource m env s on) (message_means c called TheSource m other t after)
      → uses_pick (uses_of m) marks ≡ true → (found : Option MsgParts) → FitsMessage (uses_of m) found
      → (last : Fallback) → FallbackPicks last marks → FallbackFits c.translation last →
      AlikeByChoices (message_means c called (chosen_of found (fallback_text c.translation last)) m env s on)
      (message_means c called (chosen_of found (fallback_text c.translation last)) m other t after)
  own_alike m marks env other alike s t on after next source picks None fit no_fallback last_picks last_fit = source
  own_alike m marks env other alike s t on after next source picks None fit (fallback second) last_picks last_fit =
      after_alike m marks env other alike s t on after next source second last_picks (c.translation second) last_fit
  own_alike m marks env other alike s t on after next source picks (Some parts) fit last last_picks last_fit =
      alike_chosen (TextTaken OwnTranslation) (translated_means c called env m parts s on)
      (translated_means c called other m parts t after)
      (parts_alike c.direction c.category (uses_of m) marks env other alike picks parts fit (pos 0) (pos 0) s t on
      after next)

  -- ---- nodes

  abbrev pub NextAlike : Marks → (RunEnv → StateSoFar → Outcome) → (RunEnv → StateSoFar → Outcome) → Type 0
  NextAlike marks next after = (env other : RunEnv) → EnvsAlike marks env other → (s t : StateSoFar)
      → AlikeByChoices (next env s) (after other t)

  mutual
    node_alike : (n : Node) (marks : Marks) (env other : RunEnv) → EnvsAlike marks env other → NodePicks c n marks
        → NodeFits c.translation n → (s t : StateSoFar) (next after : RunEnv → StateSoFar → Outcome)
        → NextAlike (marks_past n marks) next after →
        AlikeByChoices (node_means c called n env s next) (node_means c called n other t after)
    node_alike (TextNode text span) marks env other alike picks fit s t next after h =
        text_alike text s t (next env) (after other) (h env other alike)
    node_alike (Print e phname span) marks env other alike picks fit s t next after h =
        alike_costs (cost e env) (cost e other) (printed_means c.direction (val e env) s (next env))
        (printed_means c.direction (val e other) t (after other))
        (printed_alike c.direction (may_give_block e marks) (val e env) (val e other)
        (val_alike BlocksAlike marks env other alike e picks) s t (next env) (after other) (h env other alike))
    node_alike (If arms last span) marks env other alike picks fit s t next after h =
        arms_alike arms marks env other alike picks.0 fit.0 (λ k. otherwise_means c called last k env)
        (λ k. otherwise_means c called last k other) 0 s t (next env) (after other) (h env other alike)
        (λ k. otherwise_from c called last k env s (next env))
        (λ k. otherwise_from c called last k other t (after other))
        (λ k. otherwise_alike last k marks env other alike picks.1 fit.1 s t (next env) (after other)
        (h env other alike))
    node_alike (Switch e cases last span) marks env other alike picks fit s t next after h =
        alike_costs (cost e env) (cost e other)
        (cases_mean c called (valued e env) cases (λ k. otherwise_means c called last k env) 0 env s (next env))
        (cases_mean c called (valued e other) cases (λ k. otherwise_means c called last k other) 0 other t
        (after other))
        (cases_alike (valued e env) (valued e other) cases marks env other alike picks.0 fit.0
        (λ k. otherwise_means c called last k env) (λ k. otherwise_means c called last k other) 0 s t (next env)
        (after other) (h env other alike) (λ k. otherwise_from c called last k env s (next env))
        (λ k. otherwise_from c called last k other t (after other))
        (λ k. otherwise_alike last k marks env other alike picks.1 fit.1 s t (next env) (after other)
        (h env other alike)))
    node_alike (For name index e body span) marks env other alike picks fit s t next after h =
        let turn : RunEnv → Means = λ inner now past. nodes_mean c called body inner now (unbound past) in
        let items : Items = listed_items (valued e env) in
        let others : Items = listed_items (valued e other) in
        let one : Outcome = turns_mean turn name index env 0 items s (next env) in
        let two : Outcome = turns_mean turn name index other 0 others t (after other) in
        alike_costs (cost e env) (cost e other) (with_choice (Turns (item_count items)) one)
        (with_choice (Turns (item_count others)) two)
        (alike_turns (item_count items) (item_count others) one two
        (λ same. turns_alike turn name index marks
        (λ inner within inner_alike x y on past on_alike. nodes_alike body (turn_marks name index marks) inner within
        inner_alike picks fit x y (unbound on) (unbound past) (λ u v p q. on_alike p q)) env other alike 0 items
        others same s t (next env) (after other) (h env other alike)))
    node_alike (Let name e span) marks env other alike picks fit s t next after h =
        alike_costs (cost e env) (cost e other) (next ((name, val e env) ∷ env) s)
        (after ((name, val e other) ∷ other) t)
        (h ((name, val e env) ∷ env) ((name, val e other) ∷ other)
        (refl, refl, val_alike BlocksAlike marks env other alike e picks, alike) s t)
    node_alike (LetBlock name kind body span) marks env other alike picks fit s t next after h =
        bound_alike kind (nodes_mean c called body env (Ok (start kind)) at_end)
        (nodes_mean c called body other (Ok (start kind)) at_end) (λ bound. next ((name, bound) ∷ env) s)
        (λ bound. after ((name, bound) ∷ other) t)
        (nodes_alike body marks env other alike picks fit (Ok (start kind)) (Ok (start kind)) at_end at_end
        (λ inner within x y. nothing_alike))
        (λ a b k. h ((name, a) ∷ env) ((name, b) ∷ other) (refl, refl, k, alike) s t)
    node_alike (Call name all given span) marks env other alike picks fit s t next after h =
        let at : Site = starts_at c.file span in
        let found : Option Declared = callee c.declared c.namespace name in
        arguments_alike given [] [] [] tt marks env other alike picks.1 fit
        (λ arguments. opened_means c called at found arguments all env s (next env))
        (λ arguments. opened_means c called at found arguments all other t (after other))
        (λ a b k. opened_alike at found (callee_among c.declared c.namespace name) (argument_marks given marks) a b k
        all marks env other alike picks.0 s t (next env) (after other) (h env other alike))
    node_alike (MessageNode (message desc meaning body within) last span) marks env other alike picks fit s t next
        after h =
        let m : Message = message desc meaning body within in
        own_alike m marks env other alike s t (next env) (after other) (h env other alike)
        (alike_chosen (TextTaken SourceText) (source_means c called body env s (next env))
        (source_means c called body other t (after other))
        (body_alike body marks env other alike picks.1 fit.1 s t (next env) (after other) (h env other alike)))
        picks.0 (c.translation m) fit.0 last picks.2 fit.2

    pub nodes_alike : (ns : Nodes) (marks : Marks) (env other : RunEnv) → EnvsAlike marks env other
        → NodesPick c ns marks → NodesFit c.translation ns
        → (s t : StateSoFar) (next after : RunEnv → StateSoFar → Outcome)
        → ((inner within : RunEnv) (x y : StateSoFar) → AlikeByChoices (next inner x) (after within y)) →
        AlikeByChoices (nodes_mean c called ns env s next) (nodes_mean c called ns other t after)
    nodes_alike no_node marks env other alike picks fit s t next after h = h env other s t
    nodes_alike (node n ns) marks env other alike picks fit s t next after h =
        node_alike n marks env other alike picks.0 fit.0 s t (λ inner now. nodes_mean c called ns inner now next)
        (λ inner now. nodes_mean c called ns inner now after)
        (λ inner within k x y. nodes_alike ns (marks_past n marks) inner within k picks.1 fit.1 x y next after h)

    otherwise_alike : (last : Otherwise) (k : ℕ) (marks : Marks) (env other : RunEnv) → EnvsAlike marks env other
        → OtherPicks c last marks → OtherFits c.translation last
        → (s t : StateSoFar) (on after : StateSoFar → Outcome) → OnAlike on after →
        AlikeByChoices (otherwise_means c called last k env s on) (otherwise_means c called last k other t after)
    otherwise_alike no_otherwise k marks env other alike picks fit s t on after h =
        alike_chosen (ArmTaken None) (on s) (after t) (h s t)
    otherwise_alike (otherwise body) k marks env other alike picks fit s t on after h =
        alike_chosen (ArmTaken (Some k)) (nodes_mean c called body env s (unbound on))
        (nodes_mean c called body other t (unbound after))
        (nodes_alike body marks env other alike picks fit s t (unbound on) (unbound after) (λ u v x y. h x y))

    arms_alike : (arms : Arms) (marks : Marks) (env other : RunEnv) → EnvsAlike marks env other
        → ArmsPick c arms marks → ArmsFit c.translation arms → (one two : ℕ → Means) (k : ℕ)
        (s t : StateSoFar) (on after : StateSoFar → Outcome) → OnAlike on after
        → ((j : ℕ) → BeginsFrom j (one j s on)) → ((j : ℕ) → BeginsFrom j (two j t after))
        → ((j : ℕ) → AlikeByChoices (one j s on) (two j t after)) →
        AlikeByChoices (arms_mean c called arms one k env s on) (arms_mean c called arms two k other t after)
    arms_alike no_arm marks env other alike picks fit one two k s t on after h first second others = others k
    arms_alike (arm e body arms) marks env other alike picks fit one two k s t on after h first second others =
        let left : Outcome = nodes_mean c called body env s (unbound on) in
        let right : Outcome = nodes_mean c called body other t (unbound after) in
        let following : Outcome = arms_mean c called arms one (k + 1) env s on in
        let past : Outcome = arms_mean c called arms two (k + 1) other t after in
        alike_costs (cost e env) (cost e other)
        (if is_truthy (val e env) then with_choice (ArmTaken (Some k)) left else following)
        (if is_truthy (val e other) then with_choice (ArmTaken (Some k)) right else past)
        (alike_if k (is_truthy (val e env)) (is_truthy (val e other)) left right following past
        (nodes_alike body marks env other alike picks.0 fit.0 s t (unbound on) (unbound after) (λ u v x y. h x y))
        (arms_from c called arms env one (k + 1) s on first) (arms_from c called arms other two (k + 1) t after second)
        (arms_alike arms marks env other alike picks.1 fit.1 one two (k + 1) s t on after h first second others))

    cases_alike : (v w : Value) (cases : Cases) (marks : Marks) (env other : RunEnv) → EnvsAlike marks env other
        → CasesPick c cases marks → CasesFit c.translation cases → (one two : ℕ → Means) (k : ℕ)
        (s t : StateSoFar) (on after : StateSoFar → Outcome) → OnAlike on after
        → ((j : ℕ) → BeginsFrom j (one j s on)) → ((j : ℕ) → BeginsFrom j (two j t after))
        → ((j : ℕ) → AlikeByChoices (one j s on) (two j t after)) →
        AlikeByChoices (cases_mean c called v cases one k env s on) (cases_mean c called w cases two k other t after)
    cases_alike v w no_case marks env other alike picks fit one two k s t on after h first second others = others k
    cases_alike v w (case es body cases) marks env other alike picks fit one two k s t on after h first second
        others =
        let left : Outcome = nodes_mean c called body env s (unbound on) in
        let right : Outcome = nodes_mean c called body other t (unbound after) in
        let following : Outcome = cases_mean c called v cases one (k + 1) env s on in
        let past : Outcome = cases_mean c called w cases two (k + 1) other t after in
        alike_costs (is_one v es env).1 (is_one w es other).1
        (if (is_one v es env).0 then with_choice (ArmTaken (Some k)) left else following)
        (if (is_one w es other).0 then with_choice (ArmTaken (Some k)) right else past)
        (alike_if k (is_one v es env).0 (is_one w es other).0 left right following past
        (nodes_alike body marks env other alike picks.0 fit.0 s t (unbound on) (unbound after) (λ u v2 x y. h x y))
        (cases_from c called v cases env one (k + 1) s on first)
        (cases_from c called w cases other two (k + 1) t after second)
        (cases_alike v w cases marks env other alike picks.1 fit.1 one two (k + 1) s t on after h first second
        others))

    arguments_alike : (given : Arguments) (before past : GivenArguments) (so_far : Marks)
        → EnvsAlike so_far before past → (marks : Marks) (env other : RunEnv) → EnvsAlike marks env other
        → ArgumentsPick c given marks → ArgumentsFit c.translation given → (next after : GivenArguments → Outcome)
        → ((a b : GivenArguments) → EnvsAlike (so_far ++ argument_marks given marks) a b
        → AlikeByChoices (next a) (after b)) →
        AlikeByChoices (arguments_mean c called given before env next)
        (arguments_mean c called given past other after)
    arguments_alike no_argument before past so_far both marks env other alike picks fit next after h =
        h before past (subst (λ l. EnvsAlike l before past) (sym (append-nil so_far)) both)
    arguments_alike (argument name given span rest) before past so_far both marks env other alike picks fit next after
        h =
        let mark : Marks = (name, given_mark given marks) ∷ [] in
        given_alike given marks env other alike picks.0 fit.0
        (λ bound. arguments_mean c called rest (before ++ ((name, bound) ∷ [])) env next)
        (λ bound. arguments_mean c called rest (past ++ ((name, bound) ∷ [])) other after)
        (λ a b k. arguments_alike rest (before ++ ((name, a) ∷ [])) (past ++ ((name, b) ∷ [])) (so_far ++ mark)
        (envs_more BlocksAlike so_far mark before past ((name, a) ∷ []) ((name, b) ∷ []) both (refl, refl, k, tt))
        marks env other alike picks.1 fit.1 next after
        (λ x y all. h x y (subst (λ l. EnvsAlike l x y) (append_assoc so_far mark (argument_marks rest marks)) all)))

    given_alike : (given : Given) (marks : Marks) (env other : RunEnv) → EnvsAlike marks env other
        → GivenPicks c given marks → GivenFits c.translation given → (next after : Binding BoundBlock → Outcome)
        → ((a b : Binding BoundBlock) → BindingsAlike (given_mark given marks) a b
        → AlikeByChoices (next a) (after b)) →
        AlikeByChoices (given_means c called given env next) (given_means c called given other after)
    given_alike (Plain e) marks env other alike picks fit next after h =
        alike_costs (cost e env) (cost e other) (next (val e env)) (after (val e other))
        (h (val e env) (val e other) (val_alike BlocksAlike marks env other alike e picks))
    given_alike (Block kind body) marks env other alike picks fit next after h =
        bound_alike kind (nodes_mean c called body env (Ok (start kind)) at_end)
        (nodes_mean c called body other (Ok (start kind)) at_end) next after
        (nodes_alike body marks env other alike picks fit (Ok (start kind)) (Ok (start kind)) at_end at_end
        (λ inner within x y. nothing_alike)) h

    body_alike : (body : MessageBody) (marks : Marks) (env other : RunEnv) → EnvsAlike marks env other
        → BodyPicks c body marks → BodyFits c.translation body
        → (s t : StateSoFar) (on after : StateSoFar → Outcome) → OnAlike on after →
        AlikeByChoices (source_means c called body env s on) (source_means c called body other t after)
    body_alike (Parts ns) marks env other alike picks fit s t on after h =
        nodes_alike ns marks env other alike picks fit s t (unbound on) (unbound after) (λ u v x y. h x y)
    body_alike (Plural e offset cases last) marks env other alike picks fit s t on after h =
        let n : ℤ = int_of (valued e env) in
        let q : ℤ = int_of (valued e other) in
        alike_costs (cost e env) (cost e other)
        (plural_cases_mean c called n cases (source_means c called last env) 0 env s on)
        (plural_cases_mean c called q cases (source_means c called last other) 0 other t after)
        (plural_alike n q cases marks env other alike picks.0 fit.0 (source_means c called last env)
        (source_means c called last other) 0 s t on after h
        (body_alike last marks env other alike picks.1 fit.1 s t on after h))
    body_alike (Select e cases last) marks env other alike picks fit s t on after h =
        let word : List ℕ = word_of (valued e env) in
        let term : List ℕ = word_of (valued e other) in
        alike_costs (cost e env) (cost e other)
        (select_cases_mean c called word cases (source_means c called last env) 0 env s on)
        (select_cases_mean c called term cases (source_means c called last other) 0 other t after)
        (select_alike word term cases marks env other alike picks.0 fit.0 (source_means c called last env)
        (source_means c called last other) 0 s t on after h
        (body_alike last marks env other alike picks.1 fit.1 s t on after h))

    plural_alike : (n q : ℤ) (cases : PluralCases) (marks : Marks) (env other : RunEnv) → EnvsAlike marks env other
        → PluralPicks c cases marks → PluralFits c.translation cases → (one two : Means) (k : ℕ)
        (s t : StateSoFar) (on after : StateSoFar → Outcome) → OnAlike on after
        → AlikeByChoices (one s on) (two t after) →
        AlikeByChoices (plural_cases_mean c called n cases one k env s on)
        (plural_cases_mean c called q cases two k other t after)
    plural_alike n q no_plural_case marks env other alike picks fit one two k s t on after h others =
        alike_chosen (ArmTaken (Some k)) (one s on) (two t after) others
    plural_alike n q (plural_case m body cases) marks env other alike picks fit one two k s t on after h others =
        alike_if k (is_same_int m n) (is_same_int m q) (source_means c called body env s on)
        (source_means c called body other t after) (plural_cases_mean c called n cases one (k + 1) env s on)
        (plural_cases_mean c called q cases two (k + 1) other t after)
        (body_alike body marks env other alike picks.0 fit.0 s t on after h)
        (plural_from c called n cases env one (k + 1) s on) (plural_from c called q cases other two (k + 1) t after)
        (plural_alike n q cases marks env other alike picks.1 fit.1 one two (k + 1) s t on after h others)

    select_alike : (word term : List ℕ) (cases : SelectCases) (marks : Marks) (env other : RunEnv)
        → EnvsAlike marks env other → SelectPicks c cases marks → SelectFits c.translation cases
        → (one two : Means) (k : ℕ) (s t : StateSoFar) (on after : StateSoFar → Outcome) → OnAlike on after
        → AlikeByChoices (one s on) (two t after) →
        AlikeByChoices (select_cases_mean c called word cases one k env s on)
        (select_cases_mean c called term cases two k other t after)
    select_alike word term no_select_case marks env other alike picks fit one two k s t on after h others =
        alike_chosen (ArmTaken (Some k)) (one s on) (two t after) others
    select_alike word term (select_case is body cases) marks env other alike picks fit one two k s t on after h
        others =
        alike_if k (bytes_eq is word) (bytes_eq is term) (source_means c called body env s on)
        (source_means c called body other t after) (select_cases_mean c called word cases one (k + 1) env s on)
        (select_cases_mean c called term cases two (k + 1) other t after)
        (body_alike body marks env other alike picks.0 fit.0 s t on after h)
        (select_from c called word cases env one (k + 1) s on)
        (select_from c called term cases other two (k + 1) t after)
        (select_alike word term cases marks env other alike picks.1 fit.1 one two (k + 1) s t on after h others)

  -- a frame by itself
  pub frames_alike : (kind : Kind) (body : Nodes) (marks : Marks) (env other : RunEnv) → EnvsAlike marks env other
      → NodesPick c body marks → NodesFit c.translation body →
      AlikeByChoices (nodes_mean c called body env (Ok (start kind)) at_end)
      (nodes_mean c called body other (Ok (start kind)) at_end)
  frames_alike kind body marks env other alike picks fit =
      nodes_alike body marks env other alike picks fit (Ok (start kind)) (Ok (start kind)) at_end at_end
      (λ inner within x y. nothing_alike)
