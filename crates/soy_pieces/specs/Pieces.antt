-- What a template gives under data: its pieces, with costs and choices, and its end.
--
-- Nodes give what they give in source order, with the variables that each binds. An if and a switch take the first arm
-- that holds, a loop its body for each item, a message the text that the bundle chooses. A call's parameters are valued
-- first, in source order; then the call is opened, or, where it would stand more than 100 calls deep, the run stops
-- there. A block's calls are counted from where it is written. Example:
-- `{let $b kind="html"}<i>{$x}</i>{/let}{$b}{$b}` gives the pieces of the block twice.
use Rattle.std.specs.Prelude.{ℕ, zero, suc, ◌+◌, ℤ, pos, Bool, true, false, ◌&&◌, List, [], ◌∷◌, ◌++◌, Option, Some}
use Rattle.std.specs.Prelude.{None, Ok, is_some, if◌then◌else◌, bytes_eq}
use Rattle.soy_base.specs.declared.direction.Dir.{Dir}
use Rattle.soy_base.specs.declared.kind.Kind.{Kind}
use Rattle.plural_rules.specs.declared.category.Category.{Category}
use Rattle.html_state.specs.Start.{start}
use Rattle.soy_tree.specs.Types.{Name}
use Rattle.soy_tree.specs.Values.{Items, Value, NullValue, IntValue, ListValue, no_item, item}
use Rattle.soy_rules.specs.Val.{Binding, Known, binding, is_same_int, is_same_value, is_truthy, operand, val}
use Rattle.soy_rules.specs.Cost.{cost}
use Rattle.soy_tree.specs.Expressions.{Expr}
use Rattle.soy_tree.specs.Nodes.{Node, Nodes, Otherwise, Arms, Cases, Arguments, Given, Message, Fallback, MessageBody}
use Rattle.soy_tree.specs.Nodes.{PluralCases, SelectCases, TextNode, Print, If, Switch, For, Let, LetBlock, Call}
use Rattle.soy_tree.specs.Nodes.{MessageNode, no_node, node, no_otherwise, otherwise, no_arm, arm, no_case, case}
use Rattle.soy_tree.specs.Nodes.{no_argument, argument, Plain, Block, message, no_fallback, fallback, Parts, Plural}
use Rattle.soy_tree.specs.Nodes.{Select, no_plural_case, plural_case, no_select_case, select_case}
use Rattle.soy_tree.specs.MessageParts.{MsgParts}
use Rattle.soy_tree.specs.Trees.{Param}
use Rattle.soy_rules.specs.ShortLists.{item_count}
use Rattle.soy_rules.specs.Templates.{Declared, callee}
use Rattle.soy_rules.specs.Bodies.{param_of}
use Rattle.soy_pieces.specs.Branch.{int_of, parts_means, word_of}
use Rattle.soy_pieces.specs.Giving.{BoundBlock, Means, RunEnv, StateSoFar, block_bound, called_means, printed_means}
use Rattle.soy_pieces.specs.Giving.{text_means, value_means, with_choice, with_cost}
use Rattle.soy_pieces.specs.Outcome.{ArmTaken, RunEnds, FallbackTranslation, Outcome, OwnTranslation, SourceText}
use Rattle.soy_pieces.specs.Outcome.{StopsAt}
use Rattle.soy_pieces.specs.Outcome.{TextTaken, Turns, gives_nothing, none_spent}
use Rattle.soy_pieces.specs.Site.{Site}
use Rattle.soy_rules.specs.Placeholders.{uses_of}
use Rattle.soy_pieces.specs.Site.{starts_at}

-- what a run goes by: the file, the namespace and the parameters of the template, and of all files the templates that
-- are declared, the translation of a message, the category of a number, and the direction
pub record RunContext : Type 0 where
  pub file : ℕ
  pub namespace : Name
  pub params : List Param
  pub declared : List Declared
  pub translation : Message → Option MsgParts
  pub category : Bool → ℤ → Category
  pub direction : Dir

-- what a node means: it may bind variables for what comes next
abbrev pub NodeMeans : Type 0
NodeMeans = StateSoFar → (RunEnv → StateSoFar → Outcome) → Outcome

-- what comes next past a body, of which nothing stays bound
abbrev pub unbound : (StateSoFar → Outcome) → RunEnv → StateSoFar → Outcome
unbound next inner so_far = next so_far

-- past a whole frame
abbrev pub at_end : RunEnv → StateSoFar → Outcome
at_end inner so_far = gives_nothing

abbrev pub valued : Expr → RunEnv → Value
valued e env = operand (val e env)

-- ---- loops and cases

abbrev pub listed_items : Value → Items
listed_items (ListValue items) = items
listed_items _ = no_item

abbrev pub with_index : Option Name → ℕ → RunEnv → RunEnv
with_index None n env = env
with_index (Some index) n env = (index, Known (IntValue (pos n))) ∷ env

-- a body for each item, the items counted from n
abbrev pub turns_mean : (RunEnv → Means) → Name → Option Name → RunEnv → ℕ → Items → Means
turns_mean body name index env n no_item so_far next = next so_far
turns_mean body name index env n (item v vs) so_far next =
    body (with_index index n ((name, Known v) ∷ env)) so_far (λ now. turns_mean body name index env (n + 1) vs now next)

-- whether a value is one of these, and what was valued to know it
abbrev pub is_one : Value → List Expr → RunEnv → Bool × ℕ
is_one v [] env = (false, 0)
is_one v (e ∷ es) env =
    if is_same_value v (valued e env) then (true, cost e env)
    else ((is_one v es env).0, cost e env + (is_one v es env).1)

-- ---- calls

abbrev pub GivenArguments : Type 0
GivenArguments = List (Name × Binding BoundBlock)

abbrev pub given_binding : Name → GivenArguments → Option (Binding BoundBlock)
given_binding name [] = None
given_binding name (a ∷ rest) = if bytes_eq a.0 name then Some a.1 else given_binding name rest

abbrev pub handed_on : Bool → Binding BoundBlock → Binding BoundBlock
handed_on hands own = if hands then own else Known NullValue

abbrev pub param_binding : Option (Binding BoundBlock) → Binding BoundBlock → Binding BoundBlock
param_binding None other = other
param_binding (Some given) other = given

-- the variables of a callee: what is given, else what `data="all"` hands on, else null
abbrev pub callee_env : List Param → GivenArguments → Bool → List Param → RunEnv → RunEnv
callee_env [] given all own env = []
callee_env (p ∷ ps) given all own env = (
  p.name,
  param_binding (given_binding p.name given)
      (handed_on (all && is_some (param_of p.name own)) (binding p.name env)),
)
    ∷ callee_env ps given all own env

-- ---- which text of a message

pub data ChosenText : Type 0 where
  TheSource : ChosenText
  TheOwn : MsgParts → ChosenText
  TheFallback : Message → MsgParts → ChosenText

abbrev pub chosen_after : Message → Option MsgParts → ChosenText
chosen_after m None = TheSource
chosen_after m (Some parts) = TheFallback m parts

abbrev pub fallback_text : (Message → Option MsgParts) → Fallback → ChosenText
fallback_text translation no_fallback = TheSource
fallback_text translation (fallback m) = chosen_after m (translation m)

abbrev pub chosen_of : Option MsgParts → ChosenText → ChosenText
chosen_of None other = other
chosen_of (Some parts) other = TheOwn parts

abbrev pub chosen_text : (Message → Option MsgParts) → Message → Fallback → ChosenText
chosen_text translation m other = chosen_of (translation m) (fallback_text translation other)

-- ---- nodes

module _ (c : RunContext) (called : Site → Declared → RunEnv → Outcome) where
  abbrev pub translated_means : RunEnv → Message → MsgParts → Means
  translated_means env m parts = parts_means c.direction c.category (uses_of m) env parts (pos 0)

  -- a typed tree calls known templates alone; for any other null stands, as for a name that nothing is bound to
  abbrev pub opened_means : Site → Option Declared → GivenArguments → Bool → RunEnv → Means
  opened_means at None given all env so_far next = value_means c.direction NullValue so_far next
  opened_means at (Some d) given all env so_far next =
      called_means c.direction d.template.kind (called at d (callee_env d.template.params given all c.params env))
      so_far next

  abbrev mutual
    -- of a body nothing stays bound, and a frame by itself begins in the start of its kind
    pub node_means : Node → RunEnv → NodeMeans
    node_means (TextNode text span) env so_far next = text_means text so_far (next env)
    node_means (Print e phname span) env so_far next =
        with_cost (cost e env) (printed_means c.direction (val e env) so_far (next env))
    node_means (If arms other span) env so_far next =
        arms_mean arms (λ k. otherwise_means other k env) 0 env so_far (next env)
    node_means (Switch e cases other span) env so_far next =
        with_cost (cost e env)
        (cases_mean (valued e env) cases (λ k. otherwise_means other k env) 0 env so_far (next env))
    node_means (For name index e body span) env so_far next =
        with_cost (cost e env) (with_choice (Turns (item_count (listed_items (valued e env))))
        (turns_mean (λ inner now after. nodes_mean body inner now (unbound after)) name index env 0
        (listed_items (valued e env)) so_far (next env)))
    node_means (Let name e span) env so_far next = with_cost (cost e env) (next ((name, val e env) ∷ env) so_far)
    node_means (LetBlock name kind body span) env so_far next =
        block_bound kind (nodes_mean body env (Ok (start kind)) at_end) (λ bound. next ((name, bound) ∷ env) so_far)
    node_means (Call name all given span) env so_far next =
        arguments_mean given [] env (λ arguments.
        opened_means (starts_at c.file span) (callee c.declared c.namespace name) arguments all env so_far (next env))
    node_means (MessageNode m other span) env so_far next =
        message_means (chosen_text c.translation m other) m env so_far (next env)

    pub nodes_mean : Nodes → RunEnv → NodeMeans
    nodes_mean no_node env so_far next = next env so_far
    nodes_mean (node n ns) env so_far next = node_means n env so_far (λ inner now. nodes_mean ns inner now next)

    pub otherwise_means : Otherwise → ℕ → RunEnv → Means
    otherwise_means no_otherwise k env so_far next = with_choice (ArmTaken None) (next so_far)
    otherwise_means (otherwise body) k env so_far next =
        with_choice (ArmTaken (Some k)) (nodes_mean body env so_far (unbound next))

    pub arms_mean : Arms → (ℕ → Means) → ℕ → RunEnv → Means
    arms_mean no_arm other k env so_far next = other k so_far next
    arms_mean (arm e body arms) other k env so_far next =
        with_cost (cost e env)
        (if is_truthy (val e env) then with_choice (ArmTaken (Some k)) (nodes_mean body env so_far (unbound next))
        else arms_mean arms other (k + 1) env so_far next)

    pub cases_mean : Value → Cases → (ℕ → Means) → ℕ → RunEnv → Means
    cases_mean v no_case other k env so_far next = other k so_far next
    cases_mean v (case es body cases) other k env so_far next =
        with_cost (is_one v es env).1
        (if (is_one v es env).0 then with_choice (ArmTaken (Some k)) (nodes_mean body env so_far (unbound next))
        else cases_mean v cases other (k + 1) env so_far next)

    pub arguments_mean : Arguments → GivenArguments → RunEnv → (GivenArguments → Outcome) → Outcome
    arguments_mean no_argument before env next = next before
    arguments_mean (argument name given span rest) before env next =
        given_means given env (λ bound. arguments_mean rest (before ++ ((name, bound) ∷ [])) env next)

    pub given_means : Given → RunEnv → (Binding BoundBlock → Outcome) → Outcome
    given_means (Plain e) env next = with_cost (cost e env) (next (val e env))
    given_means (Block kind body) env next = block_bound kind (nodes_mean body env (Ok (start kind)) at_end) next

    pub message_means : ChosenText → Message → RunEnv → Means
    message_means TheSource (message desc meaning body span) env so_far next =
        with_choice (TextTaken SourceText) (source_means body env so_far next)
    message_means (TheOwn parts) m env so_far next =
        with_choice (TextTaken OwnTranslation) (translated_means env m parts so_far next)
    message_means (TheFallback m parts) first env so_far next =
        with_choice (TextTaken FallbackTranslation) (translated_means env m parts so_far next)

    pub source_means : MessageBody → RunEnv → Means
    source_means (Parts ns) env so_far next = nodes_mean ns env so_far (unbound next)
    source_means (Plural e offset cases other) env so_far next =
        with_cost (cost e env)
        (plural_cases_mean (int_of (valued e env)) cases (source_means other env) 0 env so_far next)
    source_means (Select e cases other) env so_far next =
        with_cost (cost e env)
        (select_cases_mean (word_of (valued e env)) cases (source_means other env) 0 env so_far next)

    pub plural_cases_mean : ℤ → PluralCases → Means → ℕ → RunEnv → Means
    plural_cases_mean n no_plural_case other k env so_far next = with_choice (ArmTaken (Some k)) (other so_far next)
    plural_cases_mean n (plural_case m body cases) other k env so_far next =
        if is_same_int m n then with_choice (ArmTaken (Some k)) (source_means body env so_far next)
        else plural_cases_mean n cases other (k + 1) env so_far next

    pub select_cases_mean : List ℕ → SelectCases → Means → ℕ → RunEnv → Means
    select_cases_mean word no_select_case other k env so_far next = with_choice (ArmTaken (Some k)) (other so_far next)
    select_cases_mean word (select_case is body cases) other k env so_far next =
        if bytes_eq is word then with_choice (ArmTaken (Some k)) (source_means body env so_far next)
        else select_cases_mean word cases other (k + 1) env so_far next

  -- a frame by itself
  abbrev pub frame_outcome : Kind → Nodes → RunEnv → Outcome
  frame_outcome kind body env = nodes_mean body env (Ok (start kind)) at_end

-- ---- templates

abbrev pub context_in : RunContext → Declared → RunContext
context_in c d = record c { file = d.file; namespace = d.namespace; params = d.template.params }

-- a call where so many more may be opened
unfoldable pub called_within : RunContext → ℕ → Site → Declared → RunEnv → Outcome
called_within c zero at d env = RunEnds none_spent (StopsAt at)
called_within c (suc left) at d env =
    frame_outcome (context_in c d) (called_within c left) d.template.kind d.template.body env

-- how many calls may be open inside one another
abbrev pub call_limit : ℕ
call_limit = 100

-- what an entry gives
abbrev pub template_run : RunContext → Declared → RunEnv → Outcome
template_run c d env = frame_outcome (context_in c d) (called_within c call_limit) d.template.kind d.template.body env
