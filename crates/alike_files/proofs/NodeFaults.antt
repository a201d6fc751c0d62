-- What is demanded of a body reads no more of spans than where a fault is: the scope after it is the same, or the first
-- fault but for its position.
use Rattle.std.proofs.Common.{◌≡◌, List, [], ◌∷◌, map, refl}
use Rattle.soy_base.specs.declared.fault.Span.{Span}
use Rattle.soy_rules.specs.Bodies.{Around, accepted, after_arguments, after_arms, after_body, after_cases}
use Rattle.soy_rules.specs.Bodies.{after_fallback, after_given, after_message, after_node, after_nodes, after_otherwise}
use Rattle.soy_rules.specs.Bodies.{after_plural_cases, after_select_cases, callee_params, each_passing, is_printed}
use Rattle.soy_rules.specs.Bodies.{loop_scope, named_param, names_given, new_variable, new_variables, param_demands}
use Rattle.soy_rules.specs.Bodies.{passing}
use Rattle.soy_rules.specs.Members.{is_simple}
use Rattle.soy_rules.specs.Narrowing.{narrowed}
use Rattle.soy_tree.specs.Nodes.{Node, Nodes, Otherwise, Arms, Cases, Arguments, Given, Message, Fallback, MessageBody}
use Rattle.soy_tree.specs.Nodes.{PluralCases, SelectCases, TextNode, Print, If, Switch, For, Let, LetBlock, Call}
use Rattle.soy_tree.specs.Nodes.{MessageNode, no_node, node, no_otherwise, otherwise, no_arm, arm, no_case, case}
use Rattle.soy_tree.specs.Nodes.{no_argument, argument, Plain, Block, message, no_fallback, fallback, Parts, Plural}
use Rattle.soy_tree.specs.Nodes.{Select, no_plural_case, plural_case, no_select_case, select_case}
use Rattle.soy_rules.specs.Templates.{kind_type, param_type}
use Rattle.soy_tree.specs.Trees.{Param}
use Rattle.soy_rules.specs.TypeOf.{Scope, is_int, is_string, type_of}
use Rattle.soy_tree.specs.Types.{Name}
use Rattle.soy_format.specs.WithoutSpans.{arguments_without_spans, arms_without_spans, body_without_spans}
use Rattle.soy_format.specs.WithoutSpans.{cases_without_spans, expr_without_spans, fallback_without_spans}
use Rattle.soy_format.specs.WithoutSpans.{given_without_spans, message_without_spans, no_span, node_without_spans}
use Rattle.soy_format.specs.WithoutSpans.{nodes_without_spans, otherwise_without_spans, param_without_spans}
use Rattle.soy_format.specs.WithoutSpans.{plural_cases_without_spans, select_cases_without_spans}
use Rattle.alike_files.proofs.CommandFaults.{accepted_same, around_without_spans, callee_params_same, each_passing_same}
use Rattle.alike_files.proofs.CommandFaults.{loop_scope_same, named_param_same, names_given_same, new_variable_same}
use Rattle.alike_files.proofs.CommandFaults.{new_variables_same, param_demands_same, passing_same, plain_argument_same}
use Rattle.alike_files.proofs.ExpressionTypes.{type_same}
use Rattle.alike_files.proofs.ExpressionValues.{narrowed_same}
use Rattle.alike_files.proofs.Faults.{followed, found_then, placeless, tested}

module _ (c : Around) where
  mutual
    node_same : (n : Node) (scope : Scope)
        → after_node (around_without_spans c) (node_without_spans n) scope ≡ placeless (after_node c n scope)
    node_same (TextNode text span) scope = refl
    node_same (Print e phname span) scope =
        followed (type_of e scope) (type_of (expr_without_spans e) scope) _ _ (type_same e scope) (λ t.
        tested (is_printed t) _ _ _ _ refl refl)
    node_same (If arms other span) scope =
        followed (after_arms c arms scope) _ _ _ (arms_same arms scope) (λ s. otherwise_same other s)
    node_same (Switch e cases other span) scope =
        followed (passing is_simple e scope) _ _ _ (passing_same is_simple e scope) (λ s.
        followed (after_cases c cases s) _ _ _ (cases_same cases s) (λ s. otherwise_same other s))
    node_same (For name index e body span) scope =
        followed (new_variables name index span scope) _ _ _ (new_variables_same name index span scope) (λ s.
        followed (type_of e s) (type_of (expr_without_spans e) s) _ _ (type_same e s) (λ t.
        followed (loop_scope name index e s t) _ _ _ (loop_scope_same name index e s t) (λ inner.
        followed (after_nodes c body inner) _ _ _ (nodes_same body inner) (λ end. refl))))
    node_same (Let name e span) scope =
        followed (new_variable name span scope) _ _ _ (new_variable_same name span scope) (λ s.
        followed (type_of e s) (type_of (expr_without_spans e) s) _ _ (type_same e s) (λ t. refl))
    node_same (LetBlock name kind body span) scope =
        followed (new_variable name span scope) _ _ _ (new_variable_same name span scope) (λ s.
        followed (after_nodes c body s) _ _ _ (nodes_same body s) (λ end. refl))
    node_same (Call name all given span) scope =
        found_then (map param_without_spans) (callee_params c name span) _ _ _ (callee_params_same c name span)
        (λ params. rw (names_given_same given)
        (followed (param_demands c all (names_given given) span params scope) _ _ _
        (param_demands_same c all (names_given given) span params scope) (λ s. arguments_same given [] params s)))
    node_same (MessageNode m other span) scope =
        followed (after_message c m scope) _ _ _ (message_same m scope) (λ s. fallback_same other s)

    pub nodes_same : (ns : Nodes) (scope : Scope)
        → after_nodes (around_without_spans c) (nodes_without_spans ns) scope ≡ placeless (after_nodes c ns scope)
    nodes_same no_node scope = refl
    nodes_same (node n ns) scope =
        followed (after_node c n scope) _ _ _ (node_same n scope) (λ s. nodes_same ns s)

    otherwise_same : (o : Otherwise) (scope : Scope)
        → after_otherwise (around_without_spans c) (otherwise_without_spans o) scope
        ≡ placeless (after_otherwise c o scope)
    otherwise_same no_otherwise scope = refl
    otherwise_same (otherwise body) scope =
        followed (after_nodes c body scope) _ _ _ (nodes_same body scope) (λ end. refl)

    arms_same : (arms : Arms) (scope : Scope)
        → after_arms (around_without_spans c) (arms_without_spans arms) scope ≡ placeless (after_arms c arms scope)
    arms_same no_arm scope = refl
    arms_same (arm e body arms) scope =
        followed (type_of e scope) (type_of (expr_without_spans e) scope) _ _ (type_same e scope) (λ t.
        rw (narrowed_same e scope)
        (followed (after_nodes c body (narrowed e scope)) _ _ _ (nodes_same body (narrowed e scope)) (λ end.
        arms_same arms scope)))

    cases_same : (cases : Cases) (scope : Scope)
        → after_cases (around_without_spans c) (cases_without_spans cases) scope
        ≡ placeless (after_cases c cases scope)
    cases_same no_case scope = refl
    cases_same (case values body cases) scope =
        followed (each_passing values scope) _ _ _ (each_passing_same values scope) (λ s.
        followed (after_nodes c body s) _ _ _ (nodes_same body s) (λ end. cases_same cases s))

    arguments_same : (given : Arguments) (before : List Name) (ps : List Param) (scope : Scope)
        → after_arguments (around_without_spans c) (arguments_without_spans given) before (map param_without_spans ps)
        scope ≡ placeless (after_arguments c given before ps scope)
    arguments_same no_argument before ps scope = refl
    arguments_same (argument name given span rest) before ps scope =
        found_then param_without_spans (named_param name span before ps) _ _ _ (named_param_same name span before ps)
        (λ p. followed (after_given c given span p scope) _ _ _ (given_same given span p scope) (λ s.
        arguments_same rest (name ∷ before) ps s))

    given_same : (given : Given) (span : Span) (p : Param) (scope : Scope)
        → after_given (around_without_spans c) (given_without_spans given) no_span (param_without_spans p) scope
        ≡ placeless (after_given c given span p scope)
    given_same (Plain e) span p scope = plain_argument_same e p scope
    given_same (Block kind body) span p scope =
        followed (accepted (param_type p) span (kind_type kind) scope) _ _ _
        (accepted_same (param_type p) span (kind_type kind) scope) (λ s.
        followed (after_nodes c body s) _ _ _ (nodes_same body s) (λ end. refl))

    message_same : (m : Message) (scope : Scope)
        → after_message (around_without_spans c) (message_without_spans m) scope ≡ placeless (after_message c m scope)
    message_same (message desc meaning body span) scope = body_same body scope

    fallback_same : (f : Fallback) (scope : Scope)
        → after_fallback (around_without_spans c) (fallback_without_spans f) scope
        ≡ placeless (after_fallback c f scope)
    fallback_same no_fallback scope = refl
    fallback_same (fallback m) scope = message_same m scope

    body_same : (b : MessageBody) (scope : Scope)
        → after_body (around_without_spans c) (body_without_spans b) scope ≡ placeless (after_body c b scope)
    body_same (Parts ns) scope = followed (after_nodes c ns scope) _ _ _ (nodes_same ns scope) (λ end. refl)
    body_same (Plural e offset cases other) scope =
        followed (passing is_int e scope) _ _ _ (passing_same is_int e scope) (λ s.
        followed (after_plural_cases c cases s) _ _ _ (plural_cases_same cases s) (λ s. body_same other s))
    body_same (Select e cases other) scope =
        followed (passing is_string e scope) _ _ _ (passing_same is_string e scope) (λ s.
        followed (after_select_cases c cases s) _ _ _ (select_cases_same cases s) (λ s. body_same other s))

    plural_cases_same : (cases : PluralCases) (scope : Scope)
        → after_plural_cases (around_without_spans c) (plural_cases_without_spans cases) scope
        ≡ placeless (after_plural_cases c cases scope)
    plural_cases_same no_plural_case scope = refl
    plural_cases_same (plural_case n body cases) scope =
        followed (after_body c body scope) _ _ _ (body_same body scope) (λ s. plural_cases_same cases s)

    select_cases_same : (cases : SelectCases) (scope : Scope)
        → after_select_cases (around_without_spans c) (select_cases_without_spans cases) scope
        ≡ placeless (after_select_cases c cases scope)
    select_cases_same no_select_case scope = refl
    select_cases_same (select_case word body cases) scope =
        followed (after_body c body scope) _ _ _ (body_same body scope) (λ s. select_cases_same cases s)
