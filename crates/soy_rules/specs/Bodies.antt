-- What is demanded of the body of a template: the second pass over all files.
-- Commands are met in source order, and what a command demands of itself at its `{` goes before what its expressions,
-- its params and its block demand. Each command is taken to the scope after it, or to the first fault: a variable of a
-- let is visible up to the end of the block, arm, case or body that the let stands in.
-- Example: `{let $x: 1 /}{$x}` adds `$x` of type int, and `{$x}{let $x: 1 /}` fails with 7 at `$x`.
use Rattle.std.specs.Prelude.{Bool, true, false, ◌&&◌, List, [], ◌∷◌, Option, Some, None, Result, Ok, is_some}
use Rattle.std.specs.Prelude.{if◌then◌else◌, bytes_eq}
use Rattle.soy_base.specs.declared.code.Code.TheVariants as code
use Rattle.soy_base.specs.declared.fault.Span.{Span}
use Rattle.soy_tree.specs.Types.{Name, SoyType, IntType, HtmlType, AttributesType, ListType}
use Rattle.soy_rules.specs.Members.{members, is_simple}
use Rattle.soy_rules.specs.Accepts.{accepts}
use Rattle.soy_rules.specs.TypeText.{type_text}
use Rattle.soy_rules.specs.Faults.{TypeFault, followed_by, fails, mistyped}
use Rattle.soy_rules.specs.TypeOf.{Scope, variable_type, type_of, is_int, is_string}
use Rattle.soy_rules.specs.Narrowing.{narrowed}
use Rattle.soy_base.specs.Among.{is_among}
use Rattle.soy_rules.specs.Templates.{Declared, callee, called_name, param_type, kind_type}
use Rattle.soy_tree.specs.Expressions.{Expr, span_of}
use Rattle.soy_tree.specs.Nodes.{Node, Nodes, Otherwise, Arms, Cases, Arguments, Given, Message, Fallback, MessageBody}
use Rattle.soy_tree.specs.Nodes.{PluralCases, SelectCases, TextNode, Print, If, Switch, For, Let, LetBlock, Call}
use Rattle.soy_tree.specs.Nodes.{MessageNode, no_node, node, no_otherwise, otherwise, no_arm, arm, no_case, case}
use Rattle.soy_tree.specs.Nodes.{no_argument, argument, Plain, Block, message, no_fallback, fallback, Parts, Plural}
use Rattle.soy_tree.specs.Nodes.{Select, no_plural_case, plural_case, no_select_case, select_case}
use Rattle.soy_tree.specs.Trees.{Param}

-- what a body is checked against: the templates that are declared, the namespace, the parameters of its template
pub record Around : Type 0 where
  pub declared : List Declared
  pub namespace : Name
  pub params : List Param

abbrev pub Checked : Type 0
Checked = Result Scope TypeFault

-- a variable that isn't visible yet
abbrev pub new_variable : Name → Span → Scope → Checked
new_variable name span scope =
    if is_some (variable_type name scope) then fails code.Twice span.start name [] else Ok scope

-- the variables of a loop, two names that aren't visible yet; outside its body they stay so
abbrev pub new_variables : Name → Option Name → Span → Scope → Checked
new_variables name None span scope = new_variable name span scope
new_variables name (Some index) span scope =
    followed_by (new_variable name span scope) (λ s.
    followed_by (new_variable index span ((name, IntType) ∷ s)) (λ inner. Ok s))

abbrev pub has_member : List SoyType → Bool
has_member [] = false
has_member (m ∷ ms) = true

-- a printed type: made of null, bool, int and string alone, or exactly html or attributes, and with some member
abbrev pub is_printed : SoyType → Bool
is_printed HtmlType = true
is_printed AttributesType = true
is_printed t = has_member (members t) && is_simple t

-- an expression whose type passes
abbrev pub passing : (SoyType → Bool) → Expr → Scope → Checked
passing test e scope =
    followed_by (type_of e scope) (λ t. if test t then Ok scope else mistyped (span_of e) (type_text t) [])

abbrev pub each_passing : List Expr → Scope → Checked
each_passing [] scope = Ok scope
each_passing (e ∷ es) scope = followed_by (passing is_simple e scope) (λ s. each_passing es s)

-- the scope of a loop's body, by the type of its list
abbrev pub loop_scope : Name → Option Name → Expr → Scope → SoyType → Checked
loop_scope name None e scope (ListType t) = Ok ((name, t) ∷ scope)
loop_scope name (Some index) e scope (ListType t) = Ok ((index, IntType) ∷ ((name, t) ∷ scope))
loop_scope name index e scope t = mistyped (span_of e) (type_text t) []

abbrev pub accepted : SoyType → Span → SoyType → Scope → Checked
accepted to span given scope = if accepts to given then Ok scope else mistyped span (type_text to) (type_text given)

-- the first parameter of this name
abbrev pub param_of : Name → List Param → Option Param
param_of name [] = None
param_of name (p ∷ ps) = if bytes_eq p.name name then Some p else param_of name ps

abbrev pub names_given : Arguments → List Name
names_given no_argument = []
names_given (argument name given span rest) = name ∷ names_given rest

-- whether `data="all"` hands on a parameter of this name
abbrev pub hands_on : Bool → List Param → Name → Bool
hands_on all params name = all && is_some (param_of name params)

-- what a parameter of the callee demands of a call: a type that fits what is handed on, or else that it may be left out
abbrev pub handed : SoyType → Span → Option SoyType → Scope → Checked
handed to span None scope = Ok scope
handed to span (Some given) scope = accepted to span given scope

abbrev pub left_out : Param → Span → Scope → Checked
left_out p span scope = if p.required then fails code.Argument span.start p.name [] else Ok scope

-- what a parameter that no param names demands
abbrev pub unnamed_demand : Around → Bool → Span → Param → Scope → Checked
unnamed_demand c all span p scope =
    if hands_on all c.params p.name
    then handed (param_type p) span (variable_type p.name scope) scope
    else left_out p span scope

abbrev pub param_demand : Around → Bool → List Name → Span → Param → Scope → Checked
param_demand c all given span p scope =
    if is_among given p.name then Ok scope else unnamed_demand c all span p scope

abbrev pub param_demands : Around → Bool → List Name → Span → List Param → Scope → Checked
param_demands c all given span [] scope = Ok scope
param_demands c all given span (p ∷ ps) scope =
    followed_by (param_demand c all given span p scope) (λ s. param_demands c all given span ps s)

-- the callee's parameter that a param names, given once
abbrev pub known_param : Name → Span → Option Param → Result Param TypeFault
known_param name span None = fails code.Argument span.start name []
known_param name span (Some p) = Ok p

abbrev pub named_param : Name → Span → List Name → List Param → Result Param TypeFault
named_param name span before params =
    if is_among before name then fails code.Twice span.start name [] else known_param name span (param_of name params)

-- the parameters of the callee
abbrev pub params_of : Name → Span → Option Declared → Result (List Param) TypeFault
params_of full span None = fails code.Unknown span.start full []
params_of full span (Some d) = Ok d.template.params

abbrev pub callee_params : Around → Name → Span → Result (List Param) TypeFault
callee_params c name span = params_of (called_name c.namespace name) span (callee c.declared c.namespace name)

abbrev pub plain_argument : Expr → Param → Scope → Checked
plain_argument e p scope = followed_by (type_of e scope) (λ t. accepted (param_type p) (span_of e) t scope)

module _ (c : Around) where
  abbrev mutual
    -- the scope after a node
    pub after_node : Node → Scope → Checked
    after_node (TextNode text span) scope = Ok scope
    after_node (Print e phname span) scope =
        followed_by (type_of e scope) (λ t.
        if is_printed t then Ok scope else fails code.Kind span.start (type_text t) [])
    after_node (If arms other span) scope = followed_by (after_arms arms scope) (λ s. after_otherwise other s)
    after_node (Switch e cases other span) scope =
        followed_by (passing is_simple e scope) (λ s. followed_by (after_cases cases s) (λ s. after_otherwise other s))
    after_node (For name index e body span) scope =
        followed_by (new_variables name index span scope) (λ s.
        followed_by (type_of e s) (λ t.
        followed_by (loop_scope name index e s t) (λ inner. followed_by (after_nodes body inner) (λ end. Ok s))))
    after_node (Let name e span) scope =
        followed_by (new_variable name span scope) (λ s. followed_by (type_of e s) (λ t. Ok ((name, t) ∷ s)))
    after_node (LetBlock name kind body span) scope =
        followed_by (new_variable name span scope) (λ s.
        followed_by (after_nodes body s) (λ end. Ok ((name, kind_type kind) ∷ s)))
    after_node (Call name all given span) scope =
        followed_by (callee_params c name span) (λ params.
        followed_by (param_demands c all (names_given given) span params scope) (λ s.
        after_arguments given [] params s))
    after_node (MessageNode m other span) scope = followed_by (after_message m scope) (λ s. after_fallback other s)

    pub after_nodes : Nodes → Scope → Checked
    after_nodes no_node scope = Ok scope
    after_nodes (node n ns) scope = followed_by (after_node n scope) (λ s. after_nodes ns s)

    pub after_otherwise : Otherwise → Scope → Checked
    after_otherwise no_otherwise scope = Ok scope
    after_otherwise (otherwise body) scope = followed_by (after_nodes body scope) (λ end. Ok scope)

    pub after_arms : Arms → Scope → Checked
    after_arms no_arm scope = Ok scope
    after_arms (arm e body arms) scope =
        followed_by (type_of e scope) (λ t.
        followed_by (after_nodes body (narrowed e scope)) (λ end. after_arms arms scope))

    pub after_cases : Cases → Scope → Checked
    after_cases no_case scope = Ok scope
    after_cases (case values body cases) scope =
        followed_by (each_passing values scope) (λ s. followed_by (after_nodes body s) (λ end. after_cases cases s))

    -- the params of a call, after params of these names
    pub after_arguments : Arguments → List Name → List Param → Scope → Checked
    after_arguments no_argument before params scope = Ok scope
    after_arguments (argument name given span rest) before params scope =
        followed_by (named_param name span before params) (λ p.
        followed_by (after_given given span p scope) (λ s. after_arguments rest (name ∷ before) params s))

    pub after_given : Given → Span → Param → Scope → Checked
    after_given (Plain e) span p scope = plain_argument e p scope
    after_given (Block kind body) span p scope =
        followed_by (accepted (param_type p) span (kind_type kind) scope) (λ s.
        followed_by (after_nodes body s) (λ end. Ok s))

    pub after_message : Message → Scope → Checked
    after_message (message desc meaning body span) scope = after_body body scope

    pub after_fallback : Fallback → Scope → Checked
    after_fallback no_fallback scope = Ok scope
    after_fallback (fallback m) scope = after_message m scope

    pub after_body : MessageBody → Scope → Checked
    after_body (Parts ns) scope = followed_by (after_nodes ns scope) (λ end. Ok scope)
    after_body (Plural e offset cases other) scope =
        followed_by (passing is_int e scope) (λ s. followed_by (after_plural_cases cases s) (λ s. after_body other s))
    after_body (Select e cases other) scope =
        followed_by (passing is_string e scope) (λ s.
        followed_by (after_select_cases cases s) (λ s. after_body other s))

    pub after_plural_cases : PluralCases → Scope → Checked
    after_plural_cases no_plural_case scope = Ok scope
    after_plural_cases (plural_case n body cases) scope =
        followed_by (after_body body scope) (λ s. after_plural_cases cases s)

    pub after_select_cases : SelectCases → Scope → Checked
    after_select_cases no_select_case scope = Ok scope
    after_select_cases (select_case word body cases) scope =
        followed_by (after_body body scope) (λ s. after_select_cases cases s)
