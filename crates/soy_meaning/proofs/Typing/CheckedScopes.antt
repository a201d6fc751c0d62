-- Which scope the checker hands on past a command.
use Rattle.std.proofs.Common.{◌≡◌, Bool, true, false, List, [], ◌∷◌, Option, Some, None, Result, Ok, Err, if◌then◌else◌}
use Rattle.std.proofs.Common.{refl, sym, ap, ◌∙◌, subst}
use Rattle.std.specs.Prelude.{is_some}
use Rattle.soy_base.specs.declared.fault.Span.{Span}
use Rattle.soy_base.specs.declared.kind.Kind.{Kind}
use Rattle.soy_rules.specs.Accepts.{accepts}
use Rattle.soy_rules.specs.Bodies.{Around, Checked, accepted, after_arguments, after_arms, after_body, after_cases}
use Rattle.soy_rules.specs.Bodies.{after_fallback, after_given, after_message, after_node, after_nodes, after_otherwise}
use Rattle.soy_rules.specs.Bodies.{after_plural_cases, after_select_cases, callee_params, each_passing, handed}
use Rattle.soy_rules.specs.Bodies.{hands_on, is_printed, left_out, loop_scope, named_param, names_given, new_variable}
use Rattle.soy_rules.specs.Bodies.{new_variables, param_demand, param_demands, passing, unnamed_demand}
use Rattle.soy_base.specs.Among.{is_among}
use Rattle.soy_tree.specs.Expressions.{Expr, span_of}
use Rattle.soy_rules.specs.Faults.{TypeFault, followed_by}
use Rattle.soy_rules.specs.Members.{is_simple}
use Rattle.soy_rules.specs.Narrowing.{narrowed}
use Rattle.soy_tree.specs.Nodes.{Node, Nodes, Otherwise, Arms, Cases, Arguments, Given, Message, Fallback, MessageBody}
use Rattle.soy_tree.specs.Nodes.{PluralCases, SelectCases, TextNode, Print, If, Switch, For, Let, LetBlock, Call}
use Rattle.soy_tree.specs.Nodes.{MessageNode, no_otherwise, otherwise, no_arm, arm, no_case, case, no_argument}
use Rattle.soy_tree.specs.Nodes.{argument, Plain, Block, message, no_fallback, fallback, Parts, Plural, Select}
use Rattle.soy_tree.specs.Nodes.{no_plural_case, plural_case, no_select_case, select_case}
use Rattle.soy_rules.specs.Templates.{kind_type, param_type}
use Rattle.soy_tree.specs.Trees.{Param}
use Rattle.soy_rules.specs.TypeOf.{Scope, is_int, is_string, type_of, variable_type}
use Rattle.soy_tree.specs.Types.{Name, SoyType, IntType}
use Rattle.soy_rules.proofs.ValueTypes.{Stepped, stepped}
use Rattle.soy_meaning.specs.Paths.PlanOfNodes.{scope_past, with_variable}

pub ok_is : {A : Type 0} (x y : A) → ◌≡◌ {A = Result A TypeFault} (Ok x) (Ok y) → x ≡ y
ok_is x y e = cc

pub fault_none : {A : Type 0} (fault : TypeFault) (x : A) → ◌≡◌ {A = Result A TypeFault} (Err fault) (Ok x) → ⊥
fault_none fault x e = cc

-- a test that passes
pub passed : {A : Type 0} (test : Bool) (x y : A) (fault : TypeFault)
    → ◌≡◌ {A = Result A TypeFault} (if test then Ok x else Err fault) (Ok y) → (test ≡ true) × (x ≡ y)
passed true x y fault e = (refl, ok_is x y e)
passed false x y fault e = absurd (fault_none fault y e)

-- where it goes on, it goes on in this scope
abbrev pub Keeps : Checked → Scope → Type 0
Keeps r scope = (s : Scope) → r ≡ Ok s → scope ≡ s

pub keeps_here : (scope : Scope) → Keeps (Ok scope) scope
keeps_here scope s e = ok_is scope s e

keeps_fault : (fault : TypeFault) (scope : Scope) → Keeps (Err fault) scope
keeps_fault fault scope s e = absurd (fault_none fault s e)

keeps_if : (test : Bool) (one other : Checked) (scope : Scope) → Keeps one scope → Keeps other scope
    → Keeps (if test then one else other) scope
keeps_if true one other scope h k = h
keeps_if false one other scope h k = k

-- past a step that goes on in this scope
pub kept : (r : Checked) (next : Scope → Checked) (scope s : Scope) → Keeps r scope → followed_by r next ≡ Ok s
    → next scope ≡ Ok s
kept (Ok t) next scope s keeps e = subst (λ z. next z ≡ Ok s) (sym (keeps t refl)) e
kept (Err fault) next scope s keeps e = absurd (fault_none fault s e)

keeps_then : (r : Checked) (next : Scope → Checked) (scope : Scope) → Keeps r scope → Keeps (next scope) scope
    → Keeps (followed_by r next) scope
keeps_then r next scope h k s e = k s (kept r next scope s h e)

keeps_any : {A : Type 0} (r : Result A TypeFault) (next : A → Checked) (scope : Scope)
    → ((x : A) → Keeps (next x) scope) → Keeps (followed_by r next) scope
keeps_any (Ok x) next scope h s e = h x s e
keeps_any (Err fault) next scope h s e = absurd (fault_none fault s e)

pub keeps_new : (name : Name) (span : Span) (scope : Scope) → Keeps (new_variable name span scope) scope
keeps_new name span scope = keeps_if (is_some (variable_type name scope)) _ (Ok scope) scope (keeps_fault _ scope)
    (keeps_here scope)

pub keeps_news : (name : Name) (index : Option Name) (span : Span) (scope : Scope)
    → Keeps (new_variables name index span scope) scope
keeps_news name None span scope = keeps_new name span scope
keeps_news name (Some index) span scope =
    keeps_then (new_variable name span scope) _ scope (keeps_new name span scope)
    (keeps_any (new_variable index span ((name, IntType) ∷ scope)) _ scope (λ inner. keeps_here scope))

pub keeps_passing : (test : SoyType → Bool) (e : Expr) (scope : Scope) → Keeps (passing test e scope) scope
keeps_passing test e scope =
    keeps_any (type_of e scope) _ scope (λ t. keeps_if (test t) (Ok scope) _ scope (keeps_here scope)
    (keeps_fault _ scope))

pub keeps_each : (es : List Expr) (scope : Scope) → Keeps (each_passing es scope) scope
keeps_each [] scope = keeps_here scope
keeps_each (e ∷ es) scope =
    keeps_then (passing is_simple e scope) _ scope (keeps_passing is_simple e scope) (keeps_each es scope)

pub keeps_accepted : (to : SoyType) (span : Span) (given : SoyType) (scope : Scope)
    → Keeps (accepted to span given scope) scope
keeps_accepted to span given scope =
    keeps_if (accepts to given) (Ok scope) _ scope (keeps_here scope) (keeps_fault _ scope)

keeps_handed : (to : SoyType) (span : Span) (given : Option SoyType) (scope : Scope)
    → Keeps (handed to span given scope) scope
keeps_handed to span None scope = keeps_here scope
keeps_handed to span (Some given) scope = keeps_accepted to span given scope

module _ (a : Around) where
  pub keeps_demand : (all : Bool) (given : List Name) (span : Span) (p : Param) (scope : Scope)
      → Keeps (param_demand a all given span p scope) scope
  keeps_demand all given span p scope =
      keeps_if (is_among given p.name) (Ok scope) (unnamed_demand a all span p scope) scope (keeps_here scope)
      (keeps_if (hands_on all a.params p.name) (handed (param_type p) span (variable_type p.name scope) scope)
      (left_out p span scope) scope (keeps_handed (param_type p) span (variable_type p.name scope) scope)
      (keeps_if p.required _ (Ok scope) scope (keeps_fault _ scope) (keeps_here scope)))

  pub keeps_demands : (all : Bool) (given : List Name) (span : Span) (ps : List Param) (scope : Scope)
      → Keeps (param_demands a all given span ps scope) scope
  keeps_demands all given span [] scope = keeps_here scope
  keeps_demands all given span (p ∷ ps) scope =
      keeps_then (param_demand a all given span p scope) _ scope (keeps_demand all given span p scope)
      (keeps_demands all given span ps scope)

  pub keeps_other : (other : Otherwise) (scope : Scope) → Keeps (after_otherwise a other scope) scope
  keeps_other no_otherwise scope = keeps_here scope
  keeps_other (otherwise body) scope = keeps_any (after_nodes a body scope) _ scope (λ end. keeps_here scope)

  pub keeps_arms : (arms : Arms) (scope : Scope) → Keeps (after_arms a arms scope) scope
  keeps_arms no_arm scope = keeps_here scope
  keeps_arms (arm e body arms) scope =
      keeps_any (type_of e scope) _ scope
      (λ t. keeps_any (after_nodes a body (narrowed e scope)) _ scope (λ end. keeps_arms arms scope))

  pub keeps_cases : (cases : Cases) (scope : Scope) → Keeps (after_cases a cases scope) scope
  keeps_cases no_case scope = keeps_here scope
  keeps_cases (case values body cases) scope =
      keeps_then (each_passing values scope) _ scope (keeps_each values scope)
      (keeps_any (after_nodes a body scope) _ scope (λ end. keeps_cases cases scope))

  pub keeps_given : (given : Given) (span : Span) (p : Param) (scope : Scope)
      → Keeps (after_given a given span p scope) scope
  keeps_given (Plain e) span p scope =
      keeps_any (type_of e scope) _ scope (λ t. keeps_accepted (param_type p) (span_of e) t scope)
  keeps_given (Block kind body) span p scope =
      keeps_then (accepted (param_type p) span (kind_type kind) scope) _ scope
      (keeps_accepted (param_type p) span (kind_type kind) scope)
      (keeps_any (after_nodes a body scope) _ scope (λ end. keeps_here scope))

  pub keeps_arguments : (given : Arguments) (before : List Name) (params : List Param) (scope : Scope)
      → Keeps (after_arguments a given before params scope) scope
  keeps_arguments no_argument before params scope = keeps_here scope
  keeps_arguments (argument name given span rest) before params scope =
      keeps_any (named_param name span before params) _ scope
      (λ p. keeps_then (after_given a given span p scope) _ scope (keeps_given given span p scope)
      (keeps_arguments rest (name ∷ before) params scope))

  mutual
    pub keeps_body : (body : MessageBody) (scope : Scope) → Keeps (after_body a body scope) scope
    keeps_body (Parts ns) scope = keeps_any (after_nodes a ns scope) _ scope (λ end. keeps_here scope)
    keeps_body (Plural e offset cases other) scope =
        keeps_then (passing is_int e scope) _ scope (keeps_passing is_int e scope)
        (keeps_then (after_plural_cases a cases scope) _ scope (keeps_plural cases scope) (keeps_body other scope))
    keeps_body (Select e cases other) scope =
        keeps_then (passing is_string e scope) _ scope (keeps_passing is_string e scope)
        (keeps_then (after_select_cases a cases scope) _ scope (keeps_select cases scope) (keeps_body other scope))

    pub keeps_plural : (cases : PluralCases) (scope : Scope) → Keeps (after_plural_cases a cases scope) scope
    keeps_plural no_plural_case scope = keeps_here scope
    keeps_plural (plural_case n body cases) scope =
        keeps_then (after_body a body scope) _ scope (keeps_body body scope) (keeps_plural cases scope)

    pub keeps_select : (cases : SelectCases) (scope : Scope) → Keeps (after_select_cases a cases scope) scope
    keeps_select no_select_case scope = keeps_here scope
    keeps_select (select_case word body cases) scope =
        keeps_then (after_body a body scope) _ scope (keeps_body body scope) (keeps_select cases scope)

  pub keeps_message : (m : Message) (scope : Scope) → Keeps (after_message a m scope) scope
  keeps_message (message desc meaning body span) scope = keeps_body body scope

  keeps_fallback : (other : Fallback) (scope : Scope) → Keeps (after_fallback a other scope) scope
  keeps_fallback no_fallback scope = keeps_here scope
  keeps_fallback (fallback m) scope = keeps_message m scope

  let_past : (name : Name) (e : Expr) (span : Span) (scope : Scope)
      → Keeps (after_node a (Let name e span) scope) (scope_past (Let name e span) scope)
  let_past name e span scope s h =
      let rest : followed_by (type_of e scope) (λ t. Ok ((name, t) ∷ scope)) ≡ Ok s =
      kept (new_variable name span scope) _ scope s (keeps_new name span scope) h in
      let one : Stepped (type_of e scope) (λ t. Ok ((name, t) ∷ scope)) s = stepped (type_of e scope) _ s rest in
      ap (λ r. with_variable name r scope) one.first ∙ ok_is ((name, one.got) ∷ scope) s one.then_

  block_past : (name : Name) (kind : Kind) (body : Nodes) (span : Span) (scope : Scope)
      → Keeps (after_node a (LetBlock name kind body span) scope) ((name, kind_type kind) ∷ scope)
  block_past name kind body span scope s h =
      let rest : followed_by (after_nodes a body scope) (λ end. Ok ((name, kind_type kind) ∷ scope)) ≡ Ok s =
      kept (new_variable name span scope) _ scope s (keeps_new name span scope) h in
      let one : Stepped (after_nodes a body scope) (λ end. Ok ((name, kind_type kind) ∷ scope)) s =
      stepped (after_nodes a body scope) _ s rest in ok_is ((name, kind_type kind) ∷ scope) s one.then_

  -- past a node
  pub node_past : (n : Node) (scope : Scope) → Keeps (after_node a n scope) (scope_past n scope)
  node_past (TextNode text span) scope = keeps_here scope
  node_past (Print e phname span) scope =
      keeps_any (type_of e scope) _ scope
      (λ t. keeps_if (is_printed t) (Ok scope) _ scope (keeps_here scope) (keeps_fault _ scope))
  node_past (If arms other span) scope =
      keeps_then (after_arms a arms scope) _ scope (keeps_arms arms scope) (keeps_other other scope)
  node_past (Switch e cases other span) scope =
      keeps_then (passing is_simple e scope) _ scope (keeps_passing is_simple e scope)
      (keeps_then (after_cases a cases scope) _ scope (keeps_cases cases scope) (keeps_other other scope))
  node_past (For name index e body span) scope =
      keeps_then (new_variables name index span scope) _ scope (keeps_news name index span scope)
      (keeps_any (type_of e scope) _ scope (λ t. keeps_any (loop_scope name index e scope t) _ scope
      (λ inner. keeps_any (after_nodes a body inner) _ scope (λ end. keeps_here scope))))
  node_past (Let name e span) scope = let_past name e span scope
  node_past (LetBlock name kind body span) scope = block_past name kind body span scope
  node_past (Call name all given span) scope =
      keeps_any (callee_params a name span) _ scope
      (λ params. keeps_then (param_demands a all (names_given given) span params scope) _ scope
      (keeps_demands all (names_given given) span params scope) (keeps_arguments given [] params scope))
  node_past (MessageNode m other span) scope =
      keeps_then (after_message a m scope) _ scope (keeps_message m scope) (keeps_fallback other scope)
