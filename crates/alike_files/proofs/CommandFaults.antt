-- What a command demands of its variables, its expressions and its params reads no more of spans than where a fault is.
use Rattle.std.proofs.Common.{◌≡◌, Bool, true, false, List, [], ◌∷◌, map, Option, Some, None, refl}
use Rattle.std.specs.Prelude.{is_some, option_map}
use Rattle.soy_base.specs.declared.fault.Span.{Span}
use Rattle.soy_rules.specs.Accepts.{accepts}
use Rattle.soy_rules.specs.Bodies.{Around, accepted, callee_params, each_passing, handed, hands_on, known_param}
use Rattle.soy_rules.specs.Bodies.{left_out, loop_scope, named_param, names_given, new_variable, new_variables}
use Rattle.soy_rules.specs.Bodies.{param_demand, param_demands, param_of, params_of, passing, plain_argument}
use Rattle.soy_rules.specs.Bodies.{unnamed_demand}
use Rattle.soy_base.specs.Among.{is_among}
use Rattle.soy_tree.specs.Expressions.{Expr, NullLiteral, BoolLiteral, IntLiteral, StringLiteral, Variable, Member}
use Rattle.soy_tree.specs.Expressions.{Index, Minus, Not, Binary, Coalesce, Conditional, span_of}
use Rattle.soy_rules.specs.Faults.{mistyped}
use Rattle.soy_rules.specs.Members.{is_simple}
use Rattle.soy_tree.specs.Nodes.{Arguments, no_argument, argument}
use Rattle.soy_rules.specs.Templates.{Declared, callee, called_name, param_type}
use Rattle.soy_tree.specs.Trees.{Param}
use Rattle.soy_rules.specs.TypeOf.{Scope, type_of, variable_type}
use Rattle.soy_tree.specs.Types.{Name, SoyType, IntType, ListType}
use Rattle.soy_format.specs.WithoutSpans.{arguments_without_spans, expr_without_spans, no_span, param_without_spans}
use Rattle.alike_files.proofs.DeclaredTemplates.{callee_same, declared_without_spans, has_param_same, param_of_same}
use Rattle.alike_files.proofs.ExpressionTypes.{type_same}
use Rattle.alike_files.proofs.Faults.{followed, placeless, placeless_by, tested}

abbrev pub around_without_spans : Around → Around
around_without_spans c =
    record c { declared = map declared_without_spans c.declared; params = map param_without_spans c.params }

-- ---- variables

pub new_variable_same : (name : Name) (span : Span) (scope : Scope)
    → new_variable name no_span scope ≡ placeless (new_variable name span scope)
new_variable_same name span scope = tested (is_some (variable_type name scope)) _ _ _ _ refl refl

pub new_variables_same : (name : Name) (index : Option Name) (span : Span) (scope : Scope)
    → new_variables name index no_span scope ≡ placeless (new_variables name index span scope)
new_variables_same name None span scope = new_variable_same name span scope
new_variables_same name (Some index) span scope =
    followed (new_variable name span scope) _ _ _ (new_variable_same name span scope) (λ s.
    followed (new_variable index span ((name, IntType) ∷ s)) _ _ _
    (new_variable_same index span ((name, IntType) ∷ s)) (λ inner. refl))

-- ---- expressions

pub span_of_same : (e : Expr) → span_of (expr_without_spans e) ≡ no_span
span_of_same (NullLiteral span) = refl
span_of_same (BoolLiteral b span) = refl
span_of_same (IntLiteral n span) = refl
span_of_same (StringLiteral text span) = refl
span_of_same (Variable name span) = refl
span_of_same (Member e name takes_null span) = refl
span_of_same (Index e i takes_null span) = refl
span_of_same (Minus e span) = refl
span_of_same (Not e span) = refl
span_of_same (Binary o a b span) = refl
span_of_same (Coalesce a b span) = refl
span_of_same (Conditional c a b span) = refl

mistyped_same : {A : Type 0} (e : Expr) (left right : Name)
    → mistyped {A = A} (span_of (expr_without_spans e)) left right ≡ placeless (mistyped (span_of e) left right)
mistyped_same e left right = rw (span_of_same e) refl

pub passing_same : (test : SoyType → Bool) (e : Expr) (scope : Scope)
    → passing test (expr_without_spans e) scope ≡ placeless (passing test e scope)
passing_same test e scope =
    followed (type_of e scope) (type_of (expr_without_spans e) scope) _ _ (type_same e scope) (λ t.
    tested (test t) _ _ _ _ refl (mistyped_same e _ _))

pub each_passing_same : (es : List Expr) (scope : Scope)
    → each_passing (map expr_without_spans es) scope ≡ placeless (each_passing es scope)
each_passing_same [] scope = refl
each_passing_same (e ∷ es) scope =
    followed (passing is_simple e scope) _ _ _ (passing_same is_simple e scope) (λ s. each_passing_same es s)

pub loop_scope_same : (name : Name) (index : Option Name) (e : Expr) (scope : Scope) (t : SoyType)
    → loop_scope name index (expr_without_spans e) scope t ≡ placeless (loop_scope name index e scope t)
loop_scope_same name None e scope (ListType t) = refl
loop_scope_same name (Some index) e scope (ListType t) = refl
loop_scope_same name None e scope _ = mistyped_same e _ _
loop_scope_same name (Some index) e scope _ = mistyped_same e _ _

pub accepted_same : (to : SoyType) (span : Span) (given : SoyType) (scope : Scope)
    → accepted to no_span given scope ≡ placeless (accepted to span given scope)
accepted_same to span given scope = tested (accepts to given) _ _ _ _ refl refl

-- the same at an expression
accepted_at : (to : SoyType) (e : Expr) (given : SoyType) (scope : Scope)
    → accepted to (span_of (expr_without_spans e)) given scope ≡ placeless (accepted to (span_of e) given scope)
accepted_at to e given scope = rw (span_of_same e) (accepted_same to (span_of e) given scope)

pub plain_argument_same : (e : Expr) (p : Param) (scope : Scope)
    → plain_argument (expr_without_spans e) (param_without_spans p) scope ≡ placeless (plain_argument e p scope)
plain_argument_same e p scope =
    followed (type_of e scope) (type_of (expr_without_spans e) scope) _ _ (type_same e scope) (λ t.
    accepted_at (param_type p) e t scope)

-- ---- calls

pub names_given_same : (given : Arguments) → names_given (arguments_without_spans given) ≡ names_given given
names_given_same no_argument = refl
names_given_same (argument name given span rest) = rw (names_given_same rest) refl

hands_on_same : (all : Bool) (ps : List Param) (name : Name)
    → hands_on all (map param_without_spans ps) name ≡ hands_on all ps name
hands_on_same all ps name = rw (has_param_same name ps) refl

handed_same : (to : SoyType) (span : Span) (o : Option SoyType) (scope : Scope)
    → handed to no_span o scope ≡ placeless (handed to span o scope)
handed_same to span None scope = refl
handed_same to span (Some given) scope = accepted_same to span given scope

left_out_same : (p : Param) (span : Span) (scope : Scope)
    → left_out (param_without_spans p) no_span scope ≡ placeless (left_out p span scope)
left_out_same p span scope = tested p.required _ _ _ _ refl refl

unnamed_same : (c : Around) (all : Bool) (span : Span) (p : Param) (scope : Scope)
    → unnamed_demand (around_without_spans c) all no_span (param_without_spans p) scope
    ≡ placeless (unnamed_demand c all span p scope)
unnamed_same c all span p scope =
    rw (hands_on_same all c.params p.name)
    (tested (hands_on all c.params p.name) _ _ _ _
    (handed_same (param_type p) span (variable_type p.name scope) scope) (left_out_same p span scope))

param_demand_same : (c : Around) (all : Bool) (given : List Name) (span : Span) (p : Param) (scope : Scope)
    → param_demand (around_without_spans c) all given no_span (param_without_spans p) scope
    ≡ placeless (param_demand c all given span p scope)
param_demand_same c all given span p scope =
    tested (is_among given p.name) _ _ _ _ refl (unnamed_same c all span p scope)

pub param_demands_same : (c : Around) (all : Bool) (given : List Name) (span : Span) (ps : List Param) (scope : Scope)
    → param_demands (around_without_spans c) all given no_span (map param_without_spans ps) scope
    ≡ placeless (param_demands c all given span ps scope)
param_demands_same c all given span [] scope = refl
param_demands_same c all given span (p ∷ ps) scope =
    followed (param_demand c all given span p scope) _ _ _ (param_demand_same c all given span p scope) (λ s.
    param_demands_same c all given span ps s)

known_param_same : (name : Name) (span : Span) (o : Option Param)
    → known_param name no_span (option_map param_without_spans o)
    ≡ placeless_by param_without_spans (known_param name span o)
known_param_same name span None = refl
known_param_same name span (Some p) = refl

named_test : (b : Bool) (name : Name) (span : Span) (ps : List Param) (before : List Name)
    → is_among before name ≡ b → named_param name no_span before (map param_without_spans ps)
    ≡ placeless_by param_without_spans (named_param name span before ps)
named_test true name span ps before e = rw e refl
named_test false name span ps before e =
    rw (e, param_of_same name ps) (known_param_same name span (param_of name ps))

pub named_param_same : (name : Name) (span : Span) (before : List Name) (ps : List Param)
    → named_param name no_span before (map param_without_spans ps)
    ≡ placeless_by param_without_spans (named_param name span before ps)
named_param_same name span before ps = named_test (is_among before name) name span ps before refl

params_of_same : (full : Name) (span : Span) (o : Option Declared)
    → params_of full no_span (option_map declared_without_spans o)
    ≡ placeless_by (map param_without_spans) (params_of full span o)
params_of_same full span None = refl
params_of_same full span (Some d) = refl

pub callee_params_same : (c : Around) (name : Name) (span : Span)
    → callee_params (around_without_spans c) name no_span
    ≡ placeless_by (map param_without_spans) (callee_params c name span)
callee_params_same c name span =
    rw (callee_same c.declared c.namespace name)
    (params_of_same (called_name c.namespace name) span (callee c.declared c.namespace name))
