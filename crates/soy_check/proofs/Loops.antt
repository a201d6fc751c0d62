-- What comes after a loop, an arm and a list of nodes.
use Rattle.std.specs.Prelude.{
  ◌≡◌,
  [],
  ◌∷◌,
  Bool,
  true,
  false,
  Option,
  Some,
  None,
  Result,
  Ok,
  Err,
  if◌then◌else◌,
  is_some,
}
use mathlib.Core.Path.{refl, ◌∙◌}
use Rattle.soy_base.specs.declared.code.Code.TheVariants as code
use Rattle.soy_base.specs.declared.fault.Span.{Span}
use Rattle.soy_tree.specs.Types.{Name, SoyType, NullType, BoolType, IntType, StringType, HtmlType, AttributesType}
use Rattle.soy_tree.specs.Types.{ListType, MapType, RecordType, UnionType}
use Rattle.soy_rules.specs.TypeText.{type_text}
use Rattle.soy_tree.specs.Expressions.{Expr, span_of}
use Rattle.soy_rules.specs.Faults.{TypeFault, followed_by, mistyped}
use Rattle.soy_rules.specs.TypeOf.{Scope, type_of, variable_type}
use Rattle.soy_tree.specs.Nodes.{Nodes, For}
use Rattle.soy_rules.specs.Bodies.{Around, Checked, after_node, after_nodes, loop_scope, new_variable, new_variables}
use Rattle.soy_check.specs.Rules.{item_type, loop_start, with_pair}

unchanged_if : (b : Bool) (f : TypeFault) (s : Scope) (new : Scope) → (if b then Err f else Ok s) ≡ Ok new → new ≡ s
unchanged_if true f s new h = cc
unchanged_if false f s new h = cc

same_variable : (name : Name) (span : Span) (s new : Scope) → new_variable name span s ≡ Ok new → new ≡ s
same_variable name span s new h =
    unchanged_if (is_some (variable_type name s)) (record {
      code = code.Twice;
      at = span.start;
      left = name;
      right = [];
    })
    s new h

same_after : (r : Checked) (s new : Scope) → followed_by r (λ inner. Ok s) ≡ Ok new → new ≡ s
same_after (Ok inner) s new h = cc
same_after (Err f) s new h = cc

same_first : (r : Checked) (next : Scope → Checked) (s new : Scope)
    → ((inner : Scope) → r ≡ Ok inner → inner ≡ s)
    → ((inner : Scope) → next inner ≡ Ok new → new ≡ inner)
    → followed_by r next ≡ Ok new → new ≡ s
same_first (Ok inner) next s new first rest h = rest inner h ∙ first inner refl
same_first (Err f) next s new first rest h = cc

same_variables : (name : Name) (index : Option Name) (span : Span) (s new : Scope)
    → new_variables name index span s ≡ Ok new → new ≡ s
same_variables name None span s new h = same_variable name span s new h
same_variables name (Some index) span s new h =
    same_first (new_variable name span s)
    (λ s. followed_by (new_variable index span ((name, IntType) ∷ s)) (λ inner. Ok s)) s new
    (λ inner. same_variable name span s inner)
    (λ inner. same_after (new_variable index span ((name, IntType) ∷ inner)) inner new) h

typed_loop : (r : Result SoyType TypeFault) (s : Scope) (start : SoyType → Checked) (body : Scope → Checked)
    → followed_by r (λ t. followed_by (start t) (λ inner. followed_by (body inner) (λ end. Ok s)))
    ≡ followed_by (followed_by r (λ t. start t)) (λ inner. followed_by (body inner) (λ end. Ok s))
typed_loop (Ok t) s start body = refl
typed_loop (Err f) s start body = refl

started_loop : (r : Checked) (s : Scope) (typed : Scope → Result SoyType TypeFault) (start : Scope → SoyType → Checked)
    (body : Scope → Checked) → ((new : Scope) → r ≡ Ok new → new ≡ s)
    → followed_by r (λ s. followed_by (typed s) (λ t. followed_by (start s t) (λ inner. followed_by (body inner) (λ
    end. Ok s))))
    ≡ followed_by (followed_by r (λ s. followed_by (typed s) (λ t. start s t))) (λ inner. followed_by (body inner) (λ
    end. Ok s))
started_loop (Ok new) s typed start body same =
    rw (same new refl) (typed_loop (typed s) s (start s) body)
started_loop (Err f) s typed start body same = refl

-- a loop is its start, and then its body
pub loop_is : (around : Around) (name : Name) (index : Option Name) (e : Expr) (body : Nodes) (span : Span) (s : Scope)
    → after_node around (For name index e body span) s
    ≡ followed_by (loop_start name index e span s) (λ inner. followed_by (after_nodes around body inner) (λ end. Ok s))
loop_is around name index e body span s =
    started_loop (new_variables name index span s) s (type_of e) (loop_scope name index e) (after_nodes around body)
    (λ new. same_variables name index span s new)

-- the scope of a loop's body, by the type of the items
pub scope_of_items : (name : Name) (index : Option Name) (e : Expr) (s : Scope) (t item : SoyType)
    → item_type t ≡ Some item → loop_scope name index e s t ≡ Ok (with_pair name index item s)
scope_of_items name None e s (ListType t) item h = cc
scope_of_items name (Some index) e s (ListType t) item h = cc
scope_of_items name index e s NullType item h = cc
scope_of_items name index e s BoolType item h = cc
scope_of_items name index e s IntType item h = cc
scope_of_items name index e s StringType item h = cc
scope_of_items name index e s HtmlType item h = cc
scope_of_items name index e s AttributesType item h = cc
scope_of_items name index e s (MapType t) item h = cc
scope_of_items name index e s (RecordType fields) item h = cc
scope_of_items name index e s (UnionType ts) item h = cc

pub no_items : (name : Name) (index : Option Name) (e : Expr) (s : Scope) (t : SoyType)
    → item_type t ≡ None → loop_scope name index e s t ≡ mistyped (span_of e) (type_text t) []
no_items name index e s (ListType t) h = cc
no_items name None e s NullType h = refl
no_items name (Some index) e s NullType h = refl
no_items name None e s BoolType h = refl
no_items name (Some index) e s BoolType h = refl
no_items name None e s IntType h = refl
no_items name (Some index) e s IntType h = refl
no_items name None e s StringType h = refl
no_items name (Some index) e s StringType h = refl
no_items name None e s HtmlType h = refl
no_items name (Some index) e s HtmlType h = refl
no_items name None e s AttributesType h = refl
no_items name (Some index) e s AttributesType h = refl
no_items name None e s (MapType t) h = refl
no_items name (Some index) e s (MapType t) h = refl
no_items name None e s (RecordType fields) h = refl
no_items name (Some index) e s (RecordType fields) h = refl
no_items name None e s (UnionType ts) h = refl
no_items name (Some index) e s (UnionType ts) h = refl
