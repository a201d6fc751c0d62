-- The type of an expression reads none of its spans; its first fault is the same but for its position.
use Rattle.std.proofs.Common.{◌≡◌, Bool, true, false, Option, Some, None, refl}
use Rattle.std.specs.Prelude.{pos, negsuc, Ok, ◌&&◌, ◌||◌, not}
use Rattle.soy_base.specs.declared.fault.Span.{Span}
use Rattle.soy_tree.specs.declared.expr.BinaryOp.{BinaryOp}
use Rattle.soy_tree.specs.declared.expr.BinaryOp.TheVariants as op
use Rattle.soy_tree.specs.Types.{Name, SoyType, NullType, BoolType, IntType, StringType}
use Rattle.soy_tree.specs.Types.{ListType, MapType, RecordType}
use Rattle.soy_rules.specs.Members.{has_block, is_simple, joined, type_without_null}
use Rattle.soy_rules.specs.Faults.{found}
use Rattle.soy_tree.specs.Expressions.{Expr, NullLiteral, BoolLiteral, IntLiteral, StringLiteral, Variable, Member}
use Rattle.soy_tree.specs.Expressions.{Index, Minus, Not, Binary, Coalesce, Conditional}
use Rattle.soy_rules.specs.TypeOf.{Scope, accessed_type, are_texts, binary_type, choice_type, field_type, fitting}
use Rattle.soy_rules.specs.TypeOf.{index_type, is_divisor, is_int, is_null_literal, is_string, member_type, sum_type}
use Rattle.soy_rules.specs.TypeOf.{type_of, variable_type}
use Rattle.soy_format.specs.WithoutSpans.{expr_without_spans, no_span}
use Rattle.alike_files.proofs.Faults.{followed, placeless, tested}

found_same : {A : Type 0} (name : Name) (span : Span) (o : Option A)
    → found name no_span o ≡ placeless (found name span o)
found_same name span None = refl
found_same name span (Some t) = refl

fitting_same : (fits : Bool) (t : SoyType) (span : Span) (left right : SoyType)
    → fitting fits t no_span left right ≡ placeless (fitting fits t span left right)
fitting_same true t span left right = refl
fitting_same false t span left right = refl

pub null_literal_same : (e : Expr) → is_null_literal (expr_without_spans e) ≡ is_null_literal e
null_literal_same (NullLiteral span) = refl
null_literal_same (BoolLiteral b span) = refl
null_literal_same (IntLiteral n span) = refl
null_literal_same (StringLiteral text span) = refl
null_literal_same (Variable name span) = refl
null_literal_same (Member e name takes_null span) = refl
null_literal_same (Index e i takes_null span) = refl
null_literal_same (Minus e span) = refl
null_literal_same (Not e span) = refl
null_literal_same (Binary o a b span) = refl
null_literal_same (Coalesce a b span) = refl
null_literal_same (Conditional c a b span) = refl

divisor_same : (e : Expr) → is_divisor (expr_without_spans e) ≡ is_divisor e
divisor_same (NullLiteral span) = refl
divisor_same (BoolLiteral b span) = refl
divisor_same (IntLiteral (pos n) span) = refl
divisor_same (IntLiteral (negsuc n) span) = refl
divisor_same (StringLiteral text span) = refl
divisor_same (Variable name span) = refl
divisor_same (Member e name takes_null span) = refl
divisor_same (Index e i takes_null span) = refl
divisor_same (Minus e span) = refl
divisor_same (Not e span) = refl
divisor_same (Binary o a b span) = refl
divisor_same (Coalesce a b span) = refl
divisor_same (Conditional c a b span) = refl

sum_same : (span : Span) (t u : SoyType) → sum_type no_span t u ≡ placeless (sum_type span t u)
sum_same span t u =
    tested (is_int t && is_int u) (Ok IntType) (fitting (are_texts t u) StringType span t u) (Ok IntType)
    (fitting (are_texts t u) StringType no_span t u) refl (fitting_same (are_texts t u) StringType span t u)

binary_same : (o : BinaryOp) (a b : Expr) (span : Span) (t u : SoyType)
    → binary_type o (expr_without_spans a) (expr_without_spans b) no_span t u
    ≡ placeless (binary_type o a b span t u)
binary_same op.Mul a b span t u = fitting_same (is_int t && is_int u) IntType span t u
binary_same op.Rem a b span t u = rw (divisor_same b) (fitting_same (is_int t && is_divisor b) IntType span t u)
binary_same op.Add a b span t u = sum_same span t u
binary_same op.Sub a b span t u = fitting_same (is_int t && is_int u) IntType span t u
binary_same op.Eq a b span t u =
    rw (null_literal_same a, null_literal_same b)
    (fitting_same (is_simple t && is_simple u || is_null_literal a || is_null_literal b) BoolType span t u)
binary_same op.Ne a b span t u =
    rw (null_literal_same a, null_literal_same b)
    (fitting_same (is_simple t && is_simple u || is_null_literal a || is_null_literal b) BoolType span t u)
binary_same op.And a b span t u = refl
binary_same op.Or a b span t u = refl
binary_same _ a b span t u = fitting_same (is_int t && is_int u || is_string t && is_string u) BoolType span t u

member_same : (name : Name) (span : Span) (left t : SoyType)
    → member_type name no_span left t ≡ placeless (member_type name span left t)
member_same name span left (RecordType fields) = found_same name span (field_type name fields)
member_same name span left _ = refl

index_same : (span : Span) (left t u : SoyType)
    → index_type no_span left t u ≡ placeless (index_type span left t u)
index_same span left (ListType t) u = fitting_same (is_int u) (joined t NullType) span left u
index_same span left (MapType t) u = fitting_same (is_string u) (joined t NullType) span left u
index_same span left _ u = refl

choice_same : (span : Span) (s t u : SoyType) → choice_type no_span s t u ≡ placeless (choice_type span s t u)
choice_same span s t u =
    tested (has_block s) _ (fitting (not (has_block t || has_block u)) (joined t u) span t u) _
    (fitting (not (has_block t || has_block u)) (joined t u) no_span t u) refl
    (fitting_same (not (has_block t || has_block u)) (joined t u) span t u)

-- **the type is the same, or the fault but for its position**
pub type_same : (e : Expr) (scope : Scope) → type_of (expr_without_spans e) scope ≡ placeless (type_of e scope)
type_same (NullLiteral span) scope = refl
type_same (BoolLiteral b span) scope = refl
type_same (IntLiteral n span) scope = refl
type_same (StringLiteral text span) scope = refl
type_same (Variable name span) scope = found_same name span (variable_type name scope)
type_same (Member e name takes_null span) scope =
    followed (type_of e scope) (type_of (expr_without_spans e) scope) _ _ (type_same e scope) (λ t.
    followed (member_type name span t (accessed_type takes_null t)) _ _ _
    (member_same name span t (accessed_type takes_null t)) (λ u. refl))
type_same (Index e i takes_null span) scope =
    followed (type_of e scope) (type_of (expr_without_spans e) scope) _ _ (type_same e scope) (λ t.
    followed (type_of i scope) (type_of (expr_without_spans i) scope) _ _ (type_same i scope) (λ k.
    followed (index_type span t (accessed_type takes_null t) k) _ _ _
    (index_same span t (accessed_type takes_null t) k) (λ u. refl)))
type_same (Minus e span) scope =
    followed (type_of e scope) (type_of (expr_without_spans e) scope) _ _ (type_same e scope) (λ t.
    tested (is_int t) _ _ _ _ refl refl)
type_same (Not e span) scope =
    followed (type_of e scope) (type_of (expr_without_spans e) scope) _ _ (type_same e scope) (λ t. refl)
type_same (Binary o a b span) scope =
    followed (type_of a scope) (type_of (expr_without_spans a) scope) _ _ (type_same a scope) (λ t.
    followed (type_of b scope) (type_of (expr_without_spans b) scope) _ _ (type_same b scope) (λ u.
    binary_same o a b span t u))
type_same (Coalesce a b span) scope =
    followed (type_of a scope) (type_of (expr_without_spans a) scope) _ _ (type_same a scope) (λ t.
    followed (type_of b scope) (type_of (expr_without_spans b) scope) _ _ (type_same b scope) (λ u.
    fitting_same (not (has_block t || has_block u)) (joined (type_without_null t) u) span t u))
type_same (Conditional c a b span) scope =
    followed (type_of c scope) (type_of (expr_without_spans c) scope) _ _ (type_same c scope) (λ s.
    followed (type_of a scope) (type_of (expr_without_spans a) scope) _ _ (type_same a scope) (λ t.
    followed (type_of b scope) (type_of (expr_without_spans b) scope) _ _ (type_same b scope) (λ u.
    choice_same span s t u)))
