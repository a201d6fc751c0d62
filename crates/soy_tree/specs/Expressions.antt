-- Expressions, as plain data, each with the span in which it stands.
-- The bool of an access says that it also takes null, as `?.x` and `?[e]` do.
-- Example: `$a.b` is `Member (Variable a ..) b false ..`.
use Rattle.std.specs.Prelude.{ℕ, ℤ, Bool, List}
use Rattle.soy_base.specs.declared.fault.Span.{Span}
use Rattle.soy_tree.specs.declared.expr.BinaryOp.{BinaryOp}
use Rattle.soy_tree.specs.Types.{Name}

pub data Expr : Type 0 where
  NullLiteral : Span → Expr
  BoolLiteral : Bool → Span → Expr
  IntLiteral : ℤ → Span → Expr
  StringLiteral : List ℕ → Span → Expr
  Variable : Name → Span → Expr
  Member : Expr → Name → Bool → Span → Expr
  Index : Expr → Expr → Bool → Span → Expr
  Minus : Expr → Span → Expr
  Not : Expr → Span → Expr
  Binary : BinaryOp → Expr → Expr → Span → Expr
  Coalesce : Expr → Expr → Span → Expr
  Conditional : Expr → Expr → Expr → Span → Expr

abbrev pub span_of : Expr → Span
span_of (NullLiteral span) = span
span_of (BoolLiteral b span) = span
span_of (IntLiteral n span) = span
span_of (StringLiteral text span) = span
span_of (Variable name span) = span
span_of (Member e name takes_null span) = span
span_of (Index e i takes_null span) = span
span_of (Minus e span) = span
span_of (Not e span) = span
span_of (Binary op a b span) = span
span_of (Coalesce a b span) = span
span_of (Conditional c a b span) = span
