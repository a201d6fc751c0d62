-- The spans of an expression: each lies within that of the expression above it, and those of its parts ascend there.
-- Example: the span of `1 + 2` holds those of `1` and `2`, which come one after the other.
use Rattle.std.specs.Prelude.{ℕ, ◌≤◌, ◌<◌, List, [], ◌∷◌}
use Rattle.soy_base.specs.declared.fault.Span.{Span}
use Rattle.soy_tree.specs.Expressions.{Expr, NullLiteral, BoolLiteral, IntLiteral, StringLiteral, Variable, Member}
use Rattle.soy_tree.specs.Expressions.{Index, Minus, Not, Binary, Coalesce, Conditional, span_of}

-- one after the other, from this offset up to that one, each with a byte at least
abbrev pub AreInOrder : ℕ → ℕ → List Span → Type 0
AreInOrder from to [] = from ≤ to
AreInOrder from to (s ∷ ss) = (from ≤ s.start) × (s.start < s.end) × AreInOrder s.end to ss

abbrev pub AreWithinSpan : Span → List Span → Type 0
AreWithinSpan span ss = AreInOrder span.start span.end ss

abbrev pub SpansAscend : Expr → Type 0
SpansAscend (NullLiteral span) = Unit {0}
SpansAscend (BoolLiteral b span) = Unit {0}
SpansAscend (IntLiteral n span) = Unit {0}
SpansAscend (StringLiteral text span) = Unit {0}
SpansAscend (Variable name span) = Unit {0}
SpansAscend (Member e name takes_null span) = AreWithinSpan span (span_of e ∷ []) × SpansAscend e
SpansAscend (Index e i takes_null span) = AreWithinSpan span (span_of e ∷ (span_of i ∷ [])) × SpansAscend e ×
    SpansAscend i
SpansAscend (Minus e span) = AreWithinSpan span (span_of e ∷ []) × SpansAscend e
SpansAscend (Not e span) = AreWithinSpan span (span_of e ∷ []) × SpansAscend e
SpansAscend (Binary op a b span) = AreWithinSpan span (span_of a ∷ (span_of b ∷ [])) × SpansAscend a × SpansAscend b
SpansAscend (Coalesce a b span) = AreWithinSpan span (span_of a ∷ (span_of b ∷ [])) × SpansAscend a × SpansAscend b
SpansAscend (Conditional c a b span) =
    AreWithinSpan span (span_of c ∷ (span_of a ∷ (span_of b ∷ []))) × SpansAscend c × SpansAscend a × SpansAscend b

-- the span of the expression, and those in it
abbrev pub SpansInOrder : ℕ → ℕ → Expr → Type 0
SpansInOrder from to e = AreInOrder from to (span_of e ∷ []) × SpansAscend e
