-- The nodes on the longest branch of an expression as it is written in canonical source, its parentheses among them.
-- Example: the sum of 1 and the difference of 2 and 3 has four: `+`, the parentheses, `-` and 2.
use Rattle.std.specs.Prelude.{ℕ, max, Bool, true, false, nat_lt, nat_le}
use Rattle.soy_tree.specs.Expressions.{Expr, Member, Index, Minus, Not, Binary, Coalesce, Conditional}
use Rattle.expr_parser.specs.Depths.{deeper}
use Rattle.soy_format.specs.Levels.{level_of, level_of_op}

-- parentheses, where there have to be some, are a node
abbrev pub bracketed_height : Bool → ℕ → ℕ
bracketed_height true h = deeper 0 h
bracketed_height false h = h

abbrev pub expr_height : Expr → ℕ
expr_height (Member e name takes_null span) = deeper (bracketed_height (nat_lt 1 (level_of e)) (expr_height e)) 0
expr_height (Index e i takes_null span) =
    deeper (bracketed_height (nat_lt 1 (level_of e)) (expr_height e)) (expr_height i)
expr_height (Minus e span) = deeper 0 (bracketed_height (nat_lt 2 (level_of e)) (expr_height e))
expr_height (Not e span) = deeper 0 (bracketed_height (nat_lt 2 (level_of e)) (expr_height e))
expr_height (Binary o a b span) =
    deeper (bracketed_height (nat_lt (level_of_op o) (level_of a)) (expr_height a))
    (bracketed_height (nat_le (level_of_op o) (level_of b)) (expr_height b))
expr_height (Coalesce a b span) = deeper (bracketed_height (nat_le 9 (level_of a)) (expr_height a)) (expr_height b)
expr_height (Conditional c a b span) =
    deeper (max (bracketed_height (nat_le 9 (level_of c)) (expr_height c)) (expr_height a)) (expr_height b)
expr_height _ = deeper 0 0
