-- An expression is written with no longer branch than it was read with.
use Rattle.std.proofs.Common.{◌≡◌, ℕ, ◌-◌, ◌^◌, ◌≤◌, max, nat_lt, nat_le, Bool, true, false, List}
use Rattle.std.proofs.Common.{Some, refl, sym, ap, subst, ◌∙◌, arith}
use Rattle.std.proofs.lemmas.Bool.Decides.{nat_tests}
use Rattle.soy_base.specs.declared.fault.Span.{Span}
use Rattle.soy_lexer.specs.declared.token.Token.{Token}
use Rattle.soy_tree.specs.declared.expr.ExprNode.{ExprNode}
use Rattle.soy_tree.specs.declared.expr.ExprNode.TheVariants as node
use Rattle.soy_tree.specs.Expressions.{Expr, NullLiteral, BoolLiteral, IntLiteral, StringLiteral, Variable, Member}
use Rattle.soy_tree.specs.Expressions.{Index, Minus, Not, Binary, Coalesce, Conditional}
use Rattle.soy_tree.specs.ViewExpressions.{view_expr}
use Rattle.expr_parser.specs.declared.operand.Operand.{Operand}
use Rattle.expr_parser.specs.declared.terminal.Terminal.{Terminal}
use Rattle.expr_parser.specs.declared.terminal.Terminal.TheVariants as terminal
use Rattle.expr_parser.specs.Depths.{deeper}
use Rattle.expr_parser.specs.Operands.{expr_of, joined, level_of as op_level}
use Rattle.expr_parser.specs.SpellsExpr.{SpellsExpr, atom_of}
use Rattle.expr_parser.specs.Terminals.{terminal_of}
use Rattle.expr_parser.proofs.ViewExprs.{view-Null, view-Bool, view-Int, view-Str, view-Var, view-Member, view-Index}
use Rattle.expr_parser.proofs.ViewExprs.{view-Neg, view-Not, view-Binary, view-Coalesce, view-Cond}
use Rattle.soy_format.specs.Levels.{level_of, level_of_op}
use Rattle.formatted_source.proofs.Fitting.WrittenHeight.{bracketed_height, expr_height}
use Rattle.formatted_source.proofs.ExprTerminals.{level_is}
use Rattle.formatted_source.proofs.ExprsSpelled.{levels_end}

-- the height of an expression as it is written where this level is asked for
abbrev pub height_at : ℕ → Expr → ℕ
height_at n e = bracketed_height (nat_lt n (level_of e)) (expr_height e)

height_below : (e : Expr) → expr_height e ≤ 2 ^ 32 - 1
height_below (NullLiteral span) = omega arith
height_below (BoolLiteral b span) = omega arith
height_below (IntLiteral n span) = omega arith
height_below (StringLiteral text span) = omega arith
height_below (Variable name span) = omega arith
height_below (Member e name takes_null span) = omega arith
height_below (Index e i takes_null span) = omega arith
height_below (Minus e span) = omega arith
height_below (Not e span) = omega arith
height_below (Binary o a b span) = omega arith
height_below (Coalesce a b span) = omega arith
height_below (Conditional c a b span) = omega arith

-- within its level no parentheses are written
bare : (n : ℕ) (e : Expr) (h : ℕ) → level_of e ≤ n → expr_height e ≤ h → height_at n e ≤ h
bare n e h fits le =
    let no : nat_lt n (level_of e) ≡ false = grind (arith, nat_tests, fits) in
    subst (λ b. bracketed_height b (expr_height e) ≤ h) (sym no) le

bracketed_most : (b : Bool) (g h : ℕ) → g ≤ 2 ^ 32 - 1 → g ≤ h → bracketed_height b g ≤ deeper 0 h
bracketed_most true g h below le = omega (arith, le)
bracketed_most false g h below le = omega (arith, below, le)

-- above it one pair at most
in_parens_lower : (n : ℕ) (e : Expr) (h : ℕ) → height_at 9 e ≤ h → height_at n e ≤ deeper 0 h
in_parens_lower n e h le =
    let no : nat_lt 9 (level_of e) ≡ false = let end = levels_end e in grind (arith, nat_tests, end) in
    let own : expr_height e ≤ h = subst (λ b. bracketed_height b (expr_height e) ≤ h) no le in
    bracketed_most (nat_lt n (level_of e)) (expr_height e) h (height_below e) own

-- none is above level 9
pub whole_lower : (e : Expr) (h : ℕ) → height_at 9 e ≤ h → expr_height e ≤ h
whole_lower e h le =
    let no : nat_lt 9 (level_of e) ≡ false = let end = levels_end e in grind (arith, nat_tests, end) in
    subst (λ b. bracketed_height b (expr_height e) ≤ h) no le

below_nine : (e : Expr) (h : ℕ) → height_at 8 e ≤ h
    → bracketed_height (nat_le 9 (level_of e)) (expr_height e) ≤ h
below_nine e h le = le

below_next : (k m : ℕ) → 1 ≤ k → nat_lt (k - 1) m ≡ nat_le k m
below_next k m one = grind (arith, nat_tests, one)

-- what an atom's node stands for is of level 0 and a node alone
abbrev IsAtom : Expr → Type 0
IsAtom e = (level_of e ≡ 0) × (expr_height e ≡ deeper 0 0)

atom_lower : (m : Terminal) (t : Token) (n : ExprNode) (span : Span) → atom_of m t ≡ Some n
    → IsAtom (view_expr (expr_of n span))
atom_lower terminal.Null t n span e =
    let is : node.Null ≡ n = cc in
    subst (λ n. IsAtom (view_expr (expr_of n span))) is (subst IsAtom (sym (view-Null span)) (refl, refl))
atom_lower (terminal.Bool b) t n span e =
    let is : node.Bool b ≡ n = cc in
    subst (λ n. IsAtom (view_expr (expr_of n span))) is (subst IsAtom (sym (view-Bool b span)) (refl, refl))
atom_lower (terminal.Int i) t n span e =
    let is : node.Int i ≡ n = cc in
    subst (λ n. IsAtom (view_expr (expr_of n span))) is (subst IsAtom (sym (view-Int i span)) (refl, refl))
atom_lower terminal.Str t n span e =
    let is : node.Str t.text ≡ n = cc in
    subst (λ n. IsAtom (view_expr (expr_of n span))) is (subst IsAtom (sym (view-Str t.text span)) (refl, refl))
atom_lower terminal.Variable t n span e =
    let is : node.Var t.text ≡ n = cc in
    subst (λ n. IsAtom (view_expr (expr_of n span))) is (subst IsAtom (sym (view-Var t.text span)) (refl, refl))
atom_lower terminal.Not t n span e = absurd (cc)
atom_lower terminal.Minus t n span e = absurd (cc)
atom_lower (terminal.Infix op) t n span e = absurd (cc)
atom_lower terminal.Coalesce t n span e = absurd (cc)
atom_lower terminal.Question t n span e = absurd (cc)
atom_lower terminal.Colon t n span e = absurd (cc)
atom_lower (terminal.Dot safe) t n span e = absurd (cc)
atom_lower (terminal.OpenBracket safe) t n span e = absurd (cc)
atom_lower terminal.CloseBracket t n span e = absurd (cc)
atom_lower terminal.OpenParen t n span e = absurd (cc)
atom_lower terminal.CloseParen t n span e = absurd (cc)
atom_lower terminal.Other t n span e = absurd (cc)

-- the written height of what an operand is, where it is this expression
lower_as : (n h : ℕ) (v e : Expr) → v ≡ e → level_of e ≤ n → expr_height e ≤ h → height_at n v ≤ h
lower_as n h v e is fits le = subst (λ v. height_at n v ≤ h) (sym is) (bare n e h fits le)

deeper_both : (a b c d : ℕ) → a ≤ c → b ≤ d → deeper a b ≤ deeper c d
deeper_both a b c d p q = omega (arith, p, q)

-- **An expression is written with no longer branch than it was read with.**
pub written_lower : (n : ℕ) (ts : List Token) (ds : List ℕ) (x : Operand) → 1 ≤ n → SpellsExpr n ts ds x
    → height_at n (view_expr x.expr) ≤ x.height
written_lower _ _ _ _ one (SpellsExpr.simple n t e is) =
    let a = atom_lower (terminal_of t) t e t.span is in
    bare n (view_expr (expr_of e t.span)) (deeper 0 0) (omega (arith, a.0)) (omega (arith, a.1))
written_lower _ _ _ _ one (SpellsExpr.parens n opening close ts ds x o c d) =
    in_parens_lower n (view_expr x.expr) x.height (written_lower 9 ts ds x (omega arith) d)
written_lower _ _ _ _ one (SpellsExpr.named n dot name safe ts ds x o c d) =
    lower_as n (deeper x.height 0) _ (Member (view_expr x.expr) name.text safe (joined x.span name.span))
    (view-Member x.expr name.text safe (joined x.span name.span)) one
    (deeper_both (height_at 1 (view_expr x.expr)) 0 x.height 0 (written_lower 1 ts ds x (omega arith) d) (omega arith))
written_lower _ _ _ _ one (SpellsExpr.index n opening close safe ts us ds es x i o c d e) =
    lower_as n (deeper x.height i.height) _
    (Index (view_expr x.expr) (view_expr i.expr) safe (joined x.span close.span))
    (view-Index x.expr i.expr safe (joined x.span close.span)) one
    (deeper_both (height_at 1 (view_expr x.expr)) (expr_height (view_expr i.expr)) x.height i.height
    (written_lower 1 ts ds x (omega arith) d)
    (whole_lower (view_expr i.expr) i.height (written_lower 9 us es i (omega arith) e)))
written_lower _ _ _ _ one (SpellsExpr.negation n t ts ds x fits is d) =
    lower_as n (deeper 0 x.height) _ (Minus (view_expr x.expr) (joined t.span x.span))
    (view-Neg x.expr (joined t.span x.span)) fits
    (deeper_both 0 (height_at 2 (view_expr x.expr)) 0 x.height (omega arith) (written_lower 2 ts ds x (omega arith) d))
written_lower _ _ _ _ one (SpellsExpr.inversion n t ts ds x fits is d) =
    lower_as n (deeper 0 x.height) _ (Not (view_expr x.expr) (joined t.span x.span))
    (view-Not x.expr (joined t.span x.span)) fits
    (deeper_both 0 (height_at 2 (view_expr x.expr)) 0 x.height (omega arith) (written_lower 2 ts ds x (omega arith) d))
written_lower _ _ _ _ one (SpellsExpr.infix_ n t op ts us ds es a b fits is d e) =
    let l = level_is op in
    let left = written_lower (op_level op) ts ds a (omega (arith, l.same, l.above)) d in
    let right = written_lower (op_level op - 1) us es b (omega (arith, l.same, l.above)) e in
    let same : nat_lt (op_level op - 1) (level_of (view_expr b.expr)) ≡ nat_le (level_of_op op) (level_of
    (view_expr b.expr)) = below_next (op_level op) (level_of (view_expr b.expr)) (omega (arith, l.same, l.above))
    ∙ ap (λ k. nat_le k (level_of (view_expr b.expr))) l.same in
    lower_as n (deeper a.height b.height) _
    (Binary op (view_expr a.expr) (view_expr b.expr) (joined a.span b.span))
    (view-Binary op a.expr b.expr (joined a.span b.span)) (subst (λ k. k ≤ n) l.same fits)
    (deeper_both (height_at (level_of_op op) (view_expr a.expr))
    (bracketed_height (nat_le (level_of_op op) (level_of (view_expr b.expr))) (expr_height (view_expr b.expr)))
    a.height b.height (subst (λ k. height_at k (view_expr a.expr) ≤ a.height) l.same left)
    (subst (λ t. bracketed_height t (expr_height (view_expr b.expr)) ≤ b.height) same right))
written_lower _ _ _ _ one (SpellsExpr.coalescing n t ts us ds es a b fits is d e) =
    lower_as n (deeper a.height b.height) _ (Coalesce (view_expr a.expr) (view_expr b.expr) (joined a.span b.span))
    (view-Coalesce a.expr b.expr (joined a.span b.span)) fits
    (deeper_both (bracketed_height (nat_le 9 (level_of (view_expr a.expr))) (expr_height (view_expr a.expr)))
    (expr_height (view_expr b.expr)) a.height b.height (below_nine (view_expr a.expr) a.height
    (written_lower 8 ts ds a (omega arith) d))
    (whole_lower (view_expr b.expr) b.height (written_lower 9 us es b (omega arith) e)))
written_lower _ _ _ _ one (SpellsExpr.conditional_ n question colon ts us vs ds es fs c a b fits is ic d e f) =
    let first = below_nine (view_expr c.expr) c.height (written_lower 8 ts ds c (omega arith) d) in
    let second = whole_lower (view_expr a.expr) a.height (written_lower 9 us es a (omega arith) e) in
    lower_as n (deeper (max c.height a.height) b.height) _
    (Conditional (view_expr c.expr) (view_expr a.expr) (view_expr b.expr) (joined c.span b.span))
    (view-Cond c.expr a.expr b.expr (joined c.span b.span)) fits
    (deeper_both (max (bracketed_height (nat_le 9 (level_of (view_expr c.expr))) (expr_height (view_expr c.expr)))
    (expr_height (view_expr a.expr))) (expr_height (view_expr b.expr)) (max c.height a.height) b.height
    (omega (arith, first, second))
    (whole_lower (view_expr b.expr) b.height (written_lower 9 vs fs b (omega arith) f)))
