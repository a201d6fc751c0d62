-- The spans of what tokens in order spell.
use Rattle.std.proofs.Common.{◌≡◌, ℕ, ◌-◌, ◌<◌, ◌≤◌, List, [], ◌∷◌, ◌++◌, Option, Some, None, ap, arith}
use Rattle.std.specs.Prelude.{max}
use Rattle.soy_base.specs.declared.fault.Span.{Span}
use Rattle.soy_lexer.specs.InOrder.{InOrder}
use Rattle.soy_lexer.specs.declared.token.Token.{Token}
use Rattle.soy_tree.specs.Expressions.{span_of}
use Rattle.soy_tree.specs.ViewExpressions.{view_expr}
use Rattle.soy_tree.specs.declared.expr.ExprNode.{ExprNode}
use Rattle.soy_tree.specs.declared.expr.ExprNode.TheVariants as node
use Rattle.expr_parser.specs.declared.operand.Operand.{Operand}
use Rattle.expr_parser.specs.declared.terminal.Terminal.{Terminal}
use Rattle.expr_parser.specs.declared.terminal.Terminal.TheVariants as terminal
use Rattle.expr_parser.specs.Depths.{deeper}
use Rattle.expr_parser.specs.Operands.{expr_of, joined, made, level_of}
use Rattle.expr_parser.specs.SpansInOrder.{AreWithinSpan, SpansAscend, SpansInOrder}
use Rattle.expr_parser.specs.SpellsExpr.{SpellsExpr, atom_of}
use Rattle.expr_parser.specs.Terminals.{terminal_of}
use Rattle.expr_parser.proofs.ViewExprs.{span_of-made, view-Null, view-Bool, view-Int, view-Str, view-Var}
use Rattle.expr_parser.proofs.ViewExprs.{view-Member, view-Index, view-Neg, view-Not, view-Binary, view-Coalesce}
use Rattle.expr_parser.proofs.ViewExprs.{view-Cond}

-- tokens in order around one of them
pub record Around (from to : ℕ) (ts : List Token) (t : Token) (us : List Token) : Type 0 where
  pub before : InOrder from t.span.start ts
  pub some : t.span.start < t.span.end
  pub after : InOrder t.span.end to us

pub around : (from to : ℕ) (ts : List Token) (t : Token) (us : List Token) → InOrder from to (ts ++ (t ∷ us)) →
    Around from to ts t us
around from to [] t us h = record { before = h.0; some = h.1; after = h.2 }
around from to (u ∷ ts) t us h =
    let a = around u.span.end to ts t us h.2 in
    record { before = (h.0, h.1, a.before); some = a.some; after = a.after }

-- the spans of an operand stand in order within those of its tokens
pub record InTokens (from to : ℕ) (x : Operand) : Type 0 where
  pub first : from ≤ x.span.start
  pub last : x.span.end ≤ to
  pub whole : AreWithinSpan x.span (span_of (view_expr x.expr) ∷ [])
  pub parts : SpansAscend (view_expr x.expr)

-- its span holds a byte at least
some_byte : (from to : ℕ) (x : Operand) → InTokens from to x → x.span.start < x.span.end
some_byte from to x i = let w = i.whole in omega (arith, w.0, w.1, w.2)

-- a node over a span that is within the tokens
node_in : (from to : ℕ) (n : ExprNode) (s : Span) (h : ℕ) → from ≤ s.start → s.start < s.end → s.end ≤ to →
    SpansAscend (view_expr (expr_of n s)) → InTokens from to (made n s h)
node_in from to n s h first some last parts = record {
  first = first;
  last = last;
  whole = rw (span_of-made n s) (omega arith, some, omega arith);
  parts = parts;
}

-- one part within a span
one_within : (s : Span) (from to : ℕ) (x : Operand) → InTokens from to x → s.start ≤ from → to ≤ s.end →
    AreWithinSpan s (span_of (view_expr x.expr) ∷ [])
one_within s from to x i first last =
    let f = i.first in let l = i.last in let w = i.whole in
    (omega (arith, first, f, w.0), w.1, omega (arith, last, l, w.2))

-- two parts, one after the other
two_within : (s : Span) (from m n to : ℕ) (x y : Operand) → InTokens from m x → InTokens n to y →
    s.start ≤ x.span.start → m ≤ n → y.span.end ≤ s.end →
    AreWithinSpan s (span_of (view_expr x.expr) ∷ (span_of (view_expr y.expr) ∷ []))
two_within s from m n to x y i j first between last =
    let l = i.last in let w = i.whole in
    let g = j.first in let v = j.whole in
    (omega (arith, first, w.0), w.1, (omega (arith, between, l, g, w.2, v.0), v.1, omega (arith, last, v.2)))

-- three parts, one after the other
three_within : (s : Span) (from m n o p to : ℕ) (x y z : Operand) → InTokens from m x → InTokens n o y →
    InTokens p to z →
    s.start ≤ x.span.start → m ≤ n → o ≤ p → z.span.end ≤ s.end →
    AreWithinSpan s (span_of (view_expr x.expr) ∷ (span_of (view_expr y.expr) ∷ (span_of (view_expr z.expr) ∷ [])))
three_within s from m n o p to x y z i j k first between then_ last =
    let l = i.last in let w = i.whole in
    let g = j.first in let h = j.last in let v = j.whole in
    let d = k.first in let u = k.whole in (
      omega (arith, first, w.0),
      w.1,
      (
        omega (arith, between, l, g, w.2, v.0),
        v.1,
        (omega (arith, then_, h, d, v.2, u.0), u.1, omega (arith, last, u.2)),
      ),
    )

-- an operator before its operand
before_in : (from to : ℕ) (t : Token) (x : Operand) (n : ExprNode) → from ≤ t.span.start → t.span.start < t.span.end →
    InTokens t.span.end to x →
    (AreWithinSpan (joined t.span x.span) (span_of (view_expr x.expr) ∷ []) × SpansAscend (view_expr x.expr) →
    SpansAscend (view_expr (expr_of n (joined t.span x.span)))) →
    InTokens from to (made n (joined t.span x.span) (deeper 0 x.height))
before_in from to t x n first some i up =
    let f = i.first in let w = i.whole in let b = some_byte t.span.end to x i in
    node_in from to n (joined t.span x.span) (deeper 0 x.height) first (omega (arith, some, f, b)) i.last
    (up ((omega (arith, some, f, w.0), w.1, w.2), i.parts))

-- an operator between its operands
between_in : (from to : ℕ) (t : Token) (x y : Operand) (n : ExprNode) → InTokens from t.span.start x →
    t.span.start < t.span.end → InTokens t.span.end to y →
    (AreWithinSpan (joined x.span y.span) (span_of (view_expr x.expr) ∷ (span_of (view_expr y.expr) ∷ []))
    × SpansAscend (view_expr x.expr) × SpansAscend (view_expr y.expr) →
    SpansAscend (view_expr (expr_of n (joined x.span y.span)))) →
    InTokens from to (made n (joined x.span y.span) (deeper x.height y.height))
between_in from to t x y n i some j up =
    let l = i.last in let f = j.first in
    let b = some_byte from t.span.start x i in let c = some_byte t.span.end to y j in
    node_in from to n (joined x.span y.span) (deeper x.height y.height) i.first (omega (arith, some, l, f, b, c)) j.last
    (up (
      two_within (joined x.span y.span) from t.span.start t.span.end to x y i j (omega arith) (omega (arith, some))
          (omega arith),
      i.parts,
      j.parts,
    ))

some_same : (e f : ExprNode) → Some e ≡ Some f → e ≡ f
some_same e f h = ap unwrap h
  where
    unwrap : Option ExprNode → ExprNode
    unwrap None = e
    unwrap (Some x) = x

-- an atom has no parts
atom_ascends : (m : Terminal) (t : Token) (e : ExprNode) → atom_of m t ≡ Some e →
    SpansAscend (view_expr (expr_of e t.span))
atom_ascends terminal.Null t e s = rw (← some_same node.Null e s, view-Null t.span) tt
atom_ascends (terminal.Bool b) t e s = rw (← some_same (node.Bool b) e s, view-Bool b t.span) tt
atom_ascends (terminal.Int n) t e s = rw (← some_same (node.Int n) e s, view-Int n t.span) tt
atom_ascends terminal.Str t e s = rw (← some_same (node.Str t.text) e s, view-Str t.text t.span) tt
atom_ascends terminal.Variable t e s = rw (← some_same (node.Var t.text) e s, view-Var t.text t.span) tt
atom_ascends _ t e s = absurd (cc s)

-- the spans of what tokens in order spell
in_tokens : (n : ℕ) (ts : List Token) (ds : List ℕ) (x : Operand) → SpellsExpr n ts ds x → (from to : ℕ) →
    InOrder from to ts → InTokens from to x
in_tokens _ _ _ _ (SpellsExpr.simple n t e h) from to o =
    node_in from to e t.span (deeper 0 0) o.0 o.1 o.2 (atom_ascends (terminal_of t) t e h)
in_tokens _ _ _ _ (SpellsExpr.parens n opening close ts ds x p c s) from to o =
    let a = around opening.span.end to ts close [] o.2 in
    let i = in_tokens 9 ts ds x s opening.span.end close.span.start a.before in
    let l = o.1 in let k = a.some in
    record {
      first = o.0;
      last = a.after;
      whole = one_within (joined opening.span close.span) opening.span.end close.span.start x i (omega (arith, l))
          (omega (arith, k));
      parts = i.parts;
    }
in_tokens _ _ _ _ (SpellsExpr.named n dot name takes_null ts ds x d w s) from to o =
    let a = around from to ts dot (name ∷ []) o in
    let i = in_tokens 1 ts ds x s from dot.span.start a.before in
    let sp : Span = joined x.span name.span in
    let l = i.last in let v = i.whole in let b = a.some in let g = a.after in let c = some_byte from dot.span.start x i
    in
    node_in from to (node.Member x.expr name.text takes_null) sp (deeper x.height 0) i.first
    (omega (arith, l, b, c, g.0, g.1)) g.2
    (rw (view-Member x.expr name.text takes_null sp)
    ((omega (arith, v.0), v.1, omega (arith, l, b, g.0, g.1, v.2)), i.parts))
in_tokens _ _ _ _ (SpellsExpr.index n opening close takes_null ts us ds es x y p c s r) from to o =
    let a = around from to ts opening (us ++ (close ∷ [])) o in
    let b = around opening.span.end to us close [] a.after in
    let i = in_tokens 1 ts ds x s from opening.span.start a.before in
    let j = in_tokens 9 us es y r opening.span.end close.span.start b.before in
    let sp : Span = joined x.span close.span in
    let l = i.last in let k = a.some in let m = b.some in let g = j.first in let h = j.last in
    let d = some_byte from opening.span.start x i in let e = some_byte opening.span.end close.span.start y j in
    node_in from to (node.Index x.expr y.expr takes_null) sp (deeper x.height y.height) i.first
    (omega (arith, l, k, m, g, h, d, e)) b.after
    (rw (view-Index x.expr y.expr takes_null sp) (
      two_within sp from opening.span.start opening.span.end close.span.start x y i j (omega arith) (omega (arith, k))
          (omega (arith, h, m)),
      i.parts,
      j.parts,
    ))
in_tokens _ _ _ _ (SpellsExpr.negation n t ts ds x l m s) from to o =
    before_in from to t x (node.Neg x.expr) o.0 o.1 (in_tokens 2 ts ds x s t.span.end to o.2)
    (λ p. rw (view-Neg x.expr (joined t.span x.span)) p)
in_tokens _ _ _ _ (SpellsExpr.inversion n t ts ds x l m s) from to o =
    before_in from to t x (node.Not x.expr) o.0 o.1 (in_tokens 2 ts ds x s t.span.end to o.2)
    (λ p. rw (view-Not x.expr (joined t.span x.span)) p)
in_tokens _ _ _ _ (SpellsExpr.infix_ n t op ts us ds es x y l m s r) from to o =
    let a = around from to ts t us o in
    between_in from to t x y (node.Binary op x.expr y.expr) (in_tokens (level_of op) ts ds x s from t.span.start
    a.before) a.some
    (in_tokens (level_of op - 1) us es y r t.span.end to a.after)
    (λ p. rw (view-Binary op x.expr y.expr (joined x.span y.span)) p)
in_tokens _ _ _ _ (SpellsExpr.coalescing n t ts us ds es x y l m s r) from to o =
    let a = around from to ts t us o in
    between_in from to t x y (node.Coalesce x.expr y.expr) (in_tokens 8 ts ds x s from t.span.start a.before) a.some
    (in_tokens 9 us es y r t.span.end to a.after) (λ p. rw (view-Coalesce x.expr y.expr (joined x.span y.span)) p)
in_tokens _ _ _ _ (SpellsExpr.conditional_ n q c ts us vs ds es gs x y z l m k s r v) from to o =
    let a = around from to ts q (us ++ (c ∷ vs)) o in
    let b = around q.span.end to us c vs a.after in
    let i = in_tokens 8 ts ds x s from q.span.start a.before in
    let j = in_tokens 9 us es y r q.span.end c.span.start b.before in
    let w = in_tokens 9 vs gs z v c.span.end to b.after in
    let sp : Span = joined x.span z.span in
    let il = i.last in let jf = j.first in let jl = j.last in let wf = w.first in let qs = a.some in let cs = b.some in
    let xb = some_byte from q.span.start x i in let yb = some_byte q.span.end c.span.start y j in let zb = some_byte
    c.span.end to z w in
    node_in from to (node.Cond x.expr y.expr z.expr) sp (deeper (max x.height y.height) z.height) i.first
    (omega (arith, il, jf, jl, wf, qs, cs, xb, yb, zb)) w.last
    (rw (view-Cond x.expr y.expr z.expr sp) (
      three_within sp from q.span.start q.span.end c.span.start c.span.end to x y z i j w (omega arith)
          (omega (arith, qs)) (omega (arith, cs)) (omega arith),
      i.parts,
      j.parts,
      w.parts,
    ))

-- **The spans of what tokens in order spell lie within those of the tokens and ascend.**
pub spans_in_order : (ts : List Token) (ds : List ℕ) (x : Operand) (from to : ℕ) → InOrder from to ts →
    SpellsExpr 9 ts ds x → SpansInOrder from to (view_expr x.expr)
spans_in_order ts ds x from to o s =
    let i = in_tokens 9 ts ds x s from to o in
    let f = i.first in let l = i.last in let w = i.whole in
    ((omega (arith, f, w.0), w.1, omega (arith, l, w.2)), i.parts)
