-- The machine against the grammar: there is a state after tokens exactly where some expression begins with them, it has
-- read a whole expression exactly where they spell one, and its depths are those at the tokens.
use Rattle.std.proofs.Common.{◌≡◌, ℕ, suc, List, [], ◌∷◌, ◌++◌, length, map, Option, Some, None, refl, sym, ◌∙◌}
use Rattle.std.proofs.Common.{ap, subst}
use Rattle.soy_lexer.specs.declared.token.Token.{Token}
use Rattle.expr_parser.specs.declared.frame.Frame.{Frame}
use Rattle.expr_parser.specs.declared.operand.Operand.{Operand}
use Rattle.expr_parser.specs.declared.state.Expected.{Expected}
use Rattle.expr_parser.specs.declared.state.Expected.TheVariants as expected
use Rattle.expr_parser.specs.declared.state.ExprState.{ExprState}
use Rattle.expr_parser.specs.BeginsExpr.{BeginsExpr}
use Rattle.expr_parser.specs.ExprRuns.{expr_run, expr_run_from, expr_depths, expr_depths_from, expr_start}
use Rattle.expr_parser.specs.ExprSteps.{expr_next, step_of, whole_expr, whole_at, next_at, step_at}
use Rattle.expr_parser.specs.Frames.{raised}
use Rattle.expr_parser.specs.SpellsExpr.{SpellsExpr}
use Rattle.expr_parser.proofs.ExprExact.{run-Completes, Completes-run, whole_expr-SpellsExpr, SpellsExpr-whole_expr}
use Rattle.expr_parser.proofs.Prefixes.{same_prefix}
use Rattle.expr_parser.proofs.ExprRunning.{depths_append}

-- inside no frame depths are unchanged
depths_plain : (ds : List ℕ) → map (raised []) ds ≡ ds
depths_plain [] = refl
depths_plain (d ∷ ds) = ap (λ l. d ∷ l) (depths_plain ds)

-- there is a depth for each token
pub depths_length : (ts : List Token) (s s' : ExprState) → expr_run ts s ≡ Some s' →
    length (expr_depths ts s) ≡ length ts
depths_length [] s s' e = refl
depths_length (t ∷ ts) s s' e = over (expr_next s t) e (λ m. depths_length ts m s')
  where
    over : (to : Option ExprState) → expr_run_from (expr_run ts) to ≡ Some s' →
        ((m : ExprState) → expr_run ts m ≡ Some s' → length (expr_depths ts m) ≡ length ts) →
        length (expr_depths_from (expr_depths ts) to) ≡ suc (length ts)
    over None e inside = absurd (cc e)
    over (Some m) e inside = ap (λ n. suc n) (inside m e)

-- what a token does is the state after it, or the end
pub next_is : (p : Expected) (fs : List Frame) (t : Token) → step_at p fs t ≡ step_of (next_at p fs t) (whole_at p fs)
next_is expected.Operand fs t = refl
next_is (expected.Name x takes_null) fs t = refl
next_is (expected.Operator x) fs t = refl

-- two states after the same tokens are the same
pub same_state : (ts : List Token) (s m : ExprState) → expr_run ts expr_start ≡ Some s →
    expr_run ts expr_start ≡ Some m → s ≡ m
same_state ts s m a b = ap unwrap (sym a ∙ b)
  where
    unwrap : Option ExprState → ExprState
    unwrap None = s
    unwrap (Some x) = x

-- the depths of an expression are those at its tokens as they are read
pub spelled_depths : (ts : List Token) (ds : List ℕ) (x : Operand) → SpellsExpr 9 ts ds x →
    ds ≡ expr_depths ts expr_start
spelled_depths ts ds x s = let f = SpellsExpr-whole_expr ts ds x s in sym (f.goes.deep ∙ depths_plain ds)

-- tokens spell one expression
pub spelled_same : (ts : List Token) (ds es : List ℕ) (x y : Operand) → SpellsExpr 9 ts ds x → SpellsExpr 9 ts es y →
    x ≡ y
spelled_same ts ds es x y a b =
    let i = SpellsExpr-whole_expr ts ds x a in
    let j = SpellsExpr-whole_expr ts es y b in
    ap unwrap (sym i.finishes ∙ (ap whole_expr (same_state ts i.state j.state i.goes.runs j.goes.runs) ∙ j.finishes))
  where
    unwrap : Option Operand → Operand
    unwrap None = x
    unwrap (Some z) = z

-- some expression begins with what is read
pub run-BeginsExpr : (ts : List Token) (s : ExprState) → expr_run ts expr_start ≡ Some s →
    BeginsExpr ts (expr_depths ts expr_start)
run-BeginsExpr ts s e =
    let c = run-Completes ts s e in
    record {
      more = c.more;
      other_depths = expr_depths c.more s;
      operand = c.operand;
      spells = (rw (spelled_depths (ts ++ c.more) c.depths c.operand c.spells, depths_append ts c.more expr_start s e)
          at c.spells);
      one_each = depths_length ts expr_start s e;
    }

-- a state after the tokens, and the depths at them
pub record IsRead (ts : List Token) (ds : List ℕ) : Type 0 where
  pub state : ExprState
  pub is : expr_run ts expr_start ≡ Some state
  pub depths_are : ds ≡ expr_depths ts expr_start

-- what some expression begins with is read
pub BeginsExpr-run : (ts : List Token) (ds : List ℕ) → BeginsExpr ts ds → IsRead ts ds
BeginsExpr-run ts ds b =
    let r = Completes-run ts (record {
      more = b.more;
      depths = ds ++ b.other_depths;
      operand = b.operand;
      spells =
          b.spells;
    }) in
    record {
      state = r.state;
      is = r.is;
      depths_are = same_prefix ds (expr_depths ts expr_start) b.other_depths (expr_depths b.more r.state)
          (b.one_each ∙ sym (depths_length ts expr_start r.state r.is))
          (spelled_depths (ts ++ b.more) (ds ++ b.other_depths) b.operand b.spells ∙ depths_append ts b.more expr_start
          r.state r.is);
    }

-- tokens have one depth each
pub begun_same : (ts : List Token) (ds es : List ℕ) → BeginsExpr ts ds → BeginsExpr ts es → ds ≡ es
begun_same ts ds es a b = let i = BeginsExpr-run ts ds a in let j = BeginsExpr-run ts es b in i.depths_are ∙ sym
    j.depths_are

-- what is read as a whole is spelled, at the depths that were read
pub whole-spelled : (ts : List Token) (s : ExprState) (x : Operand) → expr_run ts expr_start ≡ Some s →
    whole_expr s ≡ Some x →
    SpellsExpr 9 ts (expr_depths ts expr_start) x
whole-spelled ts s x r f =
    let p = whole_expr-SpellsExpr ts s x r f in
    subst (λ ds. SpellsExpr 9 ts ds x) (spelled_depths ts p.depths x p.spells) p.spells
