-- Which tokens are an expression, and which one: a case for each row of the grammar, on whole lists of tokens.
-- `SpellsExpr n ts ds x`: the tokens ts spell the operand x, whose operator is of level n or tighter, and ds are the
-- depths at them. The levels are, tightest first: 1 the accesses `.x` and `[e]`; 2 `-` and `not` before an operand; 3
-- `*` and `%`; 4 `+` and `-`; 5 `<`, `>`, `<=` and `>=`; 6 `==` and `!=`; 7 `and`; 8 `or`; 9 `?:` and `c ? a : b`.
-- Levels 3 to 8 group from the left, level 9 from the right; the condition of a `c ? a : b` and the left side of a
-- `?:` are of level 8.
-- Example: `1 - 2 - 3` is spelled by `infix_` alone as `(1 - 2) - 3`, at the depths 1, 2, 2, 3, 3.
use Rattle.std.specs.Prelude.{◌≡◌, ℕ, ◌-◌, ◌≤◌, max, Bool, List, [], ◌∷◌, ◌++◌, Option, Some, None}
use Rattle.soy_lexer.specs.declared.token.Token.{Token}
use Rattle.soy_lexer.specs.declared.token.TokenKind.TheVariants as kind
use Rattle.soy_tree.specs.declared.expr.BinaryOp.{BinaryOp}
use Rattle.soy_tree.specs.declared.expr.BinaryOp.TheVariants as binary
use Rattle.soy_tree.specs.declared.expr.ExprNode.{ExprNode}
use Rattle.soy_tree.specs.declared.expr.ExprNode.TheVariants as node
use Rattle.expr_parser.specs.declared.terminal.Terminal.{Terminal}
use Rattle.expr_parser.specs.declared.terminal.Terminal.TheVariants as terminal
use Rattle.expr_parser.specs.declared.operand.Operand.{Operand}
use Rattle.expr_parser.specs.Depths.{beside}
use Rattle.expr_parser.specs.Operands.{atom, negated, inverted, combined, coalesced, conditional, member, indexed}
use Rattle.expr_parser.specs.Operands.{in_parens, level_of}
use Rattle.expr_parser.specs.Terminals.{terminal_of}

-- the atom that a token is
abbrev pub atom_of : Terminal → Token → Option ExprNode
atom_of terminal.Null t = Some node.Null
atom_of (terminal.Bool b) t = Some (node.Bool b)
atom_of (terminal.Int n) t = Some (node.Int n)
atom_of terminal.Str t = Some (node.Str t.text)
atom_of terminal.Variable t = Some (node.Var t.text)
atom_of _ t = None

-- the operator of the levels 3 to 8 that a token is
abbrev pub infix_of : Terminal → Option BinaryOp
infix_of (terminal.Infix op) = Some op
infix_of terminal.Minus = Some binary.Sub
infix_of _ = None

pub data SpellsExpr : ℕ → List Token → List ℕ → Operand → Type 0 where
  simple : (n : ℕ) (t : Token) (e : ExprNode) → atom_of (terminal_of t) t ≡ Some e →
      SpellsExpr n (t ∷ []) (beside 0 (0 ∷ [])) (atom e t)
  parens : (n : ℕ) (opening close : Token) (ts : List Token) (ds : List ℕ) (x : Operand)
      → terminal_of opening ≡ terminal.OpenParen → terminal_of close ≡ terminal.CloseParen → SpellsExpr 9 ts ds x
      → SpellsExpr n (opening ∷ (ts ++ (close ∷ []))) (beside 0 (0 ∷ (ds ++ (x.height ∷ []))))
      (in_parens opening.span x close.span)
  named : (n : ℕ) (dot name : Token) (safe : Bool) (ts : List Token) (ds : List ℕ) (x : Operand)
      → terminal_of dot ≡ terminal.Dot safe → name.kind ≡ kind.Word → SpellsExpr 1 ts ds x
      → SpellsExpr n (ts ++ (dot ∷ (name ∷ []))) (ds ++ beside x.height (0 ∷ (0 ∷ []))) (member x safe name)
  index : (n : ℕ) (opening close : Token) (safe : Bool) (ts us : List Token) (ds es : List ℕ) (x i : Operand)
      → terminal_of opening ≡ terminal.OpenBracket safe → terminal_of close ≡ terminal.CloseBracket →
      SpellsExpr 1 ts ds x → SpellsExpr 9 us es i
      → SpellsExpr n (ts ++ (opening ∷ (us ++ (close ∷ [])))) (ds ++ beside x.height (0 ∷ (es ++ (i.height ∷ []))))
      (indexed x safe i close.span)
  negation : (n : ℕ) (t : Token) (ts : List Token) (ds : List ℕ) (x : Operand)
      → 2 ≤ n → terminal_of t ≡ terminal.Minus → SpellsExpr 2 ts ds x →
      SpellsExpr n (t ∷ ts) (beside 0 (0 ∷ ds)) (negated t.span x)
  inversion : (n : ℕ) (t : Token) (ts : List Token) (ds : List ℕ) (x : Operand)
      → 2 ≤ n → terminal_of t ≡ terminal.Not → SpellsExpr 2 ts ds x →
      SpellsExpr n (t ∷ ts) (beside 0 (0 ∷ ds)) (inverted t.span x)
  infix_ : (n : ℕ) (t : Token) (op : BinaryOp) (ts us : List Token) (ds es : List ℕ) (a b : Operand)
      → level_of op ≤ n → infix_of (terminal_of t) ≡ Some op → SpellsExpr (level_of op) ts ds a →
      SpellsExpr (level_of op - 1) us es b
      → SpellsExpr n (ts ++ (t ∷ us)) (ds ++ beside a.height (0 ∷ es)) (combined op a b)
  coalescing : (n : ℕ) (t : Token) (ts us : List Token) (ds es : List ℕ) (a b : Operand)
      → 9 ≤ n → terminal_of t ≡ terminal.Coalesce → SpellsExpr 8 ts ds a → SpellsExpr 9 us es b
      → SpellsExpr n (ts ++ (t ∷ us)) (ds ++ beside a.height (0 ∷ es)) (coalesced a b)
  conditional_ : (n : ℕ) (question colon : Token) (ts us vs : List Token) (ds es fs : List ℕ) (c a b : Operand)
      → 9 ≤ n → terminal_of question ≡ terminal.Question → terminal_of colon ≡ terminal.Colon → SpellsExpr 8 ts ds c →
      SpellsExpr 9 us es a → SpellsExpr 9 vs fs b
      → SpellsExpr n (ts ++ (question ∷ (us ++ (colon ∷ vs))))
      (ds ++ (beside c.height (0 ∷ es) ++ beside (max c.height a.height) (0 ∷ fs))) (conditional c a b)
