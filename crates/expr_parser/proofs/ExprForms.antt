-- What tokens spell is formed.
use Rattle.std.proofs.Common.{◌≡◌, ℕ, ◌+◌, ◌-◌, ◌*◌, Bool, true, false, List, [], ◌∷◌, ◌++◌, Option, Some, None, refl}
use Rattle.std.proofs.Common.{ap, subst}
use Rattle.std.specs.Prelude.{nat_le, ◌&&◌, if◌then◌else◌, codes, encode_utf8_all}
use Rattle.std.specs.Char.{is_ascii_digit}
use Rattle.std.specs.Str.{bytes_eq}
use Rattle.soy_base.specs.Names.{is_name}
use Rattle.soy_lexer.specs.declared.token.Token.{Token}
use Rattle.soy_lexer.specs.declared.token.TokenKind.{TokenKind}
use Rattle.soy_lexer.specs.declared.token.TokenKind.TheVariants as kind
use Rattle.soy_tree.specs.Formed.{is_formed_int, is_formed_expr}
use Rattle.soy_base.specs.Limits.{largest}
use Rattle.soy_tree.specs.ViewExpressions.{view_expr}
use Rattle.soy_tree.specs.declared.expr.BinaryOp.TheVariants as binary
use Rattle.soy_tree.specs.declared.expr.ExprNode.{ExprNode}
use Rattle.soy_tree.specs.declared.expr.ExprNode.TheVariants as node
use Rattle.expr_parser.specs.declared.operand.Operand.{Operand}
use Rattle.expr_parser.specs.declared.terminal.Terminal.{Terminal}
use Rattle.expr_parser.specs.declared.terminal.Terminal.TheVariants as terminal
use Rattle.expr_parser.specs.AreNamed.{IsNamed, AreNamed}
use Rattle.expr_parser.specs.Operands.{expr_of, joined, level_of}
use Rattle.expr_parser.specs.SpellsExpr.{SpellsExpr, atom_of}
use Rattle.expr_parser.specs.Terminals.{terminal_of, kind_terminal, int_terminal, word_terminal, symbol_terminal}
use Rattle.expr_parser.specs.Terminals.{int_after}
use Rattle.expr_parser.proofs.ViewExprs.{view-Null, view-Bool, view-Int, view-Str, view-Var, view-Member, view-Index}
use Rattle.expr_parser.proofs.ViewExprs.{view-Neg, view-Not, view-Binary, view-Coalesce, view-Cond}

-- an int is a literal, and a variable a name
abbrev Sound : List ℕ → Terminal → Type 0
Sound name (terminal.Int n) = is_formed_int n ≡ true
Sound name terminal.Variable = is_name name ≡ true
Sound name _ = Unit {0}

record IsSound (name : List ℕ) (m : Terminal) : Type 0 where
  pub sound : Sound name m

picked : (name : List ℕ) (b : Bool) (x y : Terminal) → IsSound name x → IsSound name y →
    IsSound name (if b then x else y)
picked name true x y p q = p
picked name false x y p q = q

int_sound : (name : List ℕ) (n : ℕ) (cs : List ℕ) → nat_le n largest ≡ true → Sound name (int_terminal (int_after n cs))
int_sound name n [] small = small
int_sound name n (c ∷ cs) small =
    over (is_ascii_digit c) (nat_le (10 * n + (c - 48)) largest) refl (int_sound name (10 * n + (c - 48)) cs)
  where
    over : (a b : Bool) → nat_le (10 * n + (c - 48)) largest ≡ b →
        (nat_le (10 * n + (c - 48)) largest ≡ true → Sound name (int_terminal (int_after (10 * n + (c - 48)) cs))) →
        Sound name (int_terminal (if a && b then int_after (10 * n + (c - 48)) cs else None))
    over true true e inside = inside e
    over true false e inside = tt
    over false b e inside = tt

word_sound : (name text : List ℕ) → IsSound name (word_terminal text)
word_sound name text =
    picked name (bytes_eq text (codes "null")) terminal.Null _ (record { sound = tt })
    (picked name (bytes_eq text (codes "true")) (terminal.Bool true) _ (record { sound = tt })
    (picked name (bytes_eq text (codes "false")) (terminal.Bool false) _ (record { sound = tt })
    (picked name (bytes_eq text (codes "not")) terminal.Not _ (record { sound = tt })
    (picked name (bytes_eq text (codes "and")) (terminal.Infix binary.And) _ (record { sound = tt })
    (picked name (bytes_eq text (codes "or")) (terminal.Infix binary.Or) _ (record { sound = tt })
    (record { sound = tt }))))))

symbol_sound : (name text : List ℕ) → IsSound name (symbol_terminal text)
symbol_sound name text =
    picked name (bytes_eq text (codes "*")) (terminal.Infix binary.Mul) _ (record { sound = tt })
    (picked name (bytes_eq text (codes "%")) (terminal.Infix binary.Rem) _ (record { sound = tt })
    (picked name (bytes_eq text (codes "+")) (terminal.Infix binary.Add) _ (record { sound = tt })
    (picked name (bytes_eq text (codes "-")) terminal.Minus _ (record { sound = tt })
    (picked name (bytes_eq text (codes "<")) (terminal.Infix binary.Lt) _ (record { sound = tt })
    (picked name (bytes_eq text (codes ">")) (terminal.Infix binary.Gt) _ (record { sound = tt })
    (picked name (bytes_eq text (codes "<=")) (terminal.Infix binary.Le) _ (record { sound = tt })
    (picked name (bytes_eq text (codes ">=")) (terminal.Infix binary.Ge) _ (record { sound = tt })
    (picked name (bytes_eq text (codes "==")) (terminal.Infix binary.Eq) _ (record { sound = tt })
    (picked name (bytes_eq text (codes "!=")) (terminal.Infix binary.Ne) _ (record { sound = tt })
    (picked name (bytes_eq text (codes "?:")) terminal.Coalesce _ (record { sound = tt })
    (picked name (bytes_eq text (codes "??")) terminal.Coalesce _ (record { sound = tt })
    (picked name (bytes_eq text (codes "?")) terminal.Question _ (record { sound = tt })
    (picked name (bytes_eq text (codes ":")) terminal.Colon _ (record { sound = tt })
    (picked name (bytes_eq text (codes ".")) (terminal.Dot false) _ (record { sound = tt })
    (picked name (bytes_eq text (codes "?.")) (terminal.Dot true) _ (record { sound = tt })
    (picked name (bytes_eq text (codes "[")) (terminal.OpenBracket false) _ (record { sound = tt })
    (picked name (bytes_eq text (codes "?[")) (terminal.OpenBracket true) _ (record { sound = tt })
    (picked name (bytes_eq text (codes "]")) terminal.CloseBracket _ (record { sound = tt })
    (picked name (bytes_eq text (codes "(")) terminal.OpenParen _ (record { sound = tt })
    (picked name (bytes_eq text (codes ")")) terminal.CloseParen _ (record { sound = tt })
    (record { sound = tt })))))))))))))))))))))

token_sound : (k : TokenKind) (name text : List ℕ) → IsNamed k name → Sound name (kind_terminal k text)
token_sound kind.Word name text i = (word_sound name text).sound
token_sound kind.Variable name text i = i
token_sound kind.Int name text i = int_sound name 0 text refl
token_sound kind.Str name text i = tt
token_sound kind.Symbol name text i = (symbol_sound name text).sound
token_sound _ name text i = tt

module _ (t : Token) (named : IsNamed t.kind t.text) where
  sound : (m : Terminal) → terminal_of t ≡ m → Sound t.text m
  sound m e = subst (Sound t.text) e (token_sound t.kind t.text (encode_utf8_all t.text) named)

  some_same : (e f : ExprNode) → Some e ≡ Some f → e ≡ f
  some_same e f h = ap unwrap h
    where
      unwrap : Option ExprNode → ExprNode
      unwrap None = e
      unwrap (Some x) = x

  -- each atom is formed
  atom_formed : (m : Terminal) → terminal_of t ≡ m → (e : ExprNode) → atom_of m t ≡ Some e →
      is_formed_expr (view_expr (expr_of e t.span)) ≡ true
  atom_formed terminal.Null h e s = rw (← some_same node.Null e s, view-Null t.span) refl
  atom_formed (terminal.Bool b) h e s = rw (← some_same (node.Bool b) e s, view-Bool b t.span) refl
  atom_formed (terminal.Int n) h e s = rw (← some_same (node.Int n) e s, view-Int n t.span) (sound (terminal.Int n) h)
  atom_formed terminal.Str h e s = rw (← some_same (node.Str t.text) e s, view-Str t.text t.span) refl
  atom_formed terminal.Variable h e s =
      rw (← some_same (node.Var t.text) e s, view-Var t.text t.span) (sound terminal.Variable h)
  atom_formed _ h e s = absurd (cc s)

-- names around a token
pub record Around (ts : List Token) (t : Token) (us : List Token) : Type 0 where
  pub before : AreNamed ts
  pub itself : IsNamed t.kind t.text
  pub after : AreNamed us

pub around : (ts : List Token) (t : Token) (us : List Token) → AreNamed (ts ++ (t ∷ us)) → Around ts t us
around [] t us h = record { before = tt; itself = h.0; after = h.1 }
around (u ∷ ts) t us h =
    let a = around ts t us h.1 in record { before = (h.0, a.before); itself = a.itself; after = a.after }

word_named : (t : Token) → t.kind ≡ kind.Word → IsNamed t.kind t.text → is_name t.text ≡ true
word_named t is named = subst (λ k. IsNamed k t.text) is named

-- both of two are
both : (a b : Bool) → a ≡ true → b ≡ true → (a && b) ≡ true
both a b p q = rw (p, q) refl

and_three : (a b c : Bool) → a ≡ true → b ≡ true → c ≡ true → (a && b && c) ≡ true
and_three a b c p q r = rw (p, q, r) refl

-- **What tokens spell whose words and variables are names is formed.**
pub formed : (n : ℕ) (ts : List Token) (ds : List ℕ) (x : Operand) → AreNamed ts → SpellsExpr n ts ds x →
    is_formed_expr (view_expr x.expr) ≡ true
formed _ _ _ _ h (SpellsExpr.simple n t e i) = atom_formed t h.0 (terminal_of t) refl e i
formed _ _ _ _ h (SpellsExpr.parens n opening close ts ds x o c s) =
    let a = around ts close [] h.1 in formed 9 ts ds x a.before s
formed _ _ _ _ h (SpellsExpr.named n dot name takes_null ts ds x d w s) =
    let a = around ts dot (name ∷ []) h in
    let l = a.after in
    rw (view-Member x.expr name.text takes_null (joined x.span name.span))
    (both (is_formed_expr (view_expr x.expr)) (is_name name.text) (formed 1 ts ds x a.before s) (word_named name w l.0))
formed _ _ _ _ h (SpellsExpr.index n opening close takes_null ts us ds es x i o c s r) =
    let a = around ts opening (us ++ (close ∷ [])) h in
    let b = around us close [] a.after in
    rw (view-Index x.expr i.expr takes_null (joined x.span close.span))
    (both (is_formed_expr (view_expr x.expr)) (is_formed_expr (view_expr i.expr))
    (formed 1 ts ds x a.before s) (formed 9 us es i b.before r))
formed _ _ _ _ h (SpellsExpr.negation n t ts ds x l m s) =
    rw (view-Neg x.expr (joined t.span x.span)) (formed 2 ts ds x h.1 s)
formed _ _ _ _ h (SpellsExpr.inversion n t ts ds x l m s) =
    rw (view-Not x.expr (joined t.span x.span)) (formed 2 ts ds x h.1 s)
formed _ _ _ _ h (SpellsExpr.infix_ n t op ts us ds es x y l m s r) =
    let a = around ts t us h in
    rw (view-Binary op x.expr y.expr (joined x.span y.span))
    (both (is_formed_expr (view_expr x.expr)) (is_formed_expr (view_expr y.expr))
    (formed (level_of op) ts ds x a.before s) (formed (level_of op - 1) us es y a.after r))
formed _ _ _ _ h (SpellsExpr.coalescing n t ts us ds es x y l m s r) =
    let a = around ts t us h in
    rw (view-Coalesce x.expr y.expr (joined x.span y.span))
    (both (is_formed_expr (view_expr x.expr)) (is_formed_expr (view_expr y.expr))
    (formed 8 ts ds x a.before s) (formed 9 us es y a.after r))
formed _ _ _ _ h (SpellsExpr.conditional_ n q c ts us vs ds es gs x y z l m k s r v) =
    let a = around ts q (us ++ (c ∷ vs)) h in
    let b = around us c vs a.after in
    rw (view-Cond x.expr y.expr z.expr (joined x.span z.span))
    (and_three (is_formed_expr (view_expr x.expr)) (is_formed_expr (view_expr y.expr))
    (is_formed_expr (view_expr z.expr))
    (formed 8 ts ds x a.before s) (formed 9 us es y b.before r) (formed 9 vs gs z b.after v))
