-- The lexemes of an expression spell one that is alike, with the nodes of the written one on its longest branch.
use Rattle.std.proofs.Common.{◌≡◌, ℕ, pos, negsuc, ◌+◌, ◌-◌, ◌≤◌, ◌<◌, ◌&&◌, max, nat_lt, nat_le, Bool, true, false}
use Rattle.std.proofs.Common.{List, [], ◌∷◌, ◌++◌, Some, refl, sym, ap, subst, ◌∙◌, arith}
use Rattle.std.specs.Prelude.{codes}
use Rattle.std.specs.Fmt.{signed_decimal}
use Rattle.std.proofs.lemmas.Bool.Decides.{nat_tests}
use Rattle.soy_base.specs.Names.{is_name}
use Rattle.soy_base.specs.declared.fault.Span.{Span}
use Rattle.soy_lexer.specs.declared.token.Token.{Token}
use Rattle.soy_lexer.specs.declared.token.TokenKind.TheVariants as kind
use Rattle.soy_tree.specs.declared.expr.BinaryOp.{BinaryOp}
use Rattle.soy_tree.specs.declared.expr.ExprNode.{ExprNode}
use Rattle.soy_tree.specs.declared.expr.ExprNode.TheVariants as node
use Rattle.soy_tree.specs.Expressions.{Expr, NullLiteral, BoolLiteral, IntLiteral, StringLiteral, Variable, Member}
use Rattle.soy_tree.specs.Expressions.{Index, Minus, Not, Binary, Coalesce, Conditional}
use Rattle.soy_tree.specs.Formed.{is_formed_expr}
use Rattle.soy_base.specs.Limits.{largest}
use Rattle.soy_tree.specs.ViewExpressions.{view_expr}
use Rattle.expr_parser.specs.declared.operand.Operand.{Operand}
use Rattle.expr_parser.specs.declared.terminal.Terminal.{Terminal}
use Rattle.expr_parser.specs.declared.terminal.Terminal.TheVariants as terminal
use Rattle.expr_parser.specs.Depths.{beside, deeper}
use Rattle.expr_parser.specs.Operands.{atom, combined, coalesced, conditional, expr_of, in_parens, indexed, inverted}
use Rattle.expr_parser.specs.Operands.{joined, level_of as op_level, member, negated}
use Rattle.expr_parser.specs.SpellsExpr.{SpellsExpr, atom_of, infix_of}
use Rattle.expr_parser.specs.Terminals.{terminal_of}
use Rattle.expr_parser.proofs.ViewExprs.{view-Null, view-Bool, view-Int, view-Str, view-Var, view-Member, view-Index}
use Rattle.expr_parser.proofs.ViewExprs.{view-Neg, view-Not, view-Binary, view-Coalesce, view-Cond}
use Rattle.soy_format.specs.FormattedExpression.{bool_text, bracket_text, dot_text}
use Rattle.soy_format.specs.Levels.{level_of, level_of_op}
use Rattle.soy_format.specs.WithoutSpans.{expr_without_spans, no_span}
use Rattle.formatted_source.proofs.Fitting.WrittenHeight.{bracketed_height, expr_height}
use Rattle.formatted_source.specs.ExprLexemes.{bracketed, expr_lexemes, op_lexeme}
use Rattle.formatted_source.specs.Lexemes.{Lexeme, lexemes}
use Rattle.formatted_source.proofs.ExprTerminals.{lexeme_terminal, terminal-lexeme, null_is, bool_is, int_is, not_is}
use Rattle.formatted_source.proofs.ExprTerminals.{minus_is, open_is, close_is, bracket_close_is, bracket_is, dot_is}
use Rattle.formatted_source.proofs.ExprTerminals.{coalesce_is, question_is, colon_is, op_is, level_is}
use Rattle.formatted_source.proofs.LexemeLists.{alone, begun, split}
use Rattle.formatted_source.proofs.Written.Names.{both}

-- the tokens spell an expression at this level that is alike, with a longest branch of this height
pub record IsSpelled (n : ℕ) (ts : List Token) (e : Expr) (height : ℕ) : Type 0 where
  pub depths : List ℕ
  pub operand : Operand
  pub spells : SpellsExpr n ts depths operand
  pub alike : expr_without_spans (view_expr operand.expr) ≡ expr_without_spans e
  pub height_is : operand.height ≡ height

-- an atom
atom_spelled : (n : ℕ) (ts : List Token) (l : Lexeme) (made : Token → ExprNode) (e : Expr)
    → ((t : Token) → t.kind ≡ l.0 → t.text ≡ l.1 → atom_of (terminal_of t) t ≡ Some (made t))
    → ((t : Token) → t.kind ≡ l.0 → t.text ≡ l.1
    → expr_without_spans (view_expr (expr_of (made t) t.span)) ≡ expr_without_spans e)
    → lexemes ts ≡ l ∷ [] → IsSpelled n ts e (deeper 0 0)
atom_spelled n ts l made e is alike h =
    let one = alone ts l h in
    record {
      depths = beside 0 (0 ∷ []);
      operand = atom (made one.token) one.token;
      spells = subst (λ l. SpellsExpr n l (beside 0 (0 ∷ [])) (atom (made one.token) one.token)) (sym one.are)
          (SpellsExpr.simple n one.token (made one.token) (is one.token one.kind_is one.text_is));
      alike = alike one.token one.kind_is one.text_is;
      height_is = refl;
    }

-- what an atom's token is, by what its lexeme is
atom_by : (t : Token) (l : Lexeme) (m : Terminal) (n : ExprNode) → t.kind ≡ l.0 → t.text ≡ l.1
    → lexeme_terminal l ≡ m → atom_of m t ≡ Some n → atom_of (terminal_of t) t ≡ Some n
atom_by t l m n k e is made = ap (λ m. atom_of m t) (terminal-lexeme t l k e ∙ is) ∙ made

-- levels are 9 at most
pub levels_end : (e : Expr) → level_of e ≤ 9
levels_end (NullLiteral span) = omega arith
levels_end (BoolLiteral b span) = omega arith
levels_end (IntLiteral n span) = omega arith
levels_end (StringLiteral text span) = omega arith
levels_end (Variable name span) = omega arith
levels_end (Member e name takes_null span) = omega arith
levels_end (Index e i takes_null span) = omega arith
levels_end (Minus e span) = omega arith
levels_end (Not e span) = omega arith
levels_end (Binary o a b span) = omega (arith, (level_is o).below)
levels_end (Coalesce a b span) = omega arith
levels_end (Conditional c a b span) = omega arith

-- the lexemes of an expression spell it at each level from its own on
abbrev Spells : Expr → Type 0
Spells e = (n : ℕ) (ts : List Token) → level_of e ≤ n → lexemes ts ≡ expr_lexemes e → IsSpelled n ts e (expr_height e)

-- and so they do in parentheses, which have to stand around those of a greater level
in_brackets : (e : Expr) (n : ℕ) (ts : List Token) (b : Bool) → Spells e → (b ≡ false → level_of e ≤ n)
    → lexemes ts ≡ bracketed b (expr_lexemes e) → IsSpelled n ts e (bracketed_height b (expr_height e))
in_brackets e n ts false own fits h = own n ts (fits refl) h
in_brackets e n ts true own fits h =
    let first = begun ts (kind.Symbol, codes "(") (expr_lexemes e ++ ((kind.Symbol, codes ")") ∷ [])) h in
    let parts = split first.rest (expr_lexemes e) ((kind.Symbol, codes ")") ∷ []) first.rests in
    let last = alone parts.second (kind.Symbol, codes ")") parts.seconds in
    let inner = own 9 parts.first (levels_end e) parts.firsts in
    let whole : ts ≡ first.token ∷ (parts.first ++ (last.token ∷ [])) =
    first.are ∙ ap (λ l. first.token ∷ l) (parts.are ∙ ap (λ l. parts.first ++ l) last.are) in
    record {
      depths = beside 0 (0 ∷ (inner.depths ++ (inner.operand.height ∷ [])));
      operand = in_parens first.token.span inner.operand last.token.span;
      spells = subst (λ l. SpellsExpr n l (beside 0 (0 ∷ (inner.depths ++ (inner.operand.height ∷ []))))
          (in_parens first.token.span inner.operand last.token.span)) (sym whole)
          (SpellsExpr.parens n first.token last.token parts.first inner.depths inner.operand
          (terminal-lexeme first.token (kind.Symbol, codes "(") first.kind_is first.text_is ∙ open_is)
          (terminal-lexeme last.token (kind.Symbol, codes ")") last.kind_is last.text_is ∙ close_is) inner.spells);
      alike = inner.alike;
      height_is = ap (deeper 0) inner.height_is;
    }

not_above : (a b : ℕ) → nat_lt a b ≡ false → b ≤ a
not_above a b h = grind (arith, nat_tests, h)

not_reached : (a b n : ℕ) → nat_le a b ≡ false → a ≡ n + 1 → b ≤ n
not_reached a b n h e =
    let less : b < a = grind (arith, nat_tests, h) in
    omega (arith, less, e)

-- an access by a name
member_spelled : (n : ℕ) (ts : List Token) (span : Span) (e : Expr) (name : List ℕ) (takes_null : Bool) (height : ℕ)
    (ls : List Lexeme) → ((us : List Token) → lexemes us ≡ ls → IsSpelled 1 us e height)
    → lexemes ts ≡ ls ++ ((kind.Symbol, dot_text takes_null) ∷ ((kind.Word, name) ∷ []))
    → IsSpelled n ts (Member e name takes_null span) (deeper height 0)
member_spelled n ts span e name takes_null height ls base h =
    let parts = split ts ls ((kind.Symbol, dot_text takes_null) ∷ ((kind.Word, name) ∷ [])) h in
    let dot = begun parts.second (kind.Symbol, dot_text takes_null) ((kind.Word, name) ∷ []) parts.seconds in
    let word = alone dot.rest (kind.Word, name) dot.rests in
    let inner = base parts.first parts.firsts in
    let whole : ts ≡ parts.first ++ (dot.token ∷ (word.token ∷ [])) =
    parts.are ∙ ap (λ l. parts.first ++ l) (dot.are ∙ ap (λ l. dot.token ∷ l) word.are) in
    record {
      depths = inner.depths ++ beside inner.operand.height (0 ∷ (0 ∷ []));
      operand = member inner.operand takes_null word.token;
      spells = subst (λ l. SpellsExpr n l (inner.depths ++ beside inner.operand.height (0 ∷ (0 ∷ [])))
          (member inner.operand takes_null word.token)) (sym whole)
          (SpellsExpr.named n dot.token word.token takes_null parts.first inner.depths inner.operand
          (terminal-lexeme dot.token (kind.Symbol, dot_text takes_null) dot.kind_is dot.text_is ∙ dot_is takes_null)
          word.kind_is inner.spells);
      alike = ap expr_without_spans (view-Member inner.operand.expr word.token.text takes_null
          (joined inner.operand.span word.token.span))
          ∙ (ap (λ x. Member x word.token.text takes_null no_span) inner.alike
          ∙ ap (λ x. Member (expr_without_spans e) x takes_null no_span) word.text_is);
      height_is = ap (λ x. deeper x 0) inner.height_is;
    }

-- an access by an index
index_spelled : (n : ℕ) (ts : List Token) (span : Span) (e i : Expr) (takes_null : Bool) (height : ℕ) (ls : List Lexeme)
    → ((us : List Token) → lexemes us ≡ ls → IsSpelled 1 us e height) → Spells i
    → lexemes ts ≡ ls ++ ((kind.Symbol, bracket_text takes_null) ∷ (expr_lexemes i ++ ((kind.Symbol, codes "]") ∷ [])))
    → IsSpelled n ts (Index e i takes_null span) (deeper height (expr_height i))
index_spelled n ts span e i takes_null height ls base own h =
    let parts = split ts ls ((kind.Symbol, bracket_text takes_null) ∷ (expr_lexemes i ++
    ((kind.Symbol, codes "]") ∷ []))) h in
    let opening = begun parts.second (kind.Symbol, bracket_text takes_null)
    (expr_lexemes i ++ ((kind.Symbol, codes "]") ∷ [])) parts.seconds in
    let within = split opening.rest (expr_lexemes i) ((kind.Symbol, codes "]") ∷ []) opening.rests in
    let close = alone within.second (kind.Symbol, codes "]") within.seconds in
    let a = base parts.first parts.firsts in
    let b = own 9 within.first (levels_end i) within.firsts in
    let whole : ts ≡ parts.first ++ (opening.token ∷ (within.first ++ (close.token ∷ []))) =
    parts.are ∙ ap (λ l. parts.first ++ l) (opening.are ∙ ap (λ l. opening.token ∷ l)
    (within.are ∙ ap (λ l. within.first ++ l) close.are)) in
    record {
      depths = a.depths ++ beside a.operand.height (0 ∷ (b.depths ++ (b.operand.height ∷ [])));
      operand = indexed a.operand takes_null b.operand close.token.span;
      spells = subst (λ l. SpellsExpr n l
          (a.depths ++ beside a.operand.height (0 ∷ (b.depths ++ (b.operand.height ∷ []))))
          (indexed a.operand takes_null b.operand close.token.span)) (sym whole)
          (SpellsExpr.index n opening.token close.token takes_null parts.first within.first a.depths b.depths a.operand
          b.operand
          (terminal-lexeme opening.token (kind.Symbol, bracket_text takes_null) opening.kind_is opening.text_is
          ∙ bracket_is takes_null)
          (terminal-lexeme close.token (kind.Symbol, codes "]") close.kind_is close.text_is ∙ bracket_close_is)
          a.spells b.spells);
      alike = ap expr_without_spans (view-Index a.operand.expr b.operand.expr takes_null
          (joined a.operand.span close.token.span))
          ∙ (ap (λ x. Index x (expr_without_spans (view_expr b.operand.expr)) takes_null no_span) a.alike
          ∙ ap (λ x. Index (expr_without_spans e) x takes_null no_span) b.alike);
      height_is = ap (λ x. deeper x b.operand.height) a.height_is ∙ ap (deeper height) b.height_is;
    }

-- an operator before its operand
minus_spelled : (n : ℕ) (ts : List Token) (span : Span) (e : Expr) (height : ℕ) (ls : List Lexeme) → 2 ≤ n
    → ((us : List Token) → lexemes us ≡ ls → IsSpelled 2 us e height)
    → lexemes ts ≡ (kind.Symbol, codes "-") ∷ ls → IsSpelled n ts (Minus e span) (deeper 0 height)
minus_spelled n ts span e height ls fits base h =
    let first = begun ts (kind.Symbol, codes "-") ls h in
    let inner = base first.rest first.rests in
    record {
      depths = beside 0 (0 ∷ inner.depths);
      operand = negated first.token.span inner.operand;
      spells = subst (λ l. SpellsExpr n l (beside 0 (0 ∷ inner.depths)) (negated first.token.span inner.operand))
          (sym first.are) (SpellsExpr.negation n first.token first.rest inner.depths inner.operand fits
          (terminal-lexeme first.token (kind.Symbol, codes "-") first.kind_is first.text_is ∙ minus_is) inner.spells);
      alike = ap expr_without_spans (view-Neg inner.operand.expr (joined first.token.span inner.operand.span))
          ∙ ap (λ x. Minus x no_span) inner.alike;
      height_is = ap (deeper 0) inner.height_is;
    }

not_spelled : (n : ℕ) (ts : List Token) (span : Span) (e : Expr) (height : ℕ) (ls : List Lexeme) → 2 ≤ n
    → ((us : List Token) → lexemes us ≡ ls → IsSpelled 2 us e height)
    → lexemes ts ≡ (kind.Word, codes "not") ∷ ls → IsSpelled n ts (Not e span) (deeper 0 height)
not_spelled n ts span e height ls fits base h =
    let first = begun ts (kind.Word, codes "not") ls h in
    let inner = base first.rest first.rests in
    record {
      depths = beside 0 (0 ∷ inner.depths);
      operand = inverted first.token.span inner.operand;
      spells = subst (λ l. SpellsExpr n l (beside 0 (0 ∷ inner.depths)) (inverted first.token.span inner.operand))
          (sym first.are) (SpellsExpr.inversion n first.token first.rest inner.depths inner.operand fits
          (terminal-lexeme first.token (kind.Word, codes "not") first.kind_is first.text_is ∙ not_is) inner.spells);
      alike = ap expr_without_spans (view-Not inner.operand.expr (joined first.token.span inner.operand.span))
          ∙ ap (λ x. Not x no_span) inner.alike;
      height_is = ap (deeper 0) inner.height_is;
    }

-- an operator between its operands
infix_spelled : (n : ℕ) (ts : List Token) (span : Span) (o : BinaryOp) (a b : Expr) (g k : ℕ) (ls ms : List Lexeme)
    → level_of_op o ≤ n
    → ((us : List Token) → lexemes us ≡ ls → IsSpelled (level_of_op o) us a g)
    → ((us : List Token) → lexemes us ≡ ms → IsSpelled (level_of_op o - 1) us b k)
    → lexemes ts ≡ ls ++ (op_lexeme o ∷ ms) → IsSpelled n ts (Binary o a b span) (deeper g k)
infix_spelled n ts span o a b g k ls ms fits left right h =
    let parts = split ts ls (op_lexeme o ∷ ms) h in
    let sign = begun parts.second (op_lexeme o) ms parts.seconds in
    let x = left parts.first parts.firsts in
    let y = right sign.rest sign.rests in
    let same : op_level o ≡ level_of_op o = (level_is o).same in
    let whole : ts ≡ parts.first ++ (sign.token ∷ sign.rest) = parts.are ∙ ap (λ l. parts.first ++ l) sign.are in
    record {
      depths = x.depths ++ beside x.operand.height (0 ∷ y.depths);
      operand = combined o x.operand y.operand;
      spells = subst (λ l. SpellsExpr n l (x.depths ++ beside x.operand.height (0 ∷ y.depths))
          (combined o x.operand y.operand)) (sym whole)
          (SpellsExpr.infix_ n sign.token o parts.first sign.rest x.depths y.depths x.operand y.operand
          (subst (λ m. m ≤ n) (sym same) fits)
          (ap infix_of (terminal-lexeme sign.token (op_lexeme o) sign.kind_is sign.text_is) ∙ op_is o)
          (subst (λ m. SpellsExpr m parts.first x.depths x.operand) (sym same) x.spells)
          (subst (λ m. SpellsExpr (m - 1) sign.rest y.depths y.operand) (sym same) y.spells));
      alike = ap expr_without_spans (view-Binary o x.operand.expr y.operand.expr (joined x.operand.span y.operand.span))
          ∙ (ap (λ z. Binary o z (expr_without_spans (view_expr y.operand.expr)) no_span) x.alike
          ∙ ap (λ z. Binary o (expr_without_spans a) z no_span) y.alike);
      height_is = ap (λ z. deeper z y.operand.height) x.height_is ∙ ap (deeper g) y.height_is;
    }

coalesce_spelled : (n : ℕ) (ts : List Token) (span : Span) (a b : Expr) (g : ℕ) (ls : List Lexeme) → 9 ≤ n
    → ((us : List Token) → lexemes us ≡ ls → IsSpelled 8 us a g) → Spells b
    → lexemes ts ≡ ls ++ ((kind.Symbol, codes "?:") ∷ expr_lexemes b)
    → IsSpelled n ts (Coalesce a b span) (deeper g (expr_height b))
coalesce_spelled n ts span a b g ls fits left own h =
    let parts = split ts ls ((kind.Symbol, codes "?:") ∷ expr_lexemes b) h in
    let sign = begun parts.second (kind.Symbol, codes "?:") (expr_lexemes b) parts.seconds in
    let x = left parts.first parts.firsts in
    let y = own 9 sign.rest (levels_end b) sign.rests in
    let whole : ts ≡ parts.first ++ (sign.token ∷ sign.rest) = parts.are ∙ ap (λ l. parts.first ++ l) sign.are in
    record {
      depths = x.depths ++ beside x.operand.height (0 ∷ y.depths);
      operand = coalesced x.operand y.operand;
      spells = subst (λ l. SpellsExpr n l (x.depths ++ beside x.operand.height (0 ∷ y.depths))
          (coalesced x.operand y.operand)) (sym whole)
          (SpellsExpr.coalescing n sign.token parts.first sign.rest x.depths y.depths x.operand y.operand fits
          (terminal-lexeme sign.token (kind.Symbol, codes "?:") sign.kind_is sign.text_is ∙ coalesce_is)
          x.spells y.spells);
      alike = ap expr_without_spans (view-Coalesce x.operand.expr y.operand.expr
          (joined x.operand.span y.operand.span))
          ∙ (ap (λ z. Coalesce z (expr_without_spans (view_expr y.operand.expr)) no_span) x.alike
          ∙ ap (λ z. Coalesce (expr_without_spans a) z no_span) y.alike);
      height_is = ap (λ z. deeper z y.operand.height) x.height_is ∙ ap (deeper g) y.height_is;
    }

conditional_spelled : (n : ℕ) (ts : List Token) (span : Span) (c a b : Expr) (g : ℕ) (ls : List Lexeme) → 9 ≤ n
    → ((us : List Token) → lexemes us ≡ ls → IsSpelled 8 us c g) → Spells a → Spells b
    → lexemes ts ≡ ls ++ ((kind.Symbol, codes "?") ∷ (expr_lexemes a ++ ((kind.Symbol, codes ":") ∷ expr_lexemes b)))
    → IsSpelled n ts (Conditional c a b span) (deeper (max g (expr_height a)) (expr_height b))
conditional_spelled n ts span c a b g ls fits left middle right h =
    let parts = split ts ls ((kind.Symbol, codes "?") ∷ (expr_lexemes a ++
    ((kind.Symbol, codes ":") ∷ expr_lexemes b))) h in
    let question = begun parts.second (kind.Symbol, codes "?")
    (expr_lexemes a ++ ((kind.Symbol, codes ":") ∷ expr_lexemes b)) parts.seconds in
    let within = split question.rest (expr_lexemes a) ((kind.Symbol, codes ":") ∷ expr_lexemes b) question.rests in
    let colon = begun within.second (kind.Symbol, codes ":") (expr_lexemes b) within.seconds in
    let x = left parts.first parts.firsts in
    let y = middle 9 within.first (levels_end a) within.firsts in
    let z = right 9 colon.rest (levels_end b) colon.rests in
    let whole : ts ≡ parts.first ++ (question.token ∷ (within.first ++ (colon.token ∷ colon.rest))) =
    parts.are ∙ ap (λ l. parts.first ++ l) (question.are ∙ ap (λ l. question.token ∷ l)
    (within.are ∙ ap (λ l. within.first ++ l) colon.are)) in
    record {
      depths = x.depths ++ (beside x.operand.height (0 ∷ y.depths)
          ++ beside (max x.operand.height y.operand.height) (0 ∷ z.depths));
      operand = conditional x.operand y.operand z.operand;
      spells = subst (λ l. SpellsExpr n l (x.depths ++ (beside x.operand.height (0 ∷ y.depths)
          ++ beside (max x.operand.height y.operand.height) (0 ∷ z.depths)))
          (conditional x.operand y.operand z.operand)) (sym whole)
          (SpellsExpr.conditional_ n question.token colon.token parts.first within.first colon.rest x.depths y.depths
          z.depths x.operand y.operand z.operand fits
          (terminal-lexeme question.token (kind.Symbol, codes "?") question.kind_is question.text_is ∙ question_is)
          (terminal-lexeme colon.token (kind.Symbol, codes ":") colon.kind_is colon.text_is ∙ colon_is)
          x.spells y.spells z.spells);
      alike = ap expr_without_spans (view-Cond x.operand.expr y.operand.expr z.operand.expr
          (joined x.operand.span z.operand.span))
          ∙ (ap (λ w. Conditional w (expr_without_spans (view_expr y.operand.expr))
          (expr_without_spans (view_expr z.operand.expr)) no_span) x.alike
          ∙ (ap (λ w. Conditional (expr_without_spans c) w (expr_without_spans
          (view_expr z.operand.expr)) no_span) y.alike
          ∙ ap (λ w. Conditional (expr_without_spans c) (expr_without_spans a) w no_span) z.alike));
      height_is = ap (λ w. deeper (max w y.operand.height) z.operand.height) x.height_is
          ∙ (ap (λ w. deeper (max g w) z.operand.height) y.height_is
          ∙ ap (deeper (max g (expr_height a))) z.height_is);
    }

largest_int : (n : ℕ) → nat_le n largest ≡ true → n ≤ largest
largest_int n h = grind (arith, nat_tests, h)

-- **The lexemes of an expression spell an expression that is alike.**
pub expr_spelled : (e : Expr) → is_formed_expr e ≡ true → Spells e
expr_spelled (NullLiteral span) f n ts fits h =
    atom_spelled n ts (kind.Word, codes "null") (λ t. node.Null) (NullLiteral span)
    (λ t k e. atom_by t (kind.Word, codes "null") terminal.Null node.Null k e null_is refl)
    (λ t k e. ap expr_without_spans (view-Null t.span)) h
expr_spelled (BoolLiteral b span) f n ts fits h =
    atom_spelled n ts (kind.Word, bool_text b) (λ t. node.Bool b) (BoolLiteral b span)
    (λ t k e. atom_by t (kind.Word, bool_text b) (terminal.Bool b) (node.Bool b) k e (bool_is b) refl)
    (λ t k e. ap expr_without_spans (view-Bool b t.span)) h
expr_spelled (IntLiteral (pos m) span) f n ts fits h =
    atom_spelled n ts (kind.Int, signed_decimal (pos m)) (λ t. node.Int (pos m)) (IntLiteral (pos m) span)
    (λ t k e. atom_by t (kind.Int, signed_decimal (pos m)) (terminal.Int (pos m)) (node.Int (pos m)) k e
    (int_is m (largest_int m f)) refl)
    (λ t k e. ap expr_without_spans (view-Int (pos m) t.span)) h
expr_spelled (IntLiteral (negsuc m) span) f n ts fits h = cc
expr_spelled (StringLiteral text span) f n ts fits h =
    atom_spelled n ts (kind.Str, text) (λ t. node.Str t.text) (StringLiteral text span)
    (λ t k e. atom_by t (kind.Str, text) terminal.Str (node.Str t.text) k e refl refl)
    (λ t k e. ap expr_without_spans (view-Str t.text t.span) ∙ ap (λ x. StringLiteral x no_span) e) h
expr_spelled (Variable name span) f n ts fits h =
    atom_spelled n ts (kind.Variable, name) (λ t. node.Var t.text) (Variable name span)
    (λ t k e. atom_by t (kind.Variable, name) terminal.Variable (node.Var t.text) k e refl refl)
    (λ t k e. ap expr_without_spans (view-Var t.text t.span) ∙ ap (λ x. Variable x no_span) e) h
expr_spelled (Member e name takes_null span) f n ts fits h =
    let fs = both (is_formed_expr e) (is_name name) f in
    member_spelled n ts span e name takes_null (bracketed_height (nat_lt 1 (level_of e)) (expr_height e))
    (bracketed (nat_lt 1 (level_of e)) (expr_lexemes e))
    (λ us k. in_brackets e 1 us (nat_lt 1 (level_of e)) (expr_spelled e fs.0) (not_above 1 (level_of e)) k) h
expr_spelled (Index e i takes_null span) f n ts fits h =
    let fs = both (is_formed_expr e) (is_formed_expr i) f in
    index_spelled n ts span e i takes_null (bracketed_height (nat_lt 1 (level_of e)) (expr_height e))
    (bracketed (nat_lt 1 (level_of e)) (expr_lexemes e))
    (λ us k. in_brackets e 1 us (nat_lt 1 (level_of e)) (expr_spelled e fs.0) (not_above 1 (level_of e)) k)
    (expr_spelled i fs.1) h
expr_spelled (Minus e span) f n ts fits h =
    minus_spelled n ts span e (bracketed_height (nat_lt 2 (level_of e)) (expr_height e))
    (bracketed (nat_lt 2 (level_of e)) (expr_lexemes e)) fits
    (λ us k. in_brackets e 2 us (nat_lt 2 (level_of e)) (expr_spelled e f) (not_above 2 (level_of e)) k) h
expr_spelled (Not e span) f n ts fits h =
    not_spelled n ts span e (bracketed_height (nat_lt 2 (level_of e)) (expr_height e))
    (bracketed (nat_lt 2 (level_of e)) (expr_lexemes e)) fits
    (λ us k. in_brackets e 2 us (nat_lt 2 (level_of e)) (expr_spelled e f) (not_above 2 (level_of e)) k) h
expr_spelled (Binary o a b span) f n ts fits h =
    let fs = both (is_formed_expr a) (is_formed_expr b) f in
    let above : level_of_op o ≡ (level_of_op o - 1) + 1 = omega (arith, (level_is o).above) in
    infix_spelled n ts span o a b (bracketed_height (nat_lt (level_of_op o) (level_of a)) (expr_height a))
    (bracketed_height (nat_le (level_of_op o) (level_of b)) (expr_height b))
    (bracketed (nat_lt (level_of_op o) (level_of a)) (expr_lexemes a))
    (bracketed (nat_le (level_of_op o) (level_of b)) (expr_lexemes b)) fits
    (λ us k. in_brackets a (level_of_op o) us (nat_lt (level_of_op o) (level_of a)) (expr_spelled a fs.0)
    (not_above (level_of_op o) (level_of a)) k)
    (λ us k. in_brackets b (level_of_op o - 1) us (nat_le (level_of_op o) (level_of b)) (expr_spelled b fs.1)
    (λ e. not_reached (level_of_op o) (level_of b) (level_of_op o - 1) e above) k) h
expr_spelled (Coalesce a b span) f n ts fits h =
    let fs = both (is_formed_expr a) (is_formed_expr b) f in
    coalesce_spelled n ts span a b (bracketed_height (nat_le 9 (level_of a)) (expr_height a))
    (bracketed (nat_le 9 (level_of a)) (expr_lexemes a)) fits
    (λ us k. in_brackets a 8 us (nat_le 9 (level_of a)) (expr_spelled a fs.0)
    (λ e. not_reached 9 (level_of a) 8 e refl) k) (expr_spelled b fs.1) h
expr_spelled (Conditional c a b span) f n ts fits h =
    let fs = both (is_formed_expr c && is_formed_expr a) (is_formed_expr b) f in
    let gs = both (is_formed_expr c) (is_formed_expr a) fs.0 in
    conditional_spelled n ts span c a b (bracketed_height (nat_le 9 (level_of c)) (expr_height c))
    (bracketed (nat_le 9 (level_of c)) (expr_lexemes c)) fits
    (λ us k. in_brackets c 8 us (nat_le 9 (level_of c)) (expr_spelled c gs.0)
    (λ e. not_reached 9 (level_of c) 8 e refl) k) (expr_spelled a gs.1) (expr_spelled b fs.1) h
