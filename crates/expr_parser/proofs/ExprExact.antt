-- Tokens are read exactly as far as some expression begins with them, and a whole expression exactly where they spell
-- one.
use Rattle.std.proofs.Common.{◌≡◌, ℕ, ◌≤◌, List, [], ◌∷◌, ◌++◌, Option, Some, None, refl, sym, ◌∙◌, ap, arith}
use Rattle.std.proofs.Common.{append_assoc, append-nil}
use Rattle.std.specs.Prelude.{codes}
use Rattle.soy_base.specs.declared.fault.Span.{Span}
use Rattle.soy_lexer.specs.declared.token.Token.{Token}
use Rattle.soy_lexer.specs.declared.token.TokenKind.TheVariants as kind
use Rattle.soy_tree.specs.declared.expr.ExprNode.TheVariants as node
use Rattle.expr_parser.specs.declared.terminal.Terminal.TheVariants as terminal
use Rattle.expr_parser.specs.declared.frame.Frame.{Frame}
use Rattle.expr_parser.specs.Frames.{Nested}
use Rattle.expr_parser.specs.declared.operand.Operand.{Operand}
use Rattle.expr_parser.specs.declared.state.Expected.{Expected}
use Rattle.expr_parser.specs.declared.state.Expected.TheVariants as expected
use Rattle.expr_parser.specs.declared.state.ExprState.{ExprState}
use Rattle.expr_parser.specs.Operands.{atom, negated, inverted, combined, coalesced, conditional, member, indexed}
use Rattle.expr_parser.specs.Operands.{in_parens, level_of}
use Rattle.expr_parser.specs.Terminals.{terminal_of}
use Rattle.expr_parser.specs.Frames.{reduced}
use Rattle.expr_parser.specs.ExprSteps.{whole_expr, whole_at, alone, whole}
use Rattle.expr_parser.specs.SpellsExpr.{SpellsExpr}
use Rattle.expr_parser.specs.ExprRuns.{expr_run, expr_run_from, expr_start}
use Rattle.expr_parser.proofs.Levels.{Accepts, accepts_one}
use Rattle.expr_parser.proofs.ExprComplete.{after_at, complete}
use Rattle.expr_parser.proofs.ExprSound.{Opened, Spelled, Holds, Holds_at, Rests, run_holds, rests, widened, one_on}
use Rattle.expr_parser.proofs.ExprSound.{two_on, four_on, negated_spells, inverted_spells, combined_spells}
use Rattle.expr_parser.proofs.ExprSound.{coalesced_spells, conditional_spells, parens_spells, indexed_spells}
use Rattle.expr_parser.proofs.ExprSound.{member_spells, atom_spells}
use Rattle.expr_parser.proofs.ExprRunning.{run_append, Goes}

-- tokens that close what is opening

abbrev no_span : Span
no_span = record { start = 0; end = 0 }

abbrev symbol : List ℕ → Token
symbol text = record { kind = kind.Symbol; span = no_span; text = text }

abbrev some_operand : Token
some_operand = record { kind = kind.Variable; span = no_span; text = codes "x" }

abbrev some_name : Token
some_name = record { kind = kind.Word; span = no_span; text = codes "x" }

is_close : terminal_of (symbol (codes ")")) ≡ terminal.CloseParen
unfolding lib.Utf8.encode
is_close = refl

is_bracket : terminal_of (symbol (codes "]")) ≡ terminal.CloseBracket
unfolding lib.Utf8.encode
is_bracket = refl

is_colon : terminal_of (symbol (codes ":")) ≡ terminal.Colon
unfolding lib.Utf8.encode
is_colon = refl

-- further tokens complete these to an expression
pub record Completes (ts : List Token) : Type 0 where
  pub more : List Token
  pub depths : List ℕ
  pub operand : Operand
  pub spells : SpellsExpr 9 (ts ++ more) depths operand

-- what can be completed, can still be without its last tokens
shorter : (ts us : List Token) → Completes (ts ++ us) → Completes ts
shorter ts us b = record {
  more = us ++ b.more;
  depths = b.depths;
  operand = b.operand;
  spells =
      (rw (append_assoc ts us b.more) at b.spells);
}

-- what is opening can be closed
filled : (fs : List Frame) (prefix : List Token) → Opened fs prefix → (n : ℕ) (x : Operand) (us : List Token) →
    Spelled n us x → Accepts n fs → Completes (prefix ++ us)
filled _ _ Opened.none n x us s a = record {
  more = [];
  depths = s.depths;
  operand = x;
  spells = rw append-nil
      (widened n 9 us s.depths x a s.spells);
}
filled _ _ (Opened.neg fs ts t o f m) n x us s a = rw (one_on ts us t)
    (filled fs ts o 2 (negated t.span x) (t ∷ us) (negated_spells t n us x m a s) f)
filled _ _ (Opened.invert fs ts t o f m) n x us s a = rw (one_on ts us t)
    (filled fs ts o 2 (inverted t.span x) (t ∷ us) (inverted_spells t n us x m a s) f)
filled _ _ (Opened.infix_ fs ts vs t op b o f l m) n x us s a =
    rw (two_on ts vs us t) (filled fs ts o (level_of op) (combined op b x) (vs ++ (t ∷ us))
    (combined_spells t op n vs us b x m a l s) f)
filled _ _ (Opened.coalesce fs ts vs t b o f l m) n x us s a =
    rw (two_on ts vs us t) (filled fs ts o 9 (coalesced b x) (vs ++ (t ∷ us)) (coalesced_spells t n vs us b x m a l s)
    f)
filled _ _ (Opened.else_ fs ts vs ws q t c b o f l m r e) n x us s a =
    rw (four_on ts vs ws us q t) (filled fs ts o 9 (conditional c b x) (vs ++ (q ∷ (ws ++ (t ∷ us))))
    (conditional_spells q t n vs ws us c b x m e a l r s) f)
filled _ _ (Opened.paren fs ts t o m) n x us s a =
    let c = symbol (codes ")") in
    shorter ((ts ++ (t ∷ [])) ++ us) (c ∷ [])
    (rw (one_on ts us t, append_assoc ts (t ∷ us) (c ∷ []))
    (filled fs ts o 1 (in_parens t.span x no_span) (t ∷ (us ++ (c ∷ []))) (parens_spells t c n us x m is_close a s)
    (accepts_one fs)))
filled _ _ (Opened.index fs ts vs t b safe o l m) n x us s a =
    let c = symbol (codes "]") in
    shorter ((ts ++ (vs ++ (t ∷ []))) ++ us) (c ∷ [])
    (rw (two_on ts vs us t, append_assoc ts (vs ++ (t ∷ us)) (c ∷ []), append_assoc vs (t ∷ us) (c ∷ []))
    (filled fs ts o 1 (indexed b safe x no_span) (vs ++ (t ∷ (us ++ (c ∷ []))))
    (indexed_spells t c safe n vs us b x m is_bracket a l s) (accepts_one fs)))
filled _ _ (Opened.then_ fs ts vs t c o f l m) n x us s a =
    let k = symbol (codes ":") in
    let v = atom (node.Var (codes "x")) some_operand in
    shorter ((ts ++ (vs ++ (t ∷ []))) ++ us) (k ∷ (some_operand ∷ []))
    (rw (
      two_on ts vs us t,
      append_assoc ts (vs ++ (t ∷ us)) (k ∷ (some_operand ∷ [])),
      append_assoc vs (t ∷ us)
          (k ∷ (some_operand ∷ [])),
    )
    (filled fs ts o 9 (conditional c x v) (vs ++ (t ∷ (us ++ (k ∷ (some_operand ∷ [])))))
    (conditional_spells t k 1 vs us (some_operand ∷ []) c x v m is_colon (omega arith) l
    (record { depths = s.depths; spells = widened n 9 us s.depths x a s.spells })
    (atom_spells some_operand (node.Var (codes "x")) refl)) f))

-- so what was read can be completed
begun_at : (p : Expected) (fs : List Frame) (ts : List Token) → Holds_at p fs ts → Completes ts
begun_at expected.Operand fs ts h =
    shorter ts (some_operand ∷ []) (filled fs ts h 1 (atom (node.Var (codes "x")) some_operand) (some_operand ∷ [])
    (atom_spells some_operand (node.Var (codes "x")) refl) (accepts_one fs))
begun_at (expected.Name x safe) fs ts h =
    let b = h.before in
    shorter ts (some_name ∷ [])
    (rw (
      h.whole,
      b.whole,
      append_assoc (b.prefix ++ b.suffix) (h.dot ∷ []) (some_name ∷ []),
      append_assoc b.prefix
          b.suffix (h.dot ∷ (some_name ∷ [])),
    )
    (filled fs b.prefix b.opened 1 (member x safe some_name) (b.suffix ++ (h.dot ∷ (some_name ∷ [])))
    (member_spells h.dot some_name safe b.suffix x h.is_dot refl b.spelled) (accepts_one fs)))
begun_at (expected.Operator x) fs ts h = rw h.whole (filled fs h.prefix h.opened 1 x h.suffix h.spelled h.accepts)

start_holds : Holds expr_start []
start_holds = Opened.none

pub run-Completes : (ts : List Token) (s : ExprState) → expr_run ts expr_start ≡ Some s → Completes ts
run-Completes ts s e = begun_at s.expected s.frames ts (run_holds ts [] expr_start s start_holds e)

-- there is a state after the tokens
pub record HasRun (ts : List Token) : Type 0 where
  pub state : ExprState
  pub is : expr_run ts expr_start ≡ Some state

pub Completes-run : (ts : List Token) → Completes ts → HasRun ts
Completes-run ts b =
    let r = complete 9 (ts ++ b.more) b.depths b.operand b.spells [] (omega arith) in
    over (expr_run ts expr_start) refl (sym (run_append ts b.more expr_start) ∙ r.goes.runs)
  where
    over : {s : ExprState} → (to : Option ExprState) → expr_run ts expr_start ≡ to →
        expr_run_from (expr_run b.more) to ≡ Some s → HasRun ts
    over None e h = absurd (cc h)
    over (Some m) e h = record { state = m; is = e }

-- a whole expression

abbrev pub IfWhole : Option Operand → List Token → Type 0
IfWhole None ts = Unit {0}
IfWhole (Some x) ts = Spelled 9 ts x

alone_whole : (fs : List Frame) (prefix : List Token) → Opened fs prefix → (n : ℕ) (x : Operand) (us : List Token) →
    Spelled n us x → n ≤ 9 → IfWhole (alone fs x) (prefix ++ us)
alone_whole _ _ Opened.none n x us s small = record {
  depths = s.depths;
  spells = widened n 9 us s.depths x small
      s.spells;
}
alone_whole _ _ (Opened.neg fs ts q o f m) n x us s small = tt
alone_whole _ _ (Opened.invert fs ts q o f m) n x us s small = tt
alone_whole _ _ (Opened.paren fs ts q o m) n x us s small = tt
alone_whole _ _ (Opened.then_ fs ts vs q c o f l m) n x us s small = tt
alone_whole _ _ (Opened.index fs ts vs q a safe o l m) n x us s small = tt
alone_whole _ _ (Opened.infix_ fs ts vs q op a o f l m) n x us s small = tt
alone_whole _ _ (Opened.coalesce fs ts vs q a o f l m) n x us s small = tt
alone_whole _ _ (Opened.else_ fs ts vs ws q c a b o f l m r e) n x us s small = tt

whole_whole : (r : Nested) (ts : List Token) → Rests 9 r ts → IfWhole (whole r) ts
whole_whole r ts rest = let s = rest.stands in rw s.whole (alone_whole r.frames s.prefix s.opened rest.level r.operand
    s.suffix s.spelled rest.within)

finish_whole : (p : Expected) (fs : List Frame) (ts : List Token) → Holds_at p fs ts → IfWhole (whole_at p fs) ts
finish_whole expected.Operand fs ts h = tt
finish_whole (expected.Name x safe) fs ts h = tt
finish_whole (expected.Operator x) fs ts h = whole_whole (reduced 9 fs x) ts
    (rests 9 fs x ts (omega arith) (omega arith) h)

-- what is finished is spelled
pub whole_expr-SpellsExpr : (ts : List Token) (s : ExprState) (x : Operand) → expr_run ts expr_start ≡ Some s →
    whole_expr s ≡ Some x → Spelled 9 ts x
whole_expr-SpellsExpr ts s x e f = over (whole_expr s) f (finish_whole s.expected s.frames ts
    (run_holds ts [] expr_start s start_holds e))
  where
    over : (o : Option Operand) → o ≡ Some x → IfWhole o ts → Spelled 9 ts x
    over o same w = (rw same at w)

-- what is spelled is finished, with its depths
pub record IsFinished (ts : List Token) (ds : List ℕ) (x : Operand) : Type 0 where
  pub state : ExprState
  pub goes : Goes [] expr_start ts ds state
  pub finishes : whole_expr state ≡ Some x

pub SpellsExpr-whole_expr : (ts : List Token) (ds : List ℕ) (x : Operand) → SpellsExpr 9 ts ds x → IsFinished ts ds x
SpellsExpr-whole_expr ts ds x s =
    let r = complete 9 ts ds x s [] (omega arith) in
    record { state = after_at r.frames r.operand; goes = r.goes; finishes = ap whole (r.same 9 (omega arith)) }
