-- What was read is what the grammar has, as far as it goes; and some expression goes on from there.
use Rattle.std.proofs.Common.{◌≡◌, ℕ, ◌-◌, ◌≤◌, Bool, true, false, List, [], ◌∷◌, ◌++◌, Option, Some, None, refl, ◌∙◌}
use Rattle.std.proofs.Common.{ap, arith, append_assoc, append-nil}
use Rattle.std.specs.Prelude.{max, nat_le, if◌then◌else◌}
use Rattle.soy_lexer.specs.declared.token.Token.{Token}
use Rattle.soy_lexer.specs.declared.token.TokenKind.{TokenKind}
use Rattle.soy_lexer.specs.declared.token.TokenKind.TheVariants as kind
use Rattle.soy_tree.specs.declared.expr.BinaryOp.{BinaryOp}
use Rattle.soy_tree.specs.declared.expr.BinaryOp.TheVariants as binary
use Rattle.soy_tree.specs.declared.expr.ExprNode.{ExprNode}
use Rattle.soy_tree.specs.declared.expr.ExprNode.TheVariants as node
use Rattle.expr_parser.specs.declared.terminal.Terminal.{Terminal}
use Rattle.expr_parser.specs.declared.terminal.Terminal.TheVariants as terminal
use Rattle.expr_parser.specs.declared.frame.Pending.{Pending}
use Rattle.expr_parser.specs.declared.frame.Pending.TheVariants as pending
use Rattle.expr_parser.specs.declared.frame.Bracket.TheVariants as bracket
use Rattle.expr_parser.specs.declared.frame.Frame.{Frame}
use Rattle.expr_parser.specs.declared.frame.Frame.TheVariants as frame
use Rattle.expr_parser.specs.Frames.{Nested}
use Rattle.expr_parser.specs.declared.operand.Operand.{Operand}
use Rattle.expr_parser.specs.declared.state.Expected.{Expected}
use Rattle.expr_parser.specs.declared.state.Expected.TheVariants as expected
use Rattle.expr_parser.specs.declared.state.ExprState.{ExprState}
use Rattle.expr_parser.specs.Operands.{atom, negated, inverted, combined, coalesced, conditional, member, indexed}
use Rattle.expr_parser.specs.Operands.{in_parens, level_of}
use Rattle.expr_parser.specs.Terminals.{terminal_of}
use Rattle.expr_parser.specs.Frames.{reduced, closed, level}
use Rattle.expr_parser.specs.ExprSteps.{at, expr_next, operand_next, name_next, operator_next, infix_next}
use Rattle.expr_parser.specs.ExprSteps.{coalesce_next, question_next, colon_next, paren_next, bracket_next}
use Rattle.expr_parser.specs.Depths.{beside}
use Rattle.expr_parser.specs.SpellsExpr.{SpellsExpr, atom_of, infix_of}
use Rattle.expr_parser.specs.ExprRuns.{expr_run, expr_run_from}
use Rattle.expr_parser.proofs.Levels.{Accepts, Above, accepts_one, accepts_two, accepts_infix, accepts_nine}
use Rattle.expr_parser.proofs.Levels.{level_least, level_most, within-true, within-false}
use Rattle.expr_parser.proofs.ExprComplete.{nested}

-- an expression of a level is one of a wider level
pub widened : (n m : ℕ) (ts : List Token) (ds : List ℕ) (x : Operand) → n ≤ m → SpellsExpr n ts ds x →
    SpellsExpr m ts ds x
widened _ m _ _ _ h (SpellsExpr.simple n t e a) = SpellsExpr.simple m t e a
widened _ m _ _ _ h (SpellsExpr.parens n opening close ts ds x o c s) = SpellsExpr.parens m opening close ts ds x o c s
widened _ m _ _ _ h (SpellsExpr.named n dot name safe ts ds x d w s) = SpellsExpr.named m dot name safe ts ds x d w s
widened _ m _ _ _ h (SpellsExpr.index n opening close safe ts us ds es x i o c s r) = SpellsExpr.index m opening close
    safe ts us ds es x i o c s r
widened _ m _ _ _ h (SpellsExpr.negation n t ts ds x l k s) = SpellsExpr.negation m t ts ds x (omega (arith, l, h)) k s
widened _ m _ _ _ h (SpellsExpr.inversion n t ts ds x l k s) = SpellsExpr.inversion m t ts ds x (omega (arith, l, h)) k
    s
widened _ m _ _ _ h (SpellsExpr.infix_ n t op ts us ds es a b l k s r) = SpellsExpr.infix_ m t op ts us ds es a b
    (omega (arith, l, h)) k s r
widened _ m _ _ _ h (SpellsExpr.coalescing n t ts us ds es a b l k s r) = SpellsExpr.coalescing m t ts us ds es a b
    (omega (arith, l, h)) k s r
widened _ m _ _ _ h (SpellsExpr.conditional_ n q c ts us vs ds es gs x a b l k i s r v) = SpellsExpr.conditional_ m q c
    ts us vs ds es gs x a b (omega (arith, l, h)) k i s r v

-- tokens that spell an operand, whatever their depths
pub record Spelled (n : ℕ) (ts : List Token) (x : Operand) : Type 0 where
  pub depths : List ℕ
  pub spells : SpellsExpr n ts depths x

-- these tokens lead into the frames
pub data Opened : List Frame → List Token → Type 0 where
  none : Opened [] []
  neg : (fs : List Frame) (ts : List Token) (t : Token) → Opened fs ts → Accepts 2 fs → terminal_of t ≡ terminal.Minus
      → Opened (frame.Pending (pending.Neg t.span) ∷ fs) (ts ++ (t ∷ []))
  invert : (fs : List Frame) (ts : List Token) (t : Token) → Opened fs ts → Accepts 2 fs → terminal_of t ≡ terminal.Not
      → Opened (frame.Pending (pending.Not t.span) ∷ fs) (ts ++ (t ∷ []))
  paren : (fs : List Frame) (ts : List Token) (t : Token) → Opened fs ts → terminal_of t ≡ terminal.OpenParen
      → Opened (frame.Bracket (bracket.Paren t.span) ∷ fs) (ts ++ (t ∷ []))
  index : (fs : List Frame) (ts us : List Token) (t : Token) (a : Operand) (safe : Bool) → Opened fs ts →
      Spelled 1 us a → terminal_of t ≡ terminal.OpenBracket safe
      → Opened (frame.Bracket (bracket.Index a safe) ∷ fs) (ts ++ (us ++ (t ∷ [])))
  then_ : (fs : List Frame) (ts us : List Token) (t : Token) (c : Operand) → Opened fs ts → Accepts 9 fs →
      Spelled 8 us c → terminal_of t ≡ terminal.Question
      → Opened (frame.Bracket (bracket.Then c) ∷ fs) (ts ++ (us ++ (t ∷ [])))
  infix_ : (fs : List Frame) (ts us : List Token) (t : Token) (op : BinaryOp) (a : Operand) → Opened fs ts →
      Accepts (level_of op) fs → Spelled (level_of op) us a
      → infix_of (terminal_of t) ≡ Some op → Opened (frame.Pending (pending.Binary op a) ∷ fs) (ts ++ (us ++ (t ∷ [])))
  coalesce : (fs : List Frame) (ts us : List Token) (t : Token) (a : Operand) → Opened fs ts → Accepts 9 fs →
      Spelled 8 us a → terminal_of t ≡ terminal.Coalesce
      → Opened (frame.Pending (pending.Coalesce a) ∷ fs) (ts ++ (us ++ (t ∷ [])))
  else_ : (fs : List Frame) (ts us vs : List Token) (q t : Token) (c a : Operand) → Opened fs ts → Accepts 9 fs →
      Spelled 8 us c → terminal_of q ≡ terminal.Question
      → Spelled 9 vs a → terminal_of t ≡ terminal.Colon → Opened (frame.Pending (pending.Else c a) ∷ fs) (ts ++
      (us ++ (q ∷ (vs ++ (t ∷ [])))))

-- these tokens lead into the frames and to an operand of level n there
pub record Stands (n : ℕ) (fs : List Frame) (x : Operand) (ts : List Token) : Type 0 where
  pub prefix : List Token
  pub suffix : List Token
  pub whole : ts ≡ prefix ++ suffix
  pub opened : Opened fs prefix
  pub spelled : Spelled n suffix x
  pub accepts : Accepts n fs

-- and to a `.` after one
pub record Awaits (fs : List Frame) (x : Operand) (safe : Bool) (ts : List Token) : Type 0 where
  pub prefix : List Token
  pub dot : Token
  pub whole : ts ≡ prefix ++ (dot ∷ [])
  pub before : Stands 1 fs x prefix
  pub is_dot : terminal_of dot ≡ terminal.Dot safe

abbrev pub Holds_at : Expected → List Frame → List Token → Type 0
Holds_at expected.Operand fs ts = Opened fs ts
Holds_at (expected.Name x safe) fs ts = Awaits fs x safe ts
Holds_at (expected.Operator x) fs ts = Stands 1 fs x ts

-- the state is that after these tokens
abbrev pub Holds : ExprState → List Token → Type 0
Holds s ts = Holds_at s.expected s.frames ts

-- after closing what binds as tightly as k: an operand of at most this level, in a frame that binds less tightly
pub record Rests (k : ℕ) (r : Nested) (ts : List Token) : Type 0 where
  pub level : ℕ
  pub within : level ≤ k
  pub above : Above k r.frames
  pub stands : Stands level r.frames r.operand ts

-- the operators that wait, each with its operand

pub negated_spells : (t : Token) (n : ℕ) (us : List Token) (x : Operand) → terminal_of t ≡ terminal.Minus → n ≤ 2 →
    Spelled n us x → Spelled 2 (t ∷ us) (negated t.span x)
negated_spells t n us x m h s = record {
  depths = beside 0 (0 ∷ s.depths);
  spells = SpellsExpr.negation 2 t us s.depths
      x (omega arith) m (widened n 2 us s.depths x h s.spells);
}

pub inverted_spells : (t : Token) (n : ℕ) (us : List Token) (x : Operand) → terminal_of t ≡ terminal.Not → n ≤ 2 →
    Spelled n us x → Spelled 2 (t ∷ us) (inverted t.span x)
inverted_spells t n us x m h s = record {
  depths = beside 0 (0 ∷ s.depths);
  spells = SpellsExpr.inversion 2 t us
      s.depths x (omega arith) m (widened n 2 us s.depths x h s.spells);
}

pub combined_spells : (t : Token) (op : BinaryOp) (n : ℕ) (us vs : List Token) (a x : Operand) →
    infix_of (terminal_of t) ≡ Some op → n ≤ level_of op - 1 → Spelled (level_of op) us a → Spelled n vs x
    → Spelled (level_of op) (us ++ (t ∷ vs)) (combined op a x)
combined_spells t op n us vs a x m h s r = record {
  depths = s.depths ++ beside a.height (0 ∷ r.depths);
  spells = SpellsExpr.infix_ (level_of op) t op us vs s.depths r.depths a x (omega arith) m s.spells
      (widened n (level_of op - 1) vs r.depths x h r.spells);
}

pub coalesced_spells : (t : Token) (n : ℕ) (us vs : List Token) (a x : Operand) → terminal_of t ≡ terminal.Coalesce →
    n ≤ 9 → Spelled 8 us a → Spelled n vs x → Spelled 9 (us ++ (t ∷ vs)) (coalesced a x)
coalesced_spells t n us vs a x m h s r = record {
  depths = s.depths ++ beside a.height (0 ∷ r.depths);
  spells = SpellsExpr.coalescing 9 t us vs s.depths r.depths a x (omega arith) m s.spells
      (widened n 9 vs r.depths x h r.spells);
}

pub conditional_spells : (q t : Token) (n : ℕ) (us vs ws : List Token) (c a x : Operand) →
    terminal_of q ≡ terminal.Question → terminal_of t ≡ terminal.Colon → n ≤ 9 → Spelled 8 us c → Spelled 9 vs a →
    Spelled n ws x
    → Spelled 9 (us ++ (q ∷ (vs ++ (t ∷ ws)))) (conditional c a x)
conditional_spells q t n us vs ws c a x m k h s r v = record {
  depths = s.depths ++ (beside c.height (0 ∷ r.depths) ++ beside (max c.height a.height) (0 ∷ v.depths));
  spells = SpellsExpr.conditional_ 9 q t us vs ws s.depths r.depths v.depths c a x (omega arith) m k s.spells r.spells
      (widened n 9 ws v.depths x h v.spells);
}

pub parens_spells : (o c : Token) (n : ℕ) (us : List Token) (x : Operand) → terminal_of o ≡ terminal.OpenParen →
    terminal_of c ≡ terminal.CloseParen → n ≤ 9 → Spelled n us x
    → Spelled 1 (o ∷ (us ++ (c ∷ []))) (in_parens o.span x c.span)
parens_spells o c n us x m k h s = record {
  depths = beside 0 (0 ∷ (s.depths ++ (x.height ∷ [])));
  spells =
      SpellsExpr.parens 1 o c us s.depths x m k (widened n 9 us s.depths x h s.spells);
}

pub indexed_spells : (o c : Token) (safe : Bool) (n : ℕ) (us vs : List Token) (a x : Operand) →
    terminal_of o ≡ terminal.OpenBracket safe → terminal_of c ≡ terminal.CloseBracket → n ≤ 9 → Spelled 1 us a →
    Spelled n vs x
    → Spelled 1 (us ++ (o ∷ (vs ++ (c ∷ [])))) (indexed a safe x c.span)
indexed_spells o c safe n us vs a x m k h s r = record {
  depths = s.depths ++ beside a.height (0 ∷ (r.depths ++ (x.height ∷ [])));
  spells = SpellsExpr.index 1 o c safe us vs s.depths r.depths a x m k s.spells (widened n 9 vs r.depths x h r.spells);
}

pub member_spells : (d w : Token) (safe : Bool) (us : List Token) (x : Operand) → terminal_of d ≡ terminal.Dot safe →
    w.kind ≡ kind.Word → Spelled 1 us x → Spelled 1 (us ++ (d ∷ (w ∷ []))) (member x safe w)
member_spells d w safe us x m k s = record {
  depths = s.depths ++ beside x.height (0 ∷ (0 ∷ []));
  spells =
      SpellsExpr.named 1 d w safe us s.depths x m k s.spells;
}

-- where tokens may be grouped otherwise
pub one_on : (ts us : List Token) (t : Token) → (ts ++ (t ∷ [])) ++ us ≡ ts ++ (t ∷ us)
one_on ts us t = append_assoc ts (t ∷ []) us

pub two_on : (ts us vs : List Token) (t : Token) → (ts ++ (us ++ (t ∷ []))) ++ vs ≡ ts ++ (us ++ (t ∷ vs))
two_on ts us vs t = append_assoc ts (us ++ (t ∷ [])) vs ∙ ap (λ l. ts ++ l) (append_assoc us (t ∷ []) vs)

pub four_on : (ts us vs ws : List Token) (q t : Token) → (ts ++ (us ++ (q ∷ (vs ++ (t ∷ []))))) ++ ws ≡ ts ++ (us ++
    (q ∷ (vs ++ (t ∷ ws))))
four_on ts us vs ws q t =
    append_assoc ts (us ++ (q ∷ (vs ++ (t ∷ [])))) ws
    ∙ ap (λ l. ts ++ l) (append_assoc us (q ∷ (vs ++ (t ∷ []))) ws ∙ ap (λ l. us ++ (q ∷ l))
    (append_assoc vs (t ∷ []) ws))

-- closing keeps what was read

-- at an operator that waits, whichever way the test goes
waits : (k : ℕ) (p : Pending) (fs : List Frame) (x : Operand) (ts : List Token)
    → (level p ≤ k → Rests k (reduced k fs (closed p x)) ts) → (n : ℕ) → n ≤ k → Stands n (frame.Pending p ∷ fs) x ts
    → Rests k (reduced k (frame.Pending p ∷ fs) x) ts
waits k p fs x ts inside n small stands = over (nat_le (level p) k) refl
  where
    over : (b : Bool) → nat_le (level p) k ≡ b → Rests k (if b then reduced k fs (closed p x) else nested
        (frame.Pending p ∷ fs) x) ts
    over true e = inside (within-true (level p) k e)
    over false e = record { level = n; within = small; above = within-false (level p) k e; stands = stands }

pub reduced_rests : (k : ℕ) (fs : List Frame) (prefix : List Token) → Opened fs prefix →
    (n : ℕ) (x : Operand) (us : List Token) → Spelled n us x → Accepts n fs → n ≤ k → k ≤ 9
    → Rests k (reduced k fs x) (prefix ++ us)
reduced_rests k _ _ Opened.none n x us s a small most = record {
  level = n;
  within = small;
  above = tt;
  stands = record
      { prefix = []; suffix = us; whole = refl; opened = Opened.none; spelled = s; accepts = a };
}
reduced_rests k _ _ (Opened.paren fs ts t o m) n x us s a small most =
    record {
      level = n;
      within = small;
      above = tt;
      stands = record {
        prefix = ts ++ (t ∷ []);
        suffix = us;
        whole = refl;
        opened = Opened.paren fs ts t o m;
        spelled = s;
        accepts =
            a;
      };
    }
reduced_rests k _ _ (Opened.index fs ts vs t b safe o l m) n x us s a small most =
    record {
      level = n;
      within = small;
      above = tt;
      stands = record {
        prefix = ts ++ (vs ++ (t ∷ []));
        suffix = us;
        whole = refl;
        opened = Opened.index fs ts vs t b safe o l m;
        spelled = s;
        accepts = a;
      };
    }
reduced_rests k _ _ (Opened.then_ fs ts vs t c o f l m) n x us s a small most =
    record {
      level = n;
      within = small;
      above = tt;
      stands = record {
        prefix = ts ++ (vs ++ (t ∷ []));
        suffix = us;
        whole = refl;
        opened = Opened.then_ fs ts vs t c o f l m;
        spelled = s;
        accepts = a;
      };
    }
reduced_rests k _ _ (Opened.neg fs ts t o f m) n x us s a small most =
    waits k (pending.Neg t.span) fs x ((ts ++ (t ∷ [])) ++ us)
    (λ h. rw (one_on ts us t) (reduced_rests k fs ts o 2 (negated t.span x) (t ∷ us) (negated_spells t n us x m a s) f
    h most))
    n small (record {
      prefix = ts ++ (t ∷ []);
      suffix = us;
      whole = refl;
      opened = Opened.neg fs ts t o f m;
      spelled =
          s;
      accepts = a;
    })
reduced_rests k _ _ (Opened.invert fs ts t o f m) n x us s a small most =
    waits k (pending.Not t.span) fs x ((ts ++ (t ∷ [])) ++ us)
    (λ h. rw (one_on ts us t) (reduced_rests k fs ts o 2 (inverted t.span x) (t ∷ us) (inverted_spells t n us x m a s)
    f h most))
    n small (record {
      prefix = ts ++ (t ∷ []);
      suffix = us;
      whole = refl;
      opened = Opened.invert fs ts t o f m;
      spelled
          = s;
      accepts = a;
    })
reduced_rests k _ _ (Opened.infix_ fs ts vs t op b o f l m) n x us s a small most =
    waits k (pending.Binary op b) fs x ((ts ++ (vs ++ (t ∷ []))) ++ us)
    (λ h. rw (two_on ts vs us t) (reduced_rests k fs ts o (level_of op) (combined op b x) (vs ++ (t ∷ us))
    (combined_spells t op n vs us b x m a l s) f h most))
    n small (record {
      prefix = ts ++ (vs ++ (t ∷ []));
      suffix = us;
      whole = refl;
      opened = Opened.infix_ fs ts vs t op
          b o f l m;
      spelled = s;
      accepts = a;
    })
reduced_rests k _ _ (Opened.coalesce fs ts vs t b o f l m) n x us s a small most =
    waits k (pending.Coalesce b) fs x ((ts ++ (vs ++ (t ∷ []))) ++ us)
    (λ h. rw (two_on ts vs us t) (reduced_rests k fs ts o 9 (coalesced b x) (vs ++ (t ∷ us))
    (coalesced_spells t n vs us b x m a l s) f h most))
    n small (record {
      prefix = ts ++ (vs ++ (t ∷ []));
      suffix = us;
      whole = refl;
      opened = Opened.coalesce fs ts vs t b
          o f l m;
      spelled = s;
      accepts = a;
    })
reduced_rests k _ _ (Opened.else_ fs ts vs ws q t c b o f l m r e) n x us s a small most =
    waits k (pending.Else c b) fs x ((ts ++ (vs ++ (q ∷ (ws ++ (t ∷ []))))) ++ us)
    (λ h. rw (four_on ts vs ws us q t) (reduced_rests k fs ts o 9 (conditional c b x) (vs ++ (q ∷ (ws ++ (t ∷ us))))
    (conditional_spells q t n vs ws us c b x m e a l r s) f h most))
    n small (record {
      prefix = ts ++ (vs ++ (q ∷ (ws ++ (t ∷ []))));
      suffix = us;
      whole = refl;
      opened = Opened.else_
          fs ts vs ws q t c b o f l m r e;
      spelled = s;
      accepts = a;
    })

-- A expr_next keeps what was read

-- if there is a state, it is that after these tokens
abbrev pub Fine : Option ExprState → List Token → Type 0
Fine None ts = Unit {0}
Fine (Some s) ts = Holds s ts

pub atom_spells : (t : Token) (e : ExprNode) → atom_of (terminal_of t) t ≡ Some e → Spelled 1 (t ∷ []) (atom e t)
atom_spells t e h = record { depths = beside 0 (0 ∷ []); spells = SpellsExpr.simple 1 t e h }

atom_stands : (fs : List Frame) (ts : List Token) (t : Token) (e : ExprNode) → Opened fs ts →
    atom_of (terminal_of t) t ≡ Some e → Stands 1 fs (atom e t) (ts ++ (t ∷ []))
atom_stands fs ts t e o h = record {
  prefix = ts;
  suffix = t ∷ [];
  whole = refl;
  opened = o;
  spelled = atom_spells t e
      h;
  accepts = accepts_one fs;
}

start_fine : (fs : List Frame) (ts : List Token) (t : Token) (m : Terminal) → terminal_of t ≡ m → Opened fs ts →
    Fine (operand_next fs t m) (ts ++ (t ∷ []))
start_fine fs ts t terminal.Null h o = atom_stands fs ts t node.Null o (ap (λ m. atom_of m t) h)
start_fine fs ts t (terminal.Bool b) h o = atom_stands fs ts t (node.Bool b) o (ap (λ m. atom_of m t) h)
start_fine fs ts t (terminal.Int n) h o = atom_stands fs ts t (node.Int n) o (ap (λ m. atom_of m t) h)
start_fine fs ts t terminal.Str h o = atom_stands fs ts t (node.Str t.text) o (ap (λ m. atom_of m t) h)
start_fine fs ts t terminal.Variable h o = atom_stands fs ts t (node.Var t.text) o (ap (λ m. atom_of m t) h)
start_fine fs ts t terminal.Not h o = Opened.invert fs ts t o (accepts_two fs) h
start_fine fs ts t terminal.Minus h o = Opened.neg fs ts t o (accepts_two fs) h
start_fine fs ts t terminal.OpenParen h o = Opened.paren fs ts t o h
start_fine fs ts t _ h o = tt

name_fine : (fs : List Frame) (ts : List Token) (x : Operand) (safe : Bool) (t : Token) (k : TokenKind) → t.kind ≡ k →
    Awaits fs x safe ts → Fine (name_next fs x safe t k) (ts ++ (t ∷ []))
name_fine fs ts x safe t kind.Word h a =
    let b = a.before in
    record {
      prefix = b.prefix;
      suffix = b.suffix ++ (a.dot ∷ (t ∷ []));
      whole = rw (a.whole, b.whole) (simp append_assoc);
      opened = b.opened;
      spelled = member_spells a.dot t safe b.suffix x a.is_dot h b.spelled;
      accepts = b.accepts;
    }
name_fine fs ts x safe t _ h a = tt

-- the operators and brackets that follow an operand

infix_fine : (r : Nested) (op : BinaryOp) (ts : List Token) (t : Token) → infix_of (terminal_of t) ≡ Some op →
    Rests (level_of op) r ts → Fine (infix_next r op) (ts ++ (t ∷ []))
infix_fine r op ts t h rest =
    let s = rest.stands in
    rw (s.whole, append_assoc s.prefix s.suffix (t ∷ []))
    (Opened.infix_ r.frames s.prefix s.suffix t op r.operand s.opened (accepts_infix op r.frames rest.above)
    (record {
      depths = s.spelled.depths;
      spells = widened rest.level (level_of op) s.suffix s.spelled.depths r.operand
          rest.within s.spelled.spells;
    }) h)

coalesce_fine : (r : Nested) (ts : List Token) (t : Token) → terminal_of t ≡ terminal.Coalesce → Rests 8 r ts →
    Fine (coalesce_next r) (ts ++ (t ∷ []))
coalesce_fine r ts t h rest =
    let s = rest.stands in
    rw (s.whole, append_assoc s.prefix s.suffix (t ∷ []))
    (Opened.coalesce r.frames s.prefix s.suffix t r.operand s.opened (accepts_nine r.frames rest.above)
    (record {
      depths = s.spelled.depths;
      spells = widened rest.level 8 s.suffix s.spelled.depths r.operand rest.within
          s.spelled.spells;
    }) h)

question_fine : (r : Nested) (ts : List Token) (t : Token) → terminal_of t ≡ terminal.Question → Rests 8 r ts →
    Fine (question_next r) (ts ++ (t ∷ []))
question_fine r ts t h rest =
    let s = rest.stands in
    rw (s.whole, append_assoc s.prefix s.suffix (t ∷ []))
    (Opened.then_ r.frames s.prefix s.suffix t r.operand s.opened (accepts_nine r.frames rest.above)
    (record {
      depths = s.spelled.depths;
      spells = widened rest.level 8 s.suffix s.spelled.depths r.operand rest.within
          s.spelled.spells;
    }) h)

colon_closes : (t : Token) → terminal_of t ≡ terminal.Colon → (fs : List Frame) (prefix : List Token) →
    Opened fs prefix → (n : ℕ) (x : Operand) (us : List Token) → Spelled n us x → n ≤ 9
    → Fine (colon_next fs x) ((prefix ++ us) ++ (t ∷ []))
colon_closes t h _ _ (Opened.then_ fs ts vs q c o f l m) n x us s small =
    let r : Spelled 9 us x = record { depths = s.depths; spells = widened n 9 us s.depths x small s.spells } in
    rw (two_on ts vs us q, append_assoc ts (vs ++ (q ∷ us)) (t ∷ []), append_assoc vs (q ∷ us) (t ∷ []))
    (Opened.else_ fs ts vs us q t c x o f l m r h)
colon_closes t h _ _ Opened.none n x us s small = tt
colon_closes t h _ _ (Opened.neg fs ts q o f m) n x us s small = tt
colon_closes t h _ _ (Opened.invert fs ts q o f m) n x us s small = tt
colon_closes t h _ _ (Opened.paren fs ts q o m) n x us s small = tt
colon_closes t h _ _ (Opened.index fs ts vs q a safe o l m) n x us s small = tt
colon_closes t h _ _ (Opened.infix_ fs ts vs q op a o f l m) n x us s small = tt
colon_closes t h _ _ (Opened.coalesce fs ts vs q a o f l m) n x us s small = tt
colon_closes t h _ _ (Opened.else_ fs ts vs ws q c a b o f l m r e) n x us s small = tt

paren_closes : (t : Token) → terminal_of t ≡ terminal.CloseParen → (fs : List Frame) (prefix : List Token) →
    Opened fs prefix → (n : ℕ) (x : Operand) (us : List Token) → Spelled n us x → n ≤ 9
    → Fine (paren_next fs x t) ((prefix ++ us) ++ (t ∷ []))
paren_closes t h _ _ (Opened.paren fs ts q o m) n x us s small =
    record {
      prefix = ts;
      suffix = q ∷ (us ++ (t ∷ []));
      whole = rw (one_on ts us q) (append_assoc ts (q ∷ us) (t ∷ []));
      opened = o;
      spelled = parens_spells q t n us x m h small s;
      accepts = accepts_one fs;
    }
paren_closes t h _ _ Opened.none n x us s small = tt
paren_closes t h _ _ (Opened.neg fs ts q o f m) n x us s small = tt
paren_closes t h _ _ (Opened.invert fs ts q o f m) n x us s small = tt
paren_closes t h _ _ (Opened.then_ fs ts vs q c o f l m) n x us s small = tt
paren_closes t h _ _ (Opened.index fs ts vs q a safe o l m) n x us s small = tt
paren_closes t h _ _ (Opened.infix_ fs ts vs q op a o f l m) n x us s small = tt
paren_closes t h _ _ (Opened.coalesce fs ts vs q a o f l m) n x us s small = tt
paren_closes t h _ _ (Opened.else_ fs ts vs ws q c a b o f l m r e) n x us s small = tt

bracket_closes : (t : Token) → terminal_of t ≡ terminal.CloseBracket → (fs : List Frame) (prefix : List Token) →
    Opened fs prefix → (n : ℕ) (x : Operand) (us : List Token) → Spelled n us x → n ≤ 9
    → Fine (bracket_next fs x t) ((prefix ++ us) ++ (t ∷ []))
bracket_closes t h _ _ (Opened.index fs ts vs q a safe o l m) n x us s small =
    record {
      prefix = ts;
      suffix = vs ++ (q ∷ (us ++ (t ∷ [])));
      whole = rw (two_on ts vs us q) (append_assoc ts (vs ++ (q ∷ us)) (t ∷ []) ∙ ap (λ l. ts ++ l)
          (append_assoc vs (q ∷ us) (t ∷ [])));
      opened = o;
      spelled = indexed_spells q t safe n vs us a x m h small l s;
      accepts = accepts_one fs;
    }
bracket_closes t h _ _ Opened.none n x us s small = tt
bracket_closes t h _ _ (Opened.neg fs ts q o f m) n x us s small = tt
bracket_closes t h _ _ (Opened.invert fs ts q o f m) n x us s small = tt
bracket_closes t h _ _ (Opened.paren fs ts q o m) n x us s small = tt
bracket_closes t h _ _ (Opened.then_ fs ts vs q c o f l m) n x us s small = tt
bracket_closes t h _ _ (Opened.infix_ fs ts vs q op a o f l m) n x us s small = tt
bracket_closes t h _ _ (Opened.coalesce fs ts vs q a o f l m) n x us s small = tt
bracket_closes t h _ _ (Opened.else_ fs ts vs ws q c a b o f l m r e) n x us s small = tt

-- what was read, with what binds as tightly as k closed
pub rests : (k : ℕ) (fs : List Frame) (x : Operand) (ts : List Token) → 1 ≤ k → k ≤ 9 → Stands 1 fs x ts →
    Rests k (reduced k fs x) ts
rests k fs x ts least most s = rw s.whole (reduced_rests k fs s.prefix s.opened 1 x s.suffix s.spelled s.accepts least
    most)

-- the closing tokens, where what waits is closed
colon_fine : (t : Token) → terminal_of t ≡ terminal.Colon → (r : Nested) (ts : List Token) → Rests 9 r ts →
    Fine (colon_next r.frames r.operand) (ts ++ (t ∷ []))
colon_fine t h r ts rest = let s = rest.stands in rw s.whole
    (colon_closes t h r.frames s.prefix s.opened rest.level r.operand s.suffix s.spelled rest.within)

paren_fine : (t : Token) → terminal_of t ≡ terminal.CloseParen → (r : Nested) (ts : List Token) → Rests 9 r ts →
    Fine (paren_next r.frames r.operand t) (ts ++ (t ∷ []))
paren_fine t h r ts rest = let s = rest.stands in rw s.whole
    (paren_closes t h r.frames s.prefix s.opened rest.level r.operand s.suffix s.spelled rest.within)

bracket_fine : (t : Token) → terminal_of t ≡ terminal.CloseBracket → (r : Nested) (ts : List Token) → Rests 9 r ts →
    Fine (bracket_next r.frames r.operand t) (ts ++ (t ∷ []))
bracket_fine t h r ts rest = let s = rest.stands in rw s.whole
    (bracket_closes t h r.frames s.prefix s.opened rest.level r.operand s.suffix s.spelled rest.within)

after_fine : (fs : List Frame) (x : Operand) (ts : List Token) (t : Token) (m : Terminal) → terminal_of t ≡ m →
    Stands 1 fs x ts → Fine (operator_next fs x t m) (ts ++ (t ∷ []))
after_fine fs x ts t (terminal.Dot safe) h s = record { prefix = ts; dot = t; whole = refl; before = s; is_dot = h }
after_fine fs x ts t (terminal.OpenBracket safe) h s =
    rw (s.whole, append_assoc s.prefix s.suffix (t ∷ [])) (Opened.index fs s.prefix s.suffix t x safe s.opened
    s.spelled h)
after_fine fs x ts t (terminal.Infix op) h s =
    let l = level_least op in
    let m = level_most op in
    infix_fine (reduced (level_of op) fs x) op ts t (ap infix_of h)
    (rests (level_of op) fs x ts (omega (arith, l)) (omega (arith, m)) s)
after_fine fs x ts t terminal.Minus h s = infix_fine (reduced (level_of binary.Sub) fs x) binary.Sub ts t
    (ap infix_of h) (rests (level_of binary.Sub) fs x ts (omega arith) (omega arith) s)
after_fine fs x ts t terminal.Coalesce h s = coalesce_fine (reduced 8 fs x) ts t h
    (rests 8 fs x ts (omega arith) (omega arith) s)
after_fine fs x ts t terminal.Question h s = question_fine (reduced 8 fs x) ts t h
    (rests 8 fs x ts (omega arith) (omega arith) s)
after_fine fs x ts t terminal.Colon h s = colon_fine t h (reduced 9 fs x) ts
    (rests 9 fs x ts (omega arith) (omega arith) s)
after_fine fs x ts t terminal.CloseParen h s = paren_fine t h (reduced 9 fs x) ts
    (rests 9 fs x ts (omega arith) (omega arith) s)
after_fine fs x ts t terminal.CloseBracket h s = bracket_fine t h (reduced 9 fs x) ts
    (rests 9 fs x ts (omega arith) (omega arith) s)
after_fine fs x ts t _ h s = tt

step_fine : (p : Expected) (fs : List Frame) (ts : List Token) (t : Token) → Holds_at p fs ts →
    Fine (expr_next (at fs p) t) (ts ++ (t ∷ []))
step_fine expected.Operand fs ts t h = start_fine fs ts t (terminal_of t) refl h
step_fine (expected.Name x safe) fs ts t h = name_fine fs ts x safe t t.kind refl h
step_fine (expected.Operator x) fs ts t h = after_fine fs x ts t (terminal_of t) refl h

-- what was read is kept to the end
pub run_holds : (ts us : List Token) (s s' : ExprState) → Holds s us → expr_run ts s ≡ Some s' → Holds s' (us ++ ts)
run_holds [] us s s' h e = rw append-nil (moved (Some s) e h)
  where
    moved : (o : Option ExprState) → o ≡ Some s' → Fine o us → Holds s' us
    moved o e f = (rw e at f)
run_holds (t ∷ ts) us s s' h e = rw (← append_assoc us (t ∷ []) ts)
    (over (expr_next s t) e (step_fine s.expected s.frames us t h) (λ m. run_holds ts (us ++ (t ∷ [])) m s'))
  where
    over : (to : Option ExprState) → expr_run_from (expr_run ts) to ≡ Some s' → Fine to (us ++ (t ∷ []))
        → ((m : ExprState) → Holds m (us ++ (t ∷ [])) → expr_run ts m ≡ Some s' → Holds s' ((us ++ (t ∷ [])) ++ ts)) →
        Holds s' ((us ++ (t ∷ [])) ++ ts)
    over None e f inside = absurd (cc e)
    over (Some m) e f inside = inside m f e
