-- What the grammar has is read, with its depths.
use Rattle.std.proofs.Common.{◌≡◌, ℕ, ◌-◌, ◌≤◌, Bool, List, [], ◌∷◌, ◌++◌, Option, Some, None, refl, sym, ◌∙◌, ap}
use Rattle.std.proofs.Common.{arith}
use Rattle.std.specs.Prelude.{max}
use Rattle.soy_lexer.specs.declared.token.Token.{Token}
use Rattle.soy_lexer.specs.declared.token.TokenKind.TheVariants as kind
use Rattle.soy_tree.specs.declared.expr.BinaryOp.{BinaryOp}
use Rattle.soy_tree.specs.declared.expr.BinaryOp.TheVariants as binary
use Rattle.soy_tree.specs.declared.expr.ExprNode.{ExprNode}
use Rattle.soy_tree.specs.declared.expr.ExprNode.TheVariants as node
use Rattle.expr_parser.specs.declared.terminal.Terminal.{Terminal}
use Rattle.expr_parser.specs.declared.terminal.Terminal.TheVariants as terminal
use Rattle.expr_parser.specs.declared.frame.Pending.{Pending}
use Rattle.expr_parser.specs.declared.frame.Pending.TheVariants as pending
use Rattle.expr_parser.specs.declared.frame.Bracket.TheVariants as bracket
use Rattle.expr_parser.specs.declared.frame.Frame.{Frame}
use Rattle.expr_parser.specs.declared.frame.Frame.TheVariants as frame
use Rattle.expr_parser.specs.Frames.{Nested}
use Rattle.expr_parser.specs.declared.operand.Operand.{Operand}
use Rattle.expr_parser.specs.declared.state.Expected.TheVariants as expected
use Rattle.expr_parser.specs.declared.state.ExprState.{ExprState}
use Rattle.expr_parser.specs.Depths.{deeper}
use Rattle.expr_parser.specs.Operands.{atom, combined, coalesced, conditional, member, indexed, in_parens, level_of}
use Rattle.expr_parser.specs.Terminals.{terminal_of}
use Rattle.expr_parser.specs.Frames.{reduced, raised, branch, closed, level, pending_branch}
use Rattle.expr_parser.specs.ExprSteps.{at, has, opens, expr_next, operand_next, name_next, operator_next, infix_next}
use Rattle.expr_parser.specs.ExprSteps.{coalesce_next, question_next, colon_next, paren_next, bracket_next}
use Rattle.expr_parser.specs.ExprSteps.{expr_depth}
use Rattle.expr_parser.specs.Depths.{beside}
use Rattle.expr_parser.specs.SpellsExpr.{SpellsExpr, atom_of, infix_of}
use Rattle.expr_parser.proofs.ExprRunning.{map_append, Goes, step_goes, then_goes, inside_goes}
use Rattle.expr_parser.proofs.Levels.{Accepts, above_one, above_infix, above_eight, accepts_less, accepts_one, stops}
use Rattle.expr_parser.proofs.Levels.{closes}

abbrev pub nested : List Frame → Operand → Nested
nested fs x = record { frames = fs; operand = x }

abbrev pub after_at : List Frame → Operand → ExprState
after_at fs x = at fs (expected.Operator x)

abbrev pub start_at : List Frame → ExprState
start_at fs = at fs expected.Operand

-- the tokens are read inside the frames, to where the operand stands there or will once operators of its level are
-- closed
pub record Reads (n : ℕ) (ts : List Token) (ds : List ℕ) (x : Operand) (fs : List Frame) : Type 0 where
  pub frames : List Frame
  pub operand : Operand
  pub goes : Goes fs (start_at fs) ts ds (after_at frames operand)
  pub same : (k : ℕ) → n ≤ k → reduced k frames operand ≡ reduced k fs x

-- the same for a level
abbrev pub AllReads : ℕ → List Token → List ℕ → Operand → Type 0
AllReads n ts ds x = (fs : List Frame) → Accepts n fs → Reads n ts ds x fs

some_same : {A : Type 0} (x y : A) → Some x ≡ Some y → x ≡ y
some_same {A = A} x y e = ap unwrap e
  where
    unwrap : Option A → A
    unwrap None = x
    unwrap (Some z) = z

-- a token that opens a frame, and what is read in it
opened_goes : (f : Frame) (fs : List Frame) (s s' : ExprState) (t : Token) (us : List Token) (es : List ℕ)
    → expr_next s t ≡ opens fs f → Goes (f ∷ fs) (start_at (f ∷ fs)) us es s' →
    Goes fs s (t ∷ us) (beside (branch f) (0 ∷ es)) s'
opened_goes f fs s s' t us es e g =
    then_goes fs s (start_at (f ∷ fs)) s' (t ∷ []) us (deeper (branch f) 0 ∷ []) (beside (branch f) es)
    (step_goes fs s t (deeper (branch f) 0) (start_at (f ∷ fs)) e refl)
    (inside_goes f fs (start_at (f ∷ fs)) s' us es g)

-- and the token that closes it
closed_goes : (h d : ℕ) (fs : List Frame) (s m s' : ExprState) (t close : Token) (us : List Token) (es : List ℕ)
    → Goes fs s (t ∷ us) (beside h (0 ∷ es)) m → expr_next m close ≡ Some s' → expr_depth s' ≡ raised fs (deeper h d)
    → Goes fs s (t ∷ (us ++ (close ∷ []))) (beside h (0 ∷ (es ++ (d ∷ [])))) s'
closed_goes h d fs s m s' t close us es g e same =
    rw (map_append (deeper h) es (d ∷ []))
    (then_goes fs s m s' (t ∷ us) (close ∷ []) (beside h (0 ∷ es)) (deeper h d ∷ []) g
    (step_goes fs m close (deeper h d) s' e same))

-- an atom

atom_step : (fs : List Frame) (m : Terminal) (t : Token) (e : ExprNode) → atom_of m t ≡ Some e →
    operand_next fs t m ≡ has fs (atom e t)
atom_step fs terminal.Null t e h = ap (λ (n : ExprNode). has fs (atom n t)) (some_same node.Null e h)
atom_step fs (terminal.Bool b) t e h = ap (λ (n : ExprNode). has fs (atom n t)) (some_same (node.Bool b) e h)
atom_step fs (terminal.Int n) t e h = ap (λ (n : ExprNode). has fs (atom n t)) (some_same (node.Int n) e h)
atom_step fs terminal.Str t e h = ap (λ (n : ExprNode). has fs (atom n t)) (some_same (node.Str t.text) e h)
atom_step fs terminal.Variable t e h = ap (λ (n : ExprNode). has fs (atom n t)) (some_same (node.Var t.text) e h)
atom_step fs _ t e h = absurd (cc h)

atom_reads : (n : ℕ) (t : Token) (e : ExprNode) → atom_of (terminal_of t) t ≡ Some e →
    AllReads n (t ∷ []) (beside 0 (0 ∷ [])) (atom e t)
atom_reads n t e h fs accepts = record {
  frames = fs;
  operand = atom e t;
  goes = step_goes fs (start_at fs) t (deeper 0 0) (after_at fs (atom e t)) (atom_step fs (terminal_of t) t e h) refl;
  same = λ k l. refl;
}

-- parentheses

parens_reads : (n : ℕ) (opening close : Token) (ts : List Token) (ds : List ℕ) (x : Operand)
    → terminal_of opening ≡ terminal.OpenParen → terminal_of close ≡ terminal.CloseParen → AllReads 9 ts ds x
    → AllReads n (opening ∷ (ts ++ (close ∷ []))) (beside 0 (0 ∷ (ds ++ (x.height ∷ []))))
    (in_parens opening.span x close.span)
parens_reads n opening close ts ds x o c inside fs accepts =
    let f : Frame = frame.Bracket (bracket.Paren opening.span) in
    let r = inside (f ∷ fs) (omega arith) in
    record {
      frames = fs;
      operand = in_parens opening.span x close.span;
      goes = closed_goes 0 x.height fs (start_at fs) (after_at r.frames r.operand)
          (after_at fs (in_parens opening.span x close.span)) opening close ts ds
          (opened_goes f fs (start_at fs) (after_at r.frames r.operand) opening ts ds (ap (operand_next fs opening) o)
          r.goes)
          (ap (operator_next r.frames r.operand close) c ∙ ap (λ (i : Nested). paren_next i.frames i.operand close)
          (r.same 9 (omega arith)))
          refl;
      same = λ k l. refl;
    }

-- accesses

-- after an operand of level 1 nothing is left to close
settled : (ts : List Token) (ds : List ℕ) (x : Operand) (fs : List Frame) → (r : Reads 1 ts ds x fs) →
    nested r.frames r.operand ≡ nested fs x
settled ts ds x fs r = sym (stops 1 r.frames r.operand (above_one r.frames)) ∙
    (r.same 1 (omega arith) ∙ stops 1 fs x (above_one fs))

member_reads : (n : ℕ) (dot name : Token) (safe : Bool) (ts : List Token) (ds : List ℕ) (x : Operand)
    → terminal_of dot ≡ terminal.Dot safe → name.kind ≡ kind.Word → AllReads 1 ts ds x
    → AllReads n (ts ++ (dot ∷ (name ∷ []))) (ds ++ beside x.height (0 ∷ (0 ∷ []))) (member x safe name)
member_reads n dot name safe ts ds x d w inside fs accepts =
    let r = inside fs (accepts_one fs) in
    record {
      frames = fs;
      operand = member x safe name;
      goes = then_goes fs (start_at fs) (after_at r.frames r.operand) (after_at fs (member x safe name)) ts
          (dot ∷ (name ∷ [])) ds (deeper x.height 0 ∷ (deeper x.height 0 ∷ [])) r.goes
          (then_goes fs (after_at r.frames r.operand) (at fs (expected.Name x safe)) (after_at fs (member x safe name))
          (dot ∷ []) (name ∷ []) (deeper x.height 0 ∷ []) (deeper x.height 0 ∷ [])
          (step_goes fs (after_at r.frames r.operand) dot (deeper x.height 0) (at fs (expected.Name x safe))
          (ap (operator_next r.frames r.operand dot) d ∙ ap (λ (i : Nested). Some
          (at i.frames (expected.Name i.operand safe))) (settled ts ds x fs r)) refl)
          (step_goes fs (at fs (expected.Name x safe)) name (deeper x.height 0) (after_at fs (member x safe name))
          (ap (name_next fs x safe name) w) refl));
      same = λ k l. refl;
    }

index_reads : (n : ℕ) (opening close : Token) (safe : Bool) (ts us : List Token) (ds es : List ℕ) (x i : Operand)
    → terminal_of opening ≡ terminal.OpenBracket safe → terminal_of close ≡ terminal.CloseBracket →
    AllReads 1 ts ds x → AllReads 9 us es i
    → AllReads n (ts ++ (opening ∷ (us ++ (close ∷ [])))) (ds ++ beside x.height (0 ∷ (es ++ (i.height ∷ []))))
    (indexed x safe i close.span)
index_reads n opening close safe ts us ds es x i o c before inside fs accepts =
    let f : Frame = frame.Bracket (bracket.Index x safe) in
    let l = before fs (accepts_one fs) in
    let r = inside (f ∷ fs) (omega arith) in
    let y : Operand = indexed x safe i close.span in
    record {
      frames = fs;
      operand = y;
      goes = then_goes fs (start_at fs) (after_at l.frames l.operand) (after_at fs y) ts
          (opening ∷ (us ++ (close ∷ []))) ds (beside x.height (0 ∷ (es ++ (i.height ∷ [])))) l.goes
          (closed_goes x.height i.height fs (after_at l.frames l.operand) (after_at r.frames r.operand) (after_at fs y)
          opening close us es
          (opened_goes f fs (after_at l.frames l.operand) (after_at r.frames r.operand) opening us es
          (ap (operator_next l.frames l.operand opening) o ∙ ap
          (λ (j : Nested). opens j.frames (frame.Bracket (bracket.Index j.operand safe))) (settled ts ds x fs l))
          r.goes)
          (ap (operator_next r.frames r.operand close) c ∙ ap (λ (j : Nested). bracket_next j.frames j.operand close)
          (r.same 9 (omega arith)))
          refl);
      same = λ k l. refl;
    }

-- operators before their operand

-- beside no branch
beside_nothing : (h : ℕ) (fs : List Frame) (s s' : ExprState) (ts : List Token) (ds : List ℕ) → h ≡ 0 →
    Goes fs s ts (beside h ds) s' → Goes fs s ts (beside 0 ds) s'
beside_nothing h fs s s' ts ds e g = rw (← e) g

prefix_reads : (n : ℕ) (p : Pending) (t : Token) (ts : List Token) (ds : List ℕ) (x : Operand)
    → 2 ≤ n → level p ≡ 2 → pending_branch p ≡ 0 → ((fs : List Frame) →
    expr_next (start_at fs) t ≡ opens fs (frame.Pending p)) →
    ((fs : List Frame) → Reads 2 ts ds x (frame.Pending p ∷ fs))
    → AllReads n (t ∷ ts) (beside 0 (0 ∷ ds)) (closed p x)
prefix_reads n p t ts ds x bound two none opening inside fs accepts =
    let r = inside fs in
    let g = opened_goes (frame.Pending p) fs (start_at fs) (after_at r.frames r.operand) t ts ds (opening fs) r.goes in
    record {
      frames = r.frames;
      operand = r.operand;
      goes = beside_nothing (pending_branch p) fs (start_at fs) (after_at r.frames r.operand) (t ∷ ts) (0 ∷ ds) none g;
      same = λ k l. r.same k (omega (arith, bound, l)) ∙ closes k p fs x (omega (arith, bound, l, two));
    }

-- operators between operands

-- an operator that the left operand has come to, and its right operand
operator_reads : (n m : ℕ) (p : Pending) (t : Token) (us : List Token) (es : List ℕ) (b : Operand) (fs : List Frame)
    (s : ExprState)
    → level p ≤ n → m ≤ n → expr_next s t ≡ opens fs (frame.Pending p) → (r : Reads m us es b (frame.Pending p ∷ fs))
    → (Goes fs s (t ∷ us) (beside (pending_branch p) (0 ∷ es)) (after_at r.frames r.operand)) ×
    ((k : ℕ) → n ≤ k → reduced k r.frames r.operand ≡ reduced k fs (closed p b))
operator_reads n m p t us es b fs s bound small opening r = (
  opened_goes (frame.Pending p) fs s (after_at r.frames r.operand) t us es opening r.goes,
  λ k l. r.same k (omega (arith, small, l)) ∙ closes k p fs b (omega (arith, bound, l)),
)

infix_after : (m : Terminal) (fs : List Frame) (x : Operand) (t : Token) (op : BinaryOp) → infix_of m ≡ Some op →
    operator_next fs x t m ≡ infix_next (reduced (level_of op) fs x) op
infix_after (terminal.Infix other) fs x t op h = ap (λ (o : BinaryOp). infix_next (reduced (level_of o) fs x) o)
    (some_same other op h)
infix_after terminal.Minus fs x t op h = ap (λ (o : BinaryOp). infix_next (reduced (level_of o) fs x) o)
    (some_same binary.Sub op h)
infix_after _ fs x t op h = absurd (cc h)

infix_reads : (n : ℕ) (t : Token) (op : BinaryOp) (ts us : List Token) (ds es : List ℕ) (a b : Operand)
    → level_of op ≤ n → infix_of (terminal_of t) ≡ Some op → AllReads (level_of op) ts ds a →
    AllReads (level_of op - 1) us es b
    → AllReads n (ts ++ (t ∷ us)) (ds ++ beside a.height (0 ∷ es)) (combined op a b)
infix_reads n t op ts us ds es a b bound m left right fs accepts =
    let l = left fs (accepts_less (level_of op) n fs bound accepts) in
    let p : Pending = pending.Binary op a in
    let r = right (frame.Pending p ∷ fs) (omega arith) in
    let here : expr_next (after_at l.frames l.operand) t ≡ opens fs (frame.Pending p) =
    infix_after (terminal_of t) l.frames l.operand t op m
    ∙ ap (λ (j : Nested). infix_next j op) (l.same (level_of op) (omega arith) ∙ stops (level_of op) fs a
    (above_infix n op fs bound accepts)) in
    let o = operator_reads n (level_of op - 1) p t us es b fs (after_at l.frames l.operand) bound
    (omega (arith, bound)) here r in
    record {
      frames = r.frames;
      operand = r.operand;
      goes = then_goes fs (start_at fs) (after_at l.frames l.operand) (after_at r.frames r.operand) ts (t ∷ us) ds
          (beside a.height (0 ∷ es)) l.goes o.0;
      same = o.1;
    }

coalescing_reads : (n : ℕ) (t : Token) (ts us : List Token) (ds es : List ℕ) (a b : Operand)
    → 9 ≤ n → terminal_of t ≡ terminal.Coalesce → AllReads 8 ts ds a → AllReads 9 us es b
    → AllReads n (ts ++ (t ∷ us)) (ds ++ beside a.height (0 ∷ es)) (coalesced a b)
coalescing_reads n t ts us ds es a b bound m left right fs accepts =
    let l = left fs (accepts_less 8 n fs (omega (arith, bound)) accepts) in
    let p : Pending = pending.Coalesce a in
    let r = right (frame.Pending p ∷ fs) (omega arith) in
    let here : expr_next (after_at l.frames l.operand) t ≡ opens fs (frame.Pending p) =
    ap (operator_next l.frames l.operand t) m
    ∙ ap coalesce_next (l.same 8 (omega arith) ∙ stops 8 fs a (above_eight n fs bound accepts)) in
    let o = operator_reads n 9 p t us es b fs (after_at l.frames l.operand) bound bound here r in
    record {
      frames = r.frames;
      operand = r.operand;
      goes = then_goes fs (start_at fs) (after_at l.frames l.operand) (after_at r.frames r.operand) ts (t ∷ us) ds
          (beside a.height (0 ∷ es)) l.goes o.0;
      same = o.1;
    }

conditional_reads : (n : ℕ) (question colon : Token) (ts us vs : List Token) (ds es gs : List ℕ) (c a b : Operand)
    → 9 ≤ n → terminal_of question ≡ terminal.Question → terminal_of colon ≡ terminal.Colon → AllReads 8 ts ds c →
    AllReads 9 us es a → AllReads 9 vs gs b
    → AllReads n (ts ++ (question ∷ (us ++ (colon ∷ vs)))) (ds ++
    (beside c.height (0 ∷ es) ++ beside (max c.height a.height) (0 ∷ gs))) (conditional c a b)
conditional_reads n question colon ts us vs ds es gs c a b bound q m left middle right fs accepts =
    let l = left fs (accepts_less 8 n fs (omega (arith, bound)) accepts) in
    let f : Frame = frame.Bracket (bracket.Then c) in
    let i = middle (f ∷ fs) (omega arith) in
    let p : Pending = pending.Else c a in
    let r = right (frame.Pending p ∷ fs) (omega arith) in
    let first : expr_next (after_at l.frames l.operand) question ≡ opens fs f =
    ap (operator_next l.frames l.operand question) q
    ∙ ap question_next (l.same 8 (omega arith) ∙ stops 8 fs c (above_eight n fs bound accepts)) in
    let second : expr_next (after_at i.frames i.operand) colon ≡ opens fs (frame.Pending p) =
    ap (operator_next i.frames i.operand colon) m ∙ ap (λ (j : Nested). colon_next j.frames j.operand)
    (i.same 9 (omega arith)) in
    let o = operator_reads n 9 p colon vs gs b fs (after_at i.frames i.operand) bound bound second r in
    record {
      frames = r.frames;
      operand = r.operand;
      goes = then_goes fs (start_at fs) (after_at l.frames l.operand) (after_at r.frames r.operand) ts
          (question ∷ (us ++ (colon ∷ vs))) ds
          (beside c.height (0 ∷ es) ++ beside (max c.height a.height) (0 ∷ gs)) l.goes
          (then_goes fs (after_at l.frames l.operand) (after_at i.frames i.operand) (after_at r.frames r.operand)
          (question ∷ us) (colon ∷ vs)
          (beside c.height (0 ∷ es)) (beside (max c.height a.height) (0 ∷ gs))
          (opened_goes f fs (after_at l.frames l.operand) (after_at i.frames i.operand) question us es first i.goes)
          o.0);
      same = o.1;
    }

-- every expression is read
pub complete : (n : ℕ) (ts : List Token) (ds : List ℕ) (x : Operand) → SpellsExpr n ts ds x → AllReads n ts ds x
complete _ _ _ _ (SpellsExpr.simple n t e h) = atom_reads n t e h
complete _ _ _ _ (SpellsExpr.parens n opening close ts ds x o c s) = parens_reads n opening close ts ds x o c
    (complete 9 ts ds x s)
complete _ _ _ _ (SpellsExpr.named n dot name safe ts ds x d w s) = member_reads n dot name safe ts ds x d w
    (complete 1 ts ds x s)
complete _ _ _ _ (SpellsExpr.index n opening close safe ts us ds es x i o c s r) = index_reads n opening close safe ts
    us ds es x i o c (complete 1 ts ds x s) (complete 9 us es i r)
complete _ _ _ _ (SpellsExpr.negation n t ts ds x l m s) =
    prefix_reads n (pending.Neg t.span) t ts ds x l refl refl (λ fs. ap (operand_next fs t) m)
    (λ fs. complete 2 ts ds x s (frame.Pending (pending.Neg t.span) ∷ fs) (omega arith))
complete _ _ _ _ (SpellsExpr.inversion n t ts ds x l m s) =
    prefix_reads n (pending.Not t.span) t ts ds x l refl refl (λ fs. ap (operand_next fs t) m)
    (λ fs. complete 2 ts ds x s (frame.Pending (pending.Not t.span) ∷ fs) (omega arith))
complete _ _ _ _ (SpellsExpr.infix_ n t op ts us ds es a b l m s r) = infix_reads n t op ts us ds es a b l m
    (complete (level_of op) ts ds a s) (complete (level_of op - 1) us es b r)
complete _ _ _ _ (SpellsExpr.coalescing n t ts us ds es a b l m s r) = coalescing_reads n t ts us ds es a b l m
    (complete 8 ts ds a s) (complete 9 us es b r)
complete _ _ _ _ (SpellsExpr.conditional_ n q c ts us vs ds es gs x a b l m k s r v) =
    conditional_reads n q c ts us vs ds es gs x a b l m k (complete 8 ts ds x s) (complete 9 us es a r)
    (complete 9 vs gs b v)
