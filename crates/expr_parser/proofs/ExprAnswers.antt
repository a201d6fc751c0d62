-- Tokens have one answer.
use Rattle.std.proofs.Common.{◌≡◌, ℕ, ◌+◌, ◌<◌, List, [], ◌∷◌, ◌++◌, length, Option, Some, None, Result, Ok, Err}
use Rattle.std.proofs.Common.{refl, sym, ◌∙◌, ap, subst, arith, length-append}
use Rattle.soy_base.specs.declared.code.Code.{Code}
use Rattle.soy_base.specs.declared.code.Code.TheVariants as code
use Rattle.soy_base.specs.declared.fault.Fault.{Fault}
use Rattle.soy_base.specs.declared.memory.Refusal.{Refusal}
use Rattle.soy_base.specs.declared.memory.Refusal.TheVariants as refusal
use Rattle.soy_lexer.specs.declared.token.Token.{Token}
use Rattle.soy_tree.specs.declared.expr.Expr.{Expr}
use Rattle.expr_parser.specs.declared.operand.Operand.{Operand}
use Rattle.expr_parser.specs.declared.state.ExprState.{ExprState}
use Rattle.expr_parser.specs.BeginsExpr.{BeginsExpr}
use Rattle.expr_parser.specs.Depths.{depth_limit, AreWithin}
use Rattle.expr_parser.specs.ExprRuns.{expr_run, expr_run_from, expr_depths, expr_start}
use Rattle.expr_parser.specs.Offsets.{offset_after}
use Rattle.expr_parser.specs.ParsesExpr.{NoneGoesOn, IsExpr, IsNoExpr, IsTooDeepExpr, RefusesExpr, ParsesExpr}
use Rattle.expr_parser.specs.SpellsExpr.{SpellsExpr}
use Rattle.expr_parser.proofs.ExprExact.{SpellsExpr-whole_expr}
use Rattle.expr_parser.proofs.ExprMachine.{BeginsExpr-run, run-BeginsExpr, depths_length, spelled_depths}
use Rattle.expr_parser.proofs.ExprMachine.{spelled_same, begun_same}
use Rattle.expr_parser.proofs.ExprRunning.{run_append, depths_append}
use Rattle.expr_parser.proofs.Longest.{Ends, same_longest, same_bad, longest_good}
use Rattle.expr_parser.proofs.Prefixes.{same_prefix, within_prefix, within_last}

-- some expression begins with the tokens
record Begun (ts : List Token) : Type 0 where
  pub depths : List ℕ
  pub begins : BeginsExpr ts depths

-- and none of them lies too deep
record Good (blocks : ℕ) (ts rest : List Token) : Type 0 where
  pub depths : List ℕ
  pub begins : BeginsExpr ts depths
  pub within : AreWithin blocks depths

-- the state after the first of the tokens
record IsBefore (ts us : List Token) : Type 0 where
  pub state : ExprState
  pub is : expr_run ts expr_start ≡ Some state

before : (ts us : List Token) (s : ExprState) → expr_run (ts ++ us) expr_start ≡ Some s → IsBefore ts us
before ts us s e = over (expr_run ts expr_start) refl (sym (run_append ts us expr_start) ∙ e)
  where
    over : (to : Option ExprState) → expr_run ts expr_start ≡ to → expr_run_from (expr_run us) to ≡ Some s →
        IsBefore ts us
    over None r h = absurd (cc h)
    over (Some m) r h = record { state = m; is = r }

begun_shorter : (ts us : List Token) → Begun (ts ++ us) → Begun ts
begun_shorter ts us b =
    let i = BeginsExpr-run (ts ++ us) b.depths b.begins in
    let m = before ts us i.state i.is in
    record { depths = expr_depths ts expr_start; begins = run-BeginsExpr ts m.state m.is }

good_shorter : (blocks : ℕ) (ts us rest : List Token) → Good blocks (ts ++ us) rest → Good blocks ts (us ++ rest)
good_shorter blocks ts us rest g =
    let i = BeginsExpr-run (ts ++ us) g.depths g.begins in
    let m = before ts us i.state i.is in
    record {
      depths = expr_depths ts expr_start;
      begins = run-BeginsExpr ts m.state m.is;
      within = within_prefix blocks (expr_depths ts expr_start) (expr_depths us m.state)
          (subst (AreWithin blocks) (i.depths_are ∙ depths_append ts us expr_start m.state m.is) g.within);
    }

-- what is spelled begins
spelled_begins : (ts : List Token) (ds : List ℕ) (x : Operand) → SpellsExpr 9 ts ds x → BeginsExpr ts ds
spelled_begins ts ds x s =
    let i = SpellsExpr-whole_expr ts ds x s in
    subst (BeginsExpr ts) (sym (spelled_depths ts ds x s)) (run-BeginsExpr ts i.state i.goes.runs)

-- the tokens before the last, where the depths of those before it are within the limit
before_last : (blocks : ℕ) (ts : List Token) (t : Token) (rest : List Token) (ds : List ℕ) (d : ℕ) →
    BeginsExpr (ts ++ (t ∷ [])) (ds ++ (d ∷ [])) → AreWithin blocks ds → Good blocks ts rest
before_last blocks ts t rest ds d b within =
    let i = BeginsExpr-run (ts ++ (t ∷ [])) (ds ++ (d ∷ [])) b in
    let m = before ts (t ∷ []) i.state i.is in
    let long = b.one_each in
    let more = depths_length ts expr_start m.state m.is in
    let even : length ds ≡ length (expr_depths ts expr_start) = omega (arith, more, simp length-append at long) in
    record {
      depths = expr_depths ts expr_start;
      begins = run-BeginsExpr ts m.state m.is;
      within = subst (AreWithin blocks)
          (same_prefix ds (expr_depths ts expr_start) (d ∷ []) (expr_depths (t ∷ []) m.state) even
          (i.depths_are ∙ depths_append ts (t ∷ []) expr_start m.state m.is)) within;
    }

-- tokens aren't good of which the last lies too deep
bad_last : (blocks : ℕ) (ts : List Token) (t : Token) (rest : List Token) (ds : List ℕ) (d : ℕ) →
    BeginsExpr (ts ++ (t ∷ [])) (ds ++ (d ∷ [])) → depth_limit < blocks + d → Good blocks (ts ++ (t ∷ [])) rest → ⊥
bad_last blocks ts t rest ds d b deep g =
    let e = begun_same (ts ++ (t ∷ [])) g.depths (ds ++ (d ∷ [])) g.begins b in
    let w = within_last blocks ds d (subst (AreWithin blocks) e g.within) in
    omega (arith, w, deep)

ends : (ps rs : List Token) → NoneGoesOn ps rs → Ends Begun ps rs
ends ps [] h = tt
ends ps (r ∷ rs) h = λ b. h b.depths b.begins

-- the longest prefix with which some expression begins, and what is known of it
record IsLongest (blocks : ℕ) (tokens prefix rest : List Token) : Type 0 where
  pub whole : tokens ≡ prefix ++ rest
  pub good : Good blocks prefix rest
  pub stops : Ends Begun prefix rest

-- the first token that lies too deep
record IsFirstBad (blocks : ℕ) (tokens prefix : List Token) (token : Token) (rest : List Token) : Type 0 where
  pub whole : tokens ≡ prefix ++ (token ∷ rest)
  pub good : Good blocks prefix (token ∷ rest)
  pub begun : Begun (prefix ++ (token ∷ []))
  pub bad : Good blocks (prefix ++ (token ∷ [])) rest → ⊥

module _ (blocks : ℕ) (tokens : List Token) where
  longest_expr : {e : Expr} {n : ℕ} (i : IsExpr blocks tokens e n) → IsLongest blocks tokens i.prefix i.rest
  longest_expr i = record {
    whole = i.whole;
    good = record {
      depths = i.depths;
      begins = spelled_begins i.prefix i.depths i.operand i.spells;
      within = i.within;
    };
    stops = ends i.prefix i.rest i.longest;
  }

  longest_none : {offset : ℕ} (i : IsNoExpr blocks tokens offset) → IsLongest blocks tokens i.prefix i.rest
  longest_none i = record {
    whole = i.whole;
    good = record { depths = i.depths; begins = i.begins; within = i.within };
    stops = ends i.prefix i.rest i.longest;
  }

  first_bad : {offset : ℕ} (i : IsTooDeepExpr blocks tokens offset) → IsFirstBad blocks tokens i.prefix i.token i.rest
  first_bad i = record {
    whole = i.whole;
    good = before_last blocks i.prefix i.token (i.token ∷ i.rest) i.depths i.depth i.begins i.within;
    begun = record { depths = i.depths ++ (i.depth ∷ []); begins = i.begins };
    bad = bad_last blocks i.prefix i.token i.rest i.depths i.depth i.begins i.deep;
  }

  one_longest : {ps rs qs ss : List Token} → IsLongest blocks tokens ps rs → IsLongest blocks tokens qs ss →
      (ps ≡ qs) × (rs ≡ ss)
  one_longest {ps} {rs} {qs} {ss} a b =
      same_longest Begun begun_shorter ps rs qs ss (sym a.whole ∙ b.whole)
      (record { depths = a.good.depths; begins = a.good.begins }) a.stops
      (record { depths = b.good.depths; begins = b.good.begins }) b.stops

  never_both : {ps rs qs ss : List Token} {t : Token} → IsLongest blocks tokens ps rs →
      IsFirstBad blocks tokens qs t ss → ⊥
  never_both {ps} {rs} {qs} {ss} {t} a b =
      longest_good Begun begun_shorter (Good blocks) (good_shorter blocks) ps rs qs ss t
      (sym a.whole ∙ b.whole) a.good a.stops
      b.begun b.bad

  one_bad : {ps rs qs ss : List Token} {t u : Token} → IsFirstBad blocks tokens ps t rs →
      IsFirstBad blocks tokens qs u ss →
      t ≡ u
  one_bad {ps} {rs} {qs} {ss} {t} {u} a b =
      (same_bad (Good blocks) (good_shorter blocks) ps qs rs ss t u (sym a.whole ∙ b.whole) a.good a.bad b.good b.bad).1

  -- two faults are the same
  refused_same : (c d : Code) (m n : ℕ) → RefusesExpr blocks tokens c m → RefusesExpr blocks tokens d n → (c ≡ d) ×
      (m ≡ n)
  refused_same code.Syntax code.Syntax m n p q =
      let e = one_longest (longest_none p) (longest_none q) in
      (refl, sym p.offset_is ∙ (ap (λ l. offset_after l p.rest) e.0 ∙ (ap (offset_after q.prefix) e.1 ∙ q.offset_is)))
  refused_same code.Nesting code.Nesting m n p q =
      (refl, sym p.offset_is ∙ (ap (λ t. t.span.start) (one_bad (first_bad p) (first_bad q)) ∙ q.offset_is))
  refused_same code.Syntax code.Nesting m n p q = absurd (never_both (longest_none p) (first_bad q))
  refused_same code.Nesting code.Syntax m n p q = absurd (never_both (longest_none q) (first_bad p))
  refused_same code.Syntax _ m n p q = absurd q
  refused_same code.Nesting _ m n p q = absurd q
  refused_same _ d m n p q = absurd p

  -- no fault beside an expression
  never_refused : (d : Code) (n : ℕ) {e : Expr} {count : ℕ} → IsExpr blocks tokens e count →
      RefusesExpr blocks tokens d n → ⊥
  never_refused code.Syntax n p q =
      let e = one_longest (longest_expr p) (longest_none q) in
      q.incomplete p.depths p.operand (subst (λ l. SpellsExpr 9 l p.depths p.operand) e.0 p.spells)
  never_refused code.Nesting n p q = never_both (longest_expr p) (first_bad q)
  never_refused _ n p q = q

  -- two expressions are the same, and of as many tokens
  expr_same : {x y : Expr} {m n : ℕ} → IsExpr blocks tokens x m → IsExpr blocks tokens y n → (x ≡ y) × (m ≡ n)
  expr_same p q =
      let e = one_longest (longest_expr p) (longest_expr q) in
      let o = spelled_same q.prefix p.depths q.depths p.operand q.operand
      (subst (λ l. SpellsExpr 9 l p.depths p.operand) e.0 p.spells) q.spells in
      (sym p.expr_is ∙ (ap (λ x. x.expr) o ∙ q.expr_is), sym p.count_is ∙ (ap length e.0 ∙ q.count_is))

-- results are the same whose parts are

pub ok_same : {A : Type 0} (x y : A) (m n : ℕ) → (x ≡ y) × (m ≡ n) →
    ◌≡◌ {A = Result (A × ℕ) (Refusal Fault)} (Ok (x, m)) (Ok (y, n))
ok_same x y m n e = rw (e.0, e.1) refl

pub fault_same : {A : Type 0} (f g : Fault) → (f.code ≡ g.code) × (f.at ≡ g.at) → f.file ≡ g.file →
    ◌≡◌ {A = Result (A × ℕ) (Refusal Fault)} (Err (refusal.Because f)) (Err (refusal.Because g))
fault_same f g e file = ap (λ h. Err (refusal.Because h)) (parts f.code g.code f.file g.file f.at g.at e.0 file e.1)
  where
    parts : (c d : Code) (i j m n : ℕ) → c ≡ d → i ≡ j → m ≡ n →
        ◌≡◌ {A = Fault} (record { code = c; file = i; at = m }) (record { code = d; file = j; at = n })
    parts c d i j m n p q r = rw (p, q, r) refl

-- **Two answers for the same tokens are the same, but where memory ran out.**
pub one_answer : (file blocks : ℕ) (tokens : List Token) (a b : Result (Expr × ℕ) (Refusal Fault)) →
    ParsesExpr file blocks tokens a → ParsesExpr file blocks tokens b →
    (a ≡ Err refusal.OutOfMemory → ⊥) → (b ≡ Err refusal.OutOfMemory → ⊥) → a ≡ b
one_answer file blocks tokens (Ok x) (Ok y) p q m n = ok_same x.0 y.0 x.1 y.1 (expr_same blocks tokens p q)
one_answer file blocks tokens (Ok x) (Err (refusal.Because g)) p q m n =
    absurd (never_refused blocks tokens g.code g.at p q.1)
one_answer file blocks tokens (Err (refusal.Because f)) (Ok y) p q m n =
    absurd (never_refused blocks tokens f.code f.at q p.1)
one_answer file blocks tokens (Err (refusal.Because f)) (Err (refusal.Because g)) p q m n =
    fault_same f g (refused_same blocks tokens f.code g.code f.at g.at p.1 q.1) (p.0 ∙ sym q.0)
one_answer file blocks tokens (Err refusal.OutOfMemory) b p q m n = absurd (m refl)
one_answer file blocks tokens a (Err refusal.OutOfMemory) p q m n = absurd (n refl)
