-- What is read of tokens is the longest prefix with which some expression begins.
use Rattle.std.proofs.Common.{◌≡◌, ℕ, ◌+◌, ◌≤◌, Bool, true, false, length, List, [], ◌∷◌, ◌++◌, Option, Some, None}
use Rattle.std.proofs.Common.{refl, sym, ◌∙◌, ap, arith, append_assoc, length-append, subst}
use Rattle.std.proofs.lemmas.List.{reverse-append}
use Rattle.std.specs.Prelude.{if◌then◌else◌, reverse}
use Rattle.soy_base.specs.declared.code.Code.TheVariants as code
use Rattle.soy_lexer.specs.declared.token.Token.{Token}
use Rattle.expr_parser.specs.declared.frame.Frame.{Frame}
use Rattle.expr_parser.specs.declared.operand.Operand.{Operand}
use Rattle.expr_parser.specs.declared.parse.Outcome.{Outcome}
use Rattle.expr_parser.specs.declared.parse.Outcome.TheVariants.{Done, Refused}
use Rattle.expr_parser.specs.declared.state.ExprState.{ExprState}
use Rattle.expr_parser.specs.BeginsExpr.{BeginsExpr}
use Rattle.expr_parser.specs.Depths.{deeper, depth_limit, is_within, AreWithin}
use Rattle.expr_parser.specs.ExprReading.{answer, read_on, reading}
use Rattle.expr_parser.specs.ExprRuns.{expr_run, expr_run_from, expr_depths, expr_depths_from, expr_start}
use Rattle.expr_parser.specs.ExprSteps.{expr_next, step_of, whole_expr, expr_depth}
use Rattle.expr_parser.specs.Frames.{raised, branch}
use Rattle.expr_parser.specs.Offsets.{end_after, offset_after}
use Rattle.expr_parser.specs.ParsesExpr.{NoneGoesOn, IsExpr, RefusesExpr}
use Rattle.expr_parser.proofs.ExprExact.{whole_expr-SpellsExpr, SpellsExpr-whole_expr}
use Rattle.expr_parser.proofs.ExprMachine.{BeginsExpr-run, run-BeginsExpr, next_is, same_state, spelled_depths}
use Rattle.expr_parser.proofs.ExprRunning.{run_append, depths_append}
use Rattle.expr_parser.proofs.Prefixes.{within_append, end_last}
use Rattle.expr_parser.proofs.Levels.{within-true, within-false}

-- what an outcome says of the tokens
abbrev pub Answers : ℕ → List Token → Outcome → Type 0
Answers blocks tokens (Done x count) = IsExpr blocks tokens x.expr count
Answers blocks tokens (Refused why offset) = RefusesExpr blocks tokens why offset

-- the tokens that were read, and one more
one_more : (us : List Token) (t : Token) (s : ExprState) → expr_run us expr_start ≡ Some s →
    expr_run (us ++ t ∷ []) expr_start ≡ expr_run_from (expr_run []) (expr_next s t)
one_more us t s r = run_append us (t ∷ []) expr_start ∙ ap (expr_run_from (expr_run (t ∷ []))) r

-- no expression goes on where there is no step
none_goes_on : (us : List Token) (t : Token) (s : ExprState) → expr_run us expr_start ≡ Some s → expr_next s t ≡ None →
    (ds : List ℕ) → BeginsExpr (us ++ t ∷ []) ds → ⊥
none_goes_on us t s r e ds b =
    let i = BeginsExpr-run (us ++ t ∷ []) ds b in
    clash (sym i.is ∙ (one_more us t s r ∙ ap (expr_run_from (expr_run [])) e))
  where
    clash : {m : ExprState} → Some m ≡ None → ⊥
    clash h = cc

-- where reading stops
stopped : (blocks offset : ℕ) (us rest : List Token) (s : ExprState) (o : Option Operand) →
    expr_run us expr_start ≡ Some s →
    whole_expr s ≡ o → NoneGoesOn us rest → AreWithin blocks (expr_depths us expr_start) →
    offset_after us rest ≡ offset →
    Answers blocks (us ++ rest) (answer (length us) offset o)
stopped blocks offset us rest s (Some x) r f ends within at =
    let p = whole_expr-SpellsExpr us s x r f in
    record {
      prefix = us;
      rest = rest;
      depths = p.depths;
      operand = x;
      whole = refl;
      spells = p.spells;
      expr_is = refl;
      count_is = refl;
      longest = ends;
      within = rw (spelled_depths us p.depths x p.spells) within;
    }
stopped blocks offset us rest s None r f ends within at =
    record {
      prefix = us;
      rest = rest;
      depths = expr_depths us expr_start;
      whole = refl;
      begins = run-BeginsExpr us s r;
      longest = ends;
      incomplete = λ ds x p. let i = SpellsExpr-whole_expr us ds x p in
          clash (sym f ∙ (ap whole_expr (same_state us s i.state r i.goes.runs) ∙ i.finishes));
      within = within;
      offset_is = at;
    }
  where
    clash : {x : Operand} → None ≡ Some x → ⊥
    clash h = cc

-- one token, and then the rest

moved : (blocks : ℕ) (ts xs ys : List Token) (n k e f : ℕ) (m : ExprState) → xs ≡ ys → n ≡ k → e ≡ f →
    Answers blocks xs (reading blocks n e ts m) → Answers blocks ys (reading blocks k f ts m)
moved blocks ts xs ys n k e f m p q r a = rw (← p, ← q, ← r) a

module _ (blocks : ℕ) (ts us : List Token) (s : ExprState) (t : Token) (r : expr_run us expr_start ≡ Some s)
    (within : AreWithin blocks (expr_depths us expr_start)) where
  read_to : (m : ExprState) → expr_next s t ≡ Some m → expr_run (us ++ t ∷ []) expr_start ≡ Some m
  read_to m e = one_more us t s r ∙ ap (expr_run_from (expr_run [])) e

  depths_to : (m : ExprState) → expr_next s t ≡ Some m →
      expr_depths (us ++ t ∷ []) expr_start ≡ expr_depths us expr_start ++ expr_depth m ∷ []
  depths_to m e = depths_append us (t ∷ []) expr_start s r
      ∙ ap (λ l. expr_depths us expr_start ++ l) (ap (expr_depths_from (expr_depths [])) e)

  within_to : (m : ExprState) → expr_next s t ≡ Some m → blocks + expr_depth m ≤ depth_limit →
      AreWithin blocks (expr_depths (us ++ t ∷ []) expr_start)
  within_to m e small =
      rw (depths_to m e) (within_append blocks (expr_depths us expr_start) (expr_depth m ∷ []) within (small, tt))

  begins_to : (m : ExprState) → expr_next s t ≡ Some m → BeginsExpr (us ++ t ∷ []) (expr_depths us expr_start ++
      expr_depth m ∷ [])
  begins_to m e = subst (λ ds. BeginsExpr (us ++ t ∷ []) ds) (depths_to m e)
      (run-BeginsExpr (us ++ t ∷ []) m (read_to m e))

  on : (m : ExprState) → expr_next s t ≡ Some m → (b : Bool) → is_within blocks (expr_depth m) ≡ b →
      (AreWithin blocks (expr_depths (us ++ t ∷ []) expr_start) →
      Answers blocks ((us ++ t ∷ []) ++ ts) (reading blocks (length (us ++ t ∷ [])) (end_after 0 (us ++ t ∷ [])) ts m))
      →
      Answers blocks (us ++ t ∷ ts)
      (if b then reading blocks (length us + 1) t.span.end ts m else Refused code.Nesting t.span.start)
  on m e true small inside =
      moved blocks ts ((us ++ t ∷ []) ++ ts) (us ++ t ∷ ts) (length (us ++ t ∷ [])) (length us + 1)
      (end_after 0 (us ++ t ∷ [])) t.span.end m
      (append_assoc us (t ∷ []) ts) (length-append us (t ∷ [])) (end_last 0 us t)
      (inside (within_to m e (within-true (blocks + expr_depth m) depth_limit small)))
  on m e false large inside = record {
    prefix = us;
    token = t;
    rest = ts;
    depths = expr_depths us expr_start;
    depth = expr_depth m;
    whole = refl;
    begins = begins_to m e;
    within = within;
    deep = within-false (blocks + expr_depth m) depth_limit large;
    offset_is = refl;
  }

  over : (to : Option ExprState) → expr_next s t ≡ to →
      ((m : ExprState) → expr_run (us ++ t ∷ []) expr_start ≡ Some m →
      AreWithin blocks (expr_depths (us ++ t ∷ []) expr_start) →
      Answers blocks ((us ++ t ∷ []) ++ ts) (reading blocks (length (us ++ t ∷ [])) (end_after 0 (us ++ t ∷ [])) ts m))
      →
      Answers blocks (us ++ t ∷ ts) (read_on blocks (length us) t (reading blocks (length us + 1) t.span.end ts)
      (step_of to (whole_expr s)))
  over None e inside = stopped blocks t.span.start us (t ∷ ts) s (whole_expr s) r refl (none_goes_on us t s r e) within
      refl
  over (Some m) e inside = on m e (is_within blocks (expr_depth m)) refl (inside m (read_to m e))

means : (blocks : ℕ) (ts us : List Token) (s : ExprState) → expr_run us expr_start ≡ Some s →
    AreWithin blocks (expr_depths us expr_start) → Answers blocks (us ++ ts)
    (reading blocks (length us) (end_after 0 us) ts s)
means blocks [] us s r within = stopped blocks (end_after 0 us) us [] s (whole_expr s) r refl tt within refl
means blocks (t ∷ ts) us s r within =
    rw (next_is s.expected s.frames t)
    (over blocks ts us s t r within (expr_next s t) refl (means blocks ts (us ++ t ∷ [])))

-- **What is read from the first token on is right.**
pub reading-Answers : (blocks : ℕ) (ts : List Token) → Answers blocks ts (reading blocks 0 0 ts expr_start)
reading-Answers blocks ts = means blocks ts [] expr_start refl tt

-- the same of an outcome that is known to be what is read
pub read-Answers : (blocks : ℕ) (ts : List Token) (o : Outcome) → o ≡ reading blocks 0 0 ts expr_start →
    Answers blocks ts o
read-Answers blocks ts o e = rw e (reading-Answers blocks ts)

-- the innermost of frames that are read from the outermost
pub raise_last : (frames rest : List Frame) (f : Frame) (h : ℕ) → frames ≡ rest ++ f ∷ [] →
    raised (reverse frames) h ≡ raised (reverse rest) (deeper (branch f) h)
raise_last frames rest f h e = rw (e, reverse-append rest (f ∷ [])) refl

pub raise_none : (frames : List Frame) (h : ℕ) → length frames ≡ 0 → raised (reverse frames) h ≡ h
raise_none [] h e = refl
raise_none (f ∷ fs) h e = absurd (omega (arith, e))
