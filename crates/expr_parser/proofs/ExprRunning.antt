-- Reading lists of tokens one after the other, with the depths at them.
use Rattle.std.proofs.Common.{◌≡◌, ℕ, List, [], ◌∷◌, ◌++◌, map, Option, Some, None, refl, sym, ◌∙◌, ap}
use Rattle.soy_lexer.specs.declared.token.Token.{Token}
use Rattle.expr_parser.specs.declared.frame.Frame.{Frame}
use Rattle.expr_parser.specs.declared.state.ExprState.{ExprState}
use Rattle.expr_parser.specs.Depths.{deeper}
use Rattle.expr_parser.specs.Frames.{raised, branch}
use Rattle.expr_parser.specs.ExprSteps.{expr_next, expr_depth}
use Rattle.expr_parser.specs.Depths.{beside}
use Rattle.expr_parser.specs.ExprRuns.{expr_run, expr_run_from, expr_depths, expr_depths_from}

pub map_append : {A B : Type 0} (f : A → B) (xs ys : List A) → map f (xs ++ ys) ≡ map f xs ++ map f ys
map_append f [] ys = refl
map_append f (x ∷ xs) ys = ap (λ l. f x ∷ l) (map_append f xs ys)

-- depths inside a further frame
pub raise_under : (f : Frame) (fs : List Frame) (ds : List ℕ) →
    map (raised (f ∷ fs)) ds ≡ map (raised fs) (beside (branch f) ds)
raise_under f fs [] = refl
raise_under f fs (d ∷ ds) = ap (λ l. raised fs (deeper (branch f) d) ∷ l) (raise_under f fs ds)

pub run_append : (ts us : List Token) (s : ExprState) → expr_run (ts ++ us) s ≡ expr_run_from (expr_run us) (expr_run
    ts s)
run_append [] us s = refl
run_append (t ∷ ts) us s = over (expr_next s t) (run_append ts us)
  where
    over : (to : Option ExprState) → ((s' : ExprState) → expr_run (ts ++ us) s' ≡ expr_run_from (expr_run us) (expr_run
        ts s')) → expr_run_from (expr_run (ts ++ us)) to ≡ expr_run_from (expr_run us) (expr_run_from (expr_run ts) to)
    over None inside = refl
    over (Some s') inside = inside s'

pub depths_append : (ts us : List Token) (s s' : ExprState) → expr_run ts s ≡ Some s' →
    expr_depths (ts ++ us) s ≡ expr_depths ts s ++ expr_depths us s'
depths_append [] us s s' e = ap (expr_depths us) (same e)
  where
    unwrap : Option ExprState → ExprState
    unwrap None = s
    unwrap (Some x) = x

    same : Some s ≡ Some s' → s ≡ s'
    same e = ap unwrap e
depths_append (t ∷ ts) us s s' e = over (expr_next s t) e (λ m. depths_append ts us m s')
  where
    over : (to : Option ExprState) → expr_run_from (expr_run ts) to ≡ Some s' →
        ((m : ExprState) → expr_run ts m ≡ Some s' → expr_depths (ts ++ us) m ≡ expr_depths ts m ++ expr_depths us s')
        → expr_depths_from (expr_depths (ts ++ us)) to ≡ expr_depths_from (expr_depths ts) to ++ expr_depths us s'
    over None e inside = absurd (cc e)
    over (Some m) e inside = ap (λ l. expr_depth m ∷ l) (inside m e)

-- from one state tokens lead to another, and these are the depths at them inside the frames
pub record Goes (fs : List Frame) (s : ExprState) (ts : List Token) (ds : List ℕ) (s' : ExprState) : Type 0 where
  pub runs : expr_run ts s ≡ Some s'
  pub deep : expr_depths ts s ≡ map (raised fs) ds

pub step_goes : (fs : List Frame) (s : ExprState) (t : Token) (d : ℕ) (s' : ExprState) → expr_next s t ≡ Some s' →
    expr_depth s' ≡ raised fs d → Goes fs s (t ∷ []) (d ∷ []) s'
step_goes fs s t d s' e same = record {
  runs = ap (expr_run_from (expr_run [])) e;
  deep = ap (expr_depths_from (expr_depths [])) e ∙ ap (λ n. n ∷ []) same;
}

pub then_goes : (fs : List Frame) (s m s' : ExprState) (ts us : List Token) (ds es : List ℕ) → Goes fs s ts ds m →
    Goes fs m us es s' → Goes fs s (ts ++ us) (ds ++ es) s'
then_goes fs s m s' ts us ds es a b = record {
  runs = run_append ts us s ∙ (ap (expr_run_from (expr_run us)) a.runs ∙ b.runs);
  deep = depths_append ts us s m a.runs ∙ (rw (a.deep, b.deep) (sym (map_append (raised fs) ds es)));
}

pub inside_goes : (f : Frame) (fs : List Frame) (s s' : ExprState) (ts : List Token) (ds : List ℕ) →
    Goes (f ∷ fs) s ts ds s' → Goes fs s ts (beside (branch f) ds) s'
inside_goes f fs s s' ts ds a = record { runs = a.runs; deep = a.deep ∙ raise_under f fs ds }
