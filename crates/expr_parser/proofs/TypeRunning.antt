-- Reading lists of tokens of types one after the other, with the depths at them and their words.
use Rattle.std.proofs.Common.{◌≡◌, ℕ, Bool, List, [], ◌∷◌, ◌++◌, map, length, reverse, Option, Some, None, refl, sym}
use Rattle.std.proofs.Common.{◌∙◌, ap, arith}
use Rattle.std.proofs.lemmas.List.{reverse-append}
use Rattle.soy_lexer.specs.declared.token.Token.{Token}
use Rattle.expr_parser.specs.declared.type_frame.TypeFrame.{TypeFrame}
use Rattle.expr_parser.specs.declared.type_state.TypeState.{TypeState}
use Rattle.expr_parser.specs.Depths.{deeper, beside}
use Rattle.expr_parser.specs.TypeRuns.{type_run, type_run_from, type_depths, type_depths_from, type_words}
use Rattle.expr_parser.specs.TypeRuns.{type_words_from, is_after_name}
use Rattle.expr_parser.specs.TypeSteps.{type_next, type_depth, type_raised, type_branch}
use Rattle.expr_parser.proofs.ExprRunning.{map_append}

-- depths inside a further frame
pub raise_beside : (f : TypeFrame) (fs : List TypeFrame) (ds : List ℕ) →
    map (type_raised (f ∷ fs)) ds ≡ map (type_raised fs) (beside (type_branch f) ds)
raise_beside f fs [] = refl
raise_beside f fs (d ∷ ds) = ap (λ l. type_raised fs (deeper (type_branch f) d) ∷ l) (raise_beside f fs ds)

pub run_append : (ts us : List Token) (s : TypeState) → type_run (ts ++ us) s ≡ type_run_from (type_run us)
    (type_run ts s)
run_append [] us s = refl
run_append (t ∷ ts) us s = over (type_next s t) (run_append ts us)
  where
    over : (to : Option TypeState) → ((s' : TypeState) → type_run (ts ++ us) s' ≡ type_run_from (type_run us)
        (type_run ts s')) →
        type_run_from (type_run (ts ++ us)) to ≡ type_run_from (type_run us) (type_run_from (type_run ts) to)
    over None inside = refl
    over (Some s') inside = inside s'

-- the same state, where both are some
pub same_some : (s s' : TypeState) → Some s ≡ Some s' → s ≡ s'
same_some s s' e = ap unwrap e
  where
    unwrap : Option TypeState → TypeState
    unwrap None = s
    unwrap (Some x) = x

pub depths_append : (ts us : List Token) (s s' : TypeState) → type_run ts s ≡ Some s' →
    type_depths (ts ++ us) s ≡ type_depths ts s ++ type_depths us s'
depths_append [] us s s' e = ap (type_depths us) (same_some s s' e)
depths_append (t ∷ ts) us s s' e = over (type_next s t) e (λ m. depths_append ts us m s')
  where
    over : (to : Option TypeState) → type_run_from (type_run ts) to ≡ Some s' →
        ((m : TypeState) → type_run ts m ≡ Some s' → type_depths (ts ++ us) m ≡ type_depths ts m ++ type_depths us s') →
        type_depths_from (type_depths (ts ++ us)) to ≡ type_depths_from (type_depths ts) to ++ type_depths us s'
    over None e inside = absurd (cc e)
    over (Some m) e inside = ap (λ l. type_depth m ∷ l) (inside m e)

pub words_append : (ts us : List Token) (s s' : TypeState) → type_run ts s ≡ Some s' →
    type_words (ts ++ us) s ≡ type_words ts s ++ type_words us s'
words_append [] us s s' e = ap (type_words us) (same_some s s' e)
words_append (t ∷ ts) us s s' e = over (type_next s t) e (λ m. words_append ts us m s')
  where
    over : (to : Option TypeState) → type_run_from (type_run ts) to ≡ Some s' →
        ((m : TypeState) → type_run ts m ≡ Some s' → type_words (ts ++ us) m ≡ type_words ts m ++ type_words us s') →
        type_words_from (type_words (ts ++ us)) to ≡ type_words_from (type_words ts) to ++ type_words us s'
    over None e inside = absurd (cc e)
    over (Some m) e inside = ap (λ l. is_after_name m.expected ∷ l) (inside m e)

-- from one state tokens lead to another, with these depths at them inside the frames and these words among them
pub record Goes (fs : List TypeFrame) (s : TypeState) (ts : List Token) (ds : List ℕ) (ws : List Bool)
    (s' : TypeState) : Type 0 where
  pub runs : type_run ts s ≡ Some s'
  pub deep : type_depths ts s ≡ map (type_raised fs) ds
  pub words : type_words ts s ≡ ws

pub step_goes : (fs : List TypeFrame) (s : TypeState) (t : Token) (d : ℕ) (w : Bool) (s' : TypeState) →
    type_next s t ≡ Some s' → type_depth s' ≡ type_raised fs d → is_after_name s'.expected ≡ w →
    Goes fs s (t ∷ []) (d ∷ []) (w ∷ []) s'
step_goes fs s t d w s' e same word = record {
  runs = ap (type_run_from (type_run [])) e;
  deep = ap (type_depths_from (type_depths [])) e ∙ ap (λ n. n ∷ []) same;
  words = ap (type_words_from (type_words [])) e ∙ ap (λ n. n ∷ []) word;
}

pub then_goes : {fs : List TypeFrame} {s m s' : TypeState} {ts us : List Token} {ds es : List ℕ} {ws vs : List Bool} →
    Goes fs s ts ds ws m → Goes fs m us es vs s' → Goes fs s (ts ++ us) (ds ++ es) (ws ++ vs) s'
then_goes {fs} {s} {m} {s'} {ts} {us} {ds} {es} {ws} {vs} a b = record {
  runs = run_append ts us s ∙ (ap (type_run_from (type_run us)) a.runs ∙ b.runs);
  deep = depths_append ts us s m a.runs ∙ (rw (a.deep, b.deep) (sym (map_append (type_raised fs) ds es)));
  words = words_append ts us s m a.runs ∙ (ap (λ l. l ++ type_words us m) a.words ∙ ap (λ l. ws ++ l) b.words);
}

pub inside_goes : (f : TypeFrame) (fs : List TypeFrame) {s s' : TypeState} {ts : List Token} {ds : List ℕ}
    {ws : List Bool} →
    Goes (f ∷ fs) s ts ds ws s' → Goes fs s ts (beside (type_branch f) ds) ws s'
inside_goes f fs {ds = ds} a = record { runs = a.runs; deep = a.deep ∙ raise_beside f fs ds; words = a.words }

-- the innermost of frames that are read from the outermost
pub raise_last : (frames rest : List TypeFrame) (f : TypeFrame) (h : ℕ) → frames ≡ rest ++ f ∷ [] →
    type_raised (reverse frames) h ≡ type_raised (reverse rest) (deeper (type_branch f) h)
raise_last frames rest f h e = rw (e, reverse-append rest (f ∷ [])) refl

pub raise_none : (frames : List TypeFrame) (h : ℕ) → length frames ≡ 0 → type_raised (reverse frames) h ≡ h
raise_none [] h e = refl
raise_none (f ∷ fs) h e = absurd (omega (arith, e))
