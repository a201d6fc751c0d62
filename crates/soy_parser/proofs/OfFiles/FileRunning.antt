-- Reading lists of tokens one after the other, with the depths at them and their words.
use Rattle.std.proofs.Common.{◌≡◌, ℕ, ◌+◌, Bool, List, [], ◌∷◌, ◌++◌, Option, Some, None, refl, sym, ◌∙◌}
use Rattle.std.proofs.Common.{ap}
use Rattle.soy_lexer.specs.declared.token.Token.{Token}
use Rattle.soy_parser.specs.declared.spot.FileState.{FileState}
use Rattle.soy_parser.specs.Depth.{inside_blocks}
use Rattle.soy_parser.specs.FileRuns.{file_run, file_run_from, file_depths, file_depths_from, file_words}
use Rattle.soy_parser.specs.FileRuns.{file_words_from}
use Rattle.soy_parser.specs.FileSteps.{file_step, token_depth, word_in}
use Rattle.soy_parser.proofs.OfCommands.CommandRunning.{map_append}

pub run_append : (ts us : List Token) (s : FileState) → file_run (ts ++ us) s ≡ file_run_from (file_run us)
    (file_run ts s)
run_append [] us s = refl
run_append (t ∷ ts) us s = over (file_step s t) (run_append ts us)
  where
    over : (to : Option FileState) →
        ((m : FileState) → file_run (ts ++ us) m ≡ file_run_from (file_run us) (file_run ts m)) →
        file_run_from (file_run (ts ++ us)) to ≡ file_run_from (file_run us) (file_run_from (file_run ts) to)
    over None inside_ = refl
    over (Some m) inside_ = inside_ m

pub same_some : (s s' : FileState) → Some s ≡ Some s' → s ≡ s'
same_some s s' e = ap unwrap e
  where
    unwrap : Option FileState → FileState
    unwrap None = s
    unwrap (Some x) = x

pub depths_append : (ts us : List Token) (s s' : FileState) → file_run ts s ≡ Some s' →
    file_depths (ts ++ us) s ≡ file_depths ts s ++ file_depths us s'
depths_append [] us s s' e = ap (file_depths us) (same_some s s' e)
depths_append (t ∷ ts) us s s' e = over (file_step s t) e (λ m. depths_append ts us m s')
  where
    over : (to : Option FileState) → file_run_from (file_run ts) to ≡ Some s' →
        ((m : FileState) → file_run ts m ≡ Some s' → file_depths (ts ++ us) m ≡ file_depths ts m ++ file_depths us s') →
        file_depths_from s (file_depths (ts ++ us)) to ≡ file_depths_from s (file_depths ts) to ++ file_depths us s'
    over None e inside_ = absurd (cc e)
    over (Some m) e inside_ = ap (λ l. token_depth s m ∷ l) (inside_ m e)

pub words_append : (ts us : List Token) (s s' : FileState) → file_run ts s ≡ Some s' →
    file_words (ts ++ us) s ≡ file_words ts s ++ file_words us s'
words_append [] us s s' e = ap (file_words us) (same_some s s' e)
words_append (t ∷ ts) us s s' e = over (file_step s t) e (λ m. words_append ts us m s')
  where
    over : (to : Option FileState) → file_run_from (file_run ts) to ≡ Some s' →
        ((m : FileState) → file_run ts m ≡ Some s' → file_words (ts ++ us) m ≡ file_words ts m ++ file_words us s') →
        file_words_from (file_words (ts ++ us)) to ≡ file_words_from (file_words ts) to ++ file_words us s'
    over None e inside_ = absurd (cc e)
    over (Some m) e inside_ = ap (λ l. word_in m.spot ∷ l) (inside_ m e)

-- from one state tokens lead to another, with these depths at them inside so many blocks and these words among them
pub record Leads (n : ℕ) (s : FileState) (ts : List Token) (ds : List ℕ) (ws : List Bool) (s' : FileState) : Type 0
  where
    pub runs : file_run ts s ≡ Some s'
    pub deep : file_depths ts s ≡ inside_blocks n ds
    pub words : file_words ts s ≡ ws

pub none_leads : (n : ℕ) (s : FileState) → Leads n s [] [] [] s
none_leads n s = record { runs = refl; deep = refl; words = refl }

pub step_leads : (n d : ℕ) (w : Bool) (s : FileState) (t : Token) (s' : FileState) → file_step s t ≡ Some s' →
    token_depth s s' ≡ n + d → word_in s'.spot ≡ w → Leads n s (t ∷ []) (d ∷ []) (w ∷ []) s'
step_leads n d w s t s' e deep word = record {
  runs = ap (file_run_from (file_run [])) e;
  deep = ap (file_depths_from s (file_depths [])) e ∙ ap (λ k. k ∷ []) deep;
  words = ap (file_words_from (file_words [])) e ∙ ap (λ b. b ∷ []) word;
}

pub then_leads : {n : ℕ} {s m s' : FileState} {ts us : List Token} {ds es : List ℕ} {ws vs : List Bool} →
    Leads n s ts ds ws m → Leads n m us es vs s' → Leads n s (ts ++ us) (ds ++ es) (ws ++ vs) s'
then_leads {n} {s} {m} {s'} {ts} {us} {ds} {es} {ws} {vs} a b = record {
  runs = run_append ts us s ∙ (ap (file_run_from (file_run us)) a.runs ∙ b.runs);
  deep = depths_append ts us s m a.runs ∙ (rw (a.deep, b.deep) (sym (map_append (λ d. n + d) ds es)));
  words = words_append ts us s m a.runs ∙ (ap (λ l. l ++ file_words us m) a.words ∙ ap (λ l. ws ++ l) b.words);
}
