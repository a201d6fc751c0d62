-- The machine of files against the grammar: there is a state after tokens exactly where some file begins with them, it
-- has
-- read a whole file exactly where they spell one, and its depths and words are those at the tokens.
use Rattle.std.proofs.Common.{◌≡◌, ℕ, suc, Bool, List, [], ◌∷◌, ◌++◌, length, Option, Some, None, refl, sym, ◌∙◌, ap}
use Rattle.std.proofs.Common.{subst}
use Rattle.soy_lexer.specs.declared.token.Token.{Token}
use Rattle.soy_tree.specs.declared.tree.Tree.{Tree}
use Rattle.expr_parser.proofs.Prefixes.{same_prefix}
use Rattle.soy_parser.specs.declared.spot.FileState.{FileState}
use Rattle.soy_parser.specs.FileRuns.{file_run, file_run_from, file_depths, file_depths_from, file_words}
use Rattle.soy_parser.specs.FileRuns.{file_words_from}
use Rattle.soy_parser.specs.FileSteps.{file_step, file_start, whole_file}
use Rattle.soy_parser.specs.SpellsFile.{SpellsFile, BeginsFile}
use Rattle.soy_parser.proofs.OfFiles.FileRunning.{run_append, depths_append, words_append}
use Rattle.soy_parser.proofs.OfFiles.FilesComplete.{file_leads}
use Rattle.soy_parser.proofs.OfFiles.FilesExact.{run-CompletesFile, whole_file-SpelledFile}

-- there is a depth for each token
pub depths_length : (ts : List Token) (s s' : FileState) → file_run ts s ≡ Some s'
    → length (file_depths ts s) ≡ length ts
depths_length [] s s' e = refl
depths_length (t ∷ ts) s s' e = over (file_step s t) e (λ m. depths_length ts m s')
  where
    over : (to : Option FileState) → file_run_from (file_run ts) to ≡ Some s' →
        ((m : FileState) → file_run ts m ≡ Some s' → length (file_depths ts m) ≡ length ts) →
        length (file_depths_from s (file_depths ts) to) ≡ suc (length ts)
    over None e inside = absurd (cc e)
    over (Some m) e inside = ap (λ n. suc n) (inside m e)

-- and it is known whether it is a word
pub words_length : (ts : List Token) (s s' : FileState) → file_run ts s ≡ Some s' → length (file_words ts s) ≡ length ts
words_length [] s s' e = refl
words_length (t ∷ ts) s s' e = over (file_step s t) e (λ m. words_length ts m s')
  where
    over : (to : Option FileState) → file_run_from (file_run ts) to ≡ Some s' →
        ((m : FileState) → file_run ts m ≡ Some s' → length (file_words ts m) ≡ length ts) →
        length (file_words_from (file_words ts) to) ≡ suc (length ts)
    over None e inside = absurd (cc e)
    over (Some m) e inside = ap (λ n. suc n) (inside m e)

-- two states after the same tokens are the same
pub same_state : (ts : List Token) (s m : FileState) → file_run ts file_start ≡ Some s
    → file_run ts file_start ≡ Some m →
    s ≡ m
same_state ts s m a b = ap unwrap (sym a ∙ b)
  where
    unwrap : Option FileState → FileState
    unwrap None = s
    unwrap (Some x) = x

-- **Tokens spell one file.**
pub spelled_same : (ts : List Token) (ds es : List ℕ) (ws vs : List Bool) (x y : Tree) → SpellsFile ts ds ws x →
    SpellsFile ts es vs y → x ≡ y
spelled_same ts ds es ws vs x y a b =
    let i = file_leads ts ds ws x a in
    let j = file_leads ts es vs y b in
    ap unwrap (sym i.finishes ∙ (ap whole_file (same_state ts i.state j.state i.runs j.runs) ∙ j.finishes))
  where
    unwrap : Option Tree → Tree
    unwrap None = x
    unwrap (Some z) = z

-- **Some file begins with what is read.**
pub run-BeginsFile : (ts : List Token) (s : FileState) → file_run ts file_start ≡ Some s →
    BeginsFile ts (file_depths ts file_start) (file_words ts file_start)
run-BeginsFile ts s e =
    let c = run-CompletesFile ts s e in
    let p = c.spelled in
    let i = file_leads (ts ++ c.more) p.depths p.words c.tree p.spells in
    record {
      more = c.more;
      other_depths = file_depths c.more s;
      other_words = file_words c.more s;
      tree = c.tree;
      spells = subst (λ ws. SpellsFile (ts ++ c.more) (file_depths ts file_start ++ file_depths c.more s) ws c.tree)
          (i.words_are ∙ words_append ts c.more file_start s e)
          (subst (λ ds. SpellsFile (ts ++ c.more) ds p.words c.tree)
          (i.depths_are ∙ depths_append ts c.more file_start s e) p.spells);
      one_depth_each = depths_length ts file_start s e;
      one_word_each = words_length ts file_start s e;
    }

-- a state after the tokens, with the depths at them and their words
pub record IsRead (ts : List Token) (ds : List ℕ) (ws : List Bool) : Type 0 where
  pub state : FileState
  pub is : file_run ts file_start ≡ Some state
  pub depths_are : ds ≡ file_depths ts file_start
  pub words_are : ws ≡ file_words ts file_start

-- there is a state after the first of tokens that have one
pub record IsBefore (ts us : List Token) (s : FileState) : Type 0 where
  pub state : FileState
  pub is : file_run ts file_start ≡ Some state

pub before : (ts us : List Token) (s : FileState) → file_run (ts ++ us) file_start ≡ Some s → IsBefore ts us s
before ts us s e = over (file_run ts file_start) refl (sym (run_append ts us file_start) ∙ e)
  where
    over : (to : Option FileState) → file_run ts file_start ≡ to → file_run_from (file_run us) to ≡ Some s →
        IsBefore ts us s
    over None r h = absurd (cc h)
    over (Some m) r h = record { state = m; is = r }

-- **What some file begins with is read.**
pub BeginsFile-run : (ts : List Token) (ds : List ℕ) (ws : List Bool) → BeginsFile ts ds ws → IsRead ts ds ws
BeginsFile-run ts ds ws b =
    let i = file_leads (ts ++ b.more) (ds ++ b.other_depths) (ws ++ b.other_words) b.tree b.spells in
    let m = before ts b.more i.state i.runs in
    record {
      state = m.state;
      is = m.is;
      depths_are = same_prefix ds (file_depths ts file_start) b.other_depths (file_depths b.more m.state)
          (b.one_depth_each ∙ sym (depths_length ts file_start m.state m.is))
          (i.depths_are ∙ depths_append ts b.more file_start m.state m.is);
      words_are = same_prefix ws (file_words ts file_start) b.other_words (file_words b.more m.state)
          (b.one_word_each ∙ sym (words_length ts file_start m.state m.is))
          (i.words_are ∙ words_append ts b.more file_start m.state m.is);
    }

-- tokens have one depth each, and are words or not
pub begun_depths : (ts : List Token) (ds es : List ℕ) (ws vs : List Bool) → BeginsFile ts ds ws → BeginsFile ts es vs
    → ds ≡ es
begun_depths ts ds es ws vs a b =
    let i = BeginsFile-run ts ds ws a in let j = BeginsFile-run ts es vs b in i.depths_are ∙ sym j.depths_are

pub begun_words : (ts : List Token) (ds es : List ℕ) (ws vs : List Bool) → BeginsFile ts ds ws → BeginsFile ts es vs
    → ws ≡ vs
begun_words ts ds es ws vs a b =
    let i = BeginsFile-run ts ds ws a in let j = BeginsFile-run ts es vs b in i.words_are ∙ sym j.words_are

-- **What is read as a whole is spelled, at the depths and with the words that were read.**
pub whole-spelled : (ts : List Token) (s : FileState) (x : Tree) → file_run ts file_start ≡ Some s
    → whole_file s ≡ Some x →
    SpellsFile ts (file_depths ts file_start) (file_words ts file_start) x
whole-spelled ts s x r f =
    let p = whole_file-SpelledFile ts s x r f in
    let i = file_leads ts p.depths p.words x p.spells in
    subst (λ ws. SpellsFile ts (file_depths ts file_start) ws x) i.words_are
    (subst (λ ds. SpellsFile ts ds p.words x) i.depths_are p.spells)
