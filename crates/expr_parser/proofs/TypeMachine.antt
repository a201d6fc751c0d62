-- The machine of types against the grammar: there is a state after tokens exactly where some type begins with them,
-- it has read a whole type exactly where they spell one, and its depths and words are those at the tokens.
use Rattle.std.proofs.Common.{◌≡◌, ℕ, suc, Bool, List, [], ◌∷◌, ◌++◌, length, map, Option, Some, None, refl, sym}
use Rattle.std.proofs.Common.{◌∙◌, ap, subst}
use Rattle.soy_lexer.specs.declared.token.Token.{Token}
use Rattle.expr_parser.specs.declared.type_frame.TypeOperand.{TypeOperand}
use Rattle.expr_parser.specs.declared.type_state.TypeState.{TypeState}
use Rattle.expr_parser.specs.BeginsType.{BeginsType}
use Rattle.expr_parser.specs.SpellsType.{SpellsType}
use Rattle.expr_parser.specs.TypeRuns.{type_run, type_run_from, type_depths, type_depths_from, type_words}
use Rattle.expr_parser.specs.TypeRuns.{type_words_from, type_start}
use Rattle.expr_parser.specs.TypeSteps.{type_next, type_raised, whole_type}
use Rattle.expr_parser.proofs.Prefixes.{same_prefix}
use Rattle.expr_parser.proofs.TypeExact.{run-Completes, Completes-run}
use Rattle.expr_parser.proofs.TypeExact.{whole_type-SpellsType, SpellsType-whole_type}
use Rattle.expr_parser.proofs.TypeRunning.{depths_append, words_append}

-- inside no frame depths are unchanged
depths_plain : (ds : List ℕ) → map (type_raised []) ds ≡ ds
depths_plain [] = refl
depths_plain (d ∷ ds) = ap (λ l. d ∷ l) (depths_plain ds)

-- there is a depth for each token
pub depths_length : (ts : List Token) (s s' : TypeState) → type_run ts s ≡ Some s' → length
    (type_depths ts s) ≡ length ts
depths_length [] s s' e = refl
depths_length (t ∷ ts) s s' e = over (type_next s t) e (λ m. depths_length ts m s')
  where
    over : (to : Option TypeState) → type_run_from (type_run ts) to ≡ Some s' →
        ((m : TypeState) → type_run ts m ≡ Some s' → length (type_depths ts m) ≡ length ts) →
        length (type_depths_from (type_depths ts) to) ≡ suc (length ts)
    over None e inside = absurd (cc e)
    over (Some m) e inside = ap (λ n. suc n) (inside m e)

-- and it is known whether it is a word
pub words_length : (ts : List Token) (s s' : TypeState) → type_run ts s ≡ Some s' → length (type_words ts s) ≡ length ts
words_length [] s s' e = refl
words_length (t ∷ ts) s s' e = over (type_next s t) e (λ m. words_length ts m s')
  where
    over : (to : Option TypeState) → type_run_from (type_run ts) to ≡ Some s' →
        ((m : TypeState) → type_run ts m ≡ Some s' → length (type_words ts m) ≡ length ts) →
        length (type_words_from (type_words ts) to) ≡ suc (length ts)
    over None e inside = absurd (cc e)
    over (Some m) e inside = ap (λ n. suc n) (inside m e)

-- two states after the same tokens are the same
pub same_state : (ts : List Token) (s m : TypeState) → type_run ts type_start ≡ Some s →
    type_run ts type_start ≡ Some m → s ≡ m
same_state ts s m a b = ap unwrap (sym a ∙ b)
  where
    unwrap : Option TypeState → TypeState
    unwrap None = s
    unwrap (Some x) = x

-- the depths of a type and its words are those that are read
pub spelled_depths : (ts : List Token) (ds : List ℕ) (ws : List Bool) (x : TypeOperand) → SpellsType ts ds ws x →
    ds ≡ type_depths ts type_start
spelled_depths ts ds ws x s = let f = SpellsType-whole_type ts ds ws x s in sym (f.goes.deep ∙ depths_plain ds)

pub spelled_words : (ts : List Token) (ds : List ℕ) (ws : List Bool) (x : TypeOperand) → SpellsType ts ds ws x →
    ws ≡ type_words ts type_start
spelled_words ts ds ws x s = let f = SpellsType-whole_type ts ds ws x s in sym f.goes.words

-- tokens spell one type
pub spelled_same : (ts : List Token) (ds es : List ℕ) (ws vs : List Bool) (x y : TypeOperand) →
    SpellsType ts ds ws x → SpellsType ts es vs y → x ≡ y
spelled_same ts ds es ws vs x y a b =
    let i = SpellsType-whole_type ts ds ws x a in
    let j = SpellsType-whole_type ts es vs y b in
    ap unwrap (sym i.finishes ∙ (ap whole_type (same_state ts i.state j.state i.goes.runs j.goes.runs) ∙ j.finishes))
  where
    unwrap : Option TypeOperand → TypeOperand
    unwrap None = x
    unwrap (Some z) = z

-- some type begins with what is read
pub run-BeginsType : (ts : List Token) (s : TypeState) → type_run ts type_start ≡ Some s → BeginsType ts
    (type_depths ts type_start) (type_words ts type_start)
run-BeginsType ts s e =
    let c = run-Completes ts s e in
    let d = spelled_depths (ts ++ c.more) c.depths c.words c.operand c.spells
    ∙ depths_append ts c.more type_start s e in
    let w = spelled_words (ts ++ c.more) c.depths c.words c.operand c.spells ∙ words_append ts c.more type_start s e in
    record {
      more = c.more;
      other_depths = type_depths c.more s;
      other_words = type_words c.more s;
      operand = c.operand;
      spells = subst (λ ws. SpellsType (ts ++ c.more)
          (type_depths ts type_start ++ type_depths c.more s) ws c.operand) w
          (subst (λ ds. SpellsType (ts ++ c.more) ds c.words c.operand) d c.spells);
      one_depth_each = depths_length ts type_start s e;
      one_word_each = words_length ts type_start s e;
    }

-- a state after the tokens, with the depths at them and their words
pub record IsRead (ts : List Token) (ds : List ℕ) (ws : List Bool) : Type 0 where
  pub state : TypeState
  pub is : type_run ts type_start ≡ Some state
  pub depths_are : ds ≡ type_depths ts type_start
  pub words_are : ws ≡ type_words ts type_start

-- what some type begins with is read
pub BeginsType-run : (ts : List Token) (ds : List ℕ) (ws : List Bool) → BeginsType ts ds ws → IsRead ts ds ws
BeginsType-run ts ds ws b =
    let r = Completes-run ts
    (record {
      more = b.more;
      depths = ds ++ b.other_depths;
      words = ws ++ b.other_words;
      operand = b.operand;
      spells = b.spells;
    }) in
    record {
      state = r.state;
      is = r.is;
      depths_are = same_prefix ds (type_depths ts type_start) b.other_depths (type_depths b.more r.state)
          (b.one_depth_each ∙ sym (depths_length ts type_start r.state r.is))
          (spelled_depths (ts ++ b.more) (ds ++ b.other_depths) (ws ++ b.other_words) b.operand b.spells
          ∙ depths_append ts b.more type_start r.state r.is);
      words_are = same_prefix ws (type_words ts type_start) b.other_words (type_words b.more r.state)
          (b.one_word_each ∙ sym (words_length ts type_start r.state r.is))
          (spelled_words (ts ++ b.more) (ds ++ b.other_depths) (ws ++ b.other_words) b.operand b.spells
          ∙ words_append ts b.more type_start r.state r.is);
    }

-- tokens have one depth each, and are words or not
pub begun_depths : (ts : List Token) (ds es : List ℕ) (ws vs : List Bool) → BeginsType ts ds ws →
    BeginsType ts es vs → ds ≡ es
begun_depths ts ds es ws vs a b = let i = BeginsType-run ts ds ws a in let j =
    BeginsType-run ts es vs b in i.depths_are ∙ sym j.depths_are

pub begun_words : (ts : List Token) (ds es : List ℕ) (ws vs : List Bool) → BeginsType ts ds ws → BeginsType ts es vs →
    ws ≡ vs
begun_words ts ds es ws vs a b = let i = BeginsType-run ts ds ws a in let j =
    BeginsType-run ts es vs b in i.words_are ∙ sym j.words_are

-- what is read as a whole is spelled, at the depths and with the words that were read
pub whole-spelled : (ts : List Token) (s : TypeState) (x : TypeOperand) → type_run ts type_start ≡ Some s →
    whole_type s ≡ Some x →
    SpellsType ts (type_depths ts type_start) (type_words ts type_start) x
whole-spelled ts s x r f =
    let p = whole_type-SpellsType ts s x r f in
    subst (λ ws. SpellsType ts (type_depths ts type_start) ws x) (spelled_words ts p.depths p.words x p.spells)
    (subst (λ ds. SpellsType ts ds p.words x) (spelled_depths ts p.depths p.words x p.spells) p.spells)
