-- The machine reads exactly the patterns, and goes on exactly as far as some pattern does.
use Rattle.std.proofs.Common.{◌≡◌, ℕ, ◌+◌, ◌-◌, ◌≤◌, List, [], ◌∷◌, ◌++◌, length, Option, Some, None, refl, sym, ◌∙◌}
use Rattle.std.proofs.Common.{ap, subst, append_assoc, append-nil, arith}
use Rattle.soy_base.specs.ByteLength.{byte_len}
use Rattle.soy_base.specs.Characters.{single_quote}
use Rattle.soy_tree.specs.MessageParts.{MsgPart, MsgParts, no_part}
use Rattle.soy_tree.specs.ViewMessageParts.{parts_of}
use Rattle.soy_rules.specs.IcuText as icu
use Rattle.soy_rules.specs.IcuText.{AtTop, Reads, with_text, IsPattern}
use Rattle.icu_text.specs.declared.parse.Outcome.{Outcome}
use Rattle.icu_text.specs.declared.parse.Outcome.TheVariants.{Done, Refused}
use Rattle.icu_text.specs.declared.state.Frame.{Frame}
use Rattle.icu_text.specs.PatternStates.{Expected}
use Rattle.icu_text.specs.PatternStates as expected
use Rattle.icu_text.specs.PatternStates.{PatternState}
use Rattle.icu_text.specs.BeginsPattern.{BeginsPattern}
use Rattle.icu_text.specs.ParsesMessage.{IsNoPattern}
use Rattle.icu_text.specs.PatternSteps.{finished, pattern_next, next_at, whole_at, whole_pattern}
use Rattle.icu_text.specs.PatternReading.{pattern_start, pattern_run, pattern_run_from, answer, read_on, reading}
use Rattle.icu_text.proofs.PatternRunning.{at, parsed, parsed_from, run_parsed, IsRun, parsed_run}
use Rattle.icu_text.proofs.ReadParts.{finished_end}
use Rattle.icu_text.proofs.PatternComplete.{pattern_parsed}
use Rattle.icu_text.proofs.PatternLeft.{TextLeft, Left, braces, Fits}
use Rattle.icu_text.proofs.PatternSound.{more_text}
use Rattle.icu_text.proofs.StepsSound as step
use Rattle.icu_text.proofs.PatternCloses.{closes}

none_some : {A : Type 0} {a : A} (B : Type 0) → None ≡ Some a → B
none_some B e = absurd (cc e)

-- a text that ends outside all braces

end_text : (n : ℕ) (out ps : List MsgPart) (t : List ℕ) → Some (finished ps t) ≡ Some out → TextLeft [] n out (ps, t) []
end_text n out ps t e = record {
  parts = no_part;
  rest = [];
  reads = icu.stop [];
  ends = (refl, sym (ap all e) ∙ finished_end ps t);
}
  where
    all : Option (List MsgPart) → MsgParts
    all None = no_part
    all (Some l) = parts_of l

ended : (fs : List Frame) (out : List MsgPart) (x : Expected) (n : ℕ) → whole_at x fs ≡ Some out → Left fs n out x []
ended [] out (expected.Text ps t expected.Unquoted) n e = end_text n out ps t e
ended [] out (expected.Text ps t expected.Apostrophe) n e =
    more_text (ps, t) (single_quote ∷ []) (single_quote ∷ []) []
    (λ qs rest r. icu.single [] rest qs (with_text (single_quote ∷ []) qs) refl refl r refl)
    (end_text n out ps (t ++ single_quote ∷ []) e)
ended [] out (expected.Text ps t expected.Quoted) n e = record {
  chars = [];
  after = [];
  quoted = icu.unclosed;
  left = subst (λ u. TextLeft [] n out (ps, u) []) (sym (append-nil t)) (end_text n out ps t e);
}
ended [] out (expected.Text ps t expected.QuotedApostrophe) n e = record {
  chars = [];
  after = [];
  quoted = icu.closed [] refl;
  left = subst (λ u. TextLeft [] n out (ps, u) []) (sym (append-nil t)) (end_text n out ps t e);
}
ended (f ∷ fs) out (expected.Text ps t q) n e = none_some _ e
ended fs out (expected.Name before) n e = none_some _ e
ended fs out (expected.NameCharacter before name) n e = none_some _ e
ended fs out (expected.NameEnd a) n e = none_some _ e
ended fs out (expected.Choice a) n e = none_some _ e
ended fs out (expected.ChoiceLetter a kind letters) n e = none_some _ e
ended fs out (expected.ChoiceEnd a kind) n e = none_some _ e
ended fs out (expected.Key p starts) n e = none_some _ e
ended fs out (expected.KeyAfterO p starts) n e = none_some _ e
ended fs out (expected.KeyLetter p key letters) n e = none_some _ e
ended fs out (expected.OffsetLetter p letters) n e = none_some _ e
ended fs out (expected.OffsetDigit p v) n e = none_some _ e
ended fs out (expected.ExactKey p) n e = none_some _ e
ended fs out (expected.NegativeKey p) n e = none_some _ e
ended fs out (expected.KeyDigit p minus v) n e = none_some _ e
ended fs out (expected.Word s) n e = none_some _ e
ended fs out (expected.WordCharacter s word) n e = none_some _ e
ended fs out (expected.WordEnd s word) n e = none_some _ e

-- what is read on may follow

module _ (cs : List ℕ) (out : List MsgPart)
    (hyp : (fs : List Frame) (x : Expected) (n : ℕ) → n + length fs ≡ braces x → Fits x → parsed cs (at fs x) ≡ Some out
    → Left fs n out x cs) where
  stepped : (fs : List Frame) (x : Expected) (n c : ℕ) → n + length fs ≡ braces x → Fits x
      → parsed_from (parsed cs) (next_at x fs c) ≡ Some out
      → Left fs n out x (c ∷ cs)
  stepped fs (expected.Text ps t expected.Unquoted) n c d f e = step.plain_step_left cs out hyp fs n ps t c d e
  stepped fs (expected.Text ps t expected.Apostrophe) n c d f e = step.apostrophe_left cs out hyp fs n ps t c d e
  stepped fs (expected.Text ps t expected.Quoted) n c d f e = step.quoted_left cs out hyp fs n ps t c d e
  stepped fs (expected.Text ps t expected.QuotedApostrophe) n c d f e =
      step.quoted_apostrophe_left cs out hyp fs n ps t c d e
  stepped fs (expected.Name before) n c d f e = step.name_left cs out hyp fs n before c d e
  stepped fs (expected.NameCharacter before name) n c d f e = step.name_character_left cs out hyp fs n before name c d e
  stepped fs (expected.NameEnd a) n c d f e = step.name_end_left cs out hyp fs n a c d e
  stepped fs (expected.Choice a) n c d f e = step.choice_left cs out hyp fs n a c d e
  stepped fs (expected.ChoiceLetter a kind letters) n c d f e =
      step.choice_letter_left cs out hyp fs n a kind letters c d e
  stepped fs (expected.ChoiceEnd a kind) n c d f e = step.kind_end_left cs out hyp fs n a kind c d e
  stepped fs (expected.Key p starts) n c d f e = step.key_left cs out hyp fs n p starts c d e
  stepped fs (expected.KeyAfterO p starts) n c d f e = step.key_after_o_left cs out hyp fs n p starts c d e
  stepped fs (expected.KeyLetter p key letters) n c d f e = step.key_letter_left cs out hyp fs n p key letters c d e
  stepped fs (expected.OffsetLetter p letters) n c d f e = step.offset_letter_left cs out hyp fs n p letters c d e
  stepped fs (expected.OffsetDigit p v) n c d f e = step.offset_digit_left cs out hyp fs n p v c d f e
  stepped fs (expected.ExactKey p) n c d f e = step.exact_key_left cs out hyp fs n p c d e
  stepped fs (expected.NegativeKey p) n c d f e = step.negative_left cs out hyp fs n p c d e
  stepped fs (expected.KeyDigit p minus v) n c d f e = step.key_digit_left cs out hyp fs n p minus v c d f e
  stepped fs (expected.Word s) n c d f e = step.word_step_left cs out hyp fs n s c d e
  stepped fs (expected.WordCharacter s word) n c d f e = step.word_character_left cs out hyp fs n s word c d e
  stepped fs (expected.WordEnd s word) n c d f e = step.word_end_left cs out hyp fs n s word c d e

sound : (text : List ℕ) (out : List MsgPart) (fs : List Frame) (x : Expected) (n : ℕ) → n + length fs ≡ braces x
    → Fits x → parsed text (at fs x) ≡ Some out → Left fs n out x text
sound [] out fs x n d f e = ended fs out x n e
sound (c ∷ cs) out fs x n d f e = stepped cs out (sound cs out) fs x n c d f e

-- so what is read to an end is a pattern
pub parsed_pattern : (text : List ℕ) (out : List MsgPart) → parsed text pattern_start ≡ Some out
    → IsPattern text (parts_of out)
parsed_pattern text out e =
    let l : TextLeft [] 64 out ([], []) text = sound text out [] (expected.Text [] [] expected.Unquoted) 64
    (omega arith) tt e in
    subst (λ q. Reads AtTop 64 text q []) (sym l.ends.1) (subst (λ r. Reads AtTop 64 text l.parts r) l.ends.0 l.reads)

-- what was read begins a pattern, and what begins one is read

run_begins : (text : List ℕ) (s : PatternState) → pattern_run text pattern_start ≡ Some s → BeginsPattern text
run_begins text s e =
    let c = closes s in
    record {
      more = c.more;
      parts = parts_of c.parts;
      is = parsed_pattern (text ++ c.more) c.parts (run_parsed text c.more pattern_start s e ∙ c.is);
    }

begins_run : (text : List ℕ) → BeginsPattern text → IsRun text pattern_start
begins_run text b = parsed_run text b.more pattern_start _ (pattern_parsed (text ++ b.more) b.parts b.is)

run_then : (us vs : List ℕ) (s to : PatternState) → pattern_run us s ≡ Some to
    → pattern_run (us ++ vs) s ≡ pattern_run vs to
run_then [] vs s to e = ap (pattern_run vs) (ap unwrap e)
  where
    unwrap : Option PatternState → PatternState
    unwrap None = s
    unwrap (Some x) = x
run_then (c ∷ us) vs s to e = over (pattern_next s c) e (λ m. run_then us vs m to)
  where
    over : (next : Option PatternState) → pattern_run_from (pattern_run us) next ≡ Some to
        → ((m : PatternState) → pattern_run us m ≡ Some to → pattern_run (us ++ vs) m ≡ pattern_run vs to)
        → pattern_run_from (pattern_run (us ++ vs)) next ≡ pattern_run vs to
    over None e inside = absurd (cc e)
    over (Some m) e inside = inside m e

bytes_append : (us vs : List ℕ) → byte_len (us ++ vs) ≡ byte_len us + byte_len vs
bytes_append [] vs = omega arith
bytes_append (c ∷ us) vs =
    let more : byte_len (us ++ vs) ≡ byte_len us + byte_len vs = bytes_append us vs in omega (arith, more)

-- what is read of a text, and what it says

abbrev pub Answers : List ℕ → Outcome → Type 0
Answers text (Done ps) = IsPattern text (parts_of ps)
Answers text (Refused left) = (left ≤ byte_len text) × IsNoPattern text (byte_len text - left)

refused : (us ts : List ℕ) (s : PatternState) → pattern_run us pattern_start ≡ Some s → parsed ts s ≡ None
    → Rattle.icu_text.specs.ParsesMessage.NoneGoesOn us ts
    → Answers (us ++ ts) (Refused (byte_len ts))
refused us ts s r none longest =
    let bytes : byte_len (us ++ ts) ≡ byte_len us + byte_len ts = bytes_append us ts in (
      omega (arith, bytes),
      record {
        none = λ ps p. none_some _ (sym none ∙
            (sym (run_parsed us ts pattern_start s r) ∙ pattern_parsed (us ++ ts) ps p));
        prefix = us;
        rest = ts;
        whole = refl;
        begins = run_begins us s r;
        longest = longest;
        offset_is = omega (arith, bytes);
      },
    )

means : (ts us : List ℕ) (s : PatternState) → pattern_run us pattern_start ≡ Some s → Answers (us ++ ts) (reading ts s)
means [] us s r = over (whole_pattern s) refl
  where
    over : (ps : Option (List MsgPart)) → whole_pattern s ≡ ps → Answers (us ++ []) (answer 0 ps)
    over None e = refused us [] s r e tt
    over (Some ps) e = parsed_pattern (us ++ []) ps (run_parsed us [] pattern_start s r ∙ e)
means (t ∷ ts) us s r = over (pattern_next s t) refl
    (λ m f. means ts (us ++ t ∷ []) m (run_then us (t ∷ []) pattern_start s r ∙ ap (pattern_run_from (λ n. Some n)) f))
  where
    stuck : pattern_next s t ≡ None → BeginsPattern (us ++ t ∷ []) → ⊥
    stuck e b =
        let i = begins_run (us ++ t ∷ []) b in
        none_some _ (sym (run_then us (t ∷ []) pattern_start s r ∙ ap (pattern_run_from (λ n. Some n)) e) ∙ i.is)

    over : (next : Option PatternState) → pattern_next s t ≡ next
        → ((m : PatternState) → pattern_next s t ≡ Some m → Answers ((us ++ t ∷ []) ++ ts) (reading ts m))
        → Answers (us ++ t ∷ ts) (read_on (byte_len (t ∷ ts)) (reading ts) next)
    over None e inside = refused us (t ∷ ts) s r (ap (parsed_from (parsed ts)) e) (stuck e)
    over (Some m) e inside = subst (λ text. Answers text (reading ts m)) (append_assoc us (t ∷ []) ts) (inside m e)

pub read-Answers : (text : List ℕ) (o : Outcome) → o ≡ reading text pattern_start → Answers text o
read-Answers text o e = subst (Answers text) (sym e) (means text [] pattern_start refl)
