-- What is read where a key of a plural is expected is what the machine reads there.
use Rattle.std.proofs.Common.{◌≡◌, ℕ, ◌-◌, ◌≤◌, ◌==◌, ◌&&◌, nat_le, Bool, true, false, List, [], ◌∷◌, length}
use Rattle.std.proofs.Common.{Some, None, Result, Ok, Err, refl, sym, ◌∙◌, ap, subst, arith, if◌then◌else◌}
use Rattle.std.specs.Prelude.{codes}
use Rattle.std.specs.Char.{is_ascii_digit}
use Rattle.plural_rules.specs.declared.category.Category.{Category}
use Rattle.plural_rules.specs.declared.category.Category.TheVariants as category
use Rattle.soy_base.specs.ByteLength.{byte_len}
use Rattle.soy_base.specs.Characters.{left_brace, right_brace, equals_sign, minus_sign}
use Rattle.soy_base.specs.Cuts.{after_while}
use Rattle.soy_base.specs.Limits.{largest}
use Rattle.soy_base.specs.WhiteSpace.{is_template_space}
use Rattle.icu_text.specs.declared.parse.Outcome.{Outcome}
use Rattle.icu_text.specs.declared.parse.Outcome.TheVariants.{Refused}
use Rattle.icu_text.specs.declared.state.ArmKey.{ArmKey}
use Rattle.icu_text.specs.declared.state.ArmKey.TheVariants as arm_key
use Rattle.icu_text.specs.declared.state.OpenPlural.{OpenPlural}
use Rattle.icu_text.specs.declared.state.Frame.{Frame}
use Rattle.icu_text.specs.declared.state.Frame.TheVariants as frame
use Rattle.icu_text.specs.PatternStates as expected
use Rattle.icu_text.specs.PatternStates.{PatternState}
use Rattle.icu_text.specs.PatternSteps.{more_digits, pattern_next, plural_end, signed, with_offset}
use Rattle.icu_text.specs.PatternReading.{read_on, reading}
use Rattle.icu_text.specs.Heads.{letters_read}
use Rattle.icu_text.specs.Keys.{digits_read, number_read, ReadKey, ArmRead, PluralEnd, StuckKey, arm_read, key_end_read}
use Rattle.icu_text.specs.Keys.{keyword_read, exact_key_read, exact_read, key_after_o_read, keyword_at, key_at}
use Rattle.icu_text.specs.Keys.{key_read}
use Rattle.icu_text.specs.Keys.{ReadFirstKey, OffsetRead, KeyRead, after_f_read, first_after_o_read, first_key_at}
use Rattle.icu_text.specs.Keys.{first_key_read}
use Rattle.icu_text.proofs.CharacterTests.{equal_or, holds_or}
use Rattle.icu_text.proofs.PatternRunning.{at, in_text}
use Rattle.icu_text.proofs.PieceRuns.{steps_on, stuck_at, Stops, stops, after_within, past_space, past_letters}
use Rattle.icu_text.proofs.PieceRuns.{letters_on, letters_within, Within}

-- digits

abbrev pub DigitsAgree : (ℕ → PatternState) → Outcome → ℕ → Result (ℕ × List ℕ) (List ℕ) → Type 0
DigitsAgree s o n (Ok p) = (o ≡ reading p.1 (s p.0)) × Stops is_ascii_digit p.1 × (length p.1 ≤ n)
DigitsAgree s o n (Err rest) = o ≡ Refused (byte_len rest)

pub digits_moved : (s : ℕ → PatternState) (o to : Outcome) (n m : ℕ) → o ≡ to → m ≤ n
    → (r : Result (ℕ × List ℕ) (List ℕ)) → DigitsAgree s to m r → DigitsAgree s o n r
digits_moved s o to n m e w (Ok p) a = let b = a.2 in (e ∙ a.0, a.1, omega (arith, w, b))
digits_moved s o to n m e w (Err rest) a = e ∙ a

abbrev more_read : ℕ → ℕ → List ℕ → Result (ℕ × List ℕ) (List ℕ)
more_read n c cs = if nat_le (more_digits n c) largest then digits_read (more_digits n c) cs else Err (c ∷ cs)

pub digits_agree : (s : ℕ → PatternState)
    → ((n c : ℕ) → is_ascii_digit c ≡ true → pattern_next (s n) c
    ≡ (if nat_le (more_digits n c) largest then Some (s (more_digits n c)) else None))
    → (n : ℕ) (cs : List ℕ) → DigitsAgree s (reading cs (s n)) (length cs) (digits_read n cs)
digits_agree s next n [] = (refl, tt, omega arith)
digits_agree s next n (c ∷ cs) =
    holds_or (DigitsAgree s (reading (c ∷ cs) (s n)) (length (c ∷ cs)) (digits_read n (c ∷ cs))) (is_ascii_digit c)
    (λ h. subst (DigitsAgree s (reading (c ∷ cs) (s n)) (length (c ∷ cs)))
    (sym (ap (λ t. if t then more_read n c cs else Ok (n, c ∷ cs)) h))
    (within h (digits_agree s next (more_digits n c) cs)))
    (λ h. subst (DigitsAgree s (reading (c ∷ cs) (s n)) (length (c ∷ cs)))
    (sym (ap (λ t. if t then more_read n c cs else Ok (n, c ∷ cs)) h)) (refl, h, omega arith))
  where
    within : is_ascii_digit c ≡ true
        → DigitsAgree s (reading cs (s (more_digits n c))) (length cs) (digits_read (more_digits n c) cs)
        → DigitsAgree s (reading (c ∷ cs) (s n)) (length (c ∷ cs)) (more_read n c cs)
    within h inside =
        holds_or (DigitsAgree s (reading (c ∷ cs) (s n)) (length (c ∷ cs)) (more_read n c cs))
        (nat_le (more_digits n c) largest)
        (λ g. subst (DigitsAgree s (reading (c ∷ cs) (s n)) (length (c ∷ cs)))
        (sym (ap (λ t. if t then digits_read (more_digits n c) cs else Err (c ∷ cs)) g))
        (digits_moved s _ _ _ _ (steps_on c cs (s n) (s (more_digits n c))
        (next n c h ∙ ap (λ t. if t then Some (s (more_digits n c)) else None) g)) (omega arith)
        (digits_read (more_digits n c) cs) inside))
        (λ g. subst (DigitsAgree s (reading (c ∷ cs) (s n)) (length (c ∷ cs)))
        (sym (ap (λ t. if t then digits_read (more_digits n c) cs else Err (c ∷ cs)) g))
        (stuck_at c cs (s n) (next n c h ∙ ap (λ t. if t then Some (s (more_digits n c)) else None) g)))

pub number_agrees : (s : ℕ → PatternState)
    → ((n c : ℕ) → is_ascii_digit c ≡ true → pattern_next (s n) c
    ≡ (if nat_le (more_digits n c) largest then Some (s (more_digits n c)) else None))
    → (from : PatternState) (c : ℕ) (cs : List ℕ)
    → pattern_next from c ≡ (if is_ascii_digit c then Some (s (c - 48)) else None)
    → DigitsAgree s (reading (c ∷ cs) from) (length (c ∷ cs)) (number_read (c ∷ cs))
number_agrees s next from c cs e =
    holds_or (DigitsAgree s (reading (c ∷ cs) from) (length (c ∷ cs)) (number_read (c ∷ cs))) (is_ascii_digit c)
    (λ h. subst (DigitsAgree s (reading (c ∷ cs) from) (length (c ∷ cs)))
    (sym (ap (λ t. if t then digits_read (c - 48) cs else Err (c ∷ cs)) h))
    (digits_moved s _ _ _ _ (steps_on c cs from (s (c - 48))
    (e ∙ ap (λ t. if t then Some (s (c - 48)) else None) h)) (omega arith) (digits_read (c - 48) cs)
    (digits_agree s next (c - 48) cs)))
    (λ h. subst (DigitsAgree s (reading (c ∷ cs) from) (length (c ∷ cs)))
    (sym (ap (λ t. if t then digits_read (c - 48) cs else Err (c ∷ cs)) h))
    (stuck_at c cs from (e ∙ ap (λ t. if t then Some (s (c - 48)) else None) h)))

-- keys

abbrev pub KeyAgrees : Outcome → ℕ → List Frame → OpenPlural → ReadKey → Type 0
KeyAgrees o n fs p (ArmRead k rest) =
    (o ≡ reading rest (in_text (frame.Plural p k ∷ fs) ([], []))) × (length rest ≤ n)
KeyAgrees o n fs p (PluralEnd text rest) =
    (o ≡ read_on (byte_len text) (reading rest) (plural_end fs p)) × (length rest ≤ n)
KeyAgrees o n fs p (StuckKey rest) = o ≡ Refused (byte_len rest)

abbrev pub FirstKeyAgrees : Outcome → ℕ → List Frame → OpenPlural → ReadFirstKey → Type 0
FirstKeyAgrees o n fs p (OffsetRead rest) =
    (o ≡ reading rest (at fs (expected.OffsetLetter p []))) × (length rest ≤ n)
FirstKeyAgrees o n fs p (KeyRead k) = KeyAgrees o n fs p k

-- no offset begins after an `o`
abbrev pub NoOffset : Bool → List ℕ → Type 0
NoOffset starts [] = Unit {0}
NoOffset starts (c ∷ cs) = ((c == 102) && starts) ≡ false

pub none_starts : (cs : List ℕ) → NoOffset false cs
none_starts [] = tt
none_starts (c ∷ cs) = none (c == 102)
  where
    none : (t : Bool) → (t && false) ≡ false
    none true = refl
    none false = refl

module _ (fs : List Frame) (p : OpenPlural) where
  pub key_moved : (o to : Outcome) (n m : ℕ) → o ≡ to → m ≤ n → (h : ReadKey) → KeyAgrees to m fs p h
      → KeyAgrees o n fs p h
  key_moved o to n m e w (ArmRead k rest) a = let b = a.1 in (e ∙ a.0, omega (arith, w, b))
  key_moved o to n m e w (PluralEnd text rest) a = let b = a.1 in (e ∙ a.0, omega (arith, w, b))
  key_moved o to n m e w (StuckKey rest) a = e ∙ a

  pub first_key_moved : (o to : Outcome) (n m : ℕ) → o ≡ to → m ≤ n → (h : ReadFirstKey)
      → FirstKeyAgrees to m fs p h → FirstKeyAgrees o n fs p h
  first_key_moved o to n m e w (OffsetRead rest) a = let b = a.1 in (e ∙ a.0, omega (arith, w, b))
  first_key_moved o to n m e w (KeyRead k) a = key_moved o to n m e w k a

  abbrev Reads : List ℕ → PatternState → ReadKey → Type 0
  Reads cs s h = KeyAgrees (reading cs s) (length cs) fs p h

  abbrev ReadsFirst : List ℕ → PatternState → ReadFirstKey → Type 0
  ReadsFirst cs s h = FirstKeyAgrees (reading cs s) (length cs) fs p h

  arm_agrees : (k : ArmKey) (cs : List ℕ) → Stops is_template_space cs
      → Reads cs (at fs (expected.KeyLetter p k [])) (arm_read k cs)
  arm_agrees k [] e = refl
  arm_agrees k (c ∷ cs) e =
      holds_or _ (c == left_brace) (λ h. rw (e, h) (refl, omega arith)) (λ h. rw (e, h) refl)

  key_end_agrees : (k : ArmKey) (cs : List ℕ) → Reads cs (at fs (expected.KeyLetter p k [])) (key_end_read k cs)
  key_end_agrees k cs =
      key_moved _ _ _ _ (past_space (at fs (expected.KeyLetter p k [])) (λ c w. rw w refl) cs)
      (after_within is_template_space cs) (key_end_read k cs)
      (arm_agrees k (after_while is_template_space cs) (stops is_template_space cs))

  keyword_agrees : (c : Category) (ls cs : List ℕ)
      → Reads cs (at fs (expected.KeyLetter p (arm_key.Named c) ls)) (keyword_read c (letters_read ls cs))
  keyword_agrees c ls cs =
      over (letters_read ls cs)
      (letters_on (λ l. at fs (expected.KeyLetter p (arm_key.Named c) l)) (λ l ls c. refl) (λ ls. refl) ls cs)
      (letters_within ls cs)
    where
      over : (r : Result (List ℕ) (List ℕ)) → reading cs (at fs (expected.KeyLetter p (arm_key.Named c) ls))
          ≡ past_letters (λ l. at fs (expected.KeyLetter p (arm_key.Named c) l)) r
          → Within (length cs) r
          → Reads cs (at fs (expected.KeyLetter p (arm_key.Named c) ls)) (keyword_read c r)
      over (Ok rest) e w =
          key_moved _ _ _ _ e w (key_end_read (arm_key.Named c) rest) (key_end_agrees (arm_key.Named c) rest)
      over (Err rest) e w = e

  digits_over : (negative : Bool) (n : ℕ) (cs : List ℕ) → Stops is_ascii_digit cs
      → reading cs (at fs (expected.KeyDigit p negative n))
      ≡ reading cs (at fs (expected.KeyLetter p (arm_key.Exact (signed negative n)) []))
  digits_over negative n [] e = refl
  digits_over negative n (c ∷ cs) e = rw e refl

  exact_key_agrees : (negative : Bool) (o : Outcome) (n : ℕ) (r : Result (ℕ × List ℕ) (List ℕ))
      → DigitsAgree (λ m. at fs (expected.KeyDigit p negative m)) o n r
      → KeyAgrees o n fs p (exact_key_read negative r)
  exact_key_agrees negative o n (Ok q) a =
      key_moved _ _ _ _ (a.0 ∙ digits_over negative q.0 q.1 a.1) a.2
      (key_end_read (arm_key.Exact (signed negative q.0)) q.1)
      (key_end_agrees (arm_key.Exact (signed negative q.0)) q.1)
  exact_key_agrees negative o n (Err rest) a = a

  key_digit : (negative : Bool) (n c : ℕ) → is_ascii_digit c ≡ true
      → pattern_next (at fs (expected.KeyDigit p negative n)) c
      ≡ (if nat_le (more_digits n c) largest then Some (at fs (expected.KeyDigit p negative (more_digits n c)))
      else None)
  key_digit negative n c h = rw h refl

  negative_agrees : (cs : List ℕ) → Reads cs (at fs (expected.NegativeKey p)) (exact_key_read true (number_read cs))
  negative_agrees [] = refl
  negative_agrees (c ∷ cs) =
      exact_key_agrees true _ _ (number_read (c ∷ cs))
      (number_agrees (λ m. at fs (expected.KeyDigit p true m)) (key_digit true) (at fs (expected.NegativeKey p)) c cs
      refl)

  exact_agrees : (cs : List ℕ) → Stops is_template_space cs → Reads cs (at fs (expected.ExactKey p)) (exact_read cs)
  exact_agrees [] e = refl
  exact_agrees (c ∷ cs) e =
      equal_or (λ d. Stops is_template_space (d ∷ cs)
      → Reads (d ∷ cs) (at fs (expected.ExactKey p)) (exact_read (d ∷ cs)))
      c minus_sign
      (λ e. key_moved _ _ _ _ refl (omega arith) (exact_key_read true (number_read cs)) (negative_agrees cs))
      (λ h. λ e. subst (Reads (c ∷ cs) (at fs (expected.ExactKey p)))
      (sym (ap (λ t. if t then exact_key_read true (number_read cs)
      else exact_key_read false (number_read (c ∷ cs))) h))
      (exact_key_agrees false _ _ (number_read (c ∷ cs))
      (number_agrees (λ m. at fs (expected.KeyDigit p false m)) (key_digit false) (at fs (expected.ExactKey p)) c cs
      (rw (e, h) refl)))) e

  key_after_o_agrees : (starts : Bool) (cs : List ℕ) → NoOffset starts cs
      → Reads cs (at fs (expected.KeyAfterO p starts)) (key_after_o_read cs)
  key_after_o_agrees starts [] free = refl
  key_after_o_agrees starts (c ∷ cs) free =
      equal_or (λ d. NoOffset starts (d ∷ cs)
      → Reads (d ∷ cs) (at fs (expected.KeyAfterO p starts)) (key_after_o_read (d ∷ cs))) c 110
      (λ free. key_moved _ _ _ _ refl (omega arith) (keyword_read category.One (letters_read (codes "e") cs))
      (keyword_agrees category.One (codes "e") cs))
      (λ f. equal_or (λ d. NoOffset starts (d ∷ cs)
      → Reads (d ∷ cs) (at fs (expected.KeyAfterO p starts)) (key_after_o_read (d ∷ cs))) c 116
      (λ free. key_moved _ _ _ _ refl (omega arith) (keyword_read category.Other (letters_read (codes "her") cs))
      (keyword_agrees category.Other (codes "her") cs))
      (λ g. λ free. rw (f, g, free) refl)) free

  abbrev Keyword : Bool → List ℕ → ℕ → Type 0
  Keyword starts cs d =
      is_template_space d ≡ false → (d == equals_sign) ≡ false → (d == right_brace) ≡ false → (d == 111) ≡ false
      → Reads (d ∷ cs) (at fs (expected.Key p starts)) (keyword_at (d ∷ cs) d cs)

  keyword_at_agrees : (starts : Bool) (c : ℕ) (cs : List ℕ) → Keyword starts cs c
  keyword_at_agrees starts c cs =
      equal_or (Keyword starts cs) c 122
      (λ s e b o. key_moved _ _ _ _ refl (omega arith) (keyword_read category.Zero (letters_read (codes "ero") cs))
      (keyword_agrees category.Zero (codes "ero") cs))
      (λ z. equal_or (Keyword starts cs) c 116
      (λ s e b o. key_moved _ _ _ _ refl (omega arith) (keyword_read category.Two (letters_read (codes "wo") cs))
      (keyword_agrees category.Two (codes "wo") cs))
      (λ t. equal_or (Keyword starts cs) c 102
      (λ s e b o. key_moved _ _ _ _ refl (omega arith) (keyword_read category.Few (letters_read (codes "ew") cs))
      (keyword_agrees category.Few (codes "ew") cs))
      (λ f. equal_or (Keyword starts cs) c 109
      (λ s e b o. key_moved _ _ _ _ refl (omega arith) (keyword_read category.Many (letters_read (codes "any") cs))
      (keyword_agrees category.Many (codes "any") cs))
      (λ m. λ s e b o. rw (s, e, b, o, z, t, f, m) refl))))

  -- the key that stands at a character, where no offset begins there
  abbrev KeyAt : Bool → List ℕ → ℕ → Type 0
  KeyAt starts cs d =
      is_template_space d ≡ false → ((d == 111) ≡ true → NoOffset starts cs)
      → Reads (d ∷ cs) (at fs (expected.Key p starts)) (key_at (d ∷ cs))

  key_at_keyword : (c : ℕ) (cs : List ℕ) → (c == equals_sign) ≡ false → (c == right_brace) ≡ false
      → (c == 111) ≡ false → keyword_at (c ∷ cs) c cs ≡ key_at (c ∷ cs)
  key_at_keyword c cs e b o = rw (e, b, o) refl

  key_at_agrees : (starts : Bool) (c : ℕ) (cs : List ℕ) → KeyAt starts cs c
  key_at_agrees starts c cs =
      equal_or (KeyAt starts cs) c equals_sign
      (λ s free. let within = after_within is_template_space cs in
      key_moved _ _ _ _ (past_space (at fs (expected.ExactKey p)) (λ c w. rw w refl) cs) (omega (arith, within))
      (exact_read (after_while is_template_space cs))
      (exact_agrees (after_while is_template_space cs) (stops is_template_space cs)))
      (λ e. equal_or (KeyAt starts cs) c right_brace (λ s free. (refl, omega arith))
      (λ b. equal_or (KeyAt starts cs) c 111
      (λ s free. key_moved _ _ _ _ refl (omega arith) (key_after_o_read cs) (key_after_o_agrees starts cs (free refl)))
      (λ o. λ s free. subst (Reads (c ∷ cs) (at fs (expected.Key p starts))) (key_at_keyword c cs e b o)
      (keyword_at_agrees starts c cs s e b o))))

  key_stopped : (cs : List ℕ) → Stops is_template_space cs → Reads cs (at fs (expected.Key p false)) (key_at cs)
  key_stopped [] s = refl
  key_stopped (c ∷ cs) s = key_at_agrees false c cs s (λ o. none_starts cs)

  pub key_agrees : (cs : List ℕ) → Reads cs (at fs (expected.Key p false)) (key_read cs)
  key_agrees cs =
      key_moved _ _ _ _ (past_space (at fs (expected.Key p false)) (λ c w. rw w refl) cs)
      (after_within is_template_space cs) (key_read cs)
      (key_stopped (after_while is_template_space cs) (stops is_template_space cs))

  -- the first key, or an offset

  offset_word_agrees : (ls cs : List ℕ)
      → ReadsFirst cs (at fs (expected.OffsetLetter p ls)) (after_f_read (letters_read ls cs))
  offset_word_agrees ls cs =
      over (letters_read ls cs)
      (letters_on (λ l. at fs (expected.OffsetLetter p l)) (λ l ls c. refl) (λ ls. refl) ls cs)
      (letters_within ls cs)
    where
      over : (r : Result (List ℕ) (List ℕ)) → reading cs (at fs (expected.OffsetLetter p ls))
          ≡ past_letters (λ l. at fs (expected.OffsetLetter p l)) r
          → Within (length cs) r → ReadsFirst cs (at fs (expected.OffsetLetter p ls)) (after_f_read r)
      over (Ok rest) e w = (e, w)
      over (Err rest) e w = e

  first_after_o_agrees : (cs : List ℕ)
      → ReadsFirst cs (at fs (expected.KeyAfterO p true)) (first_after_o_read cs)
  first_after_o_agrees [] = refl
  first_after_o_agrees (c ∷ cs) =
      equal_or (λ d. ReadsFirst (d ∷ cs) (at fs (expected.KeyAfterO p true)) (first_after_o_read (d ∷ cs))) c 102
      (first_key_moved _ _ _ _ refl (omega arith) (after_f_read (letters_read (codes "fset:") cs))
      (offset_word_agrees (codes "fset:") cs))
      (λ h. subst (ReadsFirst (c ∷ cs) (at fs (expected.KeyAfterO p true)))
      (sym (ap (λ t. if t then after_f_read (letters_read (codes "fset:") cs)
      else KeyRead (key_after_o_read (c ∷ cs))) h))
      (key_after_o_agrees true (c ∷ cs) (rw h refl)))

  first_key_stopped : (cs : List ℕ) → Stops is_template_space cs
      → ReadsFirst cs (at fs (expected.Key p true)) (first_key_at cs)
  first_key_stopped [] s = refl
  first_key_stopped (c ∷ cs) s =
      equal_or (λ d. is_template_space d ≡ false
      → ReadsFirst (d ∷ cs) (at fs (expected.Key p true)) (first_key_at (d ∷ cs))) c 111
      (λ s. first_key_moved _ _ _ _ refl (omega arith) (first_after_o_read cs) (first_after_o_agrees cs))
      (λ h. λ s. subst (ReadsFirst (c ∷ cs) (at fs (expected.Key p true)))
      (sym (ap (λ t. if t then first_after_o_read cs else KeyRead (key_at (c ∷ cs))) h))
      (key_at_agrees true c cs s (λ o. absurd (cc (o, h))))) s

  pub first_key_agrees : (cs : List ℕ) → ReadsFirst cs (at fs (expected.Key p true)) (first_key_read cs)
  first_key_agrees cs =
      first_key_moved _ _ _ _ (past_space (at fs (expected.Key p true)) (λ c w. rw w refl) cs)
      (after_within is_template_space cs) (first_key_read cs)
      (first_key_stopped (after_while is_template_space cs) (stops is_template_space cs))

  -- the number of an offset

  offset_digit : (n c : ℕ) → is_ascii_digit c ≡ true
      → pattern_next (at fs (expected.OffsetDigit p n)) c
      ≡ (if nat_le (more_digits n c) largest then Some (at fs (expected.OffsetDigit p (more_digits n c))) else None)
  offset_digit n c h = rw h refl

  pub offset_over : (n : ℕ) (cs : List ℕ) → Stops is_ascii_digit cs
      → reading cs (at fs (expected.OffsetDigit p n)) ≡ reading cs (at fs (expected.Key (with_offset p n) false))
  offset_over n [] e = refl
  offset_over n (c ∷ cs) e = rw e refl

  offset_stopped : (cs : List ℕ) → Stops is_template_space cs
      → DigitsAgree (λ m. at fs (expected.OffsetDigit p m)) (reading cs (at fs (expected.OffsetLetter p [])))
      (length cs) (number_read cs)
  offset_stopped [] s = refl
  offset_stopped (c ∷ cs) s =
      number_agrees (λ m. at fs (expected.OffsetDigit p m)) offset_digit (at fs (expected.OffsetLetter p [])) c cs
      (rw s refl)

  pub offset_agrees : (cs : List ℕ)
      → DigitsAgree (λ m. at fs (expected.OffsetDigit p m)) (reading cs (at fs (expected.OffsetLetter p [])))
      (length cs) (number_read (after_while is_template_space cs))
  offset_agrees cs =
      digits_moved (λ m. at fs (expected.OffsetDigit p m)) _ _ _ _
      (past_space (at fs (expected.OffsetLetter p [])) (λ c w. rw w refl) cs)
      (after_within is_template_space cs) (number_read (after_while is_template_space cs))
      (offset_stopped (after_while is_template_space cs) (stops is_template_space cs))
