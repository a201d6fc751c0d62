-- What is read where a word of a select is expected is what the machine reads there.
use Rattle.std.proofs.Common.{◌≡◌, ℕ, ◌≤◌, ◌==◌, true, false, List, [], ◌∷◌, length}
use Rattle.std.proofs.Common.{refl, sym, ◌∙◌, ap, subst, arith, if◌then◌else◌}
use Rattle.soy_base.specs.ByteLength.{byte_len}
use Rattle.soy_base.specs.Characters.{left_brace, right_brace}
use Rattle.soy_base.specs.Cuts.{after_while, prefix_while}
use Rattle.soy_base.specs.WhiteSpace.{is_template_space}
use Rattle.soy_tree.specs.Formed.{is_word_character}
use Rattle.icu_text.specs.declared.parse.Outcome.{Outcome}
use Rattle.icu_text.specs.declared.parse.Outcome.TheVariants.{Refused}
use Rattle.icu_text.specs.declared.state.OpenSelect.{OpenSelect}
use Rattle.icu_text.specs.declared.state.Frame.{Frame}
use Rattle.icu_text.specs.declared.state.Frame.TheVariants as frame
use Rattle.icu_text.specs.PatternStates as expected
use Rattle.icu_text.specs.PatternStates.{PatternState}
use Rattle.icu_text.specs.PatternSteps.{select_end}
use Rattle.icu_text.specs.PatternReading.{read_on, reading}
use Rattle.icu_text.specs.Words.{ReadWord, WordRead, SelectEnd, StuckWord, word_at, word_end_read, word_from, word_read}
use Rattle.icu_text.proofs.CharacterTests.{equal_or, holds_or}
use Rattle.icu_text.proofs.PatternRunning.{at, in_text}
use Rattle.icu_text.proofs.PieceRuns.{steps_on, Stops, stops, after_within, past_space, past_run}

abbrev pub WordAgrees : Outcome → ℕ → List Frame → OpenSelect → ReadWord → Type 0
WordAgrees o n fs s (WordRead w rest) =
    (o ≡ reading rest (in_text (frame.Select s w ∷ fs) ([], []))) × (length rest ≤ n)
WordAgrees o n fs s (SelectEnd text rest) =
    (o ≡ read_on (byte_len text) (reading rest) (select_end fs s)) × (length rest ≤ n)
WordAgrees o n fs s (StuckWord rest) = o ≡ Refused (byte_len rest)

module _ (fs : List Frame) (s : OpenSelect) where
  pub word_moved : (o to : Outcome) (n m : ℕ) → o ≡ to → m ≤ n → (h : ReadWord) → WordAgrees to m fs s h
      → WordAgrees o n fs s h
  word_moved o to n m e w (WordRead word rest) a = let b = a.1 in (e ∙ a.0, omega (arith, w, b))
  word_moved o to n m e w (SelectEnd text rest) a = let b = a.1 in (e ∙ a.0, omega (arith, w, b))
  word_moved o to n m e w (StuckWord rest) a = e ∙ a

  abbrev Reads : List ℕ → PatternState → ReadWord → Type 0
  Reads cs at' h = WordAgrees (reading cs at') (length cs) fs s h

  word_end_agrees : (w cs : List ℕ) → Stops is_template_space cs
      → Reads cs (at fs (expected.WordEnd s w)) (word_end_read w cs)
  word_end_agrees w [] e = refl
  word_end_agrees w (c ∷ cs) e =
      holds_or _ (c == left_brace) (λ h. rw (e, h) (refl, omega arith)) (λ h. rw (e, h) refl)

  word_over : (w cs : List ℕ) → Stops is_word_character cs
      → reading cs (at fs (expected.WordCharacter s w)) ≡ reading cs (at fs (expected.WordEnd s w))
  word_over w [] e = refl
  word_over w (c ∷ cs) e = rw e refl

  word_begun : (c : ℕ) (cs : List ℕ) → is_template_space c ≡ false → (c == right_brace) ≡ false
      → is_word_character c ≡ true
      → reading (c ∷ cs) (at fs (expected.Word s)) ≡ reading (c ∷ cs) (at fs (expected.WordCharacter s []))
  word_begun c cs e g h =
      steps_on c cs (at fs (expected.Word s)) (at fs (expected.WordCharacter s (c ∷ []))) (rw (e, g, h) refl)
      ∙ sym (steps_on c cs (at fs (expected.WordCharacter s []))
      (at fs (expected.WordCharacter s (c ∷ []))) (rw h refl))

  word_read_agrees : (cs w rest : List ℕ) → Stops is_word_character rest → length rest ≤ length cs
      → reading cs (at fs (expected.Word s)) ≡ reading rest (at fs (expected.WordCharacter s w))
      → Reads cs (at fs (expected.Word s)) (word_end_read w (after_while is_template_space rest))
  word_read_agrees cs w rest e within' same =
      let within = after_within is_template_space rest in
      word_moved _ _ _ _ (same ∙ (word_over w rest e
      ∙ past_space (at fs (expected.WordEnd s w)) (λ c w. rw w refl) rest))
      (omega (arith, within', within)) (word_end_read w (after_while is_template_space rest))
      (word_end_agrees w (after_while is_template_space rest) (stops is_template_space rest))

  word_at_agrees : (cs : List ℕ) → Stops is_template_space cs → Reads cs (at fs (expected.Word s)) (word_at cs)
  word_at_agrees [] e = refl
  word_at_agrees (c ∷ cs) e =
      equal_or (λ d. Stops is_template_space (d ∷ cs) → Reads (d ∷ cs) (at fs (expected.Word s)) (word_at (d ∷ cs)))
      c right_brace (λ e. (refl, omega arith))
      (λ g. λ e. subst (Reads (c ∷ cs) (at fs (expected.Word s)))
      (sym (ap (λ t. if t then SelectEnd (c ∷ cs) cs else word_from c (c ∷ cs)) g))
      (word_or c cs e g)) e
    where
      word_or : (c : ℕ) (cs : List ℕ) → is_template_space c ≡ false → (c == right_brace) ≡ false
          → Reads (c ∷ cs) (at fs (expected.Word s)) (word_from c (c ∷ cs))
      word_or c cs e g =
          holds_or _ (is_word_character c)
          (λ h. subst (λ t. Reads (c ∷ cs) (at fs (expected.Word s)) (if t
          then word_end_read (prefix_while is_word_character (c ∷ cs))
          (after_while is_template_space (after_while is_word_character (c ∷ cs)))
          else StuckWord (c ∷ cs))) (sym h)
          (word_read_agrees (c ∷ cs) (prefix_while is_word_character (c ∷ cs))
          (after_while is_word_character (c ∷ cs))
          (stops is_word_character (c ∷ cs)) (after_within is_word_character (c ∷ cs))
          (word_begun c cs e g h ∙ past_run is_word_character (λ t. at fs (expected.WordCharacter s t))
          (λ t c f. rw f refl) [] (c ∷ cs))))
          (λ h. rw (e, g, h) refl)

  pub word_agrees : (cs : List ℕ) → Reads cs (at fs (expected.Word s)) (word_read cs)
  word_agrees cs =
      word_moved _ _ _ _ (past_space (at fs (expected.Word s)) (λ c w. rw w refl) cs)
      (after_within is_template_space cs) (word_read cs)
      (word_at_agrees (after_while is_template_space cs) (stops is_template_space cs))
