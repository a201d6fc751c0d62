-- What is read after a brace is what the machine reads there.
use Rattle.std.proofs.Common.{◌≡◌, ℕ, ◌≤◌, ◌==◌, true, false, List, [], ◌∷◌, ◌++◌, length}
use Rattle.std.proofs.Common.{Result, Ok, Err, refl, sym, ◌∙◌, subst, arith, if◌then◌else◌}
use Rattle.std.specs.Prelude.{codes}
use Rattle.soy_base.specs.ByteLength.{byte_len}
use Rattle.soy_base.specs.Characters.{right_brace, comma}
use Rattle.soy_base.specs.Cuts.{after_while, prefix_while}
use Rattle.soy_base.specs.Names.{begins_name, continues_name}
use Rattle.soy_base.specs.WhiteSpace.{is_template_space}
use Rattle.soy_tree.specs.MessageParts.{MsgPart, Placeholder}
use Rattle.icu_text.specs.declared.parse.Outcome.{Outcome}
use Rattle.icu_text.specs.declared.parse.Outcome.TheVariants.{Refused}
use Rattle.icu_text.specs.declared.state.ChoiceKind.{ChoiceKind}
use Rattle.icu_text.specs.declared.state.ChoiceKind.TheVariants as choice
use Rattle.icu_text.specs.declared.state.Frame.{Frame}
use Rattle.icu_text.specs.PatternStates as expected
use Rattle.icu_text.specs.PatternStates.{Argument, PatternState}
use Rattle.icu_text.specs.PatternSteps.{opened}
use Rattle.icu_text.specs.PatternReading.{reading}
use Rattle.icu_text.specs.Heads.{ReadHead, PlaceholderHead, ChoiceHead, StuckHead, letters_read, comma_read}
use Rattle.icu_text.specs.Heads.{kind_end_read, kind_read, select_read, select_word_read, choice_read, name_end_read}
use Rattle.icu_text.specs.Heads.{name_read, head_read}
use Rattle.icu_text.proofs.CharacterTests.{equal_or, holds_or}
use Rattle.icu_text.proofs.PatternRunning.{at, in_text}
use Rattle.icu_text.proofs.PieceRuns.{steps_on, Stops, stops, after_within, past_space, past_run, past_letters}
use Rattle.icu_text.proofs.PieceRuns.{letters_on, letters_within, Within}

-- a text of so many characters means what follows what was read of it
abbrev pub HeadAgrees : Outcome → ℕ → List Frame → List MsgPart → ReadHead → Type 0
HeadAgrees o n fs before (PlaceholderHead name rest) =
    (o ≡ reading rest (in_text fs (before ++ Placeholder name ∷ [], []))) × (length rest ≤ n)
HeadAgrees o n fs before (ChoiceHead kind name rest) =
    (o ≡ reading rest (at fs (opened (record { before = before; name = name }) kind))) × (length rest ≤ n)
HeadAgrees o n fs before (StuckHead rest) = o ≡ Refused (byte_len rest)

module _ (fs : List Frame) (before : List MsgPart) where
  moved : (o to : Outcome) (n m : ℕ) → o ≡ to → m ≤ n → (h : ReadHead) → HeadAgrees to m fs before h
      → HeadAgrees o n fs before h
  moved o to n m e w (PlaceholderHead name rest) a = let b = a.1 in (e ∙ a.0, omega (arith, w, b))
  moved o to n m e w (ChoiceHead kind name rest) a = let b = a.1 in (e ∙ a.0, omega (arith, w, b))
  moved o to n m e w (StuckHead rest) a = e ∙ a

  abbrev named : List ℕ → Argument
  named name = record { before = before; name = name }

  abbrev Reads : List ℕ → PatternState → ReadHead → Type 0
  Reads cs s h = HeadAgrees (reading cs s) (length cs) fs before h

  comma_agrees : (kind : ChoiceKind) (name cs : List ℕ) → Stops is_template_space cs
      → Reads cs (at fs (expected.ChoiceEnd (named name) kind)) (comma_read kind name cs)
  comma_agrees kind name [] s = refl
  comma_agrees kind name (c ∷ cs) s =
      holds_or _ (c == comma) (λ h. rw (s, h) (refl, omega arith)) (λ h. rw (s, h) refl)

  kind_end_agrees : (kind : ChoiceKind) (name cs : List ℕ)
      → Reads cs (at fs (expected.ChoiceEnd (named name) kind)) (kind_end_read kind name cs)
  kind_end_agrees kind name cs =
      moved _ _ _ _ (past_space (at fs (expected.ChoiceEnd (named name) kind)) (λ c w. rw w refl) cs)
      (after_within is_template_space cs) (kind_end_read kind name cs)
      (comma_agrees kind name (after_while is_template_space cs) (stops is_template_space cs))

  letters_end : (kind : ChoiceKind) (name ls cs : List ℕ)
      → ((rest : List ℕ) → reading rest (at fs (expected.ChoiceLetter (named name) kind [])) ≡ reading rest
      (at fs (expected.ChoiceEnd (named name) kind)))
      → Reads cs (at fs (expected.ChoiceLetter (named name) kind ls)) (kind_read kind name (letters_read ls cs))
  letters_end kind name ls cs end =
      over (letters_read ls cs)
      (letters_on (λ l. at fs (expected.ChoiceLetter (named name) kind l)) (λ l ls c. refl) (λ ls. refl) ls cs)
      (letters_within ls cs)
    where
      over : (r : Result (List ℕ) (List ℕ)) → reading cs (at fs (expected.ChoiceLetter (named name) kind ls))
          ≡ past_letters (λ l. at fs (expected.ChoiceLetter (named name) kind l)) r
          → Within (length cs) r
          → Reads cs (at fs (expected.ChoiceLetter (named name) kind ls)) (kind_read kind name r)
      over (Ok rest) e w =
          moved _ _ _ _ (e ∙ end rest) w (kind_end_read kind name rest) (kind_end_agrees kind name rest)
      over (Err rest) e w = e

  plural_end : (name rest : List ℕ)
      → reading rest (at fs (expected.ChoiceLetter (named name) choice.Plural [])) ≡ reading rest
      (at fs (expected.ChoiceEnd (named name) choice.Plural))
  plural_end name [] = refl
  plural_end name (c ∷ cs) = refl

  ordinal_end : (name rest : List ℕ)
      → reading rest (at fs (expected.ChoiceLetter (named name) choice.Ordinal [])) ≡ reading rest
      (at fs (expected.ChoiceEnd (named name) choice.Ordinal))
  ordinal_end name [] = refl
  ordinal_end name (c ∷ cs) = refl

  select_agrees : (name cs : List ℕ)
      → Reads cs (at fs (expected.ChoiceLetter (named name) choice.Select [])) (select_read name cs)
  select_agrees name [] = refl
  select_agrees name (c ∷ cs) =
      equal_or (λ d. Reads (d ∷ cs) (at fs (expected.ChoiceLetter (named name) choice.Select []))
      (select_read name (d ∷ cs))) c 111
      (moved _ _ _ _ refl (omega arith) (kind_read choice.Ordinal name (letters_read (codes "rdinal") cs))
      (letters_end choice.Ordinal name (codes "rdinal") cs (ordinal_end name)))
      (λ h. rw h (kind_end_agrees choice.Select name (c ∷ cs)))

  select_word_agrees : (name ls cs : List ℕ)
      → Reads cs (at fs (expected.ChoiceLetter (named name) choice.Select ls))
      (select_word_read name (letters_read ls cs))
  select_word_agrees name ls cs =
      over (letters_read ls cs)
      (letters_on (λ l. at fs (expected.ChoiceLetter (named name) choice.Select l)) (λ l ls c. refl) (λ ls. refl) ls cs)
      (letters_within ls cs)
    where
      over : (r : Result (List ℕ) (List ℕ)) → reading cs (at fs (expected.ChoiceLetter (named name) choice.Select ls))
          ≡ past_letters (λ l. at fs (expected.ChoiceLetter (named name) choice.Select l)) r
          → Within (length cs) r
          → Reads cs (at fs (expected.ChoiceLetter (named name) choice.Select ls)) (select_word_read name r)
      over (Ok rest) e w = moved _ _ _ _ e w (select_read name rest) (select_agrees name rest)
      over (Err rest) e w = e

  choice_agrees : (name cs : List ℕ) → Stops is_template_space cs
      → Reads cs (at fs (expected.Choice (named name))) (choice_read name cs)
  choice_agrees name [] s = refl
  choice_agrees name (c ∷ cs) s =
      equal_or (λ d. Stops is_template_space (d ∷ cs)
      → Reads (d ∷ cs) (at fs (expected.Choice (named name))) (choice_read name (d ∷ cs))) c 112
      (λ s. moved _ _ _ _ refl (omega arith) (kind_read choice.Plural name (letters_read (codes "lural") cs))
      (letters_end choice.Plural name (codes "lural") cs (plural_end name)))
      (λ h. equal_or (λ d. Stops is_template_space (d ∷ cs)
      → Reads (d ∷ cs) (at fs (expected.Choice (named name))) (choice_read name (d ∷ cs))) c 115
      (λ s. moved _ _ _ _ refl (omega arith) (select_word_read name (letters_read (codes "elect") cs))
      (select_word_agrees name (codes "elect") cs))
      (λ g. λ s. rw (s, h, g) refl)) s

  name_end_agrees : (name cs : List ℕ) → Stops is_template_space cs
      → Reads cs (at fs (expected.NameEnd (named name))) (name_end_read name cs)
  name_end_agrees name [] s = refl
  name_end_agrees name (c ∷ cs) s =
      equal_or (λ d. Stops is_template_space (d ∷ cs)
      → Reads (d ∷ cs) (at fs (expected.NameEnd (named name))) (name_end_read name (d ∷ cs))) c right_brace
      (λ s. (refl, omega arith))
      (λ h. equal_or (λ d. Stops is_template_space (d ∷ cs)
      → Reads (d ∷ cs) (at fs (expected.NameEnd (named name))) (name_end_read name (d ∷ cs))) c comma
      (λ s. let within = after_within is_template_space cs in
      moved _ _ _ _ (past_space (at fs (expected.Choice (named name))) (λ c w. rw w refl) cs)
      (omega (arith, within)) (choice_read name (after_while is_template_space cs))
      (choice_agrees name (after_while is_template_space cs) (stops is_template_space cs)))
      (λ g. λ s. rw (s, h, g) refl)) s

  name_over : (name cs : List ℕ) → Stops continues_name cs
      → reading cs (at fs (expected.NameCharacter before name)) ≡ reading cs (at fs (expected.NameEnd (named name)))
  name_over name [] s = refl
  name_over name (c ∷ cs) s = rw s refl

  begun : (c : ℕ) → begins_name c ≡ true → continues_name c ≡ true
  begun c h = rw h refl

  -- a name is read from its first character on
  name_from : (c : ℕ) (cs : List ℕ) → is_template_space c ≡ false → begins_name c ≡ true
      → reading (c ∷ cs) (at fs (expected.Name before)) ≡ reading (c ∷ cs) (at fs (expected.NameCharacter before []))
  name_from c cs s h =
      steps_on c cs (at fs (expected.Name before)) (at fs (expected.NameCharacter before (c ∷ []))) (rw (s, h) refl)
      ∙ sym (steps_on c cs (at fs (expected.NameCharacter before [])) (at fs (expected.NameCharacter before (c ∷ [])))
      (let g : continues_name c ≡ true = begun c h in rw g refl))

  name_read_agrees : (cs name rest : List ℕ) → Stops continues_name rest → length rest ≤ length cs
      → reading cs (at fs (expected.Name before)) ≡ reading rest (at fs (expected.NameCharacter before name))
      → Reads cs (at fs (expected.Name before)) (name_end_read name (after_while is_template_space rest))
  name_read_agrees cs name rest s w e =
      let within = after_within is_template_space rest in
      moved _ _ _ _ (e ∙ (name_over name rest s
      ∙ past_space (at fs (expected.NameEnd (named name))) (λ c w. rw w refl) rest))
      (omega (arith, w, within)) (name_end_read name (after_while is_template_space rest))
      (name_end_agrees name (after_while is_template_space rest) (stops is_template_space rest))

  name_agrees : (cs : List ℕ) → Stops is_template_space cs → Reads cs (at fs (expected.Name before)) (name_read cs)
  name_agrees [] s = refl
  name_agrees (c ∷ cs) s =
      holds_or (Reads (c ∷ cs) (at fs (expected.Name before)) (name_read (c ∷ cs))) (begins_name c)
      (λ h. subst (λ t. Reads (c ∷ cs) (at fs (expected.Name before)) (if t
      then name_end_read (prefix_while continues_name (c ∷ cs))
      (after_while is_template_space (after_while continues_name (c ∷ cs)))
      else StuckHead (c ∷ cs))) (sym h)
      (name_read_agrees (c ∷ cs) (prefix_while continues_name (c ∷ cs)) (after_while continues_name (c ∷ cs))
      (stops continues_name (c ∷ cs)) (after_within continues_name (c ∷ cs))
      (name_from c cs s h ∙ past_run continues_name (λ t. at fs (expected.NameCharacter before t))
      (λ t c g. rw g refl) [] (c ∷ cs))))
      (λ h. rw (s, h) refl)

  pub head_agrees : (cs : List ℕ) → Reads cs (at fs (expected.Name before)) (head_read cs)
  head_agrees cs =
      moved _ _ _ _ (past_space (at fs (expected.Name before)) (λ c w. rw w refl) cs)
      (after_within is_template_space cs) (head_read cs)
      (name_agrees (after_while is_template_space cs) (stops is_template_space cs))
