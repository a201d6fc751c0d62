-- A piece of a text is what the machine reads there.
use Rattle.std.proofs.Common.{◌≡◌, ℕ, ◌+◌, ◌-◌, ◌<◌, ◌≤◌, ◌==◌, nat_le, not, Bool, true, false, List, [], ◌∷◌, ◌++◌}
use Rattle.std.proofs.Common.{length, Some, Result, Ok, Err, refl, sym, ◌∙◌, ap, subst, arith, if◌then◌else◌}
use Rattle.std.specs.Prelude.{codes}
use Rattle.std.proofs.lemmas.Bool.{eqb-true}
use Rattle.plural_rules.specs.declared.category.Category.TheVariants as category
use Rattle.soy_base.specs.ByteLength.{byte_len}
use Rattle.soy_base.specs.Characters.{single_quote, left_brace, right_brace, number_sign}
use Rattle.soy_base.specs.Cuts.{after_while, is_nil, prefix_while}
use Rattle.soy_base.specs.WhiteSpace.{is_template_space}
use Rattle.soy_tree.specs.MessageParts.{MsgPart}
use Rattle.soy_tree.specs.ViewMessageParts.{parts_of}
use Rattle.soy_rules.specs.IcuText.{is_plain, is_quotable}
use Rattle.icu_text.specs.declared.parse.Outcome.{Outcome}
use Rattle.icu_text.specs.declared.parse.Outcome.TheVariants.{Refused}
use Rattle.icu_text.specs.declared.state.ChoiceKind.{ChoiceKind}
use Rattle.icu_text.specs.declared.state.ChoiceKind.TheVariants as choice
use Rattle.icu_text.specs.declared.state.OpenPlural.{OpenPlural}
use Rattle.icu_text.specs.declared.state.OpenSelect.{OpenSelect}
use Rattle.icu_text.specs.declared.state.Frame.{Frame}
use Rattle.icu_text.specs.declared.state.Frame.TheVariants as frame
use Rattle.icu_text.specs.declared.reader.Reader.{Reader}
use Rattle.icu_text.specs.FirstArms.{has_category, has_word}
use Rattle.icu_text.specs.PatternStates as expected
use Rattle.icu_text.specs.PatternStates.{PatternState, Quoting}
use Rattle.icu_text.specs.PatternSteps.{finished, new_plural, new_select, opened, pattern_mode, with_arm, with_offset}
use Rattle.icu_text.specs.PatternSteps.{with_word, pattern_next, add_next, plain_next}
use Rattle.icu_text.specs.PatternReading.{read_on, reading}
use Rattle.icu_text.specs.Heads.{ReadHead, PlaceholderHead, ChoiceHead, StuckHead, head_read}
use Rattle.icu_text.specs.Keys.{ReadKey, ArmRead, PluralEnd, StuckKey, ReadFirstKey, OffsetRead, KeyRead, key_read}
use Rattle.icu_text.specs.Keys.{first_key_read, number_read}
use Rattle.icu_text.specs.Words.{ReadWord, WordRead, SelectEnd, StuckWord, word_read}
use Rattle.icu_text.specs.Pieces.{Piece, text_state, blank, added, key_piece}
use Rattle.icu_text.specs.Pieces.{offset_piece, first_key_piece, word_piece, choice_piece, head_piece, brace_piece}
use Rattle.icu_text.specs.Pieces.{close_piece, number_sign_piece, apostrophe_piece, after_quote_piece, quote_piece}
use Rattle.icu_text.specs.Pieces.{special_piece, plain_piece, piece, is_quoted}
use Rattle.icu_text.proofs.CharacterTests.{equal_or, holds_or}
use Rattle.icu_text.proofs.PatternRunning.{at}
use Rattle.icu_text.proofs.PlainText.{plain_adds}
use Rattle.icu_text.proofs.PieceRuns.{steps_on, Stops, stops, after_within, past_run}
use Rattle.icu_text.proofs.PieceHeads.{HeadAgrees, head_agrees}
use Rattle.icu_text.proofs.PieceKeys.{DigitsAgree, KeyAgrees, FirstKeyAgrees, key_agrees, key_moved, first_key_agrees}
use Rattle.icu_text.proofs.PieceKeys.{first_key_moved, offset_agrees, offset_over, digits_moved}
use Rattle.icu_text.proofs.PieceWords.{WordAgrees, word_agrees, word_moved}

-- a text means what follows a piece of it, of so many characters at most
abbrev pub Agrees : Outcome → ℕ → Piece → Type 0
Agrees o n (Ok p) = (o ≡ reading p.1 (text_state p.0)) × (length p.1 ≤ n)
Agrees o n (Err rest) = o ≡ Refused (byte_len rest)

if_false : {A : Type 0} (b : Bool) (x y : A) → b ≡ false → (if b then x else y) ≡ y
if_false b x y e = ap (λ t. if t then x else y) e

moved : (o to : Outcome) (n m : ℕ) → o ≡ to → m ≤ n → (p : Piece) → Agrees to m p → Agrees o n p
moved o to n m e w (Ok p) a = let b = a.1 in (e ∙ a.0, omega (arith, w, b))
moved o to n m e w (Err rest) a = e ∙ a

abbrev reader : List Frame → List MsgPart → List ℕ → Bool → Reader
reader fs ps t q = record { frames = fs; parts = ps; text = t; quoted = q }

-- keys and words

key_on : (o : Outcome) (n : ℕ) (fs : List Frame) (p : OpenPlural) (k : ReadKey) → KeyAgrees o n fs p k
    → Agrees o n (key_piece (blank fs) p k)
key_on o n fs p (ArmRead k rest) a = a
key_on o n fs p (PluralEnd text rest) a =
    holds_or _ (has_category category.Other p.named) (λ h. rw h (rw h at a.0, a.1)) (λ h. rw h (rw h at a.0))
key_on o n fs p (StuckKey rest) a = a

offset_on : (o : Outcome) (n : ℕ) (fs : List Frame) (p : OpenPlural) (r : Result (ℕ × List ℕ) (List ℕ))
    → DigitsAgree (λ m. at fs (expected.OffsetDigit p m)) o n r → Agrees o n (offset_piece (blank fs) p r)
offset_on o n fs p (Ok q) a =
    key_on o n fs (with_offset p q.0) (key_read q.1)
    (key_moved fs (with_offset p q.0) o _ n _ (a.0 ∙ offset_over fs p q.0 q.1 a.1) a.2 (key_read q.1)
    (key_agrees fs (with_offset p q.0) q.1))
offset_on o n fs p (Err rest) a = a

first_key_on : (o : Outcome) (n : ℕ) (fs : List Frame) (p : OpenPlural) (k : ReadFirstKey) → FirstKeyAgrees o n fs p k
    → Agrees o n (first_key_piece (blank fs) p k)
first_key_on o n fs p (OffsetRead rest) a =
    offset_on o n fs p (number_read (after_while is_template_space rest))
    (digits_moved (λ m. at fs (expected.OffsetDigit p m)) o _ n _ a.0 a.1
    (number_read (after_while is_template_space rest)) (offset_agrees fs p rest))
first_key_on o n fs p (KeyRead k) a = key_on o n fs p k a

word_on : (o : Outcome) (n : ℕ) (fs : List Frame) (s : OpenSelect) (w : ReadWord) → WordAgrees o n fs s w
    → Agrees o n (word_piece (blank fs) s w)
word_on o n fs s (WordRead w rest) a = a
word_on o n fs s (SelectEnd text rest) a =
    holds_or _ (has_word (codes "other") s.arms) (λ h. rw h (rw h at a.0, a.1)) (λ h. rw h (rw h at a.0))
word_on o n fs s (StuckWord rest) a = a

-- arguments

choice_on : (o : Outcome) (n : ℕ) (fs : List Frame) (before : List MsgPart) (kind : ChoiceKind) (name rest : List ℕ)
    → o ≡ reading rest (at fs (opened (record { before = before; name = name }) kind)) → length rest ≤ n
    → Agrees o n (choice_piece (reader fs before [] false) kind name rest)
choice_on o n fs before choice.Plural name rest e w =
    first_key_on o n fs (new_plural false (record { before = before; name = name })) (first_key_read rest)
    (first_key_moved fs (new_plural false (record { before = before; name = name })) o _ n _ e w (first_key_read rest)
    (first_key_agrees fs (new_plural false (record { before = before; name = name })) rest))
choice_on o n fs before choice.Ordinal name rest e w =
    first_key_on o n fs (new_plural true (record { before = before; name = name })) (first_key_read rest)
    (first_key_moved fs (new_plural true (record { before = before; name = name })) o _ n _ e w (first_key_read rest)
    (first_key_agrees fs (new_plural true (record { before = before; name = name })) rest))
choice_on o n fs before choice.Select name rest e w =
    word_on o n fs (new_select (record { before = before; name = name })) (word_read rest)
    (word_moved fs (new_select (record { before = before; name = name })) o _ n _ e w (word_read rest)
    (word_agrees fs (new_select (record { before = before; name = name })) rest))

head_on : (o : Outcome) (n : ℕ) (fs : List Frame) (before : List MsgPart) (h : ReadHead) → HeadAgrees o n fs before h
    → Agrees o n (head_piece (reader fs before [] false) h)
head_on o n fs before (PlaceholderHead name rest) a = a
head_on o n fs before (ChoiceHead kind name rest) a = choice_on o n fs before kind name rest a.0 a.1
head_on o n fs before (StuckHead rest) a = a

module _ (fs : List Frame) (ps : List MsgPart) (t : List ℕ) where
  abbrev plain : Reader
  plain = reader fs ps t false

  abbrev within_quotes : Reader
  within_quotes = reader fs ps t true

  brace_on : (cs : List ℕ)
      → Agrees (reading (left_brace ∷ cs) (text_state plain)) (length cs) (brace_piece plain (left_brace ∷ cs) cs)
  brace_on cs =
      holds_or _ (nat_le (length fs) 63)
      (λ h. rw h (head_on _ _ fs (finished ps t) (head_read cs) (head_agrees fs (finished ps t) cs)))
      (λ h. rw h refl)

  ended_apostrophe : reading [] (at fs (expected.Text ps t expected.Apostrophe))
      ≡ reading [] (at fs (expected.Text ps (t ++ single_quote ∷ []) expected.Unquoted))
  ended_apostrophe = over fs
    where
      over : (fs : List Frame) → reading [] (at fs (expected.Text ps t expected.Apostrophe))
          ≡ reading [] (at fs (expected.Text ps (t ++ single_quote ∷ []) expected.Unquoted))
      over [] = refl
      over (f ∷ fs) = refl

  ended_quotes : reading [] (at fs (expected.Text ps t expected.QuotedApostrophe))
      ≡ reading [] (at fs (expected.Text ps t expected.Unquoted))
  ended_quotes = over fs
    where
      over : (fs : List Frame) → reading [] (at fs (expected.Text ps t expected.QuotedApostrophe))
          ≡ reading [] (at fs (expected.Text ps t expected.Unquoted))
      over [] = refl
      over (f ∷ fs) = refl

  -- an apostrophe that is itself, or ended quoted text, and a character after it
  lone_next : (c : ℕ) → (c == single_quote) ≡ false → is_quotable (pattern_mode fs) c ≡ false
      → pattern_next (at fs (expected.Text ps t expected.Apostrophe)) c
      ≡ pattern_next (at fs (expected.Text ps (t ++ single_quote ∷ []) expected.Unquoted)) c
  lone_next c e h =
      if_false (c == single_quote) (add_next fs ps t expected.Unquoted single_quote)
      (if is_quotable (pattern_mode fs) c then add_next fs ps t expected.Quoted c
      else plain_next fs ps (t ++ single_quote ∷ []) c) e
      ∙ if_false (is_quotable (pattern_mode fs) c) (add_next fs ps t expected.Quoted c)
      (plain_next fs ps (t ++ single_quote ∷ []) c) h

  closed_next : (c : ℕ) → (c == single_quote) ≡ false
      → pattern_next (at fs (expected.Text ps t expected.QuotedApostrophe)) c
      ≡ pattern_next (at fs (expected.Text ps t expected.Unquoted)) c
  closed_next c e =
      if_false (c == single_quote) (add_next fs ps t expected.Quoted single_quote) (plain_next fs ps t c) e

  apostrophe_on : (cs : List ℕ)
      → Agrees (reading cs (at fs (expected.Text ps t expected.Apostrophe))) (length cs) (apostrophe_piece plain cs)
  apostrophe_on [] = (ended_apostrophe, omega arith)
  apostrophe_on (c ∷ cs) =
      equal_or (λ d. Agrees (reading (d ∷ cs) (at fs (expected.Text ps t expected.Apostrophe))) (length (d ∷ cs))
      (apostrophe_piece plain (d ∷ cs))) c single_quote (refl, omega arith)
      (λ e. holds_or (Agrees (reading (c ∷ cs) (at fs (expected.Text ps t expected.Apostrophe))) (length (c ∷ cs))
      (apostrophe_piece plain (c ∷ cs))) (is_quotable (pattern_mode fs) c)
      (λ h. let is : apostrophe_piece plain (c ∷ cs) ≡ Ok (within_quotes, c ∷ cs) = rw (e, h) refl in
      subst (Agrees (reading (c ∷ cs) (at fs (expected.Text ps t expected.Apostrophe))) (length (c ∷ cs))) (sym is) (
        steps_on c cs (at fs (expected.Text ps t expected.Apostrophe))
            (at fs (expected.Text ps (t ++ c ∷ []) expected.Quoted)) (rw (e, h) refl)
            ∙ sym (steps_on c cs (at fs (expected.Text ps t expected.Quoted))
            (at fs (expected.Text ps (t ++ c ∷ []) expected.Quoted)) (rw e refl)),
        omega arith,
      ))
      (λ h. let is : apostrophe_piece plain (c ∷ cs) ≡ Ok (added plain single_quote, c ∷ cs) = rw (e, h) refl in
      subst (Agrees (reading (c ∷ cs) (at fs (expected.Text ps t expected.Apostrophe))) (length (c ∷ cs))) (sym is)
      (ap (read_on (byte_len (c ∷ cs)) (reading cs)) (lone_next c e h), omega arith)))

  after_quote_on : (cs : List ℕ)
      → Agrees (reading cs (at fs (expected.Text ps t expected.QuotedApostrophe))) (length cs)
      (after_quote_piece within_quotes cs)
  after_quote_on [] = (ended_quotes, omega arith)
  after_quote_on (c ∷ cs) =
      equal_or (λ d. Agrees (reading (d ∷ cs) (at fs (expected.Text ps t expected.QuotedApostrophe))) (length (d ∷ cs))
      (after_quote_piece within_quotes (d ∷ cs))) c single_quote (refl, omega arith)
      (λ e. let is : after_quote_piece within_quotes (c ∷ cs) ≡ Ok (plain, c ∷ cs) = rw e refl in
      subst (Agrees (reading (c ∷ cs) (at fs (expected.Text ps t expected.QuotedApostrophe))) (length (c ∷ cs)))
      (sym is) (ap (read_on (byte_len (c ∷ cs)) (reading cs)) (closed_next c e), omega arith))

  quote_on : (n : ℕ) (cs : List ℕ) → Stops is_quoted cs → length cs ≤ n + 1
      → Agrees (reading cs (at fs (expected.Text ps t expected.Quoted))) n (quote_piece within_quotes cs)
  quote_on n [] s w = (refl, omega arith)
  quote_on n (c ∷ cs) s w =
      subst (λ d. Agrees (reading (d ∷ cs) (at fs (expected.Text ps t expected.Quoted))) n
      (quote_piece within_quotes (d ∷ cs))) (sym (quote_is s))
      (moved _ _ _ _ refl (omega (arith, w)) (after_quote_piece within_quotes cs) (after_quote_on cs))
    where
      negated : (b : Bool) → not b ≡ false → b ≡ true
      negated true e = refl
      negated false e = absurd (cc e)

      quote_is : is_quoted c ≡ false → c ≡ single_quote
      quote_is e = eqb-true c single_quote (negated (c == single_quote) e)

close_on : (fs : List Frame) (ps : List MsgPart) (t cs : List ℕ)
    → Agrees (reading (right_brace ∷ cs) (text_state (reader fs ps t false))) (length cs)
    (close_piece (reader fs ps t false) cs)
close_on [] ps t cs = (refl, omega arith)
close_on (frame.Plural p k ∷ fs) ps t cs =
    key_on _ _ fs (with_arm p k (parts_of (finished ps t))) (key_read cs)
    (key_agrees fs (with_arm p k (parts_of (finished ps t))) cs)
close_on (frame.Select s w ∷ fs) ps t cs =
    word_on _ _ fs (with_word s w (parts_of (finished ps t))) (word_read cs)
    (word_agrees fs (with_word s w (parts_of (finished ps t))) cs)

number_sign_on : (fs : List Frame) (ps : List MsgPart) (t cs : List ℕ)
    → Agrees (reading (number_sign ∷ cs) (text_state (reader fs ps t false))) (length cs)
    (number_sign_piece (reader fs ps t false) cs)
number_sign_on [] ps t cs = (refl, omega arith)
number_sign_on (frame.Plural p k ∷ fs) ps t cs = (refl, omega arith)
number_sign_on (frame.Select s w ∷ fs) ps t cs = (refl, omega arith)

module _ (fs : List Frame) (ps : List MsgPart) (t : List ℕ) where
  abbrev Special : List ℕ → ℕ → Type 0
  Special cs d =
      Agrees (reading (d ∷ cs) (text_state (reader fs ps t false))) (length cs)
      (special_piece (reader fs ps t false) (d ∷ cs))

  special_on : (c : ℕ) (cs : List ℕ) → Special cs c
  special_on c cs =
      equal_or (Special cs) c single_quote (apostrophe_on fs ps t cs)
      (λ a. equal_or (Special cs) c left_brace (brace_on fs ps t cs)
      (λ b. equal_or (Special cs) c right_brace (close_on fs ps t cs)
      (λ d. equal_or (Special cs) c number_sign (number_sign_on fs ps t cs)
      (λ e. rw (a, b, d, e) (refl, omega arith)))))

  abbrev passes : ℕ → Bool
  passes c = is_plain (pattern_mode fs) c

  plain_on : (c : ℕ) (cs : List ℕ)
      → Agrees (reading (c ∷ cs) (text_state (reader fs ps t false))) (length cs)
      (piece (reader fs ps t false) (c ∷ cs))
  plain_on c cs =
      holds_or (Agrees (reading (c ∷ cs) (text_state (reader fs ps t false))) (length cs)
      (piece (reader fs ps t false) (c ∷ cs))) (passes c)
      (λ h. subst (λ b. Agrees (reading (c ∷ cs) (text_state (reader fs ps t false))) (length cs)
      (plain_piece (reader fs ps t false) (if b then c ∷ prefix_while passes cs else [])
      (if b then after_while passes cs else c ∷ cs))) (sym h) (
        past_run passes (λ u. at fs (expected.Text ps u expected.Unquoted))
            (λ u d g. plain_adds fs ps u d g) t (c ∷ cs)
            ∙ subst (λ b. reading (if b then after_while passes cs else c ∷ cs)
            (at fs (expected.Text ps (t ++ (if b then c ∷ prefix_while passes cs else [])) expected.Unquoted))
            ≡ reading (after_while passes cs)
            (at fs (expected.Text ps (t ++ c ∷ prefix_while passes cs) expected.Unquoted))) (sym h) refl,
        after_within passes cs,
      ))
      (λ h. subst (λ b. Agrees (reading (c ∷ cs) (text_state (reader fs ps t false))) (length cs)
      (plain_piece (reader fs ps t false) (if b then c ∷ prefix_while passes cs else [])
      (if b then after_while passes cs else c ∷ cs))) (sym h) (special_on c cs))

  quoted_adds : (u : List ℕ) (d : ℕ) → is_quoted d ≡ true
      → pattern_next (at fs (expected.Text ps u expected.Quoted)) d
      ≡ Some (at fs (expected.Text ps (u ++ d ∷ []) expected.Quoted))
  quoted_adds u d h = let no : (d == single_quote) ≡ false = negated (d == single_quote) h in rw no refl
    where
      negated : (b : Bool) → not b ≡ true → b ≡ false
      negated true e = absurd (cc e)
      negated false e = refl

  quoted_on : (c : ℕ) (cs : List ℕ)
      → Agrees (reading (c ∷ cs) (text_state (reader fs ps t true))) (length cs) (piece (reader fs ps t true) (c ∷ cs))
  quoted_on c cs =
      let within = after_within is_quoted (c ∷ cs) in
      moved _ _ _ _ (past_run is_quoted (λ u. at fs (expected.Text ps u expected.Quoted)) quoted_adds t (c ∷ cs))
      (omega arith) (piece (reader fs ps t true) (c ∷ cs))
      (quote_on fs ps (t ++ prefix_while is_quoted (c ∷ cs)) (length cs) (after_while is_quoted (c ∷ cs))
      (stops is_quoted (c ∷ cs)) (omega (arith, within)))

pub piece_agrees : (r : Reader) (c : ℕ) (cs : List ℕ)
    → Agrees (reading (c ∷ cs) (text_state r)) (length cs) (piece r (c ∷ cs))
piece_agrees r c cs = over r.quoted
  where
    over : (q : Bool) → Agrees (reading (c ∷ cs) (text_state (reader r.frames r.parts r.text q))) (length cs)
        (piece (reader r.frames r.parts r.text q) (c ∷ cs))
    over true = quoted_on r.frames r.parts r.text c cs
    over false = plain_on r.frames r.parts r.text c cs

-- as the code asks it of a text that isn't empty

piece_of : (r : Reader) (text : List ℕ) (p : Piece) → is_nil text ≡ false → p ≡ piece r text
    → Agrees (reading text (text_state r)) (length text - 1) p
piece_of r [] p h e = absurd (cc h)
piece_of r (c ∷ cs) p h e =
    moved _ _ _ _ refl (omega arith) p
    (subst (Agrees (reading (c ∷ cs) (text_state r)) (length cs)) (sym e) (piece_agrees r c cs))

some_text : (text : List ℕ) → is_nil text ≡ false → 1 ≤ length text
some_text [] h = absurd (cc h)
some_text (c ∷ cs) h = omega arith

pub piece_on : (r to : Reader) (text rest : List ℕ) → is_nil text ≡ false → Ok (to, rest) ≡ piece r text
    → reading rest (text_state to) ≡ reading text (text_state r)
piece_on r to text rest h e = sym (piece_of r text (Ok (to, rest)) h e).0

pub piece_within : (r to : Reader) (text rest : List ℕ) → is_nil text ≡ false → Ok (to, rest) ≡ piece r text
    → length rest < length text
piece_within r to text rest h e =
    let within : length rest ≤ length text - 1 = (piece_of r text (Ok (to, rest)) h e).1 in
    let some : 1 ≤ length text = some_text text h in omega (arith, within, some)

pub piece_stuck : (r : Reader) (text rest : List ℕ) → is_nil text ≡ false → Err rest ≡ piece r text
    → Refused (byte_len rest) ≡ reading text (text_state r)
piece_stuck r text rest h e = sym (piece_of r text (Err rest) h e)
