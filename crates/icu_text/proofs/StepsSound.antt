-- What follows a character may follow where it stands, step by step.
use Rattle.std.proofs.Common.{◌≡◌, ◌≢◌, ◌⊎◌, inl, inr, ℕ, zero, suc, ◌+◌, ◌-◌, ◌*◌, ◌≤◌, nat_le, ◌==◌}
use Rattle.std.proofs.Common.{Bool, true, false, List, [], ◌∷◌, ◌++◌, length, Option, Some, None, refl, sym, ◌∙◌, ap}
use Rattle.std.proofs.Common.{subst, append_assoc, append-nil, arith, if◌then◌else◌}
use Rattle.std.specs.Prelude.{codes, pos, neg_ℤ}
use Rattle.std.specs.Char.{is_ascii_digit, digit_value}
use Rattle.std.specs.List.{list_all}
use Rattle.std.specs.Str.Parse.{digits_value_after}
use Rattle.std.proofs.lemmas.Bool.{eqb-true, leb-true}
use Rattle.std.proofs.lemmas.Bool.Decides.{nat_tests}
use Rattle.plural_rules.specs.declared.category.Category.{Category}
use Rattle.plural_rules.specs.declared.category.Category.TheVariants as category
use Rattle.soy_base.specs.Characters.{single_quote, left_brace, right_brace, number_sign, comma, equals_sign}
use Rattle.soy_base.specs.Characters.{minus_sign}
use Rattle.soy_base.specs.Names.{begins_name, continues_name}
use Rattle.soy_base.specs.WhiteSpace.{is_template_space}
use Rattle.soy_base.specs.Limits.{largest}
use Rattle.soy_tree.specs.Formed.{is_word_character}
use Rattle.soy_tree.specs.MessageParts.{MsgPart, Placeholder, NumberPart, no_part}
use Rattle.soy_tree.specs.ViewMessageParts.{parts_of}
use Rattle.soy_rules.specs.IcuText as icu
use Rattle.soy_rules.specs.IcuText.{is_quotable, is_plain, with_text, Exact, Named, keyword, IsNumber, IsWord}
use Rattle.icu_text.specs.declared.state.ArmKey.{ArmKey}
use Rattle.icu_text.specs.declared.state.ArmKey.TheVariants as arm_key
use Rattle.icu_text.specs.PatternStates.{Argument}
use Rattle.icu_text.specs.declared.state.ChoiceKind.{ChoiceKind}
use Rattle.icu_text.specs.declared.state.ChoiceKind.TheVariants as choice
use Rattle.icu_text.specs.declared.state.OpenPlural.{OpenPlural}
use Rattle.icu_text.specs.declared.state.OpenSelect.{OpenSelect}
use Rattle.icu_text.specs.declared.state.Frame.{Frame}
use Rattle.icu_text.specs.declared.state.Frame.TheVariants as frame
use Rattle.icu_text.specs.PatternStates.{Expected}
use Rattle.icu_text.specs.PatternStates as expected
use Rattle.icu_text.specs.PatternStates.{PatternState}
use Rattle.icu_text.specs.FirstArms.{has_category, has_word}
use Rattle.icu_text.specs.PatternSteps as steps
use Rattle.icu_text.specs.PatternSteps.{pattern_mode, finished, with_arm, with_word, with_offset, opened}
use Rattle.icu_text.specs.PatternSteps.{may_be_ordinal, letter_next, number_or, more_digits, plural_part, select_part}
use Rattle.icu_text.specs.PatternSteps.{signed}
use Rattle.icu_text.proofs.CharacterTests.{equal_or, holds_or, and_both}
use Rattle.icu_text.proofs.PatternRunning.{at, parsed, parsed_from}
use Rattle.icu_text.proofs.ReadParts.{finished_end}
use Rattle.icu_text.proofs.Keys.{more_is, digit_is}
use Rattle.icu_text.proofs.PatternLeft.{After, Behind, Lettered, Passed, Digits, Numbered, IsKind, TextLeft}
use Rattle.icu_text.proofs.PatternLeft.{QuotedLeft, ArmsLeft, WordsLeft, KeyEndLeft, WordEndLeft, OffsetLeft, KeyTail}
use Rattle.icu_text.proofs.PatternLeft.{KeyLeft, OpenedLeft, KindEndLeft, KindMore, ChoiceLeft, NameTail, NumberLeft}
use Rattle.icu_text.proofs.PatternLeft.{Left, braces, Fits}
use Rattle.icu_text.proofs.PatternSound.{spaced, unspaced, more_text, number_text, head_text, arm_left, word_left}
use Rattle.icu_text.proofs.ArgumentSound.{head_after, head_left}

other_than : (c k : ℕ) → (c == k) ≡ false → c ≢ k
other_than c k apart = λ e. absurd (cc (apart, subst (λ d. (c == d) ≡ true) e (same c)))
  where
    same : (n : ℕ) → (n == n) ≡ true
    same n = grind (arith, nat_tests)

none_some : {A : Type 0} {a : A} (B : Type 0) → None ≡ Some a → B
none_some B e = absurd (cc e)

first_fits : (c : ℕ) → is_ascii_digit c ≡ true → c - 48 ≤ largest
first_fits c h = grind (arith, nat_tests, h)

numbered : {A : ℕ → List ℕ → Type 0} (c : ℕ) (text : List ℕ) → is_ascii_digit c ≡ true → Digits (c - 48) A text
    → Numbered A (c ∷ text)
numbered {A = A} c text h l =
    let starts : digits_value_after 10 (0 * 10 + digit_value c) l.more ≡ digits_value_after 10 (c - 48) l.more =
    ap (λ n. digits_value_after 10 n l.more) (ap (λ d. 0 * 10 + d) (digit_is c h) ∙ omega arith) in
    record {
      digits = c ∷ l.more;
      value = digits_value_after 10 (c - 48) l.more;
      tail = l.tail;
      whole = ap (λ t. c ∷ t) l.whole;
      is = record {
        digits = and_both (is_ascii_digit c) (list_all is_ascii_digit l.more) h l.digits;
        some = λ e. cc e;
        value = starts;
        within = l.within;
      };
      left = l.left;
    }

more_digit : {A : ℕ → List ℕ → Type 0} (n c : ℕ) (text : List ℕ) → is_ascii_digit c ≡ true
    → Digits (more_digits n c) A text → Digits n A (c ∷ text)
more_digit {A = A} n c text h l =
    let value : digits_value_after 10 (more_digits n c) l.more ≡ digits_value_after 10 (n * 10 + digit_value c) l.more =
    ap (λ m. digits_value_after 10 m l.more) (sym (more_is n c h)) in
    record {
      more = c ∷ l.more;
      tail = l.tail;
      whole = ap (λ t. c ∷ t) l.whole;
      digits = and_both (is_ascii_digit c) (list_all is_ascii_digit l.more) h l.digits;
      within = subst (λ m. m ≤ largest) value l.within;
      left = subst (λ m. A m l.tail) value l.left;
    }

no_more_digits : {A : ℕ → List ℕ → Type 0} (n : ℕ) (text : List ℕ) → n ≤ largest → A n text → Digits n A text
no_more_digits n text h a = record { more = []; tail = text; whole = refl; digits = refl; within = h; left = a }

no_more_passed : {A : List ℕ → List ℕ → Type 0} (test : ℕ → Bool) (before text : List ℕ) → A before text
    → Passed test before A text
no_more_passed {A = A} test before text a = record {
  more = [];
  tail = text;
  whole = refl;
  passes = refl;
  left = subst (λ l. A l text) (sym (append-nil before)) a;
}

more_passed : {A : List ℕ → List ℕ → Type 0} (test : ℕ → Bool) (before : List ℕ) (c : ℕ) (text : List ℕ) → test c ≡ true
    → Passed test (before ++ c ∷ []) A text → Passed test before A (c ∷ text)
more_passed {A = A} test before c text h p = record {
  more = c ∷ p.more;
  tail = p.tail;
  whole = ap (λ t. c ∷ t) p.whole;
  passes = and_both (test c) (list_all test p.more) h p.passes;
  left = subst (λ l. A l p.tail) (append_assoc before (c ∷ []) p.more) p.left;
}

no_letters : {A : List ℕ → Type 0} {text : List ℕ} → A text → Lettered [] A text
no_letters {text = text} a = record { tail = text; whole = refl; left = a }

all_letters : {A : List ℕ → Type 0} {text : List ℕ} → Lettered [] A text → A text
all_letters {A = A} l = subst A (sym l.whole) l.left

behind : {A : List ℕ → Type 0} (c : ℕ) {text : List ℕ} → A text → Behind c A (c ∷ text)
behind c {text = text} a = record { tail = text; whole = refl; left = a }

arms_tail : (fs : List Frame) (n : ℕ) (out : List MsgPart) (starts : Bool) (p : OpenPlural) (text : List ℕ)
    → ArmsLeft fs n out p text → KeyTail fs n out starts p text
arms_tail fs n out true p text h = inl h
arms_tail fs n out false p text h = h

keyword_left : (fs : List Frame) (n : ℕ) (out : List MsgPart) (p : OpenPlural) (c : Category)
    (before letters text : List ℕ) → keyword c ≡ before ++ letters
    → Lettered letters (KeyEndLeft fs n out p (arm_key.Named c)) text → ArmsLeft fs n out p (before ++ text)
keyword_left fs n out p c before letters text e l =
    subst (λ t. ArmsLeft fs n out p t)
    (ap (λ t. t ++ l.tail) e ∙ (append_assoc before letters l.tail ∙ ap (λ t. before ++ t) (sym l.whole)))
    (arm_left fs n out p (keyword c) (Named c) l.tail (icu.named c) l.left)

exact_left : (fs : List Frame) (n : ℕ) (out : List MsgPart) (p : OpenPlural) (text : List ℕ)
    → Left fs n out (expected.ExactKey p) text → ArmsLeft fs n out p (equals_sign ∷ text)
exact_left fs n out p text a = by a.left
  where
    by : Numbered (NumberLeft fs n out p false) a.tail ⊎ Behind minus_sign
        (Numbered (NumberLeft fs n out p true)) a.tail → ArmsLeft fs n out p (equals_sign ∷ text)
    by (inl v) =
        subst (λ t. ArmsLeft fs n out p (equals_sign ∷ t))
        (append_assoc a.white v.digits v.tail ∙ sym (a.whole ∙ ap (λ t. a.white ++ t) v.whole))
        (arm_left fs n out p (equals_sign ∷ (a.white ++ v.digits)) (Exact (pos v.value)) v.tail
        (icu.exact a.white v.digits v.value a.is_white v.is) v.left)
    by (inr b) =
        let v = b.left in
        subst (λ t. ArmsLeft fs n out p (equals_sign ∷ t))
        (append_assoc a.white (minus_sign ∷ v.digits) v.tail ∙ sym
        (a.whole ∙ ap (λ t. a.white ++ t) (b.whole ∙ ap (λ t. minus_sign ∷ t) v.whole)))
        (arm_left fs n out p (equals_sign ∷ (a.white ++ minus_sign ∷ v.digits)) (Exact (neg_ℤ (pos v.value))) v.tail
        (icu.negative a.white v.digits v.value a.is_white v.is) v.left)

module _ (cs : List ℕ) (out : List MsgPart)
    (hyp : (fs : List Frame) (x : Expected) (n : ℕ) → n + length fs ≡ braces x → Fits x → parsed cs (at fs x) ≡ Some out
    → Left fs n out x cs) where
  abbrev Parsed : Option PatternState → Type 0
  Parsed to = parsed_from (parsed cs) to ≡ Some out

  -- text

  add_left : (fs : List Frame) (n : ℕ) (ps : List MsgPart) (t : List ℕ) (c : ℕ) → n + length fs ≡ 64
      → is_plain (pattern_mode fs) c ≡ true
      → Parsed (steps.add_next fs ps t expected.Unquoted c) → TextLeft fs n out (ps, t) (c ∷ cs)
  add_left fs n ps t c d h e =
      more_text (ps, t) (c ∷ []) (c ∷ cs) cs (λ qs rest r. icu.plain c cs rest qs (with_text (c ∷ []) qs) h r refl)
      (hyp fs (expected.Text ps (t ++ c ∷ []) expected.Unquoted) n d tt e)

  brace_left : (fs : List Frame) (n : ℕ) (ps : List MsgPart) (t : List ℕ) → n + length fs ≡ 64
      → Parsed (steps.brace_next fs (finished ps t))
      → TextLeft fs n out (ps, t) (left_brace ∷ cs)
  brace_left fs n ps t d e =
      holds_or _ (nat_le (length fs) 63) (λ h. few n d (leb-true (length fs) 63 h) (rw h at e))
      (λ h. none_some _ (rw h at e))
    where
      few : (n : ℕ) → n + length fs ≡ 64 → length fs ≤ 63 → parsed cs (at fs (expected.Name (finished ps t))) ≡ Some out
          → TextLeft fs n out (ps, t) (left_brace ∷ cs)
      few zero d h e = absurd (omega (arith, d, h))
      few (suc k) d h e = head_text (ps, t) cs (hyp fs (expected.Name (finished ps t)) k (omega (arith, d)) tt e)

  close_left : (fs : List Frame) (n : ℕ) (ps : List MsgPart) (t : List ℕ) → n + length fs ≡ 64
      → Parsed (steps.close_next fs ps t)
      → TextLeft fs n out (ps, t) (right_brace ∷ cs)
  close_left [] n ps t d e = add_left [] n ps t right_brace d refl e
  close_left (frame.Plural p key ∷ fs) n ps t d e = record {
    parts = no_part;
    rest = right_brace ∷ cs;
    reads = icu.stop (right_brace ∷ cs);
    ends = behind right_brace (subst (λ qs. After (ArmsLeft fs n out (with_arm p key qs)) cs) (finished_end ps t)
        (hyp fs (expected.Key (with_arm p key (parts_of (finished ps t))) false) n (omega (arith, d)) tt e));
  }
  close_left (frame.Select s word ∷ fs) n ps t d e = record {
    parts = no_part;
    rest = right_brace ∷ cs;
    reads = icu.stop (right_brace ∷ cs);
    ends = behind right_brace (subst (λ qs. After (WordsLeft fs n out (with_word s word qs)) cs) (finished_end ps t)
        (hyp fs (expected.Word (with_word s word (parts_of (finished ps t)))) n (omega (arith, d)) tt e));
  }

  number_left : (fs : List Frame) (n : ℕ) (ps : List MsgPart) (t : List ℕ) → n + length fs ≡ 64
      → Parsed (steps.number_sign_next fs ps t)
      → TextLeft fs n out (ps, t) (number_sign ∷ cs)
  number_left [] n ps t d e = add_left [] n ps t number_sign d refl e
  number_left (frame.Plural p key ∷ fs) n ps t d e =
      number_text (ps, t) cs (hyp (frame.Plural p key ∷ fs)
      (expected.Text (finished ps t ++ NumberPart ∷ []) [] expected.Unquoted) n d tt e)
  number_left (frame.Select s word ∷ fs) n ps t d e = add_left (frame.Select s word ∷ fs) n ps t number_sign d refl e

  plain_by : (fs : List Frame) (c : ℕ) → (c == 39) ≡ false → (c == 123) ≡ false → (c == 125) ≡ false → (c == 35) ≡ false
      → is_plain (pattern_mode fs) c ≡ true
  plain_by [] c a b d e = rw (a, b) refl
  plain_by (frame.Plural p key ∷ fs) c a b d e = rw (a, b, d, e) refl
  plain_by (frame.Select s word ∷ fs) c a b d e = rw (a, b, d) refl

  plain_left : (fs : List Frame) (n : ℕ) (ps : List MsgPart) (t : List ℕ) (c : ℕ) → n + length fs ≡ 64
      → Parsed (steps.plain_next fs ps t c)
      → TextLeft fs n out (ps, t) (c ∷ cs)
  plain_left fs n ps t c d =
      let P : ℕ → Type 0 = λ k. Parsed (steps.plain_next fs ps t k) → TextLeft fs n out (ps, t) (k ∷ cs) in
      equal_or P c 39 (λ e. hyp fs (expected.Text ps t expected.Apostrophe) n d tt e)
      (λ a. equal_or P c 123 (brace_left fs n ps t d)
      (λ b. equal_or P c 125 (close_left fs n ps t d)
      (λ g. equal_or P c 35 (number_left fs n ps t d)
      (λ f. λ e. add_left fs n ps t c d (plain_by fs c a b g f) (rw (a, b, g, f) at e)))))

  quotes_left : (fs : List Frame) (n : ℕ) (ps : List MsgPart) (t : List ℕ) (c : ℕ) → (c == 39) ≡ false
      → is_quotable (pattern_mode fs) c ≡ true
      → QuotedLeft fs n out (ps, t ++ c ∷ []) cs → TextLeft fs n out (ps, t) (single_quote ∷ (c ∷ cs))
  quotes_left fs n ps t c a q l =
      more_text (ps, t) (c ∷ l.chars) (single_quote ∷ (c ∷ cs)) l.after
      (λ qs rest r. icu.quoted (c ∷ cs) (c ∷ l.chars) l.after rest qs (with_text (c ∷ l.chars) qs) q
      (icu.character c cs l.chars l.after (other_than c 39 a) l.quoted) r refl)
      (subst (λ u. TextLeft fs n out (ps, u) l.after) (append_assoc t (c ∷ []) l.chars) l.left)

  pub apostrophe_left : (fs : List Frame) (n : ℕ) (ps : List MsgPart) (t : List ℕ) (c : ℕ) → n + length fs ≡ 64
      → Parsed (steps.apostrophe_next fs ps t c)
      → TextLeft fs n out (ps, t) (single_quote ∷ (c ∷ cs))
  apostrophe_left fs n ps t c d =
      let P : ℕ → Type 0 = λ k. Parsed (steps.apostrophe_next fs ps t k)
      → TextLeft fs n out (ps, t) (single_quote ∷ (k ∷ cs)) in
      equal_or P c 39
      (λ e. more_text (ps, t) (single_quote ∷ []) (single_quote ∷ (single_quote ∷ cs)) cs
      (λ qs rest r. icu.two cs rest qs (with_text (single_quote ∷ []) qs) r refl)
      (hyp fs (expected.Text ps (t ++ single_quote ∷ []) expected.Unquoted) n d tt e))
      (λ a. λ e. holds_or _ (is_quotable (pattern_mode fs) c)
      (λ q. quotes_left fs n ps t c a q
      (hyp fs (expected.Text ps (t ++ c ∷ []) expected.Quoted) n d tt (rw (a, q) at e)))
      (λ q. more_text (ps, t) (single_quote ∷ []) (single_quote ∷ (c ∷ cs)) (c ∷ cs)
      (λ qs rest r. icu.single (c ∷ cs) rest qs (with_text (single_quote ∷ []) qs) a q r refl)
      (plain_left fs n ps (t ++ single_quote ∷ []) c d
      (subst (λ b. Parsed (if b then steps.add_next fs ps t expected.Quoted c else steps.plain_next fs ps
      (t ++ single_quote ∷ []) c)) q
      (subst (λ b. Parsed (if b then steps.add_next fs ps t expected.Unquoted single_quote else
      (if is_quotable (pattern_mode fs) c then steps.add_next fs ps t expected.Quoted c
      else steps.plain_next fs ps (t ++ single_quote ∷ []) c))) a e)))))

  pub quoted_left : (fs : List Frame) (n : ℕ) (ps : List MsgPart) (t : List ℕ) (c : ℕ) → n + length fs ≡ 64
      → Parsed (steps.quoted_next fs ps t c)
      → QuotedLeft fs n out (ps, t) (c ∷ cs)
  quoted_left fs n ps t c d =
      let P : ℕ → Type 0 = λ k. Parsed (steps.quoted_next fs ps t k) → QuotedLeft fs n out (ps, t) (k ∷ cs) in
      equal_or P c 39 (λ e. hyp fs (expected.Text ps t expected.QuotedApostrophe) n d tt e)
      (λ a. λ e. let l : QuotedLeft fs n out (ps, t ++ c ∷ []) cs = hyp fs
      (expected.Text ps (t ++ c ∷ []) expected.Quoted) n d tt (rw a at e) in
      record {
        chars = c ∷ l.chars;
        after = l.after;
        quoted = icu.character c cs l.chars l.after (other_than c 39 a) l.quoted;
        left = subst (λ u. TextLeft fs n out (ps, u) l.after) (append_assoc t (c ∷ []) l.chars) l.left;
      })

  pub quoted_apostrophe_left : (fs : List Frame) (n : ℕ) (ps : List MsgPart) (t : List ℕ) (c : ℕ) → n + length fs ≡ 64
      → Parsed (steps.quoted_apostrophe_next fs ps t c) → QuotedLeft fs n out (ps, t) (single_quote ∷ (c ∷ cs))
  quoted_apostrophe_left fs n ps t c d =
      let P : ℕ → Type 0 = λ k. Parsed (steps.quoted_apostrophe_next fs ps t k)
      → QuotedLeft fs n out (ps, t) (single_quote ∷ (k ∷ cs)) in
      equal_or P c 39
      (λ e. let l : QuotedLeft fs n out (ps, t ++ single_quote ∷ []) cs = hyp fs
      (expected.Text ps (t ++ single_quote ∷ []) expected.Quoted) n d tt e in
      record {
        chars = single_quote ∷ l.chars;
        after = l.after;
        quoted = icu.doubled cs l.chars l.after l.quoted;
        left = subst (λ u. TextLeft fs n out (ps, u) l.after) (append_assoc t (single_quote ∷ []) l.chars) l.left;
      })
      (λ a. λ e. record {
        chars = [];
        after = c ∷ cs;
        quoted = icu.closed (c ∷ cs) a;
        left = subst (λ u. TextLeft fs n out (ps, u) (c ∷ cs)) (sym (append-nil t)) (plain_left fs n ps t c d
            (subst (λ b. Parsed (if b then steps.add_next fs ps t expected.Quoted single_quote else steps.plain_next fs
            ps t c)) a e));
      })

  -- a letter of a word

  letter_left : (A : List ℕ → Type 0) (fs : List Frame) (x : Expected) (l c : ℕ) (ls : List ℕ)
      → (parsed cs (at fs x) ≡ Some out → Lettered ls A cs)
      → Parsed (letter_next fs x l c) → Lettered (l ∷ ls) A (c ∷ cs)
  letter_left A fs x l c ls f e =
      holds_or _ (c == l)
      (λ k. let i = f (rw k at e) in record { tail = i.tail; whole = λ j. eqb-true c l k j ∷ i.whole j; left = i.left })
      (λ k. none_some _ (rw k at e))

  -- heads

  pub name_left : (fs : List Frame) (n : ℕ) (before : List MsgPart) (c : ℕ) → n + length fs ≡ 63
      → Parsed (steps.name_next fs before c)
      → Left fs n out (expected.Name before) (c ∷ cs)
  name_left fs n before c d e =
      holds_or _ (is_template_space c) (λ w. head_after c w (hyp fs (expected.Name before) n d tt (rw w at e)))
      (λ w. holds_or _ (begins_name c)
      (λ b. head_left fs n out before c cs b
      (hyp fs (expected.NameCharacter before (c ∷ [])) n d tt (rw (w, b) at e)))
      (λ b. none_some _ (rw (w, b) at e)))

  pub name_end_left : (fs : List Frame) (n : ℕ) (a : Argument) (c : ℕ) → n + length fs ≡ 63
      → Parsed (steps.name_end_next fs a c)
      → After (NameTail fs n out a) (c ∷ cs)
  name_end_left fs n a c d =
      let P : ℕ → Type 0 = λ k. Parsed (steps.name_end_next fs a k) → After (NameTail fs n out a) (k ∷ cs) in
      equal_or P c 44 (λ e. unspaced (inr (behind comma (hyp fs (expected.Choice a) n d tt e))))
      (λ k. equal_or P c 125 (λ e. unspaced
      (inl (behind right_brace (hyp fs (expected.Text (a.before ++ Placeholder a.name ∷ []) [] expected.Unquoted)
      (suc n) (omega (arith, d)) tt e))))
      (λ g. λ e. holds_or _ (is_template_space c) (λ w. spaced c w (hyp fs (expected.NameEnd a) n d tt (rw w at e)))
      (λ w. none_some _ (rw (w, k, g) at e))))

  pub name_character_left : (fs : List Frame) (n : ℕ) (before : List MsgPart) (name : List ℕ) (c : ℕ)
      → n + length fs ≡ 63
      → Parsed (steps.name_character_next fs before name c)
      → Left fs n out (expected.NameCharacter before name) (c ∷ cs)
  name_character_left fs n before name c d e =
      holds_or _ (continues_name c)
      (λ k. more_passed continues_name name c cs k
      (hyp fs (expected.NameCharacter before (name ++ c ∷ [])) n d tt (rw k at e)))
      (λ k. no_more_passed continues_name name (c ∷ cs)
      (name_end_left fs n (record { before = before; name = name }) c d (rw k at e)))

  pub choice_left : (fs : List Frame) (n : ℕ) (a : Argument) (c : ℕ) → n + length fs ≡ 63
      → Parsed (steps.choice_next fs a c) → ChoiceLeft fs n out a (c ∷ cs)
  choice_left fs n a c d =
      let P : ℕ → Type 0 = λ k. Parsed (steps.choice_next fs a k) → ChoiceLeft fs n out a (k ∷ cs) in
      equal_or P c 112 (λ e. unspaced
      (plural_kind (hyp fs (expected.ChoiceLetter a choice.Plural (codes "lural")) n d tt e)))
      (λ p. equal_or P c 115 (λ e. unspaced
      (select_kind (hyp fs (expected.ChoiceLetter a choice.Select (codes "elect")) n d tt e)))
      (λ s. λ e. holds_or _ (is_template_space c) (λ w. spaced c w (hyp fs (expected.Choice a) n d tt (rw w at e)))
      (λ w. none_some _ (rw (w, p, s) at e))))
    where
      plural_kind : Lettered (codes "lural") (KindMore fs n out a choice.Plural) cs
          → IsKind (KindEndLeft fs n out a) (112 ∷ cs)
      plural_kind l = by l.left
        where
          by : KindMore fs n out a choice.Plural l.tail → IsKind (KindEndLeft fs n out a) (112 ∷ cs)
          by (inl k) = record { kind = choice.Plural; tail = l.tail; whole = ap (λ t. 112 ∷ t) l.whole; left = k }
          by (inr o) = absurd o

      select_kind : Lettered (codes "elect") (KindMore fs n out a choice.Select) cs
          → IsKind (KindEndLeft fs n out a) (115 ∷ cs)
      select_kind l = by l.left
        where
          by : KindMore fs n out a choice.Select l.tail → IsKind (KindEndLeft fs n out a) (115 ∷ cs)
          by (inl k) = record { kind = choice.Select; tail = l.tail; whole = ap (λ t. 115 ∷ t) l.whole; left = k }
          by (inr o) = record {
            kind = choice.Ordinal;
            tail = o.tail;
            whole = ap (λ t. 115 ∷ t)
                (l.whole ∙ ap (λ t. codes "elect" ++ t) o.whole);
            left = o.left;
          }

  pub kind_end_left : (fs : List Frame) (n : ℕ) (a : Argument) (kind : ChoiceKind) (c : ℕ) → n + length fs ≡ 63
      → Parsed (steps.choice_end_next fs a kind c)
      → KindEndLeft fs n out a kind (c ∷ cs)
  kind_end_left fs n a kind c d =
      let P : ℕ → Type 0 = λ k. Parsed (steps.choice_end_next fs a kind k) → KindEndLeft fs n out a kind (k ∷ cs) in
      equal_or P c 44 (λ e. unspaced (behind comma (opens kind e)))
      (λ k. λ e. holds_or _ (is_template_space c)
      (λ w. spaced c w (hyp fs (expected.ChoiceEnd a kind) n d tt (rw w at e))) (λ w. none_some _ (rw (w, k) at e)))
    where
      opens : (kind : ChoiceKind) → parsed cs (at fs (opened a kind)) ≡ Some out → OpenedLeft fs n out a kind cs
      opens choice.Plural e = hyp fs (opened a choice.Plural) n d tt e
      opens choice.Ordinal e = hyp fs (opened a choice.Ordinal) n d tt e
      opens choice.Select e = hyp fs (opened a choice.Select) n d tt e

  kind_letters_end : (fs : List Frame) (n : ℕ) (a : Argument) (kind : ChoiceKind) (c : ℕ) → n + length fs ≡ 63
      → Parsed (steps.choice_letter_next fs a kind [] c) → Lettered [] (KindMore fs n out a kind) (c ∷ cs)
  kind_letters_end fs n a choice.Plural c d e = no_letters (inl (kind_end_left fs n a choice.Plural c d e))
  kind_letters_end fs n a choice.Ordinal c d e = no_letters (inl (kind_end_left fs n a choice.Ordinal c d e))
  kind_letters_end fs n a choice.Select c d e =
      let P : ℕ → Type 0 = λ k. Parsed (steps.choice_letter_next fs a choice.Select [] k)
      → Lettered [] (KindMore fs n out a choice.Select) (k ∷ cs) in
      equal_or P c 111 (λ e. no_letters
      (inr (ordinal (hyp fs (expected.ChoiceLetter a choice.Ordinal (codes "rdinal")) n d tt e))))
      (λ k. λ e. no_letters (inl (kind_end_left fs n a choice.Select c d (rw k at e)))) e
    where
      ordinal : Lettered (codes "rdinal") (KindMore fs n out a choice.Ordinal) cs
          → Lettered (codes "ordinal") (KindEndLeft fs n out a choice.Ordinal) (111 ∷ cs)
      ordinal l = by l.left
        where
          by : KindMore fs n out a choice.Ordinal l.tail
              → Lettered (codes "ordinal") (KindEndLeft fs n out a choice.Ordinal) (111 ∷ cs)
          by (inl k) = record { tail = l.tail; whole = ap (λ t. 111 ∷ t) l.whole; left = k }
          by (inr o) = absurd o

  pub choice_letter_left : (fs : List Frame) (n : ℕ) (a : Argument) (kind : ChoiceKind) (letters : List ℕ) (c : ℕ)
      → n + length fs ≡ 63
      → Parsed (steps.choice_letter_next fs a kind letters c) → Lettered letters (KindMore fs n out a kind) (c ∷ cs)
  choice_letter_left fs n a kind [] c d e = kind_letters_end fs n a kind c d e
  choice_letter_left fs n a kind (l ∷ ls) c d e =
      letter_left (KindMore fs n out a kind) fs (expected.ChoiceLetter a kind ls) l c ls
      (hyp fs (expected.ChoiceLetter a kind ls) n d tt) e

  -- keys

  pub key_left : (fs : List Frame) (n : ℕ) (p : OpenPlural) (starts : Bool) (c : ℕ) → n + length fs ≡ 63
      → Parsed (steps.key_next fs p starts c)
      → KeyLeft fs n out starts p (c ∷ cs)
  key_left fs n p starts c d =
      let P : ℕ → Type 0 = λ k. Parsed (steps.key_next fs p starts k) → KeyLeft fs n out starts p (k ∷ cs) in
      equal_or P c 61 (λ e. arms (61 ∷ cs) (exact_left fs n out p cs (hyp fs (expected.ExactKey p) n d tt e)))
      (λ a. equal_or P c 125 ends
      (λ b. equal_or P c 111 (λ e. unspaced (hyp fs (expected.KeyAfterO p starts) n d tt e))
      (λ f. equal_or P c 122 (λ e. named category.Zero 122 (codes "ero") refl
      (hyp fs (expected.KeyLetter p (arm_key.Named category.Zero) (codes "ero")) n d tt e))
      (λ g. equal_or P c 116 (λ e. named category.Two 116 (codes "wo") refl
      (hyp fs (expected.KeyLetter p (arm_key.Named category.Two) (codes "wo")) n d tt e))
      (λ h. equal_or P c 102 (λ e. named category.Few 102 (codes "ew") refl
      (hyp fs (expected.KeyLetter p (arm_key.Named category.Few) (codes "ew")) n d tt e))
      (λ i. equal_or P c 109 (λ e. named category.Many 109 (codes "any") refl
      (hyp fs (expected.KeyLetter p (arm_key.Named category.Many) (codes "any")) n d tt e))
      (λ j. λ e. holds_or _ (is_template_space c) (λ w. spaced c w (hyp fs (expected.Key p starts) n d tt (rw w at e)))
      (λ w. none_some _ (rw (w, a, b, f, g, h, i, j) at e)))))))))
    where
      arms : (text : List ℕ) → ArmsLeft fs n out p text → KeyLeft fs n out starts p text
      arms text h = unspaced (arms_tail fs n out starts p text h)

      named : (category : Category) (c : ℕ) (letters : List ℕ) → keyword category ≡ c ∷ letters
          → Lettered letters (KeyEndLeft fs n out p (arm_key.Named category)) cs → KeyLeft fs n out starts p (c ∷ cs)
      named category c letters e l = arms (c ∷ cs) (keyword_left fs n out p category (c ∷ []) letters cs e l)

      ends : Parsed (steps.plural_end fs p) → KeyLeft fs n out starts p (right_brace ∷ cs)
      ends e =
          holds_or _ (has_category category.Other p.named)
          (λ h. arms (right_brace ∷ cs) (record {
            arms = [];
            rest = cs;
            reads = icu.no_more (right_brace ∷ cs);
            other = h;
            follows = hyp fs (expected.Text (p.before ++ plural_part p ∷ []) [] expected.Unquoted) (suc n)
                (omega (arith, d)) tt (rw h at e);
          }))
          (λ h. none_some _ (rw h at e))

  pub key_after_o_left : (fs : List Frame) (n : ℕ) (p : OpenPlural) (starts : Bool) (c : ℕ) → n + length fs ≡ 63
      → Parsed (steps.key_after_o_next fs p starts c)
      → KeyTail fs n out starts p (111 ∷ (c ∷ cs))
  key_after_o_left fs n p starts c d =
      let P : ℕ → Type 0 = λ k. Parsed (steps.key_after_o_next fs p starts k)
      → KeyTail fs n out starts p (111 ∷ (k ∷ cs)) in
      equal_or P c 110 (λ e. arms_tail fs n out starts p _
      (keyword_left fs n out p category.One (codes "on") (codes "e") cs refl
      (hyp fs (expected.KeyLetter p (arm_key.Named category.One) (codes "e")) n d tt e)))
      (λ a. equal_or P c 116 (λ e. arms_tail fs n out starts p _
      (keyword_left fs n out p category.Other (codes "ot") (codes "her") cs refl
      (hyp fs (expected.KeyLetter p (arm_key.Named category.Other) (codes "her")) n d tt e)))
      (λ b. equal_or P c 102 (offset starts) (λ f. λ e. none_some _ (rw (a, b, f) at e))))
    where
      offset : (starts : Bool) → Parsed (steps.key_after_o_next fs p starts 102)
          → KeyTail fs n out starts p (111 ∷ (102 ∷ cs))
      offset false e = none_some _ e
      offset true e =
          let l : Lettered (codes "fset:") (OffsetLeft fs n out p) cs = hyp fs
          (expected.OffsetLetter p (codes "fset:")) n d tt e in
          inr (record { tail = l.tail; whole = ap (λ t. 111 ∷ (102 ∷ t)) l.whole; left = l.left })

  key_end_left : (fs : List Frame) (n : ℕ) (p : OpenPlural) (key : ArmKey) (c : ℕ) → n + length fs ≡ 63
      → Parsed (steps.key_end_next fs p key c)
      → KeyEndLeft fs n out p key (c ∷ cs)
  key_end_left fs n p key c d =
      let P : ℕ → Type 0 = λ k. Parsed (steps.key_end_next fs p key k) → KeyEndLeft fs n out p key (k ∷ cs) in
      equal_or P c 123 (λ e. unspaced
      (behind left_brace (hyp (frame.Plural p key ∷ fs) (expected.Text [] [] expected.Unquoted) n (omega (arith, d))
      tt e)))
      (λ k. λ e. holds_or _ (is_template_space c)
      (λ w. let l : Lettered [] (KeyEndLeft fs n out p key) cs = hyp fs (expected.KeyLetter p key []) n d tt (rw w at e)
      in spaced c w (all_letters l))
      (λ w. none_some _ (rw (w, k) at e)))

  pub key_letter_left : (fs : List Frame) (n : ℕ) (p : OpenPlural) (key : ArmKey) (letters : List ℕ) (c : ℕ)
      → n + length fs ≡ 63
      → Parsed (steps.key_letter_next fs p key letters c) → Lettered letters (KeyEndLeft fs n out p key) (c ∷ cs)
  key_letter_left fs n p key [] c d e = no_letters (key_end_left fs n p key c d e)
  key_letter_left fs n p key (l ∷ ls) c d e =
      letter_left (KeyEndLeft fs n out p key) fs (expected.KeyLetter p key ls) l c ls
      (hyp fs (expected.KeyLetter p key ls) n d tt) e

  pub offset_letter_left : (fs : List Frame) (n : ℕ) (p : OpenPlural) (letters : List ℕ) (c : ℕ) → n + length fs ≡ 63
      → Parsed (steps.offset_letter_next fs p letters c) → Lettered letters (OffsetLeft fs n out p) (c ∷ cs)
  offset_letter_left fs n p [] c d e =
      holds_or _ (is_template_space c)
      (λ w. let l : Lettered [] (OffsetLeft fs n out p) cs = hyp fs (expected.OffsetLetter p []) n d tt (rw w at e) in
      no_letters (spaced c w (all_letters l)))
      (λ w. holds_or _ (is_ascii_digit c)
      (λ g. no_letters (unspaced (numbered c cs g
      (hyp fs (expected.OffsetDigit p (c - 48)) n d (first_fits c g) (rw (w, g) at e)))))
      (λ g. none_some _ (rw (w, g) at e)))
  offset_letter_left fs n p (l ∷ ls) c d e =
      letter_left (OffsetLeft fs n out p) fs (expected.OffsetLetter p ls) l c ls
      (hyp fs (expected.OffsetLetter p ls) n d tt) e

  pub offset_digit_left : (fs : List Frame) (n : ℕ) (p : OpenPlural) (v : ℕ) (c : ℕ) → n + length fs ≡ 63 → v ≤ largest
      → Parsed (steps.offset_digit_next fs p v c) → Left fs n out (expected.OffsetDigit p v) (c ∷ cs)
  offset_digit_left fs n p v c d f e =
      holds_or _ (is_ascii_digit c)
      (λ g. holds_or _ (nat_le (more_digits v c) largest)
      (λ h. more_digit v c cs g (hyp fs (expected.OffsetDigit p (more_digits v c)) n d
      (leb-true (more_digits v c) largest h) (rw (g, h) at e)))
      (λ h. none_some _ (rw (g, h) at e)))
      (λ g. no_more_digits v (c ∷ cs) f (key_left fs n (with_offset p v) false c d (rw g at e)))

  first_digit_left : (fs : List Frame) (n : ℕ) (p : OpenPlural) (minus : Bool) (c : ℕ) → n + length fs ≡ 63
      → Parsed (steps.first_digit_next fs p minus c)
      → Numbered (NumberLeft fs n out p minus) (c ∷ cs)
  first_digit_left fs n p minus c d e =
      holds_or _ (is_ascii_digit c) (λ g. numbered c cs g
      (hyp fs (expected.KeyDigit p minus (c - 48)) n d (first_fits c g) (rw g at e)))
      (λ g. none_some _ (rw g at e))

  pub negative_left : (fs : List Frame) (n : ℕ) (p : OpenPlural) (c : ℕ) → n + length fs ≡ 63
      → Parsed (steps.first_digit_next fs p true c)
      → Numbered (NumberLeft fs n out p true) (c ∷ cs)
  negative_left fs n p c d e = first_digit_left fs n p true c d e

  pub exact_key_left : (fs : List Frame) (n : ℕ) (p : OpenPlural) (c : ℕ) → n + length fs ≡ 63
      → Parsed (steps.exact_key_next fs p c)
      → Left fs n out (expected.ExactKey p) (c ∷ cs)
  exact_key_left fs n p c d =
      let P : ℕ → Type 0 = λ k. Parsed (steps.exact_key_next fs p k) → Left fs n out (expected.ExactKey p) (k ∷ cs) in
      equal_or P c 45 (λ e. unspaced (inr (behind minus_sign (hyp fs (expected.NegativeKey p) n d tt e))))
      (λ k. λ e. holds_or _ (is_template_space c) (λ w. spaced c w (hyp fs (expected.ExactKey p) n d tt (rw w at e)))
      (λ w. unspaced (inl (first_digit_left fs n p false c d (rw (w, k) at e)))))

  pub key_digit_left : (fs : List Frame) (n : ℕ) (p : OpenPlural) (minus : Bool) (v : ℕ) (c : ℕ) → n + length fs ≡ 63
      → v ≤ largest
      → Parsed (steps.key_digit_next fs p minus v c) → Left fs n out (expected.KeyDigit p minus v) (c ∷ cs)
  key_digit_left fs n p minus v c d f e =
      holds_or _ (is_ascii_digit c)
      (λ g. holds_or _ (nat_le (more_digits v c) largest)
      (λ h. more_digit v c cs g (hyp fs (expected.KeyDigit p minus (more_digits v c)) n d
      (leb-true (more_digits v c) largest h) (rw (g, h) at e)))
      (λ h. none_some _ (rw (g, h) at e)))
      (λ g. no_more_digits v (c ∷ cs) f (key_end_left fs n p (arm_key.Exact (signed minus v)) c d (rw g at e)))

  -- words

  pub word_end_left : (fs : List Frame) (n : ℕ) (s : OpenSelect) (word : List ℕ) (c : ℕ) → n + length fs ≡ 63
      → Parsed (steps.word_end_next fs s word c)
      → WordEndLeft fs n out s word (c ∷ cs)
  word_end_left fs n s word c d =
      let P : ℕ → Type 0 = λ k. Parsed (steps.word_end_next fs s word k) → WordEndLeft fs n out s word (k ∷ cs) in
      equal_or P c 123 (λ e. unspaced
      (behind left_brace (hyp (frame.Select s word ∷ fs) (expected.Text [] [] expected.Unquoted) n (omega (arith, d))
      tt e)))
      (λ k. λ e. holds_or _ (is_template_space c)
      (λ w. spaced c w (hyp fs (expected.WordEnd s word) n d tt (rw w at e))) (λ w. none_some _ (rw (w, k) at e)))

  pub word_character_left : (fs : List Frame) (n : ℕ) (s : OpenSelect) (word : List ℕ) (c : ℕ) → n + length fs ≡ 63
      → Parsed (steps.word_character_next fs s word c) → Left fs n out (expected.WordCharacter s word) (c ∷ cs)
  word_character_left fs n s word c d e =
      holds_or _ (is_word_character c)
      (λ k. more_passed is_word_character word c cs k
      (hyp fs (expected.WordCharacter s (word ++ c ∷ [])) n d tt (rw k at e)))
      (λ k. no_more_passed is_word_character word (c ∷ cs) (word_end_left fs n s word c d (rw k at e)))

  words_made : (fs : List Frame) (n : ℕ) (s : OpenSelect) (c : ℕ) → is_word_character c ≡ true
      → Passed is_word_character (c ∷ []) (WordEndLeft fs n out s) cs
      → WordsLeft fs n out s (c ∷ cs)
  words_made fs n s c k p =
      subst (λ t. WordsLeft fs n out s (c ∷ t)) (sym p.whole)
      (word_left fs n out s (c ∷ p.more) p.tail
      (record {
        characters = and_both (is_word_character c) (list_all is_word_character p.more) k p.passes;
        some = λ e.
            cc e;
      }) p.left)

  pub word_step_left : (fs : List Frame) (n : ℕ) (s : OpenSelect) (c : ℕ) → n + length fs ≡ 63
      → Parsed (steps.word_next fs s c)
      → After (WordsLeft fs n out s) (c ∷ cs)
  word_step_left fs n s c d =
      let P : ℕ → Type 0 = λ k. Parsed (steps.word_next fs s k) → After (WordsLeft fs n out s) (k ∷ cs) in
      equal_or P c 125 ends
      (λ b. λ e. holds_or _ (is_template_space c) (λ w. spaced c w (hyp fs (expected.Word s) n d tt (rw w at e)))
      (λ w. holds_or _ (is_word_character c)
      (λ k. unspaced (words_made fs n s c k (hyp fs (expected.WordCharacter s (c ∷ [])) n d tt (rw (w, b, k) at e))))
      (λ k. none_some _ (rw (w, b, k) at e))))
    where
      ends : Parsed (steps.select_end fs s) → After (WordsLeft fs n out s) (right_brace ∷ cs)
      ends e =
          holds_or _ (has_word (codes "other") s.arms)
          (λ h. unspaced (record {
            arms = [];
            rest = cs;
            reads = icu.no_more_words (right_brace ∷ cs);
            other = h;
            follows = hyp fs (expected.Text (s.before ++ select_part s ∷ []) [] expected.Unquoted) (suc n)
                (omega (arith, d)) tt (rw h at e);
          }))
          (λ h. none_some _ (rw h at e))

  -- any

  pub plain_step_left : (fs : List Frame) (n : ℕ) (ps : List MsgPart) (t : List ℕ) (c : ℕ) → n + length fs ≡ 64
      → Parsed (steps.plain_next fs ps t c)
      → TextLeft fs n out (ps, t) (c ∷ cs)
  plain_step_left fs n ps t c d e = plain_left fs n ps t c d e
