-- Keys, words and offsets, along the machine.
use Rattle.std.proofs.Common.{◌≡◌, ℕ, ◌+◌, ◌-◌, ◌*◌, ◌≤◌, nat_le, ◌==◌, Bool, true, false, List, [], ◌∷◌, ◌++◌}
use Rattle.std.proofs.Common.{Some, refl, sym, ◌∙◌, ap, subst, append_assoc, append-nil, IsTrue, arith}
use Rattle.std.specs.Prelude.{codes}
use Rattle.std.specs.Char.{is_ascii_digit, digit_value}
use Rattle.std.specs.List.{list_all}
use Rattle.std.specs.Str.Parse.{digits_value_after}
use Rattle.std.proofs.lemmas.Bool.{le-leb}
use Rattle.std.proofs.lemmas.Bool.Decides.{nat_tests}
use Rattle.plural_rules.specs.declared.category.Category.TheVariants as category
use Rattle.soy_base.specs.Characters.{left_brace, minus_sign}
use Rattle.soy_base.specs.WhiteSpace.{is_template_space}
use Rattle.soy_base.specs.Limits.{largest}
use Rattle.soy_tree.specs.Formed.{is_word_character}
use Rattle.soy_rules.specs.IcuText.{IsNumber, IsKey, IsWord, Key, exact, negative, named}
use Rattle.icu_text.specs.declared.state.ArmKey.{ArmKey}
use Rattle.icu_text.specs.declared.state.ArmKey.TheVariants as arm_key
use Rattle.icu_text.specs.declared.state.OpenPlural.{OpenPlural}
use Rattle.icu_text.specs.declared.state.OpenSelect.{OpenSelect}
use Rattle.icu_text.specs.declared.state.Frame.{Frame}
use Rattle.icu_text.specs.declared.state.Frame.TheVariants as frame
use Rattle.icu_text.specs.PatternStates.{Expected}
use Rattle.icu_text.specs.PatternStates as expected
use Rattle.icu_text.specs.PatternStates.{PatternState}
use Rattle.icu_text.specs.PatternSteps.{pattern_next, more_digits, number_or, signed}
use Rattle.icu_text.proofs.CharacterTests.{and_left, and_right, not_that, not_white, white_fails}
use Rattle.icu_text.proofs.PatternRunning.{at, in_text, parsed, step, stays, through}
use Rattle.icu_text.proofs.KeptArms.{arm_key_of}

-- digits

pub digit_is : (c : ℕ) → is_ascii_digit c ≡ true → digit_value c ≡ c - 48
digit_is c h = grind (arith, nat_tests, h)

pub more_is : (n c : ℕ) → is_ascii_digit c ≡ true → n * 10 + digit_value c ≡ more_digits n c
more_is n c h = ap (λ d. n * 10 + d) (digit_is c h)

pub after_least : (ds : List ℕ) (n : ℕ) → n ≤ digits_value_after 10 n ds
after_least [] n = omega arith
after_least (c ∷ ds) n = let more : n * 10 + digit_value c ≤ digits_value_after 10 (n * 10 + digit_value c) ds =
    after_least ds (n * 10 + digit_value c) in omega (arith, more)

module _ (to : ℕ → Expected) (fs : List Frame)
    (more : (n c : ℕ) → is_ascii_digit c ≡ true → pattern_next (at fs (to n)) c ≡ number_or to fs (more_digits n c))
  where
    number_more : (ds : List ℕ) → IsTrue (list_all is_ascii_digit ds) → (n : ℕ) → digits_value_after 10 n ds ≤ largest
        → (tail : List ℕ)
        → parsed (ds ++ tail) (at fs (to n)) ≡ parsed tail (at fs (to (digits_value_after 10 n ds)))
    number_more [] h n within tail = refl
    number_more (c ∷ ds) h n within tail =
        let digit : is_ascii_digit c ≡ true = and_left (is_ascii_digit c) (list_all is_ascii_digit ds) h in
        let least : n * 10 + digit_value c ≤ digits_value_after 10 (n * 10 + digit_value c) ds = after_least ds
        (n * 10 + digit_value c) in
        let fits : nat_le (more_digits n c) largest ≡ true = le-leb _ _
        (subst (λ m. m ≤ largest) (more_is n c digit) (omega (arith, least, within))) in
        step c (ds ++ tail) (at fs (to n)) (at fs (to (more_digits n c))) (more n c digit ∙ rw fits refl)
        ∙ (ap (λ m. parsed (ds ++ tail) (at fs (to m))) (sym (more_is n c digit))
        ∙ number_more ds (and_right (is_ascii_digit c) (list_all is_ascii_digit ds) h) (n * 10 + digit_value c) within
        tail)

    pub number_on : (s : PatternState)
        → ((c : ℕ) → is_ascii_digit c ≡ true → pattern_next s c ≡ Some (at fs (to (c - 48))))
        → (digits : List ℕ) (v : ℕ) → IsNumber digits v → (tail : List ℕ)
        → parsed (digits ++ tail) s ≡ parsed tail (at fs (to v))
    number_on s first [] v h tail = absurd (h.some refl)
    number_on s first (c ∷ ds) v h tail =
        let digit : is_ascii_digit c ≡ true = and_left (is_ascii_digit c) (list_all is_ascii_digit ds) h.digits in
        let starts : 0 * 10 + digit_value c ≡ c - 48 = ap (λ d. 0 * 10 + d) (digit_is c digit) ∙ omega arith in
        let value : digits_value_after 10 (c - 48) ds ≡ v =
        ap (λ n. digits_value_after 10 n ds) (sym starts) ∙ h.value in
        let within : digits_value_after 10 (c - 48) ds ≤ largest = subst (λ n. n ≤ largest) (sym value) h.within in
        step c (ds ++ tail) s (at fs (to (c - 48))) (first c digit)
        ∙ (number_more ds (and_right (is_ascii_digit c) (list_all is_ascii_digit ds) h.digits) (c - 48) within tail ∙ ap
        (λ n. parsed tail (at fs (to n))) value)

-- keys

abbrev pub in_arm : List Frame → OpenPlural → ArmKey → PatternState
in_arm fs plural key = in_text (frame.Plural plural key ∷ fs) ([], [])

key_end_on : (white : List ℕ) → IsTrue (list_all is_template_space white)
    → (inside : List ℕ) (fs : List Frame) (plural : OpenPlural) (key : ArmKey)
    → parsed (white ++ left_brace ∷ inside) (at fs (expected.KeyLetter plural key [])) ≡ parsed inside
    (in_arm fs plural key)
key_end_on white h inside fs plural key =
    stays (at fs (expected.KeyLetter plural key [])) (λ c w. rw w refl) white (left_brace ∷ inside) h

number_end_on : (white : List ℕ) → IsTrue (list_all is_template_space white)
    → (inside : List ℕ) (fs : List Frame) (plural : OpenPlural) (minus : Bool) (n : ℕ)
    → parsed (white ++ left_brace ∷ inside) (at fs (expected.KeyDigit plural minus n)) ≡ parsed inside
    (in_arm fs plural (arm_key.Exact (signed minus n)))
number_end_on white h inside fs plural minus n =
    through (at fs (expected.KeyDigit plural minus n))
    (at fs (expected.KeyLetter plural (arm_key.Exact (signed minus n)) []))
    (λ c w. let no : is_ascii_digit c ≡ false = white_fails is_ascii_digit refl refl refl refl c w in rw (no, w) refl)
    (λ c w. rw w refl) white (left_brace ∷ inside) h refl

key_number_on : (digits : List ℕ) (n : ℕ) → IsNumber digits n → (tail : List ℕ) (fs : List Frame) (plural : OpenPlural)
    → parsed (digits ++ tail) (at fs (expected.ExactKey plural)) ≡ parsed tail
    (at fs (expected.KeyDigit plural false n))
key_number_on digits n h tail fs plural =
    number_on (expected.KeyDigit plural false) fs (λ m c d. rw d refl) (at fs (expected.ExactKey plural))
    (λ c d. let no_white : is_template_space c ≡ false = not_white is_ascii_digit refl refl refl refl c d in
    let no_minus : (c == 45) ≡ false = not_that is_ascii_digit 45 refl c d in rw
    (no_white, no_minus, d) refl) digits n h tail

negative_number_on : (digits : List ℕ) (n : ℕ) → IsNumber digits n
    → (tail : List ℕ) (fs : List Frame) (plural : OpenPlural)
    → parsed (digits ++ tail) (at fs (expected.NegativeKey plural)) ≡ parsed tail
    (at fs (expected.KeyDigit plural true n))
negative_number_on digits n h tail fs plural =
    number_on (expected.KeyDigit plural true) fs (λ m c d. rw d refl) (at fs (expected.NegativeKey plural))
    (λ c d. rw d refl) digits n h tail

pub key_on : (text : List ℕ) (key : Key) → IsKey text key → (white : List ℕ) → IsTrue (list_all is_template_space white)
    → (inside : List ℕ)
    → (fs : List Frame) (plural : OpenPlural) (starts : Bool)
    → parsed (text ++ (white ++ left_brace ∷ inside)) (at fs (expected.Key plural starts)) ≡ parsed inside
    (in_arm fs plural (arm_key_of key))
key_on _ _ (exact space digits n is_space is) white h inside fs plural starts =
    ap (λ l. parsed l (at fs (expected.ExactKey plural))) (append_assoc space digits (white ++ left_brace ∷ inside))
    ∙ (stays (at fs (expected.ExactKey plural)) (λ c w. rw w refl) space (digits ++ (white ++ left_brace ∷ inside))
    is_space
    ∙ (key_number_on digits n is (white ++ left_brace ∷ inside) fs plural ∙ number_end_on white h inside fs plural false
    n))
key_on _ _ (negative space digits n is_space is) white h inside fs plural starts =
    ap (λ l. parsed l (at fs (expected.ExactKey plural)))
    (append_assoc space (minus_sign ∷ digits) (white ++ left_brace ∷ inside))
    ∙ (stays (at fs (expected.ExactKey plural)) (λ c w. rw w refl) space
    (minus_sign ∷ (digits ++ (white ++ left_brace ∷ inside))) is_space
    ∙ (negative_number_on digits n is (white ++ left_brace ∷ inside) fs plural ∙ number_end_on white h inside fs plural
    true n))
key_on _ _ (named category.Zero) white h inside fs plural starts =
    key_end_on white h inside fs plural (arm_key.Named category.Zero)
key_on _ _ (named category.One) white h inside fs plural starts =
    key_end_on white h inside fs plural (arm_key.Named category.One)
key_on _ _ (named category.Two) white h inside fs plural starts =
    key_end_on white h inside fs plural (arm_key.Named category.Two)
key_on _ _ (named category.Few) white h inside fs plural starts =
    key_end_on white h inside fs plural (arm_key.Named category.Few)
key_on _ _ (named category.Many) white h inside fs plural starts =
    key_end_on white h inside fs plural (arm_key.Named category.Many)
key_on _ _ (named category.Other) white h inside fs plural starts =
    key_end_on white h inside fs plural (arm_key.Named category.Other)

-- offsets

pub offset_number_on : (white : List ℕ) → IsTrue (list_all is_template_space white) → (digits : List ℕ) (n : ℕ)
    → IsNumber digits n → (tail : List ℕ)
    → (fs : List Frame) (plural : OpenPlural)
    → parsed (codes "offset:" ++ (white ++ (digits ++ tail))) (at fs (expected.Key plural true)) ≡ parsed tail
    (at fs (expected.OffsetDigit plural n))
offset_number_on white h digits n is tail fs plural =
    stays (at fs (expected.OffsetLetter plural [])) (λ c w. rw w refl) white (digits ++ tail) h
    ∙ number_on (expected.OffsetDigit plural) fs (λ m c d. rw d refl) (at fs (expected.OffsetLetter plural []))
    (λ c d. let no_white : is_template_space c ≡ false = not_white is_ascii_digit refl refl refl refl c d in rw
    (no_white, d) refl) digits n is tail

-- words

word_more : (more : List ℕ) → IsTrue (list_all is_word_character more)
    → (tail : List ℕ) (fs : List Frame) (select : OpenSelect) (word : List ℕ)
    → parsed (more ++ tail) (at fs (expected.WordCharacter select word)) ≡ parsed tail
    (at fs (expected.WordCharacter select (word ++ more)))
word_more [] h tail fs select word =
    ap (λ n. parsed tail (at fs (expected.WordCharacter select n))) (sym (append-nil word))
word_more (c ∷ more) h tail fs select word =
    let passes : is_word_character c ≡ true = and_left (is_word_character c) (list_all is_word_character more) h in
    rw passes (word_more more (and_right (is_word_character c) (list_all is_word_character more) h) tail fs select
    (word ++ c ∷ [])
    ∙ ap (λ n. parsed tail (at fs (expected.WordCharacter select n))) (append_assoc word (c ∷ []) more))

word_end_on : (white : List ℕ) → IsTrue (list_all is_template_space white)
    → (inside : List ℕ) (fs : List Frame) (select : OpenSelect) (word : List ℕ)
    → parsed (white ++ left_brace ∷ inside) (at fs (expected.WordCharacter select word)) ≡ parsed inside
    (in_text (frame.Select select word ∷ fs) ([], []))
word_end_on white h inside fs select word =
    through (at fs (expected.WordCharacter select word)) (at fs (expected.WordEnd select word))
    (λ c w. let no : is_word_character c ≡ false = white_fails is_word_character refl refl refl refl c w in rw (no, w)
    refl)
    (λ c w. rw w refl) white (left_brace ∷ inside) h refl

pub word_on : (word : List ℕ) → IsWord word → (white : List ℕ) → IsTrue (list_all is_template_space white)
    → (inside : List ℕ)
    → (fs : List Frame) (select : OpenSelect)
    → parsed (word ++ (white ++ left_brace ∷ inside)) (at fs (expected.Word select)) ≡ parsed inside
    (in_text (frame.Select select word ∷ fs) ([], []))
word_on [] is white h inside fs select = absurd (is.some refl)
word_on (c ∷ cs) is white h inside fs select =
    let passes : is_word_character c ≡ true = and_left (is_word_character c)
    (list_all is_word_character cs) is.characters in
    let no_white : is_template_space c ≡ false = not_white is_word_character refl refl refl refl c passes in
    let no_brace : (c == 125) ≡ false = not_that is_word_character 125 refl c passes in
    rw (no_white, no_brace, passes)
    (word_more cs (and_right (is_word_character c) (list_all is_word_character cs) is.characters)
    (white ++ left_brace ∷ inside) fs select (c ∷ [])
    ∙ word_end_on white h inside fs select (c ∷ cs))
