-- What is a pattern is read by the machine, to its parts.
use Rattle.std.proofs.Common.{◌≡◌, ℕ, ◌+◌, ◌≤◌, Bool, true, false, List, [], ◌∷◌, ◌++◌, length, Option, Some}
use Rattle.std.proofs.Common.{None, refl, sym, ◌∙◌, ap, subst, append_assoc, IsTrue, arith}
use Rattle.std.specs.Prelude.{codes}
use Rattle.std.specs.Char.{is_ascii_digit}
use Rattle.std.specs.List.{list_all}
use Rattle.std.proofs.lemmas.Bool.{le-leb}
use Rattle.plural_rules.specs.declared.category.Category.TheVariants as category
use Rattle.soy_base.specs.Characters.{single_quote, left_brace, right_brace, number_sign, comma}
use Rattle.soy_base.specs.WhiteSpace.{is_template_space}
use Rattle.soy_tree.specs.MessageParts.{MsgPart, MsgParts, NumberPart}
use Rattle.soy_tree.specs.MessageParts.{no_part}
use Rattle.soy_tree.specs.ViewMessageParts.{parts_of}
use Rattle.soy_rules.specs.IcuText.{PatternMode, AtTop, InPlural, InSelect, is_quotable, begins_quotable, is_plain}
use Rattle.soy_rules.specs.IcuText.{Reads, stop, plain, two, single, quoted, number, argument, IsArgument, placeholder}
use Rattle.soy_rules.specs.IcuText.{plural, select, PluralArms, no_more, plural_arm, WordArms, no_more_words, word_arm}
use Rattle.soy_rules.specs.IcuText.{IsSpacedKeyword, plural_keyword, IsOffset, none, given, IsKey, exact, negative}
use Rattle.soy_rules.specs.IcuText.{named, Key, is_other, exact_arms, named_arms, select_arms, IsPattern}
use Rattle.icu_text.specs.PatternStates.{Argument}
use Rattle.icu_text.specs.declared.state.ChoiceKind.TheVariants as choice
use Rattle.icu_text.specs.declared.state.OpenPlural.{OpenPlural}
use Rattle.icu_text.specs.declared.state.OpenSelect.{OpenSelect}
use Rattle.icu_text.specs.declared.state.Frame.{Frame}
use Rattle.icu_text.specs.declared.state.Frame.TheVariants as frame
use Rattle.icu_text.specs.PatternStates as expected
use Rattle.icu_text.specs.FirstArms.{has_category, has_word}
use Rattle.icu_text.specs.PatternSteps.{pattern_mode, with_arm, with_word, with_offset, new_plural, new_select}
use Rattle.icu_text.specs.PatternSteps.{plural_part, select_part}
use Rattle.icu_text.specs.PatternReading.{pattern_start}
use Rattle.icu_text.proofs.CharacterTests.{white_fails}
use Rattle.icu_text.proofs.PatternRunning.{at, in_text, parsed, step, stays, through}
use Rattle.icu_text.proofs.KeptArms.{arm_key_of, with_arms, with_words, plural_is, plural_before, plural_other}
use Rattle.icu_text.proofs.KeptArms.{select_is_part, select_before, select_other}
use Rattle.icu_text.proofs.ReadParts.{with_parts, with_part, with_more, IsNoText, IsJoined, joined_more, joined_part}
use Rattle.icu_text.proofs.ReadParts.{all_parts, read_is}
use Rattle.icu_text.proofs.PlainText.{plain_adds, lone_on, quote_on, quoted_on}
use Rattle.icu_text.proofs.Heads.{joined_three, spaced_name_on, choice_on}
use Rattle.icu_text.proofs.Keys.{key_on, word_on, offset_number_on}

pub no_text : {n : ℕ} {text rest : List ℕ} {p : MsgPart} → IsArgument n text p rest → IsNoText p
no_text (placeholder text rest name s) = tt
no_text (plural text word offset inside rest name ordinal by arms s w o a h) = tt
no_text (select text word inside rest name arms s w a h) = tt

pub reads_joined : {at : PatternMode} {n : ℕ} {text rest : List ℕ} {ps : MsgParts} → Reads at n text ps rest
    → IsJoined true ps
reads_joined (stop rest) = tt
reads_joined (plain c text rest ps qs h r e) = joined_more (c ∷ []) ps qs e (reads_joined r)
reads_joined (two text rest ps qs r e) = joined_more (single_quote ∷ []) ps qs e (reads_joined r)
reads_joined (single text rest ps qs h g r e) = joined_more (single_quote ∷ []) ps qs e (reads_joined r)
reads_joined (quoted text chars after rest ps qs h q r e) = joined_more chars ps qs e (reads_joined r)
reads_joined (number text rest ps r) = joined_part NumberPart ps tt (reads_joined r)
reads_joined (argument text after rest p ps a r) = joined_part p ps (no_text a) (reads_joined r)

number_sign_on : (fs : List Frame) → pattern_mode fs ≡ InPlural → (text : List ℕ) (l : List MsgPart × List ℕ)
    → parsed (number_sign ∷ text) (in_text fs l) ≡ parsed text (in_text fs (all_parts l ++ NumberPart ∷ [], []))
number_sign_on [] e text l = absurd (cc e)
number_sign_on (frame.Plural plural' key ∷ fs) e text l = refl
number_sign_on (frame.Select select' word ∷ fs) e text l = absurd (cc e)

brace_on : (fs : List Frame) → length fs ≤ 63 → (text : List ℕ) (l : List MsgPart × List ℕ)
    → parsed (left_brace ∷ text) (in_text fs l) ≡ parsed text (at fs (expected.Name (all_parts l)))
brace_on fs h text l = rw (le-leb (length fs) 63 h) refl

plural_choice_on : (ordinal : Bool) (text : List ℕ) → IsSpacedKeyword text (plural_keyword ordinal)
    → (tail : List ℕ) (fs : List Frame) (a : Argument)
    → parsed (text ++ tail) (at fs (expected.NameEnd a)) ≡ parsed tail
    (at fs (expected.Key (new_plural ordinal a) true))
plural_choice_on false text s tail fs a = choice_on choice.Plural text s tail fs a
plural_choice_on true text s tail fs a = choice_on choice.Ordinal text s tail fs a

-- a name, and what begins with a comma
name_then : (text name word tail : List ℕ) → Rattle.soy_rules.specs.IcuText.IsSpacedName text name → (more : List ℕ)
    → word ≡ comma ∷ more → (fs : List Frame) (before : List MsgPart)
    → parsed (text ++ (word ++ tail)) (at fs (expected.Name before)) ≡ parsed (word ++ tail)
    (at fs (expected.NameEnd (record { before = before; name = name })))
name_then text name word tail s more e fs before =
    rw e (spaced_name_on text name s comma (more ++ tail) refl fs before)

-- whether a text begins with a digit
abbrev begins_digit : List ℕ → Bool
begins_digit [] = false
begins_digit (c ∷ cs) = is_ascii_digit c

key_no_digit : (text more : List ℕ) (key : Key) → IsKey text key → begins_digit (text ++ more) ≡ false
key_no_digit _ more _ (exact white digits n w h) = refl
key_no_digit _ more _ (negative white digits n w h) = refl
key_no_digit _ more _ (named category.Zero) = refl
key_no_digit _ more _ (named category.One) = refl
key_no_digit _ more _ (named category.Two) = refl
key_no_digit _ more _ (named category.Few) = refl
key_no_digit _ more _ (named category.Many) = refl
key_no_digit _ more _ (named category.Other) = refl

arms_no_digit : {n : ℕ} {text rest : List ℕ} {arms : List (Key × MsgParts)} → PluralArms n text arms rest
    → (after : List ℕ) → rest ≡ right_brace ∷ after → begins_digit text ≡ false
arms_no_digit (no_more rest) after e = rw e refl
arms_no_digit (plural_arm text white inside after' text' rest key ps arms k w r a m) after e =
    key_no_digit text (white ++ left_brace ∷ inside) key k

offset_left : (inside : List ℕ) → begins_digit inside ≡ false → (fs : List Frame) (plural' : OpenPlural) (n : ℕ)
    → parsed inside (at fs (expected.OffsetDigit plural' n)) ≡ parsed inside
    (at fs (expected.Key (with_offset plural' n) false))
offset_left [] h fs plural' n = refl
offset_left (c ∷ cs) h fs plural' n = rw h refl

offset_end_on : (white : List ℕ) → IsTrue (list_all is_template_space white) → (inside : List ℕ)
    → begins_digit inside ≡ false → (fs : List Frame) (plural' : OpenPlural) (n : ℕ)
    → parsed (white ++ inside) (at fs (expected.OffsetDigit plural' n)) ≡ parsed inside
    (at fs (expected.Key (with_offset plural' n) false))
offset_end_on white h inside no_digit fs plural' n =
    through (at fs (expected.OffsetDigit plural' n)) (at fs (expected.Key (with_offset plural' n) false))
    (λ c w. let no : is_ascii_digit c ≡ false = white_fails is_ascii_digit refl refl refl refl c w in rw (no, w) refl)
    (λ c w. rw w refl) white inside h (offset_left inside no_digit fs plural' n)

pub joined_offset : (white digits after inside : List ℕ)
    → (codes "offset:" ++ (white ++ (digits ++ after))) ++ inside ≡ codes "offset:" ++
    (white ++ (digits ++ (after ++ inside)))
joined_offset white digits after inside =
    append_assoc (codes "offset:") (white ++ (digits ++ after)) inside
    ∙ ap (λ l. codes "offset:" ++ l) (joined_three white digits after inside)

-- an offset, or none, where what follows is read alike
offset_on : (offset : List ℕ) (by : ℕ) → IsOffset offset by → (inside : List ℕ) → begins_digit inside ≡ false
    → (fs : List Frame) (ordinal : Bool) (a : Argument)
    → (end : Option (List MsgPart))
    → ((starts : Bool) → parsed inside (at fs (expected.Key (with_offset (new_plural ordinal a) by) starts)) ≡ end)
    → parsed (offset ++ inside) (at fs (expected.Key (new_plural ordinal a) true)) ≡ end
offset_on _ _ none inside no_digit fs ordinal a end e = e true
offset_on _ _ (given white digits after n w h v) inside no_digit fs ordinal a end e =
    ap (λ l. parsed l (at fs (expected.Key (new_plural ordinal a) true))) (joined_offset white digits after inside)
    ∙ (offset_number_on white w digits n h (after ++ inside) fs (new_plural ordinal a)
    ∙ (offset_end_on after v inside no_digit fs (new_plural ordinal a) n ∙ e false))

mutual
  pub reads_on : {at : PatternMode} {n : ℕ} {text rest : List ℕ} {ps : MsgParts} → Reads at n text ps rest
      → (fs : List Frame) → pattern_mode fs ≡ at → n + length fs ≡ 64
      → (l : List MsgPart × List ℕ) → parsed text (in_text fs l) ≡ parsed rest (in_text fs (with_parts l ps))
  reads_on (stop rest) fs e d l = refl
  reads_on (plain c text rest ps qs h r w) fs e d l =
      step c text (in_text fs l) (in_text fs (l.0, l.1 ++ c ∷ []))
      (plain_adds fs l.0 l.1 c (subst (λ s. is_plain s c ≡ true) (sym e) h))
      ∙ (reads_on r fs e d (l.0, l.1 ++ c ∷ []) ∙ ap (λ m. parsed rest (in_text fs m))
      (with_more l (c ∷ []) ps ∙ ap (with_parts l) (sym w)))
  reads_on (two text rest ps qs r w) fs e d l =
      reads_on r fs e d (l.0, l.1 ++ single_quote ∷ [])
      ∙ ap (λ m. parsed rest (in_text fs m)) (with_more l (single_quote ∷ []) ps ∙ ap (with_parts l) (sym w))
  reads_on (single text rest ps qs h g r w) fs e d l =
      lone_on text fs l h (subst (λ s. begins_quotable s text ≡ false) (sym e) g)
      ∙ (reads_on r fs e d (l.0, l.1 ++ single_quote ∷ []) ∙ ap (λ m. parsed rest (in_text fs m))
      (with_more l (single_quote ∷ []) ps ∙ ap (with_parts l) (sym w)))
  reads_on (quoted text chars after rest ps qs h q r w) fs e d l =
      quote_on text fs l (subst (λ s. begins_quotable s text ≡ true) (sym e) h)
      ∙ (quoted_on text chars after q fs l
      ∙ (reads_on r fs e d (l.0, l.1 ++ chars) ∙ ap (λ m. parsed rest (in_text fs m))
      (with_more l chars ps ∙ ap (with_parts l) (sym w))))
  reads_on (number text rest ps r) fs e d l =
      number_sign_on fs e text l ∙ reads_on r fs e d (all_parts l ++ NumberPart ∷ [], [])
  reads_on (argument {n = n} text after rest p ps a r) fs e d l =
      let few : length fs ≤ 63 = omega (arith, d) in
      let inside : n + length fs ≡ 63 = omega (arith, d) in
      brace_on fs few text l
      ∙ (argument_on a after refl fs inside (all_parts l)
      ∙ (reads_on r fs e d (all_parts l ++ p ∷ [], []) ∙ ap (λ m. parsed rest (in_text fs m))
      (with_part l p ps (no_text a))))

  pub argument_on : {n : ℕ} {text rest : List ℕ} {p : MsgPart} → IsArgument n text p rest → (after : List ℕ)
      → rest ≡ right_brace ∷ after
      → (fs : List Frame) → n + length fs ≡ 63 → (before : List MsgPart)
      → parsed text (at fs (expected.Name before)) ≡ parsed after (in_text fs (before ++ p ∷ [], []))
  argument_on (placeholder text rest name s) after e fs d before =
      ap (λ l. parsed (text ++ l) (at fs (expected.Name before))) e
      ∙ spaced_name_on text name s right_brace after refl fs before
  argument_on (plural text word offset inside rest name ordinal by arms s w o m h) after e fs d before =
      let a : Argument = record { before = before; name = name } in
      name_then text name word (offset ++ inside) s _ w.whole fs before
      ∙ (plural_choice_on ordinal word w (offset ++ inside) fs a
      ∙ (offset_on offset by o inside (arms_no_digit m after e) fs ordinal a _
      (λ starts. arms_on m after e fs d (with_offset (new_plural ordinal a) by) (plural_other a ordinal by arms ∙ h)
      starts)
      ∙ (λ i. parsed after (in_text fs
      (plural_before (with_offset (new_plural ordinal a) by) arms i ++ plural_is a ordinal by arms i ∷ [], [])))))
  argument_on (select text word inside rest name arms s w m h) after e fs d before =
      let a : Argument = record { before = before; name = name } in
      name_then text name word inside s _ w.whole fs before
      ∙ (choice_on choice.Select word w inside fs a
      ∙ (words_on m after e fs d (new_select a) (select_other a arms ∙ h)
      ∙ (λ i. parsed after (in_text fs (select_before (new_select a) arms i ++ select_is_part a arms i ∷ [], [])))))

  pub arms_on : {n : ℕ} {text rest : List ℕ} {arms : List (Key × MsgParts)} → PluralArms n text arms rest
      → (after : List ℕ) → rest ≡ right_brace ∷ after
      → (fs : List Frame) → n + length fs ≡ 63 → (plural' : OpenPlural)
      → has_category category.Other (with_arms plural' arms).named ≡ true → (starts : Bool)
      → parsed text (at fs (expected.Key plural' starts)) ≡ parsed after
      (in_text fs ((with_arms plural' arms).before ++ plural_part (with_arms plural' arms) ∷ [], []))
  arms_on (no_more rest) after e fs d plural' h starts =
      ap (λ l. parsed l (at fs (expected.Key plural' starts))) e ∙ rw h refl
  arms_on {n = n} (plural_arm text white inside more text' rest key ps arms k w r v m) after e fs d plural' h starts =
      let deeper : n + length (frame.Plural plural' (arm_key_of key) ∷ fs) ≡ 64 = omega (arith, d) in
      key_on text key k white w inside fs plural' starts
      ∙ (reads_on r (frame.Plural plural' (arm_key_of key) ∷ fs) refl deeper ([], [])
      ∙ (ap (λ qs. parsed (more ++ text') (at fs (expected.Key (with_arm plural' (arm_key_of key) qs) false)))
      (read_is ps (reads_joined r))
      ∙ (stays (at fs (expected.Key (with_arm plural' (arm_key_of key) ps) false)) (λ c f. rw f refl) more text' v
      ∙ arms_on m after e fs d (with_arm plural' (arm_key_of key) ps) h false)))

  pub words_on : {n : ℕ} {text rest : List ℕ} {arms : List (List ℕ × MsgParts)} → WordArms n text arms rest
      → (after : List ℕ) → rest ≡ right_brace ∷ after
      → (fs : List Frame) → n + length fs ≡ 63 → (select' : OpenSelect)
      → has_word (codes "other") (with_words select' arms).arms ≡ true
      → parsed text (at fs (expected.Word select')) ≡ parsed after
      (in_text fs ((with_words select' arms).before ++ select_part (with_words select' arms) ∷ [], []))
  words_on (no_more_words rest) after e fs d select' h =
      ap (λ l. parsed l (at fs (expected.Word select'))) e ∙ rw h refl
  words_on {n = n} (word_arm word white inside more text rest ps arms k w r v m) after e fs d select' h =
      let deeper : n + length (frame.Select select' word ∷ fs) ≡ 64 = omega (arith, d) in
      word_on word k white w inside fs select'
      ∙ (reads_on r (frame.Select select' word ∷ fs) refl deeper ([], [])
      ∙ (ap (λ qs. parsed (more ++ text) (at fs (expected.Word (with_word select' word qs))))
      (read_is ps (reads_joined r))
      ∙ (stays (at fs (expected.Word (with_word select' word ps))) (λ c f. rw f refl) more text v
      ∙ words_on m after e fs d (with_word select' word ps) h)))

pub pattern_parsed : (text : List ℕ) (ps : MsgParts) → IsPattern text ps
    → parsed text pattern_start ≡ Some (all_parts (with_parts ([], []) ps))
pattern_parsed text ps r = reads_on r [] refl (omega arith) ([], [])

-- so a text is one pattern at most
pub one_pattern : (text : List ℕ) (ps qs : MsgParts) → IsPattern text ps → IsPattern text qs → ps ≡ qs
one_pattern text ps qs a b =
    sym (read_is ps (reads_joined a))
    ∙ (ap unwrap (sym (pattern_parsed text ps a) ∙ pattern_parsed text qs b) ∙ read_is qs (reads_joined b))
  where
    unwrap : Option (List MsgPart) → MsgParts
    unwrap None = no_part
    unwrap (Some l) = parts_of l
