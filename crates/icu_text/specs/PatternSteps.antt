-- The machine of patterns: what a character does to what was read. It has no step at a character with which no pattern
-- goes on.
-- Example: after `{N, plural, ` a `=` asks for a number, an `o` for the rest of `one`, `other` or `offset:`, and a `}`
-- has no step.
use Rattle.std.specs.Prelude.{ℕ, ◌+◌, ◌-◌, ◌*◌, ℤ, pos, neg_ℤ, Bool, true, false, ◌&&◌, ◌==◌, nat_le, List, [], ◌∷◌}
use Rattle.std.specs.Prelude.{◌++◌, length, Option, Some, None, if◌then◌else◌, codes}
use Rattle.std.specs.Char.{is_ascii_digit}
use Rattle.plural_rules.specs.declared.category.Category.TheVariants as category
use Rattle.soy_base.specs.Characters.{single_quote, left_brace, right_brace, number_sign, comma, equals_sign}
use Rattle.soy_base.specs.Characters.{minus_sign}
use Rattle.soy_base.specs.WhiteSpace.{is_template_space}
use Rattle.soy_base.specs.Names.{begins_name, continues_name}
use Rattle.soy_base.specs.Limits.{largest}
use Rattle.soy_tree.specs.Formed.{is_word_character}
use Rattle.soy_rules.specs.IcuText.{PatternMode, AtTop, InPlural, InSelect, is_quotable}
use Rattle.soy_tree.specs.MessageParts.{MsgPart, MsgParts, TextPart, Placeholder, NumberPart, PluralPart, SelectPart}
use Rattle.soy_tree.specs.ViewMessageParts.{parts_of, exact_arms_of, named_arms_of, select_arms_of}
use Rattle.icu_text.specs.declared.state.ArmKey.{ArmKey}
use Rattle.icu_text.specs.declared.state.ArmKey.TheVariants as arm_key
use Rattle.icu_text.specs.PatternStates.{Argument}
use Rattle.icu_text.specs.declared.state.OpenPlural.{OpenPlural}
use Rattle.icu_text.specs.declared.state.OpenSelect.{OpenSelect}
use Rattle.icu_text.specs.declared.state.Frame.{Frame}
use Rattle.icu_text.specs.declared.state.Frame.TheVariants as frame
use Rattle.icu_text.specs.PatternStates.{Quoting}
use Rattle.icu_text.specs.declared.state.ChoiceKind.{ChoiceKind}
use Rattle.icu_text.specs.declared.state.ChoiceKind.TheVariants as choice
use Rattle.icu_text.specs.PatternStates.{Expected}
use Rattle.icu_text.specs.PatternStates as expected
use Rattle.icu_text.specs.PatternStates.{PatternState}
use Rattle.icu_text.specs.FirstArms.{has_category, has_word, with_exact, with_named, with_select}

abbrev pub on : List Frame → Expected → Option PatternState
on fs x = Some (record { frames = fs; expected = x })

-- text

-- where a text stands whose innermost frame is the first
abbrev pub pattern_mode : List Frame → PatternMode
pattern_mode [] = AtTop
pattern_mode (frame.Plural plural key ∷ fs) = InPlural
pattern_mode (frame.Select select word ∷ fs) = InSelect

-- parts, and the text after them as a part, if it has characters
abbrev pub finished : List MsgPart → List ℕ → List MsgPart
finished ps [] = ps
finished ps (c ∷ cs) = ps ++ TextPart (c ∷ cs) ∷ []

abbrev pub text_after : List Frame → List MsgPart → Option PatternState
text_after fs ps = on fs (expected.Text ps [] expected.Unquoted)

abbrev pub add_next : List Frame → List MsgPart → List ℕ → Quoting → ℕ → Option PatternState
add_next fs ps t q c = on fs (expected.Text ps (t ++ c ∷ []) q)

-- at most 64 arguments, plurals and selects are open at once
abbrev pub brace_next : List Frame → List MsgPart → Option PatternState
brace_next fs ps = if nat_le (length fs) 63 then on fs (expected.Name ps) else None

abbrev pub with_arm : OpenPlural → ArmKey → MsgParts → OpenPlural
with_arm plural (arm_key.Exact n) ps = record plural { exact = with_exact plural.exact n ps }
with_arm plural (arm_key.Named c) ps = record plural { named = with_named plural.named c ps }

abbrev pub with_word : OpenSelect → List ℕ → MsgParts → OpenSelect
with_word select word ps = record select { arms = with_select select.arms word ps }

abbrev pub close_next : List Frame → List MsgPart → List ℕ → Option PatternState
close_next [] ps t = add_next [] ps t expected.Unquoted right_brace
close_next (frame.Plural plural key ∷ fs) ps t =
    on fs (expected.Key (with_arm plural key (parts_of (finished ps t))) false)
close_next (frame.Select select word ∷ fs) ps t =
    on fs (expected.Word (with_word select word (parts_of (finished ps t))))

abbrev pub number_sign_next : List Frame → List MsgPart → List ℕ → Option PatternState
number_sign_next (frame.Plural plural key ∷ fs) ps t =
    text_after (frame.Plural plural key ∷ fs) (finished ps t ++ NumberPart ∷ [])
number_sign_next fs ps t = add_next fs ps t expected.Unquoted number_sign

abbrev pub plain_next : List Frame → List MsgPart → List ℕ → ℕ → Option PatternState
plain_next fs ps t c =
    if c == single_quote then on fs (expected.Text ps t expected.Apostrophe)
    else (if c == left_brace then brace_next fs (finished ps t)
    else (if c == right_brace then close_next fs ps t
    else (if c == number_sign then number_sign_next fs ps t
    else add_next fs ps t expected.Unquoted c)))

abbrev pub apostrophe_next : List Frame → List MsgPart → List ℕ → ℕ → Option PatternState
apostrophe_next fs ps t c =
    if c == single_quote then add_next fs ps t expected.Unquoted single_quote
    else (if is_quotable (pattern_mode fs) c then add_next fs ps t expected.Quoted c
    else plain_next fs ps (t ++ single_quote ∷ []) c)

abbrev pub quoted_next : List Frame → List MsgPart → List ℕ → ℕ → Option PatternState
quoted_next fs ps t c =
    if c == single_quote then on fs (expected.Text ps t expected.QuotedApostrophe)
    else add_next fs ps t expected.Quoted c

abbrev pub quoted_apostrophe_next : List Frame → List MsgPart → List ℕ → ℕ → Option PatternState
quoted_apostrophe_next fs ps t c =
    if c == single_quote then add_next fs ps t expected.Quoted single_quote
    else plain_next fs ps t c

abbrev pub text_next : List Frame → List MsgPart → List ℕ → Quoting → ℕ → Option PatternState
text_next fs ps t expected.Unquoted c = plain_next fs ps t c
text_next fs ps t expected.Apostrophe c = apostrophe_next fs ps t c
text_next fs ps t expected.Quoted c = quoted_next fs ps t c
text_next fs ps t expected.QuotedApostrophe c = quoted_apostrophe_next fs ps t c

-- an argument's name, and the kind of choice

abbrev pub name_next : List Frame → List MsgPart → ℕ → Option PatternState
name_next fs before c =
    if is_template_space c then on fs (expected.Name before)
    else (if begins_name c then on fs (expected.NameCharacter before (c ∷ []))
    else None)

abbrev pub name_end_next : List Frame → Argument → ℕ → Option PatternState
name_end_next fs a c =
    if is_template_space c then on fs (expected.NameEnd a)
    else (if c == comma then on fs (expected.Choice a)
    else (if c == right_brace then text_after fs (a.before ++ Placeholder a.name ∷ [])
    else None))

abbrev pub name_character_next : List Frame → List MsgPart → List ℕ → ℕ → Option PatternState
name_character_next fs before name c =
    if continues_name c then on fs (expected.NameCharacter before (name ++ c ∷ []))
    else name_end_next fs (record { before = before; name = name }) c

abbrev pub choice_next : List Frame → Argument → ℕ → Option PatternState
choice_next fs a c =
    if is_template_space c then on fs (expected.Choice a)
    else (if c == 112 then on fs (expected.ChoiceLetter a choice.Plural (codes "lural"))
    else (if c == 115 then on fs (expected.ChoiceLetter a choice.Select (codes "elect"))
    else None))

abbrev pub new_plural : Bool → Argument → OpenPlural
new_plural ordinal a =
    record { before = a.before; ordinal = ordinal; name = a.name; offset = 0; exact = []; named = [] }

abbrev pub new_select : Argument → OpenSelect
new_select a = record { before = a.before; name = a.name; arms = [] }

abbrev pub opened : Argument → ChoiceKind → Expected
opened a choice.Plural = expected.Key (new_plural false a) true
opened a choice.Ordinal = expected.Key (new_plural true a) true
opened a choice.Select = expected.Word (new_select a)

abbrev pub choice_end_next : List Frame → Argument → ChoiceKind → ℕ → Option PatternState
choice_end_next fs a kind c =
    if is_template_space c then on fs (expected.ChoiceEnd a kind)
    else (if c == comma then on fs (opened a kind)
    else None)

-- `select` may go on as `selectordinal`
abbrev pub may_be_ordinal : ChoiceKind → ℕ → Bool
may_be_ordinal choice.Select c = c == 111
may_be_ordinal _ c = false

abbrev pub letter_next : List Frame → Expected → ℕ → ℕ → Option PatternState
letter_next fs to l c = if c == l then on fs to else None

abbrev pub choice_letter_next : List Frame → Argument → ChoiceKind → List ℕ → ℕ → Option PatternState
choice_letter_next fs a kind [] c =
    if may_be_ordinal kind c then on fs (expected.ChoiceLetter a choice.Ordinal (codes "rdinal"))
    else choice_end_next fs a kind c
choice_letter_next fs a kind (l ∷ ls) c = letter_next fs (expected.ChoiceLetter a kind ls) l c

-- plurals

abbrev pub plural_part : OpenPlural → MsgPart
plural_part plural =
    PluralPart plural.ordinal plural.name plural.offset (exact_arms_of plural.exact) (named_arms_of plural.named)

abbrev pub plural_end : List Frame → OpenPlural → Option PatternState
plural_end fs plural =
    if has_category category.Other plural.named then text_after fs (plural.before ++ plural_part plural ∷ []) else None

abbrev pub keyword_next : List Frame → OpenPlural → ℕ → Option PatternState
keyword_next fs plural c =
    if c == 122 then on fs (expected.KeyLetter plural (arm_key.Named category.Zero) (codes "ero"))
    else (if c == 116 then on fs (expected.KeyLetter plural (arm_key.Named category.Two) (codes "wo"))
    else (if c == 102 then on fs (expected.KeyLetter plural (arm_key.Named category.Few) (codes "ew"))
    else (if c == 109 then on fs (expected.KeyLetter plural (arm_key.Named category.Many) (codes "any"))
    else None)))

abbrev pub key_next : List Frame → OpenPlural → Bool → ℕ → Option PatternState
key_next fs plural starts c =
    if is_template_space c then on fs (expected.Key plural starts)
    else (if c == equals_sign then on fs (expected.ExactKey plural)
    else (if c == right_brace then plural_end fs plural
    else (if c == 111 then on fs (expected.KeyAfterO plural starts)
    else keyword_next fs plural c)))

abbrev pub key_after_o_next : List Frame → OpenPlural → Bool → ℕ → Option PatternState
key_after_o_next fs plural starts c =
    if c == 110 then on fs (expected.KeyLetter plural (arm_key.Named category.One) (codes "e"))
    else (if c == 116 then on fs (expected.KeyLetter plural (arm_key.Named category.Other) (codes "her"))
    else (if c == 102 && starts then on fs (expected.OffsetLetter plural (codes "fset:"))
    else None))

abbrev pub key_end_next : List Frame → OpenPlural → ArmKey → ℕ → Option PatternState
key_end_next fs plural key c =
    if is_template_space c then on fs (expected.KeyLetter plural key [])
    else (if c == left_brace then text_after (frame.Plural plural key ∷ fs) []
    else None)

abbrev pub key_letter_next : List Frame → OpenPlural → ArmKey → List ℕ → ℕ → Option PatternState
key_letter_next fs plural key [] c = key_end_next fs plural key c
key_letter_next fs plural key (l ∷ ls) c = letter_next fs (expected.KeyLetter plural key ls) l c

-- a digit after those of a number
abbrev pub more_digits : ℕ → ℕ → ℕ
more_digits n c = n * 10 + (c - 48)

abbrev pub number_or : (ℕ → Expected) → List Frame → ℕ → Option PatternState
number_or to fs n = if nat_le n largest then on fs (to n) else None

abbrev pub offset_letter_next : List Frame → OpenPlural → List ℕ → ℕ → Option PatternState
offset_letter_next fs plural [] c =
    if is_template_space c then on fs (expected.OffsetLetter plural [])
    else (if is_ascii_digit c then on fs (expected.OffsetDigit plural (c - 48))
    else None)
offset_letter_next fs plural (l ∷ ls) c = letter_next fs (expected.OffsetLetter plural ls) l c

abbrev pub with_offset : OpenPlural → ℕ → OpenPlural
with_offset plural n = record plural { offset = n }

abbrev pub offset_digit_next : List Frame → OpenPlural → ℕ → ℕ → Option PatternState
offset_digit_next fs plural n c =
    if is_ascii_digit c then number_or (expected.OffsetDigit plural) fs (more_digits n c)
    else key_next fs (with_offset plural n) false c

abbrev pub first_digit_next : List Frame → OpenPlural → Bool → ℕ → Option PatternState
first_digit_next fs plural negative c =
    if is_ascii_digit c then on fs (expected.KeyDigit plural negative (c - 48)) else None

abbrev pub exact_key_next : List Frame → OpenPlural → ℕ → Option PatternState
exact_key_next fs plural c =
    if is_template_space c then on fs (expected.ExactKey plural)
    else (if c == minus_sign then on fs (expected.NegativeKey plural)
    else first_digit_next fs plural false c)

abbrev pub signed : Bool → ℕ → ℤ
signed false n = pos n
signed true n = neg_ℤ (pos n)

abbrev pub key_digit_next : List Frame → OpenPlural → Bool → ℕ → ℕ → Option PatternState
key_digit_next fs plural negative n c =
    if is_ascii_digit c then number_or (expected.KeyDigit plural negative) fs (more_digits n c)
    else key_end_next fs plural (arm_key.Exact (signed negative n)) c

-- selects

abbrev pub select_part : OpenSelect → MsgPart
select_part select = SelectPart select.name (select_arms_of select.arms)

abbrev pub select_end : List Frame → OpenSelect → Option PatternState
select_end fs select =
    if has_word (codes "other") select.arms then text_after fs (select.before ++ select_part select ∷ []) else None

abbrev pub word_next : List Frame → OpenSelect → ℕ → Option PatternState
word_next fs select c =
    if is_template_space c then on fs (expected.Word select)
    else (if c == right_brace then select_end fs select
    else (if is_word_character c then on fs (expected.WordCharacter select (c ∷ []))
    else None))

abbrev pub word_end_next : List Frame → OpenSelect → List ℕ → ℕ → Option PatternState
word_end_next fs select word c =
    if is_template_space c then on fs (expected.WordEnd select word)
    else (if c == left_brace then text_after (frame.Select select word ∷ fs) []
    else None)

abbrev pub word_character_next : List Frame → OpenSelect → List ℕ → ℕ → Option PatternState
word_character_next fs select word c =
    if is_word_character c then on fs (expected.WordCharacter select (word ++ c ∷ []))
    else word_end_next fs select word c

-- any

abbrev pub next_at : Expected → List Frame → ℕ → Option PatternState
next_at (expected.Text ps t q) fs c = text_next fs ps t q c
next_at (expected.Name ps) fs c = name_next fs ps c
next_at (expected.NameCharacter ps name) fs c = name_character_next fs ps name c
next_at (expected.NameEnd a) fs c = name_end_next fs a c
next_at (expected.Choice a) fs c = choice_next fs a c
next_at (expected.ChoiceLetter a kind letters) fs c = choice_letter_next fs a kind letters c
next_at (expected.ChoiceEnd a kind) fs c = choice_end_next fs a kind c
next_at (expected.Key plural starts) fs c = key_next fs plural starts c
next_at (expected.KeyAfterO plural starts) fs c = key_after_o_next fs plural starts c
next_at (expected.KeyLetter plural key letters) fs c = key_letter_next fs plural key letters c
next_at (expected.OffsetLetter plural letters) fs c = offset_letter_next fs plural letters c
next_at (expected.OffsetDigit plural n) fs c = offset_digit_next fs plural n c
next_at (expected.ExactKey plural) fs c = exact_key_next fs plural c
next_at (expected.NegativeKey plural) fs c = first_digit_next fs plural true c
next_at (expected.KeyDigit plural negative n) fs c = key_digit_next fs plural negative n c
next_at (expected.Word select) fs c = word_next fs select c
next_at (expected.WordCharacter select word) fs c = word_character_next fs select word c
next_at (expected.WordEnd select word) fs c = word_end_next fs select word c

abbrev pub pattern_next : PatternState → ℕ → Option PatternState
pattern_next s c = next_at s.expected s.frames c

-- the parts of what was read, if nothing is open
abbrev pub text_at_end : List MsgPart → List ℕ → Quoting → List MsgPart
text_at_end ps t expected.Apostrophe = finished ps (t ++ single_quote ∷ [])
text_at_end ps t _ = finished ps t

abbrev pub whole_at : Expected → List Frame → Option (List MsgPart)
whole_at (expected.Text ps t q) [] = Some (text_at_end ps t q)
whole_at _ fs = None

abbrev pub whole_pattern : PatternState → Option (List MsgPart)
whole_pattern s = whole_at s.expected s.frames
