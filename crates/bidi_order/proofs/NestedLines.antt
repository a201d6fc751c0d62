-- The limit at a value inside spans from right to left: what holds for `c` holds for every value.
use Rattle.std.proofs.Common.{◌≡◌, ℕ, true, false, List, [], ◌∷◌, ◌++◌, refl, sym, ◌∙◌, zero, suc}
use Rattle.std.specs.Prelude.{replicate}
use Rattle.bidi_class.specs.Class.{bidi_class}
use Rattle.bidi_text.specs.Clean.{cleaned_text}
use Rattle.bidi_text.proofs.CleanedTwice.{cleaned_text-cleaned_text}
use Rattle.ucd_category.specs.GeneralCategory.{general_category}
use Rattle.ucd_category.specs.GeneralCategoryRows.{general_category_rows}
use Rattle.ucd_table.specs.Rows.{value_in}
use Rattle.bidi_order.specs.TwoLines.{Both, HoldsCleaned, one_labelled, other_labelled}
use Rattle.bidi_order.specs.TwoLines.Both.{Shared}
use Rattle.bidi_order.specs.WithinLimit.{is_value_initiator, is_within_limit}
use Rattle.bidi_order.specs.WorkedLines.{nested_line}
use Rattle.bidi_order.proofs.SameLine.{within_both}

-- one character is a cleaned text
pub cleaned-c : cleaned_text (0x63 ∷ []) ≡ 0x63 ∷ []
unfolding bidi_class general_category value_in general_category_rows
cleaned-c = refl

-- so are three
pub cleaned-abc : cleaned_text (0x61 ∷ 0x62 ∷ 0x63 ∷ []) ≡ 0x61 ∷ 0x62 ∷ 0x63 ∷ []
unfolding bidi_class general_category value_in general_category_rows
cleaned-abc = refl

-- static characters hold nothing
HoldsCleaned-shared : (n c : ℕ) (line : List Both) → HoldsCleaned line → HoldsCleaned (replicate n (Shared c) ++ line)
HoldsCleaned-shared zero c line h = h
HoldsCleaned-shared (suc n) c line h = HoldsCleaned-shared n c line h

HoldsCleaned-replicate : (n c : ℕ) → HoldsCleaned (replicate n (Shared c))
HoldsCleaned-replicate zero c = tt
HoldsCleaned-replicate (suc n) c = HoldsCleaned-replicate n c

HoldsCleaned-nested : (depth i : ℕ) (text : List ℕ) → is_value_initiator i ≡ true
    → HoldsCleaned (nested_line depth i (cleaned_text text))
HoldsCleaned-nested depth i text h =
    HoldsCleaned-shared depth 0x2067 _
    ((refl, h, cleaned-c, cleaned_text-cleaned_text text), HoldsCleaned-replicate depth 0x2069)

nested-same : (depth i : ℕ) (text : List ℕ) → is_value_initiator i ≡ true
    → is_within_limit 0 (one_labelled (nested_line depth i (cleaned_text text)))
    ≡ is_within_limit 0 (other_labelled (nested_line depth i (cleaned_text text)))
nested-same depth i text h =
    within_both 0 (nested_line depth i (cleaned_text text)) (HoldsCleaned-nested depth i text h)

within-c : (i : ℕ) (text : List ℕ) → is_within_limit 0 (one_labelled (nested_line 61 i (cleaned_text text))) ≡ true
unfolding is_within_limit bidi_class general_category value_in general_category_rows
within-c i text = refl

pub nested-within : (i : ℕ) (text : List ℕ) → is_value_initiator i ≡ true
    → is_within_limit 0 (other_labelled (nested_line 61 i (cleaned_text text))) ≡ true
nested-within i text h = sym (nested-same 61 i text h) ∙ within-c i text

last-c : (i : ℕ) (text : List ℕ) → is_within_limit 0 (one_labelled (nested_line 62 i (cleaned_text text))) ≡ true
unfolding is_within_limit bidi_class general_category value_in general_category_rows
last-c i text = refl

pub nested-last : (i : ℕ) (text : List ℕ) → is_value_initiator i ≡ true
    → is_within_limit 0 (other_labelled (nested_line 62 i (cleaned_text text))) ≡ true
nested-last i text h = sym (nested-same 62 i text h) ∙ last-c i text

past-c : (i : ℕ) (text : List ℕ) → is_within_limit 0 (one_labelled (nested_line 63 i (cleaned_text text))) ≡ false
unfolding is_within_limit bidi_class general_category value_in general_category_rows
past-c i text = refl

pub nested-past : (i : ℕ) (text : List ℕ) → is_value_initiator i ≡ true
    → is_within_limit 0 (other_labelled (nested_line 63 i (cleaned_text text))) ≡ false
nested-past i text h = sym (nested-same 63 i text h) ∙ past-c i text
