-- What `get` of a range and the reader of UTF-8 say of a part, and texts in a room.
use Rattle.std.proofs.Common.{◌≡◌, ℕ, ◌+◌, ◌<◌, ◌≤◌, Bool, true, false, nat_le, List, [], ◌++◌, Option, Some, None}
use Rattle.std.proofs.Common.{◌⊎◌, inl, inr, length, take, drop, min, refl, sym, ap, ◌∙◌, arith, le-leb}
use Rattle.std.specs.Prelude.{MatchOption, option_map, option_and_then, slice_range, if◌then◌else◌}
use Rattle.std.specs.Str.{IsUtf8, is_utf8}
use Rattle.std.proofs.lemmas.Bool.{and_right, lt-leb}
use Rattle.std.proofs.Math.Seq.{take-nil}
use Rattle.std.proofs.lemmas.List.{take_min, drop_min}
use Rattle.std.proofs.lemmas.Str.{IsUtf8-from_is_utf8, is_utf8-from_IsUtf8}
use Rattle.soyc_c.specs.Call.{if_utf8}
use Rattle.soyc_c.specs.Parts.{part_bytes}
use Rattle.soyc_c.specs.Room.{filled}
use Rattle.soyc_c.specs.declared.parts.Part.{Part}

-- a part is within the bytes, or it isn't
pub part-within : (bytes : List ℕ) (part : Part) → part.begin ≤ part.end → part.end ≤ length bytes
    → part_bytes bytes part ≡ Some (slice_range bytes part.begin part.end)
part-within bytes part ordered within = rw (le-leb _ _ ordered, le-leb _ _ within) refl

pub part-outside : (bytes : List ℕ) (part : Part) → (part.end < part.begin) ⊎ (length bytes < part.end)
    → part_bytes bytes part ≡ None
part-outside bytes part (inl turned) = rw (lt-leb _ _ turned) refl
part-outside bytes part (inr past) = rw (lt-leb _ _ past, and_right (nat_le part.begin part.end) false refl) refl

-- so what `get` gives of its range is its bytes
pub part-found : {R : Type 0} (now : R → List ℕ) (bytes : List ℕ) (part : Part) (r : Option R)
    → MatchOption r ((part.end < part.begin) ⊎ (length bytes < part.end)) (λ x. (part.begin ≤ part.end)
    × (part.end ≤ length bytes) × (now x ≡ slice_range bytes part.begin part.end)
    × (length (now x) + part.begin ≡ part.end))
    → option_map now r ≡ part_bytes bytes part
part-found now bytes part None h = sym (part-outside bytes part h)
part-found now bytes part (Some x) h = ap Some h.2 ∙ sym (part-within bytes part h.0 h.1)

-- what a part that is UTF-8 has as its text
pub text-utf8 : (found : Option (List ℕ)) (bytes : List ℕ) → found ≡ Some bytes → IsUtf8 bytes
    → option_and_then if_utf8 found ≡ Some bytes
text-utf8 found bytes is utf8 =
    ap (option_and_then if_utf8) is
    ∙ ap (λ b. if b then Some bytes else None) (is_utf8-from_IsUtf8 bytes utf8)

not-utf8 : (bytes : List ℕ) (b : Bool) → is_utf8 bytes ≡ b → (IsUtf8 bytes → ⊥)
    → (if b then Some bytes else None) ≡ None
not-utf8 bytes true is never = absurd (never (IsUtf8-from_is_utf8 bytes is))
not-utf8 bytes false is never = refl

pub text-not_utf8 : (found : Option (List ℕ)) (bytes : List ℕ) → found ≡ Some bytes → (IsUtf8 bytes → ⊥)
    → option_and_then if_utf8 found ≡ None
text-not_utf8 found bytes is never = ap (option_and_then if_utf8) is ∙ not-utf8 bytes (is_utf8 bytes) refl never

min_turned : (a b : ℕ) → min a b ≡ min b a
min_turned a b = omega arith

-- the beginning of a text that fits is as long as the room or the text
pub filled-beginning : (room text : List ℕ) (count : ℕ) → count ≡ min (length room) (length text)
    → take count text ++ drop count room ≡ filled room text
filled-beginning room text count is =
    let kept : drop (min (length room) (length text)) room ≡ drop (length text) room =
    ap (λ n. drop n room) (min_turned (length room) (length text)) ∙ drop_min (length text) room
    in
    ap (λ n. take n text ++ drop n room) is
    ∙ (ap (λ t. t ++ drop (min (length room) (length text)) room) (take_min (length room) text)
    ∙ ap (λ t. take (length room) text ++ t) kept)

-- without a text a room is unchanged
pub filled-nothing : (room : List ℕ) → filled room [] ≡ room
filled-nothing room = ap (λ t. t ++ room) (take-nil (length room))
