-- Lines and columns, one byte further.
use Rattle.std.proofs.Common.{◌≡◌, ℕ, suc, zero, ◌+◌, ◌-◌, ◌<◌, ◌≤◌, Bool, true, false, cond, List, length, get_or}
use Rattle.std.proofs.Common.{take, drop, refl, sym, ap, ◌∙◌, arith, count_by, length-drop, if◌then◌else◌, add-one}
use Rattle.std.proofs.Common.{add-zero, slice_index}
use Rattle.std.proofs.lemmas.List.{get_or-drop}
use Rattle.std.proofs.lemmas.List.Sums.{count_by-le-length, count_by_more_no, count_by_more_yes}
use Rattle.std.proofs.lemmas.List.{length-take}
use Rattle.soy_base.specs.Position.{is_break_end, breaks_within, line_start, begins_character, characters_before}

-- no line break ends before the first byte
pub breaks_within-zero : (text : List ℕ) → breaks_within text 0 ≡ 0
unfolding breaks_within
breaks_within-zero text = refl

-- the line breaks, one byte further
pub breaks_within-more : (text : List ℕ) (at : ℕ)
    → breaks_within text (at + 1) ≡ breaks_within text at + (if is_break_end text at then 1 else 0)
unfolding breaks_within
breaks_within-more text at = ap (breaks_within text) (add-one at)

step_at_most_one : (b : Bool) → cond b 1 0 ≤ 1
step_at_most_one true = omega arith
step_at_most_one false = omega arith

-- no byte ends more than one line break
pub breaks_within-≤ : (text : List ℕ) (at : ℕ) → breaks_within text at ≤ at
unfolding breaks_within
breaks_within-≤ text zero = omega arith
breaks_within-≤ text (suc at) = omega (arith, breaks_within-≤ text at, step_at_most_one (is_break_end text at))

step_within : (b : Bool) (start at : ℕ) → start ≤ at → cond b (suc at) start ≤ suc at
step_within true start at h = omega arith
step_within false start at h = omega arith

-- a line starts at or before its offsets
pub line_start-≤ : (text : List ℕ) (at : ℕ) → line_start text at ≤ at
unfolding line_start
line_start-≤ text zero = omega arith
line_start-≤ text (suc at) = step_within (is_break_end text at) _ at (line_start-≤ text at)

-- the start of the line, one byte further
line_start-more : (text : List ℕ) (at : ℕ)
    → line_start text (at + 1) ≡ (if is_break_end text at then suc at else line_start text at)
unfolding line_start
line_start-more text at = ap (line_start text) (add-one at)

-- no character begins before the first byte
pub characters_before-zero : (text : List ℕ) → characters_before text 0 ≡ 0
unfolding line_start
characters_before-zero text = refl

counted_by : (p : ℕ → Bool) (xs : List ℕ) (i : ℕ) (b : Bool) → i < length xs → p (get_or xs i 0) ≡ b
    → count_by p (take (i + 1) xs) ≡ count_by p (take i xs) + cond b 1 0
counted_by p xs i true h e = count_by_more_yes p xs i 0 h e
counted_by p xs i false h e = count_by_more_no p xs i 0 h e ∙ sym (add-zero _)

-- a count, one item further
counted_more : (p : ℕ → Bool) (xs : List ℕ) (i : ℕ) → i < length xs
    → count_by p (take (i + 1) xs) ≡ count_by p (take i xs) + cond (p (get_or xs i 0)) 1 0
counted_more p xs i h = counted_by p xs i _ h refl

-- the characters of a line that goes on, one byte further
counted_on : (text : List ℕ) (at start : ℕ) → at < length text → start ≤ at
    → count_by begins_character (take (at + 1 - start) (drop start text)) ≡ count_by begins_character
    (take (at - start) (drop start text)) + cond (begins_character (get_or text at 0)) 1 0
counted_on text at start h low =
    let more : count_by begins_character (take (at - start + 1) (drop start text)) ≡ count_by begins_character
    (take (at - start) (drop start text)) + cond (begins_character (get_or (drop start text) (at - start) 0)) 1 0 =
    counted_more begins_character (drop start text) (at - start) (omega (arith, length-drop start text)) in
    let same : at - start + 1 ≡ at + 1 - start = omega arith in
    let offset : start + (at - start) ≡ at = omega arith in
    let byte : get_or (drop start text) (at - start) 0 ≡ get_or text at 0 =
    get_or-drop start text (at - start) 0 ∙ ap (λ k. get_or text k 0) offset in
    ap (λ k. count_by begins_character (take k (drop start text))) (sym same)
    ∙ (more ∙ ap (λ x. count_by begins_character (take (at - start) (drop start text)) + cond (begins_character x)
    1 0) byte)

counted_line : (text : List ℕ) (at start : ℕ) (b : Bool) → at < length text → start ≤ at
    → count_by begins_character (take (at + 1 - cond b (suc at) start) (drop (cond b (suc at) start) text)) ≡ cond b 0
    (count_by begins_character (take (at - start) (drop start text)) + cond (begins_character (get_or text at 0)) 1 0)
counted_line text at start true h low =
    let none : at + 1 - suc at ≡ 0 = omega arith in ap (λ k. count_by begins_character (take k (drop (suc at) text)))
    none
counted_line text at start false h low = counted_on text at start h low

-- the characters of a line, one byte further
pub characters_before-more : (text : List ℕ) (at : ℕ) → at < length text → characters_before text (at + 1)
    ≡ (if is_break_end text at then 0
    else characters_before text at + (if begins_character (slice_index text at) then 1 else 0))
characters_before-more text at h =
    ap (λ start. count_by begins_character (take (at + 1 - start) (drop start text))) (line_start-more text at)
    ∙ counted_line text at (line_start text at) (is_break_end text at) h (line_start-≤ text at)

-- no byte begins more than one character
pub characters_before-≤ : (text : List ℕ) (at : ℕ) → characters_before text at ≤ at
characters_before-≤ text at =
    let start = line_start text at in
    omega (
      arith,
      count_by-le-length begins_character (take (at - start) (drop start text)),
      length-take (at - start)
          (drop start text),
    )
