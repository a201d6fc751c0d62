-- What makes two characters of a text a pair, and how many PDIs an initiator is paired with.
use Rattle.std.proofs.Common.{◌≡◌, ℕ, ◌+◌, ◌-◌, ◌<◌, ◌≤◌, Bool, true, false, ◌&&◌, ◌||◌, nat_lt, nat_le, inl, inr, zero}
use Rattle.std.proofs.Common.{suc, List, length, take, drop, slice_index, slice_range, refl, sym, ap, subst, ◌∙◌}
use Rattle.std.proofs.Common.{⊎_elim, arith}
use Rattle.std.specs.List.{list_any, list_all, range_with_len}
use Rattle.std.proofs.lemmas.Bool.{and_parts, and_from, or_cases, or_left, or_right, lt-ltb, ltb-true, eqb-true, le-leb}
use Rattle.std.proofs.lemmas.Bool.{leb-true, both_ways, cases_lt}
use Rattle.std.proofs.lemmas.List.{drop-take, get_or-drop, get_or_past, length-drop, length-take-le, take-take}
use Rattle.std.proofs.lemmas.List.Sums.{count_by_more_yes, count_by_more_no}
use Rattle.bidi_class.specs.declared.class.Class.{Class}
use Rattle.bidi_class.specs.declared.class.Class.TheVariants.{PDI}
use Rattle.bidi_class.specs.Class.{begins_isolate, bidi_class}
use Rattle.bidi_class.specs.Pairs.{ends_isolate, is_initiator, is_closing, initiators, closings, is_even, is_led}
use Rattle.bidi_class.specs.Pairs.{is_pair}

-- each number of a range passes, or some number does
pub list_all-range : (p : ℕ → Bool) (a n : ℕ) → ((k : ℕ) → a ≤ k → k < a + n → p k ≡ true)
    → list_all p (range_with_len a n) ≡ true
list_all-range p a zero all = refl
list_all-range p a (suc n) all = and_from _ _ (all a (omega arith) (omega arith))
    (list_all-range p (a + 1) n (λ k low high. all k (omega arith) (omega arith)))

pub range-list_all : (p : ℕ → Bool) (a n k : ℕ) → list_all p (range_with_len a n) ≡ true → a ≤ k → k < a + n
    → p k ≡ true
range-list_all p a zero k h low high = absurd (omega arith)
range-list_all p a (suc n) k h low high =
    let parts = and_parts (p a) (list_all p (range_with_len (a + 1) n)) h in
    elim (cases_lt a k) [
      | inl past ↦ range-list_all p (a + 1) n k parts.1 (omega arith) (omega arith)
      | inr here ↦ let same : a ≡ k = omega arith in subst (λ m. p m ≡ true) same parts.0
    ]

pub list_any-range : (p : ℕ → Bool) (a n k : ℕ) → a ≤ k → k < a + n → p k ≡ true
    → list_any p (range_with_len a n) ≡ true
list_any-range p a zero k low high h = absurd (omega arith)
list_any-range p a (suc n) k low high h =
    elim (cases_lt a k) [
      | inl past ↦ or_right _ _ (list_any-range p (a + 1) n k (omega arith) (omega arith) h)
      | inr here ↦ let same : k ≡ a = omega arith in or_left _ _ (subst (λ m. p m ≡ true) same h)
    ]

pub range-list_any : (p : ℕ → Bool) (a n : ℕ) → list_any p (range_with_len a n) ≡ true
    → (k : ℕ) × (k < a + n) × (p k ≡ true)
range-list_any p a zero h = absurd (both_ways false refl h)
range-list_any p a (suc n) h =
    elim (or_cases (p a) (list_any p (range_with_len (a + 1) n)) h) [
      | inl here ↦ (a, omega arith, here)
      | inr later ↦ let there = range-list_any p (a + 1) n later in (there.0, omega (arith, there.1), there.2)
    ]

-- each prefix holds as many initiators as PDIs at least
pub led_from : (cs : List ℕ) → ((n : ℕ) → n ≤ length cs → closings (take n cs) ≤ initiators (take n cs))
    → is_led cs ≡ true
led_from cs led = list_all-range _ 0 (length cs + 1) (λ k low high. le-leb _ _ (led k (omega arith)))

pub from_led : (cs : List ℕ) (n : ℕ) → is_led cs ≡ true → n ≤ length cs → closings (take n cs) ≤ initiators (take n cs)
from_led cs n led h =
    leb-true _ _ (range-list_all (λ n. nat_le (closings (take n cs)) (initiators (take n cs))) 0 (length cs + 1) n led
    (omega arith) (omega arith))

-- what makes two offsets a pair
pub record IsPair (text : List ℕ) (first second : ℕ) : Type 0 where
  pub ordered : first < second
  pub opening : is_initiator (slice_index text first) ≡ true
  pub closing : is_closing (slice_index text second) ≡ true
  pub even : is_even (slice_range text (first + 1) second) ≡ true
  pub led : is_led (slice_range text (first + 1) second) ≡ true

pub is_pair-parts : (text : List ℕ) (first second : ℕ) → is_pair text first second ≡ true → IsPair text first second
is_pair-parts text first second h =
    let inside : List ℕ = slice_range text (first + 1) second in
    let opened : Bool = is_initiator (slice_index text first) in
    let closed : Bool = is_closing (slice_index text second) in
    let both = and_parts ((nat_lt first second && opened) && closed) (is_even inside && is_led inside) h in
    let ends = and_parts (nat_lt first second && opened) closed both.0 in
    let starts = and_parts (nat_lt first second) opened ends.0 in
    let between = and_parts (is_even inside) (is_led inside) both.1 in
    record {
      ordered = ltb-true first second starts.0;
      opening = starts.1;
      closing = ends.1;
      even = between.0;
      led = between.1;
    }

pub is_pair-from : (text : List ℕ) (first second : ℕ) → IsPair text first second → is_pair text first second ≡ true
is_pair-from text first second pair =
    and_from _ _ (and_from _ _ (and_from _ _ (lt-ltb first second pair.ordered) pair.opening) pair.closing)
    (and_from _ _ pair.even pair.led)

-- the text between two offsets, from the first and up to the second
pub between_from : (text : List ℕ) (first second n : ℕ) → second ≡ suc first + n
    → slice_range text (first + 1) second ≡ take n (drop (suc first) text)
between_from text first second n at =
    let count : second - (first + 1) ≡ n = omega arith in
    let next : first + 1 ≡ suc first = omega arith in
    ap (λ k. take k (drop (first + 1) text)) count ∙ ap (λ k. take n (drop k text)) next

pub between_until : (text : List ℕ) (first second : ℕ) → first < second
    → slice_range text (first + 1) second ≡ drop (suc first) (take second text)
between_until text first second ordered =
    let n : ℕ = second - suc first in
    let at : second ≡ suc first + n = omega arith in
    between_from text first second n at ∙ sym (drop-take (suc first) n text)
    ∙ ap (λ k. drop (suc first) (take k text)) (sym at)

-- ---- an initiator is paired with one PDI at most

-- a PDI is no initiator
class_only : (k : Class) → ends_isolate k ≡ true → begins_isolate k ≡ false
class_only PDI ends = refl
class_only _ ends = cc

-- U+0000, which stands past the end of a text, is no PDI
null_is_none : is_closing 0 ≡ false
unfolding bidi_class
null_is_none = refl

-- so a PDI stands within the text
closing_within : (text : List ℕ) (index : ℕ) → is_closing (slice_index text index) ≡ true → index < length text
closing_within text index closing =
    ⊎_elim
    (λ within. within)
    (λ past. absurd (both_ways (is_closing 0) null_is_none (ap is_closing (sym (get_or_past text index 0 past))
    ∙ closing)))
    (cases_lt index (length text))

-- the nearer of two PDIs that are paired with an initiator leaves no initiator open for the other
no_later : (text : List ℕ) (first second other : ℕ) → IsPair text first second → IsPair text first other
    → second < other → ⊥
no_later text first second other pair later before =
    let rest : List ℕ = drop (suc first) text in
    let n : ℕ = second - suc first in
    let m : ℕ = other - suc first in
    let at : second ≡ suc first + n = omega (arith, pair.ordered) in
    let inside : slice_range text (first + 1) second ≡ take n rest = between_from text first second n at in
    let around : slice_range text (first + 1) other ≡ take m rest =
    between_from text first other m (omega (arith, later.ordered)) in
    let long : n < length rest =
    omega (arith, pair.ordered, closing_within text second pair.closing, length-drop (suc first) text) in
    let even : initiators (take n rest) ≡ closings (take n rest) =
    eqb-true (initiators (take n rest)) (closings (take n rest)) (subst (λ cs. is_even cs ≡ true) inside pair.even) in
    let closing : is_closing (slice_index rest n) ≡ true =
    ap is_closing (get_or-drop (suc first) text n 0 ∙ ap (λ k. slice_index text k) (sym at)) ∙ pair.closing in
    let one_more : closings (take (n + 1) rest) ≡ closings (take n rest) + 1 =
    count_by_more_yes is_closing rest n 0 long closing in
    let no_more : initiators (take (n + 1) rest) ≡ initiators (take n rest) =
    count_by_more_no is_initiator rest n 0 long (class_only (bidi_class (slice_index rest n)) closing) in
    let led : is_led (take m rest) ≡ true = subst (λ cs. is_led cs ≡ true) around later.led in
    let short : n + 1 ≤ m = omega (arith, before, pair.ordered) in
    let m_long : length (take m rest) ≡ m =
    length-take-le m rest
    (omega (arith, closing_within text other later.closing, later.ordered, length-drop (suc first) text)) in
    let prefix : closings (take (n + 1) rest) ≤ initiators (take (n + 1) rest) =
    subst (λ cs. closings cs ≤ initiators cs) (take-take (n + 1) m rest short)
    (from_led (take m rest) (n + 1) led (omega (arith, m_long, short))) in
    omega (arith, even, one_more, no_more, prefix)

pub one_closing : (text : List ℕ) (first second other : ℕ) → is_pair text first second ≡ true
    → is_pair text first other ≡ true → second ≡ other
one_closing text first second other pair later =
    let one = is_pair-parts text first second pair in
    let two = is_pair-parts text first other later in
    ⊎_elim
    (λ before. absurd (no_later text first second other one two before))
    (λ (after : other ≤ second).
    ⊎_elim
    (λ before. absurd (no_later text first other second two one before))
    (λ (same : second ≤ other). omega (arith, after, same))
    (cases_lt other second))
    (cases_lt second other)
