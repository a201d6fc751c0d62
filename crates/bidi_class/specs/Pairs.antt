-- The pairs of isolate controls in a text (UAX #9, BD9).
--
-- An initiator, a character of class LRI, RLI or FSI, and a PDI after it are a pair where the text between them holds
-- as many initiators as PDIs, and each prefix of that text holds at least as many initiators as PDIs. In other words,
-- a PDI matches the nearest initiator before it that is still open.
--
-- In RLI, `a`, LRI, `b`, PDI, PDI, PDI the pairs are the characters 2 and 4, and 0 and 5, counted from 0. The last PDI
-- is in no pair.
use Rattle.std.specs.Prelude.{ℕ, ◌+◌, Bool, true, false, ◌==◌, ◌&&◌, ◌||◌, nat_lt, nat_le, List, take, length}
use Rattle.std.specs.Prelude.{slice_index, slice_range, count_by}
use Rattle.std.specs.List.{list_any, list_all, range_with_len}
use Rattle.bidi_class.specs.declared.class.Class.{Class}
use Rattle.bidi_class.specs.declared.class.Class.TheVariants.{PDI}
use Rattle.bidi_class.specs.Class.{bidi_class, begins_isolate}

-- the class is that of the character that closes an isolate
abbrev pub ends_isolate : Class → Bool
ends_isolate PDI = true
ends_isolate _ = false

-- the character is an initiator
abbrev pub is_initiator : ℕ → Bool
is_initiator c = begins_isolate (bidi_class c)

-- the character is a PDI
abbrev pub is_closing : ℕ → Bool
is_closing c = ends_isolate (bidi_class c)

-- how many initiators a text holds
abbrev pub initiators : List ℕ → ℕ
initiators text = count_by is_initiator text

-- how many PDIs a text holds
abbrev pub closings : List ℕ → ℕ
closings text = count_by is_closing text

-- the text holds as many initiators as PDIs
abbrev pub is_even : List ℕ → Bool
is_even text = initiators text == closings text

-- each prefix of the text holds at least as many initiators as PDIs
abbrev pub is_led : List ℕ → Bool
is_led text =
    list_all (λ n. nat_le (closings (take n text)) (initiators (take n text))) (range_with_len 0 (length text + 1))

-- the characters at the two indexes are a pair
abbrev pub is_pair : List ℕ → ℕ → ℕ → Bool
is_pair text first second =
    (nat_lt first second && is_initiator (slice_index text first) && is_closing (slice_index text second))
    && (is_even (slice_range text (first + 1) second) && is_led (slice_range text (first + 1) second))

-- the character at the index is one of a pair
abbrev pub is_in_pair : List ℕ → ℕ → Bool
is_in_pair text index =
    list_any (λ other. is_pair text index other || is_pair text other index) (range_with_len 0 (length text))
