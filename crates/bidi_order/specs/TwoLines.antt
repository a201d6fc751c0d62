-- Two lines that differ in what their values hold, as one list, and two characters of both lines that are compared.
--
-- `a`, LRI, `c`, PDI, `b` and `a`, RLI, U+05D0, PDI, `b`, where the value is that of number 3, are Shared `a`, Values 3
-- LRI RLI `c` U+05D0, Shared `b`. The two `a` and the two `b` may be compared; or the `c` with U+05D0 and the two `b`.
-- Values may have any numbers: in a page a line begins with some value, and those of attributes stand in none.
use Rattle.std.specs.Prelude.{ℕ, ◌+◌, ◌≡◌, Bool, true, false, ◌&&◌, List, [], ◌∷◌, ◌++◌, length, IsTrue}
use Rattle.bidi_class.specs.Class.{bidi_class}
use Rattle.bidi_text.specs.Clean.{cleaned_text}
use Rattle.bidi_class.specs.declared.class.Class.{Class}
use Rattle.bidi_class.specs.declared.class.Class.TheVariants.{B, S, WS, BN, LRE, LRO, RLE, RLO, PDF, LRI, RLI, FSI, PDI}
use Rattle.bidi_order.specs.WithinLimit.{LabelledCharacter, static_character, value_characters, is_value_initiator}

-- a static character of both lines, or a value: its number, its initiators and its contents on the one and on the other
pub data Both : Type 0 where
  Shared : ℕ → Both
  Values : ℕ → ℕ → ℕ → List ℕ → List ℕ → Both

abbrev pub one_line : List Both → List ℕ
one_line [] = []
one_line (Shared c ∷ line) = c ∷ one_line line
one_line (Values k i j v w ∷ line) = i ∷ (v ++ 0x2069 ∷ one_line line)

abbrev pub other_line : List Both → List ℕ
other_line [] = []
other_line (Shared c ∷ line) = c ∷ other_line line
other_line (Values k i j v w ∷ line) = j ∷ (w ++ 0x2069 ∷ other_line line)

-- the two lines with labels
abbrev pub one_labelled : List Both → List LabelledCharacter
one_labelled [] = []
one_labelled (Shared c ∷ line) = static_character c ∷ one_labelled line
one_labelled (Values k i j v w ∷ line) = value_characters k i v ++ one_labelled line

abbrev pub other_labelled : List Both → List LabelledCharacter
other_labelled [] = []
other_labelled (Shared c ∷ line) = static_character c ∷ other_labelled line
other_labelled (Values k i j v w ∷ line) = value_characters k j w ++ other_labelled line

-- the class of a character that is seen: not WS, S, B or BN, nor that of an embedding, an override or an isolate. The
-- characters of such a class are a line's surrounding characters, and in a value its block
abbrev pub is_surrounding : Class → Bool
is_surrounding B = false
is_surrounding S = false
is_surrounding WS = false
is_surrounding BN = false
is_surrounding LRE = false
is_surrounding LRO = false
is_surrounding RLE = false
is_surrounding RLO = false
is_surrounding PDF = false
is_surrounding LRI = false
is_surrounding RLI = false
is_surrounding FSI = false
is_surrounding PDI = false
is_surrounding _ = true

-- a character that is compared: a static one of both lines; or of a value one on each line, with the value's number
-- and initiators, and what stands in it before and after the character, on the one line and on the other
pub data Chosen : Type 0 where
  Outside : ℕ → Chosen
  Inside : ℕ → ℕ → ℕ → List ℕ → ℕ → List ℕ → List ℕ → ℕ → List ℕ → Chosen

-- the part of the lines that it stands in
abbrev pub chosen_part : Chosen → Both
chosen_part (Outside c) = Shared c
chosen_part (Inside k i j one_begin y one_end other_begin z other_end) =
    Values k i j (one_begin ++ y ∷ one_end) (other_begin ++ z ∷ other_end)

-- on the one line: what stands in this part before the character, the character, and what stands after it
abbrev pub one_before : Chosen → List ℕ
one_before (Outside c) = []
one_before (Inside k i j one_begin y one_end other_begin z other_end) = i ∷ one_begin

abbrev pub one_character : Chosen → ℕ
one_character (Outside c) = c
one_character (Inside k i j one_begin y one_end other_begin z other_end) = y

abbrev pub one_after : Chosen → List ℕ
one_after (Outside c) = []
one_after (Inside k i j one_begin y one_end other_begin z other_end) = one_end ++ 0x2069 ∷ []

-- the same on the other line
abbrev pub other_before : Chosen → List ℕ
other_before (Outside c) = []
other_before (Inside k i j one_begin y one_end other_begin z other_end) = j ∷ other_begin

abbrev pub other_character : Chosen → ℕ
other_character (Outside c) = c
other_character (Inside k i j one_begin y one_end other_begin z other_end) = z

abbrev pub other_after : Chosen → List ℕ
other_after (Outside c) = []
other_after (Inside k i j one_begin y one_end other_begin z other_end) = other_end ++ 0x2069 ∷ []

-- each value begins with LRI or RLI and holds a cleaned text: one that cleaning leaves unchanged
abbrev pub HoldsCleaned : List Both → Type 0
HoldsCleaned [] = Unit {0}
HoldsCleaned (Shared c ∷ line) = HoldsCleaned line
HoldsCleaned (Values k i j v w ∷ line) =
    (IsTrue (is_value_initiator i) × IsTrue (is_value_initiator j) × (cleaned_text v ≡ v) × (cleaned_text w ≡ w))
    × HoldsCleaned line

-- two lines with two characters that are compared, one before the other, and what stands before, between and after them
pub record ComparedLines : Type 0 where
  pub prefix : List Both
  pub first : Chosen
  pub mid : List Both
  pub second : Chosen
  pub suffix : List Both

abbrev pub whole_line : ComparedLines → List Both
whole_line c = c.prefix ++ chosen_part c.first ∷ (c.mid ++ chosen_part c.second ∷ c.suffix)

-- both are surrounding characters, or of blocks
abbrev pub are_surrounding : ComparedLines → Bool
are_surrounding c =
    (is_surrounding (bidi_class (one_character c.first)) && is_surrounding (bidi_class (other_character c.first)))
    && (is_surrounding (bidi_class (one_character c.second)) && is_surrounding (bidi_class (other_character c.second)))

-- the indexes of the two on the one line
abbrev pub one_first : ComparedLines → ℕ
one_first c = length (one_line c.prefix ++ one_before c.first)

abbrev pub one_second : ComparedLines → ℕ
one_second c = one_first c + 1 + length (one_after c.first ++ (one_line c.mid ++ one_before c.second))

-- their indexes on the other line
abbrev pub other_first : ComparedLines → ℕ
other_first c = length (other_line c.prefix ++ other_before c.first)

abbrev pub other_second : ComparedLines → ℕ
other_second c = other_first c + 1 + length (other_after c.first ++ (other_line c.mid ++ other_before c.second))
