-- The direction of a text, estimated by its words, after the estimate of BidiFormatter (Closure Library).
--
-- Words are the maximal runs of characters that are no white space (Unicode's White_Space). Each is of one kind, by
-- the first rule that holds:
--   its first character of class L, R or AL is R or AL        right to left
--   it begins with `http://` or `https://`                    weak
--   it has a character of class L                             left to right
--   it has a digit 0 to 9                                     weak
--   otherwise                                                 neutral
-- The total counts the words of the first and the third kind. The text is right to left where 5 times the words of
-- the first kind are more than 2 times the total; else left to right where the total is above 0 or a word is weak;
-- else its direction is that of its context.
--
-- With a word of U+05D0 and a word `b` a text is right to left, since 5 times 1 is more than 2 times 2; with a third
-- word `c` it is left to right. The text `!` has the direction of its context.
use Rattle.std.specs.Prelude.{ℕ, ◌*◌, Bool, true, false, ◌||◌, nat_lt, nat_eq, List, [], ◌∷◌, ◌++◌, if◌then◌else◌}
use Rattle.std.specs.Prelude.{Option, map, find, count_by, codes}
use Rattle.std.specs.List.{list_any, starts_with}
use Rattle.std.specs.Option.{option_map_or}
use Rattle.std.specs.Char.{is_whitespace, is_ascii_digit}
use Rattle.bidi_class.specs.declared.class.Class.{Class}
use Rattle.bidi_class.specs.declared.class.Class.TheVariants.{L, R, AL}
use Rattle.bidi_class.specs.Class.{bidi_class}
use Rattle.soy_base.specs.declared.direction.Dir.{Dir}
use Rattle.soy_base.specs.declared.direction.Dir.TheVariants.{Ltr, Rtl}

-- the word that ends here, if one has begun
abbrev pub ended_word : List ℕ → List (List ℕ)
ended_word [] = []
ended_word (c ∷ cs) = (c ∷ cs) ∷ []

-- the words of a text that follows the beginning of a word
abbrev pub words_after : List ℕ → List ℕ → List (List ℕ)
words_after word [] = ended_word word
words_after word (c ∷ cs) =
    if is_whitespace c then ended_word word ++ words_after [] cs else words_after (word ++ c ∷ []) cs

-- the words of a text
abbrev pub words_of : List ℕ → List (List ℕ)
words_of text = words_after [] text

-- a class with a direction: L, R or AL
abbrev pub is_strong : Class → Bool
is_strong L = true
is_strong R = true
is_strong AL = true
is_strong _ = false

-- a class with the direction from right to left
abbrev pub is_right_to_left : Class → Bool
is_right_to_left R = true
is_right_to_left AL = true
is_right_to_left _ = false

-- the class with the direction from left to right
abbrev pub is_left_to_right : Class → Bool
is_left_to_right L = true
is_left_to_right _ = false

-- the class of the first character with a direction
unfoldable pub first_strong : List ℕ → Option Class
first_strong word = find is_strong (map bidi_class word)

-- the word begins as the address of a page
unfoldable pub is_address : List ℕ → Bool
is_address word = starts_with nat_eq word (codes "http://") || starts_with nat_eq word (codes "https://")

-- what a word says of the direction
pub data WordKind : Type 0 where
  RightToLeft : WordKind
  LeftToRight : WordKind
  Weak : WordKind
  Neutral : WordKind

unfoldable pub word_kind : List ℕ → WordKind
word_kind word =
    if option_map_or is_right_to_left (first_strong word) false then RightToLeft
    else if is_address word then Weak
    else if list_any (λ c. is_left_to_right (bidi_class c)) word then LeftToRight
    else if list_any is_ascii_digit word then Weak
    else Neutral

-- the kind counts as right to left
abbrev pub counts_right_to_left : WordKind → Bool
counts_right_to_left RightToLeft = true
counts_right_to_left _ = false

-- the kind counts in the total
abbrev pub counts_in_total : WordKind → Bool
counts_in_total RightToLeft = true
counts_in_total LeftToRight = true
counts_in_total _ = false

-- the kind is weak
abbrev pub is_weak : WordKind → Bool
is_weak Weak = true
is_weak _ = false

-- the direction by so many words from right to left, so many in the total, and whether a word is weak
abbrev pub direction_by : ℕ → ℕ → Bool → Dir → Dir
direction_by right_to_left total weak context =
    if nat_lt (2 * total) (5 * right_to_left) then Rtl
    else if nat_lt 0 total || weak then Ltr
    else context

-- the kinds of a text's words
abbrev pub word_kinds : List ℕ → List WordKind
word_kinds text = map word_kind (words_of text)

-- the direction of a text in a context
abbrev pub estimated_direction : List ℕ → Dir → Dir
estimated_direction text context =
    direction_by
    (count_by counts_right_to_left (word_kinds text)) (count_by counts_in_total (word_kinds text))
    (list_any is_weak (word_kinds text)) context
