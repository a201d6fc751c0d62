-- References to characters: those by name of a list, and those by number.
--
-- The names are compared as they are written. A number has 1 to 7 decimal digits, or `x` or `X` and 1 to 6 hexadecimal
-- ones, and is that of a Unicode scalar value: 9, 10, 13, or at least 32 and not 127 to 159. (WHATWG HTML, 13.2.5.72 to
-- 13.2.5.80, 13.5 "Named character references".)
-- Example: `&amp;` is a reference and `&AMP;` isn't; `&#33;` is one, and no reference begins with `&#9999999`.
use Rattle.std.specs.Prelude.{ℕ, zero, suc, ◌+◌, ◌*◌, ◌-◌, Bool, true, false, ◌==◌, ◌&&◌, ◌||◌, if◌then◌else◌, List, []}
use Rattle.std.specs.Prelude.{◌∷◌, codes, map, length, nat_lt, nat_le, min}
use Rattle.std.specs.List.{list_all}
use Rattle.html_state.specs.declared.row.Reference.{Reference}
use Rattle.html_state.specs.declared.row.Reference.TheVariants as reference
use Rattle.html_state.specs.Texts.{is_prefix_among}

-- the known names, each with the character that its reference stands for
abbrev pub named_references : List (List ℕ × ℕ)
named_references =
    (codes "amp", 0x26) ∷ (codes "lt", 0x3c) ∷ (codes "gt", 0x3e) ∷ (codes "quot", 0x22) ∷
    (codes "nbsp", 0xa0) ∷ (codes "copy", 0xa9) ∷ (codes "reg", 0xae) ∷ (codes "sect", 0xa7) ∷
    (codes "mdash", 0x2014) ∷ (codes "ndash", 0x2013) ∷ (codes "hellip", 0x2026) ∷ (codes "laquo", 0xab) ∷
    (codes "raquo", 0xbb) ∷ (codes "lsquo", 0x2018) ∷ (codes "rsquo", 0x2019) ∷ (codes "para", 0xb6) ∷
    (codes "ldquo", 0x201c) ∷ (codes "rdquo", 0x201d) ∷ (codes "bull", 0x2022) ∷ (codes "middot", 0xb7) ∷
    (codes "times", 0xd7) ∷ (codes "deg", 0xb0) ∷ (codes "euro", 0x20ac) ∷ (codes "trade", 0x2122) ∷
    (codes "larr", 0x2190) ∷ (codes "rarr", 0x2192) ∷ (codes "lrm", 0x200e) ∷ (codes "rlm", 0x200f) ∷
    (codes "zwnj", 0x200c) ∷ (codes "zwj", 0x200d) ∷ (codes "shy", 0xad) ∷ []

abbrev pub reference_names : List (List ℕ)
reference_names = map (λ reference. reference.0) named_references

-- the characters after `&`, kept while they begin a name
abbrev pub name_begun : List ℕ → Reference
name_begun prefix = if is_prefix_among reference_names prefix then reference.Begun prefix else reference.NoName

-- the value of a digit; 16 where it is none
abbrev pub digit_value : ℕ → ℕ
digit_value c =
    if nat_le 48 c && nat_le c 57 then c - 48
    else (if nat_le 65 c && nat_le c 70 then c - 55
    else (if nat_le 97 c && nat_le c 102 then c - 87
    else 16))

-- each number above that of Unicode's last character counts as this one
abbrev pub beyond : ℕ
beyond = 0x110000

-- the number of these digits after those of another number
abbrev pub value_from : ℕ → ℕ → List ℕ → ℕ
value_from base number [] = number
value_from base number (c ∷ digits) = value_from base (min (number * base + digit_value c) beyond) digits

-- two ranges have a number in common
abbrev pub meet : ℕ → ℕ → ℕ → ℕ → Bool
meet low high from to = nat_le low to && nat_le from high

-- a number of this range is that of a reference
abbrev pub is_some_allowed : ℕ → ℕ → Bool
is_some_allowed low high =
    meet low high 9 10 || meet low high 13 13 || meet low high 32 126 || meet low high 160 0xd7ff
    || meet low high 0xe000 0x10ffff

-- so is a number of this range with at most so many more digits
unfoldable pub may_go_on : ℕ → ℕ → ℕ → ℕ → Bool
may_go_on base zero low high = is_some_allowed low high
may_go_on base (suc more) low high =
    is_some_allowed low high || may_go_on base more (min (low * base) beyond) (min (high * base + (base - 1)) beyond)

abbrev pub are_digits : ℕ → List ℕ → Bool
are_digits base digits = list_all (λ digit. nat_lt (digit_value digit) base) digits

-- some number of a reference, of at most so many digits, begins with these
abbrev pub begins_number : ℕ → ℕ → List ℕ → Bool
begins_number base most [] = true
begins_number base most (c ∷ rest) =
    (are_digits base (c ∷ rest) && nat_le (length (c ∷ rest)) most)
    && may_go_on base (most - length (c ∷ rest)) (value_from base 0 (c ∷ rest)) (value_from base 0 (c ∷ rest))

-- the digits are those of a reference
abbrev pub is_number : ℕ → ℕ → List ℕ → Bool
is_number base most [] = false
is_number base most (c ∷ rest) =
    (are_digits base (c ∷ rest) && nat_le (length (c ∷ rest)) most)
    && is_some_allowed (value_from base 0 (c ∷ rest)) (value_from base 0 (c ∷ rest))

abbrev pub is_x : ℕ → Bool
is_x c = c == 0x78 || c == 0x58

-- some reference by number begins with `&#` and these characters
abbrev pub begins_numeric : List ℕ → Bool
begins_numeric [] = true
begins_numeric (c ∷ rest) = if is_x c then begins_number 16 6 rest else begins_number 10 7 (c ∷ rest)

-- `&#`, these characters and `;` are a reference
abbrev pub is_numeric : List ℕ → Bool
is_numeric [] = false
is_numeric (c ∷ rest) = if is_x c then is_number 16 6 rest else is_number 10 7 (c ∷ rest)
