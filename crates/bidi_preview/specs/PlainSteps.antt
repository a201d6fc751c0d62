-- Plain lines: each class in them gives its character the level of the base, whatever stands around it.
--
-- From left to right `a 1, b` is plain, and from right to left U+05D0, space, `!` is. A line with a number isn't from
-- right to left, where the number has the level 2, and none with an embedding, an override or an isolate is.
use Rattle.std.specs.Prelude.{ℕ, Bool, true, false, not, Option, Some, None}
use Rattle.bidi_class.specs.declared.class.Class.{Class}
use Rattle.bidi_class.specs.declared.class.Class.TheVariants.{L, R, AL, EN, ES, ET, CS, NSM, BN, B, S, WS, ON}

abbrev pub is_plain : Bool → Class → Bool
is_plain right_to_left L = not right_to_left
is_plain right_to_left EN = not right_to_left
is_plain right_to_left R = right_to_left
is_plain right_to_left AL = right_to_left
is_plain right_to_left ES = true
is_plain right_to_left ET = true
is_plain right_to_left CS = true
is_plain right_to_left NSM = true
is_plain right_to_left BN = true
is_plain right_to_left B = true
is_plain right_to_left S = true
is_plain right_to_left WS = true
is_plain right_to_left ON = true
is_plain right_to_left _ = false

-- the level of a character of such a class
abbrev pub plain_level : ℕ → Class → Option ℕ
plain_level base BN = None
plain_level base _ = Some base
