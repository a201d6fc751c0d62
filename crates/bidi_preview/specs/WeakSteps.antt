-- What one character becomes by a rule on weak types, by what the rule remembers of those before it (UAX #9, W1 to W7).
--
-- With AL as the last strong class W2 makes EN an AN, and EN after AN stays.
use Rattle.std.specs.Prelude.{List, [], ◌∷◌}
use Rattle.bidi_class.specs.declared.class.Class.{Class}
use Rattle.bidi_class.specs.declared.class.Class.TheVariants.{L, R, AL, EN, ET, AN, NSM, ON}
use Rattle.bidi_order.specs.Resolve.{nonspacing_class, w3, w6}

-- W1, by the class before
abbrev pub w1_class : Class → Class → Class
w1_class before NSM = nonspacing_class before
w1_class before c = c

-- W2, by the last strong class
abbrev pub w2_class : Class → Class → Class
w2_class EN AL = AN
w2_class c strong = c

-- the last strong class after a character
abbrev pub strong_after : Class → Class → Class
strong_after strong L = L
strong_after strong R = R
strong_after strong AL = AL
strong_after strong c = strong

-- W5 for what leads to a number, by the class after
abbrev pub leading_class : Class → Class → Class
leading_class ET EN = EN
leading_class c next = c

-- the first class, or another where there is none
abbrev pub first_or : Class → List Class → Class
first_or other [] = other
first_or other (c ∷ cs) = c

-- W5 for what leads to numbers alone
abbrev pub leading_terminators : List Class → List Class
leading_terminators [] = []
leading_terminators (c ∷ cs) = leading_class c (first_or ON (leading_terminators cs)) ∷ leading_terminators cs

-- W5 for what follows a number, by the class before
abbrev pub following_class : Class → Class → Class
following_class ET EN = EN
following_class c before = c

abbrev pub following_terminators : Class → List Class → List Class
following_terminators before [] = []
following_terminators before (c ∷ cs) = following_class c before ∷ following_terminators (following_class c before) cs

-- W7, by the last of L and R
abbrev pub w7_class : Class → Class → Class
w7_class EN L = L
w7_class c strong = c

-- the last of L and R after a character
abbrev pub side_after : Class → Class → Class
side_after strong L = L
side_after strong R = R
side_after strong c = strong

-- W1 to W3 in one pass, by the class before and the last strong class
abbrev pub letters_resolved : Class → Class → List Class → List Class
letters_resolved before strong [] = []
letters_resolved before strong (c ∷ cs) =
    w3 (w2_class (w1_class before c) strong)
    ∷ letters_resolved (w1_class before c) (strong_after strong (w1_class before c)) cs

-- W5 for what follows a number, W6 and W7 in one pass, by the class before and the last of L and R
abbrev pub rest_resolved : Class → Class → List Class → List Class
rest_resolved before strong [] = []
rest_resolved before strong (c ∷ cs) =
    w7_class (w6 (following_class c before)) strong
    ∷ rest_resolved (following_class c before) (side_after strong (w6 (following_class c before))) cs
