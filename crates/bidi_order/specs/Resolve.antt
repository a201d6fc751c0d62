-- The levels of one isolating run sequence (UAX #9, 3.3.4 "Resolving Weak Types", 3.3.5 "Resolving Neutral and Isolate
-- Formatting Types", 3.3.6 "Resolving Implicit Levels"; W1 to W7, N0 to N2, I1 and I2).
--
-- One function for one rule. Each reads the characters from first to last, with what it has to remember of those
-- before, and gives the class of each after the rule. A sequence is known by its level, by its sos and eos, which are L
-- or R, and by its characters; nothing else is read.
--
-- At level 0 with sos and eos L, of U+05D0, space, `1` the classes are R, WS, EN; N1 makes the space R, and the levels
-- are 1, 1, 2.
use Rattle.std.specs.Prelude.{ℕ, zero, suc, ◌+◌, Bool, true, false, ◌==◌, not, nat_lt, List, [], ◌∷◌, map, length, take}
use Rattle.std.specs.Prelude.{drop, if◌then◌else◌, Option, Some, None}
use Rattle.std.specs.List.{list_any}
use Rattle.bidi_class.specs.declared.class.Class.{Class}
use Rattle.bidi_class.specs.declared.class.Class.TheVariants.{L, R, AL, EN, ES, ET, AN, CS, NSM, ON, LRI, PDI}
use Rattle.bidi_class.specs.declared.brackets.Bracket.{Bracket}
use Rattle.bidi_class.specs.declared.brackets.Bracket.TheVariants.{Opens, Closes}
use Rattle.bidi_text.specs.Estimate.{is_right_to_left}
use Rattle.bidi_order.specs.DirectionalStatus.{is_odd, strong_class}
use Rattle.bidi_order.specs.Explicit.{SequenceCharacter}

-- ---- weak types

-- W1: NSM has the class of the character before it, and is ON after an isolate control
abbrev pub nonspacing_class : Class → Class
nonspacing_class LRI = ON
nonspacing_class PDI = ON
nonspacing_class before = before

-- W1: the class before the first character is sos
abbrev pub w1 : Class → List Class → List Class
w1 before [] = []
w1 before (NSM ∷ cs) = nonspacing_class before ∷ w1 (nonspacing_class before) cs
w1 before (c ∷ cs) = c ∷ w1 c cs

-- W2: EN becomes AN where the last strong class before it, or sos, is AL
abbrev pub w2 : Class → List Class → List Class
w2 strong [] = []
w2 strong (L ∷ cs) = L ∷ w2 L cs
w2 strong (R ∷ cs) = R ∷ w2 R cs
w2 strong (AL ∷ cs) = AL ∷ w2 AL cs
w2 AL (EN ∷ cs) = AN ∷ w2 AL cs
w2 strong (c ∷ cs) = c ∷ w2 strong cs

-- W3: AL becomes R
abbrev pub w3 : Class → Class
w3 AL = R
w3 c = c

-- W4: one separator between two numbers of one class becomes of that class: `1,2` is a number. By the class before, the
-- separator's own, and those after
abbrev pub separator_class : Class → Class → List Class → Class
separator_class EN ES (EN ∷ cs) = EN
separator_class EN CS (EN ∷ cs) = EN
separator_class AN CS (AN ∷ cs) = AN
separator_class before c cs = c

abbrev pub w4 : Class → List Class → List Class
w4 before [] = []
w4 before (c ∷ cs) = separator_class before c cs ∷ w4 (separator_class before c cs) cs

-- W5: terminators lead to a European number
abbrev pub leads_to_number : List Class → Bool
leads_to_number (ET ∷ cs) = leads_to_number cs
leads_to_number (EN ∷ cs) = true
leads_to_number _ = false

-- W5: a terminator beside a European number becomes EN, as the `%` of `1%`
abbrev pub terminator_class : Class → List Class → Class
terminator_class EN cs = EN
terminator_class before cs = if leads_to_number cs then EN else ET

abbrev pub w5 : Class → List Class → List Class
w5 before [] = []
w5 before (ET ∷ cs) = terminator_class before cs ∷ w5 (terminator_class before cs) cs
w5 before (c ∷ cs) = c ∷ w5 c cs

-- W6: other separators and terminators become ON
abbrev pub w6 : Class → Class
w6 ES = ON
w6 ET = ON
w6 CS = ON
w6 c = c

-- W7: EN becomes L where the last strong class before it, or sos, is L
abbrev pub w7 : Class → List Class → List Class
w7 strong [] = []
w7 strong (L ∷ cs) = L ∷ w7 L cs
w7 strong (R ∷ cs) = R ∷ w7 R cs
w7 L (EN ∷ cs) = L ∷ w7 L cs
w7 strong (c ∷ cs) = c ∷ w7 strong cs

-- W1 to W7, in this order
abbrev pub weak_types : Class → List Class → List Class
weak_types sos cs = w7 sos (map w6 (w5 ON (w4 ON (map w3 (w2 sos (w1 sos cs))))))

-- ---- neutral and isolate formatting types

-- the direction that a class counts as in N0 to N2, EN and AN as R; true is from right to left
abbrev pub class_direction : Class → Option Bool
class_direction L = Some false
class_direction R = Some true
class_direction EN = Some true
class_direction AN = Some true
class_direction _ = None

-- BD16: the opening bracket that a closing one matches, and those that stay open before it. The open brackets stand
-- last first, each by the closing character of its pair and its index
abbrev pub matching_opening : ℕ → List (ℕ × ℕ) → Option (ℕ × List (ℕ × ℕ))
matching_opening c [] = None
matching_opening c ((d, index) ∷ open_ones) =
    if c == d then Some (index, open_ones) else matching_opening c open_ones

-- a bracket counts where its class is still ON
abbrev pub neutral_bracket : Class → Option Bracket → Option Bracket
neutral_bracket ON bracket = bracket
neutral_bracket _ bracket = None

-- BD16: the pairs of indexes; where a 64th bracket would be open, the search ends
abbrev pub bracket_pairs_from : ℕ → List (ℕ × ℕ) → List (Option Bracket) → List (ℕ × ℕ)
bracket_pairs_from index open_ones [] = []
bracket_pairs_from index open_ones (None ∷ brackets) = bracket_pairs_from (suc index) open_ones brackets
bracket_pairs_from index open_ones (Some (Opens c) ∷ brackets) =
    if length open_ones == 63 then [] else bracket_pairs_from (suc index) ((c, index) ∷ open_ones) brackets
bracket_pairs_from index open_ones (Some (Closes c) ∷ brackets) = elim (matching_opening c open_ones) [
  | None ↦ bracket_pairs_from (suc index) open_ones brackets
  | Some found ↦ (found.0, index) ∷ bracket_pairs_from (suc index) found.1 brackets
]

-- the pairs in the order of their opening brackets
abbrev pub pair_inserted : ℕ × ℕ → List (ℕ × ℕ) → List (ℕ × ℕ)
pair_inserted pair [] = pair ∷ []
pair_inserted pair (other ∷ others) =
    if nat_lt pair.0 other.0 then pair ∷ (other ∷ others) else other ∷ pair_inserted pair others

abbrev pub pairs_in_order : List (ℕ × ℕ) → List (ℕ × ℕ)
pairs_in_order [] = []
pairs_in_order (pair ∷ pairs) = pair_inserted pair (pairs_in_order pairs)

-- the last direction of some classes, or that before them
abbrev pub last_direction : Bool → List Class → Bool
last_direction before [] = before
last_direction before (c ∷ cs) = elim (class_direction c) [
  | None ↦ last_direction before cs
  | Some d ↦ last_direction d cs
]

-- the class counts as this direction
abbrev pub is_direction : Bool → Class → Bool
is_direction d c = elim (class_direction c) [ None ↦ false | Some e ↦ elim d [ true ↦ e | false ↦ not e ] ]

-- N0: the direction that a pair of brackets gets, by the level's own, sos, the classes inside and those before. It is
-- the level's own where that stands inside; else, where the other one stands inside, the last before the pair; else
-- none
abbrev pub pair_direction : Bool → Bool → List Class → List Class → Option Bool
pair_direction own sos inside before =
    if list_any (is_direction own) inside then Some own
    else if list_any (is_direction (not own)) inside then Some (last_direction sos before)
    else None

-- N0: what was NSM directly after a bracket gets the bracket's class
abbrev pub set_nonspacing : Class → List Bool → List Class → List Class
set_nonspacing to [] cs = cs
set_nonspacing to (false ∷ were_nonspacing) cs = cs
set_nonspacing to (true ∷ were_nonspacing) [] = []
set_nonspacing to (true ∷ were_nonspacing) (c ∷ cs) = to ∷ set_nonspacing to were_nonspacing cs

-- the bracket at an index gets a class
abbrev pub set_bracket : ℕ → Class → List Bool → List Class → List Class
set_bracket index to were_nonspacing [] = []
set_bracket zero to were_nonspacing (c ∷ cs) = to ∷ set_nonspacing to (drop 1 were_nonspacing) cs
set_bracket (suc index) to were_nonspacing (c ∷ cs) = c ∷ set_bracket index to (drop 1 were_nonspacing) cs

-- N0: the pairs one after the other, each over the classes that those before it left
abbrev pub n0 : Bool → Bool → List Bool → List (ℕ × ℕ) → List Class → List Class
n0 own sos were_nonspacing [] cs = cs
n0 own sos were_nonspacing ((first, last) ∷ pairs) cs =
    elim (pair_direction own sos (drop (suc first) (take last cs)) (take first cs)) [
      | None ↦ n0 own sos were_nonspacing pairs cs
      | Some d ↦
          n0 own sos were_nonspacing pairs
          (set_bracket last (strong_class d) were_nonspacing (set_bracket first (strong_class d) were_nonspacing cs))
    ]

-- the first direction of some classes, or eos
abbrev pub next_direction : Bool → List Class → Bool
next_direction eos [] = eos
next_direction eos (c ∷ cs) = elim (class_direction c) [ None ↦ next_direction eos cs | Some d ↦ d ]

-- N1: the direction that stands on both sides. N2: the level's own, where the two differ
abbrev pub between : Bool → Bool → Bool → Class
between own true true = R
between own false false = L
between own _ _ = strong_class own

-- N1, N2: the direction before the first character is that of sos
abbrev pub n1 : Bool → Bool → Bool → List Class → List Class
n1 own before eos [] = []
n1 own before eos (c ∷ cs) = elim (class_direction c) [
  | None ↦ between own before (next_direction eos cs) ∷ n1 own before eos cs
  | Some d ↦ c ∷ n1 own d eos cs
]

-- ---- implicit levels

-- I1, I2
abbrev pub implicit : ℕ → Class → ℕ
implicit level L = if is_odd level then level + 1 else level
implicit level R = if is_odd level then level else level + 1
implicit level _ = if is_odd level then level + 1 else level + 2

abbrev pub is_nonspacing : Class → Bool
is_nonspacing NSM = true
is_nonspacing _ = false

-- the brackets that count, by the classes after W7
abbrev pub brackets_of : List Class → List SequenceCharacter → List (Option Bracket)
brackets_of [] sequence = []
brackets_of (c ∷ cs) [] = []
brackets_of (c ∷ cs) (s ∷ sequence) = neutral_bracket c s.bracket ∷ brackets_of cs sequence

-- the levels of a sequence, by its level, sos and eos
unfoldable pub resolve : ℕ → Class → Class → List SequenceCharacter → List ℕ
resolve level sos eos sequence =
    let given = map (λ (s : SequenceCharacter). s.class) sequence in
    let weakened = weak_types sos given in
    let pairs = pairs_in_order (bracket_pairs_from 0 [] (brackets_of weakened sequence)) in
    let paired = n0 (is_odd level) (is_right_to_left sos) (map is_nonspacing given) pairs weakened in
    map (implicit level) (n1 (is_odd level) (is_right_to_left sos) (is_right_to_left eos) paired)
