-- Which texts are plural rules, and what they say.
-- The rule syntax of UTS #35 (LDML), part 3, "Plural rules syntax", without the keywords is, in, within and mod:
-- a condition is alternatives joined by `or`, an alternative is relations joined by `and`, and a relation is an
-- operand, maybe `%` and a value above 0, then `=` or `!=`, then values and ranges `a..b` joined by commas.
-- White space may stand before each of these pieces and at the end. What follows an `@` is samples, and says nothing.
-- The category other has the empty condition, and the others have none that is empty.
-- Example: `n % 10 = 1 and n != 11, 21..31 @integer 1` has one alternative of two relations. The first asks of n % 10
-- for a value of 1..1, the second of n for no value of 11..11 and 21..31.
use Rattle.std.specs.Prelude.{◌≡◌, ◌≢◌, ℕ, ◌+◌, ◌-◌, ◌*◌, ◌<◌, ◌≤◌, Bool, true, false, ◌||◌, ◌==◌, IsTrue, List, []}
use Rattle.std.specs.Prelude.{◌∷◌, ◌++◌, Option, Some, None, codes}
use Rattle.std.specs.Char.{is_ascii_digit}
use Rattle.plural_rules.specs.declared.category.Category.{Category}
use Rattle.plural_rules.specs.declared.category.Category.TheVariants.{Other}
use Rattle.plural_rules.specs.declared.condition.Operand.{Operand}
use Rattle.plural_rules.specs.declared.condition.Operand.TheVariants.{N, I, V, W, F, T, C, E}
use Rattle.plural_rules.specs.declared.condition.Comparison.{Comparison}
use Rattle.plural_rules.specs.declared.condition.Values.{Values}

-- what a relation says
pub record Relation : Type 0 where
  pub comparison : Comparison
  pub ranges : List Values

-- what a condition says: alternatives, each of which is relations
abbrev pub Alternatives : Type 0
Alternatives = List (List Relation)

-- space, tab, line feed and carriage return
abbrev pub is_white : ℕ → Bool
is_white c = c == 32 || c == 9 || c == 10 || c == 13

abbrev pub IsWhite : List ℕ → Type 0
IsWhite [] = Unit {0}
IsWhite (c ∷ cs) = IsTrue (is_white c) × IsWhite cs

-- white space, and then the piece
pub record Spaced (piece text : List ℕ) : Type 0 where
  pub white : List ℕ
  pub blank : IsWhite white
  pub whole : text ≡ white ++ piece

abbrev pub AreDigits : List ℕ → Type 0
AreDigits [] = Unit {0}
AreDigits (c ∷ cs) = IsTrue (is_ascii_digit c) × AreDigits cs

-- the number that decimal digits write after those of n
abbrev pub value_after : ℕ → List ℕ → ℕ
value_after n [] = n
value_after n (c ∷ cs) = value_after (10 * n + (c - 48)) cs

-- the largest value
abbrev pub largest : ℕ
largest = 9007199254740991

-- white space, and then the digits of n
pub record IsValue (text : List ℕ) (n : ℕ) : Type 0 where
  pub digits : List ℕ
  pub spaced : Spaced digits text
  pub decimal : AreDigits digits
  pub some : digits ≢ []
  pub number : value_after 0 digits ≡ n
  pub within : n ≤ largest

-- nothing, or `%` and a value above 0
pub data IsModulus : List ℕ → Option ℕ → Type 0 where
  plain : IsModulus [] None
  remainder : (operator value : List ℕ) (m : ℕ) → Spaced (codes "%") operator → IsValue value m → 0 < m
      → IsModulus (operator ++ value) (Some m)

-- the operator = is true, and != is false
abbrev pub operator_of : Bool → List ℕ
operator_of true = codes "="
operator_of false = codes "!="

-- a value, or two with `..` between them
pub data IsRange : List ℕ → Values → Type 0 where
  single : (value : List ℕ) (n : ℕ) → IsValue value n → IsRange value (record { first = n; last = n })
  pair : (low dots high : List ℕ) (first last : ℕ) → IsValue low first → Spaced (codes "..") dots → IsValue high last
      → IsRange (low ++ (dots ++ high)) (record { first = first; last = last })

-- any number of items, each with the separator before it
pub data Follow {A : Type 0} (separator : List ℕ) (Spells : List ℕ → A → Type 0) : List ℕ → List A → Type 0 where
  none : Follow separator Spells [] []
  more : (join item rest : List ℕ) (x : A) (xs : List A) → Spaced separator join → Spells item x
      → Follow separator Spells rest xs → Follow separator Spells (join ++ (item ++ rest)) (x ∷ xs)

-- one or more items, joined by the separator
pub data Joined {A : Type 0} (separator : List ℕ) (Spells : List ℕ → A → Type 0) : List ℕ → List A → Type 0 where
  items : (item rest : List ℕ) (x : A) (xs : List A) → Spells item x → Follow separator Spells rest xs
      → Joined separator Spells (item ++ rest) (x ∷ xs)

-- the letter of an operand
abbrev pub letter_of : Operand → List ℕ
letter_of N = codes "n"
letter_of I = codes "i"
letter_of V = codes "v"
letter_of W = codes "w"
letter_of F = codes "f"
letter_of T = codes "t"
letter_of C = codes "c"
letter_of E = codes "e"

-- an operand, a modulus, an operator, and values and ranges joined by commas
pub data IsRelation : List ℕ → Relation → Type 0 where
  relation : (operand modulus operator list : List ℕ) (of : Operand) (by : Option ℕ) (equal : Bool)
      (ranges : List Values)
      → Spaced (letter_of of) operand → IsModulus modulus by → Spaced (operator_of equal) operator
      → Joined (codes ",") IsRange list ranges
      → IsRelation (operand ++ (modulus ++ (operator ++ list)))
      (record { comparison = record { operand = of; modulus = by; equal = equal }; ranges = ranges })

-- relations joined by `and`
abbrev pub IsAlternative : List ℕ → List Relation → Type 0
IsAlternative = Joined (codes "and") IsRelation

-- nothing, or `@` and anything
abbrev pub AreSamples : List ℕ → Type 0
AreSamples [] = Unit {0}
AreSamples (c ∷ _) = c ≡ 64

-- white space, and then samples
pub record IsEnd (text : List ℕ) : Type 0 where
  pub samples : List ℕ
  pub spaced : Spaced samples text
  pub are : AreSamples samples

-- alternatives joined by `or`, and then an end
pub data IsRule : List ℕ → Alternatives → Type 0 where
  rule : (condition ending : List ℕ) (says : Alternatives) → Joined (codes "or") IsAlternative condition says
      → IsEnd ending → IsRule (condition ++ ending) says

-- **The text is a rule of the category, and says this.**
abbrev pub Condition : Category → List ℕ → Alternatives → Type 0
Condition Other text says = (says ≡ []) × IsEnd text
Condition _ text says = IsRule text says
