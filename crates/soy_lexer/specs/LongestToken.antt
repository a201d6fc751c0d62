-- Which characters are a token of a command, by themselves, and that the token at an offset is the longest one there.
--
-- `?:` is a symbol, so `?:x` begins with it and not with `?`; `07` is no int, so it begins with `0`; and nothing begins
-- with `9007199254740992`, which is an int over the limit, though the int `9` stands at its start.
use Rattle.std.specs.Prelude.{◌≡◌, ◌≢◌, ℕ, ◌<◌, ◌≤◌, List, [], ◌∷◌, ◌++◌, Bool, false, ◌&&◌, ◌==◌, not, nat_le}
use Rattle.std.specs.Prelude.{if◌then◌else◌, IsTrue, Some, length, codes}
use Rattle.std.specs.Char.{is_ascii_digit}
use Rattle.std.specs.List.{list_all, list_any}
use Rattle.std.specs.Str.{bytes_eq}
use Rattle.soy_base.specs.Names.{is_name}
use Rattle.soy_base.specs.Cuts.{is_nil, prefix_while}
use Rattle.soy_base.specs.Characters.{dollar_sign, single_quote, double_quote, backslash, null}
use Rattle.soy_lexer.specs.CommandSegment.{number_after, symbols_of_one, symbols_of_two}
use Rattle.soy_base.specs.Limits.{largest}
use Rattle.soy_lexer.specs.Found.{Found}
use Rattle.soy_lexer.specs.Segment.Segment.{CommandToken}
use Rattle.soy_lexer.specs.Found.Found.{Begins, Fails}
use Rattle.soy_lexer.specs.Strings.{escaped, numbered}
use Rattle.soy_lexer.specs.declared.token.TokenKind.{TokenKind}
use Rattle.soy_lexer.specs.declared.token.TokenKind.TheVariants as kind

-- `0`, or digits without a zero at their start that write no number over the limit
abbrev pub is_int : List ℕ → Bool
is_int [] = false
is_int (c ∷ cs) =
    if c == 48 then is_nil cs else (list_all is_ascii_digit (c ∷ cs) && nat_le (number_after 0 (c ∷ cs)) largest)

-- what stands in a string after its first quote: characters for themselves, escapes, and then the last quote
pub data StringRest : List ℕ → Type 0 where
  Ends : StringRest (single_quote ∷ [])
  Plain : (c : ℕ) (cs : List ℕ) → c ≢ single_quote → c ≢ backslash → StringRest cs → StringRest (c ∷ cs)
  Escape : (c d : ℕ) (cs : List ℕ) → escaped c ≡ Some d → StringRest cs → StringRest (backslash ∷ c ∷ cs)
  Number : (a b c d e : ℕ) (cs : List ℕ) → numbered a b c d ≡ Some e → StringRest cs
      → StringRest (backslash ∷ 117 ∷ a ∷ b ∷ c ∷ d ∷ cs)

-- and in a value in double quotes
pub record ValueRest (text : List ℕ) : Type 0 where
  pub value : List ℕ
  pub is : text ≡ value ++ double_quote ∷ []
  pub has_none : IsTrue (list_all (λ c. not (c == double_quote)) value)

abbrev pub BeginsWith : ℕ → (List ℕ → Type 0) → List ℕ → Type 0
BeginsWith first P [] = ⊥
BeginsWith first P (c ∷ cs) = (c ≡ first) × P cs

abbrev pub is_symbol : List ℕ → Bool
is_symbol text = list_any (bytes_eq text) (symbols_of_two ++ symbols_of_one)

-- the form of a token of this kind
abbrev pub TokenForm : TokenKind → List ℕ → Type 0
TokenForm kind.Word text = IsTrue (is_name text)
TokenForm kind.Variable text = BeginsWith dollar_sign (λ name. IsTrue (is_name name)) text
TokenForm kind.Int text = IsTrue (is_int text)
TokenForm kind.Str text = BeginsWith single_quote StringRest text
TokenForm kind.Attribute text = BeginsWith double_quote ValueRest text
TokenForm kind.Symbol text = IsTrue (is_symbol text)
TokenForm kind.End text = text ≡ codes "}"
TokenForm kind.SlashEnd text = text ≡ codes "/}"
TokenForm _ text = ⊥

-- these characters are a token of this kind
pub record IsToken (kind : TokenKind) (text : List ℕ) : Type 0 where
  pub form : TokenForm kind text
  pub has_no_null : IsTrue (list_all (λ c. not (c == null)) text)

-- the characters of the token with which a text begins are a prefix of it, and a token
abbrev pub GivesToken : List ℕ → Found → Type 0
GivesToken text (Begins (CommandToken kind source_text value) rest) =
    (text ≡ source_text ++ rest) × IsToken kind source_text
GivesToken text _ = Unit {0}

-- the number that the digits at the start of a text write is over the limit
abbrev pub IsOverLimit : List ℕ → Type 0
IsOverLimit text = largest < number_after 0 (prefix_while is_ascii_digit text)

-- a text with this token at its start begins with one as long at least, or with an int over the limit
abbrev pub Reaches : List ℕ → List ℕ → Found → Type 0
Reaches prefix text (Begins (CommandToken kind source_text value) rest) = length prefix ≤ length source_text
Reaches prefix text (Begins _ rest) = ⊥
Reaches prefix text (Fails further) = IsOverLimit text
