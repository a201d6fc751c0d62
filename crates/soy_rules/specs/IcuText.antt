-- The patterns of ICU text, and the parts that they mean.
-- A pattern is text with arguments, plurals and selects in it, and so is the text of an arm. An apostrophe quotes where
-- `{`, `}` or, directly in an arm of a plural, `#` follows it, up to the next single apostrophe or the text's end; two
-- are one apostrophe; any other is itself. `#` is the number directly in an arm of a plural. Outside all braces a `}`
-- is text. White space may stand between the parts of an argument. Of two arms of one key the first counts, and `other`
-- is required. At most 64 arguments, plurals and selects are open at once.
-- Example: `{N, plural, other {# '#'}}` is a plural, in whose arm stand the number and the text ` #`.
use Rattle.std.specs.Prelude.{◌≡◌, ◌≢◌, ℕ, suc, ◌≤◌, ℤ, pos, neg_ℤ, Bool, true, false, not, ◌||◌, ◌==◌, IsTrue, List}
use Rattle.std.specs.Prelude.{[], ◌∷◌, ◌++◌, if◌then◌else◌, bytes_eq, codes}
use Rattle.std.specs.List.{list_any, list_all}
use Rattle.std.specs.Char.{is_ascii_digit}
use Rattle.std.specs.Str.Parse.{digits_value}
use Rattle.plural_rules.specs.declared.category.Category.{Category}
use Rattle.plural_rules.specs.declared.category.Category.TheVariants as category
use Rattle.plural_rules.specs.Category.{is_same}
use Rattle.soy_base.specs.Characters.{single_quote, left_brace, right_brace, number_sign, comma, equals_sign}
use Rattle.soy_base.specs.Characters.{minus_sign}
use Rattle.soy_base.specs.WhiteSpace.{is_template_space}
use Rattle.soy_base.specs.Names.{is_name}
use Rattle.soy_tree.specs.Types.{Name}
use Rattle.soy_base.specs.Limits.{largest}
use Rattle.soy_rules.specs.Val.{is_same_int}
use Rattle.soy_tree.specs.Formed.{is_word_character}
use Rattle.soy_tree.specs.MessageParts.{MsgPart, MsgParts, ExactArms, NamedArms, SelectArms, TextPart, Placeholder}
use Rattle.soy_tree.specs.MessageParts.{NumberPart, PluralPart, SelectPart, no_part, part, no_exact_arm, exact_arm}
use Rattle.soy_tree.specs.MessageParts.{no_named_arm, named_arm, no_select_arm, select_arm}

-- where a text stands: outside all arms, or directly in an arm of a plural or of a select
pub data PatternMode : Type 0 where
  AtTop : PatternMode
  InPlural : PatternMode
  InSelect : PatternMode

-- whether a character after an apostrophe makes it quote
abbrev pub is_quotable : PatternMode → ℕ → Bool
is_quotable InPlural c = c == left_brace || c == right_brace || c == number_sign
is_quotable _ c = c == left_brace || c == right_brace

abbrev pub begins_quotable : PatternMode → List ℕ → Bool
begins_quotable mode [] = false
begins_quotable mode (c ∷ cs) = is_quotable mode c

abbrev pub begins_with_quote : List ℕ → Bool
begins_with_quote [] = false
begins_with_quote (c ∷ cs) = c == single_quote

-- whether a character stands for itself
abbrev pub is_plain : PatternMode → ℕ → Bool
is_plain AtTop c = not (c == single_quote || c == left_brace)
is_plain InPlural c = not (c == single_quote || c == left_brace || c == right_brace || c == number_sign)
is_plain InSelect c = not (c == single_quote || c == left_brace || c == right_brace)

-- quoted text, what it stands for, and what follows it
pub data Quoted : List ℕ → List ℕ → List ℕ → Type 0 where
  unclosed : Quoted [] [] []
  closed : (rest : List ℕ) → begins_with_quote rest ≡ false → Quoted (single_quote ∷ rest) [] rest
  doubled : (text chars rest : List ℕ) → Quoted text chars rest
      → Quoted (single_quote ∷ (single_quote ∷ text)) (single_quote ∷ chars) rest
  character : (c : ℕ) (text chars rest : List ℕ) → c ≢ single_quote → Quoted text chars rest
      → Quoted (c ∷ text) (c ∷ chars) rest

-- text before parts; neighbouring text is one part
abbrev pub with_text : List ℕ → MsgParts → MsgParts
with_text [] ps = ps
with_text (c ∷ cs) (part (TextPart text) ps) = part (TextPart ((c ∷ cs) ++ text)) ps
with_text (c ∷ cs) ps = part (TextPart (c ∷ cs)) ps

abbrev pub IsWhite : List ℕ → Type 0
IsWhite text = IsTrue (list_all is_template_space text)

-- the digits of a number within the range of ints
pub record IsNumber (text : List ℕ) (n : ℕ) : Type 0 where
  pub digits : IsTrue (list_all is_ascii_digit text)
  pub some : text ≢ []
  pub value : digits_value 10 text ≡ n
  pub within : n ≤ largest

-- the key of an arm of a plural
pub data Key : Type 0 where
  Exact : ℤ → Key
  Named : Category → Key

abbrev pub keyword : Category → List ℕ
keyword category.Zero = codes "zero"
keyword category.One = codes "one"
keyword category.Two = codes "two"
keyword category.Few = codes "few"
keyword category.Many = codes "many"
keyword category.Other = codes "other"

pub data IsKey : List ℕ → Key → Type 0 where
  exact : (white digits : List ℕ) (n : ℕ) → IsWhite white → IsNumber digits n
      → IsKey (equals_sign ∷ (white ++ digits)) (Exact (pos n))
  negative : (white digits : List ℕ) (n : ℕ) → IsWhite white → IsNumber digits n
      → IsKey (equals_sign ∷ (white ++ (minus_sign ∷ digits))) (Exact (neg_ℤ (pos n)))
  named : (category : Category) → IsKey (keyword category) (Named category)

pub record IsWord (text : List ℕ) : Type 0 where
  pub characters : IsTrue (list_all is_word_character text)
  pub some : text ≢ []

-- the arms for numbers, and those for categories, the first of each key
abbrev pub is_int_among : ℤ → List ℤ → Bool
is_int_among n before = list_any (is_same_int n) before

abbrev pub exact_arms : List ℤ → List (Key × MsgParts) → ExactArms
exact_arms before [] = no_exact_arm
exact_arms before ((Exact n, ps) ∷ arms) =
    if is_int_among n before then exact_arms before arms else exact_arm n ps (exact_arms (n ∷ before) arms)
exact_arms before ((Named c, ps) ∷ arms) = exact_arms before arms

abbrev pub named_arms : List Category → List (Key × MsgParts) → NamedArms
named_arms before [] = no_named_arm
named_arms before ((Exact n, ps) ∷ arms) = named_arms before arms
named_arms before ((Named c, ps) ∷ arms) =
    if list_any (is_same c) before then named_arms before arms else named_arm c ps (named_arms (c ∷ before) arms)

abbrev pub select_arms : List (List ℕ) → List (List ℕ × MsgParts) → SelectArms
select_arms before [] = no_select_arm
select_arms before (arm ∷ arms) =
    if list_any (bytes_eq arm.0) before
    then select_arms before arms
    else select_arm arm.0 arm.1 (select_arms (arm.0 ∷ before) arms)

abbrev pub is_other : Key × MsgParts → Bool
is_other (Exact n, ps) = false
is_other (Named c, ps) = is_same c category.Other

abbrev pub plural_keyword : Bool → List ℕ
plural_keyword false = codes "plural"
plural_keyword true = codes "selectordinal"

-- nothing, or `offset:` and a number, with white space after it
pub data IsOffset : List ℕ → ℕ → Type 0 where
  none : IsOffset [] 0
  given : (white digits after : List ℕ) (n : ℕ) → IsWhite white → IsNumber digits n → IsWhite after
      → IsOffset (codes "offset:" ++ (white ++ (digits ++ after))) n

-- a name with white space around it
pub record IsSpacedName (text : List ℕ) (name : Name) : Type 0 where
  pub before : List ℕ
  pub after : List ℕ
  pub white_before : IsWhite before
  pub white_after : IsWhite after
  pub is : IsTrue (is_name name)
  pub whole : text ≡ before ++ (name ++ after)

-- `,`, the keyword and `,`, with white space around the keyword and after the second comma
pub record IsSpacedKeyword (text keyword_text : List ℕ) : Type 0 where
  pub before : List ℕ
  pub after : List ℕ
  pub last : List ℕ
  pub white_before : IsWhite before
  pub white_after : IsWhite after
  pub white_last : IsWhite last
  pub whole : text ≡ comma ∷ (before ++ (keyword_text ++ (after ++ (comma ∷ last))))

mutual
  -- text where it stands, in which so many more braces may open, its parts, and what follows
  pub data Reads : PatternMode → ℕ → List ℕ → MsgParts → List ℕ → Type 0 where
    stop : {mode : PatternMode} {n : ℕ} (rest : List ℕ) → Reads mode n rest no_part rest
    plain : {mode : PatternMode} {n : ℕ} (c : ℕ) (text rest : List ℕ) (ps qs : MsgParts) → is_plain mode c ≡ true
        → Reads mode n text ps rest → qs ≡ with_text (c ∷ []) ps → Reads mode n (c ∷ text) qs rest
    two : {mode : PatternMode} {n : ℕ} (text rest : List ℕ) (ps qs : MsgParts) → Reads mode n text ps rest
        → qs ≡ with_text (single_quote ∷ []) ps → Reads mode n (single_quote ∷ (single_quote ∷ text)) qs rest
    single : {mode : PatternMode} {n : ℕ} (text rest : List ℕ) (ps qs : MsgParts) → begins_with_quote text ≡ false
        → begins_quotable mode text ≡ false → Reads mode n text ps rest → qs ≡ with_text (single_quote ∷ []) ps
        → Reads mode n (single_quote ∷ text) qs rest
    quoted : {mode : PatternMode} {n : ℕ} (text chars after rest : List ℕ) (ps qs : MsgParts)
        → begins_quotable mode text ≡ true → Quoted text chars after → Reads mode n after ps rest
        → qs ≡ with_text chars ps → Reads mode n (single_quote ∷ text) qs rest
    number : {n : ℕ} (text rest : List ℕ) (ps : MsgParts) → Reads InPlural n text ps rest
        → Reads InPlural n (number_sign ∷ text) (part NumberPart ps) rest
    argument : {mode : PatternMode} {n : ℕ} (text after rest : List ℕ) (p : MsgPart) (ps : MsgParts)
        → IsArgument n text p (right_brace ∷ after) → Reads mode (suc n) after ps rest
        → Reads mode (suc n) (left_brace ∷ text) (part p ps) rest

  -- what stands between the braces of an argument, plural or select, and what follows
  pub data IsArgument : ℕ → List ℕ → MsgPart → List ℕ → Type 0 where
    placeholder : {n : ℕ} (text rest : List ℕ) (name : Name) → IsSpacedName text name
        → IsArgument n (text ++ rest) (Placeholder name) rest
    plural : {n : ℕ} (text middle offset inside rest : List ℕ) (name : Name) (ordinal : Bool) (by : ℕ)
        (arms : List (Key × MsgParts))
        → IsSpacedName text name → IsSpacedKeyword middle (plural_keyword ordinal) → IsOffset offset by
        → PluralArms n inside arms rest → list_any is_other arms ≡ true
        → IsArgument n (text ++ (middle ++ (offset ++ inside)))
        (PluralPart ordinal name by (exact_arms [] arms) (named_arms [] arms)) rest
    select : {n : ℕ} (text middle inside rest : List ℕ) (name : Name) (arms : List (List ℕ × MsgParts))
        → IsSpacedName text name → IsSpacedKeyword middle (codes "select") → WordArms n inside arms rest
        → list_any (λ arm. bytes_eq arm.0 (codes "other")) arms ≡ true
        → IsArgument n (text ++ (middle ++ inside)) (SelectPart name (select_arms [] arms)) rest

  -- arms of a plural, each a key and a text in braces
  pub data PluralArms : ℕ → List ℕ → List (Key × MsgParts) → List ℕ → Type 0 where
    no_more : {n : ℕ} (rest : List ℕ) → PluralArms n rest [] rest
    plural_arm : {n : ℕ} (text white inside after text' rest : List ℕ) (key : Key) (ps : MsgParts)
        (arms : List (Key × MsgParts))
        → IsKey text key → IsWhite white → Reads InPlural n inside ps (right_brace ∷ (after ++ text')) → IsWhite after
        → PluralArms n text' arms rest
        → PluralArms n (text ++ (white ++ (left_brace ∷ inside))) ((key, ps) ∷ arms) rest

  -- arms of a select, each a word and a text in braces
  pub data WordArms : ℕ → List ℕ → List (List ℕ × MsgParts) → List ℕ → Type 0 where
    no_more_words : {n : ℕ} (rest : List ℕ) → WordArms n rest [] rest
    word_arm : {n : ℕ} (word white inside after text rest : List ℕ) (ps : MsgParts) (arms : List (List ℕ × MsgParts))
        → IsWord word → IsWhite white → Reads InSelect n inside ps (right_brace ∷ (after ++ text)) → IsWhite after
        → WordArms n text arms rest
        → WordArms n (word ++ (white ++ (left_brace ∷ inside))) ((word, ps) ∷ arms) rest

-- a whole text is a pattern with these parts
abbrev pub IsPattern : List ℕ → MsgParts → Type 0
IsPattern text ps = Reads AtTop 64 text ps []
