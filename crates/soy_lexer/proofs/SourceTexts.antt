-- What a text begins with is what stands there: the characters of the segment, one at least, and then the rest. Where
-- no token begins, that is within the text.
use Rattle.std.proofs.Common.{IfSome, ◌≡◌, ℕ, ◌<◌, ◌≤◌, List, [], ◌∷◌, ◌++◌, length, Bool, true, false, nat_le, ◌==◌}
use Rattle.std.proofs.Common.{if◌then◌else◌, Option, None, Some, option_map, option_and_then, codes, refl, sym, ◌∙◌, ap}
use Rattle.std.proofs.Common.{subst, arith, eqb-true, append_assoc, length-append}
use Rattle.std.specs.Prelude.{unwrap_or}
use Rattle.std.specs.Option.{option_or}
use Rattle.std.specs.Char.{is_ascii_digit}
use Rattle.soy_base.specs.ByteLength.{byte_len}
use Rattle.soy_base.specs.WhiteSpace.{is_template_space}
use Rattle.soy_base.specs.Names.{begins_name, continues_name}
use Rattle.soy_base.specs.Characters.{dollar_sign, single_quote, double_quote, backslash, left_brace, right_brace}
use Rattle.soy_base.specs.Cuts.{after_prefix, cut, prefix_while, after_while}
use Rattle.soy_lexer.specs.Segment.{Segment, source_text}
use Rattle.soy_lexer.specs.Found.{Found, begins, unless_null}
use Rattle.soy_lexer.specs.declared.mode.Mode.{Mode}
use Rattle.soy_lexer.specs.Segment.Segment.{TextCharacter, Skipped, Literal, CommandToken}
use Rattle.soy_lexer.specs.Found.Found.{Begins, Fails}
use Rattle.soy_lexer.specs.declared.mode.Mode.TheVariants.{Outside, Opened, Inside}
use Rattle.soy_lexer.specs.Strings.{Quoted, quoted, quoted_escape, quoted_number, with_character, escaped, numbered}
use Rattle.soy_lexer.specs.CommandSegment.{command_segment, opened_segment, white_segment, fixed_segment, name_prefix}
use Rattle.soy_lexer.specs.CommandSegment.{name_segment, variable_segment, digits_segment, number_after, int_segment}
use Rattle.soy_lexer.specs.CommandSegment.{quoted_segment, string_segment, value_segment, attribute_segment}
use Rattle.soy_lexer.specs.CommandSegment.{symbols_of_two, symbols_of_one, one_of, symbol_segment, close_segment}
use Rattle.soy_base.specs.Limits.{largest}
use Rattle.soy_lexer.specs.TextSegment.{text_segment, block_comment, closed_comment, line_comment, continues_line}
use Rattle.soy_lexer.specs.TextSegment.{literal_segment, closed_literal, plain_segment, may_begin, segment_of}
use Rattle.soy_lexer.specs.declared.token.TokenKind.{TokenKind}
use Rattle.soy_lexer.specs.declared.token.TokenKind.TheVariants as kind
use Rattle.soy_lexer.proofs.CommandSegments.{while-whole}
use Rattle.soy_base.proofs.Texts.{cut-whole, after_prefix-whole, byte_len-append}

-- what is found is what the text begins with
abbrev pub Stands : List ℕ → Found → Type 0
Stands text (Begins p rest) = (text ≡ source_text p ++ rest) × (0 < length (source_text p))
Stands text (Fails further) = further ≤ byte_len text

-- the same, if something is found
abbrev pub StandsIf : List ℕ → Option Found → Type 0
StandsIf text None = Unit {0}
StandsIf text (Some found) = Stands text found

-- a choice by a test, each way with what the test says
if_ways : {A : Type 0} (P : A → Type 0) (b : Bool) (x y : A) → (b ≡ true → P x) → P y → P (if b then x else y)
if_ways P true x y f g = f refl
if_ways P false x y f g = g

-- of two finds each stands there
or_ways : (text : List ℕ) (a b : Option Found) → StandsIf text a → StandsIf text b → StandsIf text (option_or a b)
or_ways text None b f g = g
or_ways text (Some x) b f g = f

-- and so with what is found otherwise
or_else : (text : List ℕ) (a : Option Found) (b : Found) → StandsIf text a → Stands text b → Stands text (unwrap_or a b)
or_else text None b f g = g
or_else text (Some x) b f g = f

-- cuts

-- what is found after a prefix
after_parts : (prefix text : List ℕ) (f : List ℕ → Found)
    → ((inner : List ℕ) → text ≡ prefix ++ inner → Stands text (f inner)) →
    (o : Option (List ℕ)) → after_prefix prefix text ≡ o → StandsIf text (option_map f o)
after_parts prefix text f each None e = tt
after_parts prefix text f each (Some inner) e = each inner (after_prefix-whole prefix text inner e)

-- the parts of a cut are the text
abbrev pub IsCut : List ℕ → List ℕ → Option (List ℕ × List ℕ) → Type 0
IsCut delimiter text o = IfSome o (λ parts. text ≡ parts.0 ++ (delimiter ++ parts.1))

-- a segment is where its characters are, unless one is U+0000, which then is within the text
unless_parts : (text : List ℕ) (p : Segment) (rest : List ℕ) → text ≡ source_text p ++ rest
    → 0 < length (source_text p) →
    (o : Option (List ℕ × List ℕ)) → IsCut (0 ∷ []) (source_text p) o → Stands text (unless_null o (Begins p rest))
unless_parts text p rest e pos None h = (e, pos)
unless_parts text p rest e pos (Some parts) h =
    omega (
      arith,
      ap byte_len e,
      ap byte_len h,
      byte_len-append (source_text p) rest,
      byte_len-append parts.0
          (0 ∷ parts.1),
    )

-- a segment with its source text and its rest
begins_parts : (text : List ℕ) (p : Segment) (rest : List ℕ) → text ≡ source_text p ++ rest → 0 < length (source_text p)
    → Stands text (begins p rest)
begins_parts text p rest e pos =
    unless_parts text p rest e pos (cut (0 ∷ []) (source_text p)) (cut-whole (0 ∷ []) (source_text p))

-- text outside of commands

-- a comment after its `/*`
comment_ends : (text inner : List ℕ) → text ≡ codes "/*" ++ inner → (o : Option (List ℕ × List ℕ))
    → IsCut (codes "*/") inner o → Stands text (closed_comment o)
comment_ends text inner e None h = omega arith
comment_ends text inner e (Some parts) h =
    begins_parts text (Skipped (codes "/*" ++ (parts.0 ++ codes "*/"))) parts.1
    (e ∙ ap (λ xs. codes "/*" ++ xs) (h ∙ sym (append_assoc parts.0 (codes "*/") parts.1))) (omega arith)

-- a comment
block_parts : (text : List ℕ) → StandsIf text (block_comment text)
block_parts text =
    after_parts (codes "/*") text (λ inner. closed_comment (cut (codes "*/") inner))
    (λ inner e. comment_ends text inner e (cut (codes "*/") inner) (cut-whole (codes "*/") inner))
    (after_prefix (codes "/*") text) refl

-- a comment up to the end of its line
line_parts : (white : Bool) (text : List ℕ) → StandsIf text (line_comment white text)
line_parts false text = tt
line_parts true text =
    after_parts (codes "//") text
    (λ inner. begins (Skipped (codes "//" ++ prefix_while continues_line inner)) (after_while continues_line inner))
    (λ inner e.
    begins_parts text (Skipped (codes "//" ++ prefix_while continues_line inner)) (after_while continues_line inner)
    (e ∙ ap (λ xs. codes "//" ++ xs) (while-whole continues_line inner)) (omega arith))
    (after_prefix (codes "//") text) refl

-- a literal after its `{literal}`
literal_ends : (text inner : List ℕ) → text ≡ codes "{literal}" ++ inner → (o : Option (List ℕ × List ℕ))
    → IsCut (codes "{/literal}") inner o →
    Stands text (closed_literal o)
literal_ends text inner e None h = omega arith
literal_ends text inner e (Some parts) h =
    begins_parts text (Literal parts.0) parts.1
    (e ∙ ap (λ xs. codes "{literal}" ++ xs) (h ∙ sym (append_assoc parts.0 (codes "{/literal}") parts.1)))
    (omega arith)

-- a literal
literal_parts : (text : List ℕ) → StandsIf text (literal_segment text)
literal_parts text =
    after_parts (codes "{literal}") text (λ inner. closed_literal (cut (codes "{/literal}") inner))
    (λ inner e. literal_ends text inner e (cut (codes "{/literal}") inner) (cut-whole (codes "{/literal}") inner))
    (after_prefix (codes "{literal}") text) refl

-- a `{` or a character of a run
plain_parts : (text : List ℕ) → Stands text (plain_segment text)
plain_parts [] = omega arith
plain_parts (c ∷ cs) =
    if_ways (Stands (c ∷ cs)) (c == left_brace) _ _
    (λ _. if_ways (Stands (c ∷ cs)) (may_begin cs) _ _
    (λ _. begins_parts (c ∷ cs) (CommandToken kind.Begin (c ∷ []) (c ∷ [])) cs refl (omega arith)) (omega arith))
    (if_ways (Stands (c ∷ cs)) (c == right_brace) _ _ (λ _. omega arith)
    (begins_parts (c ∷ cs) (TextCharacter c) cs refl (omega arith)))

-- whatever text begins with
text_parts : (white : Bool) (text : List ℕ) → Stands text (text_segment white text)
text_parts white text =
    or_else text (option_or (block_comment text) (option_or (line_comment white text) (literal_segment text)))
    (plain_segment text)
    (or_ways text (block_comment text) (option_or (line_comment white text) (literal_segment text)) (block_parts text)
    (or_ways text (line_comment white text) (literal_segment text) (line_parts white text) (literal_parts text)))
    (plain_parts text)

-- commands

-- white space in a command
white_parts : (text : List ℕ) → StandsIf text (white_segment text)
white_parts [] = tt
white_parts (c ∷ cs) =
    if_ways (StandsIf (c ∷ cs)) (is_template_space c) _ _
    (λ _. begins_parts (c ∷ cs) (Skipped (c ∷ [])) cs refl (omega arith)) tt

-- a token of these characters
fixed_parts : (kind : TokenKind) (c : ℕ) (cs text : List ℕ) → StandsIf text (fixed_segment kind (c ∷ cs) text)
fixed_parts kind c cs text =
    after_parts (c ∷ cs) text (λ rest. begins (CommandToken kind (c ∷ cs) (c ∷ cs)) rest)
    (λ rest e. begins_parts text (CommandToken kind (c ∷ cs) (c ∷ cs)) rest e (omega arith))
    (after_prefix (c ∷ cs) text) refl

-- a name and what follows it are the text
abbrev pub IsName : List ℕ → Option (List ℕ × List ℕ) → Type 0
IsName text None = Unit {0}
IsName text (Some name) = (text ≡ name.0 ++ name.1) × (0 < length name.0)

-- a name
name_parts : (text : List ℕ) → IsName text (name_prefix text)
name_parts [] = tt
name_parts (c ∷ cs) =
    if_ways (IsName (c ∷ cs)) (begins_name c) _ _
    (λ _. (ap (λ xs. c ∷ xs) (while-whole continues_name cs), omega arith)) tt

-- a token that ends with a name
named_parts : (kind : TokenKind) (before text : List ℕ) (o : Option (List ℕ × List ℕ)) → IsName text o →
    StandsIf (before ++ text) (option_map (λ name. begins (CommandToken kind (before ++ name.0) name.0) name.1) o)
named_parts kind before text None h = tt
named_parts kind before text (Some name) h =
    begins_parts (before ++ text) (CommandToken kind (before ++ name.0) name.0) name.1
    (ap (λ xs. before ++ xs) h.0 ∙ sym (append_assoc before name.0 name.1))
    (omega (arith, length-append before name.0, h.1))

-- a token of a name
name_segment_parts : (kind : TokenKind) (before text : List ℕ)
    → StandsIf (before ++ text) (name_segment kind before text)
name_segment_parts kind before text = named_parts kind before text (name_prefix text) (name_parts text)

-- a variable
variable_parts : (text : List ℕ) → StandsIf text (variable_segment text)
variable_parts [] = tt
variable_parts (c ∷ cs) =
    if_ways (StandsIf (c ∷ cs)) (c == dollar_sign) _ _
    (λ e. subst (λ d. StandsIf (d ∷ cs) (name_segment kind.Variable (dollar_sign ∷ []) cs))
    (sym (eqb-true c dollar_sign e)) (name_segment_parts kind.Variable (dollar_sign ∷ []) cs)) tt

-- an int of these digits
digits_parts : (text digits rest : List ℕ) → text ≡ digits ++ rest → 0 < length digits
    → Stands text (digits_segment digits rest)
digits_parts text digits rest e pos =
    if_ways (Stands text) (nat_le (number_after 0 digits) largest) _ _
    (λ _. begins_parts text (CommandToken kind.Int digits digits) rest e pos) (omega arith)

-- an int
int_parts : (text : List ℕ) → StandsIf text (int_segment text)
int_parts [] = tt
int_parts (c ∷ cs) =
    if_ways (StandsIf (c ∷ cs)) (c == 48) _ _
    (λ _. begins_parts (c ∷ cs) (CommandToken kind.Int (c ∷ []) (c ∷ [])) cs refl (omega arith))
    (if_ways (StandsIf (c ∷ cs)) (is_ascii_digit c) _ _
    (λ _. digits_parts (c ∷ cs) (c ∷ prefix_while is_ascii_digit cs) (after_while is_ascii_digit cs)
    (ap (λ xs. c ∷ xs) (while-whole is_ascii_digit cs)) (omega arith)) tt)

-- strings

-- a string and what follows it are the text
abbrev pub IsQuoted : List ℕ → Option Quoted → Type 0
IsQuoted text None = Unit {0}
IsQuoted text (Some string) = text ≡ string.source_text ++ string.rest

-- a string with one more character
with_parts : (prefix text : List ℕ) (c : ℕ) (o : Option Quoted) → IsQuoted text o
    → IsQuoted (prefix ++ text) (option_map (with_character prefix c) o)
with_parts prefix text c None h = tt
with_parts prefix text c (Some string) h =
    ap (λ xs. prefix ++ xs) h ∙ sym (append_assoc prefix string.source_text string.rest)

-- the same, if there is one
then_parts : (prefix text : List ℕ) (c : Option ℕ) (o : Option Quoted) → IsQuoted text o →
    IsQuoted (prefix ++ text) (option_and_then (λ character. option_map (with_character prefix character) o) c)
then_parts prefix text None o h = tt
then_parts prefix text (Some c) o h = with_parts prefix text c o h

-- the same text with an equal character
put_back : (c d : ℕ) (prefix cs : List ℕ) (o : Option Quoted) → (c == d) ≡ true → IsQuoted (prefix ++ (d ∷ cs)) o
    → IsQuoted (prefix ++ (c ∷ cs)) o
put_back c d prefix cs o e h = subst (λ x. IsQuoted (prefix ++ (x ∷ cs)) o) (sym (eqb-true c d e)) h

mutual
  -- a string after its first quote, after a backslash, and after `\u`
  pub quoted_parts : (text : List ℕ) → IsQuoted text (quoted text)
  quoted_parts [] = tt
  quoted_parts (c ∷ cs) =
      if_ways (IsQuoted (c ∷ cs)) (c == single_quote) _ _ (λ _. refl)
      (if_ways (IsQuoted (c ∷ cs)) (c == backslash) _ _
      (λ e. put_back c backslash [] cs (quoted_escape cs) e (escape_parts cs))
      (with_parts (c ∷ []) cs c (quoted cs) (quoted_parts cs)))

  escape_parts : (text : List ℕ) → IsQuoted (backslash ∷ text) (quoted_escape text)
  escape_parts [] = tt
  escape_parts (c ∷ cs) =
      if_ways (IsQuoted (backslash ∷ c ∷ cs)) (c == 117) _ _
      (λ e. put_back c 117 (backslash ∷ []) cs (quoted_number cs) e (number_parts cs))
      (then_parts (backslash ∷ c ∷ []) cs (escaped c) (quoted cs) (quoted_parts cs))

  number_parts : (text : List ℕ) → IsQuoted (backslash ∷ 117 ∷ text) (quoted_number text)
  number_parts [] = tt
  number_parts (a ∷ []) = tt
  number_parts (a ∷ b ∷ []) = tt
  number_parts (a ∷ b ∷ c ∷ []) = tt
  number_parts (a ∷ b ∷ c ∷ d ∷ cs) =
      then_parts (backslash ∷ 117 ∷ a ∷ b ∷ c ∷ d ∷ []) cs (numbered a b c d) (quoted cs) (quoted_parts cs)

-- a string with its first quote
string_ends : (cs : List ℕ) (o : Option Quoted) → IsQuoted cs o → Stands (single_quote ∷ cs) (quoted_segment o)
string_ends cs None h = omega arith
string_ends cs (Some string) h =
    begins_parts (single_quote ∷ cs) (CommandToken kind.Str (single_quote ∷ string.source_text) string.value)
    string.rest (ap (λ xs. single_quote ∷ xs) h) (omega arith)

-- a string
string_parts : (text : List ℕ) → StandsIf text (string_segment text)
string_parts [] = tt
string_parts (c ∷ cs) =
    if_ways (StandsIf (c ∷ cs)) (c == single_quote) _ _
    (λ e. subst (λ d. Stands (d ∷ cs) (quoted_segment (quoted cs))) (sym (eqb-true c single_quote e))
    (string_ends cs (quoted cs) (quoted_parts cs))) tt

-- a value after its first quote
value_ends : (cs : List ℕ) (o : Option (List ℕ × List ℕ)) → IsCut (double_quote ∷ []) cs o
    → Stands (double_quote ∷ cs) (value_segment o)
value_ends cs None h = omega arith
value_ends cs (Some parts) h =
    begins_parts (double_quote ∷ cs)
    (CommandToken kind.Attribute (double_quote ∷ (parts.0 ++ double_quote ∷ [])) parts.0) parts.1
    (ap (λ xs. double_quote ∷ xs) (h ∙ sym (append_assoc parts.0 (double_quote ∷ []) parts.1))) (omega arith)

-- a value
attribute_parts : (text : List ℕ) → StandsIf text (attribute_segment text)
attribute_parts [] = tt
attribute_parts (c ∷ cs) =
    if_ways (StandsIf (c ∷ cs)) (c == double_quote) _ _
    (λ e. subst (λ d. Stands (d ∷ cs) (value_segment (cut (double_quote ∷ []) cs))) (sym (eqb-true c double_quote e))
    (value_ends cs (cut (double_quote ∷ []) cs) (cut-whole (double_quote ∷ []) cs))) tt

-- each symbol has a character
abbrev pub AllSourceText : List (List ℕ) → Type 0
AllSourceText [] = Unit {0}
AllSourceText ([] ∷ symbols) = ⊥
AllSourceText ((c ∷ cs) ∷ symbols) = AllSourceText symbols

-- one of these symbols
one_of_parts : (symbols : List (List ℕ)) (text : List ℕ) → AllSourceText symbols → StandsIf text (one_of symbols text)
one_of_parts [] text h = tt
one_of_parts ([] ∷ symbols) text h = absurd h
one_of_parts ((c ∷ cs) ∷ symbols) text h =
    or_ways text (fixed_segment kind.Symbol (c ∷ cs) text) (one_of symbols text) (fixed_parts kind.Symbol c cs text)
    (one_of_parts symbols text h)

-- a symbol
symbol_parts : (text : List ℕ) → StandsIf text (symbol_segment text)
symbol_parts text =
    or_ways text (one_of symbols_of_two text) (one_of symbols_of_one text) (one_of_parts symbols_of_two text tt)
    (one_of_parts symbols_of_one text tt)

-- whatever a text in a command begins with
command_parts : (text : List ℕ) → Stands text (command_segment text)
command_parts text =
    or_else text _ (Fails 0)
    (or_ways text (white_segment text) _ (white_parts text)
    (or_ways text (fixed_segment kind.End (codes "}") text) _ (fixed_parts kind.End 125 [] text)
    (or_ways text (fixed_segment kind.SlashEnd (codes "/}") text) _ (fixed_parts kind.SlashEnd 47 (125 ∷ []) text)
    (or_ways text (name_segment kind.Word [] text) _ (name_segment_parts kind.Word [] text)
    (or_ways text (variable_segment text) _ (variable_parts text)
    (or_ways text (int_segment text) _ (int_parts text)
    (or_ways text (string_segment text) _ (string_parts text)
    (or_ways text (attribute_segment text) (symbol_segment text) (attribute_parts text) (symbol_parts text)))))))))
    (omega arith)

-- a slash with a name
close_parts : (text : List ℕ) → StandsIf text (close_segment text)
close_parts [] = tt
close_parts (c ∷ cs) = if_ways (StandsIf (c ∷ cs)) (c == 47) _ _ (λ _. name_segment_parts kind.BeginClose (c ∷ []) cs)
    tt

-- whatever follows the `{` of a command
opened_parts : (text : List ℕ) → Stands text (opened_segment text)
opened_parts text = or_else text (close_segment text) (command_segment text) (close_parts text) (command_parts text)

-- in each mode a text begins with what stands there
pub segment_stands : (mode : Mode) (text : List ℕ) → Stands text (segment_of mode text)
segment_stands (Outside white) text = text_parts white text
segment_stands Opened text = opened_parts text
segment_stands Inside text = command_parts text
