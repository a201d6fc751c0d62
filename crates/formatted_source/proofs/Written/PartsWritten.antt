-- Parts of commands, as they are written: words, names joined by `.`, and attributes.
use Rattle.std.proofs.Common.{◌≡◌, ℕ, ◌==◌, Bool, true, false, List, [], ◌∷◌, ◌++◌, refl}
use Rattle.std.proofs.Common.{sym, ap}
use Rattle.std.proofs.Common.{subst, ◌∙◌, append_assoc, cond, arith}
use Rattle.std.proofs.lemmas.Bool.Decides.{nat_tests}
use Rattle.std.specs.Prelude.{codes}
use Rattle.std.specs.List.{join_with_byte, list_all, onto_first, slice_split}
use Rattle.std.proofs.lemmas.List.Splits.{join_with_byte-slice_split}
use Rattle.soy_base.specs.Among.{lacks}
use Rattle.soy_base.specs.Names.{begins_name, continues_name, is_name, is_dotted_name}
use Rattle.soy_base.specs.declared.kind.Kind.{Kind}
use Rattle.soy_base.specs.declared.kind.Kind.TheVariants as block_kind
use Rattle.soy_lexer.specs.CommandSegment.{command_segment}
use Rattle.soy_lexer.specs.Found.Found.{Begins}
use Rattle.soy_lexer.specs.Segment.Segment.{CommandToken}
use Rattle.soy_lexer.specs.declared.token.TokenKind.{TokenKind}
use Rattle.soy_lexer.specs.declared.token.TokenKind.TheVariants as kind
use Rattle.soy_tree.specs.Types.{Name}
use Rattle.soy_format.specs.FormattedBody.{attribute_text, kind_text}
use Rattle.formatted_source.specs.CommandLexemes.{CommandLexemes, HasLexemes, before_any, ends_name, goes_on}
use Rattle.formatted_source.specs.CommandLexemes.CommandLexemes.{here_, white_, token_}
use Rattle.formatted_source.specs.CommandPieces.{attribute_lexemes, dotted_lexemes, kind_lexemes, names_lexemes}
use Rattle.formatted_source.specs.Lexemes.{Lexeme}
use Rattle.formatted_source.proofs.Written.ExprsWritten.{symbol_written}
use Rattle.formatted_source.proofs.Written.Names.{both, word_written}
use Rattle.formatted_source.proofs.Written.Reading.{after, join}
use Rattle.formatted_source.proofs.Written.Values.{value_written}

-- a space
pub space_written : HasLexemes before_any (codes " ") []
space_written rest h = white_ (32 ∷ rest) (32 ∷ []) rest rest [] refl (here_ rest)

-- a token and a space before something
pub spaced_then : (test : List ℕ → Bool) (k : TokenKind) (word more : List ℕ) (ls : List Lexeme) → goes_on k ≡ true
    → ((rest : List ℕ) → command_segment (word ++ (32 ∷ rest)) ≡ Begins (CommandToken k word word) (32 ∷ rest))
    → HasLexemes test more ls → HasLexemes test (word ++ (32 ∷ more)) ((k, word) ∷ ls)
spaced_then test k word more ls goes found one rest h =
    subst (λ l. CommandLexemes l ((k, word) ∷ ls) rest) (sym (append_assoc word (32 ∷ more) rest))
    (token_ (word ++ (32 ∷ (more ++ rest))) word word (32 ∷ (more ++ rest)) rest k ls (found (more ++ rest)) goes
    (white_ (32 ∷ (more ++ rest)) (32 ∷ []) (more ++ rest) rest ls refl (one rest h)))

-- names joined by `.`
names_written : (names : List Name) (name : Name) (more : List Name) → names ≡ name ∷ more
    → list_all is_name names ≡ true → HasLexemes ends_name (join_with_byte 46 names) (names_lexemes names)
names_written [] name more e h = absurd (cc)
names_written (a ∷ []) name more e h = word_written a (both (is_name a) true h).0
names_written (a ∷ b ∷ names) name more e h =
    let parts = both (is_name a) (list_all is_name (b ∷ names)) h in
    join ends_name ends_name a (46 ∷ join_with_byte 46 (b ∷ names)) ((kind.Word, a) ∷ [])
    ((kind.Symbol, codes ".") ∷ names_lexemes (b ∷ names)) (word_written a parts.0)
    (after ends_name (codes ".") (join_with_byte 46 (b ∷ names)) ((kind.Symbol, codes ".") ∷ [])
    (names_lexemes (b ∷ names)) (symbol_written (codes ".") (λ rest. refl))
    (names_written (b ∷ names) b names refl parts.1))
    (λ rest h. refl)

-- the parts of a text around each such character, of which there is one at least
record Split (parts : List (List ℕ)) : Type 0 where
  pub first : List ℕ
  pub more : List (List ℕ)
  pub are : parts ≡ first ∷ more

cut_parts : (test : ℕ → Bool) (text : List ℕ) → Split (slice_split test text)
cut_parts test [] = record { first = []; more = []; are = refl }
cut_parts test (c ∷ cs) = over (test c) (slice_split test cs) (cut_parts test cs) refl
  where
    over : (t : Bool) (parts : List (List ℕ)) → Split parts → slice_split test cs ≡ parts
        → Split (cond t ([] ∷ slice_split test cs) (onto_first c (slice_split test cs)))
    over true parts s e = record { first = []; more = slice_split test cs; are = refl }
    over false parts s e =
        record { first = c ∷ s.first; more = s.more; are = ap (onto_first c) (e ∙ s.are) }

pub dotted_written : (name : Name) → is_dotted_name name ≡ true → HasLexemes ends_name name (dotted_lexemes name)
dotted_written name h =
    let s = cut_parts (λ c. c == 46) name in
    subst (λ l. HasLexemes ends_name l (dotted_lexemes name)) (join_with_byte-slice_split 46 name)
    (names_written (slice_split (λ c. c == 46) name) s.first s.more s.are h)

-- an attribute, without the space before it and with it
pub named_value : (name value : List ℕ) → is_name name ≡ true → lacks (34 ∷ []) value ≡ true
    → lacks (0 ∷ []) value ≡ true
    → HasLexemes before_any (name ++ (61 ∷ (34 ∷ (value ++ 34 ∷ [])))) (attribute_lexemes name value)
named_value name value is quote null =
    join ends_name before_any name (61 ∷ (34 ∷ (value ++ 34 ∷ []))) ((kind.Word, name) ∷ [])
    ((kind.Symbol, codes "=") ∷ ((kind.Attribute, value) ∷ [])) (word_written name is) (value_written value quote null)
    (λ rest h. refl)

pub attribute_written : (name value : List ℕ) → is_name name ≡ true → lacks (34 ∷ []) value ≡ true
    → lacks (0 ∷ []) value ≡ true → HasLexemes before_any (attribute_text name value) (attribute_lexemes name value)
attribute_written name value is quote null =
    after before_any (codes " ") (name ++ (61 ∷ (34 ∷ (value ++ 34 ∷ [])))) []
    (attribute_lexemes name value) space_written
    (named_value name value is quote null)

pub kind_written : (k : Kind) → HasLexemes before_any (kind_text k) (kind_lexemes k)
kind_written block_kind.Html = attribute_written (codes "kind") (codes "html") refl refl refl
kind_written block_kind.Attributes = attribute_written (codes "kind") (codes "attributes") refl refl refl
kind_written block_kind.Text = attribute_written (codes "kind") (codes "text") refl refl refl

-- characters of names are neither quotes nor U+0000
module _ (test : ℕ → Bool) (d : ℕ) (none : test d ≡ false) where
  pub lacks-all : (text : List ℕ) → list_all test text ≡ true → lacks (d ∷ []) text ≡ true
  lacks-all [] h = refl
  lacks-all (c ∷ cs) h =
      let parts = both (test c) (list_all test cs) h in
      let apart : (c == d) ≡ false = other c parts.0 in
      rw apart (lacks-all cs parts.1)
    where
      other : (c : ℕ) → test c ≡ true → (c == d) ≡ false
      other c is = over (c == d) refl
        where
          over : (t : Bool) → (c == d) ≡ t → t ≡ false
          over true e = let same : c ≡ d = grind (arith, nat_tests, e) in let no : true ≡ false = sym is
              ∙ (ap test same ∙ none) in absurd (cc)
          over false e = refl

-- so a name has neither
pub name_lacks : (d : ℕ) → continues_name d ≡ false → (name : List ℕ) → is_name name ≡ true → lacks (d ∷ []) name ≡ true
name_lacks d none [] is = refl
name_lacks d none (c ∷ cs) is =
    let parts = both (begins_name c) (list_all continues_name cs) is in
    let first : continues_name c ≡ true = rw parts.0 refl in
    let all : list_all continues_name (c ∷ cs) ≡ true = rw (first, parts.1) refl in
    lacks-all continues_name d none (c ∷ cs) all
