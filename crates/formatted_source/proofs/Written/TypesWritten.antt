-- Types, as they are written in a command.
use Rattle.std.proofs.Common.{◌≡◌, ℕ, ◌==◌, ◌&&◌, not, true, false, List, [], ◌∷◌, ◌++◌, refl, sym}
use Rattle.std.proofs.Common.{subst}
use Rattle.std.proofs.Common.{arith, append_assoc}
use Rattle.std.specs.Prelude.{codes}
use Rattle.std.proofs.lemmas.Bool.Decides.{nat_tests}
use Rattle.soy_base.specs.Names.{is_name}
use Rattle.soy_lexer.specs.CommandSegment.{command_segment}
use Rattle.soy_lexer.specs.Found.Found.{Begins}
use Rattle.soy_lexer.specs.Segment.Segment.{CommandToken}
use Rattle.soy_lexer.specs.declared.token.TokenKind.TheVariants as kind
use Rattle.soy_tree.specs.Formed.{is_formed_type, are_formed_members, are_formed_fields, is_union}
use Rattle.soy_rules.specs.TypeText.{type_text, members_text, more_members_text, fields_text, more_fields_text}
use Rattle.soy_tree.specs.Types.{SoyType, Members, FieldTypes, NullType, BoolType, IntType, StringType, HtmlType}
use Rattle.soy_tree.specs.Types.{AttributesType, ListType, MapType, RecordType, UnionType, no_member, member, no_field}
use Rattle.soy_tree.specs.Types.{field}
use Rattle.formatted_source.specs.CommandLexemes.{HasLexemes, before_any, ends_name, ends_type}
use Rattle.formatted_source.specs.CommandLexemes.{no_equals}
use Rattle.formatted_source.specs.CommandLexemes.CommandLexemes.{here_, token_}
use Rattle.formatted_source.specs.Lexemes.{Lexeme}
use Rattle.formatted_source.specs.TypeLexemes.{type_lexemes, members_lexemes, more_members_lexemes, fields_lexemes}
use Rattle.formatted_source.specs.TypeLexemes.{more_fields_lexemes}
use Rattle.formatted_source.proofs.Written.ExprsWritten.{symbol_written, spaced_written}
use Rattle.formatted_source.proofs.Written.Names.{both, word_written}
use Rattle.formatted_source.proofs.Written.Reading.{after, join, weaker, nothing}

less_found : (rest : List ℕ) → no_equals rest ≡ true
    → command_segment (60 ∷ rest) ≡ Begins (CommandToken kind.Symbol (60 ∷ []) (60 ∷ [])) rest
less_found [] h = refl
less_found (c ∷ cs) h =
    let no : (61 == c) ≡ false = grind (arith, nat_tests, h) in
    rw no refl

greater_found : (rest : List ℕ) → no_equals rest ≡ true
    → command_segment (62 ∷ rest) ≡ Begins (CommandToken kind.Symbol (62 ∷ []) (62 ∷ [])) rest
greater_found [] h = refl
greater_found (c ∷ cs) h =
    let no : (61 == c) ≡ false = grind (arith, nat_tests, h) in
    rw no refl

less_written : HasLexemes no_equals (codes "<") ((kind.Symbol, codes "<") ∷ [])
less_written rest h =
    token_ (60 ∷ rest) (60 ∷ []) (60 ∷ []) rest rest kind.Symbol [] (less_found rest h) refl (here_ rest)

greater_written : HasLexemes ends_type (codes ">") ((kind.Symbol, codes ">") ∷ [])
greater_written rest h =
    token_ (62 ∷ rest) (62 ∷ []) (62 ∷ []) rest rest kind.Symbol []
    (greater_found rest (both (ends_name rest) (no_equals rest) h).1) refl (here_ rest)

comma_written : HasLexemes before_any (codes ", ") ((kind.Symbol, codes ",") ∷ [])
comma_written rest h = spaced_written kind.Symbol (codes ",") refl (λ more. refl) rest

colon_written : HasLexemes before_any (codes ": ") ((kind.Symbol, codes ":") ∷ [])
colon_written rest h = spaced_written kind.Symbol (codes ":") refl (λ more. refl) rest

-- a name, where a type ends
ends : (rest : List ℕ) → ends_type rest ≡ true → ends_name rest ≡ true
ends rest h = (both (ends_name rest) (no_equals rest) h).0

name_written : (name : List ℕ) → is_name name ≡ true → HasLexemes ends_type name ((kind.Word, name) ∷ [])
name_written name is rest h = word_written name is rest (ends rest h)

-- no type begins with `=`
mutual
  type_begins : (t : SoyType) (rest : List ℕ) → no_equals rest ≡ true → no_equals (type_text t ++ rest) ≡ true
  type_begins NullType rest h = refl
  type_begins BoolType rest h = refl
  type_begins IntType rest h = refl
  type_begins StringType rest h = refl
  type_begins HtmlType rest h = refl
  type_begins AttributesType rest h = refl
  type_begins (ListType t) rest h = refl
  type_begins (MapType t) rest h = refl
  type_begins (RecordType fields) rest h = refl
  type_begins (UnionType ts) rest h = members_begin ts rest h

  members_begin : (ts : Members) (rest : List ℕ) → no_equals rest ≡ true → no_equals (members_text ts ++ rest) ≡ true
  members_begin no_member rest h = h
  members_begin (member t ts) rest h =
      subst (λ l. no_equals l ≡ true) (sym (append_assoc (type_text t) (more_members_text ts) rest))
      (type_begins t (more_members_text ts ++ rest) (more_begin ts rest h))

  more_begin : (ts : Members) (rest : List ℕ) → no_equals rest ≡ true → no_equals (more_members_text ts ++ rest) ≡ true
  more_begin no_member rest h = h
  more_begin (member t ts) rest h = refl

more_ends : (ts : Members) (rest : List ℕ) → ends_type rest ≡ true → ends_type (more_members_text ts ++ rest) ≡ true
more_ends no_member rest h = h
more_ends (member t ts) rest h = refl

fields_end : (fields : FieldTypes) (rest : List ℕ) → ends_type rest ≡ true
    → ends_type (more_fields_text fields ++ rest) ≡ true
fields_end no_field rest h = h
fields_end (field name t fields) rest h = refl

-- a type in angle brackets
in_angles : (text : List ℕ) (ls : List Lexeme) → HasLexemes ends_type text ls
    → HasLexemes ends_type (text ++ codes ">") (ls ++ ((kind.Symbol, codes ">") ∷ []))
in_angles text ls one =
    join ends_type ends_type text (codes ">") ls ((kind.Symbol, codes ">") ∷ []) one greater_written (λ rest h. refl)

list_start : (t : SoyType) → HasLexemes ends_type (type_text t ++ codes ">") (type_lexemes t ++
    ((kind.Symbol, codes ">") ∷ []))
    → HasLexemes ends_type (codes "list<" ++ (type_text t ++ codes ">")) (type_lexemes (ListType t))
list_start t one =
    join ends_name ends_type (codes "list") (codes "<" ++ (type_text t ++ codes ">")) ((kind.Word, codes "list") ∷ [])
    ((kind.Symbol, codes "<") ∷ (type_lexemes t ++ ((kind.Symbol, codes ">") ∷ []))) (word_written (codes "list") refl)
    (join no_equals ends_type (codes "<") (type_text t ++ codes ">") ((kind.Symbol, codes "<") ∷ [])
    (type_lexemes t ++ ((kind.Symbol, codes ">") ∷ [])) less_written one
    (λ rest h. subst (λ l. no_equals l ≡ true) (sym (append_assoc (type_text t) (codes ">") rest))
    (type_begins t (codes ">" ++ rest) refl)))
    (λ rest h. refl)

map_start : (t : SoyType) → HasLexemes ends_type (type_text t ++ codes ">") (type_lexemes t ++
    ((kind.Symbol, codes ">") ∷ []))
    → HasLexemes ends_type (codes "map<string, " ++ (type_text t ++ codes ">")) (type_lexemes (MapType t))
map_start t one =
    join ends_name ends_type (codes "map") (codes "<string, " ++ (type_text t ++ codes ">"))
    ((kind.Word, codes "map") ∷ [])
    ((kind.Symbol, codes "<") ∷ ((kind.Word, codes "string") ∷ ((kind.Symbol, codes ",")
    ∷ (type_lexemes t ++ ((kind.Symbol, codes ">") ∷ []))))) (word_written (codes "map") refl)
    (join no_equals ends_type (codes "<") (codes "string, " ++ (type_text t ++ codes ">"))
    ((kind.Symbol, codes "<") ∷ [])
    ((kind.Word, codes "string") ∷ ((kind.Symbol, codes ",") ∷ (type_lexemes t ++ ((kind.Symbol, codes ">") ∷ []))))
    less_written
    (join ends_name ends_type (codes "string") (codes ", " ++ (type_text t ++ codes ">"))
    ((kind.Word, codes "string") ∷ []) ((kind.Symbol, codes ",") ∷ (type_lexemes t ++ ((kind.Symbol, codes ">") ∷ [])))
    (word_written (codes "string") refl)
    (after ends_type (codes ", ") (type_text t ++ codes ">") ((kind.Symbol, codes ",") ∷ [])
    (type_lexemes t ++ ((kind.Symbol, codes ">") ∷ [])) comma_written one)
    (λ rest h. refl))
    (λ rest h. refl))
    (λ rest h. refl)

-- a field, and what follows it
one_field : (name text more : List ℕ) (ls ms : List Lexeme) → is_name name ≡ true → HasLexemes ends_type text ls
    → HasLexemes ends_type more ms → ((rest : List ℕ) → ends_type rest ≡ true → ends_type (more ++ rest) ≡ true)
    → HasLexemes ends_type (name ++ (codes ": " ++ (text ++ more)))
    ((kind.Word, name) ∷ ((kind.Symbol, codes ":") ∷ (ls ++ ms)))
one_field name text more ls ms is one two goes =
    join ends_name ends_type name (codes ": " ++ (text ++ more)) ((kind.Word, name) ∷ [])
    ((kind.Symbol, codes ":") ∷ (ls ++ ms)) (word_written name is)
    (after ends_type (codes ": ") (text ++ more) ((kind.Symbol, codes ":") ∷ []) (ls ++ ms) colon_written
    (join ends_type ends_type text more ls ms one two goes))
    (λ rest h. refl)

-- **A type has the lexemes that it is written for, where neither a name nor a `=` goes on after it.**
mutual
  pub type_written : (t : SoyType) → is_formed_type t ≡ true → HasLexemes ends_type (type_text t) (type_lexemes t)
  type_written NullType f = name_written (codes "null") refl
  type_written BoolType f = name_written (codes "bool") refl
  type_written IntType f = name_written (codes "int") refl
  type_written StringType f = name_written (codes "string") refl
  type_written HtmlType f = name_written (codes "html") refl
  type_written AttributesType f = name_written (codes "attributes") refl
  type_written (ListType t) f = list_start t (in_angles (type_text t) (type_lexemes t) (type_written t f))
  type_written (MapType t) f = map_start t (in_angles (type_text t) (type_lexemes t) (type_written t f))
  type_written (RecordType fields) f =
      after ends_type (codes "[") (fields_text fields ++ codes "]") ((kind.Symbol, codes "[") ∷ [])
      (fields_lexemes fields ++ ((kind.Symbol, codes "]") ∷ [])) (symbol_written (codes "[") (λ rest. refl))
      (join ends_type ends_type (fields_text fields) (codes "]") (fields_lexemes fields) ((kind.Symbol, codes "]") ∷ [])
      (fields_written fields f) (weaker ends_type (codes "]") _ (symbol_written (codes "]") (λ rest. refl)))
      (λ rest h. refl))
  type_written (UnionType ts) f = members_written ts f

  members_written : (ts : Members) → are_formed_members ts ≡ true
      → HasLexemes ends_type (members_text ts) (members_lexemes ts)
  members_written no_member f = nothing ends_type
  members_written (member t ts) f =
      let fs = both (not (is_union t) && is_formed_type t) (are_formed_members ts) f in
      let gs = both (not (is_union t)) (is_formed_type t) fs.0 in
      join ends_type ends_type (type_text t) (more_members_text ts) (type_lexemes t) (more_members_lexemes ts)
      (type_written t gs.1) (more_written ts fs.1) (more_ends ts)

  more_written : (ts : Members) → are_formed_members ts ≡ true
      → HasLexemes ends_type (more_members_text ts) (more_members_lexemes ts)
  more_written no_member f = nothing ends_type
  more_written (member t ts) f =
      let fs = both (not (is_union t) && is_formed_type t) (are_formed_members ts) f in
      let gs = both (not (is_union t)) (is_formed_type t) fs.0 in
      after ends_type (codes "|") (type_text t ++ more_members_text ts) ((kind.Symbol, codes "|") ∷ [])
      (type_lexemes t ++ more_members_lexemes ts) (symbol_written (codes "|") (λ rest. refl))
      (join ends_type ends_type (type_text t) (more_members_text ts) (type_lexemes t) (more_members_lexemes ts)
      (type_written t gs.1) (more_written ts fs.1) (more_ends ts))

  fields_written : (fields : FieldTypes) → are_formed_fields fields ≡ true
      → HasLexemes ends_type (fields_text fields) (fields_lexemes fields)
  fields_written no_field f = nothing ends_type
  fields_written (field name t fields) f =
      let fs = both (is_name name && is_formed_type t) (are_formed_fields fields) f in
      let gs = both (is_name name) (is_formed_type t) fs.0 in
      one_field name (type_text t) (more_fields_text fields) (type_lexemes t) (more_fields_lexemes fields) gs.0
      (type_written t gs.1) (more_fields_written fields fs.1) (fields_end fields)

  more_fields_written : (fields : FieldTypes) → are_formed_fields fields ≡ true
      → HasLexemes ends_type (more_fields_text fields) (more_fields_lexemes fields)
  more_fields_written no_field f = nothing ends_type
  more_fields_written (field name t fields) f =
      let fs = both (is_name name && is_formed_type t) (are_formed_fields fields) f in
      let gs = both (is_name name) (is_formed_type t) fs.0 in
      after ends_type (codes ", ") (name ++ (codes ": " ++ (type_text t ++ more_fields_text fields)))
      ((kind.Symbol, codes ",") ∷ []) ((kind.Word, name) ∷ ((kind.Symbol, codes ":")
      ∷ (type_lexemes t ++ more_fields_lexemes fields))) comma_written
      (one_field name (type_text t) (more_fields_text fields) (type_lexemes t) (more_fields_lexemes fields) gs.0
      (type_written t gs.1) (more_fields_written fields fs.1) (fields_end fields))
