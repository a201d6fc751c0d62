-- The tokens of a type have the lexemes that it is written for.
use Rattle.std.proofs.Common.{◌≡◌, ℕ, Bool, true, false, List, [], ◌∷◌, ◌++◌, length, map, refl, sym, ap}
use Rattle.std.proofs.Common.{subst}
use Rattle.std.proofs.Common.{◌∙◌, arith, append_assoc, append-nil, length-append}
use Rattle.std.specs.Prelude.{codes}
use Rattle.std.proofs.lemmas.List.{map-append}
use Rattle.soy_lexer.specs.declared.token.Token.{Token}
use Rattle.soy_lexer.specs.declared.token.TokenKind.TheVariants as kind
use Rattle.soy_tree.specs.declared.soy_type.Field as code_field
use Rattle.soy_tree.specs.declared.soy_type.Field.{Field}
use Rattle.soy_tree.specs.declared.soy_type.SoyType as code
use Rattle.soy_tree.specs.declared.soy_type.SoyType.TheOpen.{SoyType-F}
use Rattle.soy_tree.specs.declared.soy_type.SoyType.TheVariants as soy
use Rattle.soy_tree.specs.Types.{Name, SoyType, NullType, BoolType, IntType, StringType, HtmlType}
use Rattle.soy_tree.specs.Types.{AttributesType, ListType, MapType, RecordType, UnionType}
use Rattle.soy_tree.specs.ViewTypes.{view_type, view_field, view_members, view_fields, type_layer, field_layer}
use Rattle.soy_tree.specs.ViewTypes.{fields_of}
use Rattle.expr_parser.specs.declared.type_frame.TypeOperand.{TypeOperand}
use Rattle.expr_parser.specs.declared.type_terminal.TypeName.{TypeName}
use Rattle.expr_parser.specs.declared.type_terminal.TypeName.TheVariants as name
use Rattle.expr_parser.specs.declared.type_terminal.TypeTerminal.{TypeTerminal}
use Rattle.expr_parser.specs.declared.type_terminal.TypeTerminal.TheVariants as terminal
use Rattle.expr_parser.specs.ParsesType.{NamesTypeIf, NameTypes}
use Rattle.expr_parser.specs.SpellsType.{SpellsMember, SpellsFields, SpellsMembers, SpellsType}
use Rattle.expr_parser.specs.TypeOperands.{field, type_of_name}
use Rattle.expr_parser.specs.TypeTerminals.{begins_with_less, is_less, names_type, type_terminal_of}
use Rattle.expr_parser.specs.TypeTerminals.{word_names_type}
use Rattle.formatted_source.specs.Lexemes.{Lexeme, lexeme, lexemes}
use Rattle.formatted_source.specs.TypeLexemes.{fields_lexemes, members_lexemes, more_fields_lexemes}
use Rattle.formatted_source.specs.TypeLexemes.{more_members_lexemes}
use Rattle.formatted_source.specs.TypeLexemes.{type_lexemes}
use Rattle.formatted_source.proofs.TypeWords.{IsKnown, name_lexeme, name_text, symbol_lexeme, word_lexeme}

-- what the types of the code stand for, layer by layer

view_layer : (t : code.SoyType) (o : SoyType-F code.SoyType code_field.Field) → code.out-SoyType t ≡ o →
    view_type t ≡ type_layer (code.map-SoyType code.SoyType code_field.Field SoyType
    (Name × SoyType) view_type view_field o)
view_layer t o e =
    code.fold_out-SoyType SoyType (Name × SoyType) type_layer field_layer t
    ∙ ap (λ p. type_layer (code.map-SoyType code.SoyType code_field.Field SoyType
    (Name × SoyType) view_type view_field p)) e

pub view-List : (t : code.SoyType) → view_type (soy.List t) ≡ ListType (view_type t)
view-List t = view_layer (soy.List t) (SoyType-F.List t) (soy.outs-List t)

pub view-Map : (t : code.SoyType) → view_type (soy.Map t) ≡ MapType (view_type t)
view-Map t = view_layer (soy.Map t) (SoyType-F.Map t) (soy.outs-Map t)

pub view-Fields : (fields : List code_field.Field) → view_type (soy.Fields fields) ≡ RecordType (view_fields fields)
view-Fields fields = view_layer (soy.Fields fields) (SoyType-F.Fields fields) (soy.outs-Fields fields)

pub view-Union : (ts : List code.SoyType) → view_type (soy.Union ts) ≡ UnionType (view_members ts)
view-Union ts = view_layer (soy.Union ts) (SoyType-F.Union ts) (soy.outs-Union ts)

pub view-field : (n : List ℕ) (t : code.SoyType) → view_field (field n t) ≡ (n, view_type t)
view-field n t = code_field.fold_out-Field SoyType (Name × SoyType) type_layer field_layer (field n t)

-- the members and fields of lists, one after the other
members_more : (m : code.SoyType) (ms : List code.SoyType) (t : code.SoyType)
    → members_lexemes (view_members ((m ∷ ms) ++ (t ∷ [])))
    ≡ members_lexemes (view_members (m ∷ ms)) ++ ((kind.Symbol, codes "|") ∷ type_lexemes (view_type t))
members_more m ms t =
    ap (λ l. type_lexemes (view_type m) ++ l) (more ms)
    ∙ sym (append_assoc (type_lexemes (view_type m)) (more_members_lexemes (view_members ms))
    ((kind.Symbol, codes "|") ∷ type_lexemes (view_type t)))
  where
    more : (ms : List code.SoyType) → more_members_lexemes (view_members (ms ++ (t ∷ [])))
        ≡ more_members_lexemes (view_members ms) ++ ((kind.Symbol, codes "|") ∷ type_lexemes (view_type t))
    more [] = ap (λ l. (kind.Symbol, codes "|") ∷ l) (append-nil (type_lexemes (view_type t)))
    more (n ∷ ns) =
        ap (λ l. (kind.Symbol, codes "|") ∷ (type_lexemes (view_type n) ++ l)) (more ns)
        ∙ ap (λ l. (kind.Symbol, codes "|") ∷ l) (sym (append_assoc (type_lexemes (view_type n))
        (more_members_lexemes (view_members ns)) ((kind.Symbol, codes "|") ∷ type_lexemes (view_type t))))

-- fields as they are written after the first one
abbrev field_lexemes : Name × SoyType → List Lexeme
field_lexemes f = (kind.Word, f.0) ∷ ((kind.Symbol, codes ":") ∷ type_lexemes f.1)

more_fields_are : (f : Name × SoyType) (fs : List (Name × SoyType))
    → more_fields_lexemes (fields_of (f ∷ fs)) ≡ (kind.Symbol, codes ",") ∷ (field_lexemes f ++ more_fields_lexemes
    (fields_of fs))
more_fields_are f fs = refl

fields_more : (g : Name × SoyType) (gs : List (Name × SoyType)) (f : Name × SoyType)
    → fields_lexemes (fields_of ((g ∷ gs) ++ (f ∷ [])))
    ≡ fields_lexemes (fields_of (g ∷ gs)) ++ ((kind.Symbol, codes ",") ∷ field_lexemes f)
fields_more g gs f =
    ap (λ l. field_lexemes g ++ l) (more gs)
    ∙ sym (append_assoc (field_lexemes g) (more_fields_lexemes (fields_of gs))
    ((kind.Symbol, codes ",") ∷ field_lexemes f))
  where
    more : (gs : List (Name × SoyType)) → more_fields_lexemes (fields_of (gs ++ (f ∷ [])))
        ≡ more_fields_lexemes (fields_of gs) ++ ((kind.Symbol, codes ",") ∷ field_lexemes f)
    more [] = ap (λ l. (kind.Symbol, codes ",") ∷ l) (append-nil (field_lexemes f))
    more (h ∷ hs) =
        ap (λ l. (kind.Symbol, codes ",") ∷ (field_lexemes h ++ l)) (more hs)
        ∙ ap (λ l. (kind.Symbol, codes ",") ∷ l) (sym (append_assoc (field_lexemes h) (more_fields_lexemes
        (fields_of hs))
        ((kind.Symbol, codes ",") ∷ field_lexemes f)))

-- a word at each token of a type
mutual
  member_words : (ts : List Token) (ds : List ℕ) (ws : List Bool) (x : TypeOperand) → SpellsMember ts ds ws x
      → length ws ≡ length ts
  member_words _ _ _ _ (SpellsMember.name_ t n e) = refl
  member_words _ _ _ _ (SpellsMember.list_ t less greater ts ds ws x a b c d) =
      omega (arith, type_words ts ds ws x d, length-append ts (greater ∷ []), length-append ws (false ∷ []))
  member_words _ _ _ _ (SpellsMember.map_ t less key comma greater ts ds ws x a b k m c d) =
      omega (arith, type_words ts ds ws x d, length-append ts (greater ∷ []), length-append ws (false ∷ []))
  member_words _ _ _ _ (SpellsMember.record_ opening close ts ds ws fields h a b d) =
      omega (arith, fields_words ts ds ws fields h d, length-append ts (close ∷ []), length-append ws (false ∷ []))

  fields_words : (ts : List Token) (ds : List ℕ) (ws : List Bool) (fields : List Field) (h : ℕ)
      → SpellsFields ts ds ws fields h → length ws ≡ length ts
  fields_words _ _ _ _ _ (SpellsFields.one_ key colon n ts ds ws x a b d) = omega (arith, type_words ts ds ws x d)
  fields_words _ _ _ _ _ (SpellsFields.more_ comma key colon n ts us ds es ws vs fields h x c a b d e) =
      omega (
        arith,
        fields_words ts ds ws fields h d,
        type_words us es vs x e,
        length-append ts (comma ∷ (key ∷ (colon ∷ us))),
        length-append ws (false ∷ (false ∷ (false ∷ vs))),
      )

  members_words : (ts : List Token) (ds : List ℕ) (ws : List Bool) (members : List code.SoyType) (h : ℕ)
      → SpellsMembers ts ds ws members h → length ws ≡ length ts
  members_words _ _ _ _ _ (SpellsMembers.first_ ts ds ws x d) = member_words ts ds ws x d
  members_words _ _ _ _ _ (SpellsMembers.next_ bar ts us ds es ws vs members h x b d e) =
      omega (
        arith,
        members_words ts ds ws members h d,
        member_words us es vs x e,
        length-append ts (bar ∷ us),
        length-append ws (false ∷ vs),
      )

  pub type_words : (ts : List Token) (ds : List ℕ) (ws : List Bool) (x : TypeOperand) → SpellsType ts ds ws x
      → length ws ≡ length ts
  type_words _ _ _ _ (SpellsType.alone_ ts ds ws x d) = member_words ts ds ws x d
  type_words _ _ _ _ (SpellsType.union_ bar ts us ds es ws vs members h x b d e) =
      omega (
        arith,
        members_words ts ds ws members h d,
        member_words us es vs x e,
        length-append ts (bar ∷ us),
        length-append ws (false ∷ vs),
      )

-- the words of the tokens before others, and of these
pub names_before : (ts us : List Token) (ws vs : List Bool) (rest : List Token) → length ws ≡ length ts
    → NameTypes (ts ++ us) (ws ++ vs) rest → NameTypes ts ws (us ++ rest) × NameTypes us vs rest
names_before [] us [] vs rest e h = (tt, h)
names_before [] us (w ∷ ws) vs rest e h = absurd (omega (arith, e))
names_before (t ∷ ts) us [] vs rest e h = absurd (omega (arith, e))
names_before (t ∷ ts) us (w ∷ ws) vs rest e h =
    let less : length ws ≡ length ts = omega (arith, e) in
    let more = names_before ts us ws vs rest less h.1 in
    ((subst (λ l. NamesTypeIf w t l) (append_assoc ts us rest) h.0, more.0), more.1)

-- what a name means that names a type without a `<` after it
record IsNamed (n : TypeName) : Type 0 where
  pub known : IsKnown n
  pub are : (kind.Word, name_text n) ∷ [] ≡ type_lexemes (view_type (type_of_name n))

simple_is : (t : code.SoyType) (o : SoyType-F code.SoyType code_field.Field) (v : SoyType) (ls : List Lexeme)
    → code.out-SoyType t ≡ o
    → type_layer (code.map-SoyType code.SoyType code_field.Field SoyType (Name × SoyType) view_type view_field o) ≡ v
    → ls ≡ type_lexemes v → ls ≡ type_lexemes (view_type t)
simple_is t o v ls e f g = g ∙ sym (ap type_lexemes (view_layer t o e ∙ f))

named_is : (n : TypeName) → names_type n false ≡ true → IsNamed n
named_is name.Null h =
    record { known = tt; are = simple_is soy.Null SoyType-F.Null NullType _ soy.outs-Null refl refl }
named_is name.Bool h =
    record { known = tt; are = simple_is soy.Bool SoyType-F.Bool BoolType _ soy.outs-Bool refl refl }
named_is name.Int h = record { known = tt; are = simple_is soy.Int SoyType-F.Int IntType _ soy.outs-Int refl refl }
named_is name.Str h = record { known = tt; are = simple_is soy.Str SoyType-F.Str StringType _ soy.outs-Str refl refl }
named_is name.Html h =
    record { known = tt; are = simple_is soy.Html SoyType-F.Html HtmlType _ soy.outs-Html refl refl }
named_is name.Attributes h =
    record {
      known = tt;
      are = simple_is soy.Attributes SoyType-F.Attributes AttributesType _ soy.outs-Attributes refl refl;
    }
named_is name.List h = cc
named_is name.Map h = cc
named_is name.Unknown h = cc

-- a symbol that is no `<` comes next
not_less : (t : Token) (m : TypeTerminal) (rest : List Token) → type_terminal_of t ≡ m → is_less m ≡ false
    → begins_with_less (t ∷ rest) ≡ false
not_less t m rest e h = ap is_less e ∙ h

two : (a b c d : List Lexeme) → a ≡ c → b ≡ d → a ++ b ≡ c ++ d
two a b c d e f = ap (λ l. l ++ b) e ∙ ap (λ l. c ++ l) f

-- a list of members is not empty
record HasMembers (ms : List code.SoyType) : Type 0 where
  pub first : code.SoyType
  pub more : List code.SoyType
  pub are : ms ≡ first ∷ more

record HasFields (fs : List Field) : Type 0 where
  pub first : Field
  pub more : List Field
  pub are : fs ≡ first ∷ more

some_members : (ts : List Token) (ds : List ℕ) (ws : List Bool) (ms : List code.SoyType) (h : ℕ)
    → SpellsMembers ts ds ws ms h → HasMembers ms
some_members _ _ _ _ _ (SpellsMembers.first_ ts ds ws x d) = record { first = x.of; more = []; are = refl }
some_members _ _ _ _ _ (SpellsMembers.next_ bar ts us ds es ws vs ms h x b d e) =
    let s = some_members ts ds ws ms h d in
    record { first = s.first; more = s.more ++ (x.of ∷ []); are = ap (λ l. l ++ (x.of ∷ [])) s.are }

some_fields : (ts : List Token) (ds : List ℕ) (ws : List Bool) (fs : List Field) (h : ℕ) → SpellsFields ts ds ws fs h
    → HasFields fs
some_fields _ _ _ _ _ (SpellsFields.one_ key colon n ts ds ws x a b d) =
    record { first = field key.text x.of; more = []; are = refl }
some_fields _ _ _ _ _ (SpellsFields.more_ comma key colon n ts us ds es ws vs fs h x c a b d e) =
    let s = some_fields ts ds ws fs h d in
    record {
      first = s.first;
      more = s.more ++ (field key.text x.of ∷ []);
      are = ap (λ l. l ++ (field key.text x.of ∷ [])) s.are;
    }

three : (a b : Lexeme) (cs : List Lexeme) (x y : Lexeme) (zs : List Lexeme) → a ≡ x → b ≡ y → cs ≡ zs
    → a ∷ (b ∷ cs) ≡ x ∷ (y ∷ zs)
three a b cs x y zs e f g = ap (λ l. l ∷ (b ∷ cs)) e ∙ (ap (λ l. x ∷ (l ∷ cs)) f ∙ ap (λ l. x ∷ (y ∷ l)) g)

one_field : (key colon : Token) (ts : List Token) (n : TypeName) (x : TypeOperand)
    → type_terminal_of key ≡ terminal.Word n
    → type_terminal_of colon ≡ terminal.Colon → lexemes ts ≡ type_lexemes (view_type x.of)
    → lexemes (key ∷ (colon ∷ ts)) ≡ field_lexemes (key.text, view_type x.of)
one_field key colon ts n x a b same =
    three (lexeme key) (lexeme colon) (lexemes ts) (kind.Word, key.text) (kind.Symbol, codes ":")
    (type_lexemes (view_type x.of)) (word_lexeme key n a) (symbol_lexeme colon terminal.Colon b tt) same

next_member : (ts : List Token) (bar : Token) (us : List Token) (ms : List code.SoyType) (x : TypeOperand)
    → type_terminal_of bar ≡ terminal.Bar → lexemes ts ≡ members_lexemes (view_members ms)
    → lexemes us ≡ type_lexemes (view_type x.of)
    → lexemes (ts ++ (bar ∷ us))
    ≡ members_lexemes (view_members ms) ++ ((kind.Symbol, codes "|") ∷ type_lexemes (view_type x.of))
next_member ts bar us ms x b front last =
    map-append lexeme ts (bar ∷ us)
    ∙ two (lexemes ts) (lexeme bar ∷ lexemes us) (members_lexemes (view_members ms))
    ((kind.Symbol, codes "|") ∷ type_lexemes (view_type x.of)) front
    (ap (λ l. l ∷ lexemes us) (symbol_lexeme bar terminal.Bar b tt) ∙ ap (λ l. (kind.Symbol, codes "|") ∷ l) last)

-- one more member, and one more field
union_more : (ms : List code.SoyType) (t : code.SoyType) → HasMembers ms
    → members_lexemes (view_members (ms ++ (t ∷ [])))
    ≡ members_lexemes (view_members ms) ++ ((kind.Symbol, codes "|") ∷ type_lexemes (view_type t))
union_more ms t s =
    ap (λ l. members_lexemes (view_members (l ++ (t ∷ [])))) s.are
    ∙ (members_more s.first s.more t
    ∙ ap (λ l. members_lexemes (view_members l) ++ ((kind.Symbol, codes "|") ∷ type_lexemes (view_type t))) (sym s.are))

record_more : (fs : List Field) (f : Field) → HasFields fs → fields_lexemes (view_fields (fs ++ (f ∷ [])))
    ≡ fields_lexemes (view_fields fs) ++ ((kind.Symbol, codes ",") ∷ field_lexemes (view_field f))
record_more fs f s =
    ap (λ l. fields_lexemes (fields_of (map view_field (l ++ (f ∷ []))))) s.are
    ∙ (ap (λ l. fields_lexemes (fields_of (view_field s.first ∷ l))) (map-append view_field s.more (f ∷ []))
    ∙ (fields_more (view_field s.first) (map view_field s.more) (view_field f)
    ∙ ap (λ l. fields_lexemes (view_fields l) ++ ((kind.Symbol, codes ",") ∷ field_lexemes (view_field f)))
    (sym s.are)))

mutual
  member_lexemes : (ts : List Token) (ds : List ℕ) (ws : List Bool) (x : TypeOperand) (rest : List Token)
      → SpellsMember ts ds ws x → NameTypes ts ws rest → begins_with_less rest ≡ false
      → lexemes ts ≡ type_lexemes (view_type x.of)
  member_lexemes _ _ _ _ rest (SpellsMember.name_ t n e) names less =
      let named : names_type n false ≡ true = ap (names_type n) (sym less)
      ∙ (ap (λ m. word_names_type m (begins_with_less rest)) (sym e) ∙ names.0) in
      let i = named_is n named in
      ap (λ l. l ∷ []) (name_lexeme t n e i.known) ∙ i.are
  member_lexemes _ _ _ _ rest (SpellsMember.list_ t less greater ts ds ws x a b c d) names none =
      let inner = names_before ts (greater ∷ []) ws (false ∷ []) rest (type_words ts ds ws x d) names.1.1 in
      let last : lexemes (greater ∷ []) ≡ (kind.Symbol, codes ">") ∷ [] =
      ap (λ l. l ∷ []) (symbol_lexeme greater terminal.Greater c tt) in
      let whole : lexemes (ts ++ (greater ∷ [])) ≡ type_lexemes (view_type x.of) ++ ((kind.Symbol, codes ">") ∷ []) =
      map-append lexeme ts (greater ∷ []) ∙ two (lexemes ts) (lexemes (greater ∷ [])) (type_lexemes (view_type x.of))
      ((kind.Symbol, codes ">") ∷ [])
      (spelled_lexemes ts ds ws x (greater ∷ rest) d inner.0 (not_less greater terminal.Greater rest c refl)) last in
      three (lexeme t) (lexeme less) (lexemes (ts ++ (greater ∷ []))) (kind.Word, codes "list") (kind.Symbol, codes "<")
      (type_lexemes (view_type x.of) ++ ((kind.Symbol, codes ">") ∷ []))
      (name_lexeme t name.List a tt) (symbol_lexeme less terminal.Less b tt) whole
      ∙ sym (ap type_lexemes (view-List x.of))
  member_lexemes _ _ _ _ rest (SpellsMember.map_ t less key comma greater ts ds ws x a b k m c d) names none =
      let inner = names_before ts (greater ∷ []) ws (false ∷ []) rest (type_words ts ds ws x d) names.1.1.1.1 in
      let last : lexemes (greater ∷ []) ≡ (kind.Symbol, codes ">") ∷ [] =
      ap (λ l. l ∷ []) (symbol_lexeme greater terminal.Greater c tt) in
      let whole : lexemes (ts ++ (greater ∷ [])) ≡ type_lexemes (view_type x.of) ++ ((kind.Symbol, codes ">") ∷ []) =
      map-append lexeme ts (greater ∷ []) ∙ two (lexemes ts) (lexemes (greater ∷ [])) (type_lexemes (view_type x.of))
      ((kind.Symbol, codes ">") ∷ [])
      (spelled_lexemes ts ds ws x (greater ∷ rest) d inner.0 (not_less greater terminal.Greater rest c refl)) last in
      let back = three (lexeme key) (lexeme comma) (lexemes (ts ++ (greater ∷ []))) (kind.Word, codes "string")
      (kind.Symbol, codes ",") (type_lexemes (view_type x.of) ++ ((kind.Symbol, codes ">") ∷ []))
      (name_lexeme key name.Str k tt) (symbol_lexeme comma terminal.Comma m tt) whole in
      three (lexeme t) (lexeme less) (lexeme key ∷ (lexeme comma ∷ lexemes (ts ++ (greater ∷ []))))
      (kind.Word, codes "map") (kind.Symbol, codes "<") ((kind.Word, codes "string") ∷ ((kind.Symbol, codes ",")
      ∷ (type_lexemes (view_type x.of) ++ ((kind.Symbol, codes ">") ∷ []))))
      (name_lexeme t name.Map a tt) (symbol_lexeme less terminal.Less b tt) back
      ∙ sym (ap type_lexemes (view-Map x.of))
  member_lexemes _ _ _ _ rest (SpellsMember.record_ opening close ts ds ws fields h a b d) names none =
      let inner = names_before ts (close ∷ []) ws (false ∷ []) rest (fields_words ts ds ws fields h d) names.1 in
      let last : lexemes (close ∷ []) ≡ (kind.Symbol, codes "]") ∷ [] =
      ap (λ l. l ∷ []) (symbol_lexeme close terminal.CloseBracket b tt) in
      let whole : lexemes (ts ++ (close ∷ [])) ≡ fields_lexemes (view_fields fields) ++
      ((kind.Symbol, codes "]") ∷ []) =
      map-append lexeme ts (close ∷ []) ∙ two (lexemes ts) (lexemes (close ∷ [])) (fields_lexemes (view_fields fields))
      ((kind.Symbol, codes "]") ∷ [])
      (spelled_fields ts ds ws fields h (close ∷ rest) d inner.0 (not_less close terminal.CloseBracket rest b refl))
      last in
      (ap (λ l. l ∷ lexemes (ts ++ (close ∷ []))) (symbol_lexeme opening terminal.OpenBracket a tt)
      ∙ ap (λ l. (kind.Symbol, codes "[") ∷ l) whole)
      ∙ sym (ap type_lexemes (view-Fields fields))

  spelled_fields : (ts : List Token) (ds : List ℕ) (ws : List Bool) (fields : List Field) (h : ℕ) (rest : List Token)
      → SpellsFields ts ds ws fields h → NameTypes ts ws rest → begins_with_less rest ≡ false
      → lexemes ts ≡ fields_lexemes (view_fields fields)
  spelled_fields _ _ _ _ _ rest (SpellsFields.one_ key colon n ts ds ws x a b d) names none =
      one_field key colon ts n x a b (spelled_lexemes ts ds ws x rest d names.1.1 none)
      ∙ sym (append-nil (field_lexemes (key.text, view_type x.of)))
      ∙ ap (λ f. field_lexemes f ++ []) (sym (view-field key.text x.of))
  spelled_fields _ _ _ _ _ rest (SpellsFields.more_ comma key colon n ts us ds es ws vs fields h x c a b d e) names
      none =
      let parts = names_before ts (comma ∷ (key ∷ (colon ∷ us))) ws (false ∷ (false ∷ (false ∷ vs))) rest
      (fields_words ts ds ws fields h d) names in
      let front = spelled_fields ts ds ws fields h (comma ∷ (key ∷ (colon ∷ (us ++ rest)))) d parts.0
      (not_less comma terminal.Comma (key ∷ (colon ∷ (us ++ rest))) c refl) in
      let last = one_field key colon us n x a b (spelled_lexemes us es vs x rest e parts.1.1.1.1 none) in
      map-append lexeme ts (comma ∷ (key ∷ (colon ∷ us)))
      ∙ (two (lexemes ts) (lexeme comma ∷ lexemes (key ∷ (colon ∷ us))) (fields_lexemes (view_fields fields))
      ((kind.Symbol, codes ",") ∷ field_lexemes (view_field (field key.text x.of))) front
      (ap (λ l. l ∷ lexemes (key ∷ (colon ∷ us))) (symbol_lexeme comma terminal.Comma c tt)
      ∙ ap (λ l. (kind.Symbol, codes ",") ∷ l) (last ∙ ap field_lexemes (sym (view-field key.text x.of))))
      ∙ sym (record_more fields (field key.text x.of) (some_fields ts ds ws fields h d)))

  spelled_members : (ts : List Token) (ds : List ℕ) (ws : List Bool) (ms : List code.SoyType) (h : ℕ)
      (rest : List Token) → SpellsMembers ts ds ws ms h → NameTypes ts ws rest → begins_with_less rest ≡ false
      → lexemes ts ≡ members_lexemes (view_members ms)
  spelled_members _ _ _ _ _ rest (SpellsMembers.first_ ts ds ws x d) names none =
      member_lexemes ts ds ws x rest d names none ∙ sym (append-nil (type_lexemes (view_type x.of)))
  spelled_members _ _ _ _ _ rest (SpellsMembers.next_ bar ts us ds es ws vs ms h x b d e) names none =
      let parts = names_before ts (bar ∷ us) ws (false ∷ vs) rest (members_words ts ds ws ms h d) names in
      next_member ts bar us ms x b (spelled_members ts ds ws ms h (bar ∷ (us ++ rest)) d parts.0
      (not_less bar terminal.Bar (us ++ rest) b refl)) (member_lexemes us es vs x rest e parts.1.1 none)
      ∙ sym (union_more ms x.of (some_members ts ds ws ms h d))

  -- **The tokens of a type have the lexemes that it is written for.**
  pub spelled_lexemes : (ts : List Token) (ds : List ℕ) (ws : List Bool) (x : TypeOperand) (rest : List Token)
      → SpellsType ts ds ws x → NameTypes ts ws rest → begins_with_less rest ≡ false
      → lexemes ts ≡ type_lexemes (view_type x.of)
  spelled_lexemes _ _ _ _ rest (SpellsType.alone_ ts ds ws x d) names none = member_lexemes ts ds ws x rest d names none
  spelled_lexemes _ _ _ _ rest (SpellsType.union_ bar ts us ds es ws vs ms h x b d e) names none =
      let parts = names_before ts (bar ∷ us) ws (false ∷ vs) rest (members_words ts ds ws ms h d) names in
      next_member ts bar us ms x b (spelled_members ts ds ws ms h (bar ∷ (us ++ rest)) d parts.0
      (not_less bar terminal.Bar (us ++ rest) b refl)) (member_lexemes us es vs x rest e parts.1.1 none)
      ∙ (sym (union_more ms x.of (some_members ts ds ws ms h d)) ∙ sym (ap type_lexemes (view-Union (ms ++
      (x.of ∷ [])))))
