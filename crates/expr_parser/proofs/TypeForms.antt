-- The type that tokens spell is formed.
use Rattle.std.proofs.Common.{◌≡◌, ℕ, Bool, true, false, not, ◌&&◌, List, [], ◌∷◌, ◌++◌, map, refl, ◌∙◌, ap, subst}
use Rattle.std.specs.Prelude.{codes, encode_utf8_all, if◌then◌else◌}
use Rattle.std.specs.Str.{bytes_eq}
use Rattle.soy_base.specs.Names.{is_name}
use Rattle.soy_lexer.specs.declared.token.Token.{Token}
use Rattle.soy_lexer.specs.declared.token.TokenKind.{TokenKind}
use Rattle.soy_lexer.specs.declared.token.TokenKind.TheVariants as kind
use Rattle.soy_tree.specs.declared.soy_type.Field as code_field
use Rattle.soy_tree.specs.declared.soy_type.SoyType as code
use Rattle.soy_tree.specs.declared.soy_type.SoyType.TheOpen.{SoyType-F}
use Rattle.soy_tree.specs.declared.soy_type.SoyType.TheVariants as soy
use Rattle.soy_tree.specs.Formed.{is_union, is_formed_type, are_formed_members, are_formed_fields}
use Rattle.soy_tree.specs.Types.{Name, SoyType, NullType, BoolType, IntType, StringType, HtmlType, AttributesType}
use Rattle.soy_tree.specs.Types.{ListType, MapType, RecordType, UnionType}
use Rattle.soy_tree.specs.ViewTypes.{view_type, view_field, view_members, view_fields, type_layer, field_layer}
use Rattle.soy_tree.specs.ViewTypes.{fields_of}
use Rattle.expr_parser.specs.declared.type_frame.TypeOperand.{TypeOperand}
use Rattle.expr_parser.specs.declared.type_terminal.TypeName.{TypeName}
use Rattle.expr_parser.specs.declared.type_terminal.TypeName.TheVariants as name
use Rattle.expr_parser.specs.declared.type_terminal.TypeTerminal.{TypeTerminal}
use Rattle.expr_parser.specs.declared.type_terminal.TypeTerminal.TheVariants as terminal
use Rattle.expr_parser.specs.AreNamed.{IsNamed, AreNamed}
use Rattle.expr_parser.specs.SpellsType.{SpellsMember, SpellsFields, SpellsMembers, SpellsType}
use Rattle.expr_parser.specs.TypeOperands.{type_of_name, field}
use Rattle.expr_parser.specs.TypeTerminals.{type_terminal, type_terminal_of, type_symbol}
use Rattle.expr_parser.proofs.ExprForms.{around}

-- what the types of the code stand for, layer by layer

view_layer : (t : code.SoyType) (o : SoyType-F code.SoyType code_field.Field) → code.out-SoyType t ≡ o →
    view_type t ≡ type_layer (code.map-SoyType code.SoyType code_field.Field SoyType
    (Name × SoyType) view_type view_field o)
view_layer t o e =
    code.fold_out-SoyType SoyType (Name × SoyType) type_layer field_layer t
    ∙ ap (λ p. type_layer (code.map-SoyType code.SoyType code_field.Field SoyType
    (Name × SoyType) view_type view_field p)) e

view-List : (t : code.SoyType) → view_type (soy.List t) ≡ ListType (view_type t)
view-List t = view_layer (soy.List t) (SoyType-F.List t) (soy.outs-List t)

view-Map : (t : code.SoyType) → view_type (soy.Map t) ≡ MapType (view_type t)
view-Map t = view_layer (soy.Map t) (SoyType-F.Map t) (soy.outs-Map t)

view-Fields : (fields : List code_field.Field) → view_type (soy.Fields fields) ≡ RecordType (view_fields fields)
view-Fields fields = view_layer (soy.Fields fields) (SoyType-F.Fields fields) (soy.outs-Fields fields)

view-Union : (ts : List code.SoyType) → view_type (soy.Union ts) ≡ UnionType (view_members ts)
view-Union ts = view_layer (soy.Union ts) (SoyType-F.Union ts) (soy.outs-Union ts)

view-field : (n : List ℕ) (t : code.SoyType) → view_field (field n t) ≡ (n, view_type t)
view-field n t = code_field.fold_out-Field SoyType (Name × SoyType) type_layer field_layer (field n t)

-- a type that is formed and no union
record IsFormedMember (t : code.SoyType) : Type 0 where
  pub alone : is_union (view_type t) ≡ false
  pub formed : is_formed_type (view_type t) ≡ true

formed_as : (t : code.SoyType) (v : SoyType) → view_type t ≡ v → is_union v ≡ false → is_formed_type v ≡ true →
    IsFormedMember t
formed_as t v e alone formed = record { alone = ap is_union e ∙ alone; formed = ap is_formed_type e ∙ formed }

formed_null : IsFormedMember soy.Null
formed_null = formed_as soy.Null NullType (view_layer soy.Null SoyType-F.Null soy.outs-Null) refl refl

formed_name : (n : TypeName) → IsFormedMember (type_of_name n)
formed_name name.Bool = formed_as soy.Bool BoolType (view_layer soy.Bool SoyType-F.Bool soy.outs-Bool) refl refl
formed_name name.Int = formed_as soy.Int IntType (view_layer soy.Int SoyType-F.Int soy.outs-Int) refl refl
formed_name name.Str = formed_as soy.Str StringType (view_layer soy.Str SoyType-F.Str soy.outs-Str) refl refl
formed_name name.Html = formed_as soy.Html HtmlType (view_layer soy.Html SoyType-F.Html soy.outs-Html) refl refl
formed_name name.Attributes =
    formed_as soy.Attributes AttributesType
    (view_layer soy.Attributes SoyType-F.Attributes soy.outs-Attributes) refl refl
formed_name _ = formed_null

-- a word is a name
abbrev IsWordName : List ℕ → TypeTerminal → Type 0
IsWordName name (terminal.Word n) = is_name name ≡ true
IsWordName name _ = Unit {0}

record IsSound (name : List ℕ) (m : TypeTerminal) : Type 0 where
  pub sound : IsWordName name m

picked : (name : List ℕ) (b : Bool) (x y : TypeTerminal) → IsSound name x → IsSound name y →
    IsSound name (if b then x else y)
picked name true x y p q = p
picked name false x y p q = q

symbol_sound : (name text : List ℕ) → IsSound name (type_symbol text)
symbol_sound name text =
    picked name (bytes_eq text (codes "<")) terminal.Less _ (record { sound = tt })
    (picked name (bytes_eq text (codes ">")) terminal.Greater _ (record { sound = tt })
    (picked name (bytes_eq text (codes ",")) terminal.Comma _ (record { sound = tt })
    (picked name (bytes_eq text (codes ":")) terminal.Colon _ (record { sound = tt })
    (picked name (bytes_eq text (codes "|")) terminal.Bar _ (record { sound = tt })
    (picked name (bytes_eq text (codes "[")) terminal.OpenBracket _ (record { sound = tt })
    (picked name (bytes_eq text (codes "]")) terminal.CloseBracket _ (record { sound = tt })
    (record { sound = tt })))))))

token_sound : (k : TokenKind) (name text : List ℕ) → IsNamed k name → IsWordName name (type_terminal k text)
token_sound kind.Word name text i = i
token_sound kind.Symbol name text i = (symbol_sound name text).sound
token_sound _ name text i = tt

word_named : (t : Token) (n : TypeName) → type_terminal_of t ≡ terminal.Word n → IsNamed t.kind t.text →
    is_name t.text ≡ true
word_named t n e i = subst (IsWordName t.text) e (token_sound t.kind t.text (encode_utf8_all t.text) i)

-- lists of members and of fields that go on

members_append : (ts : List code.SoyType) (t : code.SoyType) → are_formed_members (view_members ts) ≡ true →
    IsFormedMember t →
    are_formed_members (view_members (ts ++ t ∷ [])) ≡ true
members_append [] t h m = rw (m.alone, m.formed) refl
members_append (u ∷ ts) t h m = over (not (is_union (view_type u))) (is_formed_type (view_type u))
    (members_append ts t) h
  where
    over : (a b : Bool) → (are_formed_members (view_members ts) ≡ true → IsFormedMember t →
        are_formed_members (view_members (ts ++ t ∷ [])) ≡ true) →
        (a && b && are_formed_members (view_members ts)) ≡ true →
        (a && b && are_formed_members (view_members (ts ++ t ∷ []))) ≡ true
    over true true inside h = inside h m
    over true false inside h = absurd (cc h)
    over false b inside h = absurd (cc h)

field_formed : (n : List ℕ) (t : code.SoyType) (fields : List code_field.Field) → is_name n ≡ true →
    is_formed_type (view_type t) ≡ true → are_formed_fields (view_fields fields) ≡ true →
    are_formed_fields (view_fields (field n t ∷ fields)) ≡ true
field_formed n t fields named formed h =
    ap (λ f. are_formed_fields (fields_of (f ∷ map view_field fields))) (view-field n t)
    ∙ all_three (is_name n) (is_formed_type (view_type t)) (are_formed_fields (view_fields fields)) named formed h
  where
    all_three : (a b c : Bool) → a ≡ true → b ≡ true → c ≡ true → (a && b && c) ≡ true
    all_three a b c p q r = rw (p, q, r) refl

fields_append : (fields : List code_field.Field) (n : List ℕ) (t : code.SoyType) → are_formed_fields
    (view_fields fields) ≡ true →
    is_name n ≡ true → is_formed_type (view_type t) ≡ true →
    are_formed_fields (view_fields (fields ++ field n t ∷ [])) ≡ true
fields_append [] n t h named formed = field_formed n t [] named formed refl
fields_append (f ∷ fields) n t h named formed =
    over (is_name (view_field f).0) (is_formed_type (view_field f).1) (λ k. fields_append fields n t k named formed) h
  where
    over : (a b : Bool) → (are_formed_fields (view_fields fields) ≡ true →
        are_formed_fields (view_fields (fields ++ field n t ∷ [])) ≡ true) →
        (a && b && are_formed_fields (view_fields fields)) ≡ true →
        (a && b && are_formed_fields (view_fields (fields ++ field n t ∷ []))) ≡ true
    over true true inside h = inside h
    over true false inside h = absurd (cc h)
    over false b inside h = absurd (cc h)

mutual
  formed_member : (ts : List Token) (ds : List ℕ) (ws : List Bool) (x : TypeOperand) → AreNamed ts →
      SpellsMember ts ds ws x →
      IsFormedMember x.of
  formed_member _ _ _ _ h (SpellsMember.name_ t n e) = formed_name n
  formed_member _ _ _ _ h (SpellsMember.list_ t less greater ts ds ws x a b c s) =
      let i = around ts greater [] h.1.1 in
      formed_as (soy.List x.of) (ListType (view_type x.of)) (view-List x.of) refl (formed_type ts ds ws x i.before s)
  formed_member _ _ _ _ h (SpellsMember.map_ t less key comma greater ts ds ws x a b c d e s) =
      let i = around ts greater [] h.1.1.1.1 in
      formed_as (soy.Map x.of) (MapType (view_type x.of)) (view-Map x.of) refl (formed_type ts ds ws x i.before s)
  formed_member _ _ _ _ h (SpellsMember.record_ opening close ts ds ws fields height a b s) =
      let i = around ts close [] h.1 in
      formed_as (soy.Fields fields) (RecordType (view_fields fields)) (view-Fields fields) refl
      (formed_fields ts ds ws fields height i.before s)

  formed_fields : (ts : List Token) (ds : List ℕ) (ws : List Bool) (fields : List code_field.Field) (height : ℕ) →
      AreNamed ts →
      SpellsFields ts ds ws fields height → are_formed_fields (view_fields fields) ≡ true
  formed_fields _ _ _ _ _ h (SpellsFields.one_ key colon n ts ds ws x a b s) =
      field_formed key.text x.of [] (word_named key n a h.0) (formed_type ts ds ws x h.1.1 s) refl
  formed_fields _ _ _ _ _ h (SpellsFields.more_ comma key colon n ts us ds es ws vs fields height x a b c s r) =
      let i = around ts comma (key ∷ (colon ∷ us)) h in
      let k = i.after in
      fields_append fields key.text x.of (formed_fields ts ds ws fields height i.before s) (word_named key n b k.0)
      (formed_type us es vs x k.1.1 r)

  formed_members : (ts : List Token) (ds : List ℕ) (ws : List Bool) (members : List code.SoyType) (height : ℕ) →
      AreNamed ts →
      SpellsMembers ts ds ws members height → are_formed_members (view_members members) ≡ true
  formed_members _ _ _ _ _ h (SpellsMembers.first_ ts ds ws x s) =
      members_append [] x.of refl (formed_member ts ds ws x h s)
  formed_members _ _ _ _ _ h (SpellsMembers.next_ bar ts us ds es ws vs members height x a s r) =
      let i = around ts bar us h in
      members_append members x.of (formed_members ts ds ws members height i.before s)
      (formed_member us es vs x i.after r)

  -- **The type that tokens spell whose words are names is formed.**
  pub formed_type : (ts : List Token) (ds : List ℕ) (ws : List Bool) (x : TypeOperand) → AreNamed ts →
      SpellsType ts ds ws x →
      is_formed_type (view_type x.of) ≡ true
  formed_type _ _ _ _ h (SpellsType.alone_ ts ds ws x s) = (formed_member ts ds ws x h s).formed
  formed_type _ _ _ _ h (SpellsType.union_ bar ts us ds es ws vs members height x a s r) =
      let i = around ts bar us h in
      ap is_formed_type (view-Union (members ++ x.of ∷ []))
      ∙ members_append members x.of (formed_members ts ds ws members height i.before s)
      (formed_member us es vs x i.after r)
