-- What was read is what the grammar of types has, as far as it goes.
use Rattle.std.proofs.Common.{◌≡◌, ℕ, Bool, true, false, List, [], ◌∷◌, ◌++◌, Option, Some, None, refl}
use Rattle.std.proofs.Common.{◌∙◌, ap, append_assoc, append-nil}
use Rattle.std.specs.Prelude.{max}
use Rattle.soy_lexer.specs.declared.token.Token.{Token}
use Rattle.soy_tree.specs.declared.soy_type.Field.{Field}
use Rattle.soy_tree.specs.declared.soy_type.SoyType.{SoyType}
use Rattle.expr_parser.specs.declared.type_frame.TypeBracket.TheVariants as bracket
use Rattle.expr_parser.specs.declared.type_frame.TypeFrame.{TypeFrame}
use Rattle.expr_parser.specs.declared.type_frame.TypeFrame.TheVariants as frame
use Rattle.expr_parser.specs.declared.type_frame.TypeNested.{TypeNested}
use Rattle.expr_parser.specs.declared.type_frame.TypeOperand.{TypeOperand}
use Rattle.expr_parser.specs.declared.type_state.ExpectedInType.{ExpectedInType}
use Rattle.expr_parser.specs.declared.type_state.ExpectedInType.TheVariants as expected
use Rattle.expr_parser.specs.declared.type_state.TypeState.{TypeState}
use Rattle.expr_parser.specs.declared.type_terminal.TypeName.{TypeName}
use Rattle.expr_parser.specs.declared.type_terminal.TypeName.TheVariants as name
use Rattle.expr_parser.specs.declared.type_terminal.TypeTerminal.{TypeTerminal}
use Rattle.expr_parser.specs.declared.type_terminal.TypeTerminal.TheVariants as terminal
use Rattle.expr_parser.specs.Depths.{beside}
use Rattle.expr_parser.specs.SpellsType.{SpellsMember, SpellsFields, SpellsMembers, SpellsType}
use Rattle.expr_parser.specs.TypeOperands.{named, listed, mapped, recorded, united, field}
use Rattle.expr_parser.specs.TypeRuns.{type_run, type_run_from}
use Rattle.expr_parser.specs.TypeSteps.{type_at, settled, with_member, greater_next, comma_next}
use Rattle.expr_parser.specs.TypeSteps.{close_next, delimiter_next, type_expected_next, less_next, after_name_next}
use Rattle.expr_parser.specs.TypeSteps.{key_next, key_comma_next, field_name_next, field_colon_next}
use Rattle.expr_parser.specs.TypeSteps.{type_next}
use Rattle.expr_parser.specs.TypeTerminals.{type_terminal_of}
use Rattle.expr_parser.proofs.TypeComplete.{NoUnion, max_none}

-- tokens that spell something, whatever the depths at them and the words among them

pub record SpelledMember (ts : List Token) (x : TypeOperand) : Type 0 where
  pub depths : List ℕ
  pub words : List Bool
  pub spells : SpellsMember ts depths words x

pub record SpelledMembers (ts : List Token) (members : List SoyType) (h : ℕ) : Type 0 where
  pub depths : List ℕ
  pub words : List Bool
  pub spells : SpellsMembers ts depths words members h

pub record SpelledFields (ts : List Token) (fields : List Field) (h : ℕ) : Type 0 where
  pub depths : List ℕ
  pub words : List Bool
  pub spells : SpellsFields ts depths words fields h

pub record SpelledType (ts : List Token) (x : TypeOperand) : Type 0 where
  pub depths : List ℕ
  pub words : List Bool
  pub spells : SpellsType ts depths words x

-- these tokens lead into a record, after these fields
pub data Leads : List Field → ℕ → List Token → Type 0 where
  none : (opening : Token) → type_terminal_of opening ≡ terminal.OpenBracket → Leads [] 0 (opening ∷ [])
  some : (opening comma : Token) (ts : List Token) (fields : List Field) (h : ℕ) →
      type_terminal_of opening ≡ terminal.OpenBracket →
      SpelledFields ts fields h → type_terminal_of comma ≡ terminal.Comma → Leads fields h
      (opening ∷ (ts ++ (comma ∷ [])))

-- these tokens lead into the frames
pub data Opened : List TypeFrame → List Token → Type 0 where
  none : Opened [] []
  list : (fs : List TypeFrame) (ts : List Token) (t less : Token) → Opened fs ts →
      type_terminal_of t ≡ terminal.Word name.List →
      type_terminal_of less ≡ terminal.Less → Opened (frame.Bracket bracket.List ∷ fs) (ts ++ (t ∷ (less ∷ [])))
  map_ : (fs : List TypeFrame) (ts : List Token) (t less key comma : Token) → Opened fs ts →
      type_terminal_of t ≡ terminal.Word name.Map →
      type_terminal_of less ≡ terminal.Less → type_terminal_of key ≡ terminal.Word name.Str →
      type_terminal_of comma ≡ terminal.Comma →
      Opened (frame.Bracket bracket.Map ∷ fs) (ts ++ (t ∷ (less ∷ (key ∷ (comma ∷ [])))))
  field_ : (fs : List TypeFrame) (ts us : List Token) (fields : List Field) (h : ℕ) (key colon : Token)
      (n : TypeName) → Opened fs ts →
      Leads fields h us → type_terminal_of key ≡ terminal.Word n → type_terminal_of colon ≡ terminal.Colon →
      Opened (frame.Bracket (bracket.Field fields h key.text) ∷ fs) (ts ++ (us ++ (key ∷ (colon ∷ []))))
  union_ : (fs : List TypeFrame) (ts us : List Token) (members : List SoyType) (h : ℕ) (bar : Token) → Opened fs ts →
      NoUnion fs →
      SpelledMembers us members h → type_terminal_of bar ≡ terminal.Bar →
      Opened (frame.Union members h ∷ fs) (ts ++ (us ++ (bar ∷ [])))

-- and to a type there that is no union
pub record Stands (fs : List TypeFrame) (x : TypeOperand) (ts : List Token) : Type 0 where
  pub prefix : List Token
  pub suffix : List Token
  pub whole : ts ≡ prefix ++ suffix
  pub opened : Opened fs prefix
  pub spelled : SpelledMember suffix x

-- and to a name there
pub record Named (fs : List TypeFrame) (n : TypeName) (offset : ℕ) (ts : List Token) : Type 0 where
  pub prefix : List Token
  pub token : Token
  pub whole : ts ≡ prefix ++ (token ∷ [])
  pub opened : Opened fs prefix
  pub is_name : type_terminal_of token ≡ terminal.Word n
  pub offset_is : token.span.start ≡ offset

-- and to the key of a map
pub record AtKey (fs : List TypeFrame) (ts : List Token) : Type 0 where
  pub prefix : List Token
  pub token : Token
  pub less : Token
  pub whole : ts ≡ prefix ++ (token ∷ (less ∷ []))
  pub opened : Opened fs prefix
  pub is_map : type_terminal_of token ≡ terminal.Word name.Map
  pub is_less : type_terminal_of less ≡ terminal.Less

pub record AtComma (fs : List TypeFrame) (ts : List Token) : Type 0 where
  pub before : List Token
  pub key : Token
  pub whole : ts ≡ before ++ (key ∷ [])
  pub at_key : AtKey fs before
  pub is_key : type_terminal_of key ≡ terminal.Word name.Str

-- and to the name of a field
pub record AtField (fs : List TypeFrame) (fields : List Field) (h : ℕ) (ts : List Token) : Type 0 where
  pub prefix : List Token
  pub suffix : List Token
  pub whole : ts ≡ prefix ++ suffix
  pub opened : Opened fs prefix
  pub leads : Leads fields h suffix

pub record AtColon (fs : List TypeFrame) (fields : List Field) (h : ℕ) (name : List ℕ) (ts : List Token) : Type 0 where
  pub before : List Token
  pub key : Token
  pub word : TypeName
  pub whole : ts ≡ before ++ (key ∷ [])
  pub at_field : AtField fs fields h before
  pub is_word : type_terminal_of key ≡ terminal.Word word
  pub name_is : key.text ≡ name

abbrev pub Holds_at : ExpectedInType → List TypeFrame → List Token → Type 0
Holds_at expected.Type fs ts = Opened fs ts
Holds_at (expected.AfterName n offset) fs ts = Named fs n offset ts
Holds_at (expected.Delimiter x) fs ts = Stands fs x ts
Holds_at expected.Key fs ts = AtKey fs ts
Holds_at expected.KeyComma fs ts = AtComma fs ts
Holds_at (expected.FieldName fields h) fs ts = AtField fs fields h ts
Holds_at (expected.FieldColon fields h name) fs ts = AtColon fs fields h name ts

-- the state is that after these tokens
abbrev pub Holds : TypeState → List Token → Type 0
Holds s ts = Holds_at s.expected s.frames ts

-- if there is a state, it is that after these tokens
abbrev pub Fine : Option TypeState → List Token → Type 0
Fine None ts = Unit {0}
Fine (Some s) ts = Holds s ts

-- where tokens may be grouped otherwise
pub two_on : (ts us vs : List Token) (t : Token) → (ts ++ (us ++ (t ∷ []))) ++ vs ≡ ts ++ (us ++ (t ∷ vs))
two_on ts us vs t = append_assoc ts (us ++ (t ∷ [])) vs ∙ ap (λ l. ts ++ l) (append_assoc us (t ∷ []) vs)

-- the rows

pub name_spelled : (t : Token) (n : TypeName) → type_terminal_of t ≡ terminal.Word n → SpelledMember (t ∷ []) (named n)
name_spelled t n i = record { depths = beside 0 (0 ∷ []); words = true ∷ []; spells = SpellsMember.name_ t n i }

pub list_spelled : (t less greater : Token) (us : List Token) (x : TypeOperand) →
    type_terminal_of t ≡ terminal.Word name.List →
    type_terminal_of less ≡ terminal.Less → type_terminal_of greater ≡ terminal.Greater → SpelledType us x →
    SpelledMember (t ∷ (less ∷ (us ++ (greater ∷ [])))) (listed x)
list_spelled t less greater us x i l g s = record {
  depths = beside 0 (0 ∷ (0 ∷ (s.depths ++ (x.height ∷ []))));
  words = true ∷ (false ∷ (s.words ++ (false ∷ [])));
  spells = SpellsMember.list_ t less greater us s.depths s.words x i l g s.spells;
}

pub map_spelled : (t less key comma greater : Token) (us : List Token) (x : TypeOperand) →
    type_terminal_of t ≡ terminal.Word name.Map →
    type_terminal_of less ≡ terminal.Less → type_terminal_of key ≡ terminal.Word name.Str →
    type_terminal_of comma ≡ terminal.Comma →
    type_terminal_of greater ≡ terminal.Greater → SpelledType us x →
    SpelledMember (t ∷ (less ∷ (key ∷ (comma ∷ (us ++ (greater ∷ [])))))) (mapped x)
map_spelled t less key comma greater us x i l k c g s = record {
  depths = beside 0 (0 ∷ (0 ∷ (0 ∷ (0 ∷ (s.depths ++ (x.height ∷ []))))));
  words = true ∷ (false ∷ (false ∷ (false ∷ (s.words ++ (false ∷ [])))));
  spells = SpellsMember.map_ t less key comma greater us s.depths s.words x i l k c g s.spells;
}

pub record_spelled : (opening close : Token) (us : List Token) (fields : List Field) (h : ℕ) →
    type_terminal_of opening ≡ terminal.OpenBracket →
    type_terminal_of close ≡ terminal.CloseBracket → SpelledFields us fields h → SpelledMember
    (opening ∷ (us ++ (close ∷ []))) (recorded fields h)
record_spelled opening close us fields h o c s = record {
  depths = beside 0 (0 ∷ []) ++ (s.depths ++ beside h (0 ∷ []));
  words = false ∷ (s.words ++ (false ∷ []));
  spells = SpellsMember.record_ opening close us s.depths s.words fields h o c s.spells;
}

pub alone_spelled : (us : List Token) (x : TypeOperand) → SpelledMember us x → SpelledType us x
alone_spelled us x s =
    record { depths = s.depths; words = s.words; spells = SpellsType.alone_ us s.depths s.words x s.spells }

pub union_spelled : (bar : Token) (us vs : List Token) (members : List SoyType) (h : ℕ) (x : TypeOperand) →
    type_terminal_of bar ≡ terminal.Bar →
    SpelledMembers us members h → SpelledMember vs x → SpelledType (us ++ (bar ∷ vs)) (united members h x)
union_spelled bar us vs members h x b s r = record {
  depths = s.depths ++ beside h (0 ∷ r.depths);
  words = s.words ++ (false ∷ r.words);
  spells = SpellsType.union_ bar us vs s.depths r.depths s.words r.words members h x b s.spells r.spells;
}

first_spelled : (us : List Token) (x : TypeOperand) → SpelledMember us x → SpelledMembers us (x.of ∷ []) x.height
first_spelled us x s =
    record { depths = s.depths; words = s.words; spells = SpellsMembers.first_ us s.depths s.words x s.spells }

next_spelled : (bar : Token) (us vs : List Token) (members : List SoyType) (h : ℕ) (x : TypeOperand) →
    type_terminal_of bar ≡ terminal.Bar →
    SpelledMembers us members h → SpelledMember vs x → SpelledMembers (us ++ (bar ∷ vs)) (members ++ (x.of ∷ []))
    (max h x.height)
next_spelled bar us vs members h x b s r = record {
  depths = s.depths ++ beside h (0 ∷ r.depths);
  words = s.words ++ (false ∷ r.words);
  spells = SpellsMembers.next_ bar us vs s.depths r.depths s.words r.words members h x b s.spells r.spells;
}

-- a record with one more field, up to that one's type
pub record WithField (us : List Token) (key colon : Token) (vs : List Token) (fields : List Field)
    (h : ℕ) : Type 0 where
  pub opening : Token
  pub inside : List Token
  pub whole : us ++ (key ∷ (colon ∷ vs)) ≡ opening ∷ inside
  pub is_opening : type_terminal_of opening ≡ terminal.OpenBracket
  pub spelled : SpelledFields inside fields h

pub with_field : (fields : List Field) (h : ℕ) (us : List Token) → Leads fields h us → (key colon : Token)
    (n : TypeName) (vs : List Token) (x : TypeOperand) →
    type_terminal_of key ≡ terminal.Word n → type_terminal_of colon ≡ terminal.Colon → SpelledType vs x →
    WithField us key colon vs (fields ++ (field key.text x.of ∷ [])) (max h x.height)
with_field _ _ _ (Leads.none opening o) key colon n vs x k c s = record {
  opening = opening;
  inside = key ∷ (colon ∷ vs);
  whole = refl;
  is_opening = o;
  spelled = rw (max_none x.height) (record {
    depths = beside 0 (0 ∷ (0 ∷ s.depths));
    words = false ∷ (false ∷ s.words);
    spells = SpellsFields.one_ key colon n vs s.depths s.words x k c s.spells;
  });
}
with_field _ _ _ (Leads.some opening comma ts fields h o l m) key colon n vs x k c s = record {
  opening = opening;
  inside = ts ++ (comma ∷ (key ∷ (colon ∷ vs)));
  whole = ap (λ l. opening ∷ l) (append_assoc ts (comma ∷ []) (key ∷ (colon ∷ vs)));
  is_opening = o;
  spelled = record {
    depths = l.depths ++ beside h (0 ∷ (0 ∷ (0 ∷ s.depths)));
    words = l.words ++ (false ∷ (false ∷ (false ∷ s.words)));
    spells =
        SpellsFields.more_ comma key colon n ts vs l.depths s.depths l.words s.words fields h x m k c l.spells s.spells;
  };
}

-- a union that is open takes its last member
pub record Settles (r : TypeNested) (ts : List Token) : Type 0 where
  pub prefix : List Token
  pub suffix : List Token
  pub whole : ts ≡ prefix ++ suffix
  pub opened : Opened r.frames prefix
  pub spelled : SpelledType suffix r.operand

pub settles : (fs : List TypeFrame) (prefix : List Token) → Opened fs prefix → (x : TypeOperand) (us : List Token) →
    SpelledMember us x → Settles (settled fs x) (prefix ++ us)
settles _ _ Opened.none x us s =
    record { prefix = []; suffix = us; whole = refl; opened = Opened.none; spelled = alone_spelled us x s }
settles _ _ (Opened.list fs ts t l o i j) x us s =
    record {
      prefix = ts ++
          (t ∷ (l ∷ []));
      suffix = us;
      whole = refl;
      opened = Opened.list fs ts t l o i j;
      spelled =
          alone_spelled us x s;
    }
settles _ _ (Opened.map_ fs ts t l k c o i j m n) x us s =
    record {
      prefix = ts ++
          (t ∷ (l ∷ (k ∷ (c ∷ []))));
      suffix = us;
      whole = refl;
      opened = Opened.map_ fs ts t l k c o i j m n;
      spelled =
          alone_spelled us x s;
    }
settles _ _ (Opened.field_ fs ts vs fields h k c n o l i j) x us s =
    record {
      prefix = ts ++
          (vs ++ (k ∷ (c ∷ [])));
      suffix = us;
      whole = refl;
      opened =
          Opened.field_ fs ts vs fields h k c n o l i j;
      spelled = alone_spelled us x s;
    }
settles _ _ (Opened.union_ fs ts vs members h b o u l i) x us s =
    record {
      prefix = ts;
      suffix = vs ++
          (b ∷ us);
      whole = two_on ts vs us b;
      opened = o;
      spelled = union_spelled b vs us members h x i l s;
    }

-- a step keeps what was read

bar_opens : (fs : List TypeFrame) (prefix : List Token) → Opened fs prefix → (x : TypeOperand) (us : List Token)
    (t : Token) → SpelledMember us x →
    type_terminal_of t ≡ terminal.Bar → Opened (with_member fs x) (prefix ++ (us ++ (t ∷ [])))
bar_opens _ _ Opened.none x us t s i = Opened.union_ [] [] us (x.of ∷ []) x.height t Opened.none tt
    (first_spelled us x s) i
bar_opens _ _ (Opened.list fs ts t l o i j) x us b s e =
    Opened.union_ (frame.Bracket bracket.List ∷ fs) (ts ++ (t ∷ (l ∷ []))) us (x.of ∷ []) x.height b
    (Opened.list fs ts t l o i j) tt (first_spelled us x s) e
bar_opens _ _ (Opened.map_ fs ts t l k c o i j m n) x us b s e =
    Opened.union_ (frame.Bracket bracket.Map ∷ fs) (ts ++ (t ∷ (l ∷ (k ∷ (c ∷ []))))) us (x.of ∷ []) x.height b
    (Opened.map_ fs ts t l k c o i j m n) tt (first_spelled us x s) e
bar_opens _ _ (Opened.field_ fs ts vs fields h k c n o l i j) x us b s e =
    Opened.union_ (frame.Bracket (bracket.Field fields h k.text) ∷ fs) (ts ++ (vs ++ (k ∷ (c ∷ [])))) us
    (x.of ∷ []) x.height b (Opened.field_ fs ts vs fields h k c n o l i j) tt (first_spelled us x s) e
bar_opens _ _ (Opened.union_ fs ts vs members h b o u l i) x us t s e =
    rw (
      append_assoc ts (vs ++ (b ∷ [])) (us ++ (t ∷ [])),
      append_assoc vs (b ∷ []) (us ++ (t ∷ [])),
      ← append_assoc vs (b ∷ us) (t ∷ []),
    )
    (Opened.union_ fs ts (vs ++ (b ∷ us)) (members ++ (x.of ∷ [])) (max h x.height) t o u
    (next_spelled b vs us members h x i l s) e)

greater_fine : (t : Token) → type_terminal_of t ≡ terminal.Greater → (fs : List TypeFrame) (prefix : List Token) →
    Opened fs prefix → (x : TypeOperand) (us : List Token) → SpelledType us x →
    Fine (greater_next fs x) ((prefix ++ us) ++ (t ∷ []))
greater_fine g e _ _ Opened.none x us s = tt
greater_fine g e _ _ (Opened.list fs ts t l o i j) x us s =
    record {
      prefix = ts;
      suffix = t ∷ (l ∷ (us ++ (g ∷ [])));
      whole = rw (append_assoc ts (t ∷ (l ∷ [])) us)
          (append_assoc ts (t ∷ (l ∷ us)) (g ∷ []));
      opened = o;
      spelled = list_spelled t l g us x i j e s;
    }
greater_fine g e _ _ (Opened.map_ fs ts t l k c o i j m n) x us s =
    record {
      prefix = ts;
      suffix = t ∷ (l ∷ (k ∷ (c ∷ (us ++ (g ∷ [])))));
      whole = rw
          (append_assoc ts (t ∷ (l ∷ (k ∷ (c ∷ [])))) us) (append_assoc ts (t ∷ (l ∷ (k ∷ (c ∷ us))))
          (g ∷ []));
      opened = o;
      spelled = map_spelled t l k c g us x i j m n e s;
    }
greater_fine g e _ _ (Opened.field_ fs ts vs fields h k c n o l i j) x us s = tt
greater_fine g e _ _ (Opened.union_ fs ts vs members h b o u l i) x us s = tt

-- where the tokens of a further field stand
pub field_whole : (ts vs us : List Token) (k c t : Token) → ((ts ++ (vs ++ (k ∷ (c ∷ [])))) ++ us) ++
    (t ∷ []) ≡ ts ++ ((vs ++ (k ∷ (c ∷ us))) ++ (t ∷ []))
field_whole ts vs us k c t =
    ap (λ l. l ++ (t ∷ [])) (append_assoc ts (vs ++ (k ∷ (c ∷ []))) us ∙ ap (λ l. ts ++ l)
    (append_assoc vs (k ∷ (c ∷ [])) us))
    ∙ append_assoc ts (vs ++ (k ∷ (c ∷ us))) (t ∷ [])

comma_fine : (t : Token) → type_terminal_of t ≡ terminal.Comma → (fs : List TypeFrame) (prefix : List Token) →
    Opened fs prefix → (x : TypeOperand) (us : List Token) → SpelledType us x →
    Fine (comma_next fs x) ((prefix ++ us) ++ (t ∷ []))
comma_fine m e _ _ Opened.none x us s = tt
comma_fine m e _ _ (Opened.list fs ts t l o i j) x us s = tt
comma_fine m e _ _ (Opened.map_ fs ts t l k c o i j p n) x us s = tt
comma_fine m e _ _ (Opened.field_ fs ts vs fields h k c n o l i j) x us s =
    let w = with_field fields h vs l k c n us x i j s in
    record {
      prefix = ts;
      suffix = w.opening ∷ (w.inside ++ (m ∷ []));
      whole = field_whole ts vs us k c m ∙ ap (λ l. ts ++ (l ++ (m ∷ []))) w.whole;
      opened = o;
      leads = Leads.some w.opening m w.inside (fields ++ (field k.text x.of ∷ []))
          (max h x.height) w.is_opening w.spelled e;
    }
comma_fine m e _ _ (Opened.union_ fs ts vs members h b o u l i) x us s = tt

close_fine : (t : Token) → type_terminal_of t ≡ terminal.CloseBracket → (fs : List TypeFrame) (prefix : List Token) →
    Opened fs prefix → (x : TypeOperand) (us : List Token) → SpelledType us x →
    Fine (close_next fs x) ((prefix ++ us) ++ (t ∷ []))
close_fine b e _ _ Opened.none x us s = tt
close_fine b e _ _ (Opened.list fs ts t l o i j) x us s = tt
close_fine b e _ _ (Opened.map_ fs ts t l k c o i j p n) x us s = tt
close_fine b e _ _ (Opened.field_ fs ts vs fields h k c n o l i j) x us s =
    let w = with_field fields h vs l k c n us x i j s in
    record {
      prefix = ts;
      suffix = w.opening ∷ (w.inside ++ (b ∷ []));
      whole = field_whole ts vs us k c b ∙ ap (λ l. ts ++ (l ++ (b ∷ []))) w.whole;
      opened = o;
      spelled = record_spelled w.opening b w.inside (fields ++ (field k.text x.of ∷ []))
          (max h x.height) w.is_opening e w.spelled;
    }
close_fine b e _ _ (Opened.union_ fs ts vs members h t o u l i) x us s = tt

-- after a type
delimiter_fine : (fs : List TypeFrame) (x : TypeOperand) (ts : List Token) (t : Token) (m : TypeTerminal) →
    type_terminal_of t ≡ m → Stands fs x ts →
    Fine (delimiter_next fs x m) (ts ++ (t ∷ []))
delimiter_fine fs x ts t terminal.Bar i s = rw (s.whole, append_assoc s.prefix s.suffix (t ∷ []))
    (bar_opens fs s.prefix s.opened x s.suffix t s.spelled i)
delimiter_fine fs x ts t terminal.Greater i s =
    let r = settles fs s.prefix s.opened x s.suffix s.spelled in
    rw (s.whole, r.whole) (greater_fine t i (settled fs x).frames r.prefix r.opened
    (settled fs x).operand r.suffix r.spelled)
delimiter_fine fs x ts t terminal.Comma i s =
    let r = settles fs s.prefix s.opened x s.suffix s.spelled in
    rw (s.whole, r.whole) (comma_fine t i (settled fs x).frames r.prefix r.opened
    (settled fs x).operand r.suffix r.spelled)
delimiter_fine fs x ts t terminal.CloseBracket i s =
    let r = settles fs s.prefix s.opened x s.suffix s.spelled in
    rw (s.whole, r.whole) (close_fine t i (settled fs x).frames r.prefix r.opened
    (settled fs x).operand r.suffix r.spelled)
delimiter_fine fs x ts t _ i s = tt

-- a name is a type
pub named_stands : (fs : List TypeFrame) (n : TypeName) (offset : ℕ) (ts : List Token) → Named fs n offset ts →
    Stands fs (named n) ts
named_stands fs n offset ts s = record {
  prefix = s.prefix;
  suffix = s.token ∷
      [];
  whole = s.whole;
  opened = s.opened;
  spelled = name_spelled s.token n s.is_name;
}

less_fine : (fs : List TypeFrame) (n : TypeName) (offset : ℕ) (ts : List Token) (t : Token) →
    type_terminal_of t ≡ terminal.Less → Named fs n offset ts →
    Fine (less_next fs n) (ts ++ (t ∷ []))
less_fine fs name.List offset ts t i s =
    rw (s.whole, append_assoc s.prefix (s.token ∷ []) (t ∷ [])) (Opened.list fs s.prefix s.token t s.opened s.is_name i)
less_fine fs name.Map offset ts t i s =
    record {
      prefix = s.prefix;
      token = s.token;
      less = t;
      whole = rw s.whole
          (append_assoc s.prefix (s.token ∷ []) (t ∷ []));
      opened = s.opened;
      is_map = s.is_name;
      is_less = i;
    }
less_fine fs _ offset ts t i s = tt

after_name_fine : (fs : List TypeFrame) (n : TypeName) (offset : ℕ) (ts : List Token) (t : Token) (m : TypeTerminal) →
    type_terminal_of t ≡ m → Named fs n offset ts →
    Fine (after_name_next fs n m) (ts ++ (t ∷ []))
after_name_fine fs n offset ts t terminal.Less i s = less_fine fs n offset ts t i s
after_name_fine fs n offset ts t (terminal.Word w) i s = delimiter_fine fs (named n) ts t (terminal.Word w) i
    (named_stands fs n offset ts s)
after_name_fine fs n offset ts t terminal.Greater i s = delimiter_fine fs (named n) ts t terminal.Greater i
    (named_stands fs n offset ts s)
after_name_fine fs n offset ts t terminal.Comma i s = delimiter_fine fs (named n) ts t terminal.Comma i
    (named_stands fs n offset ts s)
after_name_fine fs n offset ts t terminal.Colon i s = delimiter_fine fs (named n) ts t terminal.Colon i
    (named_stands fs n offset ts s)
after_name_fine fs n offset ts t terminal.Bar i s = delimiter_fine fs (named n) ts t terminal.Bar i
    (named_stands fs n offset ts s)
after_name_fine fs n offset ts t terminal.OpenBracket i s = delimiter_fine fs (named n) ts t terminal.OpenBracket i
    (named_stands fs n offset ts s)
after_name_fine fs n offset ts t terminal.CloseBracket i s = delimiter_fine fs (named n) ts t terminal.CloseBracket i
    (named_stands fs n offset ts s)
after_name_fine fs n offset ts t terminal.Other i s = delimiter_fine fs (named n) ts t terminal.Other i
    (named_stands fs n offset ts s)

type_fine : (fs : List TypeFrame) (ts : List Token) (t : Token) (m : TypeTerminal) → type_terminal_of t ≡ m →
    Opened fs ts → Fine (type_expected_next fs t m) (ts ++ (t ∷ []))
type_fine fs ts t (terminal.Word n) i o =
    record { prefix = ts; token = t; whole = refl; opened = o; is_name = i; offset_is = refl }
type_fine fs ts t terminal.OpenBracket i o = record {
  prefix = ts;
  suffix = t ∷
      [];
  whole = refl;
  opened = o;
  leads = Leads.none t i;
}
type_fine fs ts t _ i o = tt

key_fine : (fs : List TypeFrame) (ts : List Token) (t : Token) (m : TypeTerminal) → type_terminal_of t ≡ m →
    AtKey fs ts → Fine (key_next fs m) (ts ++ (t ∷ []))
key_fine fs ts t (terminal.Word name.Str) i s = record { before = ts; key = t; whole = refl; at_key = s; is_key = i }
key_fine fs ts t _ i s = tt

key_comma_fine : (fs : List TypeFrame) (ts : List Token) (t : Token) (m : TypeTerminal) → type_terminal_of t ≡ m →
    AtComma fs ts → Fine (key_comma_next fs m) (ts ++ (t ∷ []))
key_comma_fine fs ts t terminal.Comma i s =
    let k = s.at_key in
    rw (
      s.whole,
      k.whole,
      append_assoc k.prefix (k.token ∷ (k.less ∷ [])) (s.key ∷ []),
      append_assoc k.prefix
          (k.token ∷ (k.less ∷ (s.key ∷ []))) (t ∷ []),
    )
    (Opened.map_ fs k.prefix k.token k.less s.key t k.opened k.is_map k.is_less s.is_key i)
key_comma_fine fs ts t _ i s = tt

field_name_fine : (fs : List TypeFrame) (fields : List Field) (h : ℕ) (ts : List Token) (t : Token)
    (m : TypeTerminal) → type_terminal_of t ≡ m → AtField fs fields h ts →
    Fine (field_name_next fs fields h t m) (ts ++ (t ∷ []))
field_name_fine fs fields h ts t (terminal.Word n) i s = record
    { before = ts; key = t; word = n; whole = refl; at_field = s; is_word = i; name_is = refl }
field_name_fine fs fields h ts t _ i s = tt

field_opens : (fs : List TypeFrame) (fields : List Field) (h : ℕ) (name : List ℕ) (ts : List Token) (t : Token) →
    type_terminal_of t ≡ terminal.Colon → AtColon fs fields h name ts →
    Opened (frame.Bracket (bracket.Field fields h name) ∷ fs) (ts ++ (t ∷ []))
field_opens fs fields h name ts t i s =
    let f = s.at_field in
    rw (
      ← s.name_is,
      s.whole,
      f.whole,
      append_assoc f.prefix f.suffix (s.key ∷ []),
      append_assoc f.prefix
          (f.suffix ++ (s.key ∷ [])) (t ∷ []),
      append_assoc f.suffix (s.key ∷ []) (t ∷ []),
    )
    (Opened.field_ fs f.prefix f.suffix fields h s.key t s.word f.opened f.leads s.is_word i)

field_colon_fine : (fs : List TypeFrame) (fields : List Field) (h : ℕ) (name : List ℕ) (ts : List Token) (t : Token)
    (m : TypeTerminal) → type_terminal_of t ≡ m → AtColon fs fields h name ts →
    Fine (field_colon_next fs fields h name m) (ts ++ (t ∷ []))
field_colon_fine fs fields h name ts t terminal.Colon i s = field_opens fs fields h name ts t i s
field_colon_fine fs fields h name ts t _ i s = tt

next_fine : (p : ExpectedInType) (fs : List TypeFrame) (ts : List Token) (t : Token) → Holds_at p fs ts → Fine
    (type_next (type_at fs p) t) (ts ++ (t ∷ []))
next_fine expected.Type fs ts t h = type_fine fs ts t (type_terminal_of t) refl h
next_fine (expected.AfterName n offset) fs ts t h = after_name_fine fs n offset ts t (type_terminal_of t) refl h
next_fine (expected.Delimiter x) fs ts t h = delimiter_fine fs x ts t (type_terminal_of t) refl h
next_fine expected.Key fs ts t h = key_fine fs ts t (type_terminal_of t) refl h
next_fine expected.KeyComma fs ts t h = key_comma_fine fs ts t (type_terminal_of t) refl h
next_fine (expected.FieldName fields n) fs ts t h = field_name_fine fs fields n ts t (type_terminal_of t) refl h
next_fine (expected.FieldColon fields n name) fs ts t h = field_colon_fine fs fields n name ts t
    (type_terminal_of t) refl h

-- what was read is kept to the end
pub run_holds : (ts us : List Token) (s s' : TypeState) → Holds s us → type_run ts s ≡ Some s' → Holds s' (us ++ ts)
run_holds [] us s s' h e = rw append-nil (moved (Some s) e h)
  where
    moved : (o : Option TypeState) → o ≡ Some s' → Fine o us → Holds s' us
    moved o e f = (rw e at f)
run_holds (t ∷ ts) us s s' h e = rw (← append_assoc us (t ∷ []) ts)
    (over (type_next s t) e (next_fine s.expected s.frames us t h) (λ m. run_holds ts (us ++ (t ∷ [])) m s'))
  where
    over : (to : Option TypeState) → type_run_from (type_run ts) to ≡ Some s' → Fine to (us ++ (t ∷ [])) →
        ((m : TypeState) → Holds m (us ++ (t ∷ [])) → type_run ts m ≡ Some s' → Holds s' ((us ++ (t ∷ [])) ++ ts)) →
        Holds s' ((us ++ (t ∷ [])) ++ ts)
    over None e f inside = absurd (cc e)
    over (Some m) e f inside = inside m f e
