-- What the grammar of types has is read, with its depths and its words.
use Rattle.std.proofs.Common.{◌≡◌, ℕ, Bool, true, false, List, [], ◌∷◌, ◌++◌, Some, refl}
use Rattle.std.proofs.Common.{◌∙◌, ap, subst, arith}
use Rattle.std.specs.Prelude.{max}
use Rattle.soy_lexer.specs.declared.token.Token.{Token}
use Rattle.soy_tree.specs.declared.soy_type.Field.{Field}
use Rattle.soy_tree.specs.declared.soy_type.SoyType.{SoyType}
use Rattle.expr_parser.specs.declared.type_frame.TypeBracket.{TypeBracket}
use Rattle.expr_parser.specs.declared.type_frame.TypeBracket.TheVariants as bracket
use Rattle.expr_parser.specs.declared.type_frame.TypeFrame.{TypeFrame}
use Rattle.expr_parser.specs.declared.type_frame.TypeFrame.TheVariants as frame
use Rattle.expr_parser.specs.declared.type_frame.TypeNested.{TypeNested}
use Rattle.expr_parser.specs.declared.type_frame.TypeOperand.{TypeOperand}
use Rattle.expr_parser.specs.declared.type_state.ExpectedInType.{ExpectedInType}
use Rattle.expr_parser.specs.declared.type_state.ExpectedInType.TheVariants as expected
use Rattle.expr_parser.specs.declared.type_state.TypeState.{TypeState}
use Rattle.expr_parser.specs.declared.type_terminal.TypeName.{TypeName}
use Rattle.expr_parser.specs.declared.type_terminal.TypeName.TheVariants as name
use Rattle.expr_parser.specs.declared.type_terminal.TypeTerminal.{TypeTerminal}
use Rattle.expr_parser.specs.declared.type_terminal.TypeTerminal.TheVariants as terminal
use Rattle.expr_parser.specs.Depths.{deeper, beside}
use Rattle.expr_parser.specs.SpellsType.{SpellsMember, SpellsFields, SpellsMembers, SpellsType}
use Rattle.expr_parser.specs.TypeOperands.{named, listed, mapped, recorded, united, field}
use Rattle.expr_parser.specs.TypeSteps.{type_at, nested_type, has_type, settled, with_member}
use Rattle.expr_parser.specs.TypeSteps.{union_of_one, greater_next, comma_next, close_next, delimiter_next}
use Rattle.expr_parser.specs.TypeSteps.{type_expected_next, after_name_next, key_next, key_comma_next}
use Rattle.expr_parser.specs.TypeSteps.{field_name_next, field_colon_next, type_next_at, type_next}
use Rattle.expr_parser.specs.TypeSteps.{whole_type_at, settled_type, type_branch, type_raised}
use Rattle.expr_parser.specs.TypeTerminals.{type_terminal_of, is_less}
use Rattle.expr_parser.proofs.ExprRunning.{map_append}
use Rattle.expr_parser.proofs.TypeRunning.{Goes, step_goes, then_goes, inside_goes}

-- a type has been read last
pub data Ends : ExpectedInType → TypeOperand → Type 0 where
  by_name : (n : TypeName) (offset : ℕ) → Ends (expected.AfterName n offset) (named n)
  by_delimiter : (x : TypeOperand) → Ends (expected.Delimiter x) x

after_name-delimiter : (fs : List TypeFrame) (n : TypeName) (m : TypeTerminal) → is_less m ≡ false →
    after_name_next fs n m ≡ delimiter_next fs (named n) m
after_name-delimiter fs n terminal.Less h = absurd (cc h)
after_name-delimiter fs n _ h = refl

-- what follows it is a delimiter, unless it is a `<`
pub ends_next : (p : ExpectedInType) (x : TypeOperand) → Ends p x → (fs : List TypeFrame) (t : Token)
    (m : TypeTerminal) →
    is_less m ≡ false → type_next_at p fs t m ≡ delimiter_next fs x m
ends_next _ _ (Ends.by_name n offset) fs t m h = after_name-delimiter fs n m h
ends_next _ _ (Ends.by_delimiter x) fs t m h = refl

pub ends_whole : (p : ExpectedInType) (x : TypeOperand) → Ends p x → (fs : List TypeFrame) →
    whole_type_at p fs ≡ settled_type (settled fs x)
ends_whole _ _ (Ends.by_name n offset) fs = refl
ends_whole _ _ (Ends.by_delimiter x) fs = refl

-- a delimiter after a type
delimits : (p : ExpectedInType) (x : TypeOperand) → Ends p x → (fs : List TypeFrame) (t : Token) (m : TypeTerminal) →
    is_less m ≡ false →
    type_terminal_of t ≡ m → type_next (type_at fs p) t ≡ delimiter_next fs x m
delimits p x e fs t m h is = ap (type_next_at p fs t) is ∙ ends_next p x e fs t m h

-- no union is open inside the innermost frame
abbrev pub NoUnion : List TypeFrame → Type 0
NoUnion [] = Unit {0}
NoUnion (frame.Union members h ∷ fs) = ⊥
NoUnion (frame.Bracket b ∷ fs) = Unit {0}

settled-none : (fs : List TypeFrame) (x : TypeOperand) → NoUnion fs → settled fs x ≡ nested_type fs x
settled-none [] x h = refl
settled-none (frame.Union members n ∷ fs) x h = absurd h
settled-none (frame.Bracket b ∷ fs) x h = refl

with_member-none : (fs : List TypeFrame) (x : TypeOperand) → NoUnion fs → with_member fs x ≡ union_of_one x ∷ fs
with_member-none [] x h = refl
with_member-none (frame.Union members n ∷ fs) x h = absurd h
with_member-none (frame.Bracket b ∷ fs) x h = refl

abbrev pub start_at : List TypeFrame → TypeState
start_at fs = type_at fs expected.Type

abbrev pub fields_at : List TypeFrame → List Field → ℕ → TypeState
fields_at fs fields h = type_at fs (expected.FieldName fields h)

-- a type that is no union is read inside any frames
pub record ReadsMember (ts : List Token) (ds : List ℕ) (ws : List Bool) (x : TypeOperand)
    (fs : List TypeFrame) : Type 0 where
  pub expected : ExpectedInType
  pub ends : Ends expected x
  pub goes : Goes fs (start_at fs) ts ds ws (type_at fs expected)

-- members are, to where a further one would join them
pub record ReadsMembers (ts : List Token) (ds : List ℕ) (ws : List Bool) (members : List SoyType) (h : ℕ)
    (fs : List TypeFrame) : Type 0 where
  pub frames : List TypeFrame
  pub expected : ExpectedInType
  pub operand : TypeOperand
  pub ends : Ends expected operand
  pub goes : Goes fs (start_at fs) ts ds ws (type_at frames expected)
  pub same : with_member frames operand ≡ frame.Union members h ∷ fs

-- a type is, to where it stands once a union that is open has taken its last member
pub record ReadsType (ts : List Token) (ds : List ℕ) (ws : List Bool) (x : TypeOperand)
    (fs : List TypeFrame) : Type 0 where
  pub frames : List TypeFrame
  pub expected : ExpectedInType
  pub operand : TypeOperand
  pub ends : Ends expected operand
  pub goes : Goes fs (start_at fs) ts ds ws (type_at frames expected)
  pub same : settled frames operand ≡ nested_type fs x

-- fields are, to where the last one's type stands then
pub record ReadsFields (ts : List Token) (ds : List ℕ) (ws : List Bool) (fields : List Field) (h : ℕ)
    (fs : List TypeFrame) : Type 0 where
  pub frames : List TypeFrame
  pub expected : ExpectedInType
  pub operand : TypeOperand
  pub ends : Ends expected operand
  pub goes : Goes fs (fields_at fs [] 0) ts ds ws (type_at frames expected)
  pub before : List Field
  pub before_height : ℕ
  pub name : List ℕ
  pub last : TypeOperand
  pub same : settled frames operand ≡ nested_type (frame.Bracket (bracket.Field before before_height name) ∷ fs) last
  pub fields_are : before ++ (field name last.of ∷ []) ≡ fields
  pub height_is : max before_height last.height ≡ h

-- the rows

name_reads : (t : Token) (n : TypeName) → type_terminal_of t ≡ terminal.Word n → (fs : List TypeFrame) →
    ReadsMember (t ∷ []) (beside 0 (0 ∷ [])) (true ∷ []) (named n) fs
name_reads t n is fs = record {
  expected = expected.AfterName n t.span.start;
  ends = Ends.by_name n t.span.start;
  goes = step_goes fs (start_at fs) t (deeper 0 0) true (type_at fs (expected.AfterName n t.span.start))
      (ap (type_expected_next fs t) is) refl refl;
}

-- an item type, and the `>` after it
module _ (b : TypeBracket) (made : TypeOperand → TypeOperand) (fs : List TypeFrame)
    (flat : type_branch (frame.Bracket b) ≡ 0)
    (closing : (y : TypeOperand) → greater_next (frame.Bracket b ∷ fs) y ≡ has_type fs (made y))
    (high : (y : TypeOperand) → (made y).height ≡ deeper 0 y.height) where
  item_goes : (ts : List Token) (ds : List ℕ) (ws : List Bool) (x : TypeOperand) (greater : Token) →
      type_terminal_of greater ≡ terminal.Greater → ReadsType ts ds ws x (frame.Bracket b ∷ fs) →
      Goes fs (start_at (frame.Bracket b ∷ fs)) (ts ++ (greater ∷ [])) (beside 0 (ds ++ (x.height ∷ [])))
      (ws ++ (false ∷ []))
      (type_at fs (expected.Delimiter (made x)))
  item_goes ts ds ws x greater g r =
      let inside = inside_goes (frame.Bracket b) fs r.goes in
      let here : type_next (type_at r.frames r.expected) greater ≡ has_type fs (made x) =
      delimits r.expected r.operand r.ends r.frames greater terminal.Greater refl g
      ∙ (ap (λ (i : TypeNested). greater_next i.frames i.operand) r.same ∙ closing x) in
      rw (map_append (deeper 0) ds (x.height ∷ []))
      (then_goes (subst (λ n. Goes fs (start_at (frame.Bracket b ∷ fs)) ts (beside n ds) ws
      (type_at r.frames r.expected)) flat inside)
      (step_goes fs (type_at r.frames r.expected) greater (deeper 0 x.height) false
      (type_at fs (expected.Delimiter (made x))) here
      (ap (type_raised fs) (high x)) refl))

list_reads : (t less greater : Token) (ts : List Token) (ds : List ℕ) (ws : List Bool) (x : TypeOperand) →
    type_terminal_of t ≡ terminal.Word name.List → type_terminal_of less ≡ terminal.Less →
    type_terminal_of greater ≡ terminal.Greater →
    (fs : List TypeFrame) → ReadsType ts ds ws x (frame.Bracket bracket.List ∷ fs) →
    ReadsMember (t ∷ (less ∷ (ts ++ (greater ∷ [])))) (beside 0 (0 ∷ (0 ∷ (ds ++ (x.height ∷ [])))))
    (true ∷ (false ∷ (ws ++ (false ∷ [])))) (listed x) fs
list_reads t less greater ts ds ws x i l g fs r = record {
  expected = expected.Delimiter (listed x);
  ends = Ends.by_delimiter (listed x);
  goes = then_goes
      (step_goes fs (start_at fs) t (deeper 0 0) true (type_at fs (expected.AfterName name.List t.span.start))
      (ap (type_expected_next fs t) i) refl refl)
      (then_goes
      (step_goes fs (type_at fs (expected.AfterName name.List t.span.start)) less (deeper 0 0) false
      (start_at (frame.Bracket bracket.List ∷ fs))
      (ap (after_name_next fs name.List) l) refl refl)
      (item_goes bracket.List listed fs refl (λ y. refl) (λ y. refl) ts ds ws x greater g r));
}

map_reads : (t less key comma greater : Token) (ts : List Token) (ds : List ℕ) (ws : List Bool) (x : TypeOperand) →
    type_terminal_of t ≡ terminal.Word name.Map → type_terminal_of less ≡ terminal.Less →
    type_terminal_of key ≡ terminal.Word name.Str →
    type_terminal_of comma ≡ terminal.Comma → type_terminal_of greater ≡ terminal.Greater →
    (fs : List TypeFrame) → ReadsType ts ds ws x (frame.Bracket bracket.Map ∷ fs) →
    ReadsMember (t ∷ (less ∷ (key ∷ (comma ∷ (ts ++ (greater ∷ []))))))
    (beside 0 (0 ∷ (0 ∷ (0 ∷ (0 ∷ (ds ++ (x.height ∷ [])))))))
    (true ∷ (false ∷ (false ∷ (false ∷ (ws ++ (false ∷ [])))))) (mapped x) fs
map_reads t less key comma greater ts ds ws x i l k c g fs r = record {
  expected = expected.Delimiter (mapped x);
  ends = Ends.by_delimiter (mapped x);
  goes = then_goes
      (step_goes fs (start_at fs) t (deeper 0 0) true (type_at fs (expected.AfterName name.Map t.span.start))
      (ap (type_expected_next fs t) i) refl refl)
      (then_goes
      (step_goes fs (type_at fs (expected.AfterName name.Map t.span.start)) less (deeper 0 0) false
      (type_at fs expected.Key)
      (ap (after_name_next fs name.Map) l) refl refl)
      (then_goes
      (step_goes fs (type_at fs expected.Key) key (deeper 0 0) false (type_at fs expected.KeyComma)
      (ap (key_next fs) k) refl refl)
      (then_goes
      (step_goes fs (type_at fs expected.KeyComma) comma (deeper 0 0) false
      (start_at (frame.Bracket bracket.Map ∷ fs)) (ap (key_comma_next fs) c) refl refl)
      (item_goes bracket.Map mapped fs refl (λ y. refl) (λ y. refl) ts ds ws x greater g r))));
}

record_reads : (opening close : Token) (ts : List Token) (ds : List ℕ) (ws : List Bool) (fields : List Field) (h : ℕ) →
    type_terminal_of opening ≡ terminal.OpenBracket → type_terminal_of close ≡ terminal.CloseBracket →
    (fs : List TypeFrame) → ReadsFields ts ds ws fields h fs →
    ReadsMember (opening ∷ (ts ++ (close ∷ []))) (beside 0 (0 ∷ []) ++ (ds ++ beside h (0 ∷ [])))
    (false ∷ (ws ++ (false ∷ []))) (recorded fields h) fs
record_reads opening close ts ds ws fields h o c fs r =
    let here : type_next (type_at r.frames r.expected) close ≡ has_type fs (recorded fields h) =
    delimits r.expected r.operand r.ends r.frames close terminal.CloseBracket refl c
    ∙ (ap (λ (i : TypeNested). close_next i.frames i.operand) r.same
    ∙ (ap (λ l. has_type fs (recorded l (max r.before_height r.last.height))) r.fields_are ∙ ap
    (λ n. has_type fs (recorded fields n)) r.height_is)) in
    record {
      expected = expected.Delimiter (recorded fields h);
      ends = Ends.by_delimiter (recorded fields h);
      goes = then_goes
          (step_goes fs (start_at fs) opening (deeper 0 0) false (fields_at fs [] 0)
          (ap (type_expected_next fs opening) o) refl refl)
          (then_goes r.goes
          (step_goes fs (type_at r.frames r.expected) close (deeper h 0) false
          (type_at fs (expected.Delimiter (recorded fields h))) here refl refl));
    }

-- the name of a field, its colon and its type
field_goes : (fs : List TypeFrame) (fields : List Field) (h : ℕ) (key colon : Token) (n : TypeName) (ts : List Token)
    (ds : List ℕ) (ws : List Bool) (s' : TypeState) →
    type_terminal_of key ≡ terminal.Word n → type_terminal_of colon ≡ terminal.Colon →
    Goes (frame.Bracket (bracket.Field fields h key.text) ∷ fs)
    (start_at (frame.Bracket (bracket.Field fields h key.text) ∷ fs)) ts ds ws s' →
    Goes fs (fields_at fs fields h) (key ∷ (colon ∷ ts)) (beside h (0 ∷ (0 ∷ ds))) (false ∷ (false ∷ ws)) s'
field_goes fs fields h key colon n ts ds ws s' k c g =
    then_goes
    (step_goes fs (fields_at fs fields h) key (deeper h 0) false (type_at fs (expected.FieldColon fields h key.text))
    (ap (field_name_next fs fields h key) k) refl refl)
    (then_goes
    (step_goes fs (type_at fs (expected.FieldColon fields h key.text)) colon (deeper h 0) false
    (start_at (frame.Bracket (bracket.Field fields h key.text) ∷ fs))
    (ap (field_colon_next fs fields h key.text) c) refl refl)
    (inside_goes (frame.Bracket (bracket.Field fields h key.text)) fs g))

-- the larger of nothing and a number
pub max_none : (n : ℕ) → max 0 n ≡ n
max_none n = omega arith

one_field_reads : (key colon : Token) (n : TypeName) (ts : List Token) (ds : List ℕ) (ws : List Bool)
    (x : TypeOperand) →
    type_terminal_of key ≡ terminal.Word n → type_terminal_of colon ≡ terminal.Colon →
    (fs : List TypeFrame) → ReadsType ts ds ws x (frame.Bracket (bracket.Field [] 0 key.text) ∷ fs) →
    ReadsFields (key ∷ (colon ∷ ts)) (beside 0 (0 ∷ (0 ∷ ds))) (false ∷ (false ∷ ws))
    (field key.text x.of ∷ []) x.height fs
one_field_reads key colon n ts ds ws x k c fs r = record {
  frames = r.frames;
  expected = r.expected;
  operand = r.operand;
  ends = r.ends;
  goes = field_goes fs [] 0 key colon n ts ds ws (type_at r.frames r.expected) k c r.goes;
  before = [];
  before_height = 0;
  name = key.text;
  last = x;
  same = r.same;
  fields_are = refl;
  height_is = max_none x.height;
}

more_fields_read : (comma key colon : Token) (n : TypeName) (ts us : List Token) (ds es : List ℕ) (ws vs : List Bool)
    (fields : List Field) (h : ℕ) (x : TypeOperand) →
    type_terminal_of comma ≡ terminal.Comma → type_terminal_of key ≡ terminal.Word n →
    type_terminal_of colon ≡ terminal.Colon →
    (fs : List TypeFrame) → ReadsFields ts ds ws fields h fs → ReadsType us es vs x
    (frame.Bracket (bracket.Field fields h key.text) ∷ fs) →
    ReadsFields (ts ++ (comma ∷ (key ∷ (colon ∷ us)))) (ds ++ beside h (0 ∷ (0 ∷ (0 ∷ es))))
    (ws ++ (false ∷ (false ∷ (false ∷ vs))))
    (fields ++ (field key.text x.of ∷ [])) (max h x.height) fs
more_fields_read comma key colon n ts us ds es ws vs fields h x m k c fs l r =
    let here : type_next (type_at l.frames l.expected) comma ≡ Some (fields_at fs fields h) =
    delimits l.expected l.operand l.ends l.frames comma terminal.Comma refl m
    ∙ (ap (λ (i : TypeNested). comma_next i.frames i.operand) l.same
    ∙ (ap (λ fields'. Some (fields_at fs fields' (max l.before_height l.last.height))) l.fields_are ∙ ap
    (λ h'. Some (fields_at fs fields h')) l.height_is)) in
    record {
      frames = r.frames;
      expected = r.expected;
      operand = r.operand;
      ends = r.ends;
      goes = then_goes l.goes
          (then_goes
          (step_goes fs (type_at l.frames l.expected) comma (deeper h 0) false (fields_at fs fields h) here refl refl)
          (field_goes fs fields h key colon n us es vs (type_at r.frames r.expected) k c r.goes));
      before = fields;
      before_height = h;
      name = key.text;
      last = x;
      same = r.same;
      fields_are = refl;
      height_is = refl;
    }

first_reads : (ts : List Token) (ds : List ℕ) (ws : List Bool) (x : TypeOperand) (fs : List TypeFrame) → NoUnion fs →
    ReadsMember ts ds ws x fs → ReadsMembers ts ds ws (x.of ∷ []) x.height fs
first_reads ts ds ws x fs none r = record {
  frames = fs;
  expected = r.expected;
  operand = x;
  ends = r.ends;
  goes = r.goes;
  same = with_member-none fs x none;
}

-- a further member after a `|`
member_goes : (bar : Token) (ts us : List Token) (ds es : List ℕ) (ws vs : List Bool) (members : List SoyType)
    (h : ℕ) (x : TypeOperand) →
    type_terminal_of bar ≡ terminal.Bar → (fs : List TypeFrame) → ReadsMembers ts ds ws members h fs →
    (r : ReadsMember us es vs x (frame.Union members h ∷ fs)) →
    Goes fs (start_at fs) (ts ++ (bar ∷ us)) (ds ++ beside h (0 ∷ es)) (ws ++ (false ∷ vs))
    (type_at (frame.Union members h ∷ fs) r.expected)
member_goes bar ts us ds es ws vs members h x b fs l r =
    let here : type_next (type_at l.frames l.expected) bar ≡ Some (start_at (frame.Union members h ∷ fs)) =
    delimits l.expected l.operand l.ends l.frames bar terminal.Bar refl b ∙ ap (λ gs. Some (start_at gs)) l.same in
    then_goes l.goes
    (then_goes
    (step_goes fs (type_at l.frames l.expected) bar (deeper h 0) false
    (start_at (frame.Union members h ∷ fs)) here refl refl)
    (inside_goes (frame.Union members h) fs r.goes))

next_reads : (bar : Token) (ts us : List Token) (ds es : List ℕ) (ws vs : List Bool) (members : List SoyType) (h : ℕ)
    (x : TypeOperand) →
    type_terminal_of bar ≡ terminal.Bar → (fs : List TypeFrame) → ReadsMembers ts ds ws members h fs →
    ReadsMember us es vs x (frame.Union members h ∷ fs) →
    ReadsMembers (ts ++ (bar ∷ us)) (ds ++ beside h (0 ∷ es)) (ws ++ (false ∷ vs)) (members ++ (x.of ∷ []))
    (max h x.height) fs
next_reads bar ts us ds es ws vs members h x b fs l r = record {
  frames = frame.Union members h ∷ fs;
  expected = r.expected;
  operand = x;
  ends = r.ends;
  goes = member_goes bar ts us ds es ws vs members h x b fs l r;
  same = refl;
}

alone_reads : (ts : List Token) (ds : List ℕ) (ws : List Bool) (x : TypeOperand) (fs : List TypeFrame) → NoUnion fs →
    ReadsMember ts ds ws x fs → ReadsType ts ds ws x fs
alone_reads ts ds ws x fs none r = record {
  frames = fs;
  expected = r.expected;
  operand = x;
  ends = r.ends;
  goes = r.goes;
  same = settled-none fs x none;
}

union_reads : (bar : Token) (ts us : List Token) (ds es : List ℕ) (ws vs : List Bool) (members : List SoyType)
    (h : ℕ) (x : TypeOperand) →
    type_terminal_of bar ≡ terminal.Bar → (fs : List TypeFrame) → ReadsMembers ts ds ws members h fs →
    ReadsMember us es vs x (frame.Union members h ∷ fs) →
    ReadsType (ts ++ (bar ∷ us)) (ds ++ beside h (0 ∷ es)) (ws ++ (false ∷ vs)) (united members h x) fs
union_reads bar ts us ds es ws vs members h x b fs l r = record {
  frames = frame.Union members h ∷ fs;
  expected = r.expected;
  operand = x;
  ends = r.ends;
  goes = member_goes bar ts us ds es ws vs members h x b fs l r;
  same = refl;
}

-- every type is read
mutual
  pub complete_member : (ts : List Token) (ds : List ℕ) (ws : List Bool) (x : TypeOperand) → SpellsMember ts ds ws x →
      (fs : List TypeFrame) → ReadsMember ts ds ws x fs
  complete_member _ _ _ _ (SpellsMember.name_ t n i) fs = name_reads t n i fs
  complete_member _ _ _ _ (SpellsMember.list_ t l g ts ds ws x i j k s) fs =
      list_reads t l g ts ds ws x i j k fs (complete ts ds ws x s (frame.Bracket bracket.List ∷ fs) tt)
  complete_member _ _ _ _ (SpellsMember.map_ t l y m g ts ds ws x i j k c h s) fs =
      map_reads t l y m g ts ds ws x i j k c h fs (complete ts ds ws x s (frame.Bracket bracket.Map ∷ fs) tt)
  complete_member _ _ _ _ (SpellsMember.record_ o c ts ds ws fields h i j s) fs =
      record_reads o c ts ds ws fields h i j fs (complete_fields ts ds ws fields h s fs)

  pub complete_fields : (ts : List Token) (ds : List ℕ) (ws : List Bool) (fields : List Field) (h : ℕ) →
      SpellsFields ts ds ws fields h → (fs : List TypeFrame) → ReadsFields ts ds ws fields h fs
  complete_fields _ _ _ _ _ (SpellsFields.one_ y c n ts ds ws x i j s) fs =
      one_field_reads y c n ts ds ws x i j fs (complete ts ds ws x s
      (frame.Bracket (bracket.Field [] 0 y.text) ∷ fs) tt)
  complete_fields _ _ _ _ _ (SpellsFields.more_ m y c n ts us ds es ws vs fields h x i j k s r) fs =
      more_fields_read m y c n ts us ds es ws vs fields h x i j k fs (complete_fields ts ds ws fields h s fs)
      (complete us es vs x r (frame.Bracket (bracket.Field fields h y.text) ∷ fs) tt)

  pub complete_members : (ts : List Token) (ds : List ℕ) (ws : List Bool) (members : List SoyType) (h : ℕ) →
      SpellsMembers ts ds ws members h → (fs : List TypeFrame) → NoUnion fs → ReadsMembers ts ds ws members h fs
  complete_members _ _ _ _ _ (SpellsMembers.first_ ts ds ws x s) fs none =
      first_reads ts ds ws x fs none (complete_member ts ds ws x s fs)
  complete_members _ _ _ _ _ (SpellsMembers.next_ b ts us ds es ws vs members h x i s r) fs none =
      next_reads b ts us ds es ws vs members h x i fs (complete_members ts ds ws members h s fs none)
      (complete_member us es vs x r (frame.Union members h ∷ fs))

  pub complete : (ts : List Token) (ds : List ℕ) (ws : List Bool) (x : TypeOperand) → SpellsType ts ds ws x →
      (fs : List TypeFrame) → NoUnion fs → ReadsType ts ds ws x fs
  complete _ _ _ _ (SpellsType.alone_ ts ds ws x s) fs none =
      alone_reads ts ds ws x fs none (complete_member ts ds ws x s fs)
  complete _ _ _ _ (SpellsType.union_ b ts us ds es ws vs members h x i s r) fs none =
      union_reads b ts us ds es ws vs members h x i fs (complete_members ts ds ws members h s fs none)
      (complete_member us es vs x r (frame.Union members h ∷ fs))
