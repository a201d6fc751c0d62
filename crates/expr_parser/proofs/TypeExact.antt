-- Tokens are read exactly as far as some type begins with them, and a whole type exactly where they spell one.
use Rattle.std.proofs.Common.{◌≡◌, ℕ, Bool, List, [], ◌∷◌, ◌++◌, Option, Some, None, refl, sym, ◌∙◌, ap}
use Rattle.std.proofs.Common.{append_assoc, append-nil}
use Rattle.std.specs.Prelude.{max, codes, encode_utf8_all}
use Rattle.soy_base.specs.declared.fault.Span.{Span}
use Rattle.soy_lexer.specs.declared.token.Token.{Token}
use Rattle.soy_lexer.specs.declared.token.TokenKind.TheVariants as kind
use Rattle.soy_tree.specs.declared.soy_type.Field.{Field}
use Rattle.expr_parser.specs.declared.type_frame.TypeBracket.TheVariants as bracket
use Rattle.expr_parser.specs.declared.type_frame.TypeFrame.{TypeFrame}
use Rattle.expr_parser.specs.declared.type_frame.TypeFrame.TheVariants as frame
use Rattle.expr_parser.specs.declared.type_frame.TypeOperand.{TypeOperand}
use Rattle.expr_parser.specs.declared.type_state.ExpectedInType.{ExpectedInType}
use Rattle.expr_parser.specs.declared.type_state.ExpectedInType.TheVariants as expected
use Rattle.expr_parser.specs.declared.type_state.TypeState.{TypeState}
use Rattle.expr_parser.specs.declared.type_terminal.TypeName.{TypeName}
use Rattle.expr_parser.specs.declared.type_terminal.TypeName.TheVariants as name
use Rattle.expr_parser.specs.declared.type_terminal.TypeTerminal.TheVariants as terminal
use Rattle.expr_parser.specs.SpellsType.{SpellsType}
use Rattle.expr_parser.specs.TypeOperands.{named, listed, mapped, recorded, united, field}
use Rattle.expr_parser.specs.TypeRuns.{type_run, type_run_from, type_start}
use Rattle.expr_parser.specs.TypeSteps.{type_at, settled, settled_type, alone_type, whole_type, whole_type_at}
use Rattle.expr_parser.specs.TypeTerminals.{type_terminal_of, type_name}
use Rattle.expr_parser.proofs.TypeComplete.{NoUnion, complete, ends_whole}
use Rattle.expr_parser.proofs.TypeRunning.{run_append, Goes}
use Rattle.expr_parser.proofs.TypeSound.{SpelledMember, SpelledType, Opened, Stands, AtKey}
use Rattle.expr_parser.proofs.TypeSound.{AtField, Holds_at, two_on, name_spelled, list_spelled}
use Rattle.expr_parser.proofs.TypeSound.{map_spelled, record_spelled, alone_spelled, union_spelled, with_field}
use Rattle.expr_parser.proofs.TypeSound.{field_whole, settles, named_stands, run_holds}

-- tokens that close what is open

abbrev no_span : Span
no_span = record { start = 0; end = 0 }

abbrev symbol : List ℕ → Token
symbol text = record { kind = kind.Symbol; span = no_span; text = text }

abbrev word : List ℕ → Token
word text = record { kind = kind.Word; span = no_span; text = text }

abbrev some_name : TypeName
some_name = type_name (encode_utf8_all (codes "x"))

abbrev some_type : TypeOperand
some_type = named some_name

is_greater : type_terminal_of (symbol (codes ">")) ≡ terminal.Greater
unfolding lib.Utf8.encode
is_greater = refl

is_comma : type_terminal_of (symbol (codes ",")) ≡ terminal.Comma
unfolding lib.Utf8.encode
is_comma = refl

is_colon : type_terminal_of (symbol (codes ":")) ≡ terminal.Colon
unfolding lib.Utf8.encode
is_colon = refl

is_close : type_terminal_of (symbol (codes "]")) ≡ terminal.CloseBracket
unfolding lib.Utf8.encode
is_close = refl

is_string : type_terminal_of (word (codes "string")) ≡ terminal.Word name.Str
unfolding lib.Utf8.encode
is_string = refl

some_spelled : SpelledMember (word (codes "x") ∷ []) some_type
some_spelled = name_spelled (word (codes "x")) some_name refl

-- further tokens complete these to a type
pub record Completes (ts : List Token) : Type 0 where
  pub more : List Token
  pub depths : List ℕ
  pub words : List Bool
  pub operand : TypeOperand
  pub spells : SpellsType (ts ++ more) depths words operand

-- what can be completed, can still be without its last tokens
shorter : (ts us : List Token) → Completes (ts ++ us) → Completes ts
shorter ts us b = record {
  more = us ++ b.more;
  depths = b.depths;
  words = b.words;
  operand = b.operand;
  spells = (rw (append_assoc ts us b.more) at b.spells);
}

-- what is open can be closed
-- after a type, if no union is open, or after one that is no union
abbrev TypeIfNoUnion : List TypeFrame → List Token → TypeOperand → Type 0
TypeIfNoUnion [] us x = SpelledType us x
TypeIfNoUnion (frame.Union members h ∷ fs) us x = SpelledMember us x
TypeIfNoUnion (frame.Bracket b ∷ fs) us x = SpelledType us x

type_or_member : (fs : List TypeFrame) → (us : List Token) (x : TypeOperand) → SpelledMember us x →
    TypeIfNoUnion fs us x
type_or_member [] us x s = alone_spelled us x s
type_or_member (frame.Union members h ∷ fs) us x s = s
type_or_member (frame.Bracket b ∷ fs) us x s = alone_spelled us x s

type_for : (fs : List TypeFrame) → NoUnion fs → (us : List Token) (x : TypeOperand) → SpelledType us x →
    TypeIfNoUnion fs us x
type_for [] u us x s = s
type_for (frame.Union members h ∷ fs) u us x s = absurd u
type_for (frame.Bracket b ∷ fs) u us x s = s

closed : (fs : List TypeFrame) (prefix : List Token) → Opened fs prefix → (x : TypeOperand) (us : List Token) →
    TypeIfNoUnion fs us x → Completes (prefix ++ us)
closed _ _ Opened.none x us s =
    record { more = []; depths = s.depths; words = s.words; operand = x; spells = rw append-nil s.spells }
closed _ _ (Opened.list fs ts t l o i j) x us s =
    let g = symbol (codes ">") in
    shorter ((ts ++ (t ∷ (l ∷ []))) ++ us) (g ∷ [])
    (rw (append_assoc ts (t ∷ (l ∷ [])) us, append_assoc ts (t ∷ (l ∷ us)) (g ∷ []))
    (closed fs ts o (listed x) (t ∷ (l ∷ (us ++ (g ∷ [])))) (type_or_member fs (t ∷ (l ∷ (us ++ (g ∷ []))))
    (listed x) (list_spelled t l g us x i j is_greater s))))
closed _ _ (Opened.map_ fs ts t l k c o i j m n) x us s =
    let g = symbol (codes ">") in
    shorter ((ts ++ (t ∷ (l ∷ (k ∷ (c ∷ []))))) ++ us) (g ∷ [])
    (rw (append_assoc ts (t ∷ (l ∷ (k ∷ (c ∷ [])))) us, append_assoc ts (t ∷ (l ∷ (k ∷ (c ∷ us)))) (g ∷ []))
    (closed fs ts o (mapped x) (t ∷ (l ∷ (k ∷ (c ∷ (us ++ (g ∷ []))))))
    (type_or_member fs (t ∷ (l ∷ (k ∷ (c ∷ (us ++ (g ∷ [])))))) (mapped x)
    (map_spelled t l k c g us x i j m n is_greater s))))
closed _ _ (Opened.field_ fs ts vs fields h k c n o l i j) x us s =
    let b = symbol (codes "]") in
    let w = with_field fields h vs l k c n us x i j s in
    let y = recorded (fields ++ (field k.text x.of ∷ [])) (max h x.height) in
    shorter ((ts ++ (vs ++ (k ∷ (c ∷ [])))) ++ us) (b ∷ [])
    (rw (field_whole ts vs us k c b, w.whole)
    (closed fs ts o y (w.opening ∷ (w.inside ++ (b ∷ [])))
    (type_or_member fs (w.opening ∷ (w.inside ++ (b ∷ []))) y
    (record_spelled w.opening b w.inside (fields ++ (field k.text x.of ∷ []))
    (max h x.height) w.is_opening is_close w.spelled))))
closed _ _ (Opened.union_ fs ts vs members h b o u l i) x us s =
    rw (two_on ts vs us b)
    (closed fs ts o (united members h x) (vs ++ (b ∷ us)) (type_for fs u (vs ++ (b ∷ us)) (united members h x)
    (union_spelled b vs us members h x i l s)))

-- after a type that is no union
filled : (fs : List TypeFrame) (prefix : List Token) → Opened fs prefix → (x : TypeOperand) (us : List Token) →
    SpelledMember us x → Completes (prefix ++ us)
filled fs prefix o x us s = closed fs prefix o x us (type_or_member fs us x s)

-- a field that is open can be closed
field_filled : (fs : List TypeFrame) (fields : List Field) (h : ℕ) (ts : List Token) (key colon : Token)
    (n : TypeName) → AtField fs fields h ts →
    type_terminal_of key ≡ terminal.Word n → type_terminal_of colon ≡ terminal.Colon → Completes
    ((ts ++ (key ∷ [])) ++ (colon ∷ (word (codes "x") ∷ [])))
field_filled fs fields h ts key colon n f i j =
    rw (
      f.whole,
      append_assoc (f.prefix ++ f.suffix) (key ∷ []) (colon ∷ (word (codes "x") ∷ [])),
      append_assoc f.prefix f.suffix (key ∷ (colon ∷ (word (codes "x") ∷ []))),
      ← append_assoc f.suffix (key ∷ (colon ∷ [])) (word (codes "x") ∷ []),
      ← append_assoc f.prefix (f.suffix ++ (key ∷ (colon ∷ []))) (word (codes "x") ∷ []),
    )
    (filled (frame.Bracket (bracket.Field fields h key.text) ∷ fs) (f.prefix ++ (f.suffix ++ (key ∷ (colon ∷ []))))
    (Opened.field_ fs f.prefix f.suffix fields h key colon n f.opened f.leads i j) some_type
    (word (codes "x") ∷ []) some_spelled)

-- a map that is open can be closed
map_filled : (fs : List TypeFrame) (ts : List Token) (key comma : Token) → AtKey fs ts →
    type_terminal_of key ≡ terminal.Word name.Str →
    type_terminal_of comma ≡ terminal.Comma → Completes ((ts ++ (key ∷ [])) ++ (comma ∷ (word (codes "x") ∷ [])))
map_filled fs ts key comma k i j =
    rw (
      k.whole,
      append_assoc k.prefix (k.token ∷ (k.less ∷ [])) (key ∷ []),
      append_assoc k.prefix (k.token ∷ (k.less ∷ (key ∷ []))) (comma ∷ (word (codes "x") ∷ [])),
      ← append_assoc k.prefix (k.token ∷ (k.less ∷ (key ∷ (comma ∷ [])))) (word (codes "x") ∷ []),
    )
    (filled (frame.Bracket bracket.Map ∷ fs) (k.prefix ++ (k.token ∷ (k.less ∷ (key ∷ (comma ∷ [])))))
    (Opened.map_ fs k.prefix k.token k.less key comma k.opened k.is_map k.is_less i j) some_type
    (word (codes "x") ∷ []) some_spelled)

-- so what was read can be completed
begun_at : (p : ExpectedInType) (fs : List TypeFrame) (ts : List Token) → Holds_at p fs ts → Completes ts
begun_at expected.Type fs ts h = shorter ts (word (codes "x") ∷ [])
    (filled fs ts h some_type (word (codes "x") ∷ []) some_spelled)
begun_at (expected.AfterName n offset) fs ts h = let s = named_stands fs n offset ts h in rw s.whole
    (filled fs s.prefix s.opened (named n) s.suffix s.spelled)
begun_at (expected.Delimiter x) fs ts h = rw h.whole (filled fs h.prefix h.opened x h.suffix h.spelled)
begun_at expected.Key fs ts h =
    let k = word (codes "string") in
    shorter ts (k ∷ []) (shorter (ts ++ (k ∷ [])) (symbol (codes ",") ∷ (word (codes "x") ∷ []))
    (map_filled fs ts k (symbol (codes ",")) h is_string is_comma))
begun_at expected.KeyComma fs ts h = rw h.whole (shorter (h.before ++ (h.key ∷ []))
    (symbol (codes ",") ∷ (word (codes "x") ∷ [])) (map_filled fs h.before h.key
    (symbol (codes ",")) h.at_key h.is_key is_comma))
begun_at (expected.FieldName fields n) fs ts h =
    let k = word (codes "x") in
    shorter ts (k ∷ []) (shorter (ts ++ (k ∷ [])) (symbol (codes ":") ∷ (word (codes "x") ∷ []))
    (field_filled fs fields n ts k (symbol (codes ":")) some_name h refl is_colon))
begun_at (expected.FieldColon fields n name) fs ts h =
    rw h.whole (shorter (h.before ++ (h.key ∷ [])) (symbol (codes ":") ∷ (word (codes "x") ∷ []))
    (field_filled fs fields n h.before h.key (symbol (codes ":")) h.word h.at_field h.is_word is_colon))

start_holds : Holds_at type_start.expected type_start.frames []
start_holds = Opened.none

pub run-Completes : (ts : List Token) (s : TypeState) → type_run ts type_start ≡ Some s → Completes ts
run-Completes ts s e = begun_at s.expected s.frames ts (run_holds ts [] type_start s start_holds e)

-- there is a state after the tokens
pub record HasRun (ts : List Token) : Type 0 where
  pub state : TypeState
  pub is : type_run ts type_start ≡ Some state

pub Completes-run : (ts : List Token) → Completes ts → HasRun ts
Completes-run ts b =
    let r = complete (ts ++ b.more) b.depths b.words b.operand b.spells [] tt in
    over (type_run ts type_start) refl (sym (run_append ts b.more type_start) ∙ r.goes.runs)
  where
    over : {s : TypeState} → (to : Option TypeState) → type_run ts type_start ≡ to → type_run_from
        (type_run b.more) to ≡ Some s → HasRun ts
    over None e h = absurd (cc h)
    over (Some m) e h = record { state = m; is = e }

-- a whole type

abbrev pub IfWhole : Option TypeOperand → List Token → Type 0
IfWhole None ts = Unit {0}
IfWhole (Some x) ts = SpelledType ts x

alone_whole : (fs : List TypeFrame) (prefix : List Token) → Opened fs prefix → (x : TypeOperand) (us : List Token) →
    SpelledType us x → IfWhole (alone_type fs x) (prefix ++ us)
alone_whole _ _ Opened.none x us s = s
alone_whole _ _ (Opened.list fs ts t l o i j) x us s = tt
alone_whole _ _ (Opened.map_ fs ts t l k c o i j m n) x us s = tt
alone_whole _ _ (Opened.field_ fs ts vs fields h k c n o l i j) x us s = tt
alone_whole _ _ (Opened.union_ fs ts vs members h b o u l i) x us s = tt

stands_whole : (fs : List TypeFrame) (x : TypeOperand) (ts : List Token) → Stands fs x ts → IfWhole
    (settled_type (settled fs x)) ts
stands_whole fs x ts s =
    let r = settles fs s.prefix s.opened x s.suffix s.spelled in
    rw (s.whole, r.whole) (alone_whole (settled fs x).frames r.prefix r.opened
    (settled fs x).operand r.suffix r.spelled)

finish_whole : (p : ExpectedInType) (fs : List TypeFrame) (ts : List Token) → Holds_at p fs ts → IfWhole
    (whole_type_at p fs) ts
finish_whole expected.Type fs ts h = tt
finish_whole (expected.AfterName n offset) fs ts h = stands_whole fs (named n) ts (named_stands fs n offset ts h)
finish_whole (expected.Delimiter x) fs ts h = stands_whole fs x ts h
finish_whole expected.Key fs ts h = tt
finish_whole expected.KeyComma fs ts h = tt
finish_whole (expected.FieldName fields n) fs ts h = tt
finish_whole (expected.FieldColon fields n name) fs ts h = tt

-- what is finished is spelled
pub whole_type-SpellsType : (ts : List Token) (s : TypeState) (x : TypeOperand) → type_run ts type_start ≡ Some s →
    whole_type s ≡ Some x → SpelledType ts x
whole_type-SpellsType ts s x e f = over (whole_type s) f (finish_whole s.expected s.frames ts
    (run_holds ts [] type_start s start_holds e))
  where
    over : (o : Option TypeOperand) → o ≡ Some x → IfWhole o ts → SpelledType ts x
    over o same w = (rw same at w)

-- what is spelled is finished, with its depths and its words
pub record IsFinished (ts : List Token) (ds : List ℕ) (ws : List Bool) (x : TypeOperand) : Type 0 where
  pub state : TypeState
  pub goes : Goes [] type_start ts ds ws state
  pub finishes : whole_type state ≡ Some x

pub SpellsType-whole_type : (ts : List Token) (ds : List ℕ) (ws : List Bool) (x : TypeOperand) →
    SpellsType ts ds ws x → IsFinished ts ds ws x
SpellsType-whole_type ts ds ws x s =
    let r = complete ts ds ws x s [] tt in
    record {
      state = type_at r.frames r.expected;
      goes = r.goes;
      finishes = ends_whole r.expected r.operand r.ends r.frames ∙ ap settled_type r.same;
    }
