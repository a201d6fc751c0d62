-- The value of an expression is of the type that the rules give.
use Rattle.std.proofs.Common.{◌≡◌, ℕ, zero, suc, Bool, true, false, ◌||◌, ◌&&◌, not, List, [], ◌∷◌, ◌++◌, filter, ◌⊎◌}
use Rattle.std.proofs.Common.{arith}
use Rattle.std.specs.Prelude.{if◌then◌else◌, ℤ, pos, negsuc, Option, Some, None, Result, Ok, Err, unwrap_or, bytes_eq}
use Rattle.std.specs.List.{list_any}
use Rattle.std.proofs.lemmas.Bool.{leb-true}
use mathlib.Core.Path.{refl, sym, ap}
use mathlib.Core.Logic.{inl, inr}
use Rattle.soy_base.specs.declared.fault.Span.{Span}
use Rattle.soy_tree.specs.declared.expr.BinaryOp.{BinaryOp}
use Rattle.soy_tree.specs.declared.expr.BinaryOp.TheVariants as op
use Rattle.soy_tree.specs.Types.{Name, SoyType, Members, FieldTypes, NullType, BoolType, IntType, StringType, HtmlType}
use Rattle.soy_tree.specs.Types.{AttributesType, ListType, MapType, RecordType, UnionType, no_member, member, no_field}
use Rattle.soy_tree.specs.Types.{field}
use Rattle.soy_tree.specs.Values.{Value, Items, Entries, NullValue, BoolValue, IntValue, StringValue, ListValue}
use Rattle.soy_tree.specs.Values.{MapValue, RecordValue, no_item, item, no_entry, entry}
use Rattle.soy_tree.specs.Ints.{nearest}
use Rattle.soy_base.specs.Limits.{largest}
use Rattle.soy_tree.specs.Expressions.{Expr, NullLiteral, BoolLiteral, IntLiteral, StringLiteral, Variable, Member}
use Rattle.soy_tree.specs.Expressions.{Index, Minus, Not, Binary, Coalesce, Conditional}
use Rattle.soy_rules.specs.Members.{members, union_members, union_of, is_null_type, is_some_type}
use Rattle.soy_tree.specs.Types.{members_of}
use Rattle.soy_rules.specs.Members.{type_without_null, joined, has_null, has_block, is_block_member, is_simple}
use Rattle.soy_rules.specs.Has.{Has, HasSome, HasFields, IsInt, IsString, IsListOf, IsMapOf, IsWithinRange, EachItem}
use Rattle.soy_rules.specs.Has.{EachEntry, IsThere, entry_value, field_value}
use Rattle.soy_rules.specs.Faults.{TypeFault, followed_by, found, mistyped}
use Rattle.soy_rules.specs.TypeOf.{Scope, variable_type, field_type, type_of, is_int, is_string, fitting, accessed_type}
use Rattle.soy_rules.specs.TypeOf.{with_null_of, member_type, index_type, binary_type, are_texts}
use Rattle.soy_rules.specs.TypeOf.{is_divisor}
use Rattle.soy_tree.specs.Formed.{is_formed_expr, is_formed_int}
use Rattle.soy_rules.specs.Val.{Binding, Known, BlockOf, Env, binding, is_null_value, val, operand, member_value}
use Rattle.soy_rules.specs.Val.{index_value, item_value, negated, binary_value, int_result, sum_or_text, is_null}
use Rattle.soy_rules.specs.Val.{is_truthy}
use Rattle.soy_rules.specs.Fits.{IsOf, Fits}
use Rattle.soy_rules.proofs.SameTypes.{same_type}
use Rattle.soy_tree.proofs.SameNames.{same_name, both}
use Rattle.soy_rules.proofs.MembersHave.{null_no_record, null_or_narrowed, joined_left, joined_right, mapped}
use Rattle.soy_rules.proofs.Accepting.{any_append}
use Rattle.soy_rules.specs.TypeText.{type_text}
use Rattle.soy_base.specs.Names.{is_name}

-- what goes before a step that succeeds
pub record Stepped {A B E : Type 0} (r : Result A E) (next : A → Result B E) (b : B) : Type 0 where
  pub got : A
  pub first : r ≡ Ok got
  pub then_ : next got ≡ Ok b

pub stepped : {A B E : Type 0} (r : Result A E) (next : A → Result B E) (b : B) → followed_by r next ≡ Ok b
    → Stepped r next b
stepped (Ok a) next b e = record { got = a; first = refl; then_ = e }
stepped (Err x) next b e = let no : ⊥ = cc in absurd no

pub fitted : (fits : Bool) (t : SoyType) (span : Span) (left right s : SoyType) → fitting fits t span left right ≡ Ok s
    → (fits ≡ true) × (t ≡ s)
fitted true t span left right s e = let p : t ≡ s = cc in (refl, p)
fitted false t span left right s e = let no : ⊥ = cc in absurd no

pub found_some : (name : Name) (span : Span) (o : Option SoyType) (t : SoyType) → found name span o ≡ Ok t → o ≡ Some t
found_some name span None t e = let no : ⊥ = cc in absurd no
found_some name span (Some u) t e = let p : u ≡ t = cc in cc

-- ints
pub nearest_within : (n : ℤ) → IsWithinRange (nearest n)
nearest_within (pos n) = omega arith
nearest_within (negsuc n) = omega arith

pub int_value : (v : Value) → IsInt v → (n : ℤ) × (v ≡ IntValue n) × IsWithinRange n
int_value (IntValue n) h = (n, refl, h)
int_value NullValue h = absurd h
int_value (BoolValue b) h = absurd h
int_value (StringValue text) h = absurd h
int_value (ListValue vs) h = absurd h
int_value (MapValue es) h = absurd h
int_value (RecordValue es) h = absurd h

pub int_operand : {A : Type 0} (b : Binding A) (t : SoyType) → is_int t ≡ true → IsOf b t → IsInt (operand b)
int_operand (Known v) t e h = rw (same_type t IntType e) at h
int_operand (BlockOf a) t e h = let k : has_block IntType ≡ true = rw (same_type t IntType e) at h in let no : ⊥ =
    cc in absurd no

pub string_operand : {A : Type 0} (b : Binding A) (t : SoyType) → is_string t ≡ true → IsOf b t → IsString (operand b)
string_operand (Known v) t e h = rw (same_type t StringType e) at h
string_operand (BlockOf a) t e h = let k : has_block StringType ≡ true =
    rw (same_type t StringType e) at h in let no : ⊥ = cc in absurd no

pub int_result_int : (f : ℤ → ℤ → ℤ) (v w : Value) → IsInt v → IsInt w → IsInt (int_result f v w)
int_result_int f v w h k = let (m, p, q) = int_value v h in let (n, r, s) =
    int_value w k in rw (p, r) (nearest_within (f m n))

pub negated_int : (v : Value) → IsInt v → IsInt (negated v)
negated_int v h = let (m, p, q) = int_value v h in rw p (nearest_within _)

pub sum_int : (v w : Value) → IsInt v → IsInt w → IsInt (sum_or_text v w)
sum_int v w h k = let (m, p, q) = int_value v h in let (n, r, s) = int_value w k in rw (p, r) (nearest_within _)

-- text joined with another value is text
pub text_sum_left : (v w : Value) → IsString v → IsString (sum_or_text v w)
text_sum_left (StringValue text) w h = tt
text_sum_left NullValue w h = absurd h
text_sum_left (BoolValue b) w h = absurd h
text_sum_left (IntValue n) w h = absurd h
text_sum_left (ListValue vs) w h = absurd h
text_sum_left (MapValue es) w h = absurd h
text_sum_left (RecordValue es) w h = absurd h

pub text_sum_right : (v w : Value) → IsString w → IsString (sum_or_text v w)
text_sum_right (IntValue n) (StringValue text) h = tt
text_sum_right (IntValue n) NullValue h = absurd h
text_sum_right (IntValue n) (BoolValue b) h = absurd h
text_sum_right (IntValue n) (IntValue m) h = absurd h
text_sum_right (IntValue n) (ListValue vs) h = absurd h
text_sum_right (IntValue n) (MapValue es) h = absurd h
text_sum_right (IntValue n) (RecordValue es) h = absurd h
text_sum_right NullValue w h = tt
text_sum_right (BoolValue b) w h = tt
text_sum_right (StringValue text) w h = tt
text_sum_right (ListValue vs) w h = tt
text_sum_right (MapValue es) w h = tt
text_sum_right (RecordValue es) w h = tt

pub either : (a b : Bool) → (a || b) ≡ true → (a ≡ true) ⊎ (b ≡ true)
either true b e = inl refl
either false b e = inr e

pub texts_string : {A : Type 0} (x y : Binding A) (t u : SoyType)
    → (is_string t && is_simple u ≡ true) ⊎ (is_string u && is_simple t ≡ true) → IsOf x t → IsOf y u
    → IsString (sum_or_text (operand x) (operand y))
texts_string x y t u (inl e) h k =
    text_sum_left (operand x) (operand y) (string_operand x t (both (is_string t) (is_simple u) e).0 h)
texts_string x y t u (inr e) h k =
    text_sum_right (operand x) (operand y) (string_operand y u (both (is_string u) (is_simple t) e).0 k)

pub sum_has : {A : Type 0} (c : Bool) (span : Span) (t u r : SoyType) (x y : Binding A) → (is_int t && is_int u) ≡ c
    → (if c then Ok IntType else fitting (are_texts t u) StringType span t u) ≡ Ok r → IsOf x t → IsOf y u
    → Has (sum_or_text (operand x) (operand y)) r
sum_has true span t u r x y c e h k =
    let p : IntType ≡ r = cc in
    rw (sym p)
    (sum_int (operand x) (operand y) (int_operand x t (both (is_int t) (is_int u) c).0 h)
    (int_operand y u (both (is_int t) (is_int u) c).1 k))
sum_has false span t u r x y c e h k =
    let f : (are_texts t u ≡ true) × (StringType ≡ r) = fitted (are_texts t u) StringType span t u r e in
    rw (sym f.1) (texts_string x y t u (either (is_string t && is_simple u) (is_string u && is_simple t) f.0) h k)

pub divisor_int : {A : Type 0} (b : Expr) (env : Env A) → is_divisor b ≡ true
    → (n : ℤ) × (operand (val b env) ≡ IntValue n)
divisor_int (IntLiteral n span) env e = (n, refl)
divisor_int (NullLiteral span) env e = let no : ⊥ = cc in absurd no
divisor_int (BoolLiteral b span) env e = let no : ⊥ = cc in absurd no
divisor_int (StringLiteral text span) env e = let no : ⊥ = cc in absurd no
divisor_int (Variable name span) env e = let no : ⊥ = cc in absurd no
divisor_int (Member a name takes_null span) env e = let no : ⊥ = cc in absurd no
divisor_int (Index a i takes_null span) env e = let no : ⊥ = cc in absurd no
divisor_int (Minus a span) env e = let no : ⊥ = cc in absurd no
divisor_int (Not a span) env e = let no : ⊥ = cc in absurd no
divisor_int (Binary o a b span) env e = let no : ⊥ = cc in absurd no
divisor_int (Coalesce a b span) env e = let no : ⊥ = cc in absurd no
divisor_int (Conditional c a b span) env e = let no : ⊥ = cc in absurd no

pub rem_int : (f : ℤ → ℤ → ℤ) (v w : Value) (n : ℤ) → IsInt v → w ≡ IntValue n → IsInt (int_result f v w)
rem_int f v w n h e = let (m, p, q) = int_value v h in rw (p, e) (nearest_within (f m n))

pub binary_has : {A : Type 0} (o : BinaryOp) (a b : Expr) (span : Span) (t u r : SoyType) (x : Binding A) (env : Env A)
    → binary_type o a b span t u ≡ Ok r → IsOf x t → IsOf (val b env) u
    → Has (binary_value o (operand x) (operand (val b env))) r
binary_has op.Mul a b span t u r x env e h k =
    let f : ((is_int t && is_int u) ≡ true) × (IntType ≡ r) = fitted (is_int t && is_int u) IntType span t u r e in
    rw (sym f.1)
    (int_result_int _ (operand x) (operand (val b env)) (int_operand x t (both (is_int t) (is_int u) f.0).0 h)
    (int_operand (val b env) u (both (is_int t) (is_int u) f.0).1 k))
binary_has op.Sub a b span t u r x env e h k =
    let f : ((is_int t && is_int u) ≡ true) × (IntType ≡ r) = fitted (is_int t && is_int u) IntType span t u r e in
    rw (sym f.1)
    (int_result_int _ (operand x) (operand (val b env)) (int_operand x t (both (is_int t) (is_int u) f.0).0 h)
    (int_operand (val b env) u (both (is_int t) (is_int u) f.0).1 k))
binary_has op.Rem a b span t u r x env e h k =
    let f : ((is_int t && is_divisor b) ≡ true) × (IntType ≡ r) =
    fitted (is_int t && is_divisor b) IntType span t u r e in
    let d : (n : ℤ) × (operand (val b env) ≡ IntValue n) = divisor_int b env (both (is_int t) (is_divisor b) f.0).1 in
    rw (sym f.1)
    (rem_int _ (operand x) (operand (val b env)) d.0 (int_operand x t (both (is_int t) (is_divisor b) f.0).0 h) d.1)
binary_has op.Add a b span t u r x env e h k = sum_has (is_int t && is_int u) span t u r x (val b env) refl e h k
binary_has op.And a b span t u r x env e h k = let p : BoolType ≡ r = cc in rw (sym p) tt
binary_has op.Or a b span t u r x env e h k = let p : BoolType ≡ r = cc in rw (sym p) tt
binary_has op.Lt a b span t u r x env e h k = rw (sym (fitted _ BoolType span t u r e).1) tt
binary_has op.Gt a b span t u r x env e h k = rw (sym (fitted _ BoolType span t u r e).1) tt
binary_has op.Le a b span t u r x env e h k = rw (sym (fitted _ BoolType span t u r e).1) tt
binary_has op.Ge a b span t u r x env e h k = rw (sym (fitted _ BoolType span t u r e).1) tt
binary_has op.Eq a b span t u r x env e h k = rw (sym (fitted _ BoolType span t u r e).1) tt
binary_has op.Ne a b span t u r x env e h k = rw (sym (fitted _ BoolType span t u r e).1) tt

-- null is of a type only where null is among its members
pub or_true_left : (a b : Bool) → a ≡ true → (a || b) ≡ true
or_true_left true b e = refl
or_true_left false b e = let no : ⊥ = cc in absurd no

pub or_true_right : (a b : Bool) → b ≡ true → (a || b) ≡ true
or_true_right true b e = refl
or_true_right false b e = e

mutual
  pub null_among : (t : SoyType) → Has NullValue t → list_any is_null_type (members t) ≡ true
  null_among NullType h = refl
  null_among (UnionType ts) h = null_among_all ts h
  null_among BoolType h = absurd h
  null_among IntType h = absurd h
  null_among StringType h = absurd h
  null_among HtmlType h = absurd h
  null_among AttributesType h = absurd h
  null_among (ListType t') h = absurd h
  null_among (MapType t') h = absurd h
  null_among (RecordType fields) h = absurd (null_no_record fields h)

  pub null_among_all : (ts : Members) → HasSome NullValue ts → list_any is_null_type (union_members ts) ≡ true
  null_among_all no_member h = absurd h
  null_among_all (member t ts) (inl h) =
      rw (any_append is_null_type (members t) (union_members ts))
      (or_true_left (list_any is_null_type (members t)) (list_any is_null_type (union_members ts)) (null_among t h))
  null_among_all (member t ts) (inr h) =
      rw (any_append is_null_type (members t) (union_members ts))
      (or_true_right (list_any is_null_type (members t)) (list_any is_null_type (union_members ts))
      (null_among_all ts h))

-- html and attributes stay where null goes
pub block_of_member : (t : SoyType) → is_block_member t ≡ true → has_block t ≡ true
block_of_member HtmlType e = refl
block_of_member AttributesType e = refl
block_of_member NullType e = let no : ⊥ = cc in absurd no
block_of_member BoolType e = let no : ⊥ = cc in absurd no
block_of_member IntType e = let no : ⊥ = cc in absurd no
block_of_member StringType e = let no : ⊥ = cc in absurd no
block_of_member (ListType t) e = let no : ⊥ = cc in absurd no
block_of_member (MapType t) e = let no : ⊥ = cc in absurd no
block_of_member (RecordType fields) e = let no : ⊥ = cc in absurd no
block_of_member (UnionType ts) e = let no : ⊥ = cc in absurd no

pub block_here : (t : SoyType) (ts : List SoyType)
    → (is_block_member t ≡ true) ⊎ (list_any is_block_member (union_members (members_of ts)) ≡ true)
    → list_any is_block_member (members t ++ union_members (members_of ts)) ≡ true
block_here t ts (inl e) =
    rw (any_append is_block_member (members t) (union_members (members_of ts)))
    (or_true_left (list_any is_block_member (members t)) (list_any is_block_member (union_members (members_of ts)))
    (block_of_member t e))
block_here t ts (inr e) =
    rw (any_append is_block_member (members t) (union_members (members_of ts)))
    (or_true_right (list_any is_block_member (members t)) (list_any is_block_member (union_members (members_of ts))) e)

pub block_listed : (ts : List SoyType) → list_any is_block_member ts ≡ true
    → list_any is_block_member (union_members (members_of ts)) ≡ true
block_listed [] e = e
block_listed (t ∷ ts) e =
    block_here t ts
    (mapped (λ p. p) (λ q. block_listed ts q) (either (is_block_member t) (list_any is_block_member ts) e))

pub or_only : (b : Bool) → (b || false) ≡ true → b ≡ true
or_only true e = refl
or_only false e = e

pub block_union : (ts : List SoyType) → list_any is_block_member ts ≡ true → has_block (union_of ts) ≡ true
block_union [] e = e
block_union (t ∷ []) e = block_of_member t (or_only (is_block_member t) e)
block_union (t ∷ (u ∷ us)) e = block_listed (t ∷ (u ∷ us)) e

pub kept_block : (b rest rest' : Bool) → (rest ≡ true → rest' ≡ true) → (b || rest) ≡ true → (b || rest') ≡ true
kept_block true rest rest' f e = refl
kept_block false rest rest' f e = f e

pub block_kept : (ts : List SoyType) → list_any is_block_member ts ≡ true
    → list_any is_block_member (filter is_some_type ts) ≡ true
block_kept [] e = e
block_kept (NullType ∷ ts) e = block_kept ts e
block_kept (BoolType ∷ ts) e = block_kept ts e
block_kept (IntType ∷ ts) e = block_kept ts e
block_kept (StringType ∷ ts) e = block_kept ts e
block_kept (HtmlType ∷ ts) e = refl
block_kept (AttributesType ∷ ts) e = refl
block_kept (ListType t ∷ ts) e = block_kept ts e
block_kept (MapType t ∷ ts) e = block_kept ts e
block_kept (RecordType fields ∷ ts) e = block_kept ts e
block_kept (UnionType us ∷ ts) e = block_kept ts e

pub narrowed_block : (t : SoyType) → has_block t ≡ true → has_block (type_without_null t) ≡ true
narrowed_block t e = block_union (filter is_some_type (members t)) (block_kept (members t) e)

-- fields
pub there_value : (t : SoyType) (o : Option Value) → IsThere (λ w. Has w t) o → Has (unwrap_or o NullValue) t
there_value t None h = absurd h
there_value t (Some v) h = h

pub some_same : {t u : SoyType} → Some t ≡ Some u → t ≡ u
some_same {t} {u} e = cc

pub field_if : (c : Bool) (name other : Name) (v : Value) (t u : SoyType) (rest : Option SoyType)
    → bytes_eq other name ≡ c → IsThere (λ w. Has w t) (field_value other v)
    → (rest ≡ Some u → IsThere (λ w. Has w u) (field_value name v)) → (if c then Some t else rest) ≡ Some u
    → IsThere (λ w. Has w u) (field_value name v)
field_if true name other v t u rest is h more e = let p : t ≡ u = some_same e in let q : other ≡ name =
    same_name other name is in rw (← q, ← p) h
field_if false name other v t u rest is h more e = more e

pub field_there : (fields : FieldTypes) (name : Name) (v : Value) (u : SoyType) → HasFields v fields
    → field_type name fields ≡ Some u → IsThere (λ w. Has w u) (field_value name v)
field_there no_field name v u h e = let no : ⊥ = cc in absurd no
field_there (field other t fields) name v u h e =
    field_if (bytes_eq other name) name other v t u (field_type name fields) refl h.0
    (λ d. field_there fields name v u h.1 d) e

pub no_fault : {A : Type 0} (span : Span) (left right : List ℕ) (t : A) → mistyped span left right ≡ Ok t → ⊥
no_fault span left right t e = cc

pub member_plain : (name : Name) (span : Span) (left : SoyType) (v : Value) (s u : SoyType) → Has v s
    → member_type name span left s ≡ Ok u → Has (member_value name v) u
member_plain name span left v (RecordType fields) u h e =
    there_value u (field_value name v)
    (field_there fields name v u h (found_some name span (field_type name fields) u e))
member_plain name span left v NullType u h e = absurd (no_fault span _ _ u e)
member_plain name span left v BoolType u h e = absurd (no_fault span _ _ u e)
member_plain name span left v IntType u h e = absurd (no_fault span _ _ u e)
member_plain name span left v StringType u h e = absurd (no_fault span _ _ u e)
member_plain name span left v HtmlType u h e = absurd (no_fault span _ _ u e)
member_plain name span left v AttributesType u h e = absurd (no_fault span _ _ u e)
member_plain name span left v (ListType t) u h e = absurd (no_fault span _ _ u e)
member_plain name span left v (MapType t) u h e = absurd (no_fault span _ _ u e)
member_plain name span left v (UnionType ts) u h e = absurd (no_fault span _ _ u e)

pub member_block : (name : Name) (span : Span) (left s u : SoyType) → has_block s ≡ true
    → member_type name span left s ≡ Ok u → ⊥
member_block name span left (RecordType fields) u h e = cc
member_block name span left NullType u h e = no_fault span _ _ u e
member_block name span left BoolType u h e = no_fault span _ _ u e
member_block name span left IntType u h e = no_fault span _ _ u e
member_block name span left StringType u h e = no_fault span _ _ u e
member_block name span left HtmlType u h e = no_fault span _ _ u e
member_block name span left AttributesType u h e = no_fault span _ _ u e
member_block name span left (ListType t) u h e = no_fault span _ _ u e
member_block name span left (MapType t) u h e = no_fault span _ _ u e
member_block name span left (UnionType ts) u h e = no_fault span _ _ u e

-- items and entries, or null
pub null_joined : (t : SoyType) → Has NullValue (joined t NullType)
null_joined t = joined_right NullValue t NullType tt

pub item_has : (t : SoyType) (vs : Items) (n : ℕ) → EachItem (λ w. Has w t) vs
    → Has (item_value vs n) (joined t NullType)
item_has t no_item n h = null_joined t
item_has t (item v vs) zero h = joined_left v t NullType h.0
item_has t (item v vs) (suc n) h = item_has t vs n h.1

pub entry_if : (c : Bool) (t : SoyType) (v : Value) (rest : Option Value) → Has v (joined t NullType)
    → Has (unwrap_or rest NullValue) (joined t NullType)
    → Has (unwrap_or (if c then Some v else rest) NullValue) (joined t NullType)
entry_if true t v rest h k = h
entry_if false t v rest h k = k

pub entry_has : (t : SoyType) (es : Entries) (key : Name) → EachEntry (λ w. Has w t) es
    → Has (unwrap_or (entry_value key es) NullValue) (joined t NullType)
entry_has t no_entry key h = null_joined t
entry_has t (entry other v es) key h =
    entry_if (bytes_eq other key) t v (entry_value key es) (joined_left v t NullType h.0) (entry_has t es key h.1)

pub list_index : (t : SoyType) (v w : Value) → IsListOf (λ x. Has x t) v → Has (index_value v w) (joined t NullType)
list_index t (ListValue vs) (IntValue (pos n)) h = item_has t vs n h
list_index t (ListValue vs) (IntValue (negsuc n)) h = null_joined t
list_index t (ListValue vs) NullValue h = null_joined t
list_index t (ListValue vs) (BoolValue b) h = null_joined t
list_index t (ListValue vs) (StringValue text) h = null_joined t
list_index t (ListValue vs) (ListValue ws) h = null_joined t
list_index t (ListValue vs) (MapValue es) h = null_joined t
list_index t (ListValue vs) (RecordValue es) h = null_joined t
list_index t NullValue w h = absurd h
list_index t (BoolValue b) w h = absurd h
list_index t (IntValue n) w h = absurd h
list_index t (StringValue text) w h = absurd h
list_index t (MapValue es) w h = absurd h
list_index t (RecordValue es) w h = absurd h

pub map_index : (t : SoyType) (v w : Value) → IsMapOf (λ x. Has x t) v → Has (index_value v w) (joined t NullType)
map_index t (MapValue es) (StringValue key) h = entry_has t es key h
map_index t (MapValue es) NullValue h = null_joined t
map_index t (MapValue es) (BoolValue b) h = null_joined t
map_index t (MapValue es) (IntValue n) h = null_joined t
map_index t (MapValue es) (ListValue ws) h = null_joined t
map_index t (MapValue es) (MapValue fs) h = null_joined t
map_index t (MapValue es) (RecordValue fs) h = null_joined t
map_index t NullValue w h = absurd h
map_index t (BoolValue b) w h = absurd h
map_index t (IntValue n) w h = absurd h
map_index t (StringValue text) w h = absurd h
map_index t (ListValue vs) w h = absurd h
map_index t (RecordValue es) w h = absurd h

pub index_plain : (span : Span) (left k : SoyType) (w v : Value) (s u : SoyType) → Has v s
    → index_type span left s k ≡ Ok u → Has (index_value v w) u
index_plain span left k w v (ListType t) u h e =
    rw (sym (fitted (is_int k) (joined t NullType) span left k u e).1) (list_index t v w h)
index_plain span left k w v (MapType t) u h e =
    rw (sym (fitted (is_string k) (joined t NullType) span left k u e).1) (map_index t v w h)
index_plain span left k w v NullType u h e = absurd (no_fault span _ _ u e)
index_plain span left k w v BoolType u h e = absurd (no_fault span _ _ u e)
index_plain span left k w v IntType u h e = absurd (no_fault span _ _ u e)
index_plain span left k w v StringType u h e = absurd (no_fault span _ _ u e)
index_plain span left k w v HtmlType u h e = absurd (no_fault span _ _ u e)
index_plain span left k w v AttributesType u h e = absurd (no_fault span _ _ u e)
index_plain span left k w v (RecordType fields) u h e = absurd (no_fault span _ _ u e)
index_plain span left k w v (UnionType ts) u h e = absurd (no_fault span _ _ u e)

pub index_block : (span : Span) (left k s u : SoyType) → has_block s ≡ true → index_type span left s k ≡ Ok u → ⊥
index_block span left k (ListType t) u h e = cc
index_block span left k (MapType t) u h e = cc
index_block span left k NullType u h e = no_fault span _ _ u e
index_block span left k BoolType u h e = no_fault span _ _ u e
index_block span left k IntType u h e = no_fault span _ _ u e
index_block span left k StringType u h e = no_fault span _ _ u e
index_block span left k HtmlType u h e = no_fault span _ _ u e
index_block span left k AttributesType u h e = no_fault span _ _ u e
index_block span left k (RecordType fields) u h e = no_fault span _ _ u e
index_block span left k (UnionType ts) u h e = no_fault span _ _ u e

-- an access, which null may go through
pub joined_if : (c : Bool) (w : Value) (u : SoyType) → Has w u → Has w (if c then joined u NullType else u)
joined_if true w u h = joined_left w u NullType h
joined_if false w u h = h

pub null_if_joined : (c : Bool) (w : Value) (u : SoyType) → w ≡ NullValue → c ≡ true
    → Has w (if c then joined u NullType else u)
null_if_joined true w u e d = rw e (null_joined u)
null_if_joined false w u e d = let no : ⊥ = cc in absurd no

pub through : (f : Value → Value) (v : Value) (s u : SoyType) → f NullValue ≡ NullValue → Has v s
    → (Has v (type_without_null s) → Has (f v) u) → (v ≡ NullValue) ⊎ Has v (type_without_null s)
    → Has (f v) (if has_null s then joined u NullType else u)
through f v s u fnull h plain (inl e) = null_if_joined (has_null s) (f v) u (rw e fnull) (null_among s (rw e at h))
through f v s u fnull h plain (inr k) = joined_if (has_null s) (f v) u (plain k)

pub access_has : {A : Type 0} (f : Value → Value) (g : SoyType → Result SoyType TypeFault) (takes_null : Bool)
    (b : Binding A) (s u : SoyType) → f NullValue ≡ NullValue
    → ((v : Value) (s u : SoyType) → Has v s → g s ≡ Ok u → Has (f v) u)
    → ((s u : SoyType) → has_block s ≡ true → g s ≡ Ok u → ⊥) → IsOf b s → g (accessed_type takes_null s) ≡ Ok u
    → Has (f (operand b)) (with_null_of takes_null s u)
access_has f g false (Known v) s u fnull plain block h e = plain v s u h e
access_has f g false (BlockOf a) s u fnull plain block h e = absurd (block s u h e)
access_has f g true (Known v) s u fnull plain block h e =
    through f v s u fnull h (λ k. plain v (type_without_null s) u k e) (null_or_narrowed v s h)
access_has f g true (BlockOf a) s u fnull plain block h e =
    absurd (block (type_without_null s) u (narrowed_block s h) e)

-- variables
pub variable_if : {A : Type 0} (c : Bool) (here : SoyType) (b rest : Binding A) (more : Option SoyType) (t : SoyType)
    → IsOf b here → (more ≡ Some t → IsOf rest t) → (if c then Some here else more) ≡ Some t
    → IsOf (if c then b else rest) t
variable_if true here b rest more t h k e = let p : here ≡ t = some_same e in rw (sym p) h
variable_if false here b rest more t h k e = k e

pub variable_has : {A : Type 0} (name : Name) (scope : Scope) (env : Env A) (t : SoyType) → Fits scope env
    → variable_type name scope ≡ Some t → IsOf (binding name env) t
variable_has name [] [] t f e = let no : ⊥ = cc in absurd no
variable_has name [] (b ∷ env) t f e = absurd f
variable_has name (v ∷ scope) [] t f e = absurd f
variable_has name (v ∷ scope) (b ∷ env) t f e =
    let same : bytes_eq v.0 name ≡ bytes_eq b.0 name = ap (λ x. bytes_eq x name) f.0 in
    rw (sym same)
    (variable_if (bytes_eq v.0 name) v.1 b.1 (binding name env) (variable_type name scope) t f.1
    (λ d. variable_has name scope env t f.2 d) e)

-- neither operand is a block
pub no_block : (a b : Bool) → not (a || b) ≡ true → (a ≡ false) × (b ≡ false)
no_block false false e = (refl, refl)
no_block false true e = let no : ⊥ = cc in absurd no
no_block true b e = let no : ⊥ = cc in absurd no

pub chosen_if : {A : Type 0} (c : Bool) (x y : Binding A) (t u : SoyType) → has_block t ≡ false → has_block u ≡ false
    → IsOf x t → IsOf y u → IsOf (if c then x else y) (joined t u)
chosen_if true (Known v) y t u p q h k = joined_left v t u h
chosen_if true (BlockOf a) y t u p q h k = let no : ⊥ = cc in absurd no
chosen_if false x (Known w) t u p q h k = joined_right w t u k
chosen_if false x (BlockOf a) t u p q h k = let no : ⊥ = cc in absurd no

pub some_left : (v : Value) (t u : SoyType) → is_null_value v ≡ false → (v ≡ NullValue) ⊎ Has v (type_without_null t)
    → Has v (joined (type_without_null t) u)
some_left v t u e (inl p) = let d : is_null_value NullValue ≡ false = rw p at e in let no : ⊥ = cc in absurd no
some_left v t u e (inr h) = joined_left v (type_without_null t) u h

-- a choice that has a type has no html or attributes in its two last operands
pub chosen : (c : Bool) (span : Span) (s t u r : SoyType)
    → (if c then mistyped span (type_text s) [] else fitting (not (has_block t || has_block u)) (joined t u) span t u)
    ≡ Ok r
    → (has_block t ≡ false) × (has_block u ≡ false) × (joined t u ≡ r)
chosen true span s t u r e = absurd (no_fault span _ _ r e)
chosen false span s t u r e =
    let fit : (not (has_block t || has_block u) ≡ true) × (joined t u ≡ r) =
    fitted (not (has_block t || has_block u)) (joined t u) span t u r e in
    let none : (has_block t ≡ false) × (has_block u ≡ false) = no_block (has_block t) (has_block u) fit.0 in
    (none.0, none.1, fit.1)

pub coalesced_if : {A : Type 0} (c : Bool) (x y : Binding A) (t u : SoyType) → is_null x ≡ c → has_block t ≡ false
    → has_block u ≡ false → IsOf x t → IsOf y u → IsOf (if c then y else x) (joined (type_without_null t) u)
coalesced_if true x (Known w) t u n p q h k = joined_right w (type_without_null t) u k
coalesced_if true x (BlockOf a) t u n p q h k = let no : ⊥ = cc in absurd no
coalesced_if false (Known v) y t u n p q h k = some_left v t u n (null_or_narrowed v t h)
coalesced_if false (BlockOf a) y t u n p q h k = let no : ⊥ = cc in absurd no

pub formed_int : (n : ℤ) → is_formed_int n ≡ true → IsWithinRange n
formed_int (pos n) e = leb-true n largest e
formed_int (negsuc n) e = let no : ⊥ = cc in absurd no

pub ok_same : {A : Type 0} {x y : A} → ◌≡◌ {A = Result A TypeFault} (Ok x) (Ok y) → x ≡ y
ok_same {A} {x} {y} e = cc

pub minus_has : {A : Type 0} (c : Bool) (span : Span) (s t : SoyType) (b : Binding A) → is_int s ≡ c
    → (if c then Ok IntType else mistyped span (type_text s) []) ≡ Ok t → IsOf b s → Has (negated (operand b)) t
minus_has true span s t b is e h = let p : IntType ≡ t =
    ok_same e in rw (sym p) (negated_int (operand b) (int_operand b s is h))
minus_has false span s t b is e h = absurd (no_fault span _ _ t e)

-- the value of an expression is of its type, or a block where the type has html or attributes
pub value_type : {A : Type 0} (e : Expr) (scope : Scope) (env : Env A) (t : SoyType) → is_formed_expr e ≡ true
    → Fits scope env → type_of e scope ≡ Ok t → IsOf (val e env) t
value_type (NullLiteral span) scope env t formed fits is = let p : NullType ≡ t = cc in rw (sym p) tt
value_type (BoolLiteral b span) scope env t formed fits is = let p : BoolType ≡ t = cc in rw (sym p) tt
value_type (IntLiteral n span) scope env t formed fits is = let p : IntType ≡ t = cc in rw (sym p) (formed_int n formed)
value_type (StringLiteral text span) scope env t formed fits is = let p : StringType ≡ t = cc in rw (sym p) tt
value_type (Variable name span) scope env t formed fits is =
    variable_has name scope env t fits (found_some name span (variable_type name scope) t is)
value_type (Member e name takes_null span) scope env t formed fits is =
    let f : (is_formed_expr e ≡ true) × (is_name name ≡ true) = both (is_formed_expr e) (is_name name) formed in
    let one : Stepped (type_of e scope) _ t = stepped (type_of e scope) _ t is in
    let two : Stepped (member_type name span one.got (accessed_type takes_null one.got)) _ t =
    stepped (member_type name span one.got (accessed_type takes_null one.got)) _ t one.then_ in
    let p : with_null_of takes_null one.got two.got ≡ t = ok_same two.then_ in
    rw (sym p)
    (access_has (member_value name) (λ s. member_type name span one.got s) takes_null (val e env) one.got two.got
    refl (λ v s u. member_plain name span one.got v s u) (λ s u. member_block name span one.got s u)
    (value_type e scope env one.got f.0 fits one.first) two.first)
value_type (Index e i takes_null span) scope env t formed fits is =
    let f : (is_formed_expr e ≡ true) × (is_formed_expr i ≡ true) = both (is_formed_expr e) (is_formed_expr i) formed in
    let one : Stepped (type_of e scope) _ t = stepped (type_of e scope) _ t is in
    let key : Stepped (type_of i scope) _ t = stepped (type_of i scope) _ t one.then_ in
    let two : Stepped (index_type span one.got (accessed_type takes_null one.got) key.got) _ t =
    stepped (index_type span one.got (accessed_type takes_null one.got) key.got) _ t key.then_ in
    let p : with_null_of takes_null one.got two.got ≡ t = ok_same two.then_ in
    rw (sym p)
    (access_has (λ v. index_value v (operand (val i env))) (λ s. index_type span one.got s key.got) takes_null
    (val e env) one.got two.got refl (λ v s u. index_plain span one.got key.got (operand (val i env)) v s u)
    (λ s u. index_block span one.got key.got s u) (value_type e scope env one.got f.0 fits one.first) two.first)
value_type (Minus e span) scope env t formed fits is =
    let one : Stepped (type_of e scope) _ t = stepped (type_of e scope) _ t is in
    minus_has (is_int one.got) span one.got t (val e env) refl one.then_
    (value_type e scope env one.got formed fits one.first)
value_type (Not e span) scope env t formed fits is =
    let one : Stepped (type_of e scope) _ t = stepped (type_of e scope) _ t is in
    let p : BoolType ≡ t = ok_same one.then_ in rw (sym p) tt
value_type (Binary o a b span) scope env t formed fits is =
    let f : (is_formed_expr a ≡ true) × (is_formed_expr b ≡ true) = both (is_formed_expr a) (is_formed_expr b) formed in
    let one : Stepped (type_of a scope) _ t = stepped (type_of a scope) _ t is in
    let two : Stepped (type_of b scope) _ t = stepped (type_of b scope) _ t one.then_ in
    binary_has o a b span one.got two.got t (val a env) env two.then_
    (value_type a scope env one.got f.0 fits one.first) (value_type b scope env two.got f.1 fits two.first)
value_type (Coalesce a b span) scope env t formed fits is =
    let f : (is_formed_expr a ≡ true) × (is_formed_expr b ≡ true) = both (is_formed_expr a) (is_formed_expr b) formed in
    let one : Stepped (type_of a scope) _ t = stepped (type_of a scope) _ t is in
    let two : Stepped (type_of b scope) _ t = stepped (type_of b scope) _ t one.then_ in
    let fit : (not (has_block one.got || has_block two.got) ≡ true)
    × (joined (type_without_null one.got) two.got ≡ t) =
    fitted (not (has_block one.got || has_block two.got)) _ span one.got two.got t two.then_ in
    let none : (has_block one.got ≡ false) × (has_block two.got ≡ false) =
    no_block (has_block one.got) (has_block two.got) fit.0 in
    rw (sym fit.1)
    (coalesced_if (is_null (val a env)) (val a env) (val b env) one.got two.got refl none.0 none.1
    (value_type a scope env one.got f.0 fits one.first) (value_type b scope env two.got f.1 fits two.first))
value_type (Conditional c a b span) scope env t formed fits is =
    let f : ((is_formed_expr c && is_formed_expr a) ≡ true) × (is_formed_expr b ≡ true) =
    both (is_formed_expr c && is_formed_expr a) (is_formed_expr b) formed in
    let g : (is_formed_expr c ≡ true) × (is_formed_expr a ≡ true) = both (is_formed_expr c) (is_formed_expr a) f.0 in
    let zero_ : Stepped (type_of c scope) _ t = stepped (type_of c scope) _ t is in
    let one : Stepped (type_of a scope) _ t = stepped (type_of a scope) _ t zero_.then_ in
    let two : Stepped (type_of b scope) _ t = stepped (type_of b scope) _ t one.then_ in
    let fit : (has_block one.got ≡ false) × (has_block two.got ≡ false) × (joined one.got two.got ≡ t) =
    chosen (has_block zero_.got) span zero_.got one.got two.got t two.then_ in
    rw (sym fit.2)
    (chosen_if (is_truthy (val c env)) (val a env) (val b env) one.got two.got fit.0 fit.1
    (value_type a scope env one.got g.1 fits one.first) (value_type b scope env two.got f.1 fits two.first))
