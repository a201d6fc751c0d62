-- Variables that are bound to what their types have: values, and blocks of kinds that the types have.
use Rattle.std.proofs.Common.{◌≡◌, ℕ, zero, suc, ◌+◌, ◌≤◌, ◌<◌, ℤ, pos, Bool, true, false, ◌&&◌, List, [], ◌∷◌}
use Rattle.std.proofs.Common.{inl, inr, Option, Some, None, Result, Ok, if◌then◌else◌, refl, sym, ap}
use Rattle.std.proofs.Common.{subst, arith}
use Rattle.std.specs.Prelude.{bytes_eq, is_some, not, unwrap_or, ◌||◌}
use Rattle.std.proofs.lemmas.Bool.{and_parts}
use Rattle.soy_base.specs.declared.kind.Kind.{Kind}
use Rattle.soy_base.specs.declared.kind.Kind.TheVariants as kinds
use Rattle.soy_tree.specs.declared.expr.BinaryOp.{BinaryOp}
use Rattle.soy_tree.specs.declared.expr.BinaryOp.TheVariants as op
use Rattle.soy_rules.specs.Accepts.{accepts}
use Rattle.soy_rules.specs.Bodies.{is_printed, param_of}
use Rattle.soy_tree.specs.Expressions.{Expr, NullLiteral, BoolLiteral, IntLiteral, StringLiteral, Variable, Member}
use Rattle.soy_tree.specs.Expressions.{Index, Minus, Not, Binary, Coalesce, Conditional}
use Rattle.soy_rules.specs.Faults.{TypeFault}
use Rattle.soy_rules.specs.Fits.{Fits, IsOf}
use Rattle.soy_tree.specs.Formed.{is_formed_expr}
use Rattle.soy_rules.specs.Has.{EachItem, Has, entry_value, field_value}
use Rattle.soy_rules.specs.Members.{has_block, joined, members, type_without_null}
use Rattle.soy_tree.specs.MessageText.{MessageItem, Character, Printed, Cut, TextCut, PrintCut, TagCut}
use Rattle.soy_rules.specs.Narrowing.{name_narrowed, narrowed, variable_narrowed}
use Rattle.soy_tree.specs.Nodes.{Arguments, Given, no_argument, argument, Plain, Block}
use Rattle.soy_rules.specs.Placeholders.{Use, name_of}
use Rattle.soy_rules.specs.Templates.{Declared, kind_type, param_scope, param_type}
use Rattle.soy_tree.specs.Trees.{Param}
use Rattle.soy_rules.specs.TypeOf.{choice_type, Scope, is_null_literal, type_of, variable_type}
use Rattle.soy_tree.specs.Types.{Name, SoyType, NullType, IntType, ListType}
use Rattle.soy_rules.specs.Val.{Binding, BlockOf, Known, binary_value, binding, index_value, int_result, is_null}
use Rattle.soy_rules.specs.Val.{is_truthy, item_value, negated, operand, sum_or_text, val}
use Rattle.soy_tree.specs.Values.{Value, Items, Entries, NullValue, BoolValue, IntValue, StringValue, ListValue}
use Rattle.soy_tree.specs.Values.{MapValue, RecordValue, no_item, item, no_entry, entry}
use Rattle.soy_rules.proofs.AcceptsHas.{accepts_has}
use Rattle.soy_rules.proofs.Branches.{branch_fits}
use Rattle.soy_rules.proofs.ValueTypes.{Stepped, chosen, fitted, found_some, no_block, null_joined, stepped}
use Rattle.soy_rules.proofs.ValueTypes.{value_type, variable_has}
use Rattle.soy_meaning.specs.Runs.FrameRun.{FrameRun, inner_outcome}
use Rattle.soy_pieces.specs.Meaning.{bound_as}
use Rattle.soy_meaning.specs.Paths.Filled.{IsBlockKind}
use Rattle.soy_meaning.specs.Runs.GivenAt.{HasPlaceholderOf, cut_prints, given_binding_of, given_bindings, tag_prints}
use Rattle.soy_pieces.specs.Giving.{BoundBlock, RunEnv}
use Rattle.soy_pieces.specs.Outcome.{Outcome}
use Rattle.soy_pieces.specs.Pieces.{RunContext, callee_env, given_binding, handed_on}
use Rattle.soy_pieces.specs.Pieces.{listed_items, param_binding, valued, with_index}
use Rattle.soy_meaning.specs.Paths.PlanOfNodes.{body_scope, kind_class, with_variable}
use Rattle.soy_meaning.specs.Paths.PlanOfParts.{classes_of_all, known_classes, printed_classes}
use Rattle.soy_rules.specs.Placeholders.{cut_of_role, placeholder_cut}
use Rattle.soy_meaning.specs.Runs.ComesNext.{IsItem}
use Rattle.soy_meaning.specs.Runs.RunsAlong.{BindsValues}
use Rattle.soy_meaning.specs.Walks.States.{IsMember}
use Rattle.soy_rules.specs.ShortLists.{EntriesShort, HasShortLists, ItemsShort, item_count}
use Rattle.soy_meaning.specs.Runs.TypedData.{EnvShort, FitsData, IsShort}
use Rattle.soy_meaning.proofs.Typing.BlockClasses.{HasOf, accepted_block, accepted_class, narrowed_class}
use Rattle.soy_meaning.proofs.Typing.BlockClasses.{not_null}
use Rattle.soy_meaning.proofs.Runs.Goings.{HasClass}
use Rattle.soy_meaning.proofs.Typing.PrintedClasses.{printed_class}
use Rattle.soy_meaning.proofs.Typing.TypedNodes.{CutPrintable, GivenTaken, HasType, IsListed, IsPrintable, chosen_first}
use Rattle.soy_meaning.proofs.Typing.TypedNodes.{chosen_second, coalesced_second, coalesced_type}
use Rattle.soy_meaning.proofs.Typing.TypedNodes.{ItemsPrintable, LeftTo, ParamTakes, ParamsTake, UsesPrintable}
use Rattle.soy_meaning.proofs.Typing.TypedNodes.{given_of}
use Rattle.std.specs.Option.{option_or}

-- ---- the kinds of blocks

abbrev pub IsKind : Binding BoundBlock → SoyType → Type 0
IsKind (Known v) t = Unit {0}
IsKind (BlockOf block) t = IsBlockKind block.kind × HasOf (kind_class block.kind) t

abbrev pub EnvKinds : Scope → RunEnv → Type 0
EnvKinds [] [] = Unit {0}
EnvKinds (v ∷ scope) (b ∷ env) = IsKind b.1 v.1 × EnvKinds scope env
EnvKinds _ _ = ⊥

pub record EnvTyped (scope : Scope) (env : RunEnv) : Type 0 where
  pub fits : Fits scope env
  pub kinds : EnvKinds scope env
  pub short : EnvShort env

pub env_typed_more : (name : Name) (t : SoyType) (b : Binding BoundBlock) (scope : Scope) (env : RunEnv) → IsOf b t
    → IsKind b t → IsShort b → EnvTyped scope env → EnvTyped ((name, t) ∷ scope) ((name, b) ∷ env)
env_typed_more name t b scope env is kind short typed =
    record { fits = (refl, is, typed.fits); kinds = (kind, typed.kinds); short = (short, typed.short) }

some_is : (t u : SoyType) → Some t ≡ Some u → t ≡ u
some_is t u e = cc

kind_if : (test : Bool) (here : SoyType) (b rest : Binding BoundBlock) (more : Option SoyType) (t : SoyType)
    → IsKind b here → (more ≡ Some t → IsKind rest t) → (if test then Some here else more) ≡ Some t
    → IsKind (if test then b else rest) t
kind_if true here b rest more t h k e = subst (λ z. IsKind b z) (some_is here t e) h
kind_if false here b rest more t h k e = k e

variable_kind : (name : Name) (scope : Scope) (env : RunEnv) (t : SoyType) → Fits scope env → EnvKinds scope env
    → variable_type name scope ≡ Some t → IsKind (binding name env) t
variable_kind name [] [] t f h e = let no : ⊥ = cc in absurd no
variable_kind name [] (b ∷ env) t f h e = absurd h
variable_kind name (v ∷ scope) [] t f h e = absurd h
variable_kind name (v ∷ scope) (b ∷ env) t f h e =
    let same : bytes_eq v.0 name ≡ bytes_eq b.0 name = ap (λ x. bytes_eq x name) f.0 in
    subst (λ z. IsKind (if z then b.1 else binding name env) t) same
    (kind_if (bytes_eq v.0 name) v.1 b.1 (binding name env) (variable_type name scope) t h.0
    (λ d. variable_kind name scope env t f.2 h.1 d) e)

-- what is of a type without html and attributes is a value
value_kind : (b : Binding BoundBlock) (t r : SoyType) → has_block t ≡ false → IsOf b t → IsKind b r
value_kind (Known v) t r none is = tt
value_kind (BlockOf block) t r none is = let no : ⊥ = cc in absurd no

picked_kind : (test : Bool) (one other : Binding BoundBlock) (r : SoyType) → IsKind one r → IsKind other r
    → IsKind (if test then one else other) r
picked_kind true one other r h k = h
picked_kind false one other r h k = k

val_kind : (e : Expr) (scope : Scope) (env : RunEnv) (t : SoyType) → is_formed_expr e ≡ true → Fits scope env
    → EnvKinds scope env → type_of e scope ≡ Ok t → IsKind (val e env) t
val_kind (NullLiteral span) scope env t formed fits kinds is = tt
val_kind (BoolLiteral b span) scope env t formed fits kinds is = tt
val_kind (IntLiteral n span) scope env t formed fits kinds is = tt
val_kind (StringLiteral text span) scope env t formed fits kinds is = tt
val_kind (Variable name span) scope env t formed fits kinds is =
    variable_kind name scope env t fits kinds (found_some name span (variable_type name scope) t is)
val_kind (Member e name takes_null span) scope env t formed fits kinds is = tt
val_kind (Index e i takes_null span) scope env t formed fits kinds is = tt
val_kind (Minus e span) scope env t formed fits kinds is = tt
val_kind (Not e span) scope env t formed fits kinds is = tt
val_kind (Binary o a b span) scope env t formed fits kinds is = tt
val_kind (Coalesce a b span) scope env t formed fits kinds is =
    let f = and_parts (is_formed_expr a) (is_formed_expr b) formed in
    let one : Stepped (type_of a scope) (λ u. coalesced_second b scope span u) t =
    stepped (type_of a scope) (λ u. coalesced_second b scope span u) t is in
    let two : Stepped (type_of b scope) (λ v. coalesced_type span one.got v) t =
    stepped (type_of b scope) (λ v. coalesced_type span one.got v) t one.then_ in
    let fit : (not (has_block one.got || has_block two.got) ≡ true) × (joined (type_without_null one.got) two.got ≡ t) =
    fitted (not (has_block one.got || has_block two.got)) (joined (type_without_null one.got) two.got) span one.got
    two.got t two.then_ in
    let none : (has_block one.got ≡ false) × (has_block two.got ≡ false) =
    no_block (has_block one.got) (has_block two.got) fit.0 in
    picked_kind (is_null (val a env)) (val b env) (val a env) t
    (value_kind (val b env) two.got t none.1 (value_type b scope env two.got f.1 fits two.first))
    (value_kind (val a env) one.got t none.0 (value_type a scope env one.got f.0 fits one.first))
val_kind (Conditional c a b span) scope env t formed fits kinds is =
    let f = and_parts (is_formed_expr c && is_formed_expr a) (is_formed_expr b) formed in
    let g = and_parts (is_formed_expr c) (is_formed_expr a) f.0 in
    let first : Stepped (type_of c scope) (λ s. chosen_first a b scope span s) t =
    stepped (type_of c scope) (λ s. chosen_first a b scope span s) t is in
    let one : Stepped (type_of a scope) (λ u. chosen_second b scope span first.got u) t =
    stepped (type_of a scope) (λ u. chosen_second b scope span first.got u) t first.then_ in
    let two : Stepped (type_of b scope) (λ v. choice_type span first.got one.got v) t =
    stepped (type_of b scope) (λ v. choice_type span first.got one.got v) t one.then_ in
    let fit : (has_block one.got ≡ false) × (has_block two.got ≡ false) × (joined one.got two.got ≡ t) =
    chosen (has_block first.got) span first.got one.got two.got t two.then_ in
    picked_kind (is_truthy (val c env)) (val a env) (val b env) t
    (value_kind (val a env) one.got t fit.0 (value_type a scope env one.got g.1 fits one.first))
    (value_kind (val b env) two.got t fit.1 (value_type b scope env two.got f.1 fits two.first))

-- ---- the arm of a condition

narrowed_kind : (b : Binding BoundBlock) (t : SoyType) → IsKind b t → IsKind b (type_without_null t)
narrowed_kind (Known v) t h = tt
narrowed_kind (BlockOf block) t h =
    (h.0, narrowed_class (kind_class block.kind) t (not_null block.kind h.0) h.1)

kinds_if : (test : Bool) (v : Name × SoyType) (b : Name × Binding BoundBlock) (scope more : Scope) (env : RunEnv)
    → EnvKinds (v ∷ scope) (b ∷ env) → EnvKinds more env
    → EnvKinds (if test then (v.0, type_without_null v.1) ∷ scope else v ∷ more) (b ∷ env)
kinds_if true v b scope more env h k = (narrowed_kind b.1 v.1 h.0, h.1)
kinds_if false v b scope more env h k = (h.0, k)

name_kinds : (name : Name) (scope : Scope) (env : RunEnv) → EnvKinds scope env
    → EnvKinds (name_narrowed name scope) env
name_kinds name [] [] h = h
name_kinds name [] (b ∷ env) h = absurd h
name_kinds name (v ∷ scope) [] h = absurd h
name_kinds name (v ∷ scope) (b ∷ env) h =
    kinds_if (bytes_eq v.0 name) v b scope (name_narrowed name scope) env h (name_kinds name scope env h.1)

variable_kinds : (e : Expr) (scope : Scope) (env : RunEnv) → EnvKinds scope env
    → EnvKinds (variable_narrowed e scope) env
variable_kinds (Variable name span) scope env h = name_kinds name scope env h
variable_kinds _ scope env h = h

scope_if : (test : Bool) (one other : Scope) (env : RunEnv) → EnvKinds one env → EnvKinds other env
    → EnvKinds (if test then one else other) env
scope_if true one other env h k = h
scope_if false one other env h k = k

narrowed_kinds : (e : Expr) (scope : Scope) (env : RunEnv) → EnvKinds scope env → EnvKinds (narrowed e scope) env
narrowed_kinds (Variable name span) scope env h = name_kinds name scope env h
narrowed_kinds (Binary op.Ne a b span) scope env h =
    scope_if (is_null_literal b) (variable_narrowed a scope) scope env (variable_kinds a scope env h) h
narrowed_kinds (Binary op.And a b span) scope env h =
    narrowed_kinds b (narrowed a scope) env (narrowed_kinds a scope env h)
narrowed_kinds _ scope env h = h

pub arm_typed : (e : Expr) (scope : Scope) (env : RunEnv) → is_truthy (val e env) ≡ true → EnvTyped scope env
    → EnvTyped (narrowed e scope) env
arm_typed e scope env holds typed = record {
  fits = branch_fits e scope env holds typed.fits;
  kinds = narrowed_kinds e scope env typed.kinds;
  short = typed.short;
}

-- ---- short lists

there_short : (found : Option Value) → ((v : Value) → found ≡ Some v → HasShortLists v)
    → HasShortLists (unwrap_or found NullValue)
there_short None h = tt
there_short (Some v) h = h v refl

value_is : (v w : Value) → Some v ≡ Some w → v ≡ w
value_is v w e = cc

entry_if : (test : Bool) (v : Value) (rest : Option Value) (w : Value) → HasShortLists v
    → (rest ≡ Some w → HasShortLists w) → (if test then Some v else rest) ≡ Some w → HasShortLists w
entry_if true v rest w h k e = subst HasShortLists (value_is v w e) h
entry_if false v rest w h k e = k e

entry_short : (name : Name) (es : Entries) → EntriesShort es → (w : Value) → entry_value name es ≡ Some w
    → HasShortLists w
entry_short name no_entry h w e = let no : ⊥ = cc in absurd no
entry_short name (entry other v es) h w e =
    entry_if (bytes_eq other name) v (entry_value name es) w h.0 (λ d. entry_short name es h.1 w d) e

none_there : (w : Value) → ◌≡◌ {A = Option Value} None (Some w) → HasShortLists w
none_there w e = let no : ⊥ = cc in absurd no

field_short : (name : Name) (v : Value) → HasShortLists v → (w : Value) → field_value name v ≡ Some w
    → HasShortLists w
field_short name (RecordValue es) h w e = entry_short name es h w e
field_short name _ h w e = none_there w e

item_short : (vs : Items) (n : ℕ) → ItemsShort vs → HasShortLists (item_value vs n)
item_short no_item n h = tt
item_short (item v vs) zero h = h.0
item_short (item v vs) (suc n) h = item_short vs n h.1

index_short : (v w : Value) → HasShortLists v → HasShortLists (index_value v w)
index_short (ListValue vs) (IntValue (pos n)) h = item_short vs n h.1
index_short (MapValue es) (StringValue key) h =
    there_short (entry_value key es) (λ w e. entry_short key es h w e)
index_short _ _ h = tt

result_short : (f : ℤ → ℤ → ℤ) (v w : Value) → HasShortLists (int_result f v w)
result_short f (IntValue m) (IntValue n) = tt
result_short f _ _ = tt

sum_short : (v w : Value) → HasShortLists (sum_or_text v w)
sum_short (IntValue m) (IntValue n) = tt
sum_short _ _ = tt

negated_short : (v : Value) → HasShortLists (negated v)
negated_short (IntValue n) = tt
negated_short _ = tt

binary_short : (o : BinaryOp) (v w : Value) → HasShortLists (binary_value o v w)
binary_short op.Mul v w = result_short _ v w
binary_short op.Rem v w = result_short _ v w
binary_short op.Add v w = sum_short v w
binary_short op.Sub v w = result_short _ v w
binary_short op.Lt v w = tt
binary_short op.Gt v w = tt
binary_short op.Le v w = tt
binary_short op.Ge v w = tt
binary_short op.Eq v w = tt
binary_short op.Ne v w = tt
binary_short op.And v w = tt
binary_short op.Or v w = tt

operand_short : (b : Binding BoundBlock) → IsShort b → HasShortLists (operand b)
operand_short (Known v) h = h
operand_short (BlockOf block) h = tt

short_if : (test : Bool) (one other : Binding BoundBlock) → IsShort one → IsShort other
    → IsShort (if test then one else other)
short_if true one other h k = h
short_if false one other h k = k

variable_short : (name : Name) (env : RunEnv) → EnvShort env → IsShort (binding name env)
variable_short name [] h = tt
variable_short name (v ∷ env) h =
    short_if (bytes_eq v.0 name) v.1 (binding name env) h.0 (variable_short name env h.1)

val_short : (e : Expr) (env : RunEnv) → EnvShort env → IsShort (val e env)
val_short (NullLiteral span) env h = tt
val_short (BoolLiteral b span) env h = tt
val_short (IntLiteral n span) env h = tt
val_short (StringLiteral text span) env h = tt
val_short (Variable name span) env h = variable_short name env h
val_short (Member e name takes_null span) env h =
    there_short (field_value name (operand (val e env)))
    (λ w d. field_short name (operand (val e env)) (operand_short (val e env) (val_short e env h)) w d)
val_short (Index e i takes_null span) env h =
    index_short (operand (val e env)) (operand (val i env)) (operand_short (val e env) (val_short e env h))
val_short (Minus e span) env h = negated_short (operand (val e env))
val_short (Not e span) env h = tt
val_short (Binary o a b span) env h = binary_short o (operand (val a env)) (operand (val b env))
val_short (Coalesce a b span) env h =
    short_if (is_null (val a env)) (val b env) (val a env) (val_short b env h) (val_short a env h)
val_short (Conditional c a b span) env h =
    short_if (is_truthy (val c env)) (val a env) (val b env) (val_short a env h) (val_short b env h)

-- ---- prints

binding_class : (b : Binding BoundBlock) (t : SoyType) → is_printed t ≡ true → IsOf b t → IsKind b t
    → HasClass b (classes_of_all (members t))
binding_class (Known v) t printed is kind = printed_class v t printed is
binding_class (BlockOf block) t printed is kind = kind.1

pub printed_has_class : (e : Expr) (scope : Scope) (env : RunEnv) → IsPrintable e scope → EnvTyped scope env
    → HasClass (val e env) (printed_classes e scope)
printed_has_class e scope env p typed =
    subst (λ (r : Result SoyType TypeFault). HasClass (val e env) (known_classes r)) (sym p.typed)
    (binding_class (val e env) p.of p.printed (value_type e scope env p.of p.formed typed.fits p.typed)
    (val_kind e scope env p.of p.formed typed.fits typed.kinds p.typed))

tag_printable : (tag : List MessageItem) (scope : Scope) → ItemsPrintable tag scope → (e : Expr)
    → IsMember e (tag_prints tag) → IsPrintable e scope
tag_printable [] scope h e member = absurd member
tag_printable (Character c span ∷ rest) scope h e member = tag_printable rest scope h e member
tag_printable (Printed f phname span ∷ rest) scope h e (inl same) = subst (λ z. IsPrintable z scope) (sym same) h.0
tag_printable (Printed f phname span ∷ rest) scope h e (inr member) = tag_printable rest scope h.1 e member

cut_printable : (cut : Option Cut) (scope : Scope) → CutPrintable cut scope → (e : Expr)
    → IsMember e (cut_prints cut) → IsPrintable e scope
cut_printable None scope h e member = absurd member
cut_printable (Some (TextCut text)) scope h e member = absurd member
cut_printable (Some (PrintCut f phname span)) scope h e (inl same) =
    subst (λ z. IsPrintable z scope) (sym same) h
cut_printable (Some (PrintCut f phname span)) scope h e (inr member) = absurd member
cut_printable (Some (TagCut tag)) scope h e member = tag_printable tag scope h e member

cut_if : (test : Bool) (one other : Option Cut) (scope : Scope) → CutPrintable one scope → CutPrintable other scope
    → CutPrintable (if test then option_or one other else other) scope
cut_if true None other scope h k = k
cut_if true (Some cut) other scope h k = h
cut_if false one other scope h k = k

placeholder_printable : (name : Name) (all uses : List Use) (scope : Scope) → UsesPrintable uses scope
    → CutPrintable (placeholder_cut name all uses) scope
placeholder_printable name all [] scope h = tt
placeholder_printable name all (u ∷ uses) scope h =
    cut_if (bytes_eq (name_of all u.base u.content) name) (cut_of_role u.role) (placeholder_cut name all uses) scope h.0
    (placeholder_printable name all uses scope h.1)

-- what a placeholder prints
pub placeholders_have_classes : (uses : List Use) (scope : Scope) (env : RunEnv) → UsesPrintable uses scope
    → EnvTyped scope env → (e : Expr) → HasPlaceholderOf uses e → HasClass (val e env) (printed_classes e scope)
placeholders_have_classes uses scope env h typed e has =
    printed_has_class e scope env
    (cut_printable (placeholder_cut has.0 uses uses) scope (placeholder_printable has.0 uses uses scope h) e has.1)
    typed

-- ---- lets

pub let_typed : (name : Name) (e : Expr) (scope : Scope) (env : RunEnv) → HasType e scope → EnvTyped scope env
    → EnvTyped (with_variable name (type_of e scope) scope) ((name, val e env) ∷ env)
let_typed name e scope env has typed =
    subst (λ r. EnvTyped (with_variable name r scope) ((name, val e env) ∷ env)) (sym has.typed)
    (env_typed_more name has.of (val e env) scope env (value_type e scope env has.of has.formed typed.fits has.typed)
    (val_kind e scope env has.of has.formed typed.fits typed.kinds has.typed) (val_short e env typed.short) typed)

-- a block that is bound
record BindsAs (b : Binding BoundBlock) (t : SoyType) : Type 0 where
  pub is : IsOf b t
  pub kind : IsKind b t
  pub short : IsShort b

block_binds_as : (k : Kind) (o : Outcome) → BindsAs (bound_as k o) (kind_type k)
block_binds_as kinds.Html o = record { is = refl; kind = (tt, inl refl); short = tt }
block_binds_as kinds.Attributes o = record { is = refl; kind = (tt, inl refl); short = tt }
block_binds_as kinds.Text o = record { is = tt; kind = tt; short = tt }

pub let_block_typed : (name : Name) (k : Kind) (o : Outcome) (b : Binding BoundBlock) (scope : Scope) (env : RunEnv)
    → b ≡ bound_as k o → EnvTyped scope env → EnvTyped ((name, kind_type k) ∷ scope) ((name, b) ∷ env)
let_block_typed name k o b scope env is typed =
    subst (λ z. EnvTyped ((name, kind_type k) ∷ scope) ((name, z) ∷ env)) (sym is)
    (env_typed_more name (kind_type k) (bound_as k o) scope env (block_binds_as k o).is (block_binds_as k o).kind
    (block_binds_as k o).short typed)

-- ---- loops

each_has : (P : Value → Type 0) (first : ℕ) (vs : Items) → EachItem P vs → (k : ℕ) (v : Value) → IsItem first vs k v
    → P v
each_has P first no_item h k v there = absurd there
each_has P first (item w vs) h k v (inl is) = subst P (sym is.1) h.0
each_has P first (item w vs) h k v (inr later) = each_has P (first + 1) vs h.1 k v later

each_short : (first : ℕ) (vs : Items) → ItemsShort vs → (k : ℕ) (v : Value) → IsItem first vs k v → HasShortLists v
each_short first no_item h k v there = absurd there
each_short first (item w vs) h k v (inl is) = subst HasShortLists (sym is.1) h.0
each_short first (item w vs) h k v (inr later) = each_short (first + 1) vs h.1 k v later

number_below : (first : ℕ) (vs : Items) (k : ℕ) (v : Value) → IsItem first vs k v → k < first + item_count vs
number_below first no_item k v there = absurd there
number_below first (item w vs) k v (inl is) = omega (arith, is.0)
number_below first (item w vs) k v (inr later) = omega (arith, number_below (first + 1) vs k v later)

record IsTurn (each : SoyType) (k : ℕ) (v : Value) : Type 0 where
  pub has : Has v each
  pub short : HasShortLists v
  pub number : k ≤ 9007199254740991

turn_of : (b : Binding BoundBlock) (each : SoyType) → IsOf b (ListType each) → IsShort b → (k : ℕ) (v : Value)
    → IsItem 0 (listed_items (operand b)) k v → IsTurn each k v
turn_of (Known (ListValue vs)) each is short k v there = record {
  has = each_has (λ w. Has w each) 0 vs is k v there;
  short = each_short 0 vs short.1 k v there;
  number = omega (arith, number_below 0 vs k v there, short.0);
}
turn_of (Known NullValue) each is short k v there = absurd is
turn_of (Known (BoolValue b)) each is short k v there = absurd is
turn_of (Known (IntValue n)) each is short k v there = absurd is
turn_of (Known (StringValue text)) each is short k v there = absurd is
turn_of (Known (MapValue es)) each is short k v there = absurd is
turn_of (Known (RecordValue es)) each is short k v there = absurd is
turn_of (BlockOf block) each is short k v there = let no : ⊥ = cc in absurd no

index_typed : (name : Name) (index : Option Name) (each : SoyType) (scope : Scope) (env : RunEnv) (k : ℕ) (v : Value)
    → IsTurn each k v → EnvTyped scope env
    → EnvTyped (body_scope name index (Ok (ListType each)) scope) (with_index index k ((name, Known v) ∷ env))
index_typed name None each scope env k v turn typed =
    env_typed_more name each (Known v) scope env turn.has tt turn.short typed
index_typed name (Some index) each scope env k v turn typed =
    env_typed_more index IntType (Known (IntValue (pos k))) ((name, each) ∷ scope) ((name, Known v) ∷ env) turn.number
    tt tt (env_typed_more name each (Known v) scope env turn.has tt turn.short typed)

pub loop_typed : (name : Name) (index : Option Name) (e : Expr) (scope : Scope) (env : RunEnv) (k : ℕ) (v : Value)
    → IsListed e scope → EnvTyped scope env → IsItem 0 (listed_items (valued e env)) k v
    → EnvTyped (body_scope name index (type_of e scope) scope) (with_index index k ((name, Known v) ∷ env))
loop_typed name index e scope env k v listed typed there =
    subst (λ r. EnvTyped (body_scope name index r scope) (with_index index k ((name, Known v) ∷ env)))
    (sym listed.typed)
    (index_typed name index listed.each scope env k v
    (turn_of (val e env) listed.each
    (value_type e scope env (ListType listed.each) listed.formed typed.fits listed.typed)
    (val_short e env typed.short) k v there) typed)

-- ---- the variables of a callee

accepted_is : (b : Binding BoundBlock) (to from : SoyType) → accepts to from ≡ true → BindsAs b from → BindsAs b to
accepted_is (Known v) to from e h = record { is = accepts_has to from v e h.is; kind = tt; short = h.short }
accepted_is (BlockOf block) to from e h = record {
  is = accepted_block to from e h.is;
  kind = (h.kind.0, accepted_class to from (kind_class block.kind) e h.kind.1);
  short = tt;
}

null_param : (required : Bool) (t : SoyType) → required ≡ false
    → BindsAs (Known NullValue) (if required then t else joined t NullType)
null_param false t e = record { is = null_joined t; kind = tt; short = tt }
null_param true t e = let no : ⊥ = cc in absurd no

module _ (c : RunContext) (q : FrameRun) (scope : Scope) (env : RunEnv) (typed : EnvTyped scope env) where
  given_as : (given : Given) (to : SoyType) → GivenTaken given to scope
      → BindsAs (given_binding_of c q given env) to
  given_as (Plain e) to h =
      accepted_is (val e env) to h.of h.takes
      (record {
        is = value_type e scope env h.of h.formed typed.fits h.typed;
        kind = val_kind e scope env h.of h.formed typed.fits typed.kinds h.typed;
        short = val_short e env typed.short;
      })
  given_as (Block k body) to h =
      accepted_is (bound_as k (inner_outcome c q k body env)) to (kind_type k) h
      (block_binds_as k (inner_outcome c q k body env))

  handed_as : (p : Param) (hands : Bool) → LeftTo hands p scope
      → BindsAs (handed_on hands (binding p.name env)) (param_type p)
  handed_as p true h =
      accepted_is (binding p.name env) (param_type p) h.of h.takes
      (record {
        is = variable_has p.name scope env h.of typed.fits h.there;
        kind = variable_kind p.name scope env h.of typed.fits typed.kinds h.there;
        short = variable_short p.name env typed.short;
      })
  handed_as p false h = null_param p.required p.of h

  abbrev GivenBinding : Option Given → Option (Binding BoundBlock) → Type 0
  GivenBinding None None = Unit {0}
  GivenBinding (Some given) (Some b) = b ≡ given_binding_of c q given env
  GivenBinding _ _ = ⊥

  binding_if : (test : Bool) (given : Given) (found : Option Given) (rest : Option (Binding BoundBlock))
      → GivenBinding found rest
      → GivenBinding (if test then Some given else found)
      (if test then Some (given_binding_of c q given env) else rest)
  binding_if true given found rest h = refl
  binding_if false given found rest h = h

  binding_given : (name : Name) (given : Arguments)
      → GivenBinding (given_of name given) (given_binding name (given_bindings c q given env))
  binding_given name no_argument = tt
  binding_given name (argument other given span rest) =
      binding_if (bytes_eq other name) given (given_of name rest) (given_binding name (given_bindings c q rest env))
      (binding_given name rest)

  param_as : (p : Param) (hands : Bool) (found : Option Given) (b : Option (Binding BoundBlock))
      → GivenBinding found b → ParamTakes found hands p scope
      → BindsAs (param_binding b (handed_on hands (binding p.name env))) (param_type p)
  param_as p hands None None is h = handed_as p hands h
  param_as p hands (Some given) (Some b) is h =
      subst (λ z. BindsAs z (param_type p)) (sym is) (given_as given (param_type p) h)
  param_as p hands None (Some b) is h = absurd is
  param_as p hands (Some given) None is h = absurd is

  pub callee_typed : (ps : List Param) (given : Arguments) (all : Bool) (own : List Param)
      → ParamsTake ps given all own scope
      → EnvTyped (param_scope ps) (callee_env ps (given_bindings c q given env) all own env)
  callee_typed [] given all own h = record { fits = tt; kinds = tt; short = tt }
  callee_typed (p ∷ ps) given all own h =
      let one : BindsAs (param_binding (given_binding p.name (given_bindings c q given env))
      (handed_on (all && is_some (param_of p.name own)) (binding p.name env))) (param_type p) =
      param_as p (all && is_some (param_of p.name own)) (given_of p.name given)
      (given_binding p.name (given_bindings c q given env)) (binding_given p.name given) h.0 in
      env_typed_more p.name (param_type p) (param_binding (given_binding p.name (given_bindings c q given env))
      (handed_on (all && is_some (param_of p.name own)) (binding p.name env))) (param_scope ps)
      (callee_env ps (given_bindings c q given env) all own env) one.is one.kind one.short
      (callee_typed ps given all own h.1)

-- ---- data

values_kinds : (scope : Scope) (env : RunEnv) → Fits scope env → BindsValues env → EnvKinds scope env
values_kinds [] [] f h = tt
values_kinds [] (b ∷ env) f h = absurd f
values_kinds (v ∷ scope) [] f h = absurd f
values_kinds (v ∷ scope) ((name, Known w) ∷ env) f h = (tt, values_kinds scope env f.2 h)
values_kinds (v ∷ scope) ((name, BlockOf block) ∷ env) f h = absurd h

pub data_typed : (d : Declared) (env : RunEnv) → FitsData d env → EnvTyped (param_scope d.template.params) env
data_typed d env data_ = record {
  fits = data_.fits;
  kinds = values_kinds (param_scope d.template.params) env data_.fits data_.values;
  short = data_.short;
}
