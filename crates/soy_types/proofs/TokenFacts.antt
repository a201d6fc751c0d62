-- What tokens are read as, a part at a time.
use Rattle.std.proofs.Common.{◌≡◌, ℕ, ◌+◌, ◌-◌, ◌<◌, ◌≤◌, Bool, true, false, ◌&&◌, List, [], ◌∷◌, ◌++◌, map, length}
use Rattle.std.proofs.Common.{Option, Some, None}
use Rattle.std.proofs.Common.{refl, sym, ap, ◌∙◌, subst, IfOk, arith}
use Rattle.std.specs.Prelude.{OnOk, Result, Ok, Err, is_some, option_and_then}
use Rattle.std.specs.Str.{chars}
use Rattle.json.specs.Lex.{tokens}
use Rattle.json.specs.Token.{Token}
use Rattle.json.specs.Json as json
use Rattle.json.specs.Json.{parse_map}
use Rattle.json.proofs.Grammar as grammar
use Rattle.json.proofs.Grammar.{items_more, members_more, read_key-shorter, value_is, value-begin_array}
use Rattle.json.proofs.Grammar.{value-begin_object}
use Rattle.serde_json.specs.Data.{Data, Members, no_members, put}
use Rattle.serde_json.specs.Find.{as_i64}
use Rattle.serde_json.specs.Read.{max_depth, number_of, read}
use Rattle.soy_base.specs.declared.path.PathStep.TheVariants as path_step
use Rattle.soy_rules.specs.Templates.{param_scope, param_type}
use Rattle.soy_tree.specs.declared.value.Entry.{Entry}
use Rattle.soy_tree.specs.declared.value.Value as code_value
use Rattle.soy_tree.specs.Trees.{Param}
use Rattle.soy_tree.specs.Types.{Name, SoyType, BoolType, IntType, StringType, ListType}
use Rattle.soy_tree.specs.Values.{Value, BoolValue, ListValue, RecordValue, StringValue}
use Rattle.soy_tree.specs.ViewTypes.{fields_of}
use Rattle.soy_tree.specs.ViewValues.{entries_of, items_of, view_value}
use Rattle.soy_types.specs.declared.unread.Unread.{Unread}
use Rattle.soy_types.specs.Filling.{AreEntries, FieldAt, NullsFit, are_distinct}
use Rattle.soy_types.specs.Fits.{Fits}
use Rattle.soy_types.specs.LentData.{data_items, data_members, data_of, has_values, items_have_values}
use Rattle.soy_types.specs.LentData.{members_have_values, number_or_zero}
use Rattle.soy_types.specs.Paths.{all_read, below, headed, onward}
use Rattle.soy_types.specs.Read.{field_results, int_read, item_results, member_or_null, under_key, value_at}
use Rattle.soy_types.specs.ReadData.{param_results, refused, values_of_json}
use Rattle.soy_types.specs.TokenValues.{AreItemsAt, ReadsAt, ReadsDocument, ReadsField, ReadsItems, ReadsMembers}
use Rattle.soy_types.specs.TokenValues.{ReadsObject, TakesMember}
use Rattle.soy_types.proofs.Filled.{record_is}
use Rattle.soy_types.proofs.LentFacts.{both, read_data_of}

-- ---- items and members with those before

abbrev items_joined : json.Items → json.Items → json.Items
items_joined json.no_items rest = rest
items_joined (json.item j js) rest = json.item j (items_joined js rest)

abbrev members_joined : json.Members → json.Members → json.Members
members_joined json.no_members rest = rest
members_joined (json.member k j ms) rest = json.member k j (members_joined ms rest)

abbrev one_item : json.Json → json.Items
one_item j = json.item j json.no_items

abbrev one_member : List ℕ → json.Json → json.Members
one_member k j = json.member k j json.no_members

items_push : (js : json.Items) (j : json.Json) (rest : json.Items)
    → items_joined js (json.item j rest) ≡ items_joined (items_joined js (one_item j)) rest
items_push json.no_items j rest = refl
items_push (json.item i js) j rest = ap (json.item i) (items_push js j rest)

members_push : (ms : json.Members) (k : List ℕ) (j : json.Json) (rest : json.Members)
    → members_joined ms (json.member k j rest) ≡ members_joined (members_joined ms (one_member k j)) rest
members_push json.no_members k j rest = refl
members_push (json.member l i ms) k j rest = ap (json.member l i) (members_push ms k j rest)

-- one more of them
one_more_item : (js : json.Items) (j : json.Json) (r : Option (json.Items × List Token))
    → parse_map (items_joined js) (parse_map (json.item j) r)
    ≡ parse_map (items_joined (items_joined js (one_item j))) r
one_more_item js j None = refl
one_more_item js j (Some p) = ap (λ is. Some (is, p.1)) (items_push js j p.0)

one_more_member : (ms : json.Members) (k : List ℕ) (j : json.Json) (r : Option (json.Members × List Token))
    → parse_map (members_joined ms) (parse_map (json.member k j) r)
    ≡ parse_map (members_joined (members_joined ms (one_member k j))) r
one_more_member ms k j None = refl
one_more_member ms k j (Some p) = ap (λ is. Some (is, p.1)) (members_push ms k j p.0)

items_end : (js : json.Items) → items_joined js json.no_items ≡ js
items_end json.no_items = refl
items_end (json.item j js) = ap (json.item j) (items_end js)

members_end : (ms : json.Members) → members_joined ms json.no_members ≡ ms
members_end json.no_members = refl
members_end (json.member k j ms) = ap (json.member k j) (members_end ms)

and_true : (a b : Bool) → a ≡ true → b ≡ true → (a && b) ≡ true
and_true true b h i = i
and_true false b h i = let no : ⊥ = cc in absurd no

-- their numbers have values still
items_have : (js : json.Items) (j : json.Json) → items_have_values js ≡ true → has_values j ≡ true
    → items_have_values (items_joined js (one_item j)) ≡ true
items_have json.no_items j h is = and_true (has_values j) true is refl
items_have (json.item i js) j h is =
    let b = both (has_values i) (items_have_values js) h in
    and_true (has_values i) _ b.0 (items_have js j b.1 is)

members_have : (ms : json.Members) (k : List ℕ) (j : json.Json) → members_have_values ms ≡ true
    → has_values j ≡ true → members_have_values (members_joined ms (one_member k j)) ≡ true
members_have json.no_members k j h is = and_true (has_values j) true is refl
members_have (json.member l i ms) k j h is =
    let b = both (has_values i) (members_have_values ms) h in
    and_true (has_values i) _ b.0 (members_have ms k j b.1 is)

-- the data of a member more
data_more : (ms : json.Members) (k : List ℕ) (j : json.Json) (found : Members)
    → data_members (members_joined ms (one_member k j)) found ≡ put k (data_of j) (data_members ms found)
data_more json.no_members k j found = refl
data_more (json.member l i ms) k j found = data_more ms k j (put l (data_of i) found)

-- ---- the values of items

one_value : (t : SoyType) (js : json.Items) (vs : List code_value.Value) (j : json.Json) (v : code_value.Value)
    → AreItemsAt t js (map view_value vs) → value_at t (data_of j) ≡ Ok (view_value v)
    → AreItemsAt t (items_joined js (one_item j)) (map view_value (vs ++ v ∷ []))
one_value t json.no_items [] j v are is = (is, tt)
one_value t json.no_items (w ∷ vs) j v are is = absurd are
one_value t (json.item i js) [] j v are is = absurd are
one_value t (json.item i js) (w ∷ vs) j v are is = (are.0, one_value t js vs j v are.1 is)

values_read : (t : SoyType) (js : json.Items) (vs : List Value) (n : ℕ) → AreItemsAt t js vs
    → all_read (item_results (value_at t) n (data_items js)) ≡ Ok vs
values_read t json.no_items [] n are = refl
values_read t json.no_items (v ∷ vs) n are = absurd are
values_read t (json.item j js) [] n are = absurd are
values_read t (json.item j js) (v ∷ vs) n are =
    ap (λ r. headed (below (path_step.Index n) r) (all_read (item_results (value_at t) (n + 1) (data_items js)))) are.0
    ∙ ap (headed (Ok v)) (values_read t js vs (n + 1) are.1)

-- ---- one token or what it opens

pub string_read : (depth : ℕ) (old new : List Token) (s : List ℕ) (r : Result code_value.Value Unread)
    → old ≡ Token.string s ∷ new → Fits view_value (Ok (StringValue (chars s))) r
    → IfOk r (λ v. ReadsAt depth StringType old new (view_value v))
string_read depth old new s (Ok v) e fits =
    (json.string s, ap (json.value depth) e ∙ value_is depth (Token.string s ∷ new), refl, fits)
string_read depth old new s (Err unread) e fits = tt

pub int_read_of : (depth : ℕ) (old new : List Token) (s : List ℕ) (r : Result code_value.Value Unread)
    → old ≡ Token.number s ∷ new → Fits view_value (int_read (as_i64 (number_or_zero s))) r
    → OnOk r (is_some (number_of s) ≡ true) → IfOk r (λ v. ReadsAt depth IntType old new (view_value v))
int_read_of depth old new s (Ok v) e fits has =
    (json.number s, ap (json.value depth) e ∙ value_is depth (Token.number s ∷ new), has, fits)
int_read_of depth old new s (Err unread) e fits has = tt

pub bool_read_of : (depth : ℕ) (old new : List Token) (b : Bool) (v : Value) → old ≡ Token.boolean b ∷ new
    → v ≡ BoolValue b → ReadsAt depth BoolType old new v
bool_read_of depth old new b v e is =
    (json.boolean b, ap (json.value depth) e ∙ value_is depth (Token.boolean b ∷ new), refl, ap Ok (sym is))

pub tree_read : (depth : ℕ) (t : SoyType) (old new : List Token) (j : json.Json) (r : Result code_value.Value Unread)
    → json.value depth old ≡ Some (j, new) → has_values j ≡ true → Fits view_value (value_at t (data_of j)) r
    → IfOk r (λ v. ReadsAt depth t old new (view_value v))
tree_read depth t old new j (Ok v) parsed has fits = (j, parsed, has, fits)
tree_read depth t old new j (Err unread) parsed has fits = tt

pub list_read : (depth : ℕ) (t : SoyType) (old mid new : List Token) (r : Result code_value.Value Unread)
    → old ≡ Token.begin_array ∷ mid → 0 < depth
    → IfOk r (λ v. ReadsItems (depth - 1) t mid new (view_value v))
    → IfOk r (λ v. ReadsAt depth (ListType t) old new (view_value v))
list_read depth t old mid new (Ok v) e below_ is = (
  json.array is.0,
  ap (json.value depth) e ∙ value-begin_array depth mid below_ ∙ ap (parse_map json.array) is.2,
  is.3,
  ap (onward (λ vs. ListValue (items_of vs))) (values_read t is.0 is.1 0 is.4) ∙ ap Ok (sym is.5),
)
list_read depth t old mid new (Err unread) e below_ is = tt

pub object_read : (depth : ℕ) (fields : List (Name × SoyType)) (old mid new : List Token)
    (r : Result code_value.Value Unread) → old ≡ Token.begin_object ∷ mid → 0 < depth
    → IfOk r (λ v. ReadsMembers (depth - 1) fields mid new (view_value v))
    → IfOk r (λ v. ReadsObject depth fields old new (view_value v))
object_read depth fields old mid new (Ok v) e below_ is = (
  is.0,
  ap (json.value depth) e ∙ value-begin_object depth mid below_ ∙ ap (parse_map json.object) is.1,
  is.2,
  is.3,
)
object_read depth fields old mid new (Err unread) e below_ is = tt

-- what is read at an equal type
pub at_type : (depth : ℕ) (t u : SoyType) (old new : List Token) (r : Result code_value.Value Unread) → t ≡ u
    → IfOk r (λ v. ReadsAt depth u old new (view_value v)) → IfOk r (λ v. ReadsAt depth t old new (view_value v))
at_type depth t u old new r e is = subst (λ x. IfOk r (λ v. ReadsAt depth x old new (view_value v))) (sym e) is

-- the value of a field at its index
pub field_read : (depth i : ℕ) (name : Name) (t : SoyType) (fields : List (Name × SoyType)) (old new : List Token)
    (r : Result code_value.Value Unread) → FieldAt i name t fields
    → IfOk r (λ v. ReadsAt depth t old new (view_value v))
    → IfOk r (λ v. ReadsField depth i fields old new (view_value v))
field_read depth i name t fields old new (Ok v) at is = (name, t, at, is)
field_read depth i name t fields old new (Err unread) at is = tt

-- ---- the whole

params_read : (ps : List Param) (d : Data) → param_results ps d ≡ field_results (fields_of (param_scope ps)) d
params_read [] d = refl
params_read (p ∷ ps) d =
    ap (λ rs. under_key p.name (value_at (param_type p) (member_or_null p.name d)) ∷ rs) (params_read ps d)

pub document_read : (ps : List Param) (old new : List Token) (v : Value)
    → ReadsObject max_depth (param_scope ps) old new v → new ≡ [] → ReadsDocument ps old v
document_read ps old new v is end = (
  json.object is.0,
  ap (option_and_then (λ p. json.if_last p.0 p.1)) (is.1 ∙ ap (λ ts. Some (json.object is.0, ts)) end),
  is.2,
  ap (λ rs. onward (λ es. RecordValue (entries_of es)) (all_read rs)) (params_read ps _) ∙ is.3,
)

-- ---- loops

-- the items so far and their values, and the tokens that are left
abbrev pub ItemsSoFar : ℕ → SoyType → List Token → List Token → List code_value.Value → Type 0
ItemsSoFar depth t all left vs =
    (js : json.Items) × (n : ℕ) × (length left ≤ n) × (json.items (json.value depth) (length all) all
    ≡ parse_map (items_joined js) (json.items (json.value depth) n left)) × (items_have_values js ≡ true)
    × AreItemsAt t js (map view_value vs)

no_item_before : (r : Option (json.Items × List Token)) → r ≡ parse_map (items_joined json.no_items) r
no_item_before None = refl
no_item_before (Some p) = refl

pub items_start : (depth : ℕ) (t : SoyType) (all : List Token) (vs : List code_value.Value) → vs ≡ []
    → ItemsSoFar depth t all all vs
items_start depth t all vs none = (
  json.no_items,
  length all,
  omega arith,
  no_item_before _,
  refl,
  subst (λ ws. AreItemsAt t json.no_items (map view_value ws)) (sym none) tt,
)

pub items_turn : (depth : ℕ) (t : SoyType) (all left mid new : List Token) (vs now : List code_value.Value)
    (v : code_value.Value) → ItemsSoFar depth t all left vs → json.after_end_array left ≡ None → mid ≡ left
    → ReadsAt depth t mid new (view_value v) → length new < length mid → now ≡ vs ++ v ∷ []
    → ItemsSoFar depth t all new now
items_turn depth t all left mid new vs now v so_far going same read shorter pushed =
    let js = so_far.0 in
    let n = so_far.1 in
    let parsed : json.value depth left ≡ Some (read.0, new) = ap (json.value depth) (sym same) ∙ read.1 in
    let less : length new < length left = subst (λ ts. length new < length ts) same shorter in
    let turn = items_more (json.value depth) n left new read.0 (omega (arith, so_far.2, less)) going parsed in (
      items_joined js (one_item read.0),
      n - 1,
      omega (arith, so_far.2, less),
      so_far.3 ∙ ap (parse_map (items_joined js)) turn ∙ one_more_item js read.0 _,
      items_have js read.0 so_far.4 read.2,
      subst (λ ws. AreItemsAt t (items_joined js (one_item read.0)) (map view_value ws)) (sym pushed)
          (one_value t js vs read.0 v so_far.5 read.3),
    )

pub items_finish : (depth : ℕ) (t : SoyType) (all left new : List Token) (vs : List code_value.Value) (v : Value)
    → ItemsSoFar depth t all left vs → json.after_end_array left ≡ Some new
    → v ≡ ListValue (items_of (map view_value vs)) → ReadsItems depth t all new v
items_finish depth t all left new vs v so_far ends is = (
  so_far.0,
  map view_value vs,
  so_far.3
      ∙ ap (parse_map (items_joined so_far.0)) (grammar.items_end (json.value depth) so_far.1 left new so_far.2 ends)
      ∙ ap (λ js. Some (js, new)) (items_end so_far.0),
  so_far.4,
  so_far.5,
  is,
)

-- the members so far and the entries that they fill, and the tokens that are left
abbrev pub MembersSoFar : ℕ → List (Name × SoyType) → List Token → List Token → List Entry → Type 0
MembersSoFar depth fields all left es =
    (ms : json.Members) × (n : ℕ) × (length left ≤ n) × (json.members (json.value depth) (length all) all
    ≡ parse_map (members_joined ms) (json.members (json.value depth) n left)) × (members_have_values ms ≡ true)
    × AreEntries fields (data_members ms no_members) es × (are_distinct es ≡ true)

no_member_before : (r : Option (json.Members × List Token)) → r ≡ parse_map (members_joined json.no_members) r
no_member_before None = refl
no_member_before (Some p) = refl

pub members_start : (depth : ℕ) (fields : List (Name × SoyType)) (all : List Token) (es : List Entry)
    → AreEntries fields no_members es → are_distinct es ≡ true → MembersSoFar depth fields all all es
members_start depth fields all es are alone =
    (json.no_members, length all, omega arith, no_member_before _, refl, are, alone)

pub members_turn : (depth : ℕ) (fields : List (Name × SoyType)) (all left mid new : List Token) (k : List ℕ)
    (es now : List Entry) → MembersSoFar depth fields all left es → json.read_key left ≡ Some (Some k, mid)
    → TakesMember depth fields k mid new es now → length new < length mid → MembersSoFar depth fields all new now
members_turn depth fields all left mid new k es now so_far key takes shorter =
    let ms = so_far.0 in
    let n = so_far.1 in
    let less = read_key-shorter left (Some k) mid key in
    let turn = members_more (json.value depth) n k left mid new takes.0 (omega (arith, so_far.2, less)) key takes.1 in
    let kept = takes.3 (data_members ms no_members) so_far.5 so_far.6 in (
      members_joined ms (one_member k takes.0),
      n - 1,
      omega (arith, so_far.2, less, shorter),
      so_far.3 ∙ ap (parse_map (members_joined ms)) turn ∙ one_more_member ms k takes.0 _,
      members_have ms k takes.0 so_far.4 takes.2,
      subst (λ ds. AreEntries fields ds now) (sym (data_more ms k takes.0 no_members)) kept.0,
      kept.1,
    )

pub members_finish : (depth : ℕ) (fields : List (Name × SoyType)) (all left new : List Token) (es : List Entry)
    (v : Value) → MembersSoFar depth fields all left es → json.read_key left ≡ Some (None, new)
    → NullsFit fields es → v ≡ view_value (code_value.Fields es) → ReadsMembers depth fields all new v
members_finish depth fields all left new es v so_far ends fit is = (
  so_far.0,
  so_far.3
      ∙ ap (parse_map (members_joined so_far.0))
      (grammar.members_end (json.value depth) so_far.1 left new so_far.2 ends)
      ∙ ap (λ ms. Some (ms, new)) (members_end so_far.0),
  so_far.4,
  record_is fields (data_members so_far.0 no_members) es so_far.5 fit ∙ ap Ok (sym is),
)

-- the same of a text
pub text_read : (ps : List Param) (text : List ℕ) (ts : List Token) (r : Result code_value.Value Unread)
    → ts ≡ tokens text → IfOk r (λ v. ReadsDocument ps ts (view_value v))
    → IfOk r (λ v. values_of_json ps (read text) ≡ Ok (view_value v))
text_read ps text ts (Ok v) are is =
    ap (values_of_json ps) (read_data_of text ts is.0 are is.1 is.2) ∙ ap refused is.3
text_read ps text ts (Err unread) are is = tt
