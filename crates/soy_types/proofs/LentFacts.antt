-- The data of JSON values of `json`: what `serde_json` reads, member by name and item by item.
use Rattle.std.proofs.Common.{◌≡◌, ℕ, zero, suc, ◌+◌, ◌<◌, ℤ, Bool, true, false, ◌&&◌, cond, List, [], ◌∷◌, drop}
use Rattle.std.proofs.Common.{length, slice_index_or, Option, Some, None, option_map, option_and_then, true≢false}
use Rattle.std.proofs.Common.{bytes_eq, Global, arith, refl, sym, ap, ◌∙◌, subst}
use Rattle.std.proofs.Common.{Ordering, Less, Equal, Greater, nat_cmp}
use Rattle.std.proofs.lemmas.Slice.Eq.{bytes_eq-Decides}
use Rattle.std.specs.BTreeMap.{insert_entry}
use Rattle.std.specs.Cmp.Lexicographic.{slice_cmp}
use Rattle.std.specs.Ordering.{match_ordering}
use Rattle.std.specs.Borrow.{Bor}
use Rattle.std.specs.Prelude.{is_some, unwrap_or}
use Rattle.json.specs.Token.{Token}
use Rattle.json.specs.Lex.{tokens}
use Rattle.json.specs.Json as json
use Rattle.json.specs.Find as json_find
use Rattle.json.specs.Find.{later_or}
use Rattle.json.specs.Value.{items_view, members_view, value_view}
use Rattle.json.specs.declared.value.Value as lent
use Rattle.serde_json.specs.Data as data_of_json
use Rattle.serde_json.specs.Data.{Data, Num, Members, array, no_members, number, object, put, unsigned}
use Rattle.serde_json.specs.Find.{as_i64, get, get_member}
use Rattle.serde_json.specs.Read.{max_depth, number_of, of_items, of_json, of_members, read}
use Rattle.serde_json.proofs.Views.{get_member-put, get_member-put_other}
use Rattle.soy_types.specs.LentData.{data_in_order, data_items, data_members, data_of, has_values, items_have_values}
use Rattle.soy_types.specs.LentData.{members_have_values}

-- ---- numbers

-- the integer of a number that has a value
pub int_is : (o : Option Num) (n : Option ℤ) → Some n ≡ option_map as_i64 o → as_i64 (unwrap_or o (unsigned 0)) ≡ n
int_is None n e = let no : ⊥ = cc in absurd no
int_is (Some m) n e = cc

has_number : (o : Option Num) → is_some o ≡ true → option_map number o ≡ Some (number (unwrap_or o (unsigned 0)))
has_number None h = let no : ⊥ = cc in absurd no
has_number (Some m) h = refl

pub both : (a b : Bool) → (a && b) ≡ true → (a ≡ true) × (b ≡ true)
both true b h = (refl, h)
both false b h = let no : ⊥ = cc in absurd no

-- ---- what is read

mutual
  pub of_json-data : (j : json.Json) → has_values j ≡ true → of_json j ≡ Some (data_of j)
  of_json-data json.null h = refl
  of_json-data (json.boolean b) h = refl
  of_json-data (json.number s) h = has_number (number_of s) h
  of_json-data (json.string s) h = refl
  of_json-data (json.array js) h = ap (option_map array) (of_items-data js h)
  of_json-data (json.object ms) h = ap (option_map object) (of_members-data ms no_members h)

  of_items-data : (js : json.Items) → items_have_values js ≡ true → of_items js ≡ Some (data_items js)
  of_items-data json.no_items h = refl
  of_items-data (json.item j js) h =
      let b = both (has_values j) (items_have_values js) h in
      ap (option_and_then (λ d. option_map (data_of_json.item d) (of_items js))) (of_json-data j b.0)
      ∙ ap (option_map (data_of_json.item (data_of j))) (of_items-data js b.1)

  of_members-data : (ms : json.Members) (found : Members) → members_have_values ms ≡ true
      → of_members ms found ≡ Some (data_members ms found)
  of_members-data json.no_members found h = refl
  of_members-data (json.member k j ms) found h =
      let b = both (has_values j) (members_have_values ms) h in
      ap (option_and_then (λ d. of_members ms (put k d found))) (of_json-data j b.0)
      ∙ of_members-data ms (put k (data_of j) found) b.1

-- a text whose tokens are one value is read as its data
pub read_data_of : (text : List ℕ) (ts : List Token) (j : json.Json) → ts ≡ tokens text
    → option_and_then (λ p. json.if_last p.0 p.1) (json.value max_depth ts) ≡ Some j → has_values j ≡ true
    → read text ≡ Some (data_of j)
read_data_of text ts j are whole h =
    ap (λ us. option_and_then of_json (option_and_then (λ p. json.if_last p.0 p.1) (json.value max_depth us))) (sym are)
    ∙ ap (option_and_then of_json) whole
    ∙ of_json-data j h

-- ---- members by name

abbrev found_or : Option json.Json → Option Data → Option Data
found_or None before = before
found_or (Some j) before = Some (data_of j)

put_at : (b : Bool) (k l : List ℕ) (j : json.Json) (found : Members) → bytes_eq l k ≡ b
    → get_member k (put l (data_of j) found) ≡ found_or (cond b (Some j) None) (get_member k found)
put_at true k l j found e =
    subst (λ x. get_member x (put l (data_of j) found) ≡ Some (data_of j)) ((bytes_eq-Decides l k).0 e)
    (get_member-put l (data_of j) found)
put_at false k l j found e =
    get_member-put_other k l (data_of j) found
    (λ same. true≢false (sym ((bytes_eq-Decides l k).1 (sym same)) ∙ e))

later : (k l : List ℕ) (j : json.Json) (after : Option json.Json) (found : Members)
    → found_or after (get_member k (put l (data_of j) found))
    ≡ found_or (later_or after (cond (bytes_eq l k) (Some j) None)) (get_member k found)
later k l j (Some i) found = refl
later k l j None found = put_at (bytes_eq l k) k l j found refl

members_found : (k : List ℕ) (ms : json.Members) (found : Members)
    → get_member k (data_members ms found) ≡ found_or (json_find.get_member k ms) (get_member k found)
members_found k json.no_members found = refl
members_found k (json.member l j ms) found =
    members_found k ms (put l (data_of j) found) ∙ later k l j (json_find.get_member k ms) found

or_none : (o : Option json.Json) → found_or o None ≡ option_map data_of o
or_none None = refl
or_none (Some j) = refl

-- the last member of a name is found
get_found : (k : List ℕ) (j : json.Json) → get k (data_of j) ≡ option_map data_of (json_find.get k j)
get_found k json.null = refl
get_found k (json.boolean b) = refl
get_found k (json.number s) = refl
get_found k (json.string s) = refl
get_found k (json.array js) = refl
get_found k (json.object ms) = members_found k ms no_members ∙ or_none (json_find.get_member k ms)

-- the data of what is found are those of its view
data_of_view : (r : Option (Bor (lent.Value Global)))
    → option_map (λ v. data_of (value_view v.now)) r ≡ option_map data_of (option_map (λ v. value_view v.now) r)
data_of_view None = refl
data_of_view (Some v) = refl

-- what is found under the bytes of a name
pub member_found : (r : Option (Bor (lent.Value Global))) (key bytes : List ℕ) (j : json.Json)
    → option_map (λ v. value_view v.now) r ≡ json_find.get key j → key ≡ bytes
    → option_map (λ v. data_of (value_view v.now)) r ≡ get bytes (data_of j)
member_found r key bytes j is same =
    data_of_view r ∙ ap (option_map data_of) is ∙ sym (get_found key j) ∙ ap (λ k. get k (data_of j)) same

-- the items from an index on
pub items-left : (vs : List (lent.Value Global)) (i : ℕ) (v : lent.Value Global) → i < length vs
    → v ≡ slice_index_or vs i v
    → items_view (drop i vs) ≡ json.item (value_view v) (items_view (drop (i + 1) vs))
items-left [] i v below_ is = absurd (omega arith)
items-left (x ∷ vs) zero v below_ is = rw is refl
items-left (x ∷ vs) (suc i) v below_ is =
    let e : suc i + 1 ≡ suc (i + 1) = omega arith in rw e (items-left vs i v (omega arith) is)

pub members-left : (ms : List (Bor (List ℕ) × lent.Value Global)) (i : ℕ) (m : Bor (List ℕ) × lent.Value Global)
    → i < length ms → m ≡ slice_index_or ms i m
    → members_view (drop i ms) ≡ json.member m.0.now (value_view m.1) (members_view (drop (i + 1) ms))
members-left [] i m below_ is = absurd (omega arith)
members-left (x ∷ ms) zero m below_ is = rw is refl
members-left (x ∷ ms) (suc i) m below_ is =
    let e : suc i + 1 ≡ suc (i + 1) = omega arith in rw e (members-left ms i m (omega arith) is)

-- ---- members in the order of their keys

abbrev Lent : Type 0
Lent = Bor (List ℕ) × Bor (lent.Value Global)

abbrev pub lent_cmp : Bor (List ℕ) → Bor (List ℕ) → Ordering
lent_cmp x y = slice_cmp nat_cmp x.now y.now

ordered_one : (o : Ordering) (a b c : List Lent)
    → data_in_order (match_ordering o a b c)
    ≡ match_ordering o (data_in_order a) (data_in_order b) (data_in_order c)
ordered_one Less a b c = refl
ordered_one Equal a b c = refl
ordered_one Greater a b c = refl

-- what is inserted is put
pub inserted : (es : List Lent) (k : Bor (List ℕ)) (v : Bor (lent.Value Global))
    → data_in_order (insert_entry lent_cmp es k v) ≡ put k.now (data_of (value_view v.now)) (data_in_order es)
inserted [] k v = refl
inserted (e ∷ es) k v = ordered_one (lent_cmp k e.0) _ _ _ ∙ rw (inserted es k v)

-- one member more goes in
pub one_in_order : (ms : List (Bor (List ℕ) × lent.Value Global)) (i : ℕ) (m : Bor (List ℕ) × lent.Value Global)
    (es new : List Lent) (k : Bor (List ℕ)) (v : Bor (lent.Value Global)) (all : Members) → i < length ms
    → m ≡ slice_index_or ms i m → k.now ≡ m.0.now → v.now ≡ m.1 → new ≡ insert_entry lent_cmp es k v
    → all ≡ data_members (members_view (drop i ms)) (data_in_order es)
    → all ≡ data_members (members_view (drop (i + 1) ms)) (data_in_order new)
one_in_order ms i m es new k v all below_ is key value made so_far =
    so_far
    ∙ ap (λ left. data_members left (data_in_order es)) (members-left ms i m below_ is)
    ∙ ap (data_members (members_view (drop (i + 1) ms)))
    (ap (λ n. put n (data_of (value_view m.1)) (data_in_order es)) (sym key)
    ∙ ap (λ x. put k.now (data_of (value_view x)) (data_in_order es)) (sym value)
    ∙ sym (ap data_in_order made ∙ inserted es k v))
