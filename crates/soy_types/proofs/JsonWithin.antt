-- How many items the arrays of a JSON text have: no more than the text has bytes.
use Rattle.std.proofs.Common.{◌≡◌, ◌≤◌, ℕ, zero, suc, ◌+◌, Bool, true, false, List, [], ◌∷◌, length, refl, arith}
use Rattle.std.specs.Prelude.{Option, Some, None, IfSome, option_map, option_and_then}
use Rattle.std.specs.Ordering.{nat_cmp, match_ordering}
use Rattle.std.proofs.Common.{Ordering}
use Rattle.std.specs.declared.cmp.Ordering.TheVariants.{Less, Equal, Greater}
use Rattle.std.specs.Cmp.Lexicographic.{slice_cmp}
use Rattle.json.specs.Token.{Token}
use Rattle.json.specs.Lex.{Lexeme, Class, Mode, Place, class, lex, lex_byte, begins_colon, if_allowed, may_begin}
use Rattle.json.specs.Lex.{may_close, place_token, punctuate, tokens}
use Rattle.json.specs.Json as json
use Rattle.json.specs.Json.{Parse, after_end_array, items, items_step, members, members_step, parse_map, read_key}
use Rattle.json.specs.Json.{value, value_with}
use Rattle.serde_json.specs.Data as data_of
use Rattle.serde_json.specs.Data.{Data, Members, null, boolean, number, string, array, object, put}
use Rattle.serde_json.specs.Data.{Num, no_members, member}
use Rattle.serde_json.specs.Find.{get, get_member}
use Rattle.serde_json.specs.Read.{max_depth, number_of, of_items, of_json, of_members, read}

-- ---- tokens

few_of : (m : Mode) (c : Class) (x : ℕ) (xs : List ℕ) (k : Mode → List Lexeme)
    → ((next : Mode) → length (k next) ≤ length xs) → length (lex_byte m c x xs k) ≤ length xs + 1
few_of Mode.between Class.quote x xs k few = omega (arith, few Mode.in_string)
few_of Mode.between Class.backslash x xs k few = omega (arith, few Mode.in_word)
few_of Mode.between Class.operator x xs k few = omega (arith, few Mode.between)
few_of Mode.between Class.space x xs k few = omega (arith, few Mode.between)
few_of Mode.between Class.other x xs k few = omega (arith, few Mode.in_word)
few_of Mode.in_word Class.quote x xs k few = omega (arith, few Mode.in_word)
few_of Mode.in_word Class.backslash x xs k few = omega (arith, few Mode.in_word)
few_of Mode.in_word Class.operator x xs k few = omega (arith, few Mode.between)
few_of Mode.in_word Class.space x xs k few = omega (arith, few Mode.between)
few_of Mode.in_word Class.other x xs k few = omega (arith, few Mode.in_word)
few_of Mode.in_string Class.quote x xs k few = omega (arith, few Mode.between)
few_of Mode.in_string Class.backslash x xs k few = omega (arith, few Mode.in_escape)
few_of Mode.in_string Class.operator x xs k few = omega (arith, few Mode.in_string)
few_of Mode.in_string Class.space x xs k few = omega (arith, few Mode.in_string)
few_of Mode.in_string Class.other x xs k few = omega (arith, few Mode.in_string)
few_of Mode.in_escape c x xs k few = omega (arith, few Mode.in_string)

-- at most one lexeme a byte
few_lexemes : (m : Mode) (xs : List ℕ) → length (lex m xs) ≤ length xs
unfolding lex
few_lexemes m [] = omega arith
few_lexemes m (x ∷ xs) =
    let few = few_of m (class x) x xs (λ next. lex next xs) (λ next. few_lexemes next xs) in omega (arith, few)

few_allowed : (b : Bool) (t : Token) (k : Place → List Token) (next : Place) (n : ℕ) → length (k next) ≤ n + 1
    → length (if_allowed b t k next) ≤ n + 2
few_allowed true t k next n few = omega (arith, few)
few_allowed false t k next n few = omega arith

few_placed : (p : Place) (t : Token) (b : Bool) (k : Place → List Token) (n : ℕ)
    → ((next : Place) → length (k next) ≤ n + 1) → length (place_token p t b k) ≤ n + 2
few_placed p Token.begin_object b k n few = few_allowed (may_begin p) Token.begin_object k Place.fresh n (few Place.fresh)
few_placed p Token.end_object b k n few =
    few_allowed (may_close p) Token.end_object k Place.after_value n (few Place.after_value)
few_placed p Token.begin_array b k n few = few_allowed (may_begin p) Token.begin_array k Place.fresh n (few Place.fresh)
few_placed p Token.end_array b k n few =
    few_allowed (may_close p) Token.end_array k Place.after_value n (few Place.after_value)
few_placed p (Token.key s) b k n few = omega arith
few_placed p (Token.string s) true k n few =
    few_allowed (may_begin p) (Token.key s) k Place.after_key n (few Place.after_key)
few_placed p (Token.string s) false k n few =
    few_allowed (may_begin p) (Token.string s) k Place.after_value n (few Place.after_value)
few_placed p (Token.number s) b k n few =
    few_allowed (may_begin p) (Token.number s) k Place.after_value n (few Place.after_value)
few_placed p (Token.boolean c) b k n few =
    few_allowed (may_begin p) (Token.boolean c) k Place.after_value n (few Place.after_value)
few_placed p Token.null b k n few = few_allowed (may_begin p) Token.null k Place.after_value n (few Place.after_value)
few_placed p Token.bad b k n few = omega arith

-- at most one token a lexeme, and one at the end
few_tokens : (p : Place) (ls : List Lexeme) → length (punctuate p ls) ≤ length ls + 1
unfolding punctuate
few_tokens Place.fresh [] = omega arith
few_tokens Place.after_value [] = omega arith
few_tokens Place.after_comma [] = omega arith
few_tokens Place.after_key [] = omega arith
few_tokens Place.fresh (Lexeme.token t ∷ ls) =
    let few = few_placed Place.fresh t (begins_colon ls) (λ next. punctuate next ls) (length ls)
    (λ next. few_tokens next ls) in omega (arith, few)
few_tokens Place.after_value (Lexeme.token t ∷ ls) =
    let few = few_placed Place.after_value t (begins_colon ls) (λ next. punctuate next ls) (length ls)
    (λ next. few_tokens next ls) in omega (arith, few)
few_tokens Place.after_comma (Lexeme.token t ∷ ls) =
    let few = few_placed Place.after_comma t (begins_colon ls) (λ next. punctuate next ls) (length ls)
    (λ next. few_tokens next ls) in omega (arith, few)
few_tokens Place.after_key (Lexeme.token t ∷ ls) =
    let few = few_placed Place.after_key t (begins_colon ls) (λ next. punctuate next ls) (length ls)
    (λ next. few_tokens next ls) in omega (arith, few)
few_tokens Place.fresh (Lexeme.comma ∷ ls) = omega arith
few_tokens Place.after_value (Lexeme.comma ∷ ls) = omega (arith, few_tokens Place.after_comma ls)
few_tokens Place.after_comma (Lexeme.comma ∷ ls) = omega arith
few_tokens Place.after_key (Lexeme.comma ∷ ls) = omega arith
few_tokens Place.fresh (Lexeme.colon ∷ ls) = omega arith
few_tokens Place.after_value (Lexeme.colon ∷ ls) = omega arith
few_tokens Place.after_comma (Lexeme.colon ∷ ls) = omega arith
few_tokens Place.after_key (Lexeme.colon ∷ ls) = omega (arith, few_tokens Place.fresh ls)

-- ---- the grammar

abbrev json_count : json.Items → ℕ
json_count json.no_items = 0
json_count (json.item j js) = 1 + json_count js

-- each array in it has at most so many items
abbrev mutual
  IsJsonWithin : ℕ → json.Json → Type 0
  IsJsonWithin b (json.array js) = (json_count js ≤ b) × AreItemsWithin b js
  IsJsonWithin b (json.object ms) = AreMembersWithin b ms
  IsJsonWithin b _ = Unit {0}

  AreItemsWithin : ℕ → json.Items → Type 0
  AreItemsWithin b json.no_items = Unit {0}
  AreItemsWithin b (json.item j js) = IsJsonWithin b j × AreItemsWithin b js

  AreMembersWithin : ℕ → json.Members → Type 0
  AreMembersWithin b json.no_members = Unit {0}
  AreMembersWithin b (json.member k j ms) = IsJsonWithin b j × AreMembersWithin b ms

-- what is read meets P, and no more than so many tokens are left
abbrev ReadsWithin : {A : Type 0} → ℕ → (A → Type 0) → Option (A × List Token) → Type 0
ReadsWithin b P None = Unit {0}
ReadsWithin b P (Some p) = P p.0 × (length p.1 ≤ b)

-- of so many tokens
abbrev ParsesWithin : {A : Type 0} → ℕ → (A → Type 0) → Parse A → Type 0
ParsesWithin b P parse = (ts : List Token) → length ts ≤ b → ReadsWithin b P (parse ts)

mapped_within : {A B : Type 0} (b : ℕ) (P : A → Type 0) (Q : B → Type 0) (f : A → B) (o : Option (A × List Token))
    → ReadsWithin b P o → ((a : A) → P a → Q (f a)) → ReadsWithin b Q (parse_map f o)
mapped_within b P Q f None reads on = tt
mapped_within b P Q f (Some p) reads on = (on p.0 reads.0, reads.1)

then_within : {A B : Type 0} (b : ℕ) (P : A → Type 0) (Q : B → Type 0) (f : A × List Token → Option (B × List Token))
    (o : Option (A × List Token)) → ReadsWithin b P o
    → ((p : A × List Token) → P p.0 → length p.1 ≤ b → ReadsWithin b Q (f p))
    → ReadsWithin b Q (option_and_then f o)
then_within b P Q f None reads on = tt
then_within b P Q f (Some p) reads on = on p reads.0 reads.1

abbrev FewItems : ℕ → ℕ → json.Items → Type 0
FewItems b n js = (json_count js ≤ n) × AreItemsWithin b js

end_shorter : (ts : List Token) → IfSome (after_end_array ts) (λ rest. length rest ≤ length ts)
end_shorter [] = tt
end_shorter (Token.begin_object ∷ ts) = tt
end_shorter (Token.end_object ∷ ts) = tt
end_shorter (Token.begin_array ∷ ts) = tt
end_shorter (Token.end_array ∷ ts) = omega arith
end_shorter (Token.key s ∷ ts) = tt
end_shorter (Token.string s ∷ ts) = tt
end_shorter (Token.number s ∷ ts) = tt
end_shorter (Token.boolean c ∷ ts) = tt
end_shorter (Token.null ∷ ts) = tt
end_shorter (Token.bad ∷ ts) = tt

key_shorter : (ts : List Token) → IfSome (read_key ts) (λ p. length p.1 ≤ length ts)
key_shorter [] = tt
key_shorter (Token.begin_object ∷ ts) = tt
key_shorter (Token.end_object ∷ ts) = omega arith
key_shorter (Token.begin_array ∷ ts) = tt
key_shorter (Token.end_array ∷ ts) = tt
key_shorter (Token.key s ∷ ts) = omega arith
key_shorter (Token.string s ∷ ts) = tt
key_shorter (Token.number s ∷ ts) = tt
key_shorter (Token.boolean c ∷ ts) = tt
key_shorter (Token.null ∷ ts) = tt
key_shorter (Token.bad ∷ ts) = tt

module _ (b : ℕ) (parse : Parse json.Json) (within : ParsesWithin b (IsJsonWithin b) parse) where
  item_within : (n : ℕ) (more : Parse json.Items) → ParsesWithin b (FewItems b n) more
      → (o : Option (List Token)) (ts : List Token) → IfSome o (λ rest. length rest ≤ length ts) → length ts ≤ b
      → ReadsWithin b (FewItems b (n + 1)) (items_step parse more ts o)
  item_within n more on (Some rest) ts shorter few = ((omega arith, tt), omega (arith, shorter, few))
  item_within n more on None ts shorter few =
      then_within b (IsJsonWithin b) (FewItems b (n + 1)) (λ p. parse_map (json.item p.0) (more p.1)) (parse ts)
      (within ts few)
      (λ p is left. mapped_within b (FewItems b n) (FewItems b (n + 1)) (json.item p.0) (more p.1) (on p.1 left)
      (λ js are. (omega (arith, are.0), (is, are.1))))

  items_within : (n : ℕ) → ParsesWithin b (FewItems b n) (items parse n)
  unfolding items
  items_within zero ts few = tt
  items_within (suc n) ts few =
      let step = item_within n (items parse n) (items_within n) (after_end_array ts) ts (end_shorter ts) few in
      grow (items_step parse (items parse n) ts (after_end_array ts)) step
    where
      grow : (o : Option (json.Items × List Token)) → ReadsWithin b (FewItems b (n + 1)) o
          → ReadsWithin b (FewItems b (suc n)) o
      grow None reads = tt
      grow (Some p) reads = ((omega (arith, reads.0.0), reads.0.1), reads.1)

  member_within : (more : Parse json.Members) → ParsesWithin b (AreMembersWithin b) more
      → (key : Option (List ℕ)) (ts : List Token) → length ts ≤ b
      → ReadsWithin b (AreMembersWithin b) (members_step parse more key ts)
  member_within more on None ts few = (tt, few)
  member_within more on (Some k) ts few =
      then_within b (IsJsonWithin b) (AreMembersWithin b) (λ p. parse_map (json.member k p.0) (more p.1)) (parse ts)
      (within ts few)
      (λ p is left. mapped_within b (AreMembersWithin b) (AreMembersWithin b) (json.member k p.0) (more p.1)
      (on p.1 left) (λ ms are. (is, are)))

  with_key : (more : Parse json.Members) → ParsesWithin b (AreMembersWithin b) more
      → (o : Option (Option (List ℕ) × List Token)) (ts : List Token) → length ts ≤ b
      → IfSome o (λ p. length p.1 ≤ length ts)
      → ReadsWithin b (AreMembersWithin b) (option_and_then (λ p. members_step parse more p.0 p.1) o)
  with_key more on None ts few shorter = tt
  with_key more on (Some p) ts few shorter = member_within more on p.0 p.1 (omega (arith, shorter, few))

  members_within : (n : ℕ) → ParsesWithin b (AreMembersWithin b) (members parse n)
  unfolding members
  members_within zero ts few = tt
  members_within (suc n) ts few =
      with_key (members parse n) (members_within n) (read_key ts) ts few (key_shorter ts)

module _ (b : ℕ) (read_items : Parse json.Items) (read_members : Parse json.Members)
    (items_are : ParsesWithin b (λ js. FewItems b b js) read_items)
    (members_are : ParsesWithin b (AreMembersWithin b) read_members) where
  -- a value takes a token at least
  with_within : (ts : List Token) → length ts ≤ b + 1
      → ReadsWithin b (IsJsonWithin b) (value_with read_items read_members ts)
  with_within [] few = tt
  with_within (Token.begin_object ∷ ts) few =
      mapped_within b (AreMembersWithin b) (IsJsonWithin b) json.object (read_members ts)
      (members_are ts (omega (arith, few))) (λ ms are. are)
  with_within (Token.end_object ∷ ts) few = tt
  with_within (Token.begin_array ∷ ts) few =
      mapped_within b (FewItems b b) (IsJsonWithin b) json.array (read_items ts) (items_are ts (omega (arith, few)))
      (λ js are. are)
  with_within (Token.end_array ∷ ts) few = tt
  with_within (Token.key s ∷ ts) few = tt
  with_within (Token.string s ∷ ts) few = (tt, omega (arith, few))
  with_within (Token.number s ∷ ts) few = (tt, omega (arith, few))
  with_within (Token.boolean c ∷ ts) few = (tt, omega (arith, few))
  with_within (Token.null ∷ ts) few = (tt, omega (arith, few))
  with_within (Token.bad ∷ ts) few = tt

enough : (b n : ℕ) (o : Option (json.Items × List Token)) → n ≤ b → ReadsWithin b (FewItems b n) o
    → ReadsWithin b (FewItems b b) o
enough b n None less reads = tt
enough b n (Some p) less reads = ((omega (arith, less, reads.0.0), reads.0.1), reads.1)

value_within : (b depth : ℕ) (ts : List Token) → length ts ≤ b + 1 → ReadsWithin b (IsJsonWithin b) (value depth ts)
unfolding value
value_within b zero ts few = with_within b (λ us. None) (λ us. None) (λ us less. tt) (λ us less. tt) ts few
value_within b (suc depth) ts few =
    let inner : ParsesWithin b (IsJsonWithin b) (value depth) =
    λ us less. value_within b depth us (omega (arith, less)) in
    with_within b (λ us. items (value depth) (length us) us) (λ us. members (value depth) (length us) us)
    (λ us less. enough b (length us) (items (value depth) (length us) us) less
    (items_within b (value depth) inner (length us) us less))
    (λ us less. members_within b (value depth) inner (length us) us less) ts few

-- ---- the values

abbrev pub data_count : data_of.Items → ℕ
data_count data_of.no_items = 0
data_count (data_of.item d ds) = 1 + data_count ds

-- each array in it has at most so many items
abbrev mutual
  pub IsDataWithin : ℕ → Data → Type 0
  IsDataWithin b (array ds) = (data_count ds ≤ b) × AreDataWithin b ds
  IsDataWithin b (object ms) = AreNamedWithin b ms
  IsDataWithin b _ = Unit {0}

  pub AreDataWithin : ℕ → data_of.Items → Type 0
  AreDataWithin b data_of.no_items = Unit {0}
  AreDataWithin b (data_of.item d ds) = IsDataWithin b d × AreDataWithin b ds

  pub AreNamedWithin : ℕ → Members → Type 0
  AreNamedWithin b no_members = Unit {0}
  AreNamedWithin b (member k d ms) = IsDataWithin b d × AreNamedWithin b ms

one_of : {A : Type 0} (P : A → Type 0) (o : Ordering) (x y z : A) → P x → P y → P z → P (match_ordering o x y z)
one_of P Less x y z h i j = h
one_of P Equal x y z h i j = i
one_of P Greater x y z h i j = j

put_within : (b : ℕ) (k : List ℕ) (d : Data) (ms : Members) → IsDataWithin b d → AreNamedWithin b ms
    → AreNamedWithin b (put k d ms)
put_within b k d no_members is are = (is, tt)
put_within b k d (member l e ms) is are =
    one_of (AreNamedWithin b) (slice_cmp nat_cmp k l) (member k d (member l e ms)) (member l d ms)
    (member l e (put k d ms)) (is, are) (is, are.1) (are.0, put_within b k d ms is are.1)

mapped_data : {A : Type 0} (P : Data → Type 0) (f : A → Data) (o : Option A) (Q : A → Type 0) → IfSome o Q
    → ((a : A) → Q a → P (f a)) → IfSome (option_map f o) P
mapped_data P f None Q is on = tt
mapped_data P f (Some a) Q is on = on a is

number_within : (b : ℕ) (o : Option Num) → IfSome (option_map number o) (IsDataWithin b)
number_within b None = tt
number_within b (Some n) = tt

-- items as many as these
abbrev AreItemsOf : ℕ → json.Items → data_of.Items → Type 0
AreItemsOf b js ds = (data_count ds ≡ json_count js) × AreDataWithin b ds

item_of : (b : ℕ) (j : json.Json) (js : json.Items) (first : Option Data) (rest : Option data_of.Items)
    → IfSome first (IsDataWithin b) → IfSome rest (AreItemsOf b js)
    → IfSome (option_and_then (λ d. option_map (data_of.item d) rest) first) (AreItemsOf b (json.item j js))
item_of b j js None rest is are = tt
item_of b j js (Some d) None is are = tt
item_of b j js (Some d) (Some ds) is are = (omega (arith, are.0), (is, are.1))

then_some : {A B : Type 0} (P : A → Type 0) (Q : B → Type 0) (f : A → Option B) (o : Option A) → IfSome o P
    → ((a : A) → P a → IfSome (f a) Q) → IfSome (option_and_then f o) Q
then_some P Q f None is on = tt
then_some P Q f (Some a) is on = on a is

mutual
  json_data : (b : ℕ) (j : json.Json) → IsJsonWithin b j → IfSome (of_json j) (IsDataWithin b)
  json_data b json.null is = tt
  json_data b (json.boolean c) is = tt
  json_data b (json.number s) is = number_within b (number_of s)
  json_data b (json.string s) is = tt
  json_data b (json.array js) is =
      mapped_data (IsDataWithin b) array (of_items js) (AreItemsOf b js) (items_data b js is.1)
      (λ ds are. (omega (arith, are.0, is.0), are.1))
  json_data b (json.object ms) is =
      mapped_data (IsDataWithin b) object (of_members ms no_members) (AreNamedWithin b)
      (members_data b ms no_members is tt) (λ ds are. are)

  items_data : (b : ℕ) (js : json.Items) → AreItemsWithin b js → IfSome (of_items js) (AreItemsOf b js)
  items_data b json.no_items are = (refl, tt)
  items_data b (json.item j js) are =
      item_of b j js (of_json j) (of_items js) (json_data b j are.0) (items_data b js are.1)

  members_data : (b : ℕ) (ms : json.Members) (found : Members) → AreMembersWithin b ms → AreNamedWithin b found
      → IfSome (of_members ms found) (AreNamedWithin b)
  members_data b json.no_members found are so_far = so_far
  members_data b (json.member k j ms) found are so_far =
      then_some (IsDataWithin b) (AreNamedWithin b) (λ d. of_members ms (put k d found)) (of_json j)
      (json_data b j are.0)
      (λ d is. members_data b ms (put k d found) are.1 (put_within b k d found is so_far))

last_within : (b : ℕ) (o : Option (json.Json × List Token)) → ReadsWithin b (IsJsonWithin b) o
    → IfSome (option_and_then (λ p. json.if_last p.0 p.1) o) (IsJsonWithin b)
last_within b None reads = tt
last_within b (Some p) reads = at_end p.1
  where
    at_end : (ts : List Token) → IfSome (json.if_last p.0 ts) (IsJsonWithin b)
    at_end [] = reads.0
    at_end (t ∷ ts) = tt

-- **the arrays of a text have no more items than the text has bytes**
pub read_within : (text : List ℕ) → IfSome (read text) (IsDataWithin (length text))
read_within text =
    let few : length (tokens text) ≤ length text + 1 =
    let one = few_lexemes Mode.between text in let two = few_tokens Place.fresh (lex Mode.between text) in
    omega (arith, one, two) in
    then_some (IsJsonWithin (length text)) (IsDataWithin (length text)) of_json
    (option_and_then (λ p. json.if_last p.0 p.1) (value max_depth (tokens text)))
    (last_within (length text) (value max_depth (tokens text))
    (value_within (length text) max_depth (tokens text) few))
    (λ j is. json_data (length text) j is)

-- what is found under a key
member_found : (b : ℕ) (k : List ℕ) (ms : Members) → AreNamedWithin b ms → IfSome (get_member k ms) (IsDataWithin b)
member_found b k no_members are = tt
member_found b k (member l d ms) are =
    one_of (λ o. IfSome o (IsDataWithin b)) (slice_cmp nat_cmp k l) (get_member k ms) (Some d) (get_member k ms)
    (member_found b k ms are.1) are.0 (member_found b k ms are.1)

pub get_within : (b : ℕ) (k : List ℕ) (d : Data) → IsDataWithin b d → IfSome (get k d) (IsDataWithin b)
get_within b k null is = tt
get_within b k (boolean c) is = tt
get_within b k (number n) is = tt
get_within b k (string s) is = tt
get_within b k (array ds) is = tt
get_within b k (object ms) is = member_found b k ms is
