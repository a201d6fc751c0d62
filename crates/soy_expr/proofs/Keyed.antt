-- Variables as the entries of a map, whose last one is the innermost.
use Rattle.std.proofs.Common.{◌≡◌, ℕ, zero, suc, ◌+◌, ◌-◌, ◌<◌, Bool, true, false, cond, List, [], ◌∷◌, ◌++◌, map, refl}
use Rattle.std.proofs.Common.{ap, sym, subst, ◌∙◌, Option, Some, None, length, reverse, take, drop}
use Rattle.std.proofs.Common.{append_assoc, arith, is_some, slice_index_or, slice_set, ◌==◌}
use Rattle.std.specs.Prelude.{String, if◌then◌else◌}
use Rattle.std.specs.List.{AllByRecursion, IsDistinct}
use Rattle.std.specs.Map.{keys_of, lookup, set_value}
use Rattle.std.specs.Option.{option_or}
use Rattle.std.specs.Str.{IsUtf8, bytes_eq, chars}
use Rattle.std.specs.String.{string_bytes}
use Rattle.std.proofs.lemmas.Grind.{reverse_onto}
use Rattle.std.proofs.lemmas.List.{drop-set-lt, length-drop, length-map, length-reverse, length-set, map-append}
use Rattle.std.proofs.lemmas.List.{append-nil, get_or-set_same, reverse-append, take-append-drop, take-map, take-set}
use Rattle.std.proofs.Math.Seq.{drop-append_seam}
use Rattle.std.proofs.lemmas.Map.Keys.{IsDistinct-head, IsDistinct-tail}
use Rattle.std.proofs.lemmas.Bool.{eqb-true}
use Rattle.std.proofs.lemmas.Bool.Decides.{same_from_decides}
use Rattle.std.proofs.lemmas.Slice.Eq.{bytes_eq-Decides}
use Rattle.std.proofs.lemmas.Str.{IsUtf8-string_bytes}
use Rattle.soy_base.proofs.Texts.{bytes_eq-chars}
use Rattle.soy_tree.specs.Types.{Name}
use Rattle.soy_tree.specs.declared.soy_type.SoyType as code
use Rattle.soy_tree.specs.declared.soy_type.Field as code_field
use Rattle.soy_tree.proofs.Drops.{drop_next}
use Rattle.soy_expr.specs.LastNamed.{IsLastNamed}
use Rattle.soy_expr.specs.TypeNamed.{type_named, with_type}
use Rattle.soy_expr.specs.Visible.{variable}

pub bytes_eq-turned : (a b : List ℕ) → bytes_eq a b ≡ bytes_eq b a
bytes_eq-turned a b =
    same_from_decides (bytes_eq a b) (bytes_eq b a) (bytes_eq-Decides a b)
    ((λ e. sym ((bytes_eq-Decides b a).0 e)), (λ e. (bytes_eq-Decides b a).1 (sym e)))

abbrev Entries : Type 0 → Type 0
Entries Y = List (String Y × code.SoyType)

abbrev AreDistinct : List code_field.Field → Type 0
AreDistinct [] = Unit {0}
AreDistinct (v ∷ vars) = (type_named v.name vars ≡ None) × AreDistinct vars

pub named_append : (name : Name) (xs ys : List code_field.Field)
    → type_named name (xs ++ ys) ≡ option_or (type_named name xs) (type_named name ys)
named_append name [] ys = refl
named_append name (x ∷ xs) ys = by (bytes_eq x.name name) (named_append name xs ys)
  where
    by : (b : Bool) → type_named name (xs ++ ys) ≡ option_or (type_named name xs) (type_named name ys)
        → (if b then Some x.of else type_named name (xs ++ ys))
        ≡ option_or (if b then Some x.of else type_named name xs) (type_named name ys)
    by true rest = refl
    by false rest = rest

or_none : (o : Option code.SoyType) → option_or o None ≡ o
or_none None = refl
or_none (Some x) = refl

-- where no two have one name, it is all the same from which end one looks
from_either_end : (name : Name) (vars : List code_field.Field) → AreDistinct vars
    → type_named name (reverse vars) ≡ type_named name vars
from_either_end name [] d = refl
from_either_end name (v ∷ vars) d =
    ap (type_named name) (reverse_onto vars v [])
    ∙ named_append name (reverse vars) (v ∷ [])
    ∙ ap (λ (o : Option code.SoyType). option_or o (type_named name (v ∷ []))) (from_either_end name vars d.1)
    ∙ by (bytes_eq v.name name) refl
  where
    by : (b : Bool) → bytes_eq v.name name ≡ b
        → option_or (type_named name vars) (if b then Some v.of else None)
        ≡ (if b then Some v.of else type_named name vars)
    by true e =
        let none : type_named name vars ≡ None =
        subst (λ (n : Name). type_named n vars ≡ None) ((bytes_eq-Decides v.name name).0 e) d.0 in
        rw none refl
    by false e = or_none (type_named name vars)

pub with_type-after : (name : Name) (of : code.SoyType) (xs ys : List code_field.Field) → type_named name xs ≡ None
    → with_type name of (xs ++ ys) ≡ xs ++ with_type name of ys
with_type-after name of [] ys h = refl
with_type-after name of (x ∷ xs) ys h = by (bytes_eq x.name name) h (with_type-after name of xs ys)
  where
    by : (b : Bool) → (if b then Some x.of else type_named name xs) ≡ None
        → (type_named name xs ≡ None → with_type name of (xs ++ ys) ≡ xs ++ with_type name of ys)
        → (if b then variable x.name of ∷ (xs ++ ys) else x ∷ with_type name of (xs ++ ys))
        ≡ x ∷ (xs ++ with_type name of ys)
    by true k rest = cc
    by false k rest = ap (λ (l : List code_field.Field). x ∷ l) (rest k)

with_type-before : (name : Name) (of : code.SoyType) (xs : List code_field.Field) (v : code_field.Field)
    → bytes_eq v.name name ≡ false → with_type name of (xs ++ (v ∷ [])) ≡ with_type name of xs ++ (v ∷ [])
with_type-before name of [] v e = rw e refl
with_type-before name of (x ∷ xs) v e = by (bytes_eq x.name name) (with_type-before name of xs v e)
  where
    by : (b : Bool) → with_type name of (xs ++ (v ∷ [])) ≡ with_type name of xs ++ (v ∷ [])
        → (if b then variable x.name of ∷ (xs ++ (v ∷ [])) else x ∷ with_type name of (xs ++ (v ∷ [])))
        ≡ (if b then variable x.name of ∷ xs else x ∷ with_type name of xs) ++ (v ∷ [])
    by true rest = refl
    by false rest = ap (λ (l : List code_field.Field). x ∷ l) rest

set_either_end : (name : Name) (of : code.SoyType) (vars : List code_field.Field) → AreDistinct vars
    → reverse (with_type name of vars) ≡ with_type name of (reverse vars)
set_either_end name of [] d = refl
set_either_end name of (v ∷ vars) d =
    by (bytes_eq v.name name) refl (set_either_end name of vars d.1)
    ∙ ap (with_type name of) (sym (reverse_onto vars v []))
  where
    by : (b : Bool) → bytes_eq v.name name ≡ b
        → reverse (with_type name of vars) ≡ with_type name of (reverse vars)
        → reverse (if b then variable v.name of ∷ vars else v ∷ with_type name of vars)
        ≡ with_type name of (reverse vars ++ (v ∷ []))
    by true e rest =
        let none : type_named name vars ≡ None =
        subst (λ (n : Name). type_named n vars ≡ None) ((bytes_eq-Decides v.name name).0 e) d.0 in
        reverse_onto vars (variable v.name of) []
        ∙ ap (λ b. reverse vars ++ (if b then variable v.name of ∷ [] else v ∷ [])) (sym e)
        ∙ sym (with_type-after name of (reverse vars) (v ∷ []) (from_either_end name vars d.1 ∙ none))
    by false e rest =
        reverse_onto (with_type name of vars) v [] ∙ ap (λ (l : List code_field.Field). l ++ (v ∷ [])) rest
        ∙ sym (with_type-before name of (reverse vars) v e)

-- ---- a row behind variables

-- a variable of a row, with what stands over it and what it stands over
split_at : (keyed vars : List code_field.Field) (at : ℕ) (x : code_field.Field) → at < length vars
    → x ≡ slice_index_or vars at x
    → reverse (keyed ++ vars) ≡ reverse (drop (at + 1) vars) ++ (x ∷ (reverse (take at vars) ++ reverse keyed))
split_at keyed vars at x within is =
    let over : List code_field.Field = reverse (drop (at + 1) vars) in
    let under : List code_field.Field = reverse (take at vars) in
    let row : reverse vars ≡ over ++ (x ∷ under) =
    ap reverse (sym (take-append-drop at vars)) ∙ reverse-append (take at vars) (drop at vars)
    ∙ ap (λ (l : List code_field.Field). reverse l ++ under) (drop_next vars at x within is)
    ∙ ap (λ (l : List code_field.Field). l ++ under) (reverse_onto (drop (at + 1) vars) x [])
    ∙ append_assoc over (x ∷ []) under in
    reverse-append keyed vars
    ∙ ap (λ (l : List code_field.Field). l ++ reverse keyed) row
    ∙ append_assoc over (x ∷ under) (reverse keyed)

any_default : {A : Type 0} (xs : List A) (i : ℕ) (d e : A) → i < length xs
    → slice_index_or xs i d ≡ slice_index_or xs i e
any_default [] i d e h = absurd (omega (arith, h))
any_default (x ∷ xs) zero d e h = refl
any_default (x ∷ xs) (suc i) d e h = any_default xs i d e (omega (arith, h))

-- a search from the end, which finds a variable or goes on
pub search_ends : (vars : List code_field.Field) (i : ℕ) (x : code_field.Field) (name : Name) → i < length vars
    → x ≡ slice_index_or vars i x → bytes_eq x.name name ≡ true
    → type_named name (reverse (drop (i + 1) vars)) ≡ None → IsLastNamed name vars i
search_ends vars i x name within is named none = record {
  var = x;
  within = within;
  there = λ d. any_default vars i d x within ∙ sym is;
  named = named;
  last = none;
}

pub search_goes_on : (vars : List code_field.Field) (i : ℕ) (x : code_field.Field) (name : Name) → i < length vars
    → x ≡ slice_index_or vars i x → bytes_eq x.name name ≡ false
    → type_named name (reverse (drop (i + 1) vars)) ≡ None → type_named name (reverse (drop i vars)) ≡ None
search_goes_on vars i x name within is named none =
    ap (λ (l : List code_field.Field). type_named name (reverse l)) (drop_next vars i x within is)
    ∙ ap (type_named name) (reverse_onto (drop (i + 1) vars) x [])
    ∙ named_append name (reverse (drop (i + 1) vars)) (x ∷ [])
    ∙ ap (λ (o : Option code.SoyType). option_or o (type_named name (x ∷ []))) none
    ∙ ap (λ b. if b then Some x.of else None) named

-- what is found in the row is the innermost of its name
pub row_found : (keyed vars : List code_field.Field) (at : ℕ) (name : Name) (h : IsLastNamed name vars at)
    → type_named name (reverse (keyed ++ vars)) ≡ Some h.var.of
row_found keyed vars at name h =
    let over : List code_field.Field = reverse (drop (at + 1) vars) in
    let under : List code_field.Field = reverse (take at vars) ++ reverse keyed in
    ap (type_named name) (split_at keyed vars at h.var h.within (sym (h.there h.var)))
    ∙ named_append name over (h.var ∷ under)
    ∙ ap (λ (o : Option code.SoyType). option_or o (type_named name (h.var ∷ under))) h.last
    ∙ ap (λ b. if b then Some h.var.of else type_named name under) h.named

-- and a change of it changes that one
pub row_set : (keyed vars : List code_field.Field) (at : ℕ) (name : Name) (of : code.SoyType)
    (h : IsLastNamed name vars at)
    → reverse (keyed ++ slice_set vars at (variable h.var.name of)) ≡ with_type name of (reverse (keyed ++ vars))
row_set keyed vars at name of h =
    let y : code_field.Field = variable h.var.name of in
    let over : List code_field.Field = reverse (drop (at + 1) vars) in
    let under : List code_field.Field = reverse (take at vars) ++ reverse keyed in
    let within : at < length (slice_set vars at y) = omega (arith, length-set vars at y, h.within) in
    split_at keyed (slice_set vars at y) at y within (sym (get_or-set_same vars at y y h.within))
    ∙ ap (λ (l : List code_field.Field). reverse l ++ (y ∷ (reverse (take at (slice_set vars at y)) ++ reverse keyed)))
    (drop-set-lt (at + 1) vars at y (omega arith))
    ∙ ap (λ (l : List code_field.Field). over ++ (y ∷ (reverse l ++ reverse keyed))) (take-set vars at y)
    ∙ sym
    (ap (with_type name of) (split_at keyed vars at h.var h.within (sym (h.there h.var)))
    ∙ with_type-after name of over (h.var ∷ under) h.last
    ∙ ap (λ b. over ++ (if b then y ∷ under else h.var ∷ with_type name of under)) h.named)

-- what isn't in the row is looked for behind it
pub behind_row : (keyed vars : List code_field.Field) (name : Name) → type_named name (reverse vars) ≡ None
    → type_named name (reverse (keyed ++ vars)) ≡ type_named name (reverse keyed)
behind_row keyed vars name none =
    ap (type_named name) (reverse-append keyed vars)
    ∙ named_append name (reverse vars) (reverse keyed)
    ∙ ap (λ (o : Option code.SoyType). option_or o (type_named name (reverse keyed))) none

pub set_behind_row : (keyed changed vars : List code_field.Field) (name : Name) (of : code.SoyType)
    → type_named name (reverse vars) ≡ None → reverse changed ≡ with_type name of (reverse keyed)
    → reverse (changed ++ vars) ≡ with_type name of (reverse (keyed ++ vars))
set_behind_row keyed changed vars name of none e =
    reverse-append changed vars
    ∙ ap (λ (l : List code_field.Field). reverse vars ++ l) e
    ∙ sym
    (ap (with_type name of) (reverse-append keyed vars)
    ∙ with_type-after name of (reverse vars) (reverse keyed) none)

first_of_both : {A : Type 0} (n : ℕ) (xs ys : List A) → take n (xs ++ ys) ≡ take n xs ++ take (n - length xs) ys
first_of_both zero xs ys = let e : 0 - length xs ≡ 0 = omega arith in rw e refl
first_of_both (suc n) [] ys = let e : suc n - 0 ≡ suc n = omega arith in rw e refl
first_of_both (suc n) (x ∷ xs) ys =
    let e : suc n - length (x ∷ xs) ≡ n - length xs = omega arith in
    rw e (ap (λ l. x ∷ l) (first_of_both n xs ys))

-- what is left of the first of both is what was visible when there were so many
pub left : {A : Type 0} (xs ys : List A) (count : ℕ)
    → reverse (take count xs ++ take (count - length xs) ys)
    ≡ drop (length (reverse (xs ++ ys)) - count) (reverse (xs ++ ys))
left {A = A} xs ys count =
    let whole : List A = xs ++ ys in
    let split : reverse whole ≡ reverse (drop count whole) ++ reverse (take count whole) =
    ap reverse (sym (take-append-drop count whole)) ∙ reverse-append (take count whole) (drop count whole) in
    let many : length (reverse whole) - count ≡ length (reverse (drop count whole)) =
    ap (λ n. n - count) (length-reverse whole) ∙ sym (length-reverse (drop count whole) ∙ length-drop count whole) in
    ap reverse (sym (first_of_both count xs ys))
    ∙ sym
    (ap (drop (length (reverse whole) - count)) split
    ∙ ap (λ n. drop n (reverse (drop count whole) ++ reverse (take count whole))) many
    ∙ drop-append_seam (reverse (drop count whole)) (reverse (take count whole)))

no_others : {A : Type 0} (xs : List A) → (length xs == 0) ≡ true → xs ≡ []
no_others [] h = refl
no_others (x ∷ xs) h = let e : suc (length xs) ≡ 0 = eqb-true (length (x ∷ xs)) 0 h in cc

pub no_key : {A : Type 0} (o : Option A) → is_some o ≡ false → o ≡ None
no_key None h = refl
no_key (Some x) h = let e : true ≡ false = h in cc

module _ {Y : Type 0} where
  abbrev pub field_of : String Y × code.SoyType → code_field.Field
  field_of e = variable (chars (string_bytes e.0)) e.1

  abbrev pub fields_of : Entries Y → List code_field.Field
  fields_of es = map field_of es

  abbrev pub same_key : String Y → String Y → Bool
  same_key a b = bytes_eq (string_bytes a) (string_bytes b)

  abbrev pub is_key : List ℕ → String Y → Bool
  is_key bytes k = bytes_eq bytes (string_bytes k)

  key_is : (bytes : List ℕ) (k : String Y) → IsUtf8 bytes
      → is_key bytes k ≡ bytes_eq (chars (string_bytes k)) (chars bytes)
  key_is bytes k text =
      bytes_eq-chars bytes (string_bytes k) text (IsUtf8-string_bytes k)
      ∙ bytes_eq-turned (chars bytes) (chars (string_bytes k))

  -- a look-up finds the first of a name
  found_first : (es : Entries Y) (bytes : List ℕ) → IsUtf8 bytes
      → lookup (is_key bytes) es ≡ type_named (chars bytes) (fields_of es)
  found_first [] bytes text = refl
  found_first (e ∷ es) bytes text =
      ap (λ b. cond b (Some e.1) (lookup (is_key bytes) es)) (key_is bytes e.0 text)
      ∙ ap (λ (o : Option code.SoyType). cond (bytes_eq (chars (string_bytes e.0)) (chars bytes)) (Some e.1) o)
      (found_first es bytes text)

  -- and a change changes the first of a name
  set_first : (es : Entries Y) (bytes : List ℕ) (of : code.SoyType) → IsUtf8 bytes
      → fields_of (set_value (is_key bytes) es of) ≡ with_type (chars bytes) of (fields_of es)
  set_first [] bytes of text = refl
  set_first (e ∷ es) bytes of text =
      ap (λ b. fields_of (cond b ((e.0, of) ∷ es) (e ∷ set_value (is_key bytes) es of))) (key_is bytes e.0 text)
      ∙ by (bytes_eq (chars (string_bytes e.0)) (chars bytes)) (set_first es bytes of text)
    where
      by : (b : Bool) → fields_of (set_value (is_key bytes) es of) ≡ with_type (chars bytes) of (fields_of es)
          → fields_of (cond b ((e.0, of) ∷ es) (e ∷ set_value (is_key bytes) es of))
          ≡ (if b then variable (chars (string_bytes e.0)) of ∷ fields_of es
          else field_of e ∷ with_type (chars bytes) of (fields_of es))
      by true rest = refl
      by false rest = ap (λ (l : List code_field.Field). field_of e ∷ l) rest

  none_named : (k : String Y) (es : Entries Y) → AllByRecursion (λ y. same_key k y ≡ false) (keys_of es)
      → type_named (chars (string_bytes k)) (fields_of es) ≡ None
  none_named k [] all = refl
  none_named k (e ∷ es) all =
      let apart : bytes_eq (chars (string_bytes e.0)) (chars (string_bytes k)) ≡ false =
      sym (key_is (string_bytes k) e.0 (IsUtf8-string_bytes k)) ∙ all.0 in
      ap (λ b. cond b (Some e.1) (type_named (chars (string_bytes k)) (fields_of es))) apart ∙ none_named k es all.1

  distinct_fields : (es : Entries Y) → IsDistinct same_key (keys_of es) → AreDistinct (fields_of es)
  distinct_fields [] d = tt
  distinct_fields (e ∷ es) d = (
    none_named e.0 es (IsDistinct-head same_key e.0 (keys_of es) d),
    distinct_fields es (IsDistinct-tail same_key e.0 (keys_of es) d),
  )

  -- what a look-up finds
  found : (es : Entries Y) (bytes : List ℕ) → IsUtf8 bytes → IsDistinct same_key (keys_of es)
      → lookup (is_key bytes) es ≡ type_named (chars bytes) (reverse (fields_of es))
  found es bytes text d =
      found_first es bytes text ∙ sym (from_either_end (chars bytes) (fields_of es) (distinct_fields es d))

  -- what a change makes
  changed : (es : Entries Y) (bytes : List ℕ) (of : code.SoyType) → IsUtf8 bytes
      → IsDistinct same_key (keys_of es)
      → reverse (fields_of (set_value (is_key bytes) es of)) ≡ with_type (chars bytes) of (reverse (fields_of es))
  changed es bytes of text d =
      ap reverse (set_first es bytes of text)
      ∙ set_either_end (chars bytes) of (fields_of es) (distinct_fields es d)

  -- the same under the name that the bytes stand for
  pub found_as : (es : Entries Y) (bytes : List ℕ) (name : Name) → IsUtf8 bytes
      → IsDistinct same_key (keys_of es) → chars bytes ≡ name
      → lookup (is_key bytes) es ≡ type_named name (reverse (fields_of es))
  found_as es bytes name text d is =
      found es bytes text d ∙ ap (λ (n : Name). type_named n (reverse (fields_of es))) is

  pub changed_as : (es : Entries Y) (bytes : List ℕ) (of : code.SoyType) (name : Name) → IsUtf8 bytes
      → IsDistinct same_key (keys_of es) → chars bytes ≡ name
      → reverse (fields_of (set_value (is_key bytes) es of)) ≡ with_type name of (reverse (fields_of es))
  changed_as es bytes of name text d is =
      changed es bytes of text d ∙ ap (λ (n : Name). with_type n of (reverse (fields_of es))) is

  -- a new entry is the innermost variable
  pub added : (es : Entries Y) (k : String Y) (of : code.SoyType)
      → reverse (fields_of (es ++ ((k, of) ∷ []))) ≡ variable (chars (string_bytes k)) of ∷ reverse (fields_of es)
  added es k of =
      ap reverse (map-append field_of es ((k, of) ∷ [])) ∙ reverse-append (fields_of es) (field_of (k, of) ∷ [])

  -- the same before a row without variables
  pub added_alone : (es new : Entries Y) (vars now : List code_field.Field) (k : String Y) (of : code.SoyType)
      (name : Name) → (length vars == 0) ≡ true → new ≡ es ++ ((k, of) ∷ []) → chars (string_bytes k) ≡ name
      → reverse (fields_of es ++ vars) ≡ now → reverse (fields_of new ++ vars) ≡ variable name of ∷ now
  added_alone es new vars now k of name empty more named view =
      let none : vars ≡ [] = no_others vars empty in
      let alone : reverse (fields_of es) ≡ now =
      ap reverse (sym (append-nil (fields_of es)))
      ∙ ap (λ (l : List code_field.Field). reverse (fields_of es ++ l)) (sym none) ∙ view in
      ap (λ (l : List code_field.Field). reverse (fields_of new ++ l)) none
      ∙ ap reverse (append-nil (fields_of new))
      ∙ ap (λ (l : Entries Y). reverse (fields_of l)) more
      ∙ added es k of
      ∙ ap (λ (n : Name). variable n of ∷ reverse (fields_of es)) named
      ∙ ap (λ (l : List code_field.Field). variable name of ∷ l) alone

  -- what is left of the first entries and of the row
  pub left_of_entries : (es : Entries Y) (vars now : List code_field.Field) (count : ℕ)
      → reverse (fields_of es ++ vars) ≡ now
      → reverse (fields_of (take count es) ++ take (count - length es) vars) ≡ drop (length now - count) now
  left_of_entries es vars now count view =
      ap (λ (l : List code_field.Field). reverse (l ++ take (count - length es) vars))
      (sym (take-map field_of count es))
      ∙ ap (λ n. reverse (take count (fields_of es) ++ take (count - n) vars)) (sym (length-map es field_of))
      ∙ left (fields_of es) vars count
      ∙ ap (λ (l : List code_field.Field). drop (length l - count) l) view
