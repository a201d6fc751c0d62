-- Names as the keys of a set.
use Rattle.std.proofs.Common.{◌≡◌, ℕ, ◌+◌, Bool, true, false, not, ◌||◌, ◌&&◌, cond, List, [], ◌∷◌, ◌++◌, map, refl, ap}
use Rattle.std.proofs.Common.{sym, ◌∙◌, Bor, MatchBool, Some, None, length, reverse}
use Rattle.std.specs.Prelude.{nat_lt}
use Rattle.std.specs.List.{list_all, list_any, position, prefix_len}
use Rattle.std.specs.Str.{bytes_eq, chars, is_utf8, IsUtf8}
use Rattle.std.proofs.lemmas.Str.{IsUtf8-from_is_utf8, is_utf8-from_IsUtf8}
use Rattle.std.proofs.lemmas.List.{map-append, length-map, reverse-append, reverse-reverse}
use Rattle.std.proofs.lemmas.List.Folds.{list_any-append, list_all-append}
use Rattle.std.proofs.lemmas.Grind.{reverse_onto}
use Rattle.soy_base.proofs.Texts.{bytes_eq-chars}
use Rattle.soy_base.specs.Among.{is_among}

abbrev pub key_names : List (Bor (List ℕ)) → List (List ℕ)
key_names keys = map (λ key. chars key.now) keys

abbrev pub seen : List (Bor (List ℕ)) → List (List ℕ)
seen keys = reverse (key_names keys)

abbrev pub has_key : List (Bor (List ℕ)) → List ℕ → Bool
has_key keys bytes = list_any (λ key. bytes_eq bytes key.now) keys

abbrev pub are_texts : List (Bor (List ℕ)) → Bool
are_texts keys = list_all (λ key. is_utf8 key.now) keys

both_true : (a b : Bool) → (a && b) ≡ true → (a ≡ true) × (b ≡ true)
both_true true b h = (refl, h)
both_true false b h = cc

same_key : (bytes : List ℕ) (key : Bor (List ℕ)) → IsUtf8 bytes → is_utf8 key.now ≡ true
    → bytes_eq bytes key.now ≡ bytes_eq (chars bytes) (chars key.now)
same_key bytes key text is = bytes_eq-chars bytes key.now text (IsUtf8-from_is_utf8 key.now is)

-- the set has the names of its keys
has_key-names : (keys : List (Bor (List ℕ))) (bytes : List ℕ) → IsUtf8 bytes → are_texts keys ≡ true
    → is_among (key_names keys) (chars bytes) ≡ has_key keys bytes
has_key-names [] bytes text all = refl
has_key-names (key ∷ keys) bytes text all =
    let both : (is_utf8 key.now ≡ true) × (are_texts keys ≡ true) = both_true (is_utf8 key.now) (are_texts keys) all in
    ap (λ b. b || is_among (key_names keys) (chars bytes)) (sym (same_key bytes key text both.0))
    ∙ ap (λ b. bytes_eq bytes key.now || b) (has_key-names keys bytes text both.1)

or_turned : (a b : Bool) → (a || (b || false)) ≡ (b || a)
or_turned true true = refl
or_turned true false = refl
or_turned false true = refl
or_turned false false = refl

any_reverse : (test : List ℕ → Bool) (xs : List (List ℕ)) → list_any test (reverse xs) ≡ list_any test xs
any_reverse test [] = refl
any_reverse test (x ∷ xs) =
    ap (list_any test) (reverse_onto xs x []) ∙ list_any-append test (reverse xs) (x ∷ [])
    ∙ ap (λ b. b || (test x || false)) (any_reverse test xs) ∙ or_turned (list_any test xs) (test x)

pub is_seen : (keys : List (Bor (List ℕ))) (bytes : List ℕ) → IsUtf8 bytes → are_texts keys ≡ true
    → is_among (seen keys) (chars bytes) ≡ has_key keys bytes
is_seen keys bytes text all = any_reverse (bytes_eq (chars bytes)) (key_names keys) ∙ has_key-names keys bytes text all

inserted : (keys new : List (Bor (List ℕ))) (name : Bor (List ℕ)) (is_new has : Bool) → IsUtf8 name.now
    → are_texts keys ≡ true → has_key keys name.now ≡ has → is_new ≡ not has
    → new ≡ cond has keys (keys ++ (name ∷ []))
    → MatchBool is_new
    ((is_among (seen keys) (chars name.now) ≡ false) × (seen new ≡ chars name.now ∷ seen keys))
    ((is_among (seen keys) (chars name.now) ≡ true) × (seen new ≡ seen keys))
inserted keys new name true true text all e n k = let h : true ≡ false = n in cc
inserted keys new name true false text all e n k = (
  is_seen keys name.now text all ∙ e,
  ap seen k ∙ (ap reverse (map-append (λ key. chars key.now) keys (name ∷ []))
      ∙ reverse-append (key_names keys) (chars name.now ∷ [])),
)
inserted keys new name false true text all e n k = (is_seen keys name.now text all ∙ e, ap seen k)
inserted keys new name false false text all e n k = let h : false ≡ true = n in cc

-- what an insertion makes of the names
pub seen-insert : (keys new : List (Bor (List ℕ))) (name : Bor (List ℕ)) (is_new : Bool) → IsUtf8 name.now
    → are_texts keys ≡ true → is_new ≡ not (has_key keys name.now)
    → new ≡ cond (has_key keys name.now) keys (keys ++ (name ∷ []))
    → MatchBool is_new
    ((is_among (seen keys) (chars name.now) ≡ false) × (seen new ≡ chars name.now ∷ seen keys))
    ((is_among (seen keys) (chars name.now) ≡ true) × (seen new ≡ seen keys))
seen-insert keys new name is_new text all n k =
    inserted keys new name is_new (has_key keys name.now) text all refl n k

true_too : (a b : Bool) → a ≡ true → b ≡ true → (a && (b && true)) ≡ true
true_too a b e f = rw (e, f) refl

one_more : (keys : List (Bor (List ℕ))) (name : Bor (List ℕ)) → IsUtf8 name.now → are_texts keys ≡ true
    → are_texts (keys ++ (name ∷ [])) ≡ true
one_more keys name text all =
    list_all-append (λ (key : Bor (List ℕ)). is_utf8 key.now) keys (name ∷ [])
    ∙ true_too (are_texts keys) (is_utf8 name.now) all (is_utf8-from_IsUtf8 name.now text)

kept_texts : (keys : List (Bor (List ℕ))) (name : Bor (List ℕ)) (has : Bool) → IsUtf8 name.now → are_texts keys ≡ true
    → are_texts (cond has keys (keys ++ (name ∷ []))) ≡ true
kept_texts keys name true text all = all
kept_texts keys name false text all = one_more keys name text all

-- the keys stay texts
pub are_texts-insert : (keys new : List (Bor (List ℕ))) (name : Bor (List ℕ)) → IsUtf8 name.now → are_texts keys ≡ true
    → new ≡ cond (has_key keys name.now) keys (keys ++ (name ∷ [])) → are_texts new ≡ true
are_texts-insert keys new name text all k = ap are_texts k ∙ kept_texts keys name (has_key keys name.now) text all

-- a name stands where its key does
before_key : (keys : List (Bor (List ℕ))) (bytes : List ℕ) → IsUtf8 bytes → are_texts keys ≡ true
    → prefix_len (λ key. not (bytes_eq bytes key.now)) keys
    ≡ prefix_len (λ name. not (bytes_eq (chars bytes) name)) (key_names keys)
before_key [] bytes text all = refl
before_key (key ∷ keys) bytes text all =
    let both : (is_utf8 key.now ≡ true) × (are_texts keys ≡ true) = both_true (is_utf8 key.now) (are_texts keys) all in
    ap (λ b. cond (not b) (1 + prefix_len (λ k. not (bytes_eq bytes k.now)) keys) 0) (same_key bytes key text both.0)
    ∙ ap (λ n. cond (not (bytes_eq (chars bytes) (chars key.now))) (1 + n) 0) (before_key keys bytes text both.1)

pub position-names : (keys : List (Bor (List ℕ))) (bytes : List ℕ) → IsUtf8 bytes → are_texts keys ≡ true
    → position (λ key. bytes_eq bytes key.now) keys ≡ position (bytes_eq (chars bytes)) (reverse (seen keys))
position-names keys bytes text all =
    ap (λ n. cond (nat_lt n (length keys)) (Some n) None) (before_key keys bytes text all)
    ∙ ap (λ len. cond (nat_lt (prefix_len (λ name. not (bytes_eq (chars bytes) name)) (key_names keys)) len)
    (Some (prefix_len (λ name. not (bytes_eq (chars bytes) name)) (key_names keys))) None)
    (sym (length-map keys (λ key. chars key.now)))
    ∙ ap (position (bytes_eq (chars bytes))) (sym (reverse-reverse (key_names keys)))
