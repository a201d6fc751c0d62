-- The prefix of a text in any ASCII case, by bytes and by characters.
use Rattle.std.proofs.Common.{◌≡◌, ℕ, ◌<◌, ◌≤◌, Bool, true, false, ◌&&◌, eqb, List, [], ◌∷◌, ◌++◌, length, take, map}
use Rattle.std.proofs.Common.{refl, sym, ap, ◌∙◌, ⊎_elim, encode_utf8, encode_utf8_all, IsTrue, ◌↔◌, arith}
use Rattle.std.specs.Bool.{Decides}
use Rattle.std.specs.Char.{to_ascii_lowercase}
use Rattle.std.specs.List.{list_all}
use Rattle.std.specs.Str.{chars, IsUtf8}
use Rattle.std.proofs.lemmas.Bool.{and_from, and_parts, cases_lt, eq-eqb, eqb-true}
use Rattle.std.proofs.lemmas.Bool.Decides.{nat_tests, same_from_decides}
use Rattle.std.proofs.lemmas.Str.{encode_ascii, encodes-chars}
use lib.Utf8.{encode}
use Rattle.escapers.specs.UriStart.{begins_in_any_case, is_scheme_character}

-- a character of a scheme is its own lower case
lower_is : (c : ℕ) → is_scheme_character c ≡ true → (to_ascii_lowercase c ≡ c) × (c < 128)
lower_is c is = grind (arith, nat_tests)

-- a character above ASCII has no lower case in ASCII
high_other : (c d : ℕ) → c < 128 → 128 ≤ d → eqb (to_ascii_lowercase d) c ≡ false
high_other c d low high = grind (arith, nat_tests)

-- a character above ASCII begins with a byte above ASCII
high_first : (c d : ℕ) (prefix rest : List ℕ) → c < 128 → 128 ≤ d
    → begins_in_any_case (c ∷ prefix) (encode_utf8 d ++ rest) ≡ false
unfolding encode
high_first c d prefix rest low high = grind (arith, nat_tests)

-- bytes begin as their characters do
begins_bytes : (prefix cs : List ℕ) → list_all is_scheme_character prefix ≡ true
    → begins_in_any_case prefix (encode_utf8_all cs) ≡ begins_in_any_case prefix cs
begins_bytes [] cs are = refl
begins_bytes (c ∷ prefix) [] are = refl
begins_bytes (c ∷ prefix) (d ∷ cs) are =
    let both = and_parts _ _ are in
    let small = (lower_is c both.0).1 in
    ⊎_elim
    (λ low.
    ap (λ l. begins_in_any_case (c ∷ prefix) (l ++ encode_utf8_all cs)) (encode_ascii d low)
    ∙ ap (λ t. eqb (to_ascii_lowercase d) c && t) (begins_bytes prefix cs both.1))
    (λ high. high_first c d prefix (encode_utf8_all cs) small high
    ∙ sym (ap (λ t. t && begins_in_any_case prefix cs) (high_other c d small high)))
    (cases_lt d 128)

-- the prefix as the lower case of the first bytes
begins_decides : (prefix bs : List ℕ) → list_all is_scheme_character prefix ≡ true →
    Decides (begins_in_any_case prefix bs) (map to_ascii_lowercase (take (length prefix) bs) ≡ map to_ascii_lowercase
    prefix)
begins_decides [] bs are = (λ _. refl, λ _. refl)
begins_decides (c ∷ prefix) [] are = (λ never. cc, λ never. cc)
begins_decides (c ∷ prefix) (d ∷ bs) are =
    let both = and_parts _ _ are in
    let own = (lower_is c both.0).0 in
    let rest = begins_decides prefix bs both.1 in (
      λ holds.
          let parts =
          and_parts (eqb (to_ascii_lowercase d) c) (begins_in_any_case prefix bs) holds in
          cc (eqb-true (to_ascii_lowercase d) c parts.0, own, rest.0 parts.1),
      λ same.
          let first : to_ascii_lowercase d ≡ to_ascii_lowercase c = cc in
          let others : map to_ascii_lowercase (take (length prefix) bs) ≡ map to_ascii_lowercase prefix = cc in
          and_from _ _ (eq-eqb (to_ascii_lowercase d) c (first ∙ own)) (rest.1 others),
    )

-- so what is found in bytes holds of characters
pub begins_from_bytes : (prefix bs : List ℕ) (r : Bool) → list_all is_scheme_character prefix ≡ true → IsUtf8 bs
    → (IsTrue r ↔ (map to_ascii_lowercase (take (length prefix) bs) ≡ map to_ascii_lowercase prefix))
    → r ≡ begins_in_any_case prefix (chars bs)
begins_from_bytes prefix bs r are utf8 same =
    same_from_decides r (begins_in_any_case prefix bs) (same.0, same.1) (begins_decides prefix bs are)
    ∙ ap (begins_in_any_case prefix) (sym (encodes-chars bs utf8)) ∙ begins_bytes prefix (chars bs) are
