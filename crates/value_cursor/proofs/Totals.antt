-- The shares of all bytes of a text together.
use Rattle.std.proofs.Common.{◌≡◌, ℕ, ◌+◌, ◌*◌, ◌<◌, ◌≤◌, true, ◌&&◌, List, [], ◌∷◌, ◌++◌, length, refl, sym}
use Rattle.std.proofs.Common.{ap, ◌∙◌, ◌^◌, None, Option, Some, encode_utf8, encode_utf8_all, length-append, nat_lt}
use Rattle.std.proofs.Common.{arith}
use Rattle.std.specs.Prelude.{IfSome}
use Rattle.std.specs.List.{flat_map, list_all}
use Rattle.std.specs.Str.{all_scalars, chars, IsUtf8}
use Rattle.std.proofs.lemmas.Bool.{and_from, and_parts}
use Rattle.std.proofs.lemmas.Bool.Decides.{nat_tests}
use Rattle.std.proofs.lemmas.List.Folds.{list_all-append}
use Rattle.std.proofs.lemmas.Str.{encodes-chars, scalars-chars}
use lib.Utf8.{scalar}
use Rattle.soy_base.specs.ByteLength.{byte_len}
use Rattle.escapers.specs.declared.escaper.Escaper.{Escaper}
use Rattle.escapers.specs.Esc.{escaped_character}
use Rattle.value_cursor.specs.BytesLeft.{bytes_from}
use Rattle.value_cursor.specs.declared.cleaning.Cleaning.TheVariants as cleaning
use Rattle.value_cursor.specs.declared.plan.Plan.{Plan}
use Rattle.value_cursor.specs.Shares.{AreShares, is_known, share, total_share}
use Rattle.value_cursor.proofs.Forms.{byte_len-encodes, escaped_bytes}

total_share-append : (shares xs ys : List ℕ)
    → total_share shares (xs ++ ys) ≡ total_share shares xs + total_share shares ys
total_share-append shares [] ys = omega arith
total_share-append shares (x ∷ xs) ys = omega (arith, total_share-append shares xs ys)

byte_len-append : (xs ys : List ℕ) → byte_len (xs ++ ys) ≡ byte_len xs + byte_len ys
byte_len-append [] ys = omega arith
byte_len-append (x ∷ xs) ys = omega (arith, byte_len-append xs ys)

-- where they are few together, each is known
small_known : (shares bytes : List ℕ) → total_share shares bytes < 65535 → list_all (is_known shares) bytes ≡ true
small_known shares [] small = refl
small_known shares (byte ∷ bytes) small =
    let here : share shares byte < 65535 = omega (arith, small) in
    let known : nat_lt (share shares byte) 65535 ≡ true = grind (arith, nat_tests, here) in
    and_from _ _ known (small_known shares bytes (omega (arith, small)))

-- ---- chunk by chunk

pub record TotalSoFar (shares bytes rest : List ℕ) (total : ℕ) : Type 0 where
  pub count : total + total_share shares rest ≡ total_share shares bytes
  pub known : list_all (is_known shares) rest ≡ list_all (is_known shares) bytes
  pub bound : total + 65535 * length rest ≤ 65535 * length bytes

pub none_counted : (shares bytes : List ℕ) → TotalSoFar shares bytes bytes 0
none_counted shares bytes = record { count = omega arith; known = refl; bound = omega arith }

pub chunk_counted : (shares bytes rest chunk others : List ℕ) (total count : ℕ) → TotalSoFar shares bytes rest total
    → rest ≡ chunk ++ others → count ≡ total_share shares chunk → count ≤ 65535 * length chunk → count < 65535
    → TotalSoFar shares bytes others (total + count)
chunk_counted shares bytes rest chunk others total count so_far split is bound small = record {
  count = omega (
    arith,
    so_far.count,
    ap (total_share shares) split,
    total_share-append shares chunk others,
    is,
  );
  known = ap (λ b. b && list_all (is_known shares) others) (sym (small_known shares chunk (omega (arith, is, small))))
      ∙ sym (ap (list_all (is_known shares)) split ∙ list_all-append (is_known shares) chunk others)
      ∙ so_far.known;
  bound = omega (arith, so_far.bound, ap length split, length-append chunk others, bound);
}

-- ---- the forms

module _ (how : Escaper) (shares : List ℕ) (are : AreShares how shares) where
  total_forms : (cs : List ℕ) → all_scalars cs ≡ true → list_all (is_known shares) (encode_utf8_all cs) ≡ true
      → total_share shares (encode_utf8_all cs) ≡ byte_len (flat_map (escaped_character how) cs)
  total_forms [] scalars known = refl
  total_forms (c ∷ cs) scalars known =
      let both = and_parts (scalar c) (all_scalars cs) scalars in
      let parts = and_parts (list_all (is_known shares) (encode_utf8 c))
      (list_all (is_known shares) (encode_utf8_all cs))
      (sym (list_all-append (is_known shares) (encode_utf8 c) (encode_utf8_all cs)) ∙ known) in
      omega (
        arith,
        total_share-append shares (encode_utf8 c) (encode_utf8_all cs),
        are.together c both.0 parts.0,
        total_forms cs both.1 parts.1,
        byte_len-append (escaped_character how c) (flat_map (escaped_character how) cs),
      )

  pub total_bytes : (plan : Plan) → plan.how ≡ how → plan.cleaning ≡ cleaning.Nothing → (source : List ℕ)
      → IsUtf8 source → list_all (is_known shares) source ≡ true
      → total_share shares source ≡ length (bytes_from plan source 0)
  total_bytes plan is nothing source utf8 known =
      let same = encodes-chars source utf8 in
      ap (total_share shares) (sym same)
      ∙ total_forms (chars source) (scalars-chars source utf8) (ap (list_all (is_known shares)) same ∙ known)
      ∙ byte_len-encodes (flat_map (escaped_character how) (chars source))
      ∙ ap length (sym (escaped_bytes plan how is nothing source))

  -- the same where all shares are counted, or none
  pub counted_len : (plan : Plan) → plan.how ≡ how → plan.cleaning ≡ cleaning.Nothing → (source : List ℕ)
      → IsUtf8 source → (counted : Option ℕ) → IfSome counted (λ total. total ≡ total_share shares source)
      → IfSome counted (λ _. list_all (is_known shares) source ≡ true)
      → IfSome counted (λ len. len ≡ length (bytes_from plan source 0))
  counted_len plan is nothing source utf8 None total known = tt
  counted_len plan is nothing source utf8 (Some len) total known =
      total ∙ total_bytes plan is nothing source utf8 known

pub counted_bound : (counted : Option ℕ) (size : ℕ) → IfSome counted (λ total. total ≤ 65535 * size)
    → IfSome counted (λ len. len ≤ 2 ^ 64 * size)
counted_bound None size bound = tt
counted_bound (Some len) size bound = omega (arith, bound)
