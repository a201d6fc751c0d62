-- What the count of a form's bytes keeps.
use Rattle.std.proofs.Common.{◌≡◌, ℕ, ◌+◌, ◌*◌, ◌^◌, ◌≤◌, ◌<◌, List, ◌∷◌, ◌++◌, length, drop, encode_utf8_all, ap}
use Rattle.std.proofs.Common.{subst, sym, length-append, arith}
use Rattle.std.specs.Char.{len_utf8}
use Rattle.std.specs.Str.{chars, IsCharBoundary, IsUtf8}
use Rattle.std.proofs.lemmas.Str.{len_utf8_bounds, IsCharBoundary-start}
use Rattle.soy_base.specs.ByteLength.{byte_len}
use Rattle.value_cursor.specs.BytesLeft.{bytes_from, form, forms}
use Rattle.value_cursor.specs.declared.plan.Plan.{Plan}
use Rattle.value_cursor.proofs.Forms.{byte_len-encodes, bytes_end, char_boundary, char_bytes, run_boundary, run_bytes}

pub record LenSoFar (plan : Plan) (source : List ℕ) (len offset : ℕ) : Type 0 where
  pub count : len + length (bytes_from plan source offset) ≡ length (bytes_from plan source 0)
  pub boundary : IsCharBoundary source offset
  pub bound : len ≤ 2 ^ 64 * offset

pub none_counted : (plan : Plan) (source : List ℕ) → IsUtf8 source → LenSoFar plan source 0 0
none_counted plan source utf8 =
    record { count = omega arith; boundary = IsCharBoundary-start source utf8; bound = omega arith }

module _ {plan : Plan} {source : List ℕ} {len offset : ℕ} (so_far : LenSoFar plan source len offset) where
  -- a run of characters that stand for themselves
  pub run_counted : (rest run others : List ℕ) → IsUtf8 source → rest ≡ drop offset source → rest ≡ run ++ others
      → IsUtf8 run → IsUtf8 others → ((n : ℕ) → forms plan n (chars run) ≡ chars run)
      → LenSoFar plan source (len + length run) (offset + length run)
  run_counted rest run others utf8 is_rest whole utf8_run utf8_others plain =
      let bytes = run_bytes plan source rest offset utf8 so_far.boundary is_rest run others whole utf8_run utf8_others
      plain in
      record {
        count = omega (
          arith,
          so_far.count,
          ap length bytes,
          length-append run
              (bytes_from plan source (offset + length run)),
        );
        boundary = run_boundary plan source rest offset utf8 so_far.boundary is_rest run others whole utf8_run
            utf8_others;
        bound = omega (arith, so_far.bound);
      }

  -- another character
  pub char_counted : (rest others : List ℕ) (c size char_len : ℕ) → IsUtf8 source → rest ≡ drop offset source
      → chars rest ≡ c ∷ chars others → size ≡ len_utf8 c → char_len ≡ byte_len (form plan offset c) → char_len < 2 ^ 64
      → LenSoFar plan source (len + char_len) (offset + size)
  char_counted rest others c size char_len utf8 is_rest whole is_size is_len small =
      let bytes = char_bytes plan source rest offset utf8 so_far.boundary is_rest c others whole in
      subst (λ n. LenSoFar plan source (len + char_len) (offset + n)) (sym is_size) (record {
        count = omega (
          arith,
          so_far.count,
          ap length bytes,
          length-append (encode_utf8_all (form plan offset c))
              (bytes_from plan source (offset + len_utf8 c)),
          is_len,
          byte_len-encodes (form plan offset c),
        );
        boundary = char_boundary plan source rest offset utf8 so_far.boundary is_rest c others whole;
        bound = omega (arith, so_far.bound, small, (len_utf8_bounds c).0);
      })

  pub all_counted : length source ≤ offset → len ≡ length (bytes_from plan source 0)
  all_counted end = omega (arith, so_far.count, ap length (bytes_end plan source offset end))
