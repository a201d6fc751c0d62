-- The bytes of what is left out of a text ascend.
use Rattle.std.proofs.Common.{◌≡◌, ℕ, ◌+◌, ◌<◌, true, false, zero, suc, inl, inr, List, [], ◌∷◌, ◌++◌, length}
use Rattle.std.proofs.Common.{slice_index, sym, subst, encode_utf8_all, arith}
use Rattle.std.specs.List.Sorted.{IsStrictlyIncreasing}
use Rattle.std.proofs.lemmas.Bool.{cases_Bool}
use Rattle.std.proofs.lemmas.Str.{length-encode, len_utf8_bounds}
use Rattle.bidi_text.specs.Clean.{dropped_bytes, is_dropped}
use Rattle.bidi_text.proofs.CleanedSoFar.{HeadFrom, left_out, left_out-cons, left_out_from}
use Rattle.bidi_text.proofs.LoneBytes.{prefix_byte-snoc}

-- a smaller number before numbers that ascend
increasing-cons : (n low : ℕ) (ns : List ℕ) → n < low → HeadFrom low ns → IsStrictlyIncreasing ns
    → IsStrictlyIncreasing (n ∷ ns)
increasing-cons n low [] below from rise k h = absurd (omega arith)
increasing-cons n low (m ∷ ns) below from rise zero h = omega arith
increasing-cons n low (m ∷ ns) below from rise (suc k) h =
    let next : suc (k + 1) ≡ suc k + 1 = omega arith in
    subst (λ i. slice_index (m ∷ ns) k < slice_index (n ∷ m ∷ ns) i) next (rise k (omega arith))

-- from the character after a prefix on
increasing-left_out : (prefix cs : List ℕ) → IsStrictlyIncreasing (left_out prefix cs)
increasing-left_out prefix [] = λ k h. absurd (omega arith)
increasing-left_out prefix (c ∷ cs) =
    elim (cases_Bool (is_dropped (prefix ++ (c ∷ cs)) (length prefix, c))) [
      | inl out ↦ subst IsStrictlyIncreasing (sym (left_out-cons prefix c cs true out))
          (increasing-cons (length (encode_utf8_all prefix)) (length (encode_utf8_all (prefix ++ c ∷ [])))
          (left_out (prefix ++ c ∷ []) cs)
          (omega (arith, prefix_byte-snoc prefix c, length-encode c, (len_utf8_bounds c).0))
          (left_out_from (prefix ++ c ∷ []) cs) (increasing-left_out (prefix ++ c ∷ []) cs))
      | inr kept ↦ subst IsStrictlyIncreasing (sym (left_out-cons prefix c cs false kept))
          (increasing-left_out (prefix ++ c ∷ []) cs)
    ]

-- of a whole text
pub increasing-dropped_bytes : (text : List ℕ) → IsStrictlyIncreasing (dropped_bytes text)
increasing-dropped_bytes text = increasing-left_out [] text
