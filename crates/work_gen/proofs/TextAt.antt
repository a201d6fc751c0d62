-- The texts of a table, and their bytes.
use Rattle.std.proofs.Common.{◌≡◌, ℕ, zero, suc, ◌<◌, List, [], ◌∷◌, map, length, slice_index_or, Bor, encode_utf8_all}
use Rattle.std.proofs.Common.{refl, arith}
use Rattle.work_gen.specs.Data.{text_at}

pub text_at-table : (table : List (Bor (List ℕ))) (i : ℕ) (other : Bor (List ℕ)) → i < length table
    → (slice_index_or table i other).now ≡ text_at (map (λ t. t.now) table) i
text_at-table [] i other h = absurd (omega arith)
text_at-table (t ∷ ts) zero other h = refl
text_at-table (t ∷ ts) (suc i) other h = text_at-table ts i other (omega arith)

pub text_at-bytes : (texts : List (List ℕ)) (i : ℕ)
    → text_at (map encode_utf8_all texts) i ≡ encode_utf8_all (text_at texts i)
text_at-bytes [] i = refl
text_at-bytes (t ∷ ts) zero = refl
text_at-bytes (t ∷ ts) (suc i) = text_at-bytes ts i
