-- A map of rows by their ids, and what it finds after one more.
use Rattle.std.proofs.Common.{◌≡◌, ℕ, Bool, true, false, cond, List, [], ◌∷◌, Some, option_map, refl, sym}
use Rattle.std.proofs.Common.{ap, ◌∙◌, Bor, bytes_eq, zero, suc, ◌+◌, ◌<◌, length, drop, slice_index_or, arith}
use Rattle.std.proofs.lemmas.Map.Text.{hash_map_updates_str}
use Rattle.std.specs.HashMap.{HashMap, UpdatesBy, get_by}
use Rattle.std.specs.Str.{IsUtf8, chars}
use Rattle.soy_base.proofs.Texts.{bytes_eq-chars}
use Rattle.msg_extract.specs.Catalogue.{find_listed}
use Rattle.msg_extract.specs.declared.catalogue.Listed.{Listed}
use Rattle.msg_bundle.specs.Sources.{FindsRows}

-- the row that is added before others is found first
pub row_added : {S : Type 0} (old new : HashMap (Bor (List ℕ)) (Bor Listed) S) (key : Bor (List ℕ)) (row : Bor Listed)
    (rows : List Listed) → IsUtf8 key.now → chars key.now ≡ row.now.id
    → UpdatesBy (λ x y. bytes_eq x.now y.now) (λ k. bytes_eq key.now k.now) old new (Some row)
    → FindsRows old rows → FindsRows new (row.now ∷ rows)
row_added old new key row rows utf8 id updates finds = λ given given_utf8.
    ap (option_map (λ r. r.now)) (hash_map_updates_str key.now old new (Some row) updates given)
    ∙ at given given_utf8 (bytes_eq key.now given) refl
  where
    at : (given : List ℕ) → IsUtf8 given → (b : Bool) → bytes_eq key.now given ≡ b
        → option_map (λ r. r.now) (cond b (Some row) (get_by (λ k. bytes_eq given k.now) old))
        ≡ find_listed (chars given) (row.now ∷ rows)
    at given given_utf8 b e =
        let same : bytes_eq row.now.id (chars given) ≡ b =
        ap (λ i. bytes_eq i (chars given)) (sym id)
        ∙ (sym (bytes_eq-chars key.now given utf8 given_utf8) ∙ e) in
        rw same (by b)
      where
        by : (b : Bool) → option_map (λ r. r.now) (cond b (Some row) (get_by (λ k. bytes_eq given k.now) old))
            ≡ cond b (Some row.now) (find_listed (chars given) rows)
        by true = refl
        by false = finds given given_utf8

pub row_drop : (rows : List Listed) (i : ℕ) (row : Listed) → i < length rows → row ≡ slice_index_or rows i row
    → drop i rows ≡ row ∷ drop (i + 1) rows
row_drop [] i row below is = absurd (omega arith)
row_drop (x ∷ rows) zero row below is = rw is refl
row_drop (x ∷ rows) (suc i) row below is =
    let e : suc i + 1 ≡ suc (i + 1) = omega arith in rw e (row_drop rows i row (omega arith) is)
