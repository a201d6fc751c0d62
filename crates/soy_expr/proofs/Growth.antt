-- Variables that stand before those that were visible.
use Rattle.std.proofs.Common.{◌≡◌, ◌-◌, List, [], ◌∷◌, ◌++◌, length, drop, ap, sym, ◌∙◌, arith, append_assoc}
use Rattle.std.proofs.lemmas.List.{length-append}
use Rattle.std.proofs.Math.Seq.{drop-append_seam}
use Rattle.soy_tree.specs.declared.soy_type.Field as code
use Rattle.soy_expr.specs.Grows.{Grows}

pub grown_same : (old new : List code.Field) → new ≡ old → Grows old new
grown_same old new e = record { inner = []; are = e }

pub grown_one : (old new : List code.Field) (v : code.Field) → new ≡ v ∷ old → Grows old new
grown_one old new v e = record { inner = v ∷ []; are = e }

pub grown_further : (old mid new : List code.Field) → Grows old mid → Grows mid new → Grows old new
grown_further old mid new g h = record {
  inner = h.inner ++ g.inner;
  are = h.are ∙ ap (λ (l : List code.Field). h.inner ++ l) g.are ∙ sym (append_assoc h.inner g.inner old);
}

-- what is left of them is what was visible
pub grown_left : (old new : List code.Field) → Grows old new → drop (length new - length old) new ≡ old
grown_left old new g =
    let e : length (g.inner ++ old) - length old ≡ length g.inner = omega (arith, length-append g.inner old) in
    rw g.are (rw e (drop-append_seam g.inner old))
