-- Bytes that a sink takes one part after another.
use Rattle.std.proofs.Common.{◌≡◌, ℕ, ◌+◌, ◌-◌, ◌≤◌, List, [], ◌++◌, length, take, drop, Option, None, Some, ap, sym}
use Rattle.std.proofs.Common.{◌∙◌, refl, append_assoc, append-nil, arith, length-drop}
use Rattle.std.proofs.Math.Seq.{take-add}
use Rattle.std.proofs.lemmas.List.{take_all}
use Rattle.soy_io.specs.Added.{added}

-- nothing more is the same
pub added-nil : (before : Option (List ℕ)) → before ≡ added before []
added-nil None = refl
added-nil (Some bytes) = ap Some (sym (append-nil bytes))

-- two parts are taken as one
pub added-added : (before : Option (List ℕ)) (first second : List ℕ)
    → added (added before first) second ≡ added before (first ++ second)
added-added None first second = refl
added-added (Some bytes) first second = ap Some (append_assoc bytes first second)

-- the first `done` bytes and `count` of those that follow them are the first `done + count`
pub next_part : (done count : ℕ) (bytes : List ℕ) → done + count ≤ length bytes →
    take done bytes ++ take count (take (length bytes - done) (drop done bytes)) ≡ take (done + count) bytes
next_part done count bytes within =
    let rest : length (drop done bytes) ≤ length bytes - done = omega (arith, length-drop done bytes) in
    ap (λ piece. take done bytes ++ take count piece) (take_all (length bytes - done) (drop done bytes) rest)
    ∙ sym (take-add done count bytes)

-- a put took the next `count` bytes after the first `done` of them
pub put_next : (before between after : Option (List ℕ)) (done count : ℕ) (bytes : List ℕ)
    → between ≡ added before (take done bytes) →
    after ≡ added between (take count (take (length bytes - done) (drop done bytes))) → done + count ≤ length bytes
    → after ≡ added before (take (done + count) bytes)
put_next before between after done count bytes first second within =
    second ∙ ap (λ taken. added taken (take count (take (length bytes - done) (drop done bytes)))) first
    ∙ added-added before (take done bytes) (take count (take (length bytes - done) (drop done bytes)))
    ∙ ap (added before) (next_part done count bytes within)
