-- Lists that are compiled item by item: what the rest of a list adds to what was made so far.
use Rattle.std.proofs.Common.{◌≡◌, ℕ, ℤ, List, [], ◌∷◌, ◌++◌, sym, ap, ◌∙◌, subst}
use Rattle.template_ir.specs.Ops.{Op}
use Rattle.template_ir.specs.declared.op.Block.{Block}
use Rattle.template_ir.specs.declared.op.ExactBlock.{ExactBlock}
use Rattle.ir_build.specs.Rows.{exact_block}
use Rattle.ir_build.specs.Laid.{Lays, Made, Pushes}
use Rattle.ir_build.specs.OnGoing.{PushesOn, RowsOn}
use Rattle.ir_build.proofs.Laying.{lays_none}
use Rattle.ir_build.proofs.OpLists.{append_assoc, append_nil}

-- ---- own ops

pub pushes_step : (X W Z : ℕ → List Op → ℕ → ℕ → Type 0) (h g k : ℕ) (first now next : Made)
    (own_first own_now own_next : List Op)
    → ((later : Made) (own_later : List Op) → Pushes W g next later own_next own_later
    → Pushes X h now later own_now own_later)
    → PushesOn X h Z k first now own_first own_now → PushesOn W g Z k first next own_first own_next
pushes_step X W Z h g k first now next own_first own_now own_next one on = λ later own_later p.
    on later own_later (one later own_later p)

-- ---- rows

pub rows_begin : {R : Type 0} (X : List R → ℕ → List Op → ℕ → Type 0) (h : ℕ) (first : Made) (done : List R)
    → done ≡ [] → RowsOn X h X h first first done
rows_begin X h first done nil = λ later rest l.
    subst (λ (x : List _). Lays (X (x ++ rest)) h first later) (sym nil) l

pub rows_step : {R : Type 0} (X W Z : List R → ℕ → List Op → ℕ → Type 0) (h g k : ℕ) (first now next : Made)
    (done done_next : List R) (r : R) → done_next ≡ done ++ (r ∷ [])
    → ((later : Made) (rest : List R) → Lays (W rest) g next later → Lays (X (r ∷ rest)) h now later)
    → RowsOn X h Z k first now done → RowsOn W g Z k first next done_next
rows_step X W Z h g k first now next done done_next r e one on = λ later rest l.
    subst (λ (x : List _). Lays (Z x) k first later)
    (sym (ap (λ (x : List _). x ++ rest) e ∙ append_assoc done (r ∷ []) rest)) (on later (r ∷ rest) (one later rest l))

pub rows_end : {R : Type 0} (X Z : List R → ℕ → List Op → ℕ → Type 0) (h k : ℕ) (first now : Made) (done : List R)
    → h ≡ 0 → ((all : List Op) (before : ℕ) → X [] now.holes all before) → RowsOn X h Z k first now done
    → Lays (Z done) k first now
rows_end X Z h k first now done none x on =
    subst (λ (y : List _). Lays (Z y) k first now) (append_nil done)
    (on now [] (subst (λ (n : ℕ). Lays (X []) n now now) (sym none) (lays_none (X []) now x)))

-- an arm for a number that is added, whose number and block are known
pub exact_last : (done done_next : List ExactBlock) (m n : ℤ) (b known : Block) → m ≡ n → b ≡ known
    → done_next ≡ done ++ (exact_block m b ∷ []) → done_next ≡ done ++ (exact_block n known ∷ [])
exact_last done done_next m n b known same is e =
    e
    ∙ (ap (λ (x : Block). done ++ (exact_block m x ∷ [])) is
    ∙ ap (λ (k : ℤ). done ++ (exact_block k known ∷ [])) same)
