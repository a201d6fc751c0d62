-- A list that is compiled item by item: whatever the rest of it adds to what was made so far makes the whole.
use Rattle.std.specs.Prelude.{ℕ, List, ◌++◌}
use Rattle.template_ir.specs.Ops.{Op}
use Rattle.ir_build.specs.Laid.{Lays, Made, Pushes}

abbrev pub PushesOn : (ℕ → List Op → ℕ → ℕ → Type 0) → ℕ → (ℕ → List Op → ℕ → ℕ → Type 0) → ℕ → Made → Made
    → List Op → List Op → Type 0
PushesOn Rest rest Whole whole first now own_first own_now =
    (later : Made) (own_later : List Op) → Pushes Rest rest now later own_now own_later
    → Pushes Whole whole first later own_first own_later

-- the same of rows, of which there are some so far
abbrev pub RowsOn : {R : Type 0} → (List R → ℕ → List Op → ℕ → Type 0) → ℕ → (List R → ℕ → List Op → ℕ → Type 0) → ℕ
    → Made → Made → List R → Type 0
RowsOn Rest rest Whole whole first now done =
    (later : Made) (more : List _) → Lays (Rest more) rest now later → Lays (Whole (done ++ more)) whole first later
