-- The faults of types and declarations inside a file.
-- A fault keeps the two names or types that differ, or one and nothing. Types are kept as they are written.
-- Example: an unknown variable `$x` at offset 7 is the code 7 (Unknown) at 7, with `x` and nothing.
use Rattle.std.specs.Prelude.{ℕ, List, [], Option, Some, None, Result, Ok, Err}
use Rattle.soy_base.specs.declared.code.Code.{Code}
use Rattle.soy_base.specs.declared.code.Code.TheVariants as code
use Rattle.soy_base.specs.declared.fault.Span.{Span}
use Rattle.soy_tree.specs.Types.{Name}

pub record TypeFault : Type 0 where
  pub code : Code
  pub at : ℕ
  pub left : List ℕ
  pub right : List ℕ

abbrev pub followed_by : {A B E : Type 0} → Result A E → (A → Result B E) → Result B E
followed_by (Ok a) next = next a
followed_by (Err e) next = Err e

abbrev pub fails : {A : Type 0} → Code → ℕ → List ℕ → List ℕ → Result A TypeFault
fails code at left right = Err (record { code = code; at = at; left = left; right = right })

-- what is there, or an unknown name
abbrev pub found : {A : Type 0} → Name → Span → Option A → Result A TypeFault
found name span None = fails code.Unknown span.start name []
found name span (Some t) = Ok t

-- a failed type rule, with the types that it was asked of
abbrev pub mistyped : {A : Type 0} → Span → List ℕ → List ℕ → Result A TypeFault
mistyped span left right = fails code.Mistyped span.start left right
