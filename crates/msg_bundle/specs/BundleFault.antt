-- What a bundle is refused with: a code, and the path to the part of the JSON that it speaks of.
-- Example: a translation of the id `ab` that is no pattern is refused with 22 and the path `messages`, `ab`.
use Rattle.std.specs.Prelude.{◌≡◌, ℕ, List, [], ◌∷◌}
use Rattle.std.specs.Str.{chars}
use Rattle.soy_base.specs.declared.code.Code.{Code}
use Rattle.soy_base.specs.declared.path.PathStep.TheVariants as path_step
use Rattle.soy_base.specs.declared.memory.Refusal.{Refusal}
use Rattle.soy_base.specs.declared.memory.Refusal.TheVariants as refusal
use Rattle.msg_bundle.specs.declared.fault.BundleFault.{BundleFault}
use Rattle.soy_base.specs.Path.{Path}

-- the path to a member of the bundle; names and keys are given by their bytes
abbrev pub member_path : List ℕ → Path
member_path name = path_step.Key (chars name) ∷ []

-- the path to an entry of a member
abbrev pub entry_path : List ℕ → List ℕ → Path
entry_path name key = path_step.Key (chars name) ∷ (path_step.Key (chars key) ∷ [])

abbrev pub fault_at : Code → Path → BundleFault
fault_at code path = record { code = code; path = path }

-- memory aside, the refusal is this fault
abbrev pub IsBecauseOf : BundleFault → Refusal BundleFault → Type 0
IsBecauseOf fault (refusal.Because given) = given ≡ fault
IsBecauseOf fault refusal.OutOfMemory = Unit {0}
