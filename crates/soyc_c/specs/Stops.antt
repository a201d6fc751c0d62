-- Why there is no such thing: it is missing because a part is malformed, or memory ran out, which says nothing of it.
--
-- Example: for a word that isn't UTF-8 either may be said, and for one that is only that memory ran out.
use Rattle.std.specs.Prelude.{◌≡◌, ℕ, Option, None}
use Rattle.soyc_c.specs.declared.parts.Stop.{Stop}
use Rattle.soyc_c.specs.declared.parts.Stop.TheVariants.{Malformed, Memory}

abbrev pub StopsAt : {A : Type 0} → Stop → Option A → Type 0
StopsAt Malformed found = found ≡ None
StopsAt Memory found = Unit {0}

-- the status for it
abbrev pub stop_status : Stop → ℕ
stop_status Malformed = 7
stop_status Memory = 1
