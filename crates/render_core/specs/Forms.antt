-- The escaped form of a value's text at a place, none where the place doesn't take it.
use Rattle.std.specs.Prelude.{◌≡◌, List, [], ℕ, Option, Some, None, unwrap_or}
use Rattle.soy_base.specs.declared.direction.Dir.{Dir}
use Rattle.soy_base.specs.declared.place.Place.{Place}
use Rattle.soy_base.specs.declared.place.ValueClass.{ValueClass}
use Rattle.escapers.specs.EscaperFor.{escaper_of}
use Rattle.escapers.specs.declared.escaper.Escaper.{Escaper}
use Rattle.escapers.specs.declared.escaper.Escaper.TheVariants as escaper
use Rattle.soy_pieces.specs.EscapedAt.{escaped_at}

abbrev pub form_at : Place → ValueClass → List ℕ → Dir → List ℕ
form_at point class text context = unwrap_or (escaped_at point class text context) []

-- an escaper of values that are no markup
abbrev pub IsWritten : Escaper → Type 0
IsWritten escaper.AsIs = ⊥
IsWritten _ = Unit {0}

-- how a value is escaped there
abbrev pub EscapesAt : Place → ValueClass → Option Escaper → Type 0
EscapesAt point class None = (text : List ℕ) (context : Dir) → escaped_at point class text context ≡ None
EscapesAt point class (Some how) = (escaper_of point class ≡ Some how) × IsWritten how
