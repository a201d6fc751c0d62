-- The names of the open elements are those that are counted.
use Rattle.std.specs.Prelude.{map}
use Rattle.bidi_preview.specs.AutoDirections.{OpenName}
use Rattle.bidi_preview.specs.NameCounts.{HasCounts}
use Rattle.bidi_preview.specs.declared.direction.Directions.{Directions}

abbrev pub AreCounted : Directions → Type 0
AreCounted d = HasCounts d.names.counts (map (λ (w : OpenName). w.name) d.opened)
