-- Flat lines: no character in them is removed, and none begins or ends an isolate, an embedding or an override.
--
-- U+05D0, space, `12` is flat. A line with U+200B, which is removed, isn't, and none with an isolate is.
use Rattle.std.specs.Prelude.{Bool, true, false}
use Rattle.bidi_class.specs.declared.class.Class.{Class}
use Rattle.bidi_class.specs.declared.class.Class.TheVariants.{LRE, RLE, LRO, RLO, PDF, LRI, RLI, FSI, PDI, BN}

abbrev pub is_flat : Class → Bool
is_flat LRE = false
is_flat RLE = false
is_flat LRO = false
is_flat RLO = false
is_flat PDF = false
is_flat LRI = false
is_flat RLI = false
is_flat FSI = false
is_flat PDI = false
is_flat BN = false
is_flat _ = true
