-- How a message is added: as the ops of its source, which were made before, or as those of a translation.
-- Example: where the bundle has no translation, the ops of the source are added as they are.
use Rattle.std.specs.Prelude.{◌≡◌, ℕ, ◌+◌, List, ◌++◌, Option}
use Rattle.soy_base.specs.declared.place.Place.{Place}
use Rattle.soy_pieces.specs.Pieces.{ChosenText, TheFallback, TheOwn, TheSource}
use Rattle.soy_tree.specs.MessageParts.{MsgParts}
use Rattle.soy_tree.specs.Nodes.{Fallback, Message}
use Rattle.template_ir.specs.HoleCounts.{fallback_holes, translation_holes}
use Rattle.template_ir.specs.Ops.{Op}
use Rattle.ir_build.specs.Claims.{translation_stands}
use Rattle.ir_build.specs.Laid.{Made, Pushes}

-- the holes of the translations of a message and its fallback
abbrev pub holes_behind : (Message → Option MsgParts) → Message → Fallback → ℕ
holes_behind translation m other = translation_holes translation m + fallback_holes translation other

-- from what was made with and without the blocks of the source, and from the own ops of the source
abbrev pub Chooses : (Message → Option MsgParts) → List Place → ChosenText → Message → Fallback → Made → Made → Made
    → List Op → List Op → List Op → Type 0
Chooses translation places TheSource m other old without new source own own_after =
    (new ≡ old) × (own_after ≡ own ++ source)
Chooses translation places (TheOwn parts) m other old without new source own own_after =
    Pushes (translation_stands places m parts) (holes_behind translation m other) without new own own_after
Chooses translation places (TheFallback chosen parts) m other old without new source own own_after =
    Pushes (λ hole all at end. translation_stands places chosen parts (hole + translation_holes translation m) all at
    end) (holes_behind translation m other) without new own own_after
