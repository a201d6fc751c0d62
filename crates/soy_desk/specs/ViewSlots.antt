-- The open rendering that a slot stands for, and when it fits its program and input.
use Rattle.std.specs.Prelude.{◌≡◌, ℕ, ◌<◌, List, Some, get_or, length, map, set}
use Rattle.std.specs.List.{remove}
use Rattle.soy_tree.specs.ViewValues.{view_value}
use Rattle.render_core.specs.Rest.{Fits, has_ended, rest_of}
use Rattle.soy_desk.specs.DeskRun.{PullCall, PullsRest, RenderingAnswer}
use Rattle.soy_desk.specs.DeskState.{Entry, entry_named, with_entry, without}
use Rattle.soy_desk.specs.declared.slot.Slot.{Slot}

abbrev pub view_slot : Slot → Entry
view_slot s = record {
  name = s.name;
  input = s.input;
  program = s.program.value;
  rest = rest_of s.program.value (view_value s.input) s.rendering;
  done = has_ended s.rendering;
}

abbrev pub view_slots : List Slot → List Entry
view_slots slots = map view_slot slots

pub record SlotFits (s : Slot) : Type 0 where
  pub fits : Fits s.program.value (view_value s.input) s.rendering

-- the slot of a name: what stands there, and what is left where it is changed or removed
pub record StandsAt (slots : List Slot) (name at : ℕ) : Type 0 where
  pub within : at < length slots
  pub named : (d : Slot) → entry_named name (view_slots slots) ≡ Some (view_slot (get_or slots at d))
  pub changed : (s : Slot) → s.name ≡ name
      → view_slots (set slots at s) ≡ with_entry (view_slot s) (view_slots slots)
  pub removed : view_slots (remove slots at) ≡ without name (view_slots slots)

-- the pull of a slot, which keeps its name, program and input
pub record PullsSlot (old : Slot) (c : PullCall RenderingAnswer) (new : Slot) : Type 0 where
  pub name : new.name ≡ old.name
  pub input : new.input ≡ old.input
  pub program : new.program.value ≡ old.program.value
  pub pulls : PullsRest (view_slot old).rest (view_slot old).done c (view_slot new).rest (view_slot new).done
