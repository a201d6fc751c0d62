use Rattle.std.proofs.Common.{◌≤◌, ◌*◌, drop}
use Rattle.std.specs.List.{flat_map}
use Rattle.value_cursor.specs.ByteForms.{byte_form}
use Rattle.value_cursor.specs.Gives.{Gives}
use Rattle.value_cursor.proofs.whole.put_forms.Given as goal

abbrev pub invariant-loop-byte : goal.invariant-loop-byte
invariant-loop-byte l = record {
  gives : Gives (flat_map (byte_form l._how) l.bytes) (flat_map (byte_form l._how) (drop l.byte-index l.bytes))
      l.fn.room l.room l.filled;
  bound : l.filled ≤ 6 * l.byte-index;
}
