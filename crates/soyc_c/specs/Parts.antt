-- The bytes of a part of a list of bytes, if it is one: it ends within the list, and not before it begins.
--
-- Example: of "abcd" the part from 1 to 3 is "bc", that from 4 to 4 is empty, and there are none from 3 to 1 and from 2
-- to 5.
use Rattle.std.specs.Prelude.{ℕ, List, length, ◌&&◌, nat_le, Option, None, Some, if◌then◌else◌, slice_range}
use Rattle.soyc_c.specs.declared.parts.Part.{Part}

abbrev pub part_bytes : List ℕ → Part → Option (List ℕ)
part_bytes bytes part =
    if nat_le part.begin part.end && nat_le part.end (length bytes) then Some (slice_range bytes part.begin part.end)
    else None
