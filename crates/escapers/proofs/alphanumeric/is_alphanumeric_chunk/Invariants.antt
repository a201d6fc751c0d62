use Rattle.std.proofs.Common.{◌≡◌, ◌&&◌, drop}
use Rattle.std.specs.Char.{is_ascii_alphanumeric}
use Rattle.std.specs.List.{list_all}
use Rattle.escapers.proofs.alphanumeric.is_alphanumeric_chunk.Given as goal

-- what is tested and what is still to come decide
abbrev pub invariant-loop-byte : goal.invariant-loop-byte
invariant-loop-byte l =
    (l.alphanumeric && list_all is_ascii_alphanumeric (drop l.byte-index l.bytes)) ≡ list_all is_ascii_alphanumeric
    l.bytes
