use Rattle.std.proofs.Common.{◌≡◌, take}
use Rattle.std.specs.List.{flat_map}
use Rattle.escapers.specs.PercentEncoded.{encoded_byte}
use Rattle.escapers.proofs.uri.put_encoded.Given as goal

-- the bytes so far are pending, each encoded
abbrev pub invariant-loop-byte : goal.invariant-loop-byte
invariant-loop-byte l = l.tail ≡ flat_map encoded_byte (take l.byte-index l.bytes)
