use Rattle.std.proofs.Common.{◌≡◌}
use Rattle.std.specs.Char.{is_ascii_alphanumeric}
use Rattle.std.specs.List.{list_all}
use Rattle.std.specs.Slice.Iter.{chunks_rest}
use Rattle.escapers.proofs.alphanumeric.are_alphanumeric.Given as goal

abbrev pub invariant-loop-chunk : goal.invariant-loop-chunk
invariant-loop-chunk l = list_all is_ascii_alphanumeric (chunks_rest l.chunk-iterator)
    ≡ list_all is_ascii_alphanumeric l.bytes
