use Rattle.std.proofs.Common.{◌≡◌, ◌≤◌, ◌+◌, ◌*◌, drop}
use Rattle.value_cursor.specs.Shares.{total_share}
use Rattle.value_cursor.proofs.shares.chunk_share.Given as goal

abbrev pub invariant-loop-byte : goal.invariant-loop-byte
invariant-loop-byte l = record {
  total : l.total + total_share l.shares (drop l.byte-index l.bytes) ≡ total_share l.shares l.bytes;
  bound : l.total ≤ 65535 * l.byte-index;
}
