use Rattle.std.proofs.Common.{◌≡◌, ◌<◌, drop}
use Rattle.render_core.specs.Keys.{mixed}
use Rattle.render_core.proofs.links.mixed.Given as goal

abbrev pub invariant-loop-byte : goal.invariant-loop-byte
invariant-loop-byte l = record {
  low : l.sum < 4294967296;
  rest : mixed l.sum (drop l.byte-index l.bytes) ≡ mixed l.key l.bytes;
}
