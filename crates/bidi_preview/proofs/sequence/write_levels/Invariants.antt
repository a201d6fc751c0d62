use Rattle.std.proofs.Common.{◌≡◌, length, drop, map}
use Rattle.bidi_order.specs.Resolve.{implicit}
use Rattle.bidi_preview.specs.SequenceSteps.{written}
use Rattle.bidi_preview.proofs.sequence.write_levels.Given as goal

abbrev pub invariant-loop-place : goal.invariant-loop-place
invariant-loop-place l = record {
  long : length l.levels ≡ length l.initial.levels;
  list : written (drop l.place l.indexes) (map (implicit l.level) (drop l.place l.classes)) l.levels
      ≡ written l.indexes (map (implicit l.level) l.classes) l.initial.levels;
}
