use Rattle.std.proofs.Common.{length}
use Rattle.place_tests.proofs.cursors.+gives_just.Given as goal

abbrev pub decreases-gives_just : goal.decreases-gives_just
decreases-gives_just l = length l.want.now
