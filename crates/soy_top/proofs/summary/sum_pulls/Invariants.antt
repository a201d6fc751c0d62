use Rattle.std.proofs.Common.{◌<◌, length}
use Rattle.render_core.specs.Rest.{Fits, rest_bytes, rest_of}
use Rattle.soy_tree.specs.ViewValues.{view_value}
use Rattle.soy_top.specs.Answer.{run_text}
use Rattle.soy_top.specs.Runs.ViewOutput.{page_run}
use Rattle.soy_top.proofs.Sums.{SummedSoFar}
use Rattle.soy_top.proofs.summary.sum_pulls.Given as goal

abbrev pub invariant-loop-sum : goal.invariant-loop-sum
invariant-loop-sum g l =
    let rest = rest_of l.page.program (view_value l.page.input) l.rendering in record {
      fits : Fits l.page.program (view_value l.page.input) l.rendering;
      so_far : SummedSoFar (run_text (page_run l.page)) (rest_bytes rest) l.sum;
      has_room : 0 < length l.room;
    }

abbrev pub decreases-loop-sum : goal.decreases-loop-sum
decreases-loop-sum g l = length (rest_bytes (rest_of l.page.program (view_value l.page.input) l.rendering))
