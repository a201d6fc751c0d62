use Rattle.std.proofs.Common.{◌≡◌, ◌≤◌, ◌<◌, ◌++◌, length}
use Rattle.render_core.specs.Rest.{Fits, rest_bytes, rest_end, rest_of}
use Rattle.soy_pieces.specs.Outcome.{end_of_outcome}
use Rattle.soy_tree.specs.ViewValues.{view_value}
use Rattle.soy_top.specs.Answer.{run_text}
use Rattle.soy_top.specs.Runs.ViewOutput.{page_run}
use Rattle.soy_top.proofs.seen.gather_pulls.Given as goal

abbrev pub invariant-loop-bytes : goal.invariant-loop-bytes
invariant-loop-bytes g l =
    let rest = rest_of l.page.program (view_value l.page.input) l.rendering in record {
      fits : Fits l.page.program (view_value l.page.input) l.rendering;
      so_far : run_text (page_run l.page) ≡ l.bytes.items ++ rest_bytes rest;
      same_end : rest_end rest ≡ end_of_outcome (page_run l.page);
      few : length l.bytes.items ≤ 1048576;
      has_room : 0 < length l.room;
    }

abbrev pub decreases-loop-bytes : goal.decreases-loop-bytes
decreases-loop-bytes g l = length (rest_bytes (rest_of l.page.program (view_value l.page.input) l.rendering))
