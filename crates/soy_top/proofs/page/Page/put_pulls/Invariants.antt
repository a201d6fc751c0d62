use Rattle.std.proofs.Common.{◌≡◌, ◌≤◌, ◌<◌, length}
use Rattle.render_core.specs.Rest.{Fits, rest_bytes, rest_end, rest_of}
use Rattle.soy_pieces.specs.Outcome.{end_of_outcome}
use Rattle.soy_tree.specs.ViewValues.{view_value}
use Rattle.soy_top.specs.Answer.{run_text}
use Rattle.soy_top.specs.Runs.ViewOutput.{page_run}
use Rattle.soy_top.proofs.Took.{PutSoFar}
use Rattle.soy_top.proofs.page.Page.put_pulls.Given as goal

abbrev pub invariant-loop-rendering : goal.invariant-loop-rendering
invariant-loop-rendering g l =
    let rest = rest_of l.self.program (view_value l.self.input) l.rendering in record {
      fits : Fits l.self.program (view_value l.self.input) l.rendering;
      so_far : PutSoFar (g.K.Sink.taken l.initial.out) (g.K.Sink.taken l.out) (run_text (page_run l.self))
          (rest_bytes rest);
      same_end : rest_end rest ≡ end_of_outcome (page_run l.self);
      untouched : length (run_text (page_run l.self)) ≤ length (rest_bytes rest) → l.out ≡ l.initial.out;
      later : g.K.Sink.faults l.initial.out ≤ g.K.Sink.faults l.out;
      has_room : 0 < length l.room;
    }

abbrev pub decreases-loop-rendering : goal.decreases-loop-rendering
decreases-loop-rendering g l = length (rest_bytes (rest_of l.self.program (view_value l.self.input) l.rendering))
