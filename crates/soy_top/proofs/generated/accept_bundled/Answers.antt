use Rattle.std.proofs.Common.{Some, codes}
use Rattle.soy_front.specs.ViewSources.{view_contents}
use Rattle.soy_top.specs.Answer.{render_answer, summed_page}
use Rattle.soy_top.specs.Generated.{workload_entry, workload_json}
use Rattle.soy_top.specs.Words.{command_words}
use Rattle.soy_top.proofs.Answering.{compiled_then}
use Rattle.soy_top.proofs.generated.accept_bundled.Goals as goal

pub returns-in-Ok : goal.returns-in-Ok
returns-in-Ok c =
    compiled_then (command_words c.args.names.now) (view_contents c.args.sources.now) (codes "gen.bundle")
    (Some c.args.bundle.now) c.in-Ok.compiled (render_answer summed_page (workload_entry c.args.workload.now)
    (codes "gen.json") (workload_json c.args.workload.now)) c.accept_compiled.result c.in-Ok.ensures
    (c.accept_compiled.ensures _ c.in-Ok.ensures)

pub returns-in-Err : goal.returns-in-Err
returns-in-Err c =
    c.in-Err.ensures (render_answer summed_page (workload_entry c.args.workload.now) (codes "gen.json")
    (workload_json c.args.workload.now))
