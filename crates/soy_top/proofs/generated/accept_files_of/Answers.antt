use Rattle.std.proofs.Common.{◌∙◌}
use Rattle.soy_front.specs.ReadsFiles.{view_files}
use Rattle.soy_front.specs.ViewSources.{view_contents}
use Rattle.soy_top.specs.Answer.{bundled_answer}
use Rattle.soy_top.specs.Words.{command_words}
use Rattle.soy_top.proofs.Answering.{read_answered}
use Rattle.soy_top.proofs.Workloads.{bundled_then}
use Rattle.soy_top.proofs.generated.accept_files_of.Goals as goal

pub returns-in_ok-bundle-in-Ok : goal.returns-in_ok-bundle-in-Ok
returns-in_ok-bundle-in-Ok c =
    let names = command_words c.args.names.now in
    let files = view_contents c.args.sources.now in
    read_answered names files (bundled_answer c.args.workload.now names files) (view_files c.in-Ok.read)
    c.accept_bundled.result c.in-Ok.ensures (bundled_then c.args.workload.now c.accept_bundled.result names files
    (view_files c.in-Ok.read) _ (c.as_bytes.ensures.value ∙ c.in_ok-bundle-in-Ok.ensures) c.accept_bundled.ensures)
