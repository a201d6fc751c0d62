use Rattle.std.specs.Prelude.{Err, option_map}
use Rattle.soy_front.specs.Accepted.{Accepted}
use Rattle.soy_front.specs.HasDetail.{without_detail}
use Rattle.soy_front.specs.ViewSources.{view_contents}
use Rattle.soy_front.specs.declared.accepting.AcceptedFiles.{AcceptedFiles}
use Rattle.soy_front.specs.declared.compiling.Compiled.{Compiled}
use Rattle.soy_front.proofs.AcceptedParts.{files_refused}
use Rattle.soy_front.proofs.CompiledFiles.{refused_decides, refused_same}
use Rattle.soy_front.proofs.DetailParts.{files_detailed}
use Rattle.soy_front.proofs.FirstFaults.{decided}
use Rattle.soy_front.proofs.compiling.compile.Goals as goal

pub compile_read-requires : goal.compile_read-requires
compile_read-requires c = (view_contents c.args.sources.now, c.in-Ok.ensures.reads)

pub returns-in-Ok-clause-compiles : goal.returns-in-Ok-clause-compiles
returns-in-Ok-clause-compiles c =
    c.compile_read.ensures.compiles (view_contents c.args.sources.now) c.in-Ok.ensures.reads

pub returns-in-Ok-clause-decides : goal.returns-in-Ok-clause-decides
returns-in-Ok-clause-decides c =
    c.compile_read.ensures.decides (view_contents c.args.sources.now) c.in-Ok.ensures.reads

pub returns-in-Ok-clause-detail : goal.returns-in-Ok-clause-detail
returns-in-Ok-clause-detail c =
    c.compile_read.ensures.detail (view_contents c.args.sources.now) c.in-Ok.ensures.reads

pub returns-in-Err-clause-compiles : goal.returns-in-Err-clause-compiles
returns-in-Err-clause-compiles c =
    let contents = view_contents c.args.sources.now in
    let bundle = option_map (λ b. b.now) c.args.bundle in
    refused_same contents bundle c.of_files.result
    (files_refused contents bundle c.in-Err.refusal c.of_files.result c.in-Err.ensures.reads c.of_files.ensures)

pub returns-in-Err-clause-decides : goal.returns-in-Err-clause-decides
returns-in-Err-clause-decides c =
    let contents = view_contents c.args.sources.now in
    let bundle = option_map (λ b. b.now) c.args.bundle in
    refused_decides AcceptedFiles Compiled (Accepted contents bundle) c.of_files.result
    (decided contents bundle (without_detail (Err c.of_files.result))
    (files_refused contents bundle c.in-Err.refusal c.of_files.result c.in-Err.ensures.reads c.of_files.ensures))

pub returns-in-Err-clause-detail : goal.returns-in-Err-clause-detail
returns-in-Err-clause-detail c =
    files_detailed (view_contents c.args.sources.now) (option_map (λ b. b.now) c.args.bundle) c.in-Err.refusal
    c.of_files.result c.in-Err.ensures.reads c.of_files.ensures c.in-Err.ensures.detail
