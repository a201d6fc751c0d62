use Rattle.std.specs.Prelude.{Err, option_map}
use Rattle.soy_front.specs.HasDetail.{without_detail}
use Rattle.soy_front.specs.ViewSources.{view_contents}
use Rattle.soy_front.proofs.AcceptedParts.{files_refused}
use Rattle.soy_front.proofs.DetailParts.{files_detailed}
use Rattle.soy_front.proofs.FirstFaults.{decided}
use Rattle.soy_front.proofs.accepting.accept.Goals as goal

pub returns-in-Ok-clause-accepts : goal.returns-in-Ok-clause-accepts
returns-in-Ok-clause-accepts c =
    c.accept_read.ensures.accepts (view_contents c.args.sources.now) c.in-Ok.ensures.reads

pub returns-in-Ok-clause-decides : goal.returns-in-Ok-clause-decides
returns-in-Ok-clause-decides c =
    let contents = view_contents c.args.sources.now in
    decided contents (option_map (λ b. b.now) c.args.bundle) (without_detail c.accept_read.result)
    (c.accept_read.ensures.accepts contents c.in-Ok.ensures.reads)

pub returns-in-Ok-clause-detail : goal.returns-in-Ok-clause-detail
returns-in-Ok-clause-detail c =
    c.accept_read.ensures.detail (view_contents c.args.sources.now) c.in-Ok.ensures.reads

pub returns-in-Err-clause-accepts : goal.returns-in-Err-clause-accepts
returns-in-Err-clause-accepts c =
    files_refused (view_contents c.args.sources.now) (option_map (λ b. b.now) c.args.bundle) c.in-Err.refusal
    c.of_files.result c.in-Err.ensures.reads c.of_files.ensures

pub returns-in-Err-clause-decides : goal.returns-in-Err-clause-decides
returns-in-Err-clause-decides c =
    let contents = view_contents c.args.sources.now in
    let bundle = option_map (λ b. b.now) c.args.bundle in
    decided contents bundle (without_detail (Err c.of_files.result))
    (files_refused contents bundle c.in-Err.refusal c.of_files.result c.in-Err.ensures.reads c.of_files.ensures)

pub returns-in-Err-clause-detail : goal.returns-in-Err-clause-detail
returns-in-Err-clause-detail c =
    files_detailed (view_contents c.args.sources.now) (option_map (λ b. b.now) c.args.bundle) c.in-Err.refusal
    c.of_files.result c.in-Err.ensures.reads c.of_files.ensures c.in-Err.ensures.detail
