use Rattle.std.proofs.Common.{ap, sym, subst}
use Rattle.std.specs.Prelude.{Err}
use Rattle.soy_base.specs.declared.fault.Fault.{Fault}
use Rattle.soy_base.specs.declared.memory.Refusal.{Refusal}
use Rattle.soy_front.specs.DetailAnswer.{files_detail, trees_detail}
use Rattle.soy_front.specs.FilesAnswer.{files_answer, trees_from, unless_large}
use Rattle.soy_front.specs.HasDetail.{GoesWith, HasDetail, without_detail}
use Rattle.soy_front.specs.ReadsFiles.{ReadsFiles}
use Rattle.soy_front.specs.ViewSources.{view_contents}
use Rattle.soy_front.specs.declared.fault.Detail.{Detail}
use Rattle.soy_front.specs.declared.fault.Detailed.{Detailed}
use Rattle.soy_front.proofs.FilesLaws.{large_refused, none_refused}
use Rattle.soy_front.proofs.files.read_detailed.Goals as goal

pub returns-in-Some-clause-reads : goal.returns-in-Some-clause-reads
returns-in-Some-clause-reads c =
    let contents = view_contents c.args.sources.now in
    subst (λ (r : Refusal (Detailed Fault)). ReadsFiles (files_answer contents) (without_detail (Err r)))
    (sym c.bare.ensures) (large_refused contents c.in-Some.fault c.in-Some.ensures)

pub returns-in-Some-clause-detail : goal.returns-in-Some-clause-detail
returns-in-Some-clause-detail c =
    let contents = view_contents c.args.sources.now in
    subst (λ (r : Refusal (Detailed Fault)). GoesWith (files_detail contents) r) (sym c.bare.ensures)
    (ap (λ o. trees_detail (unless_large o (trees_from 0 contents))) c.in-Some.ensures)

pub returns-in-None-clause-reads : goal.returns-in-None-clause-reads
returns-in-None-clause-reads c =
    subst (λ r. ReadsFiles r (without_detail c.read_all.result))
    (sym (none_refused (view_contents c.args.sources.now) c.in-None.ensures)) c.read_all.ensures.reads

pub returns-in-None-clause-detail : goal.returns-in-None-clause-detail
returns-in-None-clause-detail c =
    let contents = view_contents c.args.sources.now in
    subst (λ (d : Detail). HasDetail d c.read_all.result)
    (ap (λ o. trees_detail (unless_large o (trees_from 0 contents))) c.in-None.ensures) c.read_all.ensures.detail
