use Rattle.std.proofs.Common.{arith, sym, subst}
use Rattle.std.proofs.lemmas.List.{length-map}
use Rattle.soy_rules.specs.Faults.{followed_by}
use Rattle.soy_front.specs.DetailAnswer.{trees_detail}
use Rattle.soy_front.specs.FilesAnswer.{demanded, trees_answer, trees_from}
use Rattle.soy_front.specs.HasDetail.{HasDetail, without_detail}
use Rattle.soy_front.specs.ReadsFiles.{ReadsFiles}
use Rattle.soy_front.specs.ViewSources.{view_contents}
use Rattle.soy_front.specs.declared.source.Source.{Source}
use Rattle.soy_front.proofs.DetailParts.{bare_reads, trees_nothing, trees_unread}
use Rattle.soy_front.proofs.FilesLaws.{have_trees}
use Rattle.soy_front.proofs.FormedSources.{as_many, trees_formed}
use Rattle.soy_front.proofs.files.read_all.Goals as goal

pub check_trees-requires-clause-formed : goal.check_trees-requires-clause-formed
check_trees-requires-clause-formed c =
    let contents = view_contents c.args.sources.now in
    trees_formed contents c.in-Ok.trees.items (have_trees contents c.in-Ok.trees.items c.in-Ok.ensures)

pub check_trees-requires-clause-few : goal.check_trees-requires-clause-few
check_trees-requires-clause-few c =
    let contents = view_contents c.args.sources.now in
    let many = as_many contents c.in-Ok.trees.items (have_trees contents c.in-Ok.trees.items c.in-Ok.ensures) in
    omega (arith, many, c.requires, length-map c.args.sources.now (λ (s : Source). s.bytes))

pub returns-in-Ok-clause-reads : goal.returns-in-Ok-clause-reads
returns-in-Ok-clause-reads c =
    subst (λ r. ReadsFiles (followed_by r demanded) (without_detail c.check_trees.result)) (sym c.in-Ok.ensures)
    c.check_trees.ensures.reads

pub returns-in-Ok-clause-detail : goal.returns-in-Ok-clause-detail
returns-in-Ok-clause-detail c =
    subst (λ r. HasDetail (trees_detail r) c.check_trees.result) (sym c.in-Ok.ensures)
    c.check_trees.ensures.detail

pub returns-in-Err-clause-reads : goal.returns-in-Err-clause-reads
returns-in-Err-clause-reads c =
    let contents = view_contents c.args.sources.now in
    bare_reads (trees_answer contents) c.in-Err.refusal c.bare.result
    (trees_unread (trees_from 0 contents) c.in-Err.refusal c.in-Err.ensures) c.bare.ensures

pub returns-in-Err-clause-detail : goal.returns-in-Err-clause-detail
returns-in-Err-clause-detail c =
    trees_nothing (trees_from 0 (view_contents c.args.sources.now)) c.in-Err.refusal c.bare.result c.in-Err.ensures
    c.bare.ensures
