use Rattle.std.proofs.Common.{subst}
use Rattle.std.specs.Prelude.{Err}
use Rattle.soy_tree.specs.ViewTrees.{view_trees}
use Rattle.msg_extract.specs.Catalogue.{catalogue_of}
use Rattle.msg_extract.specs.Extracts.{Extracts}
use Rattle.soy_front.specs.FilesAnswer.{catalogued}
use Rattle.soy_front.proofs.DetailParts.{bare_nothing, bare_reads, clash_read}
use Rattle.soy_front.proofs.files.catalogue.Goals as goal

pub returns-in-Err-clause-reads : goal.returns-in-Err-clause-reads
returns-in-Err-clause-reads c =
    bare_reads (catalogued c.args.typed) c.in-Err.clash c.bare.result
    (clash_read c.args.typed c.in-Err.clash
    (subst (λ ts. Extracts (catalogue_of (view_trees ts)) (Err c.in-Err.clash)) c.trees.ensures.trees
    c.in-Err.ensures)) c.bare.ensures

pub returns-in-Err-clause-detail : goal.returns-in-Err-clause-detail
returns-in-Err-clause-detail c = bare_nothing c.in-Err.clash c.bare.result c.bare.ensures
