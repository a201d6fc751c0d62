use Rattle.std.proofs.Common.{◌≡◌, ◌+◌, ◌∙◌, ap, arith, drop, subst, sym}
use Rattle.std.specs.Prelude.{Err, Ok}
use Rattle.soy_front.specs.FilesAnswer.{trees_from}
use Rattle.soy_front.specs.ReadsFiles.{InFile}
use Rattle.soy_front.specs.ReadsSource.{ReadsSource}
use Rattle.soy_front.specs.Sources.{source_answer}
use Rattle.soy_front.specs.ViewSources.{view_contents}
use Rattle.soy_front.proofs.ReadingTrees.{after_trees, goes_on, stops, trees_left}
use Rattle.soy_front.proofs.files.read_trees.Goals as goal

pub returns-in-Err : goal.returns-in-Err
returns-in-Err c =
    let q = trees_left c.args.sources.now c.loop-source.source-index c.source-item.result c.loop-source-test.true
    c.source-item.is in
    let whole = c.loop-source.invariant.read ∙ ap (after_trees c.loop-source.trees.items) q in
    stops _ c.loop-source.trees.items c.loop-source.source-index c.source-item.result.bytes _ c.in-Err.refusal
    c.in_file.result whole
    (subst (λ b. ReadsSource (source_answer b) (Err c.in-Err.refusal)) c.items.ensures c.in-Err.ensures.reads)
    (subst (λ n. InFile n c.in-Err.refusal c.in_file.result) c.loop-source.invariant.counted c.in_file.ensures)

pub loop-source-preserved : goal.loop-source-preserved
loop-source-preserved c =
    let q = trees_left c.args.sources.now c.loop-source.source-index c.source-item.result c.loop-source-test.true
    c.source-item.is in
    let whole = c.loop-source.invariant.read ∙ ap (after_trees c.loop-source.trees.items) q in
    let read : source_answer c.source-item.result.bytes ≡ Ok c.in-Ok.tree =
    ap source_answer (sym c.items.ensures) ∙ c.in-Ok.ensures.reads in
    let rest =
    trees_from (c.loop-source.source-index + 1)
    (view_contents (drop (c.loop-source.source-index + 1) c.args.sources.now)) in
    record {
      read = goes_on _ c.loop-source.trees.items c.loop-source.source-index c.source-item.result.bytes c.in-Ok.tree rest
          whole read
          ∙ ap (λ ts. after_trees ts rest) (sym c.in_ok-push_tree-in-Ok.ensures);
      counted = omega arith;
    }
