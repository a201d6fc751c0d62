use Rattle.std.proofs.Common.{List, subst}
use Rattle.soy_tree.specs.ViewTrees.{view_trees}
use Rattle.soy_tree.specs.declared.tree.Tree.{Tree}
use Rattle.soy_meaning.specs.Walks.AcceptedTrees.{walk_trees}
use Rattle.html_context.specs.ChosenTranslation.{chosen_translation}
use Rattle.html_context.specs.Infers.{Infers}
use Rattle.html_context.proofs.Verdicts.{decided, placed}
use Rattle.html_context.proofs.inferring.infer.Goals as goal

pub returns-clause-walk : goal.returns-clause-walk
returns-clause-walk c =
    subst (λ (ts : List Tree). Infers (walk_trees (chosen_translation c.args.bundle.now.messages) (view_trees ts))
    c.infer_trees.result)
    c.trees.ensures.trees c.infer_trees.ensures

pub returns-clause-places : goal.returns-clause-places
returns-clause-places c =
    placed (chosen_translation c.args.bundle.now.messages) (view_trees c.args.typed.now) c.infer_trees.result
    (subst (λ (ts : List Tree). Infers (walk_trees (chosen_translation c.args.bundle.now.messages) (view_trees ts))
    c.infer_trees.result)
    c.trees.ensures.trees c.infer_trees.ensures)

pub returns-clause-accepted : goal.returns-clause-accepted
returns-clause-accepted c =
    decided (chosen_translation c.args.bundle.now.messages) (view_trees c.args.typed.now) c.infer_trees.result
    (subst (λ (ts : List Tree). Infers (walk_trees (chosen_translation c.args.bundle.now.messages) (view_trees ts))
    c.infer_trees.result)
    c.trees.ensures.trees c.infer_trees.ensures)
