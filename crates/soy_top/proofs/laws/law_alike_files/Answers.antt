use Rattle.soy_tree.specs.ViewTrees.{view_trees}
use Rattle.alike_files.proofs.AlikeMeanings.{meanings_alike}
use Rattle.alike_files.proofs.AlikeTrees.{ids_alike}
use Rattle.soy_top.proofs.Alike.AlikeAnswers.{accepted_alike, answers_alike, files_alike}
use Rattle.soy_top.proofs.Alike.AlikeEntries.{entries_alike}
use Rattle.soy_top.proofs.laws.law_alike_files.Goals as goal

pub returns-clause-accepted : goal.returns-clause-accepted
returns-clause-accepted c = accepted_alike

pub returns-clause-answers : goal.returns-clause-answers
returns-clause-answers c = answers_alike

pub returns-clause-files : goal.returns-clause-files
returns-clause-files c = files_alike

pub returns-clause-ids : goal.returns-clause-ids
returns-clause-ids c = λ contents others are. ids_alike (view_trees are.trees) (view_trees are.other_trees) are.alike

pub returns-clause-meaning : goal.returns-clause-meaning
returns-clause-meaning c = λ contents others are bundle number d other v one two.
    meanings_alike bundle (view_trees are.trees) (view_trees are.other_trees) number d other v are.alike one two

pub returns-clause-entries : goal.returns-clause-entries
returns-clause-entries c = entries_alike
