-- What goes with the fault of files and a bundle, given by these alone.
--
-- That this is what goes with the first fault, by whichever rule finds that, is a law.
-- Example: with files that are accepted goes nothing.
use Rattle.std.specs.Prelude.{ℕ, List, Option, Some, None, Result, Ok, Err}
use Rattle.std.proofs.Common.{inl, inr}
use Rattle.soy_base.specs.declared.fault.Fault.{Fault}
use Rattle.soy_base.specs.declared.place.Placing.{Placing}
use Rattle.html_state.specs.declared.row.State.{State}
use Rattle.soy_tree.specs.declared.tree.Tree.{Tree}
use Rattle.soy_tree.specs.ViewTrees.{view_trees}
use Rattle.soy_rules.specs.Demands.{CheckFault, check_fault}
use Rattle.msg_extract.specs.declared.catalogue.Listed.{Listed}
use Rattle.soy_meaning.specs.Walks.AcceptedTrees.{walk_trees}
use Rattle.soy_meaning.specs.Walks.Walk.{WalkFault, Walked}
use Rattle.html_context.specs.ChosenTranslation.{chosen_translation}
use Rattle.soy_front.specs.Details.{names_detail, placings_detail}
use Rattle.soy_front.specs.FilesAnswer.{ReadFiles, files_answer, large_from, trees_from, unless_large}
use Rattle.soy_front.specs.FrontAnswer.{LanguageOrFault, language_or_fault}
use Rattle.soy_front.specs.declared.fault.Detail.TheVariants as detail
use Rattle.soy_front.specs.declared.fault.Detail.{Detail}

abbrev pub demand_detail : Option CheckFault → Detail
demand_detail None = detail.None
demand_detail (Some found) = names_detail found

abbrev pub trees_detail : Result (List Tree) Fault → Detail
trees_detail (Ok trees) = demand_detail (check_fault (view_trees trees))
trees_detail (Err fault) = detail.None

-- of files: of the demands, where each has a tree and none is over the limit
abbrev pub files_detail : List (List ℕ) → Detail
files_detail contents = trees_detail (unless_large (large_from 0 contents) (trees_from 0 contents))

-- both placings, or nothing
abbrev pub both_placings : Option Placing → Option Placing → Detail
both_placings None second = detail.None
both_placings (Some first) None = detail.None
both_placings (Some first) (Some second) = detail.Placings first second

abbrev pub walk_detail : Result (Walked State) WalkFault → Detail
walk_detail (Ok walk) = detail.None
walk_detail (Err f) = placings_detail f.placings

-- of a bundle beside files, and of the walk over these under it
abbrev pub language_detail : List Tree → (rows : List Listed) (bundle : Option (List ℕ)) → LanguageOrFault bundle rows
    → Detail
language_detail trees rows bundle (inl brought) =
    walk_detail (walk_trees (chosen_translation brought.0.messages) (view_trees trees))
language_detail trees rows bundle (inr refused) = detail.None

abbrev pub detail_by_files : Option (List ℕ) → Detail → Result ReadFiles Fault → Detail
detail_by_files bundle of_files (Ok files) =
    language_detail files.trees files.rows bundle (language_or_fault bundle files.rows)
detail_by_files bundle of_files (Err fault) = of_files

-- **of the contents of files and a bundle**
abbrev pub front_detail : List (List ℕ) → Option (List ℕ) → Detail
front_detail contents bundle = detail_by_files bundle (files_detail contents) (files_answer contents)
