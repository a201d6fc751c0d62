-- What is answered of files, without positions: the trees without their spans and all else as it is, or the first fault
-- without its position.
-- Example: of two files that print an unknown variable, the one after a space, the 7 of both is one without positions.
use Rattle.std.specs.Prelude.{List, map, Result, Ok, Err}
use Rattle.html_state.specs.declared.row.State.{State}
use Rattle.soy_base.specs.declared.fault.Fault.{Fault}
use Rattle.soy_tree.specs.Trees.{Tree}
use Rattle.soy_tree.specs.ViewTrees.{view_trees}
use Rattle.soy_tree.specs.declared.bundle.Bundle.{Bundle}
use Rattle.msg_extract.specs.declared.catalogue.Listed.{Listed}
use Rattle.soy_meaning.specs.Walks.Walk.{Walked}
use Rattle.soy_front.specs.FilesAnswer.{ReadFiles}
use Rattle.soy_front.specs.FrontAnswer.{Front}
use Rattle.soy_front.specs.declared.fault.FrontFault.{FrontFault}
use Rattle.soy_front.specs.declared.fault.FrontFault.TheVariants as front
use Rattle.soy_format.specs.WithoutSpans.{tree_without_spans}
use Rattle.alike_files.specs.WithoutPositions.{fault_without_position}

-- trees without spans, with their catalogue
pub record PlainFiles : Type 0 where
  pub trees : List Tree
  pub rows : List Listed

-- the same with the language that a bundle brings, and what the walk gives
pub record PlainFront : Type 0 where
  pub trees : List Tree
  pub rows : List Listed
  pub language : Bundle
  pub walk : Walked State

abbrev pub plain_files : ReadFiles → PlainFiles
plain_files files = record { trees = map tree_without_spans (view_trees files.trees); rows = files.rows }

-- **of files**
abbrev pub files_without_positions : Result ReadFiles Fault → Result PlainFiles Fault
files_without_positions (Ok files) = Ok (plain_files files)
files_without_positions (Err fault) = Err (fault_without_position fault)

-- a fault of the bundle has a path in the bundle, and no position
abbrev pub front_fault_without_position : FrontFault → FrontFault
front_fault_without_position (front.Soy fault) = front.Soy (fault_without_position fault)
front_fault_without_position (front.Bundle fault) = front.Bundle fault

abbrev pub plain_front : Front → PlainFront
plain_front of =
    record {
      trees = map tree_without_spans (view_trees of.files.trees);
      rows = of.files.rows;
      language = of.language;
      walk = of.walk;
    }

-- **of files and a bundle**
abbrev pub answer_without_positions : Result Front FrontFault → Result PlainFront FrontFault
answer_without_positions (Ok of) = Ok (plain_front of)
answer_without_positions (Err fault) = Err (front_fault_without_position fault)
