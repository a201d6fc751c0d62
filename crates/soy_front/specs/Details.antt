-- What goes with the first fault of files and a bundle, by the rule that finds the fault.
--
-- With a failed demand go the two names or types that the checker keeps (the second is empty where there is only one).
-- With a value that has two placings (12) go these two, in the order of the walk, and with any other fault of the walk
-- nothing. Nothing goes with a fault of the size of a file, of its text, its tokens and the grammar, of messages and of
-- the bundle.
-- Example: with the 7 of an unknown variable `$x` go `x` and nothing else.
use Rattle.std.specs.Prelude.{ℕ, List, Option, Some, None}
use Rattle.soy_base.specs.declared.fault.Fault.{Fault}
use Rattle.soy_base.specs.declared.place.Placing.{Placing}
use Rattle.soy_tree.specs.declared.tree.Tree.{Tree}
use Rattle.soy_rules.specs.Demands.{CheckFault}
use Rattle.msg_extract.specs.declared.catalogue.Listed.{Listed}
use Rattle.soy_front.specs.Accepted.FilesFault.{Large, Own, Demand, Clash}
use Rattle.soy_front.specs.Accepted.FirstFault.{OfFiles, OfLanguage}
use Rattle.soy_front.specs.Accepted.LanguageFault.{Unread, Walk}
use Rattle.soy_front.specs.Accepted.{FilesFault, FirstFault, LanguageFault}
use Rattle.soy_front.specs.declared.fault.Detail.TheVariants as detail
use Rattle.soy_front.specs.declared.fault.Detail.{Detail}
use Rattle.soy_front.specs.declared.fault.FrontFault.{FrontFault}

abbrev pub names_detail : CheckFault → Detail
names_detail found = detail.Names found.fault.left found.fault.right

abbrev pub placings_detail : Option (Placing × Placing) → Detail
placings_detail None = detail.None
placings_detail (Some both) = detail.Placings both.0 both.1

-- of files
abbrev pub files_fault_detail : (contents : List (List ℕ)) (fault : Fault) → FilesFault contents fault → Detail
files_fault_detail contents fault (Large large) = detail.None
files_fault_detail contents fault (Own within own) = detail.None
files_fault_detail contents fault (Demand trees found have fails is) = names_detail found
files_fault_detail contents fault (Clash trees have demands clash) = detail.None

-- of a bundle beside files, or of the walk
abbrev pub language_fault_detail : (trees : List Tree) (rows : List Listed) (bundle : Option (List ℕ))
    (fault : FrontFault) → LanguageFault trees rows bundle fault → Detail
language_fault_detail trees rows bundle _ (Unread bytes fault is refuses) = detail.None
language_fault_detail trees rows bundle _ (Walk language f brings fails) = placings_detail f.placings

-- **what goes with the first fault**
abbrev pub fault_detail : (contents : List (List ℕ)) (bundle : Option (List ℕ)) (fault : FrontFault)
    → FirstFault contents bundle fault → Detail
fault_detail contents bundle _ (OfFiles fault f) = files_fault_detail contents fault f
fault_detail contents bundle fault (OfLanguage trees rows _ are f) = language_fault_detail trees rows bundle fault f
