-- Which files and bundle are accepted, and the first fault of those that aren't.
--
-- They are accepted where each file is UTF-8 within its limit and has a tree by the rules of tokens and grammar; the
-- trees meet the checker's demands; no two messages of one id differ; the bundle, where there is one, is one for these
-- messages; and what is demanded of all paths holds. Without a bundle the language is that of the source, left to
-- right.
-- The first fault is asked in this order: that a file is over its limit (2); of each file by itself (1, 3 to 5, and the
-- 8 of an unknown type name), in the order of the files; of the demands (6 to 9 and 20); of the messages (26); of the
-- bundle (21 to 25); of the walk (11 to 19).
-- Example: a file whose two messages have one id and differ is refused with 26, whatever its bundle and its places are.
use Rattle.std.specs.Prelude.{◌≡◌, ℕ, List, Option, Some, None, Ok, Err}
use Rattle.soy_base.specs.declared.fault.Fault.{Fault}
use Rattle.soy_tree.specs.declared.bundle.Bundle.{Bundle}
use Rattle.soy_tree.specs.declared.tree.Tree.{Tree}
use Rattle.soy_rules.specs.Demands.{CheckFault, check_fault}
use Rattle.soy_tree.specs.ViewTrees.{view_trees}
use Rattle.msg_extract.specs.Catalogue.{catalogue_of}
use Rattle.msg_extract.specs.declared.catalogue.Listed.{Listed}
use Rattle.msg_bundle.specs.ReadsBundle.{BringsBundle, RefusesBundle}
use Rattle.msg_bundle.specs.declared.fault.BundleFault.{BundleFault}
use Rattle.soy_meaning.specs.Walks.AcceptedTrees.{AcceptedTrees, walk_trees}
use Rattle.soy_meaning.specs.Walks.Walk.{WalkFault}
use Rattle.html_context.specs.ChosenTranslation.{chosen_translation}
use Rattle.soy_front.specs.FilesAnswer.{fault_of}
use Rattle.soy_front.specs.FilesDeserve.{AreWithin, HaveTrees, HasLargeFile, HasOwnFault}
use Rattle.soy_front.specs.declared.fault.FrontFault.{FrontFault}
use Rattle.soy_front.specs.declared.fault.FrontFault.TheVariants as front
use Rattle.soy_tree.specs.SourceBundle.{source_bundle}

-- each file has its tree, the trees meet all demands, and these are the rows of their catalogue
pub record AreFiles (contents : List (List ℕ)) (trees : List Tree) (rows : List Listed) : Type 0 where
  pub have : HaveTrees contents trees
  pub demands : check_fault (view_trees trees) ≡ None
  pub catalogue : catalogue_of (view_trees trees) ≡ Ok rows

-- the language that a bundle brings for the rows of a catalogue; without a bundle it is that of the source
abbrev pub Brings : Option (List ℕ) → List Listed → Bundle → Type 0
Brings None rows language = language ≡ source_bundle
Brings (Some bytes) rows language = BringsBundle bytes rows language

-- **the files and the bundle are accepted**
pub record Accepted (contents : List (List ℕ)) (bundle : Option (List ℕ)) : Type 0 where
  pub trees : List Tree
  pub rows : List Listed
  pub language : Bundle
  pub files : AreFiles contents trees rows
  pub brings : Brings bundle rows language
  pub paths : AcceptedTrees (chosen_translation language.messages) (view_trees trees)

-- a fault of the walk as a fault of its file
abbrev pub walk_fault : WalkFault → Fault
walk_fault f = record { code = f.code; file = f.at.file; at = f.at.at }

-- the first fault of files without a bundle
pub data FilesFault (contents : List (List ℕ)) (fault : Fault) : Type 0 where
  Large : HasLargeFile contents fault → FilesFault contents fault
  Own : AreWithin contents → HasOwnFault contents fault → FilesFault contents fault
  Demand : (trees : List Tree) (found : CheckFault) → HaveTrees contents trees
      → check_fault (view_trees trees) ≡ Some found → fault ≡ fault_of found → FilesFault contents fault
  Clash : (trees : List Tree) → HaveTrees contents trees → check_fault (view_trees trees) ≡ None
      → catalogue_of (view_trees trees) ≡ Err fault → FilesFault contents fault

-- the first fault of a bundle beside files, or of the walk over these under it
pub data LanguageFault (trees : List Tree) (rows : List Listed) (bundle : Option (List ℕ)) : FrontFault → Type 0 where
  Unread : (bytes : List ℕ) (fault : BundleFault) → bundle ≡ Some bytes → RefusesBundle bytes rows fault
      → LanguageFault trees rows bundle (front.Bundle fault)
  Walk : (language : Bundle) (f : WalkFault) → Brings bundle rows language
      → walk_trees (chosen_translation language.messages) (view_trees trees) ≡ Err f
      → LanguageFault trees rows bundle (front.Soy (walk_fault f))

-- **the first fault**
pub data FirstFault (contents : List (List ℕ)) (bundle : Option (List ℕ)) : FrontFault → Type 0 where
  OfFiles : (fault : Fault) → FilesFault contents fault → FirstFault contents bundle (front.Soy fault)
  OfLanguage : (trees : List Tree) (rows : List Listed) (fault : FrontFault) → AreFiles contents trees rows
      → LanguageFault trees rows bundle fault → FirstFault contents bundle fault
