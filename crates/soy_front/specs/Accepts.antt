-- What accepting files and a bundle answers.
use Rattle.std.specs.Prelude.{◌≡◌, ℕ, List, [], Option, Some, Result, Ok, Err}
use Rattle.soy_base.specs.declared.memory.Refusal.{Refusal}
use Rattle.soy_base.specs.declared.memory.Refusal.TheVariants.{Because, OutOfMemory}
use Rattle.soy_tree.specs.declared.bundle.Bundle.{Bundle}
use Rattle.soy_tree.specs.declared.tree.Tree.{Tree}
use Rattle.soy_tree.specs.ViewTrees.{view_trees}
use Rattle.msg_bundle.specs.ReadsBundle.{RefusesBundle}
use Rattle.msg_extract.specs.declared.catalogue.Listed.{Listed}
use Rattle.soy_meaning.specs.Walks.AcceptedTrees.{walk_trees}
use Rattle.soy_meaning.specs.Walks.Walk.{walked}
use Rattle.html_context.specs.ChosenTranslation.{chosen_translation}
use Rattle.soy_front.specs.Accepted.{AreFiles, Brings, FirstFault, LanguageFault}
use Rattle.soy_front.specs.declared.accepting.AcceptedFiles.{AcceptedFiles}
use Rattle.soy_front.specs.declared.accepting.Language.{Language}
use Rattle.soy_front.specs.declared.fault.FrontFault.{FrontFault}
use Rattle.soy_front.specs.declared.fault.FrontFault.TheVariants as front

-- the bundle is refused with this fault
abbrev pub RefusesBundleOf : Option (List ℕ) → List Listed → FrontFault → Type 0
RefusesBundleOf (Some bytes) rows (front.Bundle fault) = RefusesBundle bytes rows fault
RefusesBundleOf _ _ _ = ⊥

-- the language that a bundle brings, or the first fault of the bundle
abbrev pub ReadsLanguage : Option (List ℕ) → List Listed → Result Bundle (Refusal FrontFault) → Type 0
ReadsLanguage bundle rows (Ok language) = Brings bundle rows language
ReadsLanguage bundle rows (Err (Because fault)) = RefusesBundleOf bundle rows fault
ReadsLanguage bundle rows (Err OutOfMemory) = Unit {0}

-- the language that the bundle brings, and the places that the walk over the trees gives under it
pub record AreAccepted (trees : List Tree) (rows : List Listed) (bundle : Option (List ℕ)) (language : Language)
    : Type 0 where
  pub brings : Brings bundle rows language.bundle
  pub walk : walk_trees (chosen_translation language.bundle.messages) (view_trees trees)
      ≡ Ok (walked [] language.places.prints)

-- a bundle beside files is accepted, or its first fault, or the walk's, is answered
abbrev pub AcceptsLanguage :
    List Tree → List Listed → Option (List ℕ) → Result Language (Refusal FrontFault) → Type 0
AcceptsLanguage trees rows bundle (Ok language) = AreAccepted trees rows bundle language
AcceptsLanguage trees rows bundle (Err (Because fault)) = LanguageFault trees rows bundle fault
AcceptsLanguage trees rows bundle (Err OutOfMemory) = Unit {0}

-- files are accepted with these trees and this catalogue under this language
pub record AreAcceptedAs (contents : List (List ℕ)) (bundle : Option (List ℕ)) (accepted : AcceptedFiles) : Type 0
  where
    pub files : AreFiles contents accepted.files.typed accepted.files.catalogue.messages
    pub language : AreAccepted accepted.files.typed accepted.files.catalogue.messages bundle accepted.language

-- **files and a bundle are accepted, or their first fault is answered**
abbrev pub Accepts : List (List ℕ) → Option (List ℕ) → Result AcceptedFiles (Refusal FrontFault) → Type 0
Accepts contents bundle (Ok accepted) = AreAcceptedAs contents bundle accepted
Accepts contents bundle (Err (Because fault)) = FirstFault contents bundle fault
Accepts contents bundle (Err OutOfMemory) = Unit {0}

-- yes exactly where this holds
abbrev pub Decides : {A : Type 0} → Type 0 → Result A (Refusal FrontFault) → Type 0
Decides holds (Ok a) = holds
Decides holds (Err (Because fault)) = holds → ⊥
Decides holds (Err OutOfMemory) = Unit {0}
