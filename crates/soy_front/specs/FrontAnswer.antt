-- What is answered of files and a bundle: what they are accepted as, or their first fault.
--
-- The files are answered first; then the bundle beside their catalogue; then the walk over their trees under its
-- translations. That this is what they deserve, and nothing else, is a law: what is answered has the trees and the
-- catalogue of the files, the language that the bundle brings, and what the walk gives.
-- Example: of a file `{namespace a}` and no bundle it is the tree without templates, no message and no place.
use Rattle.std.specs.Prelude.{◌≡◌, ◌⊎◌, ℕ, List, [], Option, Some, None, Result, Ok, Err}
use Rattle.std.proofs.Common.{inl, inr, refl}
use Rattle.html_state.specs.declared.row.State.{State}
use Rattle.soy_base.specs.declared.fault.Fault.{Fault}
use Rattle.soy_tree.specs.declared.bundle.Bundle.{Bundle}
use Rattle.soy_tree.specs.ViewTrees.{view_trees}
use Rattle.msg_bundle.specs.BundlesAlike.{BundlesAlike}
use Rattle.msg_bundle.specs.ReadsBundle.{RefusesBundle}
use Rattle.msg_bundle.specs.declared.fault.BundleFault.{BundleFault}
use Rattle.msg_bundle.proofs.EitherAnswer.{bundle_or_fault}
use Rattle.msg_extract.specs.declared.catalogue.Listed.{Listed}
use Rattle.soy_meaning.specs.Walks.AcceptedTrees.{walk_trees}
use Rattle.soy_meaning.specs.Walks.Walk.{Walked, WalkFault, walked}
use Rattle.html_context.specs.ChosenTranslation.{chosen_translation}
use Rattle.soy_front.specs.Accepted.{AreFiles, Brings, walk_fault}
use Rattle.soy_front.specs.FilesAnswer.{ReadFiles, files_answer}
use Rattle.soy_front.specs.ReadsFiles.{view_files}
use Rattle.soy_front.specs.declared.accepting.AcceptedFiles.{AcceptedFiles}
use Rattle.soy_front.specs.declared.fault.FrontFault.{FrontFault}
use Rattle.soy_front.specs.declared.fault.FrontFault.TheVariants as front
use Rattle.soy_tree.specs.SourceBundle.{source_bundle}

-- what files and a bundle are accepted as: their trees and catalogue, the language, and what the walk gives
pub record Front : Type 0 where
  pub files : ReadFiles
  pub language : Bundle
  pub walk : Walked State

-- the bundle, where there is one, is refused with this fault
abbrev pub RefusesLanguage : Option (List ℕ) → List Listed → BundleFault → Type 0
RefusesLanguage None rows fault = ⊥
RefusesLanguage (Some bytes) rows fault = RefusesBundle bytes rows fault

-- a bundle beside the rows of a catalogue brings a language, or it has a first fault
abbrev pub LanguageOrFault : Option (List ℕ) → List Listed → Type 0
LanguageOrFault bundle rows =
    ((language : Bundle) × Brings bundle rows language) ⊎ ((fault : BundleFault) × RefusesLanguage bundle rows fault)

abbrev pub language_or_fault : (bundle : Option (List ℕ)) (rows : List Listed) → LanguageOrFault bundle rows
language_or_fault None rows = inl (source_bundle, refl)
language_or_fault (Some bytes) rows = bundle_or_fault bytes rows

abbrev pub walk_answer : ReadFiles → Bundle → Result (Walked State) WalkFault → Result Front FrontFault
walk_answer files language (Ok walk) = Ok (record { files = files; language = language; walk = walk })
walk_answer files language (Err f) = Err (front.Soy (walk_fault f))

abbrev pub language_answer : (bundle : Option (List ℕ)) (files : ReadFiles) → LanguageOrFault bundle files.rows
    → Result Front FrontFault
language_answer bundle files (inl brought) =
    walk_answer files brought.0 (walk_trees (chosen_translation brought.0.messages) (view_trees files.trees))
language_answer bundle files (inr refused) = Err (front.Bundle refused.0)

abbrev pub answer_by_files : Option (List ℕ) → Result ReadFiles Fault → Result Front FrontFault
answer_by_files bundle (Ok files) = language_answer bundle files (language_or_fault bundle files.rows)
answer_by_files bundle (Err fault) = Err (front.Soy fault)

-- **what is answered of the contents of files and of a bundle**
abbrev pub front_answer : List (List ℕ) → Option (List ℕ) → Result Front FrontFault
front_answer contents bundle = answer_by_files bundle (files_answer contents)

-- what was accepted is what is answered, and its language says the same
pub record IsFront (answer : Result Front FrontFault) (accepted : AcceptedFiles) : Type 0 where
  pub of : Front
  pub answered : answer ≡ Ok of
  pub files : of.files ≡ view_files accepted.files
  pub language : BundlesAlike of.language accepted.language.bundle
  pub walk : of.walk ≡ walked [] accepted.language.places.prints

-- what is answered is of the trees and the catalogue of the files, of the language that the bundle brings, and of what
-- the walk gives
pub record DeserveFront (contents : List (List ℕ)) (bundle : Option (List ℕ)) (of : Front) : Type 0 where
  pub files : AreFiles contents of.files.trees of.files.rows
  pub brings : Brings bundle of.files.rows of.language
  pub walk : walk_trees (chosen_translation of.language.messages) (view_trees of.files.trees) ≡ Ok of.walk
