-- What is accepted has no first fault.
use Rattle.std.proofs.Common.{◌≡◌, ℕ, List, [], Option, sym, ◌∙◌, subst}
use Rattle.std.specs.Prelude.{Result, Ok, Err}
use Rattle.soy_base.specs.declared.fault.Fault.{Fault}
use Rattle.soy_base.specs.declared.memory.Refusal.{Refusal}
use Rattle.soy_base.specs.declared.memory.Refusal.TheVariants.{Because, OutOfMemory}
use Rattle.html_state.specs.declared.row.State.{State}
use Rattle.soy_tree.specs.declared.bundle.Bundle.{Bundle}
use Rattle.soy_tree.specs.declared.tree.Tree.{Tree}
use Rattle.soy_tree.specs.MessageParts.{MsgParts}
use Rattle.soy_tree.specs.Nodes.{Message}
use Rattle.soy_tree.specs.ViewTrees.{view_trees}
use Rattle.msg_extract.specs.declared.catalogue.Listed.{Listed}
use Rattle.msg_bundle.proofs.OneAnswer.{bundle_apart}
use Rattle.soy_meaning.specs.Walks.AcceptedTrees.{AcceptedTrees, walk_trees}
use Rattle.soy_meaning.specs.Walks.PageMachine.{page_machine}
use Rattle.soy_meaning.specs.Paths.PlanOfNodes.{trees_plan}
use Rattle.soy_meaning.specs.Walks.Walk.{WalkFault, Walked, walked}
use Rattle.soy_meaning.proofs.Walks.PageStates.{page_compares}
use Rattle.soy_meaning.proofs.Walks.Exact.{accepted_when_walked, trees_walked}
use Rattle.html_context.specs.ChosenTranslation.{chosen_translation}
use Rattle.soy_front.specs.Accepted.{Accepted, Brings, FirstFault, LanguageFault}
use Rattle.soy_front.specs.Accepted.FirstFault.{OfFiles, OfLanguage}
use Rattle.soy_front.specs.Accepted.LanguageFault.{Unread, Walk}
use Rattle.soy_front.specs.Accepts.{Accepts, AreAcceptedAs, Decides}
use Rattle.soy_front.specs.FilesAnswer.{ReadFiles, files_answer}
use Rattle.soy_front.specs.declared.accepting.AcceptedFiles.{AcceptedFiles}
use Rattle.soy_front.specs.declared.fault.FrontFault.{FrontFault}
use Rattle.soy_front.proofs.BundleTranslations.{same_chosen}
use Rattle.soy_front.proofs.FilesLaws.{fault_had, files_had}

never_both : {A : Type 0} (r : Result A Fault) (a : A) (fault : Fault) → r ≡ Ok a → r ≡ Err fault → ⊥
never_both r a fault one other = cc

walks : (translation : Message → Option MsgParts) (trees : List Tree) (f : WalkFault)
    → AcceptedTrees translation (view_trees trees) → walk_trees translation (view_trees trees) ≡ Err f → ⊥
walks translation trees f paths fails =
    let v : (w : Walked State) × (walk_trees translation (view_trees trees) ≡ Ok w) =
    trees_walked translation (view_trees trees) paths in
    let no : Ok v.0 ≡ Err f = sym v.1 ∙ fails in absurd (cc no)

module _ (bundle : Option (List ℕ)) (trees : List Tree) (rows : List Listed) (language : Bundle)
    (brings : Brings bundle rows language)
    (paths : AcceptedTrees (chosen_translation language.messages) (view_trees trees)) where
  language_apart : (fault : FrontFault) → LanguageFault trees rows bundle fault → ⊥
  language_apart _ (Unread bytes fault is refuses) =
      bundle_apart bytes rows language fault (subst (λ b. Brings b rows language) is brings) refuses
  language_apart _ (Walk other f brings_other fails) =
      walks (chosen_translation other.messages) trees f
      (subst (λ t. AcceptedTrees t (view_trees trees)) (same_chosen bundle rows language other brings brings_other)
      paths) fails

same_trees : (a b : ReadFiles) → ◌≡◌ {A = Result ReadFiles Fault} (Ok a) (Ok b) → a ≡ b
same_trees a b e = cc

pub first_apart : (contents : List (List ℕ)) (bundle : Option (List ℕ)) (fault : FrontFault)
    → Accepted contents bundle → FirstFault contents bundle fault → ⊥
first_apart contents bundle _ a (OfFiles fault f) =
    never_both (files_answer contents) _ fault (files_had contents a.trees a.rows a.files) (fault_had contents fault f)
first_apart contents bundle fault a (OfLanguage trees rows _ are f) =
    let one : ReadFiles = record { trees = a.trees; rows = a.rows } in
    let other : ReadFiles = record { trees = trees; rows = rows } in
    let same : one ≡ other =
    same_trees one other (sym (files_had contents a.trees a.rows a.files) ∙ files_had contents trees rows are) in
    let brings : Brings bundle rows a.language =
    subst (λ (r : ReadFiles). Brings bundle r.rows a.language) same a.brings in
    let paths : AcceptedTrees (chosen_translation a.language.messages) (view_trees trees) =
    subst (λ (r : ReadFiles). AcceptedTrees (chosen_translation a.language.messages) (view_trees r.trees)) same a.paths
    in
    language_apart bundle trees rows a.language brings paths fault f

accepted_as : (contents : List (List ℕ)) (bundle : Option (List ℕ)) (a : AcceptedFiles)
    → AreAcceptedAs contents bundle a → Accepted contents bundle
accepted_as contents bundle a is =
    record {
      trees = a.files.typed;
      rows = a.files.catalogue.messages;
      language = a.language.bundle;
      files = is.files;
      brings = is.language.brings;
      paths = accepted_when_walked page_machine page_compares
          (trees_plan (chosen_translation a.language.bundle.messages) (view_trees a.files.typed)) (walked [] [])
          (walked [] a.language.places.prints) is.language.walk;
    }

pub decided : (contents : List (List ℕ)) (bundle : Option (List ℕ)) (answer : Result AcceptedFiles (Refusal FrontFault))
    → Accepts contents bundle answer → Decides (Accepted contents bundle) answer
decided contents bundle (Ok a) is = accepted_as contents bundle a is
decided contents bundle (Err (Because fault)) is = λ holds. first_apart contents bundle fault holds is
decided contents bundle (Err OutOfMemory) is = tt
