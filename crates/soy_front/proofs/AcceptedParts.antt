-- What accepting files and a bundle answers, by what its parts answer.
use Rattle.std.proofs.Common.{◌≡◌, ℕ, List, Option, Some, None, refl, sym, subst}
use Rattle.std.specs.Prelude.{Result, Ok, Err}
use Rattle.soy_base.specs.declared.fault.Fault.{Fault}
use Rattle.soy_base.specs.declared.memory.Refusal.{Refusal}
use Rattle.soy_base.specs.declared.memory.Refusal.TheVariants.{Because, OutOfMemory}
use Rattle.html_state.specs.declared.row.State.{State}
use Rattle.soy_tree.specs.declared.bundle.Bundle.{Bundle}
use Rattle.soy_tree.specs.declared.tree.Tree.{Tree}
use Rattle.soy_tree.specs.ViewTrees.{view_trees}
use Rattle.msg_extract.specs.declared.catalogue.Listed.{Listed}
use Rattle.soy_meaning.specs.Walks.AcceptedTrees.{walk_trees}
use Rattle.soy_meaning.specs.Walks.Walk.{WalkFault, Walked}
use Rattle.html_context.specs.ChosenTranslation.{chosen_translation}
use Rattle.html_context.specs.Infers.{Infers, IsFaultOf}
use Rattle.html_context.specs.declared.fault.PlaceFault.{PlaceFault}
use Rattle.soy_front.specs.Accepted.FirstFault.{OfFiles, OfLanguage}
use Rattle.soy_front.specs.Accepted.LanguageFault.{Unread, Walk}
use Rattle.soy_front.specs.Accepted.{Brings, LanguageFault}
use Rattle.soy_front.specs.Accepts.{Accepts, AcceptsLanguage, AreAcceptedAs, ReadsLanguage, RefusesBundleOf}
use Rattle.soy_front.specs.FilesAnswer.{files_answer}
use Rattle.soy_front.specs.HasDetail.{IsOfFiles, without_detail}
use Rattle.soy_front.specs.ReadsFiles.{ReadsFiles, view_files}
use Rattle.soy_front.specs.declared.accepting.Language.{Language}
use Rattle.soy_front.specs.declared.fault.Detailed.{Detailed}
use Rattle.soy_front.specs.declared.fault.FrontFault.TheVariants as front
use Rattle.soy_front.specs.declared.fault.FrontFault.{FrontFault}
use Rattle.soy_front.specs.declared.files.ReadFiles.{ReadFiles}
use Rattle.soy_front.proofs.FilesLaws.{read_as, refused_as}

module _ (trees : List Tree) (rows : List Listed) (bundle : Option (List ℕ)) (language : Bundle) where
  walk_by : (walk : Result (Walked State) WalkFault) (found : PlaceFault) → Brings bundle rows language
      → walk_trees (chosen_translation language.messages) (view_trees trees) ≡ walk → IsFaultOf walk found
      → LanguageFault trees rows bundle (front.Soy found.fault)
  walk_by (Ok v) found brings e is = absurd is
  walk_by (Err f) found brings e is =
      subst (λ (p : PlaceFault). LanguageFault trees rows bundle (front.Soy p.fault)) (sym is)
      (Walk language f brings e)

  -- the walk's fault is the first
  pub walk_refused : (found : PlaceFault) → Brings bundle rows language
      → Infers (walk_trees (chosen_translation language.messages) (view_trees trees)) (Err (Because found))
      → LanguageFault trees rows bundle (front.Soy found.fault)
  walk_refused found brings is =
      walk_by (walk_trees (chosen_translation language.messages) (view_trees trees)) found brings refl is

-- a bundle that isn't read is refused with its first fault
unread : (trees : List Tree) (rows : List Listed) (bundle : Option (List ℕ)) (fault : FrontFault)
    → RefusesBundleOf bundle rows fault → LanguageFault trees rows bundle fault
unread trees rows None fault refuses = absurd refuses
unread trees rows (Some bytes) (front.Soy fault) refuses = absurd refuses
unread trees rows (Some bytes) (front.Bundle fault) refuses = Unread bytes fault refl refuses

pub language_unread : (trees : List Tree) (rows : List Listed) (bundle : Option (List ℕ))
    (refusal : Refusal (Detailed FrontFault)) → ReadsLanguage bundle rows (without_detail (Err refusal))
    → AcceptsLanguage trees rows bundle (without_detail (Err refusal))
language_unread trees rows bundle (Because r) is = unread trees rows bundle r.fault is
language_unread trees rows bundle OutOfMemory is = tt

module _ (contents : List (List ℕ)) (bundle : Option (List ℕ)) where
  -- files are refused
  pub files_refused : (refusal : Refusal (Detailed Fault)) (out : Refusal (Detailed FrontFault))
      → ReadsFiles (files_answer contents) (without_detail (Err refusal)) → IsOfFiles refusal out
      → Accepts contents bundle (without_detail (Err out))
  files_refused (Because r) out e is =
      subst (λ (o : Refusal (Detailed FrontFault)). Accepts contents bundle (without_detail (Err o))) (sym is)
      (OfFiles r.fault (refused_as contents r.fault e))
  files_refused OutOfMemory out e is =
      subst (λ (o : Refusal (Detailed FrontFault)). Accepts contents bundle (without_detail (Err o))) (sym is) tt

  -- the bundle or the walk under it is
  pub language_refused : (files : ReadFiles) (refusal : Refusal (Detailed FrontFault))
      → ReadsFiles (files_answer contents) (Ok files)
      → AcceptsLanguage files.typed files.catalogue.messages bundle (without_detail (Err refusal))
      → Accepts contents bundle (without_detail (Err refusal))
  language_refused files (Because r) e is =
      OfLanguage files.typed files.catalogue.messages r.fault (read_as contents (view_files files) e) is
  language_refused files OutOfMemory e is = tt

  pub all_accepted : (files : ReadFiles) (language : Language) → ReadsFiles (files_answer contents) (Ok files)
      → AcceptsLanguage files.typed files.catalogue.messages bundle (Ok language)
      → AreAcceptedAs contents bundle (record { files = files; language = language })
  all_accepted files language e is = record { files = read_as contents (view_files files) e; language = is }
