-- What files and a bundle deserve is what is answered, and nothing else.
use Rattle.std.proofs.Common.{◌≡◌, ℕ, List, [], Option, Some, None, refl, sym, ap, ◌∙◌, subst, inl, inr}
use Rattle.std.specs.Prelude.{Result, Ok, Err}
use Rattle.html_state.specs.declared.row.State.{State}
use Rattle.soy_base.specs.declared.fault.Fault.{Fault}
use Rattle.soy_tree.specs.declared.bundle.Bundle.{Bundle}
use Rattle.soy_tree.specs.declared.tree.Tree.{Tree}
use Rattle.soy_tree.specs.ViewTrees.{view_trees}
use Rattle.msg_bundle.specs.BundlesAlike.{BundlesAlike}
use Rattle.msg_bundle.specs.declared.fault.BundleFault.{BundleFault}
use Rattle.msg_bundle.specs.ReadsBundle.{RefusesBundle}
use Rattle.msg_bundle.proofs.OneAnswer.{bundle_apart}
use Rattle.msg_bundle.proofs.OneFault.{one_bundle, one_fault}
use Rattle.msg_extract.specs.declared.catalogue.Listed.{Listed}
use Rattle.soy_meaning.specs.Walks.AcceptedTrees.{walk_trees}
use Rattle.soy_meaning.specs.Walks.PageMachine.{page_machine}
use Rattle.soy_meaning.specs.Paths.PlanOfNodes.{trees_plan}
use Rattle.soy_meaning.specs.Walks.Walk.{Walked, WalkFault, walked}
use Rattle.soy_meaning.proofs.Walks.PageStates.{page_compares}
use Rattle.soy_meaning.proofs.Walks.Exact.{accepted_when_walked}
use Rattle.html_context.specs.ChosenTranslation.{chosen_translation}
use Rattle.soy_front.specs.Accepted.{Accepted, AreFiles, Brings, FirstFault, LanguageFault, walk_fault}
use Rattle.soy_front.specs.Accepted.FirstFault.{OfFiles, OfLanguage}
use Rattle.soy_front.specs.Accepted.LanguageFault.{Unread, Walk}
use Rattle.soy_front.specs.Accepts.{AreAccepted, AreAcceptedAs}
use Rattle.soy_front.specs.FilesAnswer.{ReadFiles, files_answer}
use Rattle.soy_front.specs.FrontAnswer.{DeserveFront, Front, IsFront, LanguageOrFault, RefusesLanguage}
use Rattle.soy_front.specs.FrontAnswer.{answer_by_files, front_answer, language_answer, language_or_fault, walk_answer}
use Rattle.soy_front.specs.declared.accepting.AcceptedFiles.{AcceptedFiles}
use Rattle.soy_front.specs.declared.accepting.Language.{Language}
use Rattle.soy_front.specs.declared.fault.FrontFault.{FrontFault}
use Rattle.soy_front.specs.declared.fault.FrontFault.TheVariants as front
use Rattle.soy_front.proofs.BundleTranslations.{same_chosen}
use Rattle.soy_front.proofs.FilesLaws.{fault_had, files_had, read_as, refused_as}

-- a language that is brought isn't refused
pub brought_apart : (bundle : Option (List ℕ)) (rows : List Listed) (language : Bundle) (fault : BundleFault)
    → Brings bundle rows language → RefusesLanguage bundle rows fault → ⊥
brought_apart None rows language fault brings refuses = refuses
brought_apart (Some bytes) rows language fault brings refuses = bundle_apart bytes rows language fault brings refuses

-- two languages that are brought say the same
pub same_language : (bundle : Option (List ℕ)) (rows : List Listed) (one other : Bundle) → Brings bundle rows one
    → Brings bundle rows other → BundlesAlike one other
same_language None rows one other a b =
    let same : one ≡ other = a ∙ sym b in
    rw same (record { dir = refl; plural = refl; ordinal = refl; messages = refl })
same_language (Some bytes) rows one other a b = one_bundle bytes rows one other a b

-- ---- faults

module _ (trees : List Tree) (rows : List Listed) where
  abbrev as_read : ReadFiles
  as_read = record { trees = trees; rows = rows }

  unread : (bytes : List ℕ) (fault : BundleFault) → RefusesBundle bytes rows fault
      → (either : LanguageOrFault (Some bytes) rows)
      → language_answer (Some bytes) as_read either ≡ Err (front.Bundle fault)
  unread bytes fault refuses (inl brought) = absurd (bundle_apart bytes rows brought.0 fault brought.1 refuses)
  unread bytes fault refuses (inr refused) =
      ap (λ f. Err (front.Bundle f)) (one_fault bytes rows refused.0 fault refused.1 refuses)

  unwalked : (bundle : Option (List ℕ)) (language : Bundle) (f : WalkFault) → Brings bundle rows language
      → walk_trees (chosen_translation language.messages) (view_trees trees) ≡ Err f
      → (either : LanguageOrFault bundle rows)
      → language_answer bundle as_read either ≡ Err (front.Soy (walk_fault f))
  unwalked bundle language f brings fails (inl brought) =
      ap (λ t. walk_answer as_read brought.0 (walk_trees t (view_trees trees)))
      (same_chosen bundle rows brought.0 language brought.1 brings)
      ∙ ap (walk_answer as_read brought.0) fails
  unwalked bundle language f brings fails (inr refused) =
      absurd (brought_apart bundle rows language refused.0 brings refused.1)

  language_refused : (bundle : Option (List ℕ)) (fault : FrontFault) → LanguageFault trees rows bundle fault
      → language_answer bundle as_read (language_or_fault bundle rows) ≡ Err fault
  language_refused bundle _ (Unread bytes fault is refuses) =
      subst (λ b. language_answer b as_read (language_or_fault b rows) ≡ Err (front.Bundle fault)) (sym is)
      (unread bytes fault refuses (language_or_fault (Some bytes) rows))
  language_refused bundle _ (Walk language f brings fails) =
      unwalked bundle language f brings fails (language_or_fault bundle rows)

pub fault_answered : (contents : List (List ℕ)) (bundle : Option (List ℕ)) (fault : FrontFault)
    → FirstFault contents bundle fault → front_answer contents bundle ≡ Err fault
fault_answered contents bundle _ (OfFiles fault f) = ap (answer_by_files bundle) (fault_had contents fault f)
fault_answered contents bundle fault (OfLanguage trees rows _ are f) =
    ap (answer_by_files bundle) (files_had contents trees rows are) ∙ language_refused trees rows bundle fault f

same_faults : (one other : FrontFault) → ◌≡◌ {A = Result Front FrontFault} (Err one) (Err other) → one ≡ other
same_faults one other e = cc

-- a first fault is one
pub one_first : (contents : List (List ℕ)) (bundle : Option (List ℕ)) (one other : FrontFault)
    → FirstFault contents bundle one → FirstFault contents bundle other → one ≡ other
one_first contents bundle one other f g =
    same_faults one other (sym (fault_answered contents bundle one f) ∙ fault_answered contents bundle other g)

-- ---- what is accepted

module _ (trees : List Tree) (rows : List Listed) (bundle : Option (List ℕ)) (brought : Language)
    (is : AreAccepted trees rows bundle brought) where
  abbrev read : ReadFiles
  read = record { trees = trees; rows = rows }

  -- the answer of a language is what was accepted
  pub record Answers (answer : Result Front FrontFault) : Type 0 where
    pub of : Front
    pub answered : answer ≡ Ok of
    pub files : of.files ≡ read
    pub language : BundlesAlike of.language brought.bundle
    pub walk : of.walk ≡ walked [] brought.places.prints

  walks : (either : LanguageOrFault bundle rows) → Answers (language_answer bundle read either)
  walks (inl given) =
      record {
        of = record { files = read; language = given.0; walk = walked [] brought.places.prints };
        answered = ap (λ t. walk_answer read given.0 (walk_trees t (view_trees trees)))
            (same_chosen bundle rows given.0 brought.bundle given.1 is.brings)
            ∙ ap (walk_answer read given.0) is.walk;
        files = refl;
        language = same_language bundle rows given.0 brought.bundle given.1 is.brings;
        walk = refl;
      }
  walks (inr refused) = absurd (brought_apart bundle rows brought.bundle refused.0 is.brings refused.1)

pub accepted_answered : (contents : List (List ℕ)) (bundle : Option (List ℕ)) (a : AcceptedFiles)
    → AreAcceptedAs contents bundle a → IsFront (front_answer contents bundle) a
accepted_answered contents bundle a is =
    let w = walks a.files.typed a.files.catalogue.messages bundle a.language is.language
    (language_or_fault bundle a.files.catalogue.messages) in
    record {
      of = w.of;
      answered = ap (answer_by_files bundle)
          (files_had contents a.files.typed a.files.catalogue.messages is.files) ∙ w.answered;
      files = w.files;
      language = w.language;
      walk = w.walk;
    }

-- ---- what is answered

-- a bundle that is refused has a first fault
refused_language : (trees : List Tree) (rows : List Listed) (bundle : Option (List ℕ)) (fault : BundleFault)
    → RefusesLanguage bundle rows fault → LanguageFault trees rows bundle (front.Bundle fault)
refused_language trees rows None fault refuses = absurd refuses
refused_language trees rows (Some bytes) fault refuses = Unread bytes fault refl refuses

module _ (contents : List (List ℕ)) (bundle : Option (List ℕ)) where
  abbrev AreDeserved : Result Front FrontFault → Type 0
  AreDeserved (Ok of) = DeserveFront contents bundle of
  AreDeserved (Err fault) = FirstFault contents bundle fault

  by_walk : (files : ReadFiles) → AreFiles contents files.trees files.rows → (language : Bundle)
      → Brings bundle files.rows language → (r : Result (Walked State) WalkFault)
      → walk_trees (chosen_translation language.messages) (view_trees files.trees) ≡ r
      → AreDeserved (walk_answer files language r)
  by_walk files are language brings (Ok w) e = record { files = are; brings = brings; walk = e }
  by_walk files are language brings (Err f) e =
      OfLanguage files.trees files.rows (front.Soy (walk_fault f)) are (Walk language f brings e)

  by_language : (files : ReadFiles) → AreFiles contents files.trees files.rows
      → (either : LanguageOrFault bundle files.rows) → AreDeserved (language_answer bundle files either)
  by_language files are (inl brought) = by_walk files are brought.0 brought.1 _ refl
  by_language files are (inr refused) =
      OfLanguage files.trees files.rows (front.Bundle refused.0) are
      (refused_language files.trees files.rows bundle refused.0 refused.1)

  by_files : (r : Result ReadFiles Fault) → files_answer contents ≡ r → AreDeserved (answer_by_files bundle r)
  by_files (Ok files) e = by_language files (read_as contents files e) (language_or_fault bundle files.rows)
  by_files (Err fault) e = OfFiles fault (refused_as contents fault e)

  pub answered_deserved : (of : Front) → front_answer contents bundle ≡ Ok of → DeserveFront contents bundle of
  answered_deserved of e = subst AreDeserved e (by_files (files_answer contents) refl)

  pub answered_accepted : (of : Front) → front_answer contents bundle ≡ Ok of → Accepted contents bundle
  answered_accepted of e =
      let d = answered_deserved of e in
      record {
        trees = of.files.trees;
        rows = of.files.rows;
        language = of.language;
        files = d.files;
        brings = d.brings;
        paths = accepted_when_walked page_machine page_compares
            (trees_plan (chosen_translation of.language.messages) (view_trees of.files.trees)) (walked [] []) of.walk
            d.walk;
      }

  pub answered_fault : (fault : FrontFault) → front_answer contents bundle ≡ Err fault
      → FirstFault contents bundle fault
  answered_fault fault e = subst AreDeserved e (by_files (files_answer contents) refl)
