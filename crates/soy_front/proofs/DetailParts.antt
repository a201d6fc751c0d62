-- What goes with a refusal, by what goes with that of its parts.
use Rattle.std.proofs.Common.{◌≡◌, ℕ, List, Option, Some, None, refl, sym, ap, ◌∙◌, subst, inl, inr}
use Rattle.std.specs.Prelude.{Result, Ok, Err, option_map}
use Rattle.html_state.specs.declared.row.State.{State}
use Rattle.soy_base.specs.declared.fault.Fault.{Fault}
use Rattle.soy_base.specs.declared.memory.Refusal.{Refusal}
use Rattle.soy_base.specs.declared.memory.Refusal.TheVariants.{Because, OutOfMemory}
use Rattle.soy_base.specs.declared.place.Placing.{Placing}
use Rattle.soy_tree.specs.declared.bundle.Bundle.{Bundle}
use Rattle.soy_tree.specs.declared.tree.Tree.{Tree}
use Rattle.soy_tree.specs.ViewTrees.{view_trees}
use Rattle.soy_rules.specs.Demands.{check_fault}
use Rattle.soy_rules.specs.Faults.{followed_by}
use Rattle.soy_check.specs.Answers.{view_check_fault}
use Rattle.soy_check.specs.declared.checker.CheckFault.{CheckFault}
use Rattle.msg_bundle.proofs.OneAnswer.{bundle_apart}
use Rattle.msg_extract.specs.Catalogue.{catalogue_of}
use Rattle.msg_extract.specs.Extracts.{Extracts}
use Rattle.msg_extract.specs.declared.catalogue.Listed.{Listed}
use Rattle.soy_meaning.specs.Walks.AcceptedTrees.{walk_trees}
use Rattle.soy_meaning.specs.Walks.Walk.{WalkFault, Walked}
use Rattle.html_context.specs.ChosenTranslation.{chosen_translation}
use Rattle.html_context.specs.Infers.{Infers, IsFaultOf}
use Rattle.html_context.specs.declared.fault.PlaceFault.{PlaceFault}
use Rattle.soy_front.specs.Accepted.{Brings}
use Rattle.soy_front.specs.Accepts.{ReadsLanguage, RefusesBundleOf}
use Rattle.soy_front.specs.DetailAnswer.{both_placings, demand_detail, detail_by_files, files_detail, front_detail}
use Rattle.soy_front.specs.DetailAnswer.{language_detail, trees_detail, walk_detail}
use Rattle.soy_front.specs.Details.{placings_detail}
use Rattle.soy_front.specs.FilesAnswer as answer
use Rattle.soy_front.specs.FilesAnswer.{catalogued, demanded, files_answer, unless_found}
use Rattle.soy_front.specs.FrontAnswer.{LanguageOrFault, language_or_fault}
use Rattle.soy_front.specs.HasDetail.{GoesWith, IsBare, IsOfFiles, without_detail}
use Rattle.soy_front.specs.ReadsFiles.{ReadsFiles, ReadsTrees}
use Rattle.soy_front.specs.declared.fault.Detail.TheVariants as detail
use Rattle.soy_front.specs.declared.fault.Detail.{Detail}
use Rattle.soy_front.specs.declared.fault.Detailed.{Detailed}
use Rattle.soy_front.specs.declared.fault.FrontFault.TheVariants as front
use Rattle.soy_front.specs.declared.fault.FrontFault.{FrontFault}
use Rattle.soy_front.specs.declared.files.ReadFiles.{ReadFiles}
use Rattle.soy_front.proofs.BundleTranslations.{same_chosen}
use Rattle.soy_front.proofs.FrontAnswers.{brought_apart}

-- ---- files

-- a refusal that nothing goes with is the same
pub bare_reads : (wanted : Result answer.ReadFiles Fault) (refusal : Refusal Fault) (out : Refusal (Detailed Fault))
    → ReadsFiles wanted (Err refusal) → IsBare refusal out → ReadsFiles wanted (without_detail (Err out))
bare_reads wanted (Because fault) out e is =
    subst (λ (o : Refusal (Detailed Fault)). ReadsFiles wanted (without_detail (Err o))) (sym is) e
bare_reads wanted OutOfMemory out e is =
    subst (λ (o : Refusal (Detailed Fault)). ReadsFiles wanted (without_detail (Err o))) (sym is) tt

pub bare_nothing : (refusal : Refusal Fault) (out : Refusal (Detailed Fault)) → IsBare refusal out
    → GoesWith detail.None out
bare_nothing (Because fault) out is =
    subst (λ (o : Refusal (Detailed Fault)). GoesWith detail.None o) (sym is) refl
bare_nothing OutOfMemory out is =
    subst (λ (o : Refusal (Detailed Fault)). GoesWith detail.None o) (sym is) tt

-- files of which one has no tree
pub trees_unread : (r : Result (List Tree) Fault) (refusal : Refusal Fault) → ReadsTrees r (Err refusal)
    → ReadsFiles (followed_by r demanded) (Err refusal)
trees_unread r (Because fault) e = ap (λ x. followed_by x demanded) e
trees_unread r OutOfMemory e = tt

pub trees_nothing : (r : Result (List Tree) Fault) (refusal : Refusal Fault) (out : Refusal (Detailed Fault))
    → ReadsTrees r (Err refusal) → IsBare refusal out → GoesWith (trees_detail r) out
trees_nothing r (Because fault) out e is =
    subst (λ (o : Refusal (Detailed Fault)). GoesWith (trees_detail r) o) (sym is) (sym (ap trees_detail e))
trees_nothing r OutOfMemory out e is =
    subst (λ (o : Refusal (Detailed Fault)). GoesWith (trees_detail r) o) (sym is) tt

-- trees of which two messages clash
pub clash_read : (trees : List Tree) (refusal : Refusal Fault)
    → Extracts (catalogue_of (view_trees trees)) (Err refusal) → ReadsFiles (catalogued trees) (Err refusal)
clash_read trees (Because fault) e =
    ap (λ r. followed_by r (λ rows. Ok (record { trees = trees; rows = rows }))) e
clash_read trees OutOfMemory e = tt

-- trees of which a demand fails
abbrev pub of_demand : CheckFault → Detailed Fault
of_demand found = record { fault = found.fault; detail = detail.Names found.left found.right }

module _ (trees : List Tree) (found : CheckFault) (out : Detailed Fault)
    (fails : check_fault (view_trees trees) ≡ Some (view_check_fault found)) (is : out ≡ of_demand found) where
  pub demand_refused : demanded trees ≡ Err out.fault
  demand_refused =
      ap (λ f. followed_by (unless_found trees f) catalogued) fails ∙ ap (λ (o : Detailed Fault). Err o.fault) (sym is)

  pub demand_names : out.detail ≡ demand_detail (check_fault (view_trees trees))
  demand_names = ap (λ (o : Detailed Fault). o.detail) is ∙ sym (ap demand_detail fails)

-- ---- a bundle beside files, and the walk

module _ (trees : List Tree) (rows : List Listed) (bundle : Option (List ℕ)) (language : Bundle)
    (brings : Brings bundle rows language) where
  pub language_walked : (either : LanguageOrFault bundle rows)
      → language_detail trees rows bundle either
      ≡ walk_detail (walk_trees (chosen_translation language.messages) (view_trees trees))
  language_walked (inl brought) =
      ap (λ t. walk_detail (walk_trees t (view_trees trees)))
      (same_chosen bundle rows brought.0 language brought.1 brings)
  language_walked (inr refused) = absurd (brought_apart bundle rows language refused.0 brings refused.1)

both_same : (both : Option (Placing × Placing)) (first second : Option Placing)
    → first ≡ option_map (λ b. b.0) both → second ≡ option_map (λ b. b.1) both
    → both_placings first second ≡ placings_detail both
both_same None first second a b = rw a refl
both_same (Some both) first second a b = rw (a, b) refl

placed : (walk : Result (Walked State) WalkFault) (found : PlaceFault) → IsFaultOf walk found
    → both_placings found.first found.second ≡ walk_detail walk
placed (Ok v) found is = absurd is
placed (Err f) found is =
    both_same f.placings found.first found.second (ap (λ (p : PlaceFault). p.first) is)
    (ap (λ (p : PlaceFault). p.second) is)

-- the walk's placings
pub walk_placings : (trees : List Tree) (rows : List Listed) (bundle : Option (List ℕ)) (language : Bundle)
    (found : PlaceFault) (out : Detailed FrontFault) → Brings bundle rows language
    → Infers (walk_trees (chosen_translation language.messages) (view_trees trees)) (Err (Because found))
    → out ≡ record { fault = front.Soy found.fault; detail = both_placings found.first found.second }
    → out.detail ≡ language_detail trees rows bundle (language_or_fault bundle rows)
walk_placings trees rows bundle language found out brings is made =
    ap (λ (o : Detailed FrontFault). o.detail) made
    ∙ (placed (walk_trees (chosen_translation language.messages) (view_trees trees)) found is
    ∙ sym (language_walked trees rows bundle language brings (language_or_fault bundle rows)))

-- a language that is brought isn't refused
refused_apart : (bundle : Option (List ℕ)) (rows : List Listed) (language : Bundle) (fault : FrontFault)
    → Brings bundle rows language → RefusesBundleOf bundle rows fault → ⊥
refused_apart None rows language fault brings refuses = absurd refuses
refused_apart (Some bytes) rows language (front.Soy fault) brings refuses = absurd refuses
refused_apart (Some bytes) rows language (front.Bundle fault) brings refuses =
    bundle_apart bytes rows language fault brings refuses

unread_nothing : (trees : List Tree) (rows : List Listed) (bundle : Option (List ℕ)) (fault : FrontFault)
    → RefusesBundleOf bundle rows fault → (either : LanguageOrFault bundle rows)
    → detail.None ≡ language_detail trees rows bundle either
unread_nothing trees rows bundle fault refuses (inl brought) =
    absurd (refused_apart bundle rows brought.0 fault brought.1 refuses)
unread_nothing trees rows bundle fault refuses (inr refused) = refl

-- with a fault of the bundle goes nothing
pub bundle_nothing : (trees : List Tree) (rows : List Listed) (bundle : Option (List ℕ))
    (refusal : Refusal (Detailed FrontFault)) → ReadsLanguage bundle rows (without_detail (Err refusal))
    → GoesWith detail.None refusal
    → GoesWith (language_detail trees rows bundle (language_or_fault bundle rows)) refusal
bundle_nothing trees rows bundle (Because r) refuses nothing =
    nothing ∙ unread_nothing trees rows bundle r.fault refuses (language_or_fault bundle rows)
bundle_nothing trees rows bundle OutOfMemory refuses nothing = tt

-- ---- files and a bundle

module _ (contents : List (List ℕ)) (bundle : Option (List ℕ)) where
  pub files_detailed : (refusal : Refusal (Detailed Fault)) (out : Refusal (Detailed FrontFault))
      → ReadsFiles (files_answer contents) (without_detail (Err refusal)) → IsOfFiles refusal out
      → GoesWith (files_detail contents) refusal → GoesWith (front_detail contents bundle) out
  files_detailed (Because r) out e is goes_with =
      subst (λ (o : Refusal (Detailed FrontFault)). GoesWith (front_detail contents bundle) o) (sym is)
      (goes_with ∙ sym (ap (detail_by_files bundle (files_detail contents)) e))
  files_detailed OutOfMemory out e is goes_with =
      subst (λ (o : Refusal (Detailed FrontFault)). GoesWith (front_detail contents bundle) o) (sym is) tt

  pub language_detailed : (files : ReadFiles) (refusal : Refusal (Detailed FrontFault))
      → ReadsFiles (files_answer contents) (Ok files)
      → GoesWith (language_detail files.typed files.catalogue.messages bundle
      (language_or_fault bundle files.catalogue.messages)) refusal
      → GoesWith (front_detail contents bundle) refusal
  language_detailed files refusal e goes_with =
      subst (λ (d : Detail). GoesWith d refusal) (sym (ap (detail_by_files bundle (files_detail contents)) e)) goes_with
