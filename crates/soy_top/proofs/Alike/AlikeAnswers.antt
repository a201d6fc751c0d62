-- Files whose trees are alike are answered alike, but for positions.
use Rattle.std.proofs.Common.{◌≡◌, ℕ, List, map, Option, Some, None, refl, sym, ap, ◌∙◌, inl, inr}
use Rattle.std.specs.Prelude.{Result, Ok, Err, option_map}
use Rattle.html_state.specs.declared.row.State.{State}
use Rattle.soy_base.specs.declared.fault.Fault.{Fault}
use Rattle.soy_rules.specs.Demands.{CheckFault, check_fault}
use Rattle.soy_rules.specs.Faults.{followed_by}
use Rattle.soy_tree.specs.Trees.{Tree}
use Rattle.soy_tree.specs.ViewTrees.{view_trees}
use Rattle.soy_tree.specs.declared.bundle.Bundle.{Bundle}
use Rattle.soy_tree.specs.declared.tree.Tree as code
use Rattle.msg_extract.specs.Catalogue.{catalogue_of}
use Rattle.msg_extract.specs.declared.catalogue.Listed.{Listed}
use Rattle.soy_meaning.specs.Walks.Walk.{Walked, WalkFault}
use Rattle.soy_format.specs.WithoutSpans.{tree_without_spans}
use Rattle.soy_front.specs.Accepted.{Accepted, walk_fault}
use Rattle.soy_front.specs.Accepted.FilesFault.{Clash, Demand}
use Rattle.soy_front.specs.FilesAnswer.{ReadFiles, catalogued, demanded, fault_of, files_answer, unless_found}
use Rattle.soy_front.specs.FilesDeserve.{HaveTrees}
use Rattle.soy_front.specs.FrontAnswer.{Front, LanguageOrFault, answer_by_files, front_answer, language_answer}
use Rattle.soy_front.specs.FrontAnswer.{language_or_fault, walk_answer}
use Rattle.soy_front.specs.declared.fault.FrontFault.{FrontFault}
use Rattle.soy_front.specs.declared.fault.FrontFault.TheVariants as front
use Rattle.soy_front.proofs.FilesLaws.{fault_had, files_had}
use Rattle.soy_front.proofs.FirstFaults.{first_apart}
use Rattle.soy_front.proofs.FrontAnswers.{answered_accepted, answered_fault}
use Rattle.alike_files.specs.WithoutPositions.{result_without_position}
use Rattle.alike_files.proofs.AlikeTrees.{alike_trees, walk_under, walk_under_same}
use Rattle.alike_files.proofs.AllDemands.{check_placeless, demands_same}
use Rattle.alike_files.proofs.Catalogues.{catalogue_same}
use Rattle.alike_files.proofs.Walks.{walk_placeless}
use Rattle.soy_top.specs.AlikeFiles.{AlikeFiles}
use Rattle.soy_top.specs.AnswersWithoutPositions.{PlainFiles, PlainFront, answer_without_positions}
use Rattle.soy_top.specs.AnswersWithoutPositions.{files_without_positions, plain_files}

-- ---- files

-- what is answered of trees without spans
abbrev checked : List Tree → Option CheckFault → Result (List Listed) Fault → Result PlainFiles Fault
checked trees None (Ok rows) = Ok (record { trees = trees; rows = rows })
checked trees None (Err fault) = Err fault
checked trees (Some found) rows = Err (fault_of found)

abbrev plain_demanded : List Tree → Result PlainFiles Fault
plain_demanded trees = checked trees (check_fault trees) (catalogue_of trees)

rows_placeless : (trees : List code.Tree) (r : Result (List Listed) Fault)
    → files_without_positions (followed_by r (λ rows. Ok (record { trees = trees; rows = rows })))
    ≡ checked (map tree_without_spans (view_trees trees)) None (result_without_position r)
rows_placeless trees (Ok rows) = refl
rows_placeless trees (Err fault) = refl

checked_placeless : (trees : List code.Tree) (o : Option CheckFault)
    → files_without_positions (followed_by (unless_found trees o) catalogued)
    ≡ checked (map tree_without_spans (view_trees trees)) (option_map check_placeless o)
    (result_without_position (catalogue_of (view_trees trees)))
checked_placeless trees None = rows_placeless trees (catalogue_of (view_trees trees))
checked_placeless trees (Some found) = refl

demanded_placeless : (trees : List code.Tree)
    → files_without_positions (demanded trees) ≡ plain_demanded (map tree_without_spans (view_trees trees))
demanded_placeless trees =
    checked_placeless trees (check_fault (view_trees trees))
    ∙ (ap (λ o. checked (map tree_without_spans (view_trees trees)) o
    (result_without_position (catalogue_of (view_trees trees)))) (sym (demands_same (view_trees trees)))
    ∙ ap (checked (map tree_without_spans (view_trees trees))
    (check_fault (map tree_without_spans (view_trees trees)))) (sym (catalogue_same (view_trees trees))))

module _ (contents : List (List ℕ)) (trees : List code.Tree) (have : HaveTrees contents trees) where
  -- what is answered of files that have trees is what is demanded of these
  answered : (o : Option CheckFault) → check_fault (view_trees trees) ≡ o → (r : Result (List Listed) Fault)
      → catalogue_of (view_trees trees) ≡ r → files_answer contents ≡ demanded trees
  answered (Some found) e r h =
      fault_had contents (fault_of found) (Demand trees found have e refl)
      ∙ ap (λ o. followed_by (unless_found trees o) catalogued) (sym e)
  answered None e (Err fault) h =
      fault_had contents fault (Clash trees have e h)
      ∙ (ap (λ r. followed_by r (λ rows. Ok (record { trees = trees; rows = rows }))) (sym h)
      ∙ ap (λ o. followed_by (unless_found trees o) catalogued) (sym e))
  answered None e (Ok rows) h =
      files_had contents trees rows (record { have = have; demands = e; catalogue = h })
      ∙ (ap (λ r. followed_by r (λ rows. Ok (record { trees = trees; rows = rows }))) (sym h)
      ∙ ap (λ o. followed_by (unless_found trees o) catalogued) (sym e))

  files_placeless : files_without_positions (files_answer contents)
      ≡ plain_demanded (map tree_without_spans (view_trees trees))
  files_placeless =
      ap files_without_positions
      (answered (check_fault (view_trees trees)) refl (catalogue_of (view_trees trees)) refl)
      ∙ demanded_placeless trees

-- **files are answered alike**
pub files_alike : (contents others : List (List ℕ)) → AlikeFiles contents others
    → files_without_positions (files_answer contents) ≡ files_without_positions (files_answer others)
files_alike contents others alike =
    files_placeless contents alike.trees alike.have
    ∙ (ap plain_demanded (alike_trees (view_trees alike.trees) (view_trees alike.other_trees) alike.alike)
    ∙ sym (files_placeless others alike.other_trees alike.others_have))

-- ---- files and a bundle

abbrev plain_walk : PlainFiles → Bundle → Result (Walked State) WalkFault → Result PlainFront FrontFault
plain_walk files language (Ok w) =
    Ok (record { trees = files.trees; rows = files.rows; language = language; walk = w })
plain_walk files language (Err f) = Err (front.Soy (walk_fault f))

abbrev plain_language : (bundle : Option (List ℕ)) (files : PlainFiles) → LanguageOrFault bundle files.rows
    → Result PlainFront FrontFault
plain_language bundle files (inl brought) = plain_walk files brought.0 (walk_under brought.0 files.trees)
plain_language bundle files (inr refused) = Err (front.Bundle refused.0)

abbrev plain_answer : Option (List ℕ) → Result PlainFiles Fault → Result PlainFront FrontFault
plain_answer bundle (Ok files) = plain_language bundle files (language_or_fault bundle files.rows)
plain_answer bundle (Err fault) = Err (front.Soy fault)

walk_answered : (files : ReadFiles) (language : Bundle) (r : Result (Walked State) WalkFault)
    → answer_without_positions (walk_answer files language r)
    ≡ plain_walk (plain_files files) language (walk_placeless r)
walk_answered files language (Ok w) = refl
walk_answered files language (Err f) = refl

language_answered : (bundle : Option (List ℕ)) (files : ReadFiles) (either : LanguageOrFault bundle files.rows)
    → answer_without_positions (language_answer bundle files either)
    ≡ plain_language bundle (plain_files files) either
language_answered bundle files (inl brought) =
    walk_answered files brought.0 (walk_under brought.0 (view_trees files.trees))
    ∙ ap (plain_walk (plain_files files) brought.0) (sym (walk_under_same brought.0 (view_trees files.trees)))
language_answered bundle files (inr refused) = refl

all_answered : (bundle : Option (List ℕ)) (r : Result ReadFiles Fault)
    → answer_without_positions (answer_by_files bundle r) ≡ plain_answer bundle (files_without_positions r)
all_answered bundle (Ok files) = language_answered bundle files (language_or_fault bundle files.rows)
all_answered bundle (Err fault) = refl

-- **files and a bundle are answered alike**
pub answers_alike : (contents others : List (List ℕ)) (bundle : Option (List ℕ)) → AlikeFiles contents others
    → answer_without_positions (front_answer contents bundle) ≡ answer_without_positions (front_answer others bundle)
answers_alike contents others bundle alike =
    all_answered bundle (files_answer contents)
    ∙ (ap (plain_answer bundle) (files_alike contents others alike)
    ∙ sym (all_answered bundle (files_answer others)))

accepted_by : (contents others : List (List ℕ)) (bundle : Option (List ℕ)) → Accepted contents bundle
    → (r s : Result Front FrontFault) → front_answer contents bundle ≡ r → front_answer others bundle ≡ s
    → answer_without_positions r ≡ answer_without_positions s → Accepted others bundle
accepted_by contents others bundle is (Err fault) s e h same =
    absurd (first_apart contents bundle fault is (answered_fault contents bundle fault e))
accepted_by contents others bundle is (Ok of) (Ok other) e h same = answered_accepted others bundle other h
accepted_by contents others bundle is (Ok of) (Err fault) e h same = cc

-- **and the one are accepted where the others are**
pub accepted_alike : (contents others : List (List ℕ)) (bundle : Option (List ℕ)) → AlikeFiles contents others
    → Accepted contents bundle → Accepted others bundle
accepted_alike contents others bundle alike is =
    accepted_by contents others bundle is (front_answer contents bundle) (front_answer others bundle) refl refl
    (answers_alike contents others bundle alike)
