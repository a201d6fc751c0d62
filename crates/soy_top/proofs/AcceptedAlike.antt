-- What files and a bundle deserve is what they are accepted as, but for how the bundle says it; so a page and a preview
-- of them are answered the same.
use Rattle.std.proofs.Common.{◌≡◌, ℕ, List, Option}
use Rattle.std.proofs.Common.{Some, None, refl, ap, ◌∙◌, inl, inr}
use Rattle.std.specs.Prelude.{Result, Ok, Err}
use Rattle.msg_extract.specs.LanguageOf.{language_of}
use Rattle.msg_bundle.specs.BundlesAlike.{BundlesAlike}
use Rattle.soy_base.specs.declared.code.Code.{Code}
use Rattle.soy_base.specs.declared.path.PathStep.{PathStep}
use Rattle.soy_front.specs.FilesAnswer.{ReadFiles}
use Rattle.soy_front.specs.FrontAnswer.{DeserveFront, Front, LanguageOrFault, answer_by_files, front_answer}
use Rattle.soy_front.specs.FrontAnswer.{language_answer, language_or_fault, walk_answer}
use Rattle.soy_front.specs.declared.fault.FrontFault.{FrontFault}
use Rattle.soy_front.proofs.BundleTranslations.{same_chosen}
use Rattle.soy_front.proofs.FilesLaws.{files_had}
use Rattle.soy_front.proofs.FrontAnswers.{brought_apart, same_language}
use Rattle.soy_front.proofs.LanguageOf.{languages_alike}
use Rattle.soy_meaning.specs.Walks.AcceptedTrees.{walk_trees}
use Rattle.soy_pieces.specs.Pieces.{template_run}
use Rattle.soy_top.specs.Answer.{PageAnswer, accepted_then}
use Rattle.soy_top.specs.Answer.{data_answer, entry_answer, entry_of}
use Rattle.soy_top.specs.Answer.{page_answer, render_answer, template_outcome}
use Rattle.soy_top.specs.Answer.{unless_refused}
use Rattle.soy_top.specs.Words.{Word}
use Rattle.soy_rules.specs.Templates.{Declared, declared}
use Rattle.soy_tree.specs.Values.{Value}
use Rattle.soy_tree.specs.ViewTrees.{view_trees}
use Rattle.soy_types.specs.ReadData.{data_at}
use Rattle.soy_rules.specs.Language.{Language}
use Rattle.soy_pieces.specs.LanguageContext.{language_context}
use Rattle.soy_pieces.specs.InputEnv.{input_env, names_of}
use Rattle.soy_base.specs.declared.direction.Dir.{Dir}
use Rattle.soy_top.specs.Answer.{preview_answer, shown_of}

-- the same files, and a language that says the same
pub record IsGiven (answer : Result Front FrontFault) (of : Front) : Type 0 where
  pub given : Front
  pub answered : answer ≡ Ok given
  pub files : given.files ≡ of.files
  pub language : BundlesAlike given.language of.language

module _ (contents : List (List ℕ)) (bundle : Option (List ℕ)) (of : Front) (is : DeserveFront contents bundle of) where
  by_language : (either : LanguageOrFault bundle of.files.rows) → IsGiven (language_answer bundle of.files either) of
  by_language (inl brought) =
      let same = same_chosen bundle of.files.rows brought.0 of.language brought.1 is.brings in
      record {
        given = record { files = of.files; language = brought.0; walk = of.walk };
        answered = ap (λ t. walk_answer of.files brought.0 (walk_trees t (view_trees of.files.trees))) same
            ∙ ap (walk_answer of.files brought.0) is.walk;
        files = refl;
        language = same_language bundle of.files.rows brought.0 of.language brought.1 is.brings;
      }
  by_language (inr fault) =
      absurd (brought_apart bundle of.files.rows of.language fault.0 is.brings fault.1)

  -- what is answered of them is of the same files, and of a language that says the same
  pub deserved_given : IsGiven (front_answer contents bundle) of
  deserved_given =
      let g = by_language (language_or_fault bundle of.files.rows) in
      record {
        given = g.given;
        answered = ap (answer_by_files bundle) (files_had contents of.files.trees of.files.rows is.files) ∙ g.answered;
        files = g.files;
        language = g.language;
      }

module _ (given of : Front) (files : given.files ≡ of.files) (language : BundlesAlike given.language of.language) where
  entry_alike : (template : Word) → entry_of given template ≡ entry_of of template
  entry_alike template =
      ap (λ (f : ReadFiles). entry_of (record { files = f; language = given.language; walk = given.walk }) template)
      files

  -- so their templates give the same
  pub outcome_alike : (d : Declared) (v : Value) → template_outcome given d v ≡ template_outcome of d v
  outcome_alike d v =
      ap (λ (l : Language). template_run (language_context l (declared (view_trees given.files.trees))) d
      (input_env (names_of d.template.params) v)) (languages_alike given.language of.language language)
      ∙ ap (λ (f : ReadFiles). template_run
      (language_context (language_of of.language) (declared (view_trees f.trees))) d
      (input_env (names_of d.template.params) v)) files

  module _ (page : PageAnswer) (template json_name : Word) (json : List ℕ) where
    data_alike : (d : Declared) (r : Result Value (Code × List PathStep))
        → data_answer page json_name given d r ≡ data_answer page json_name of d r
    data_alike d (Ok v) = ap (page_answer page) (outcome_alike d v)
    data_alike d (Err fault) = refl

    found_alike : (o : Option Declared)
        → entry_answer page template json_name json given o ≡ entry_answer page template json_name json of o
    found_alike None = refl
    found_alike (Some d) = data_alike d (data_at d.template.params json)

    -- and a render is answered the same
    render_alike : render_answer page template json_name json given ≡ render_answer page template json_name json of
    render_alike =
        ap (entry_answer page template json_name json given) (entry_alike template)
        ∙ found_alike (entry_of of template)

-- the same of a preview, in a context of the bundle's direction
module _ (given of : Front) (files : given.files ≡ of.files) (language : BundlesAlike given.language of.language) where
  shown_alike : (template : Word) → shown_of given template ≡ shown_of of template
  shown_alike template =
      ap (λ (f : ReadFiles). shown_of (record { files = f; language = given.language; walk = given.walk }) template)
      files

  preview_alike : (page : Dir → PageAnswer) (template json_name : Word) (json : List ℕ)
      → preview_answer page template json_name json given ≡ preview_answer page template json_name json of
  preview_alike page template json_name json =
      ap (λ d. entry_answer (page d) template json_name json given (shown_of given template)) language.dir
      ∙ (ap (entry_answer (page of.language.dir) template json_name json given) (shown_alike template)
      ∙ found_alike given of files language (page of.language.dir) template json_name json (shown_of of template))

-- **the answer by inputs that are accepted is that by what they deserve**
module _ (names : List Word) (contents : List (List ℕ)) (bundle template json_name : Word) (json : List ℕ)
    (content : Option (List ℕ)) (of : Front) (is : DeserveFront contents content of) where
  pub accepted_alike : (page : PageAnswer)
      → accepted_then names contents bundle content (render_answer page template json_name json)
      ≡ render_answer page template json_name json of
  accepted_alike page =
      let g = deserved_given contents content of is in
      ap (unless_refused names contents bundle (render_answer page template json_name json)) g.answered
      ∙ render_alike g.given of g.files g.language page template json_name json

  pub previewed_alike : (page : Dir → PageAnswer)
      → accepted_then names contents bundle content (preview_answer page template json_name json)
      ≡ preview_answer page template json_name json of
  previewed_alike page =
      let g = deserved_given contents content of is in
      ap (unless_refused names contents bundle (preview_answer page template json_name json)) g.answered
      ∙ preview_alike g.given of g.files g.language page template json_name json
