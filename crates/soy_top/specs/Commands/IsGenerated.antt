-- A text is the summary of the words.
--
-- The words are `gen NUMBER`, the source of the number's workload is read, it and the bundle of its catalogue are
-- accepted, the workload's template is one that may be rendered under its name, the data give its parameters values,
-- and the text is the summary of the meaning of the template under them.
-- Example: for 7 the text has the line `bytes 638685`.
use Rattle.std.specs.Prelude.{◌≡◌, ℕ, List, [], ◌∷◌, Some, Ok, codes}
use Rattle.msg_extract.specs.LanguageOf.{language_of}
use Rattle.msg_extract.specs.declared.catalogue.Listed.{Listed}
use Rattle.soy_front.specs.Accepted.{Accepted, AreFiles}
use Rattle.soy_front.specs.FrontAnswer.{DeserveFront, Front}
use Rattle.soy_pieces.specs.Meaning.{meaning}
use Rattle.soy_top.specs.Answer.{entry_of}
use Rattle.soy_top.specs.Asked.{number_of}
use Rattle.soy_top.specs.Generated.{workload_entry, workload_files, workload_json}
use Rattle.soy_top.specs.MadeBundle.{bundle_text}
use Rattle.soy_top.specs.Summary.{summary}
use Rattle.soy_top.specs.Words.{Word}
use Rattle.soy_rules.specs.Templates.{Declared, declared}
use Rattle.soy_tree.specs.Values.{Value}
use Rattle.soy_tree.specs.ViewTrees.{view_trees}
use Rattle.soy_tree.specs.declared.tree.Tree.{Tree}
use Rattle.soy_types.specs.ReadData.{data_at}
use Rattle.soy_pieces.specs.LanguageContext.{language_context}
use Rattle.soy_pieces.specs.InputEnv.{input_env, names_of}
use Rattle.work_gen.specs.Workload.{workload}
use Rattle.work_gen.specs.declared.workload.Workload.{Workload}

-- a text is the summary of a workload
pub record IsSummary (w : Workload) (text : List ℕ) : Type 0 where
  pub trees : List Tree
  pub rows : List Listed
  pub of : Front
  pub d : Declared
  pub v : Value
  pub are_files : AreFiles (workload_files w) trees rows
  pub accepted : Accepted (workload_files w) (Some (bundle_text rows))
  pub deserved : DeserveFront (workload_files w) (Some (bundle_text rows)) of
  pub entry : entry_of of (workload_entry w) ≡ Some d
  pub reads : data_at d.template.params (workload_json w) ≡ Ok v
  pub text_is : text ≡ summary (meaning
      (language_context (language_of of.language) (declared (view_trees of.files.trees))) d
      (input_env (names_of d.template.params) v))

-- the words are `gen` and the digits of a number
abbrev pub AreGen : List Word → ℕ → Type 0
AreGen words number = (digits : Word) × (words ≡ codes "gen" ∷ digits ∷ []) × (number_of digits ≡ Some number)

pub record IsGenerated (words : List Word) (text : List ℕ) : Type 0 where
  pub number : ℕ
  pub words_are : AreGen words number
  pub is_summary : IsSummary (workload number) text
