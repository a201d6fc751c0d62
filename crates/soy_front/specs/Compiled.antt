-- Which program stands for files that are accepted under a bundle, and what it gives.
--
-- The trees, the catalogue and the language are those that are answered of the files and the bundle. The program stands
-- for the trees with the places that the walk gives, under that language. Each template of it gives, for all data that
-- fit, the pieces, the end and the costs that the template of the trees gives.
-- Example: of one file without templates the program has no templates.
use Rattle.std.specs.Prelude.{◌≡◌, ℕ, List, [], Option, Some, Result, Ok, Err, slice_get}
use Rattle.std.specs.List.{position}
use Rattle.soy_base.specs.declared.memory.Refusal.{Refusal}
use Rattle.soy_base.specs.declared.memory.Refusal.TheVariants.{Because, OutOfMemory}
use Rattle.soy_base.specs.declared.place.Place.{Place}
use Rattle.soy_rules.specs.Templates.{Declared, declared}
use Rattle.soy_tree.specs.Trees.{Tree}
use Rattle.soy_tree.specs.Types.{Name}
use Rattle.soy_tree.specs.Values.{Value}
use Rattle.soy_tree.specs.ViewTrees.{view_trees}
use Rattle.soy_meaning.specs.Walks.AcceptedTrees.{walk_trees}
use Rattle.soy_pieces.specs.Pieces.{template_run}
use Rattle.soy_meaning.specs.Runs.TypedData.{FitsData}
use Rattle.soy_meaning.specs.Walks.Walk.{walked}
use Rattle.template_ir.specs.Compiles.{Compiles}
use Rattle.soy_rules.specs.Language.{Language}
use Rattle.template_ir.specs.Ops.{Program}
use Rattle.soy_pieces.specs.LanguageContext.{language_context}
use Rattle.soy_pieces.specs.Outcome.{pieces_end_costs}
use Rattle.template_ir.specs.Run.{run}
use Rattle.soy_pieces.specs.InputEnv.{input_env, names_of}
use Rattle.template_ir.specs.ViewOps.{view_program}
use Rattle.msg_extract.specs.LanguageOf.{language_of}
use Rattle.soy_front.specs.Accepted.{FirstFault}
use Rattle.soy_front.specs.Entries.{entry_number, is_entry_routine}
use Rattle.soy_front.specs.FrontAnswer.{Front, front_answer}
use Rattle.soy_front.specs.declared.compiling.Compiled.{Compiled}
use Rattle.soy_front.specs.declared.fault.FrontFault.{FrontFault}

-- each template of the program gives what that of the trees gives
abbrev pub GivesTheSame : List Tree → Language → Program → Type 0
GivesTheSame trees language program =
    (number : ℕ) (d : Declared) → slice_get (declared trees) number ≡ Some d → (input : Value)
    → FitsData d (input_env (names_of d.template.params) input)
    → pieces_end_costs (run program number input)
    ≡ pieces_end_costs (template_run (language_context language (declared trees)) d
    (input_env (names_of d.template.params) input))

-- the program of what is answered of the files and the bundle
pub record AreCompiled (contents : List (List ℕ)) (bundle : Option (List ℕ)) (c : Compiled) : Type 0 where
  pub of : Front
  pub answered : front_answer contents bundle ≡ Ok of
  pub files : of.files ≡ record { trees = c.typed; rows = c.catalogue.messages }
  pub direction : c.dir ≡ of.language.dir
  pub places : List Place
  pub walk : walk_trees (language_of of.language).translation (view_trees c.typed) ≡ Ok (walked [] places)
  pub compiles : Compiles (view_trees c.typed) places (language_of of.language) (view_program c.program)
  pub gives : GivesTheSame (view_trees c.typed) (language_of of.language) (view_program c.program)
  pub entries : (name : Name)
      → position (is_entry_routine name) c.program.templates ≡ entry_number name (declared (view_trees c.typed))

-- **files and a bundle are compiled, or their first fault is answered**
abbrev pub CompilesFiles : List (List ℕ) → Option (List ℕ) → Result Compiled (Refusal FrontFault) → Type 0
CompilesFiles contents bundle (Ok compiled) = AreCompiled contents bundle compiled
CompilesFiles contents bundle (Err (Because fault)) = FirstFault contents bundle fault
CompilesFiles contents bundle (Err OutOfMemory) = Unit {0}
