-- A program that stands for typed and accepted trees gives what they give.
use Rattle.std.proofs.Common.{◌≡◌, ℕ, List, Some, Ok, sym, ap, ◌∙◌, subst}
use Rattle.std.specs.Prelude.{slice_get}
use Rattle.html_state.specs.declared.row.State.{State}
use Rattle.soy_rules.specs.Templates.{Declared, declared}
use Rattle.soy_tree.specs.Trees.{Tree}
use Rattle.soy_tree.specs.Values.{Value}
use Rattle.soy_meaning.specs.Walks.AcceptedTrees.{walk_trees}
use Rattle.soy_pieces.specs.Giving.{RunEnv}
use Rattle.soy_pieces.specs.Pieces.{template_run}
use Rattle.soy_meaning.specs.Runs.TranslationFits.{TranslationsFit}
use Rattle.soy_meaning.specs.Runs.TypedData.{AreTypedTrees, FitsData}
use Rattle.soy_meaning.specs.Walks.Walk.{Walked}
use Rattle.template_ir.specs.Compiles.{Compiles}
use Rattle.soy_rules.specs.Language.{Language}
use Rattle.template_ir.specs.Ops.{Program}
use Rattle.soy_pieces.specs.LanguageContext.{language_context}
use Rattle.soy_pieces.specs.Outcome.{pieces_end_costs}
use Rattle.template_ir.specs.Run.{names_there, run, template_gives}
use Rattle.soy_pieces.specs.InputEnv.{input_env, names_of}
use Rattle.template_ir.proofs.PlacedRuns.{runs_placed}
use Rattle.template_ir.proofs.RunLaws.{entry_law, same_given, template_there}

module _ (trees : List Tree) (l : Language) (v : Walked State) (p : Program) (typed : AreTypedTrees trees)
    (fits : TranslationsFit l.translation (declared trees)) (walks : walk_trees l.translation trees ≡ Ok v)
    (compiles : Compiles trees v.places l p) (number : ℕ) (d : Declared)
    (found : slice_get (declared trees) number ≡ Some d) where
  pub compiled_run : (env : RunEnv) → FitsData d env → pieces_end_costs (template_gives p number env)
      ≡ pieces_end_costs (template_run (language_context l (declared trees)) d env)
  compiled_run env data_ =
      same_given (template_run (language_context l (declared trees)) d env) (template_gives p number env)
      (entry_law l (declared trees) v.places p compiles.templates compiles.direction compiles.plural compiles.ordinal
      number d found env (runs_placed trees l v typed fits walks number d found env data_))

  -- under an input, whose members are the parameters
  pub compiled_input : (input : Value) → FitsData d (input_env (names_of d.template.params) input)
      → pieces_end_costs (run p number input)
      ≡ pieces_end_costs (template_run (language_context l (declared trees)) d
      (input_env (names_of d.template.params) input))
  compiled_input input data_ =
      let there = template_there l (declared trees) v.places p.ops (declared trees) p.templates 0 compiles.templates
      number d found in
      let same : names_there (slice_get p.templates number) ≡ names_of d.template.params =
      ap names_there there.1 ∙ ap names_of there.2.params in
      subst (λ names. pieces_end_costs (template_gives p number (input_env names input))
      ≡ pieces_end_costs (template_run (language_context l (declared trees)) d
      (input_env (names_of d.template.params) input))) (sym same)
      (compiled_run (input_env (names_of d.template.params) input) data_)
