-- What a compiled program gives for an opening is the meaning of the template of its trees.
use Rattle.std.proofs.Common.{◌≡◌, ℕ, List, Some, Ok, ap}
use Rattle.std.specs.Prelude.{encode_utf8_all, slice_get}
use Rattle.soy_base.specs.Piece.{Piece}
use Rattle.html_state.specs.declared.row.State.{State}
use Rattle.soy_rules.specs.Templates.{Declared, declared}
use Rattle.soy_tree.specs.Trees.{Tree}
use Rattle.soy_tree.specs.ViewValues.{view_value}
use Rattle.soy_meaning.specs.Walks.AcceptedTrees.{walk_trees}
use Rattle.soy_pieces.specs.Meaning.{joined_pieces, meaning}
use Rattle.soy_pieces.specs.Outcome.{RunEnd}
use Rattle.soy_meaning.specs.Runs.TranslationFits.{TranslationsFit}
use Rattle.soy_meaning.specs.Runs.TypedData.{AreTypedTrees, FitsData}
use Rattle.soy_meaning.specs.Walks.Walk.{Walked}
use Rattle.template_ir.specs.Compiles.{Compiles}
use Rattle.soy_rules.specs.Language.{Language}
use Rattle.soy_pieces.specs.LanguageContext.{language_context}
use Rattle.soy_pieces.specs.InputEnv.{input_env, names_of}
use Rattle.template_ir.specs.ViewOps.{view_program}
use Rattle.template_ir.proofs.CompiledRuns.{compiled_input}
use Rattle.soy_desk.specs.Openings.{Opening, run_bytes}

pub opening_meaning : (trees : List Tree) (l : Language) (v : Walked State) (o : Opening) → AreTypedTrees trees
    → TranslationsFit l.translation (declared trees) → walk_trees l.translation trees ≡ Ok v
    → Compiles trees v.places l (view_program o.program) → (d : Declared)
    → slice_get (declared trees) o.template ≡ Some d
    → FitsData d (input_env (names_of d.template.params) (view_value o.input))
    → run_bytes o
    ≡ meaning (language_context l (declared trees)) d (input_env (names_of d.template.params) (view_value o.input))
opening_meaning trees l v o typed fit walk compiles d found fits =
    ap (λ (p : List Piece × RunEnd × List ℕ). encode_utf8_all (joined_pieces p.0))
    (compiled_input trees l v (view_program o.program) typed fit walk compiles o.template d found (view_value o.input)
    fits)
