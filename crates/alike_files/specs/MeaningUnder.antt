-- What a template of trees gives, and means, under a bundle and the values of its parameters.
-- Example: of `{@param x: string}{$x}` under no bundle and `x` with `a` it is one value, `a` in a span.
use Rattle.std.specs.Prelude.{ℕ, List}
use Rattle.soy_rules.specs.Templates.{Declared, declared}
use Rattle.soy_tree.specs.Trees.{Tree}
use Rattle.soy_tree.specs.Values.{Value}
use Rattle.soy_tree.specs.declared.bundle.Bundle.{Bundle}
use Rattle.soy_pieces.specs.Giving.{RunEnv}
use Rattle.soy_pieces.specs.Meaning.{meaning}
use Rattle.soy_pieces.specs.Outcome.{Outcome}
use Rattle.soy_pieces.specs.Pieces.{RunContext, template_run}
use Rattle.soy_pieces.specs.LanguageContext.{language_context}
use Rattle.soy_pieces.specs.InputEnv.{input_env, names_of}
use Rattle.msg_extract.specs.LanguageOf.{language_of}

abbrev pub context_under : Bundle → List Tree → RunContext
context_under bundle trees = language_context (language_of bundle) (declared trees)

-- the variables that a template begins with
abbrev pub data_env : Declared → Value → RunEnv
data_env d v = input_env (names_of d.template.params) v

abbrev pub run_under : Bundle → List Tree → Declared → Value → Outcome
run_under bundle trees d v = template_run (context_under bundle trees) d (data_env d v)

abbrev pub meaning_under : Bundle → List Tree → Declared → Value → List ℕ
meaning_under bundle trees d v = meaning (context_under bundle trees) d (data_env d v)
