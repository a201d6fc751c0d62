-- Templates of trees that are alike give the same for all data and bundles, but for the position of a stop.
use Rattle.std.proofs.Common.{◌≡◌, ℕ, ◌+◌, Bool, List, [], ◌∷◌, map, Option, Some, refl, sym, ap}
use Rattle.std.proofs.Common.{◌∙◌, subst}
use Rattle.std.specs.Prelude.{encode_utf8_all, not, if◌then◌else◌, slice_get, option_map}
use Rattle.std.specs.List.{position, prefix_len}
use Rattle.std.proofs.lemmas.List.{length-map}
use Rattle.std.proofs.lemmas.Option.{slice_get-map}
use Rattle.soy_rules.specs.Fits.{Fits}
use Rattle.soy_rules.specs.Templates.{Declared, declared, param_scope}
use Rattle.soy_tree.specs.Trees.{Param, Tree}
use Rattle.soy_rules.specs.TypeOf.{Scope}
use Rattle.soy_tree.specs.Values.{Value}
use Rattle.soy_tree.specs.declared.bundle.Bundle.{Bundle}
use Rattle.soy_pieces.specs.Giving.{RunEnv}
use Rattle.soy_pieces.specs.Meaning.{joined_pieces}
use Rattle.soy_pieces.specs.Outcome.{pieces_of_outcome}
use Rattle.soy_pieces.specs.Pieces.{template_run}
use Rattle.soy_meaning.specs.Runs.TypedData.{FitsData}
use Rattle.soy_pieces.specs.LanguageContext.{language_context}
use Rattle.soy_pieces.specs.InputEnv.{input_env, names_of}
use Rattle.msg_extract.specs.LanguageOf.{language_of}
use Rattle.soy_format.specs.WithoutSpans.{param_without_spans}
use Rattle.alike_files.specs.AllAlike.{AllAlike}
use Rattle.alike_files.specs.MeaningUnder.{context_under, data_env, meaning_under, run_under}
use Rattle.alike_files.specs.RunWithoutPositions.{outcome_without_positions}
use Rattle.alike_files.proofs.AlikeTrees.{alike_trees, chosen_same}
use Rattle.alike_files.proofs.DeclaredTemplates.{declared_same, declared_without_spans, param_scope_same}
use Rattle.alike_files.proofs.NodeRuns.{run_same}
use Rattle.alike_files.proofs.Outcomes.{env_placeless, pieces_same}

-- ---- the templates of trees that are alike

pub alike_declared : (trees others : List Tree) → AllAlike trees others
    → map declared_without_spans (declared trees) ≡ map declared_without_spans (declared others)
alike_declared trees others alike =
    sym (declared_same trees) ∙ (ap declared (alike_trees trees others alike) ∙ declared_same others)

same_there : (a b : Declared) → ◌≡◌ {A = Option Declared} (Some a) (Some b) → a ≡ b
same_there a b e = cc

-- templates of one number are the same without spans
one_template : (trees others : List Tree) → AllAlike trees others → (number : ℕ) (d other : Declared)
    → slice_get (declared trees) number ≡ Some d → slice_get (declared others) number ≡ Some other
    → declared_without_spans d ≡ declared_without_spans other
one_template trees others alike number d other e h =
    same_there (declared_without_spans d) (declared_without_spans other)
    (ap (option_map declared_without_spans) (sym e)
    ∙ (sym (slice_get-map declared_without_spans (declared trees) number)
    ∙ (ap (λ ds. slice_get ds number) (alike_declared trees others alike)
    ∙ (slice_get-map declared_without_spans (declared others) number
    ∙ ap (option_map declared_without_spans) h))))

-- ---- what they give

module _ (bundle : Bundle) (trees others : List Tree) (alike : AllAlike trees others) (d other : Declared)
    (same : declared_without_spans d ≡ declared_without_spans other) where
  run_alike : (env : RunEnv)
      → outcome_without_positions (template_run (context_under bundle trees) d env)
      ≡ outcome_without_positions (template_run (context_under bundle others) other env)
  run_alike env =
      sym (run_same (context_under bundle trees) (chosen_same bundle.messages) d env)
      ∙ (ap (λ ds. template_run (language_context (language_of bundle) ds) (declared_without_spans d)
      (env_placeless env)) (alike_declared trees others alike)
      ∙ (ap (λ x. template_run (language_context (language_of bundle) (map declared_without_spans (declared others))) x
      (env_placeless env)) same
      ∙ run_same (context_under bundle others) (chosen_same bundle.messages) other env))

-- ---- their parameters

names_same : (ps : List Param) → names_of (map param_without_spans ps) ≡ names_of ps
names_same [] = refl
names_same (p ∷ ps) = ap (λ names. p.name ∷ names) (names_same ps)

env_alike : (d other : Declared) → declared_without_spans d ≡ declared_without_spans other → (v : Value)
    → data_env d v ≡ data_env other v
env_alike d other same v =
    ap (λ names. input_env names v)
    (sym (names_same d.template.params)
    ∙ (ap (λ (x : Declared). names_of x.template.params) same ∙ names_same other.template.params))

scope_alike : (d other : Declared) → declared_without_spans d ≡ declared_without_spans other
    → param_scope d.template.params ≡ param_scope other.template.params
scope_alike d other same =
    sym (param_scope_same d.template.params)
    ∙ (ap (λ (x : Declared). param_scope x.template.params) same ∙ param_scope_same other.template.params)

-- ---- the clauses

-- **what a template gives**
pub runs_alike : (bundle : Bundle) (trees others : List Tree) (number : ℕ) (d other : Declared) (v : Value)
    → AllAlike trees others → slice_get (declared trees) number ≡ Some d
    → slice_get (declared others) number ≡ Some other
    → outcome_without_positions (run_under bundle trees d v)
    ≡ outcome_without_positions (run_under bundle others other v)
runs_alike bundle trees others number d other v alike e h =
    let same = one_template trees others alike number d other e h in
    run_alike bundle trees others alike d other same (data_env d v)
    ∙ ap (λ env. outcome_without_positions (template_run (context_under bundle others) other env))
    (env_alike d other same v)

-- **what it means**
pub meanings_alike : (bundle : Bundle) (trees others : List Tree) (number : ℕ) (d other : Declared) (v : Value)
    → AllAlike trees others → slice_get (declared trees) number ≡ Some d
    → slice_get (declared others) number ≡ Some other
    → meaning_under bundle trees d v ≡ meaning_under bundle others other v
meanings_alike bundle trees others number d other v alike e h =
    ap (λ pieces. encode_utf8_all (joined_pieces pieces))
    (sym (pieces_same (run_under bundle trees d v))
    ∙ (ap pieces_of_outcome (runs_alike bundle trees others number d other v alike e h)
    ∙ pieces_same (run_under bundle others other v)))

-- **which data fit it**
pub data_alike : (trees others : List Tree) (number : ℕ) (d other : Declared) (env : RunEnv)
    → AllAlike trees others → slice_get (declared trees) number ≡ Some d
    → slice_get (declared others) number ≡ Some other → FitsData d env → FitsData other env
data_alike trees others number d other env alike e h f =
    let same = one_template trees others alike number d other e h in
    record {
      fits = subst (λ (scope : Scope). Fits scope env) (scope_alike d other same) f.fits;
      values = f.values;
      short = f.short;
    }

-- ---- the first that a test holds of, in a list and in what a function makes of it
prefix_same : {A B : Type 0} (f : A → B) (p : B → Bool) (xs : List A)
    → prefix_len p (map f xs) ≡ prefix_len (λ x. p (f x)) xs
prefix_same f p [] = refl
prefix_same f p (x ∷ xs) = ap (λ n. if p (f x) then 1 + n else 0) (prefix_same f p xs)

pub position_same : {A B : Type 0} (f : A → B) (p : B → Bool) (xs : List A)
    → position p (map f xs) ≡ position (λ x. p (f x)) xs
position_same f p xs = rw (prefix_same f (λ x. not (p x)) xs, length-map xs f) refl
