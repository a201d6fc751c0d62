-- The templates that are declared by trees without spans are those of the trees, without spans; so is what a name in a
-- call means.
use Rattle.std.proofs.Common.{◌≡◌, ℕ, ◌+◌, List, [], ◌∷◌, map, Option, Some, None, bytes_eq, refl, ap}
use Rattle.std.specs.Prelude.{option_map, is_some}
use Rattle.std.proofs.lemmas.List.{map-append}
use Rattle.soy_tree.specs.Types.{Name}
use Rattle.soy_rules.specs.Bodies.{param_of}
use Rattle.soy_rules.specs.Templates.{Declared, callee, called_name, declared, declared_from, declared_in, full_name}
use Rattle.soy_rules.specs.Templates.{is_visible_from, param_scope, param_type, template_of, visible}
use Rattle.soy_tree.specs.Trees.{Param, Template, Tree}
use Rattle.soy_format.specs.WithoutSpans.{param_without_spans, template_without_spans, tree_without_spans}
use Rattle.alike_files.proofs.ExpressionValues.{through_if}

abbrev pub declared_without_spans : Declared → Declared
declared_without_spans d = record d { template = template_without_spans d.template }

declared_in_same : (file : ℕ) (namespace : Name) (ts : List Template)
    → declared_in file namespace (map template_without_spans ts)
    ≡ map declared_without_spans (declared_in file namespace ts)
declared_in_same file namespace [] = refl
declared_in_same file namespace (t ∷ ts) =
    ap (λ ds. record { file = file; namespace = namespace; template = template_without_spans t } ∷ ds)
    (declared_in_same file namespace ts)

declared_from_same : (file : ℕ) (trees : List Tree)
    → declared_from file (map tree_without_spans trees) ≡ map declared_without_spans (declared_from file trees)
declared_from_same file [] = refl
declared_from_same file (tree ∷ trees) =
    rw (
      declared_in_same file tree.namespace tree.templates,
      declared_from_same (file + 1) trees,
      map-append declared_without_spans (declared_in file tree.namespace tree.templates)
          (declared_from (file + 1) trees),
    ) refl

-- **the templates of all trees**
pub declared_same : (trees : List Tree)
    → declared (map tree_without_spans trees) ≡ map declared_without_spans (declared trees)
declared_same = declared_from_same 0

-- ---- what a name in a call means

template_of_same : (name : Name) (ds : List Declared)
    → template_of name (map declared_without_spans ds) ≡ option_map declared_without_spans (template_of name ds)
template_of_same name [] = refl
template_of_same name (d ∷ ds) =
    rw (template_of_same name ds)
    (through_if (option_map declared_without_spans) (bytes_eq (full_name d) name) (Some d) (template_of name ds))

visible_same : (namespace : Name) (o : Option Declared)
    → visible namespace (option_map declared_without_spans o) ≡ option_map declared_without_spans (visible namespace o)
visible_same namespace None = refl
visible_same namespace (Some d) =
    through_if (option_map declared_without_spans) (is_visible_from namespace d) (Some d) None

-- **the callee**
pub callee_same : (ds : List Declared) (namespace name : Name)
    → callee (map declared_without_spans ds) namespace name
    ≡ option_map declared_without_spans (callee ds namespace name)
callee_same ds namespace name =
    rw (template_of_same (called_name namespace name) ds)
    (visible_same namespace (template_of (called_name namespace name) ds))

-- ---- parameters

pub param_scope_same : (ps : List Param) → param_scope (map param_without_spans ps) ≡ param_scope ps
param_scope_same [] = refl
param_scope_same (p ∷ ps) = ap (λ scope. (p.name, param_type p) ∷ scope) (param_scope_same ps)

pub param_of_same : (name : Name) (ps : List Param)
    → param_of name (map param_without_spans ps) ≡ option_map param_without_spans (param_of name ps)
param_of_same name [] = refl
param_of_same name (p ∷ ps) =
    rw (param_of_same name ps)
    (through_if (option_map param_without_spans) (bytes_eq p.name name) (Some p) (param_of name ps))

is_some_same : {A B : Type 0} (f : A → B) (o : Option A) → is_some (option_map f o) ≡ is_some o
is_some_same f None = refl
is_some_same f (Some a) = refl

pub has_param_same : (name : Name) (ps : List Param)
    → is_some (param_of name (map param_without_spans ps)) ≡ is_some (param_of name ps)
has_param_same name ps = rw (param_of_same name ps) (is_some_same param_without_spans (param_of name ps))
