-- Data that are read for the parameters of a template fit the template.
use Rattle.std.proofs.Common.{◌≡◌, ℕ, zero, suc, ◌+◌, List, [], ◌∷◌, ◌++◌, map, Option, Some, None, refl, sym, ap, ◌∙◌}
use Rattle.std.proofs.Common.{subst}
use Rattle.std.specs.Prelude.{Ok, bytes_eq, if◌then◌else◌, option_map, slice_get, unwrap_or, Bool, true, false}
use Rattle.std.specs.Option.{option_or}
use Rattle.std.proofs.lemmas.List.{map-append}
use Rattle.std.proofs.lemmas.Option.{slice_get-map}
use Rattle.soy_tree.specs.declared.tree.Tree as code
use Rattle.soy_tree.specs.declared.tree.Template as code_template
use Rattle.soy_rules.specs.Declarations.{declaration_fault, params_fault, twice}
use Rattle.soy_rules.specs.Demands.{bodies_fault, check_fault, declarations_fault, in_file}
use Rattle.soy_rules.specs.Faults.{TypeFault}
use Rattle.soy_rules.specs.Fits.{Fits}
use Rattle.soy_rules.specs.Has.{entry_value}
use Rattle.soy_rules.specs.ShortLists.{HasShortLists, EntriesShort}
use Rattle.soy_rules.specs.Templates.{Declared, declared, declared_from, declared_in, full_name, param_scope}
use Rattle.soy_tree.specs.Trees.{Param, Template, Tree}
use Rattle.soy_rules.specs.Typed.{AreTyped, params_at, params_there, templates_of}
use Rattle.soy_tree.specs.Types.{Name}
use Rattle.soy_rules.specs.Val.{member_value}
use Rattle.soy_tree.specs.Values.{Value, Entries, NullValue, BoolValue, IntValue, StringValue, ListValue, MapValue}
use Rattle.soy_tree.specs.Values.{RecordValue, no_entry, entry}
use Rattle.soy_tree.specs.ViewTrees.{view_params, view_template, view_trees}
use Rattle.soy_types.specs.ParamsHave.{ParamsHave}
use Rattle.soy_types.specs.ReadData.{data_at}
use Rattle.soy_types.proofs.ParamsRead.{data_have}
use Rattle.soy_meaning.specs.Runs.RunsAlong.{BindsValues}
use Rattle.soy_meaning.specs.Runs.TypedData.{EnvShort, FitsData}
use Rattle.soy_pieces.specs.InputEnv.{input_env, names_of}

-- ---- no fault

some_none : {A : Type 0} (x : A) → ◌≡◌ {A = Option A} (Some x) None → ⊥
some_none x e = cc

neither_fault : {A : Type 0} (one other : Option A) → option_or one other ≡ None → (one ≡ None) × (other ≡ None)
neither_fault None other h = (refl, h)
neither_fault (Some x) other h = absurd (some_none x h)

mapped_none : {A B : Type 0} (f : A → B) (one : Option A) → option_map f one ≡ None → one ≡ None
mapped_none f None h = refl
mapped_none f (Some x) h = absurd (some_none (f x) h)

-- the parameters of each template that is declared have no fault
declared_params : (ds : List Declared) (before : List Name) (number : ℕ) (d : Declared)
    → declarations_fault ds before ≡ None → slice_get ds number ≡ Some d → params_fault d.template.params [] ≡ None
declared_params [] before number d h is = absurd (some_none d (sym is))
declared_params (first ∷ ds) before zero d h is =
    let same : first ≡ d = cc in
    let fault : Option TypeFault = declaration_fault first before in
    let parts = neither_fault (option_map (in_file first.file) fault)
    (declarations_fault ds (full_name first ∷ before)) h in
    let none = mapped_none (in_file first.file) fault parts.0 in
    subst (λ (e : Declared). params_fault e.template.params [] ≡ None) same
    (neither_fault (twice first.template.span.start (full_name first) before) (params_fault first.template.params [])
    none).1
declared_params (first ∷ ds) before (suc number) d h is =
    declared_params ds (full_name first ∷ before) number d
    (neither_fault (option_map (in_file first.file) (declaration_fault first before))
    (declarations_fault ds (full_name first ∷ before)) h).1 is

-- ---- the template of a number

all_in : (file : ℕ) (namespace : Name) (ts : List Template)
    → map (λ (d : Declared). d.template) (declared_in file namespace ts) ≡ ts
all_in file namespace [] = refl
all_in file namespace (t ∷ ts) = ap (λ xs. t ∷ xs) (all_in file namespace ts)

all_templates : (file : ℕ) (trees : List code.Tree)
    → map (λ (d : Declared). d.template) (declared_from file (view_trees trees))
    ≡ map view_template (templates_of trees)
all_templates file [] = refl
all_templates file (tree ∷ trees) =
    let template : Declared → Template = λ d. d.template in
    let here : List Template = map view_template tree.templates in
    map-append template (declared_in file tree.namespace here) (declared_from (file + 1) (view_trees trees))
    ∙ (ap (λ xs. xs ++ map template (declared_from (file + 1) (view_trees trees))) (all_in file tree.namespace here)
    ∙ (ap (λ xs. here ++ xs) (all_templates (file + 1) trees)
    ∙ sym (map-append view_template tree.templates (templates_of trees))))

params_seen : (found : Option code_template.Template) (t : Template) → option_map view_template found ≡ Some t
    → view_params (params_there found) ≡ t.params
params_seen None t is = absurd (some_none t (sym is))
params_seen (Some x) t is = let same : view_template x ≡ t = cc in ap (λ (u : Template). u.params) same

-- the parameters of the template of a number are those that it declares, as the code has them
pub params_are : (trees : List code.Tree) (number : ℕ) (d : Declared)
    → slice_get (declared (view_trees trees)) number ≡ Some d
    → view_params (params_at number (templates_of trees)) ≡ d.template.params
params_are trees number d is =
    let template : Declared → Template = λ e. e.template in
    params_seen (slice_get (templates_of trees) number) d.template
    (sym (slice_get-map view_template (templates_of trees) number)
    ∙ (ap (λ ts. slice_get ts number) (sym (all_templates 0 trees))
    ∙ (slice_get-map template (declared (view_trees trees)) number ∙ ap (option_map template) is)))

-- ---- the variables

entry_short : (found : Bool) (v : Value) (rest : Option Value) → HasShortLists v
    → HasShortLists (unwrap_or rest NullValue)
    → HasShortLists (unwrap_or (if found then Some v else rest) NullValue)
entry_short true v rest here later = here
entry_short false v rest here later = later

entries_short : (name : Name) (es : Entries) → EntriesShort es
    → HasShortLists (unwrap_or (entry_value name es) NullValue)
entries_short name no_entry short = tt
entries_short name (entry other v es) short =
    entry_short (bytes_eq other name) v (entry_value name es) short.0 (entries_short name es short.1)

member_short : (name : Name) (v : Value) → HasShortLists v → HasShortLists (member_value name v)
member_short name NullValue short = tt
member_short name (BoolValue b) short = tt
member_short name (IntValue n) short = tt
member_short name (StringValue text) short = tt
member_short name (ListValue vs) short = tt
member_short name (MapValue es) short = tt
member_short name (RecordValue es) short = entries_short name es short

fits : (ps : List Param) (v : Value) → ParamsHave ps v → Fits (param_scope ps) (input_env (names_of ps) v)
fits [] v have = tt
fits (p ∷ ps) v have = (refl, have.0, fits ps v have.1)

binds : (names : List Name) (v : Value) → BindsValues (input_env names v)
binds [] v = tt
binds (name ∷ names) v = binds names v

short_env : (names : List Name) (v : Value) → HasShortLists v → EnvShort (input_env names v)
short_env [] v short = tt
short_env (name ∷ names) v short = (member_short name v short, short_env names v short)

-- **data that have the parameters of a template, and whose lists are short, fit it**
pub having_fit : (d : Declared) (v : Value) → ParamsHave d.template.params v → HasShortLists v
    → FitsData d (input_env (names_of d.template.params) v)
having_fit d v have short = record {
  fits = fits d.template.params v have;
  values = binds (names_of d.template.params) v;
  short = short_env (names_of d.template.params) v short;
}

-- **data that are read for the parameters of a template of trees without a fault have them**
pub read_have : (trees : List Tree) (number : ℕ) (d : Declared) (bytes : List ℕ) (v : Value) → check_fault trees ≡ None
    → slice_get (declared trees) number ≡ Some d → data_at d.template.params bytes ≡ Ok v
    → ParamsHave d.template.params v
read_have trees number d bytes v demands is read =
    let ds : List Declared = declared trees in
    let parts = neither_fault (declarations_fault ds []) (bodies_fault ds ds) demands in
    data_have d.template.params bytes v (declared_params ds [] number d parts.0 is) read

-- **data that are read for the parameters of a template fit it**
pub data_fits : (trees : List code.Tree) (number : ℕ) (d : Declared) (bytes : List ℕ) (v : Value) → AreTyped trees
    → slice_get (declared (view_trees trees)) number ≡ Some d
    → data_at (view_params (params_at number (templates_of trees))) bytes ≡ Ok v → HasShortLists v
    → FitsData d (input_env (names_of d.template.params) v)
data_fits trees number d bytes v typed is read short =
    let read_at : data_at d.template.params bytes ≡ Ok v =
    subst (λ ps. data_at ps bytes ≡ Ok v) (params_are trees number d is) read in
    having_fit d v (read_have (view_trees trees) number d bytes v typed.demands is read_at) short
