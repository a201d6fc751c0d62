-- Each template of typed trees is typed, and its parameters have different names.
use Rattle.std.proofs.Common.{◌≡◌, ℕ, ◌+◌, Bool, true, false, List, [], ◌∷◌, ◌⊎◌, inl, inr, Option, Some, None, Ok, Err}
use Rattle.std.proofs.Common.{if◌then◌else◌, refl, sym, ◌∙◌, subst}
use Rattle.std.specs.Prelude.{bytes_eq, is_some, option_map, ◌&&◌}
use Rattle.std.specs.List.{list_all}
use Rattle.std.specs.Option.{option_or}
use Rattle.std.proofs.lemmas.Bool.{and_parts, or_parts}
use Rattle.std.proofs.lemmas.Slice.Eq.{bytes_eq-Decides}
use Rattle.soy_base.specs.Names.{is_dotted_name, is_name}
use Rattle.soy_rules.specs.Bodies.{Around, Checked, after_nodes, param_of}
use Rattle.soy_rules.specs.Declarations.{declaration_fault, params_fault, twice, type_fault}
use Rattle.soy_base.specs.Among.{is_among}
use Rattle.soy_rules.specs.Demands.{bodies_fault, body_fault, declarations_fault, fault_of, in_file}
use Rattle.soy_rules.specs.Faults.{TypeFault}
use Rattle.soy_tree.specs.Formed.{are_formed_nodes, is_formed_param, is_formed_template, is_formed_tree}
use Rattle.soy_rules.specs.Templates.{Declared, declared, declared_from, declared_in, full_name, param_scope}
use Rattle.soy_rules.specs.Templates.{param_type}
use Rattle.soy_tree.specs.Trees.{Param, Template, Tree}
use Rattle.soy_rules.specs.TypeOf.{Scope, variable_type}
use Rattle.soy_tree.specs.Types.{Name}
use Rattle.soy_meaning.specs.Walks.States.{IsMember}
use Rattle.soy_meaning.specs.Runs.TypedData.{AreTypedTrees}
use Rattle.soy_meaning.proofs.Typing.CheckedNodes.{IsDistinct, SeesParams, nodes_typed, same_bytes}
use Rattle.soy_meaning.proofs.Members.{mem_split}
use Rattle.soy_meaning.proofs.Typing.TypedNodes.{NodesTyped}

-- ---- no fault

some_none : {A : Type 0} (x : A) → ◌≡◌ {A = Option A} (Some x) None → ⊥
some_none x e = cc

neither_fault : {A : Type 0} (one other : Option A) → option_or one other ≡ None → (one ≡ None) × (other ≡ None)
neither_fault None other h = (refl, h)
neither_fault (Some x) other h = absurd (some_none x h)

mapped_none : {A B : Type 0} (f : A → B) (one : Option A) → option_map f one ≡ None → one ≡ None
mapped_none f None h = refl
mapped_none f (Some x) h = absurd (some_none (f x) h)

goes_on : (r : Checked) → fault_of r ≡ None → (s : Scope) × (r ≡ Ok s)
goes_on (Ok s) h = (s, refl)
goes_on (Err fault) h = absurd (some_none fault h)

body_passes : (all ds : List Declared) (d : Declared) → IsMember d ds → bodies_fault all ds ≡ None
    → body_fault all d ≡ None
body_passes all [] d member h = absurd member
body_passes all (first ∷ ds) d (inl same) h =
    let parts = neither_fault (option_map (in_file first.file) (body_fault all first)) (bodies_fault all ds) h in
    subst (λ z. body_fault all z ≡ None) (sym same)
    (mapped_none (in_file first.file) (body_fault all first) parts.0)
body_passes all (first ∷ ds) d (inr member) h =
    body_passes all ds d member
    (neither_fault (option_map (in_file first.file) (body_fault all first)) (bodies_fault all ds) h).1

-- ---- different names of parameters

not_twice : (test : Bool) (fault : TypeFault) → ◌≡◌ {A = Option TypeFault} (if test then Some fault else None) None
    → test ≡ false
not_twice false fault h = refl
not_twice true fault h = absurd (some_none fault h)

abbrev IsNamed : Param → List Param → List Name → Type 0
IsNamed p ps before = (param_of p.name ps ≡ Some p) × (is_among before p.name ≡ false)

chosen_if : (test : Bool) (q p : Param) (rest : Option Param) → test ≡ false → rest ≡ Some p
    → (if test then Some q else rest) ≡ Some p
chosen_if false q p rest none h = h
chosen_if true q p rest none h = let no_ : ⊥ = cc in absurd no_

first_named : (p q : Param) (ps : List Param) → p ≡ q → param_of p.name (q ∷ ps) ≡ Some p
first_named p q ps same =
    subst (λ z. param_of z.name (q ∷ ps) ≡ Some z) (sym same)
    (chosen (bytes_eq q.name q.name) ((bytes_eq-Decides q.name q.name).1 refl))
  where
    chosen : (test : Bool) → test ≡ true → (if test then Some q else param_of q.name ps) ≡ Some q
    chosen true is = refl
    chosen false is = let no_ : ⊥ = cc in absurd no_

named : (ps : List Param) (before : List Name) → params_fault ps before ≡ None → (p : Param) → IsMember p ps
    → IsNamed p ps before
named [] before h p member = absurd member
named (q ∷ ps) before h p (inl same) =
    let parts = neither_fault (twice q.span.start q.name before)
    (option_or (type_fault q.of q.span.start true) (params_fault ps (q.name ∷ before))) h in (
      first_named p q ps same,
      subst (λ z. is_among before z.name ≡ false) (sym same)
          (not_twice (is_among before q.name) _ parts.0),
    )
named (q ∷ ps) before h p (inr member) =
    let parts = neither_fault (twice q.span.start q.name before)
    (option_or (type_fault q.of q.span.start true) (params_fault ps (q.name ∷ before))) h in
    let rest = neither_fault (type_fault q.of q.span.start true) (params_fault ps (q.name ∷ before)) parts.1 in
    let there : IsNamed p ps (q.name ∷ before) = named ps (q.name ∷ before) rest.1 p member in
    let apart : (bytes_eq p.name q.name ≡ false) × (is_among before p.name ≡ false) =
    or_parts (bytes_eq p.name q.name) (is_among before p.name) there.1 in (
      chosen_if (bytes_eq q.name p.name) q p (param_of p.name ps) (same_bytes q.name p.name ∙ apart.0) there.0,
      apart.1,
    )

params_distinct : (ds : List Declared) (before : List Name) → declarations_fault ds before ≡ None → (d : Declared)
    → IsMember d ds → IsDistinct d.template.params
params_distinct [] before h d member = absurd member
params_distinct (first ∷ ds) before h d (inl same) =
    let parts = neither_fault (option_map (in_file first.file) (declaration_fault first before))
    (declarations_fault ds (full_name first ∷ before)) h in
    let own : declaration_fault first before ≡ None =
    mapped_none (in_file first.file) (declaration_fault first before) parts.0 in
    let params = neither_fault (twice first.template.span.start (full_name first) before)
    (params_fault first.template.params []) own in
    subst (λ z. IsDistinct z.template.params) (sym same)
    (λ p member. (named first.template.params [] params.1 p member).0)
params_distinct (first ∷ ds) before h d (inr member) =
    params_distinct ds (full_name first ∷ before)
    (neither_fault (option_map (in_file first.file) (declaration_fault first before))
    (declarations_fault ds (full_name first ∷ before)) h).1 d member

-- ---- formed templates

formed_in : (file : ℕ) (namespace : Name) (ts : List Template) → list_all is_formed_template ts ≡ true → (d : Declared)
    → IsMember d (declared_in file namespace ts) → is_formed_template d.template ≡ true
formed_in file namespace [] formed d member = absurd member
formed_in file namespace (t ∷ ts) formed d (inl same) =
    subst (λ z. is_formed_template z.template ≡ true) (sym same)
    (and_parts (is_formed_template t) (list_all is_formed_template ts) formed).0
formed_in file namespace (t ∷ ts) formed d (inr member) =
    formed_in file namespace ts (and_parts (is_formed_template t) (list_all is_formed_template ts) formed).1 d member

one_of : {P Q R : Type 0} → P ⊎ Q → (P → R) → (Q → R) → R
one_of (inl p) f g = f p
one_of (inr q) f g = g q

formed_from : (file : ℕ) (trees : List Tree) → list_all is_formed_tree trees ≡ true → (d : Declared)
    → IsMember d (declared_from file trees) → is_formed_template d.template ≡ true
formed_from file [] formed d member = absurd member
formed_from file (tree ∷ trees) formed d member =
    let parts = and_parts (is_formed_tree tree) (list_all is_formed_tree trees) formed in
    let own = and_parts (is_dotted_name tree.namespace) (list_all is_formed_template tree.templates) parts.0 in
    one_of (mem_split d (declared_in file tree.namespace tree.templates) (declared_from (file + 1) trees) member)
    (λ there. formed_in file tree.namespace tree.templates own.1 d there)
    (λ there. formed_from (file + 1) trees parts.1 d there)

-- ---- parameters are visible at first

same_there : (test : Bool) (p : Param) (found : Option Param) (rest : Scope) (name : Name)
    → is_some found ≡ is_some (variable_type name rest)
    → is_some (if test then Some p else found) ≡ is_some (if test then Some (param_type p) else variable_type name rest)
same_there true p found rest name h = refl
same_there false p found rest name h = h

params_there : (params : List Param) (name : Name)
    → is_some (param_of name params) ≡ is_some (variable_type name (param_scope params))
params_there [] name = refl
params_there (p ∷ ps) name =
    same_there (bytes_eq p.name name) p (param_of name ps) (param_scope ps) name (params_there ps name)

sees_at_first : (params : List Param) → SeesParams params (param_scope params)
sees_at_first params name h = sym (params_there params name) ∙ h

-- ---- templates

abbrev pub around_template : List Declared → Declared → Around
around_template all d = record { declared = all; namespace = d.namespace; params = d.template.params }

abbrev pub TemplateTyped : List Declared → Declared → Type 0
TemplateTyped all d = NodesTyped (around_template all d) d.template.body (param_scope d.template.params)

template_typed : (all : List Declared) (d : Declared)
    → ((e : Declared) → IsMember e all → IsDistinct e.template.params) → is_formed_template d.template ≡ true
    → body_fault all d ≡ None → TemplateTyped all d
template_typed all d distinct formed passes =
    let parts = and_parts (is_name d.template.name && list_all is_formed_param d.template.params)
    (are_formed_nodes d.template.body) formed in
    let end : (s : Scope)
    × (after_nodes (around_template all d) d.template.body (param_scope d.template.params) ≡ Ok s) =
    goes_on (after_nodes (around_template all d) d.template.body (param_scope d.template.params)) passes in
    nodes_typed (around_template all d) distinct d.template.body (param_scope d.template.params) end.0
    (sees_at_first d.template.params) parts.1 end.1

pub templates_typed : (trees : List Tree) → AreTypedTrees trees → (d : Declared) → IsMember d (declared trees)
    → TemplateTyped (declared trees) d
templates_typed trees typed d member =
    let parts = neither_fault (declarations_fault (declared trees) []) (bodies_fault (declared trees) (declared trees))
    typed.demands in
    template_typed (declared trees) d (params_distinct (declared trees) [] parts.0)
    (formed_from 0 trees typed.formed d member) (body_passes (declared trees) (declared trees) d member parts.1)
