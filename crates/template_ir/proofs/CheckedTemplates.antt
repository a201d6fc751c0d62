-- What the checker demands of each template of typed trees.
use Rattle.std.proofs.Common.{◌≡◌, ℕ, ◌+◌, Bool, true, false, List, [], ◌∷◌, inl, inr, Option, Some, None, Ok, Err}
use Rattle.std.proofs.Common.{if◌then◌else◌, refl, sym, subst}
use Rattle.std.specs.Prelude.{option_map, ◌&&◌}
use Rattle.std.specs.List.{list_all}
use Rattle.std.specs.Option.{option_or}
use Rattle.std.proofs.lemmas.Bool.{and_parts}
use Rattle.soy_base.specs.Names.{is_dotted_name, is_name}
use Rattle.soy_rules.specs.Bodies.{Checked, after_nodes}
use Rattle.soy_rules.specs.Declarations.{declaration_fault, params_fault, twice, type_fault}
use Rattle.soy_base.specs.Among.{is_among}
use Rattle.soy_rules.specs.Demands.{bodies_fault, body_fault, declarations_fault, fault_of, in_file}
use Rattle.soy_rules.specs.Faults.{TypeFault}
use Rattle.soy_tree.specs.Formed.{are_formed_nodes, is_formed_param, is_formed_template, is_formed_tree}
use Rattle.soy_rules.specs.Templates.{Declared, declared, declared_from, declared_in, full_name, param_scope}
use Rattle.soy_tree.specs.Trees.{Param, Template, Tree}
use Rattle.soy_rules.specs.TypeOf.{Scope}
use Rattle.soy_tree.specs.Types.{Name}
use Rattle.soy_meaning.specs.Walks.States.{IsMember}
use Rattle.soy_meaning.specs.Runs.TypedData.{AreTypedTrees}
use Rattle.soy_meaning.proofs.Typing.CheckedTrees.{around_template}
use Rattle.soy_meaning.proofs.Members.{mem_split}
use Rattle.template_ir.proofs.Demands.{NodesDemand, nodes_demand}

some_fault : {A P : Type 0} (x : A) → ◌≡◌ {A = Option A} (Some x) None → P
some_fault x e = let no : ⊥ = cc in absurd no

both_none : {A : Type 0} (one other : Option A) → option_or one other ≡ None → (one ≡ None) × (other ≡ None)
both_none None other h = (refl, h)
both_none (Some x) other h = some_fault x h

unmapped : {A B : Type 0} (f : A → B) (found : Option A) → option_map f found ≡ None → found ≡ None
unmapped f None h = refl
unmapped f (Some x) h = some_fault (f x) h

-- no name is among those before it
abbrev pub AreApart : List Param → List Name → Type 0
AreApart [] before = Unit {0}
AreApart (p ∷ ps) before = (is_among before p.name ≡ false) × AreApart ps (p.name ∷ before)

once : (test : Bool) (fault : TypeFault) → ◌≡◌ {A = Option TypeFault} (if test then Some fault else None) None
    → test ≡ false
once false fault h = refl
once true fault h = some_fault fault h

apart : (ps : List Param) (before : List Name) → params_fault ps before ≡ None → AreApart ps before
apart [] before h = tt
apart (p ∷ ps) before h =
    let one = both_none (twice p.span.start p.name before)
    (option_or (type_fault p.of p.span.start true) (params_fault ps (p.name ∷ before))) h in
    let two = both_none (type_fault p.of p.span.start true) (params_fault ps (p.name ∷ before)) one.1 in
    (once (is_among before p.name) _ one.0, apart ps (p.name ∷ before) two.1)

template_apart : (ds : List Declared) (before : List Name) → declarations_fault ds before ≡ None → (d : Declared)
    → IsMember d ds → AreApart d.template.params []
template_apart [] before h d member = absurd member
template_apart (first ∷ ds) before h d (inl same) =
    let parts = both_none (option_map (in_file first.file) (declaration_fault first before))
    (declarations_fault ds (full_name first ∷ before)) h in
    let own = both_none (twice first.template.span.start (full_name first) before)
    (params_fault first.template.params [])
    (unmapped (in_file first.file) (declaration_fault first before) parts.0) in
    subst (λ z. AreApart z.template.params []) (sym same) (apart first.template.params [] own.1)
template_apart (first ∷ ds) before h d (inr member) =
    template_apart ds (full_name first ∷ before)
    (both_none (option_map (in_file first.file) (declaration_fault first before))
    (declarations_fault ds (full_name first ∷ before)) h).1 d member

template_passes : (all ds : List Declared) (d : Declared) → IsMember d ds → bodies_fault all ds ≡ None
    → body_fault all d ≡ None
template_passes all [] d member h = absurd member
template_passes all (first ∷ ds) d (inl same) h =
    subst (λ z. body_fault all z ≡ None) (sym same)
    (unmapped (in_file first.file) (body_fault all first)
    (both_none (option_map (in_file first.file) (body_fault all first)) (bodies_fault all ds) h).0)
template_passes all (first ∷ ds) d (inr member) h =
    template_passes all ds d member
    (both_none (option_map (in_file first.file) (body_fault all first)) (bodies_fault all ds) h).1

formed_in_file : (file : ℕ) (namespace : Name) (ts : List Template) → list_all is_formed_template ts ≡ true
    → (d : Declared) → IsMember d (declared_in file namespace ts) → is_formed_template d.template ≡ true
formed_in_file file namespace [] h d member = absurd member
formed_in_file file namespace (t ∷ ts) h d (inl same) =
    subst (λ z. is_formed_template z.template ≡ true) (sym same)
    (and_parts (is_formed_template t) (list_all is_formed_template ts) h).0
formed_in_file file namespace (t ∷ ts) h d (inr member) =
    formed_in_file file namespace ts (and_parts (is_formed_template t) (list_all is_formed_template ts) h).1 d member

template_formed : (file : ℕ) (trees : List Tree) → list_all is_formed_tree trees ≡ true → (d : Declared)
    → IsMember d (declared_from file trees) → is_formed_template d.template ≡ true
template_formed file [] h d member = absurd member
template_formed file (tree ∷ trees) h d member =
    let parts = and_parts (is_formed_tree tree) (list_all is_formed_tree trees) h in
    let own = and_parts (is_dotted_name tree.namespace) (list_all is_formed_template tree.templates) parts.0 in
    elim (mem_split d (declared_in file tree.namespace tree.templates) (declared_from (file + 1) trees) member) [
      | inl there ↦ formed_in_file file tree.namespace tree.templates own.1 d there
      | inr there ↦ template_formed (file + 1) trees parts.1 d there
    ]

passes_on : (r : Checked) → fault_of r ≡ None → (s : Scope) × (r ≡ Ok s)
passes_on (Ok s) h = (s, refl)
passes_on (Err fault) h = some_fault fault h

-- of each template
abbrev pub TemplateDemands : List Declared → Declared → Type 0
TemplateDemands all d = NodesDemand (around_template all d) d.template.body (param_scope d.template.params)

module _ (trees : List Tree) (typed : AreTypedTrees trees) (d : Declared) (member : IsMember d (declared trees)) where
  passes : (declarations_fault (declared trees) [] ≡ None) × (bodies_fault (declared trees) (declared trees) ≡ None)
  passes = both_none (declarations_fault (declared trees) []) (bodies_fault (declared trees) (declared trees))
      typed.demands

  pub template_demands : TemplateDemands (declared trees) d
  template_demands =
      let formed = and_parts (is_name d.template.name && list_all is_formed_param d.template.params)
      (are_formed_nodes d.template.body) (template_formed 0 trees typed.formed d member) in
      let end : (s : Scope)
      × (after_nodes (around_template (declared trees) d) d.template.body (param_scope d.template.params) ≡ Ok s) =
      passes_on (after_nodes (around_template (declared trees) d) d.template.body (param_scope d.template.params))
      (template_passes (declared trees) (declared trees) d member passes.1) in
      nodes_demand (around_template (declared trees) d) d.template.body (param_scope d.template.params) end.0 formed.1
      end.1

  pub params_apart : AreApart d.template.params []
  params_apart = template_apart (declared trees) [] passes.0 d member
