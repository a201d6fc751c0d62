use Rattle.std.proofs.Common.{◌≡◌, ◌∙◌, List, None, Some, ap, option_map, refl, reverse, subst, sym}
use Rattle.soy_tree.specs.ViewTypes.{view_type}
use Rattle.soy_tree.specs.declared.soy_type.Field as code_field
use Rattle.soy_expr.specs.ViewScope.{view_vars}
use Rattle.soy_expr.specs.LastNamed.{IsLastNamed}
use Rattle.soy_expr.specs.TypeNamed.{type_named}
use Rattle.soy_expr.proofs.Keyed.{behind_row, fields_of, found_as, row_found}
use Rattle.soy_expr.proofs.Undoing.{type_named-view, view_through}
use Rattle.soy_expr.proofs.visible_variables.VisibleVariables.find.Goals as goal

pub returns-in-Some-clause-named : goal.returns-in-Some-clause-named
returns-in-Some-clause-named c =
    let es = c.self.inside.types.entries in
    let vars = c.self.inside.others.items in
    let name = c.args.name.now in
    let at = c.in-Some.at in
    let h : IsLastNamed name vars at =
    subst (λ (l : List code_field.Field). IsLastNamed name l at) c.as_slice.ensures.value c.in-Some.ensures.place in
    ap (λ (v : code_field.Field). Some v.of) (c.index.ensures ∙ h.there c.index.result.now)
    ∙ sym (row_found (fields_of es) vars at name h) ∙ ap (type_named name) c.self.view_is

pub returns-in-Some-clause-typed : goal.returns-in-Some-clause-typed
returns-in-Some-clause-typed c =
    let es = c.self.inside.types.entries in
    let vars = c.self.inside.others.items in
    let name = c.args.name.now in
    let at = c.in-Some.at in
    let h : IsLastNamed name vars at =
    subst (λ (l : List code_field.Field). IsLastNamed name l at) c.as_slice.ensures.value c.in-Some.ensures.place in
    ap (λ (v : code_field.Field). Some (view_type v.of)) (c.index.ensures ∙ h.there c.index.result.now)
    ∙ ap (option_map view_type) (sym (row_found (fields_of es) vars at name h) ∙ ap (type_named name) c.self.view_is)
    ∙ sym (type_named-view c.args.self.now name)

pub returns-in-None-clause-named : goal.returns-in-None-clause-named
returns-in-None-clause-named c =
    let es = c.self.inside.types.entries in
    let vars = c.self.inside.others.items in
    let name = c.args.name.now in
    let none : type_named name (reverse vars) ≡ None =
    subst (λ (l : List code_field.Field). type_named name (reverse l) ≡ None) c.as_slice.ensures.value
    (c.in-None.ensures.none refl) in
    c.get.ensures.value
    ∙ found_as es c.text.result.now name c.text.utf8 c.self.invariant c.text.ensures.characters
    ∙ sym (behind_row (fields_of es) vars name none) ∙ ap (type_named name) c.self.view_is

pub returns-in-None-clause-typed : goal.returns-in-None-clause-typed
returns-in-None-clause-typed c =
    let es = c.self.inside.types.entries in
    let vars = c.self.inside.others.items in
    let name = c.args.name.now in
    let none : type_named name (reverse vars) ≡ None =
    subst (λ (l : List code_field.Field). type_named name (reverse l) ≡ None) c.as_slice.ensures.value
    (c.in-None.ensures.none refl) in
    view_through c.get.result
    ∙ ap (option_map view_type)
    (c.get.ensures.value
    ∙ found_as es c.text.result.now name c.text.utf8 c.self.invariant c.text.ensures.characters
    ∙ sym (behind_row (fields_of es) vars name none) ∙ ap (type_named name) c.self.view_is)
    ∙ sym (type_named-view c.args.self.now name)
