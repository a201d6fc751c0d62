use Rattle.std.proofs.Common.{◌≡◌, ◌∙◌, ◌++◌, List, None, Some, ap, refl, reverse, subst, sym}
use Rattle.std.proofs.Common.{slice_set}
use Rattle.std.specs.Map.{set_value}
use Rattle.std.specs.Option.{option_copied_mut}
use Rattle.soy_tree.specs.declared.soy_type.SoyType as code
use Rattle.soy_tree.specs.declared.soy_type.Field as code_field
use Rattle.soy_expr.specs.LastNamed.{IsLastNamed}
use Rattle.soy_expr.specs.TypeNamed.{type_named, with_type}
use Rattle.soy_expr.specs.Visible.{variable}
use Rattle.soy_expr.specs.contracts.visible_variables.VisibleVariables.{the_view}
use Rattle.soy_expr.proofs.Keyed.{behind_row, changed_as, fields_of, found_as, is_key, row_found, row_set}
use Rattle.soy_expr.proofs.Keyed.{set_behind_row}
use Rattle.soy_expr.proofs.Undoing.{with_type-missing}
use Rattle.soy_expr.proofs.visible_variables.VisibleVariables.set.Goals as goal
use Rattle.soy_expr.proofs.visible_variables.VisibleVariables.set.Goals.{in-Some-get_mut, in-None-get_mut+in-List-1}
use Rattle.soy_expr.proofs.visible_variables.VisibleVariables.set.Goals.{in-None-get_mut+in-Map-1}
use Rattle.soy_expr.proofs.visible_variables.VisibleVariables.set.Goals.{in-None-get_mut+in-Fields-1}
use Rattle.soy_expr.proofs.visible_variables.VisibleVariables.set.Goals.{in-None-get_mut+in-Union-1}
use Rattle.soy_expr.proofs.visible_variables.VisibleVariables.set.Goals.{in-None-get_mut+in-Null-1}

pub returns-in-Some-clause-vars : goal.returns-in-Some-clause-vars
returns-in-Some-clause-vars c =
    let es = c.self.inside.types.entries in
    let vars = c.self.inside.others.items in
    let name = c.args.name.now in
    let at = c.in-Some.at in
    let h : IsLastNamed name vars at =
    subst (λ (l : List code_field.Field). IsLastNamed name l at) c.as_slice.ensures.value c.in-Some.ensures.place in
    let there : c.index_mut.result.now ≡ h.var = c.index_mut.ensures.value ∙ h.there c.index_mut.result.now in
    ap (λ (v : code_field.Field). reverse (fields_of es ++ slice_set vars at (variable v.name c.replace.new.dest)))
    there
    ∙ ap (λ (t : code.SoyType). reverse (fields_of es ++ slice_set vars at (variable h.var.name t)))
    c.replace.ensures.after
    ∙ row_set (fields_of es) vars at name c.args.of h ∙ ap (with_type name c.args.of) c.self.view_is

pub returns-in-Some-clause-before : goal.returns-in-Some-clause-before
returns-in-Some-clause-before c =
    let es = c.self.inside.types.entries in
    let vars = c.self.inside.others.items in
    let name = c.args.name.now in
    let at = c.in-Some.at in
    let h : IsLastNamed name vars at =
    subst (λ (l : List code_field.Field). IsLastNamed name l at) c.as_slice.ensures.value c.in-Some.ensures.place in
    let there : c.index_mut.result.now ≡ h.var = c.index_mut.ensures.value ∙ h.there c.index_mut.result.now in
    ap Some (c.replace.ensures.value ∙ ap (λ (v : code_field.Field). v.of) there)
    ∙ sym (row_found (fields_of es) vars at name h) ∙ ap (type_named name) c.self.view_is

pub returns-after-get_mut-clause-before : goal.returns-after-get_mut-clause-before
returns-after-get_mut-clause-before c =
    let es = c.self.inside.types.entries in
    let vars = c.self.inside.others.items in
    let name = c.args.name.now in
    let old = c.args.self.now in
    let none : type_named name (reverse vars) ≡ None =
    subst (λ (l : List code_field.Field). type_named name (reverse l) ≡ None) c.as_slice.ensures.value
    (c.in-None.ensures.none refl) in
    let found : option_copied_mut c.get_mut.result ≡ type_named name old =
    c.get_mut.ensures.value
    ∙ found_as es c.text.result.now name c.text.utf8 c.self.invariant c.text.ensures.characters
    ∙ sym (behind_row (fields_of es) vars name none) ∙ ap (type_named name) c.self.view_is in
    let absent : c.get_mut.result ≡ None → None ≡ type_named name old = λ is. ap option_copied_mut (sym is) ∙ found in
    elim c.match-get_mut.branch [
      | in-Some-get_mut w ↦ w.result-is ∙ ap Some w.replace-in-Some-get_mut.ensures.value
          ∙ ap option_copied_mut (sym w.in-Some-get_mut.is) ∙ found
      | in-None-get_mut+in-List-1 w ↦ w.result-is ∙ absent w.in-None-get_mut.is
      | in-None-get_mut+in-Map-1 w ↦ w.result-is ∙ absent w.in-None-get_mut.is
      | in-None-get_mut+in-Fields-1 w ↦ w.result-is ∙ absent w.in-None-get_mut.is
      | in-None-get_mut+in-Union-1 w ↦ w.result-is ∙ absent w.in-None-get_mut.is
      | in-None-get_mut+in-Null-1 w ↦ w.result-is ∙ absent w.in-None-get_mut.is
    ]

pub returns-after-get_mut-clause-vars : goal.returns-after-get_mut-clause-vars
returns-after-get_mut-clause-vars c =
    let es = c.self.inside.types.entries in
    let vars = c.self.inside.others.items in
    let bytes = c.text.result.now in
    let name = c.args.name.now in
    let old = c.args.self.now in
    let of = c.args.of in
    let none : type_named name (reverse vars) ≡ None =
    subst (λ (l : List code_field.Field). type_named name (reverse l) ≡ None) c.as_slice.ensures.value
    (c.in-None.ensures.none refl) in
    let found : option_copied_mut c.get_mut.result ≡ type_named name old =
    c.get_mut.ensures.value
    ∙ found_as es bytes name c.text.utf8 c.self.invariant c.text.ensures.characters
    ∙ sym (behind_row (fields_of es) vars name none) ∙ ap (type_named name) c.self.view_is in
    let changed : reverse (fields_of (set_value (is_key bytes) es of) ++ vars) ≡ with_type name of old =
    set_behind_row (fields_of es) (fields_of (set_value (is_key bytes) es of)) vars name of none
    (changed_as es bytes of name c.text.utf8 c.self.invariant c.text.ensures.characters)
    ∙ ap (with_type name of) c.self.view_is in
    let unchanged : c.get_mut.result ≡ None → reverse (fields_of c.get_mut.follows.lender-at-none.entries ++ vars)
    ≡ with_type name of old =
    λ is. ap (λ m. reverse (fields_of m.entries ++ vars)) c.get_mut.follows.holds-at-none ∙ c.self.view_is
    ∙ sym (with_type-missing old name of (sym found ∙ ap option_copied_mut is)) in
    elim c.match-get_mut.branch [
      | in-Some-get_mut w ↦ ap the_view w.self-inside-is
          ∙ ap (λ xs. reverse (fields_of xs ++ vars)) (c.get_mut.follows.holds _).0
          ∙ ap (λ (t : code.SoyType). reverse (fields_of (set_value (is_key bytes) es t) ++ vars))
          w.replace-in-Some-get_mut.ensures.after
          ∙ changed
      | in-None-get_mut+in-List-1 w ↦ ap the_view w.self-inside-is ∙ unchanged w.in-None-get_mut.is
      | in-None-get_mut+in-Map-1 w ↦ ap the_view w.self-inside-is ∙ unchanged w.in-None-get_mut.is
      | in-None-get_mut+in-Fields-1 w ↦ ap the_view w.self-inside-is ∙ unchanged w.in-None-get_mut.is
      | in-None-get_mut+in-Union-1 w ↦ ap the_view w.self-inside-is ∙ unchanged w.in-None-get_mut.is
      | in-None-get_mut+in-Null-1 w ↦ ap the_view w.self-inside-is ∙ unchanged w.in-None-get_mut.is
    ]
