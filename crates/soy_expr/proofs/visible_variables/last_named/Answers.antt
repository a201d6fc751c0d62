use Rattle.std.proofs.Common.{◌≡◌, ◌∙◌, ◌+◌, ◌-◌, ◌<◌, ◌≤◌, ℕ, List, None, ap, arith, drop, length, reverse, subst, sym}
use Rattle.std.specs.Prelude.{bytes_eq}
use Rattle.std.specs.Str.{chars}
use Rattle.soy_tree.specs.declared.soy_type.Field as code_field
use Rattle.soy_expr.specs.TypeNamed.{type_named}
use Rattle.soy_expr.proofs.Keyed.{search_ends, search_goes_on}
use Rattle.soy_expr.proofs.visible_variables.last_named.Goals as goal

pub returns-then-is-clause-place : goal.returns-then-is-clause-place
returns-then-is-clause-place c =
    let vars = c.args.vars.now in
    let name = c.args.name.now in
    let left = c.loop-left.left in
    let some : 0 < left = c.loop-left-test.true in
    let within : left ≤ length vars = c.loop-left.invariant.within in
    let x = c.index-vars-left.result in
    let next : left ≡ (left - 1) + 1 = omega (arith, some) in
    search_ends vars (left - 1) x name (omega (arith, some, within)) c.index-vars-left.is
    (ap (bytes_eq x.name) (sym c.text.ensures.characters)
    ∙ ap (λ (v : code_field.Field). bytes_eq v.name (chars c.text.result.now)) c.index-vars-left.is
    ∙ sym c.is.ensures ∙ c.if-is.true)
    (subst (λ (n : ℕ). type_named name (reverse (drop n vars)) ≡ None) next c.loop-left.invariant.none)

pub loop-left-preserved : goal.loop-left-preserved
loop-left-preserved c =
    let vars = c.args.vars.now in
    let name = c.args.name.now in
    let left = c.loop-left.left in
    let some : 0 < left = c.loop-left-test.true in
    let within : left ≤ length vars = c.loop-left.invariant.within in
    let x = c.index-vars-left.result in
    let next : left ≡ (left - 1) + 1 = omega (arith, some) in
    record {
      within = omega (arith, within, some);
      none = search_goes_on vars (left - 1) x name (omega (arith, some, within)) c.index-vars-left.is
          (ap (bytes_eq x.name) (sym c.text.ensures.characters)
          ∙ ap (λ (v : code_field.Field). bytes_eq v.name (chars c.text.result.now)) c.index-vars-left.is
          ∙ sym c.is.ensures ∙ c.if-is.false)
          (subst (λ (n : ℕ). type_named name (reverse (drop n vars)) ≡ None) next c.loop-left.invariant.none);
    }
