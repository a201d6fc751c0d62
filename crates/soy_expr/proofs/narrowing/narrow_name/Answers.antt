use Rattle.std.proofs.Common.{◌≡◌, ◌∙◌, List, Some, ap, option_map, sym}
use Rattle.soy_expr.specs.ViewScope.{view_vars}
use Rattle.soy_expr.specs.PutBack.{put_back}
use Rattle.soy_expr.specs.TypeNamed.{type_named}
use Rattle.soy_expr.specs.declared.narrowing.Outside as code_outside
use Rattle.soy_expr.proofs.Undoing.{kept_back, narrowed_found, narrowed_missing}
use Rattle.soy_expr.proofs.narrowing.narrow_name.Goals as goal

pub returns-in_default-clause-narrowed : goal.returns-in_default-clause-narrowed
returns-in_default-clause-narrowed c =
    sym (narrowed_missing c.args.vars.now c.args.name.now
    (sym c.find.ensures.named ∙ ap (option_map (λ t. t.now)) c.in_default.is))

pub returns-in_ok-push-clause-narrowed : goal.returns-in_ok-push-clause-narrowed
returns-in_ok-push-clause-narrowed c =
    let name = c.args.name.now in
    let vars = c.args.vars.now in
    let old = c.in-Some.of.now in
    let there : type_named name vars ≡ Some old =
    sym c.find.ensures.named ∙ ap (option_map (λ t. t.now)) c.in-Some.is in
    ap view_vars c.set.ensures.vars
    ∙ sym (narrowed_found vars name c.in_ok-narrowed.narrowed old there c.in_ok-narrowed.ensures)

pub returns-in_ok-push-clause-put_back : goal.returns-in_ok-push-clause-put_back
returns-in_ok-push-clause-put_back c =
    let outside = c.args.outside.now.items in
    let o : code_outside.Outside = record { name = c.args.name; of = c.in-Some-set.of } in
    ap (λ (l : List code_outside.Outside). put_back l c.set.new.self) c.in_ok-push.ensures.items
    ∙ kept_back outside o c.in_ok-narrowed.narrowed c.args.vars.now c.set.new.self c.set.ensures.vars
    (sym c.set.ensures.before ∙ c.in-Some-set.is)
