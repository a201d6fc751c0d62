use Rattle.std.proofs.Common.{sym, subst, ap, ◌∙◌}
use Rattle.soy_front.specs.ViewSources.{view_contents}
use Rattle.soy_top.specs.Line.{ended}
use Rattle.soy_top.specs.Pointer.{pointer_line}
use Rattle.soy_top.proofs.HtmlTexts.{html_text}
use Rattle.soy_top.proofs.Pages.{fault_answered, page_answered}
use Rattle.soy_rules.specs.Typed.{AreTyped}
use Rattle.soy_tree.specs.ViewTrees.{view_params}
use Rattle.soy_tree.specs.ViewValues.{view_value}
use Rattle.soy_types.specs.ReadData.{data_at}
use Rattle.soy_top.proofs.render.accept_data.Goals as goal

pub returns-in-Ok-clause-accepts : goal.returns-in-Ok-clause-accepts
returns-in-Ok-clause-accepts c = λ content are d found.
    let read = ap (λ ps. data_at (view_params ps) c.args.json.now) (sym c.params.ensures) ∙ c.in-Ok.ensures.value in
    let typed : AreTyped c.args.compiled.typed = subst (λ ts. AreTyped ts) c.drop.view_is c.drop.invariant in
    page_answered (view_contents c.args.sources.now) content c.args.compiled are c.args.json_name.now c.args.json.now
    c.args.number d found typed (view_value c.in-Ok.input) read c.in-Ok.ensures.short

pub returns-in-Ok-clause-text : goal.returns-in-Ok-clause-text
returns-in-Ok-clause-text c = λ content are d found html.
    let read = ap (λ ps. data_at (view_params ps) c.args.json.now) (sym c.params.ensures) ∙ c.in-Ok.ensures.value in
    let typed : AreTyped c.args.compiled.typed = subst (λ ts. AreTyped ts) c.drop.view_is c.drop.invariant in
    html_text (view_contents c.args.sources.now) content c.args.compiled are c.args.json_name.now c.args.json.now
    c.args.number d found typed (view_value c.in-Ok.input) read c.in-Ok.ensures.short html

pub returns-in-Err-Because-clause-accepts : goal.returns-in-Err-Because-clause-accepts
returns-in-Err-Because-clause-accepts c = λ content are d found page.
    let fault = c.in-Err-Because.fault in
    let read = ap (λ ps. data_at (view_params ps) c.args.json.now) (sym c.params.ensures)
    ∙ (rw c.in-Err-Because.field-0-is at c.in-Err-Because.ensures.value) in (
      pointer_line c.args.json_name.now fault.path fault.code,
      fault_answered (view_contents c.args.sources.now) content c.args.compiled are c.args.json_name.now c.args.json.now
          c.args.number d found (fault.code, fault.path) read page,
      c.in_ok-line-in-Err-Because.ensures
          ∙ ap (λ path. ended (pointer_line c.args.json_name.now path fault.code)) c.items.ensures,
    )
