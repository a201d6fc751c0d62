use Rattle.std.proofs.Common.{◌≡◌, sym, ap, ◌∙◌}
use Rattle.soy_types.proofs.Views.{view_null}
use Rattle.std.specs.Prelude.{Ok, Err}
use Rattle.serde_json.specs.View.{view}
use Rattle.soy_tree.specs.ViewTypes.{view_type}
use Rattle.soy_types.specs.Read.{value_at}
use Rattle.soy_types.proofs.Joining.{joined_ok, joined_null, joined_err}
use Rattle.soy_types.proofs.data.read_optional.Goals as goal

pub returns-in-Ok-clause-value : goal.returns-in-Ok-clause-value
returns-in-Ok-clause-value c = joined_ok (view_type c.args.of.now) (view c.args.json.now) _ c.in-Ok.ensures.value

pub returns-in-Err-Because-clause-value : goal.returns-in-Err-Because-clause-value
returns-in-Err-Because-clause-value c =
    let e : value_at (view_type c.args.of.now) (view c.args.json.now) ≡ Err c.in-Err-Because.field-0-0 =
    rw c.in-Err-Because.field-0-is at c.in-Err-Because.ensures.value in
    joined_null (view_type c.args.of.now) (view c.args.json.now) _ e c.if-is_null.ensures ∙ ap Ok (sym view_null)

pub returns-in-Err-Because-2-clause-value : goal.returns-in-Err-Because-2-clause-value
returns-in-Err-Because-2-clause-value c =
    let e : value_at (view_type c.args.of.now) (view c.args.json.now) ≡ Err c.in-Err-Because.field-0-0 =
    rw c.in-Err-Because.field-0-is at c.in-Err-Because.ensures.value in
    rw c.unfit.ensures (joined_err (view_type c.args.of.now) (view c.args.json.now) _ e c.if-is_null.ensures)
