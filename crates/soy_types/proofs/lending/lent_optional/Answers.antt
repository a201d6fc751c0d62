use Rattle.std.proofs.Common.{◌≡◌, false, sym, ap, ◌∙◌}
use Rattle.std.specs.Prelude.{Ok, is_ok}
use Rattle.json.specs.Value.{value_view}
use Rattle.soy_tree.specs.ViewTypes.{view_type}
use Rattle.soy_types.specs.LentData.{data_of}
use Rattle.soy_types.specs.Read.{value_at}
use Rattle.soy_types.proofs.FitsFacts.{lent_null}
use Rattle.soy_types.proofs.Joining.{joined_ok}
use Rattle.soy_types.proofs.Views.{view_null}
use Rattle.soy_types.proofs.lending.lent_optional.Goals as goal

pub returns-in-Ok-clause-value : goal.returns-in-Ok-clause-value
returns-in-Ok-clause-value c =
    joined_ok (view_type c.args.of.now) (data_of (value_view c.args.json.now)) _ c.in-Ok.ensures.value

pub returns-in-Err-Unfit-clause-value : goal.returns-in-Err-Unfit-clause-value
returns-in-Err-Unfit-clause-value c =
    let unfit : is_ok (value_at (view_type c.args.of.now) (data_of (value_view c.args.json.now))) ≡ false =
    rw c.in-Err-Unfit.field-0-is at c.in-Err-Unfit.ensures.value in
    lent_null (view_type c.args.of.now) (value_view c.args.json.now) unfit c.if-is_null.ensures ∙ ap Ok (sym view_null)
