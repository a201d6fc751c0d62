use Rattle.serde_json.specs.View.{view}
use Rattle.soy_types.proofs.KnownUnfit.{unfit_where}
use Rattle.soy_types.proofs.json_unfit.is_one_unfit.Goals as goal

pub returns-then-is_member_unfit : goal.returns-then-is_member_unfit
returns-then-is_member_unfit c =
    unfit_where c.args.fields.now (view c.args.json.now) c.loop-field.field-index c.field-item.result
    c.is_member_unfit.result c.loop-field-test.true c.field-item.is c.if-is_member_unfit.true
    c.is_member_unfit.ensures
