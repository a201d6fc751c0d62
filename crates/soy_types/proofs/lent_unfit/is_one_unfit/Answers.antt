use Rattle.json.specs.Value.{value_view}
use Rattle.soy_types.specs.LentData.{data_of}
use Rattle.soy_types.proofs.KnownUnfit.{unfit_where}
use Rattle.soy_types.proofs.lent_unfit.is_one_unfit.Goals as goal

pub returns-then-is_member_unfit : goal.returns-then-is_member_unfit
returns-then-is_member_unfit c =
    unfit_where c.args.fields.now (data_of (value_view c.args.json.now)) c.loop-number.number
    c.index-fields-number.result c.is_member_unfit.result c.loop-number-test.true c.index-fields-number.is
    c.if-is_member_unfit.true c.is_member_unfit.ensures
