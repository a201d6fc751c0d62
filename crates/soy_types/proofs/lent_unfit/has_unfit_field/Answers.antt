use Rattle.json.specs.Value.{value_view}
use Rattle.soy_types.specs.LentData.{data_of}
use Rattle.soy_types.proofs.KnownUnfit.{record_has_unfit}
use Rattle.soy_types.proofs.lent_unfit.has_unfit_field.Goals as goal

pub returns-in-Fields : goal.returns-in-Fields
returns-in-Fields c =
    record_has_unfit c.args.of.now c.in-Fields.fields c.items.result.now (data_of (value_view c.args.json.now))
    c.is_one_unfit.result c.in-Fields.is c.items.ensures c.is_one_unfit.ensures
