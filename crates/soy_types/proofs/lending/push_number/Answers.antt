use Rattle.soy_types.proofs.lending.push_number.Goals as goal

pub returns : goal.returns
returns c = c.push_read.ensures _ c.lent_number.ensures.value c.lent_number.ensures.short
