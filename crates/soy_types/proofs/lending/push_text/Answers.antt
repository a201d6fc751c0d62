use Rattle.soy_types.proofs.lending.push_text.Goals as goal

pub returns : goal.returns
returns c = c.push_read.ensures _ c.lent_text.ensures.value c.lent_text.ensures.short
