use Rattle.soy_meaning.proofs.Typing.TypedRuns.{template_placed, typed_run_fits, typed_run_is_read}
use Rattle.soy_meaning.proofs.laws.law_typed_runs.Goals as goal

pub returns-clause-classes : goal.returns-clause-classes
returns-clause-classes c = λ context trees d env are member typed fits data_.
    typed_run_fits context trees d env are member typed fits data_

pub returns-clause-read : goal.returns-clause-read
returns-clause-read c = λ context trees d env are member typed fits data_ accepted.
    typed_run_is_read context trees d env are member typed fits data_ accepted

pub returns-clause-places : goal.returns-clause-places
returns-clause-places c = λ context trees d env are member v walks r fits.
    template_placed context trees d are member v walks env r fits
