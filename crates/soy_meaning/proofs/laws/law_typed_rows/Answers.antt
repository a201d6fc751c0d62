use Rattle.std.proofs.Common.{refl}
use Rattle.soy_meaning.proofs.laws.law_typed_rows.Goals as goal

pub returns-clause-block : goal.returns-clause-block
returns-clause-block c = record { demands = refl; formed = refl }

pub returns-clause-attributes : goal.returns-clause-attributes
returns-clause-attributes c = record { demands = refl; formed = refl }

pub returns-clause-calls : goal.returns-clause-calls
returns-clause-calls c = record { demands = refl; formed = refl }

pub returns-clause-source : goal.returns-clause-source
returns-clause-source c = record { demands = refl; formed = refl }

pub returns-clause-plural : goal.returns-clause-plural
returns-clause-plural c = record { demands = refl; formed = refl }

pub returns-clause-number : goal.returns-clause-number
returns-clause-number c = λ n body within. record { fits = (refl, within, tt); values = tt; short = (tt, tt) }

pub returns-clause-text : goal.returns-clause-text
returns-clause-text c = λ name text body. record { fits = (refl, tt, tt); values = tt; short = (tt, tt) }
