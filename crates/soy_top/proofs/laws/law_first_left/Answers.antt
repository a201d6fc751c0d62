use Rattle.soy_top.proofs.Plays.PlayChecks.{compiled_left}
use Rattle.soy_tree.specs.ViewValues.{view_value}
use Rattle.soy_top.proofs.laws.law_first_left.Goals as goal

pub returns : goal.returns
returns c =
    λ contents bundle compiled are number d found input fits.
    compiled_left contents bundle compiled are number d found (view_value input) fits
