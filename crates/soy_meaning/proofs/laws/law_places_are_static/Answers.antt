use Rattle.soy_meaning.proofs.Walks.PagePlaces.{static_places}
use Rattle.soy_meaning.proofs.laws.law_places_are_static.Goals as goal

pub returns : goal.returns
returns c = static_places
