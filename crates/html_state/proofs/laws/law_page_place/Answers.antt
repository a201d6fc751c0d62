use Rattle.html_state.proofs.PagePlaces.{page_place}
use Rattle.html_state.proofs.laws.law_page_place.Goals as goal

pub returns : goal.returns
returns c = page_place
