use Rattle.soy_top.proofs.Plays.PlayedDesk.{desk_shows}
use Rattle.soy_top.proofs.laws.law_desk_shows.Goals as goal

pub returns : goal.returns
returns c = desk_shows
