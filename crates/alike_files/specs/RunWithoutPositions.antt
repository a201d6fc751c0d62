-- What a run gives, without positions: the same pieces, costs, work and choices, and where it stops at a call, at the
-- start of that call's file.
-- Example: the run of a template that calls itself for ever stops at its `{call`; without positions it stops at 0.
use Rattle.soy_pieces.specs.Outcome.{GivesPiece, Outcome, RunEnd, RunEnds, StopsAt, WholeRun}
use Rattle.soy_pieces.specs.Site.{Site}

abbrev pub site_without_position : Site → Site
site_without_position at = record at { at = 0 }

abbrev pub end_without_position : RunEnd → RunEnd
end_without_position WholeRun = WholeRun
end_without_position (StopsAt call) = StopsAt (site_without_position call)

abbrev pub outcome_without_positions : Outcome → Outcome
outcome_without_positions (RunEnds spent end) = RunEnds spent (end_without_position end)
outcome_without_positions (GivesPiece spent piece o) = GivesPiece spent piece (outcome_without_positions o)
