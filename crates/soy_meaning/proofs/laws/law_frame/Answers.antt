use Rattle.soy_meaning.proofs.Paths.Pages.{frame_law}
use Rattle.soy_meaning.proofs.laws.law_frame.Goals as goal

pub returns : goal.returns
returns c = λ around page walk context kind f. frame_law context around page walk kind f
