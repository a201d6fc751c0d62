-- What the loop over the characters keeps.
use Rattle.std.proofs.Common.{◌≡◌, ℕ, ◌<◌, List, [], length}
use Rattle.std.specs.Str.{IsCharBoundary}
use Rattle.value_cursor.specs.BytesLeft.{bytes_after}
use Rattle.value_cursor.specs.Gives.{Gives}
use Rattle.value_cursor.specs.declared.plan.Plan.{Plan}
use Rattle.value_cursor.specs.declared.progress.Progress.{Progress}

pub record RunSoFar (plan : Plan) (source : List ℕ) (start now : Progress) (room room_now : List ℕ) (filled : ℕ) :
    Type 0 where
  pub gives : Gives (bytes_after plan source start) (bytes_after plan source now) room room_now filled
  pub boundary : IsCharBoundary source now.offset
  pub none_pending : filled < length room → now.pending ≡ []
