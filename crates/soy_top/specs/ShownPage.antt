-- What is said of a page that is to be shown: it is accepted with the direction of its context, its text is read as
-- one, and what is gathered of it.
--
-- Example: of a page of 1,048,577 bytes it is gathered that it is too long, however it ends.
use Rattle.std.specs.Prelude.{◌≡◌, ◌≤◌, ◌<◌, ℕ, List, Result, Ok, Err, length}
use Rattle.std.specs.Str.{IsUtf8, chars}
use Rattle.bidi_preview.specs.OneText.{IsOneText}
use Rattle.render_core.specs.Pulls.{stops_at}
use Rattle.soy_base.specs.declared.direction.Dir.{Dir}
use Rattle.soy_pieces.specs.Outcome.{Outcome, WholeRun, end_of_outcome}
use Rattle.soy_top.specs.declared.ending.Ending.{Ending}
use Rattle.soy_top.specs.declared.preview.ShownPage as code
use Rattle.soy_top.specs.declared.seen.Gathered.{Gathered}
use Rattle.soy_top.specs.declared.seen.Gathered.TheVariants as gathered
use Rattle.soy_top.specs.Accepts.{Refuses}
use Rattle.soy_top.specs.Answer.{Answer, PageAnswer, page_answer, run_text}
use Rattle.soy_top.specs.Runs.ViewOutput.{page_run}
use Rattle.soy_top.specs.SeenText.{largest_shown}

-- bytes that are read as one static text of a page without a fault, where they are UTF-8
abbrev pub IsPageText : List ℕ → Type 0
IsPageText text = IsUtf8 text → IsOneText (chars text)

-- a page is accepted, by whose context, text and end all that may be answered of it is answered; or the ending is the
-- refusal that all of it is
abbrev pub AcceptsShown : ((Dir → PageAnswer) → Answer) → Result code.ShownPage Ending → Type 0
AcceptsShown answer (Ok shown) =
    (page : Dir → PageAnswer) → answer page ≡ page_answer (page shown.context) (page_run shown.page)
AcceptsShown answer (Err ending) = (page : Dir → PageAnswer) → Refuses (answer page) ending

-- this was gathered of what a page gives
abbrev pub IsGathered : Outcome → Gathered → Type 0
IsGathered o gathered.TooLong = largest_shown < length (run_text o)
IsGathered o (gathered.Whole bytes) =
    (length (run_text o) ≤ largest_shown) × (bytes.items ≡ run_text o) × (end_of_outcome o ≡ WholeRun)
IsGathered o (gathered.AtCall call) = (length (run_text o) ≤ largest_shown) × (end_of_outcome o ≡ stops_at call)
