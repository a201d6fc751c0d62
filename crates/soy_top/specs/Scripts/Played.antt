-- What a `play` writes for the steps of its script: one line for each.
--
-- It goes by the plain machine of a desk (DeskRun of soy_desk), of which it keeps what the lines show: the renderings
-- that are open, each with its name and what it has still to give; the number of openings; and under which bundle the
-- program is published. An opening is named by the number of openings before it; where 64 are open it is `full`. A pull
-- gives the next bytes of the piece that has begun, or else of the next piece, at most as many as are asked for, and
-- none at the end; at a call that nests too deep it is `toodeep`, and the rendering stays open. A name that isn't open
-- is `unknown`. That a desk shows these lines, and no others, is a law (DeskLines).
-- Example: of a page `ab`, as one piece, `pull 0 1` shows `0 61`, then `0 62`, and then `0 ` each time.
use Rattle.std.specs.Prelude.{ℕ, zero, suc, ◌+◌, ◌==◌, nat_lt, List, [], ◌∷◌, ◌++◌, drop, length, take, codes}
use Rattle.std.specs.Prelude.{Option, None, Some, if◌then◌else◌}
use Rattle.std.specs.Fmt.{decimal}
use Rattle.hex.specs.Hex.{encode_lower}
use Rattle.soy_base.specs.Piece.{Piece}
use Rattle.render_core.specs.Rest.{piece_bytes, solid}
use Rattle.soy_desk.specs.Alone.{Left, left_of}
use Rattle.soy_pieces.specs.Outcome.{Outcome, RunEnd, StopsAt, WholeRun}
use Rattle.soy_top.specs.Line.{ended}
use Rattle.soy_top.specs.Scripts.Script.{ScriptBundle, FirstBundle, SecondBundle}

-- what a rendering has to give at first, by what its template gives
abbrev pub first_left : Outcome → Left
first_left o = left_of (record { begun = []; coming = solid o })

pub data PlayStep : Type 0 where
  -- what the rendering has to give at first under the first bundle, and under the second
  Opens : Left → Left → PlayStep
  -- the name, and the most bytes
  Pulls : ℕ → ℕ → PlayStep
  -- the name
  Closes : ℕ → PlayStep
  Publishes : ScriptBundle → PlayStep

-- ---- the machine

-- a rendering that is open, with what it has still to give
pub record OpenPage : Type 0 where
  pub name : ℕ
  pub left : Left

pub record PlayState : Type 0 where
  pub pages : List OpenPage
  pub opened : ℕ
  pub published : ScriptBundle

abbrev pub play_start : PlayState
play_start = record { pages = []; opened = 0; published = FirstBundle }

-- the open rendering of a name
abbrev pub page_named : ℕ → List OpenPage → Option OpenPage
page_named name [] = None
page_named name (p ∷ ps) = if p.name == name then Some p else page_named name ps

-- with this one instead of that of its name
abbrev pub with_page : OpenPage → List OpenPage → List OpenPage
with_page new [] = []
with_page new (p ∷ ps) = if p.name == new.name then new ∷ ps else p ∷ with_page new ps

-- without that of a name
abbrev pub without_page : ℕ → List OpenPage → List OpenPage
without_page name [] = []
without_page name (p ∷ ps) = if p.name == name then ps else p ∷ without_page name ps

-- ---- a pull

-- what a pull gives, and what is then left
abbrev pub Given : Type 0
Given = List ℕ × Left

abbrev pub given_of : ℕ → List ℕ → List Piece → RunEnd → Given
given_of count bytes pieces end =
    (take count bytes, record { begun = drop count bytes; pieces = pieces; end = end })

-- where no piece has begun; none at a call that nests too deep
abbrev pub next_given : ℕ → List Piece → RunEnd → Option Given
next_given count (piece ∷ pieces) end = Some (given_of count (piece_bytes piece) pieces end)
next_given count [] WholeRun = Some (given_of count [] [] WholeRun)
next_given count [] (StopsAt call) = None

abbrev pub given_from : ℕ → List ℕ → List Piece → RunEnd → Option Given
given_from count [] pieces end = next_given count pieces end
given_from count (b ∷ begun) pieces end = Some (given_of count (b ∷ begun) pieces end)

-- what a pull of so many bytes gives; one of none gives nothing, and leaves all
abbrev pub pull_left : ℕ → Left → Option Given
pull_left zero left = Some ([], left)
pull_left (suc n) left = given_from (suc n) left.begun left.pieces left.end

-- ---- lines

abbrev pub named_line : List ℕ → ℕ → List ℕ
named_line word name = word ++ (codes " " ++ decimal name)

abbrev pub full_line : List ℕ
full_line = codes "full"

abbrev pub given_line : ℕ → List ℕ → List ℕ
given_line name bytes = decimal name ++ (codes " " ++ encode_lower bytes)

abbrev pub bundle_number : ScriptBundle → ℕ
bundle_number FirstBundle = 1
bundle_number SecondBundle = 2

-- ---- steps

-- the line that a step shows, and what it leaves
abbrev pub Shown : Type 0
Shown = List ℕ × PlayState

abbrev pub opened_left : ScriptBundle → Left → Left → Left
opened_left FirstBundle first second = first
opened_left SecondBundle first second = second

abbrev pub show_open : PlayState → Left → Shown
show_open state left =
    if nat_lt (length state.pages) 64
    then (
      named_line (codes "opened") state.opened,
      record state {
        pages = state.pages ++ record { name = state.opened; left = left } ∷ [];
        opened = state.opened + 1;
      },
    )
    else (full_line, state)

abbrev pub show_given : PlayState → ℕ → OpenPage → Option Given → Shown
show_given state name page None = (named_line (codes "toodeep") name, state)
show_given state name page (Some given) =
    (given_line name given.0, record state { pages = with_page (record page { left = given.1 }) state.pages })

abbrev pub show_pull : PlayState → ℕ → ℕ → Option OpenPage → Shown
show_pull state name count None = (named_line (codes "unknown") name, state)
show_pull state name count (Some page) = show_given state name page (pull_left count page.left)

abbrev pub show_close : PlayState → ℕ → Option OpenPage → Shown
show_close state name None = (named_line (codes "unknown") name, state)
show_close state name (Some page) =
    (named_line (codes "closed") name, record state { pages = without_page name state.pages })

abbrev pub show_step : PlayState → PlayStep → Shown
show_step state (Opens first second) = show_open state (opened_left state.published first second)
show_step state (Pulls name count) = show_pull state name count (page_named name state.pages)
show_step state (Closes name) = show_close state name (page_named name state.pages)
show_step state (Publishes bundle) =
    (named_line (codes "published") (bundle_number bundle), record state { published = bundle })

abbrev pub played_from : PlayState → List PlayStep → List ℕ
played_from state [] = []
played_from state (step ∷ steps) =
    ended (show_step state step).0 ++ played_from (show_step state step).1 steps

-- **what is written for steps**, each line with its line feed
abbrev pub played_text : List PlayStep → List ℕ
played_text steps = played_from play_start steps
