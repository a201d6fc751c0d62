-- The reply to a call that pulls a page, and what it gives.
--
-- A pull gives the next bytes of the page; or the page ends at a call that nests too deep, with the line of that call.
-- Example: of a page `ab` a pull into a room of one byte gives `a`, with the status 0.
use Rattle.std.specs.Prelude.{◌≡◌, ◌⊎◌, ℕ, List, [], Result, Ok, Err}
use Rattle.soy_base.specs.declared.code.Code.TheVariants as code
use Rattle.soy_base.specs.declared.fault.Fault.{Fault}
use Rattle.soy_base.specs.declared.fault.TooDeep.{TooDeep}
use Rattle.soy_page.specs.Pulled.{GaveBytes, GaveNone, KeepsPage, StopsHere}
use Rattle.soy_page.specs.PageState.{PageState}
use Rattle.soy_page.specs.declared.templates.Templates.{Templates}
use Rattle.soy_top.specs.Numbered.{numbered_line}
use Rattle.soy_top.specs.Words.{Word}
use Rattle.soyc_c.specs.FaultNumbers.{numbers_in_file}
use Rattle.soyc_c.specs.FaultParts.{Absent}
use Rattle.soyc_c.specs.SlotReply.{SlotReply, Replies, fault_reply}
use Rattle.soyc_c.specs.TemplateFiles.{file_contents, file_names}
use Rattle.soyc_c.specs.declared.unfilled.Unfilled.{Unfilled}
use Rattle.soyc_c.specs.declared.unfilled.Unfilled.TheVariants as unfilled

abbrev pub deep_fault : TooDeep → Fault
deep_fault call = record { code = code.TooDeep; file = call.file; at = call.at }

-- the reply at a call that nests too deep, by the names and the contents of the files
abbrev pub deep_reply : List Word → List (List ℕ) → TooDeep → SlotReply
deep_reply names contents call =
    fault_reply 6 (numbered_line names contents (deep_fault call)) code.TooDeep Absent []
    (numbers_in_file contents (deep_fault call))

abbrev pub deep_call_reply : Templates → TooDeep → SlotReply
deep_call_reply templates call = deep_reply (file_names templates) (file_contents templates) call

-- the page ends at a call, which is the reply unless memory ran out, or memory ran out
abbrev pub EndsOrMemory : PageState → Unfilled → Type 0
EndsOrMemory page answer =
    (answer ≡ unfilled.Memory)
    ⊎ ((call : TooDeep) × StopsHere page call × Replies (deep_call_reply page.templates call) answer)

abbrev pub GivesInto : PageState → List ℕ → List ℕ → Result ℕ Unfilled → PageState → Type 0
GivesInto old room room_after (Ok n) new = GaveBytes old new room room_after n
GivesInto old room room_after (Err answer) new = GaveNone old new room room_after × EndsOrMemory old answer

-- **a pull of a page**
pub record PullsInto (old : PageState) (room room_after : List ℕ) (answer : Result ℕ Unfilled) (new : PageState)
    : Type 0 where
  pub keeps : KeepsPage old new
  pub gives : GivesInto old room room_after answer new
