-- The reply to a call: the status, and the texts for the output and for standard error.
--
-- It is the answer to the words where the files are those of the call, with the program's exit status for it: 0 for a
-- text, 2 for words that are no command, 3 for a file that isn't among the files, 5 for a refusal, and 6 for a text up
-- to a call that nests too deep. A call whose parts aren't words and files has the status 7, and no text.
-- Example: `render t.m d.json - t.soy` without a file d.json has the status 3 and for standard error
-- `d.json: read fault` with a line feed.
use Rattle.std.specs.Prelude.{ℕ, List, [], Option, None, Some, option_and_then, ◌==◌, if◌then◌else◌}
use Rattle.soy_top.specs.Answer.{Answer, Usage, Read, Refused, Done, TooDeep, answer, err_text, out_text}
use Rattle.soy_top.specs.Rendered.{Rendered, rendered_words}
use Rattle.soy_top.specs.declared.status.Status.{Status}
use Rattle.soy_top.specs.declared.status.Status.TheVariants as status
use Rattle.soyc_c.specs.Call.{Call, call_at}
use Rattle.soyc_c.specs.declared.parts.FileParts.{FileParts}
use Rattle.soyc_c.specs.declared.parts.Part.{Part}

pub record Reply : Type 0 where
  pub status : ℕ
  pub out : List ℕ
  pub err : List ℕ

-- the number of a status
abbrev pub status_number : Status → ℕ
status_number status.Done = 0
status_number status.Memory = 1
status_number status.Usage = 2
status_number status.Read = 3
status_number status.Write = 4
status_number status.Refused = 5
status_number status.TooDeep = 6

-- the status of an answer
abbrev pub answer_status : Answer → Status
answer_status Usage = status.Usage
answer_status (Read file) = status.Read
answer_status (Refused line) = status.Refused
answer_status (Done text) = status.Done
answer_status (TooDeep text line) = status.TooDeep

abbrev pub answer_reply : Answer → Reply
answer_reply a = record { status = status_number (answer_status a); out = out_text a; err = err_text a }

abbrev pub malformed_reply : Reply
malformed_reply = record { status = 7; out = []; err = [] }

abbrev pub call_reply : Option Call → Reply
call_reply None = malformed_reply
call_reply (Some call) = answer_reply (answer call.files call.words)

-- **the reply to a call**
abbrev pub reply_to : List ℕ → List Part → List FileParts → Reply
reply_to bytes words files = call_reply (call_at bytes words files)

-- the status where memory ran out
abbrev pub memory_status : ℕ
memory_status = status_number status.Memory

-- the text that is given at a status: none where memory ran out
abbrev pub given : ℕ → List ℕ → List ℕ
given status text = if status == memory_status then [] else text

-- the page that the words of a call give, if they give one
abbrev pub call_page : Call → Option Rendered
call_page call = rendered_words call.files call.words

abbrev pub page_at : List ℕ → List Part → List FileParts → Option Rendered
page_at bytes words files = option_and_then call_page (call_at bytes words files)
