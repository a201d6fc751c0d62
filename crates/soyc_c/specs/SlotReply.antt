-- The reply to a call that fills a slot or pulls a page: the status, the text for the room of faults, and the numbers
-- and the parts of the fault.
--
-- Example: where a slot holds nothing it is the status 8 without a text and without a fault.
use Rattle.std.specs.Prelude.{◌≡◌, ℕ, ◌<◌, List, [], ◌∷◌, ◌++◌, Result, Ok, Err}
use Rattle.std.specs.String.{string_bytes}
use Rattle.soy_base.specs.Code.{code_number}
use Rattle.soy_base.specs.declared.code.Code.{Code}
use Rattle.soyc_c.specs.FaultNumbers.{FaultNumbers, no_fault}
use Rattle.soyc_c.specs.FaultParts.{FaultParts, PartContent, line_parts, no_parts, parts_in}
use Rattle.soyc_c.specs.declared.parts.Stop.{Stop}
use Rattle.soyc_c.specs.declared.parts.Stop.TheVariants as stop
use Rattle.soyc_c.specs.declared.unfilled.Said.{Said}
use Rattle.soyc_c.specs.declared.unfilled.Unfilled.{Unfilled}
use Rattle.soyc_c.specs.declared.unfilled.Unfilled.TheVariants as unfilled

pub record SlotReply : Type 0 where
  pub status : ℕ
  pub err : List ℕ
  pub fault : FaultNumbers
  -- of the text
  pub parts : FaultParts

-- a status alone
abbrev pub bare : ℕ → SlotReply
bare status = record { status = status; err = []; fault = no_fault; parts = no_parts }

-- a fault: its line with a code and perhaps a JSON pointer, and details
abbrev pub fault_reply : ℕ → List ℕ → Code → PartContent → List ℕ → FaultNumbers → SlotReply
fault_reply status line code pointer detail fault = record {
  status = status;
  err = line ++ (10 ∷ detail);
  fault = fault;
  parts = line_parts line code pointer detail;
}

abbrev pub memory_reply : SlotReply
memory_reply = bare 1

abbrev pub said_numbers : Said → FaultNumbers
said_numbers said = record {
  code = code_number said.code;
  subject = said.subject;
  file = said.file;
  line = said.line;
  column = said.column;
}

abbrev pub said_parts : Said → FaultParts
said_parts said = parts_in (string_bytes said.text) said.parts

abbrev pub unfilled_reply : Unfilled → SlotReply
unfilled_reply unfilled.Memory = memory_reply
unfilled_reply (unfilled.Status status) = bare status
unfilled_reply (unfilled.Fault said) = record {
  status = said.status;
  err = string_bytes said.text;
  fault = said_numbers said;
  parts = said_parts said;
}

-- what is answered where the parts of a call can't be read
abbrev pub stop_answer : Stop → Unfilled
stop_answer stop.Memory = unfilled.Memory
stop_answer stop.Malformed = unfilled.Status 7

-- this is the reply, which isn't that all is well, unless memory ran out
abbrev pub Replies : SlotReply → Unfilled → Type 0
Replies reply unfilled.Memory = Unit {0}
Replies reply (unfilled.Status status) = (bare status ≡ reply) × (0 < status)
Replies reply (unfilled.Fault said) = (unfilled_reply (unfilled.Fault said) ≡ reply) × (0 < said.status)

-- the same of what is either made, and then the reply is that all is well, or not
abbrev pub Answers : {A : Type 0} → SlotReply → Result A Unfilled → Type 0
Answers reply (Ok made) = reply ≡ bare 0
Answers reply (Err answer) = Replies reply answer
