-- The parts of the text of a fault: its line, the word of the refusal in it, the JSON pointer in it, and what stands
-- after the line.
--
-- Each of them that there is has its bytes, so it ends within the text, and not before it begins. One that there isn't
-- begins and ends at 0.
-- Example: those of `data:/x: 28 DataType` are the line, `DataType`, `/x` and an empty one after the line. Of
-- `t.zz: 29 Entry` there is no pointer.
use Rattle.std.specs.Prelude.{ℕ, List, [], nat_lt, Option, None, Some, if◌then◌else◌}
use Rattle.soy_base.specs.Code.{code_word}
use Rattle.soy_base.specs.declared.code.Code.{Code}
use Rattle.soyc_c.specs.Parts.{part_bytes}
use Rattle.soyc_c.specs.declared.parts.Part.{Part}
use Rattle.soyc_c.specs.declared.report.Report.{Report}
use Rattle.soyc_c.specs.declared.text_parts.TextParts.{TextParts}

-- what two offsets are of a text
pub data PartContent : Type 0 where
  -- no part: both are 0
  Absent : PartContent
  -- a part of these bytes
  Has : List ℕ → PartContent
  -- one that ends before it begins, or past the text
  NotWithin : PartContent

pub record FaultParts : Type 0 where
  pub message : PartContent
  pub word : PartContent
  pub pointer : PartContent
  pub detail : PartContent

abbrev pub no_parts : FaultParts
no_parts = record { message = Absent; word = Absent; pointer = Absent; detail = Absent }

-- of a line with a code and perhaps a JSON pointer, and of details
abbrev pub line_parts : List ℕ → Code → PartContent → List ℕ → FaultParts
line_parts line code pointer detail =
    record { message = Has line; word = Has (code_word code); pointer = pointer; detail = Has detail }

-- a part of a text that is within it or not
abbrev pub part_content : Option (List ℕ) → PartContent
part_content (Some bytes) = Has bytes
part_content None = NotWithin

abbrev pub part_in : List ℕ → Part → PartContent
part_in text part =
    if nat_lt 0 part.end then part_content (part_bytes text part)
    else if nat_lt 0 part.begin then NotWithin
    else Absent

abbrev pub parts_in : List ℕ → TextParts → FaultParts
parts_in text parts = record {
  message = part_in text parts.message;
  word = part_in text parts.word;
  pointer = part_in text parts.pointer;
  detail = part_in text parts.detail;
}

-- those of a report
abbrev pub report_parts : List ℕ → Report → FaultParts
report_parts text r = record {
  message = part_in text r.message;
  word = part_in text r.word;
  pointer = part_in text r.pointer;
  detail = part_in text r.detail;
}
