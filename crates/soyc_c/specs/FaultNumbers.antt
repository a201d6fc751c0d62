-- The numbers of a fault: its code, of what it is, and in which file at which line and column.
--
-- Where it is: 1 is a template file, 2 the translations, 3 the name of a template, 4 the data; only in a file there are
-- a line and a column. Where there is no fault all numbers are 0.
-- Example: of `a.soy:3:7: 4 Syntax`, where a.soy is the first file, they are 4, 1, 0, 3 and 7.
use Rattle.std.specs.Prelude.{ℕ, List, ◌+◌, length, min}
use Rattle.soy_base.specs.Code.{code_number}
use Rattle.soy_base.specs.Position.{breaks_within, characters_before}
use Rattle.soy_base.specs.declared.code.Code.{Code}
use Rattle.soy_base.specs.declared.fault.Fault.{Fault}
use Rattle.soy_front.specs.declared.fault.FrontFault.{FrontFault}
use Rattle.soy_front.specs.declared.fault.FrontFault.TheVariants as front
use Rattle.soy_top.specs.Numbered.{numbered}
use Rattle.soyc_c.specs.declared.report.Report.{Report}

pub record FaultNumbers : Type 0 where
  pub code : ℕ
  pub subject : ℕ
  pub file : ℕ
  pub line : ℕ
  pub column : ℕ

abbrev pub no_fault : FaultNumbers
no_fault = record { code = 0; subject = 0; file = 0; line = 0; column = 0 }

-- a fault that isn't in a file
abbrev pub numbers_elsewhere : ℕ → Code → FaultNumbers
numbers_elsewhere subject code = record { code = code_number code; subject = subject; file = 0; line = 0; column = 0 }

-- a fault at an offset of a file, at its end where it would lie past that
abbrev pub numbers_in_file : List (List ℕ) → Fault → FaultNumbers
numbers_in_file contents fault =
    let bytes : List ℕ = numbered fault.file contents in
    let at : ℕ = min fault.at (length bytes) in
    record {
      code = code_number fault.code;
      subject = 1;
      file = fault.file;
      line = breaks_within bytes at + 1;
      column = characters_before bytes at + 1;
    }

abbrev pub front_numbers : List (List ℕ) → FrontFault → FaultNumbers
front_numbers contents (front.Soy fault) = numbers_in_file contents fault
front_numbers contents (front.Bundle fault) = numbers_elsewhere 2 fault.code

-- those of a report
abbrev pub report_numbers : Report → FaultNumbers
report_numbers r =
    record { code = r.code; subject = r.subject; file = r.file; line = r.line; column = r.column }
