-- What is said of inputs that were fetched: they are an output, or they are refused.
--
-- Example: data without a value for a parameter are refused.
use Rattle.std.specs.Prelude.{◌≡◌, ℕ, List, Option, Some, None, Result, Ok, Err, slice_get}
use Rattle.std.specs.String.{string_bytes}
use Rattle.soy_front.specs.Compiled.{AreCompiled}
use Rattle.soy_front.specs.FilesAnswer.{ReadFiles, files_answer}
use Rattle.soy_front.specs.FrontAnswer.{Front, IsFront, front_answer}
use Rattle.soy_front.specs.ReadsFiles.{view_files}
use Rattle.soy_front.specs.declared.accepting.AcceptedFiles.{AcceptedFiles}
use Rattle.soy_front.specs.declared.compiling.Compiled.{Compiled}
use Rattle.soy_front.specs.declared.files.ReadFiles as code
use Rattle.soy_top.specs.declared.ending.Ending.{Ending}
use Rattle.soy_top.specs.declared.ending.Ending.TheVariants as ending
use Rattle.soy_top.specs.declared.output.Output.{Output}
use Rattle.soy_top.specs.declared.page.Page.{Page}
use Rattle.soy_top.specs.Answer.{Answer, PageAnswer, Refused, accepted_then, page_answer, read_then}
use Rattle.soy_top.specs.Line.{ended}
use Rattle.soy_top.specs.Runs.Output.{output_answer}
use Rattle.soy_top.specs.Runs.ViewOutput.{page_run, view_output}
use Rattle.soy_top.specs.Words.{Word}
use Rattle.soy_rules.specs.Templates.{Declared}

-- the ending is the refusal that the answer is, or out of memory
abbrev pub Refuses : Answer → Ending → Type 0
Refuses answer ending.Usage = ⊥
Refuses answer (ending.Read text) = ⊥
Refuses answer (ending.Refused text) = (line : List ℕ) × (answer ≡ Refused line) × (string_bytes text ≡ ended line)
Refuses answer ending.Memory = Unit {0}

abbrev pub Accepts : Answer → Result Output Ending → Type 0
Accepts answer (Ok output) = answer ≡ output_answer (view_output output)
Accepts answer (Err ending) = Refuses answer ending

-- files and a bundle are accepted, or the ending is the line of their first fault, whatever would be answered else
abbrev pub AcceptsFront : List Word → List (List ℕ) → Word → Option (List ℕ) → Result AcceptedFiles Ending → Type 0
AcceptsFront names files bundle content (Ok accepted) = IsFront (front_answer files content) accepted
AcceptsFront names files bundle content (Err ending) =
    (answer : Front → Answer) → Refuses (accepted_then names files bundle content answer) ending

-- files and a bundle are compiled, or the ending is the line of their first fault, whatever would be answered else
abbrev pub CompilesFront : List Word → List (List ℕ) → Word → Option (List ℕ) → Result Compiled Ending → Type 0
CompilesFront names files bundle content (Ok compiled) = AreCompiled files content compiled
CompilesFront names files bundle content (Err ending) =
    (answer : Front → Answer) → Refuses (accepted_then names files bundle content answer) ending

-- files are read, or the ending is the line of their first fault, whatever would be answered else
abbrev pub AcceptsFiles : List Word → List (List ℕ) → Result code.ReadFiles Ending → Type 0
AcceptsFiles names files (Ok read) = files_answer files ≡ Ok (view_files read)
AcceptsFiles names files (Err ending) = (answer : ReadFiles → Answer) → Refuses (read_then names files answer) ending

-- a page is accepted, by whose text and end all that may be answered of it is answered; or the ending is the refusal
-- that all of it is
abbrev pub AcceptsPage : (PageAnswer → Answer) → Result Page Ending → Type 0
AcceptsPage answer (Ok accepted) = (page : PageAnswer) → answer page ≡ page_answer page (page_run accepted)
AcceptsPage answer (Err ending) = (page : PageAnswer) → Refuses (answer page) ending

-- the template of a number, if there is one
abbrev pub IsNumbered : List Declared → Option ℕ → Option Declared → Type 0
IsNumbered ds None None = Unit {0}
IsNumbered ds (Some number) (Some d) = slice_get ds number ≡ Some d
IsNumbered ds _ _ = ⊥
