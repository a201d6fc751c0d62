-- The course of a run, from which all that is promised of its end follows.
--
-- A run says something due on standard error; or it writes its whole answer to the output; or it writes the text of an
-- answer that ends too deep to the output and then says its line on standard error; or memory runs out before anything.
-- A sink that a course doesn't need is unchanged, and a put that fails or is refused memory ends it.
-- Example: where the library lacks d.json, the run says `d.json: read fault`, and the output is unchanged.
use Rattle.std.specs.Prelude.{◌≡◌, ℕ, List, Option, Some, ◌⊎◌, Contains, IfSome}
use Rattle.soy_io.specs.Rose.{Rose}
use Rattle.soy_top.specs.declared.status.Status.{Status}
use Rattle.soy_top.specs.declared.status.Status.TheVariants as status
use Rattle.soy_top.specs.Answer.{Answer, Usage, Read, Refused}
use Rattle.soy_top.specs.Runs.Change.{Change, Took, TookPrefix, Failed}
use Rattle.soy_top.specs.Line.{ended, read_line, usage_text}
use Rattle.soy_top.specs.Runs.Output.{End, Whole, AtCall, Output, OnNoText, output_answer}
use Rattle.soy_top.specs.Words.{Word}

-- a put of a text stopped: the sink failed or memory ran out, and the sink took a prefix
abbrev pub Stops : List ℕ → Change → Status → Type 0
Stops text sink result =
    ((result ≡ status.Write) × Failed sink × TookPrefix sink text) ⊎ ((result ≡ status.Memory) × TookPrefix sink text)

-- a text was put: the sink took all of it and the status is the one that was wanted, or the put stopped
abbrev pub Says : Status → List ℕ → Change → Status → Type 0
Says wanted text sink result = ((result ≡ wanted) × Took sink text) ⊎ Stops text sink result

-- an output was written, and its line was said where it ends too deep
abbrev pub WritesTo : List ℕ → End → Change → Change → Type 0 → Status → Type 0
WritesTo text Whole out err SameErr result = Says status.Done text out result × SameErr
WritesTo text (AtCall line) out err SameErr result =
    (Stops text out result × SameErr) ⊎ (Took out text × Says status.TooDeep (ended line) err result)

abbrev pub Writes : Output → Change → Change → Type 0 → Status → Type 0
Writes output out err SameErr result = WritesTo output.text output.end out err SameErr result

-- what a run goes by and what it did: the answer, the names of the files that it wants, the counts of the library's
-- faults before and after, the changes of the two sinks, and the status
pub record Run : Type 0 where
  pub answer : Option Answer
  pub names : List Word
  pub file_faults : ℕ × ℕ
  pub out : Change
  pub err : Change
  pub result : Status

abbrev pub run_of : Option Answer → List Word → ℕ × ℕ → Change → Change → Status → Run
run_of answer names file_faults out err result = record {
  answer = answer;
  names = names;
  file_faults = file_faults;
  out = out;
  err = err;
  result = result;
}

-- the usage text is due
abbrev pub UsageIsDue : Run → Status → List ℕ → Type 0
UsageIsDue run wanted text = (wanted ≡ status.Usage) × (run.answer ≡ Some Usage) × (text ≡ usage_text)

-- it is due that a file can't be read: the library failed, or the answer is that
abbrev pub ReadIsDue : Run → Status → List ℕ → Type 0
ReadIsDue run wanted text =
    (file : Word) × (wanted ≡ status.Read) × Contains run.names file
    × (Rose run.file_faults.0 run.file_faults.1 ⊎ (run.answer ≡ Some (Read file))) × (text ≡ ended (read_line file))

-- the line of a refusal is due
abbrev pub RefusalIsDue : Run → Status → List ℕ → Type 0
RefusalIsDue run wanted text =
    (line : List ℕ) × (wanted ≡ status.Refused) × IfSome run.answer (λ a. a ≡ Refused line) × (text ≡ ended line)

abbrev pub TextIsDue : Run → Status → List ℕ → Type 0
TextIsDue run wanted text = UsageIsDue run wanted text ⊎ (ReadIsDue run wanted text ⊎ RefusalIsDue run wanted text)

-- something due was said, and the output is unchanged
pub record Said (run : Run) (SameOut : Type 0) : Type 0 where
  pub wanted : Status
  pub text : List ℕ
  pub due : TextIsDue run wanted text
  pub says : Says wanted text run.err run.result
  pub same_out : SameOut

-- what was accepted was written, and its line was said where it ends too deep
pub record Wrote (run : Run) (SameOut SameErr : Type 0) : Type 0 where
  pub output : Output
  pub is_answer : IfSome run.answer (λ a. a ≡ output_answer output)
  pub writes : Writes output run.out run.err SameErr run.result
  pub no_text : OnNoText output.text output.end SameOut

-- memory ran out before anything was put
pub record Stopped (run : Run) (SameOut SameErr : Type 0) : Type 0 where
  pub memory : run.result ≡ status.Memory
  pub same_out : SameOut
  pub same_err : SameErr

abbrev pub Course : Run → Type 0 → Type 0 → Type 0
Course run SameOut SameErr = Said run SameOut ⊎ (Wrote run SameOut SameErr ⊎ Stopped run SameOut SameErr)
