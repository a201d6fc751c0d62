-- What each status says of the answer and of what the two sinks took.
--
-- `answer` is the answer that a run goes by, where it is known; `names` are the names of the files that the words want.
-- Example: Refused says that the answer is a refusal and that standard error took its line.
use Rattle.std.specs.Prelude.{◌≡◌, ℕ, List, Option, Some, ◌⊎◌, Contains, IfSome}
use Rattle.soy_io.specs.Rose.{Rose}
use Rattle.soy_top.specs.declared.status.Status.{Status}
use Rattle.soy_top.specs.declared.status.Status.TheVariants as status
use Rattle.soy_top.specs.Answer.{Answer, Usage, Read, Refused, Done, TooDeep, out_text, err_text}
use Rattle.soy_top.specs.Runs.Change.{Change, Took, TookPrefix, Failed}
use Rattle.soy_top.specs.Line.{ended, read_line, usage_text}
use Rattle.soy_top.specs.Runs.Output.{OnEmpty}
use Rattle.soy_top.specs.Words.{Word}

-- Usage: the words are no command, and the usage text was said
abbrev pub UsageSaid : Option Answer → Change → Type 0
UsageSaid answer err = (answer ≡ Some Usage) × Took err usage_text

-- Read: it was said of a file of the words that it can't be read, and the library failed or lacks the file
abbrev pub ReadSaid : Option Answer → List Word → ℕ × ℕ → Change → Type 0
ReadSaid answer names file_faults err =
    (file : Word) × Contains names file × (Rose file_faults.0 file_faults.1 ⊎ (answer ≡ Some (Read file)))
    × Took err (ended (read_line file))

-- Refused: the line of the refusal that is the answer was said
abbrev pub RefusalSaid : Option Answer → Change → Type 0
RefusalSaid answer err = IfSome answer (λ a. (line : List ℕ) × (a ≡ Refused line) × Took err (ended line))

-- Done: the text that is the answer was written, and standard error is unchanged
abbrev pub TextWritten : Option Answer → Change → Type 0 → Type 0
TextWritten answer out SameErr = IfSome answer (λ a. (text : List ℕ) × (a ≡ Done text) × Took out text) × SameErr

-- TooDeep: the text that is the answer was written, and its line was said
abbrev pub TooDeepSaid : Option Answer → Change → Change → Type 0
TooDeepSaid answer out err =
    IfSome answer (λ a. (text : List ℕ) × (line : List ℕ) × (a ≡ TooDeep text line)
    × Took out text × Took err (ended line))

-- the output took the whole text of an answer that ends too deep
abbrev pub TookTooDeep : Option Answer → Change → Type 0
TookTooDeep answer out =
    (text : List ℕ) × Took out text × IfSome answer (λ a. (line : List ℕ) × (a ≡ TooDeep text line))

-- Write: the output failed, and standard error is unchanged; or standard error failed, and the output is unchanged or
-- took the whole text of an answer that ends too deep
abbrev pub SinkFailed : Option Answer → Change → Change → Type 0 → Type 0 → Type 0
SinkFailed answer out err SameOut SameErr =
    (Failed out × SameErr) ⊎ (Failed err × (SameOut ⊎ TookTooDeep answer out))

-- whatever the status, the output took a prefix of the text for it
abbrev pub OutPart : Option Answer → Change → Type 0
OutPart answer out = IfSome answer (λ a. TookPrefix out (out_text a))

-- and standard error a prefix of the text for it, or, where the library failed, of the line that a file of the words
-- can't be read
abbrev pub ErrPart : Option Answer → List Word → ℕ × ℕ → Change → Type 0
ErrPart answer names file_faults err =
    IfSome answer (λ a. TookPrefix err (err_text a)
    ⊎ ((file : Word) × Contains names file × Rose file_faults.0 file_faults.1
    × TookPrefix err (ended (read_line file))))

-- a fact where nothing is for the output, as where the text of an answer that ends too deep is empty
abbrev pub OnNoOutput : Answer → Type 0 → Type 0
OnNoOutput Usage P = P
OnNoOutput (Read file) P = P
OnNoOutput (Refused line) P = P
OnNoOutput (Done text) P = Unit {0}
OnNoOutput (TooDeep text line) P = OnEmpty text P

-- a fact where the status says that nothing was answered on the output
abbrev pub OnNothingWritten : Status → Type 0 → Type 0
OnNothingWritten status.Usage P = P
OnNothingWritten status.Read P = P
OnNothingWritten status.Refused P = P
OnNothingWritten status.Done P = Unit {0}
OnNothingWritten status.Memory P = Unit {0}
OnNothingWritten status.Write P = Unit {0}
OnNothingWritten status.TooDeep P = Unit {0}
