-- What `parse` answers, by what the machine of files reads of the tokens.
use Rattle.std.specs.Prelude.{◌≡◌, ℕ, List, Result, Ok, Err}
use Rattle.soy_base.specs.declared.fault.Fault.{Fault}
use Rattle.soy_base.specs.declared.memory.Refusal.{Refusal}
use Rattle.soy_base.specs.declared.memory.Refusal.TheVariants as refusal
use Rattle.soy_lexer.specs.declared.token.Token.{Token}
use Rattle.soy_tree.specs.declared.tree.Tree.{Tree}
use Rattle.soy_parser.specs.FileReading.{reading_file}
use Rattle.soy_parser.specs.FileSteps.{file_start}

abbrev pub ReadsFile : ℕ → List Token → Result Tree (Refusal Fault) → Type 0
ReadsFile file tokens (Ok tree) = reading_file file 0 tokens file_start ≡ Ok tree
ReadsFile file tokens (Err (refusal.Because fault)) = reading_file file 0 tokens file_start ≡ Err fault
ReadsFile file tokens (Err refusal.OutOfMemory) = Unit {0}
