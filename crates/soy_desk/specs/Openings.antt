-- The openings among steps: with which program, template and input a rendering was opened, and how many there were.
--
-- Example: where a program is published, an opening named 0 follows, and then another program is published, the opening
-- of 0 has the first.
use Rattle.std.specs.Prelude.{ℕ, ◌+◌, List, [], ◌∷◌, Option, Some, None, Ok, Err, ◌==◌, if◌then◌else◌, encode_utf8_all}
use Rattle.soy_tree.specs.ViewValues.{view_value}
use Rattle.soy_tree.specs.declared.value.Value.{Value}
use Rattle.soy_pieces.specs.Meaning.{joined_pieces}
use Rattle.soy_pieces.specs.Outcome.{pieces_of_outcome}
use Rattle.template_ir.specs.Run.{run}
use Rattle.template_ir.specs.ViewOps.{view_program}
use Rattle.template_ir.specs.declared.program.ProgramParts.{ProgramParts}
use Rattle.soy_desk.specs.DeskRun.{Step, Close, Open, Publish, Pull}

pub record Opening : Type 0 where
  pub program : ProgramParts
  pub template : ℕ
  pub input : Value

-- the opening of a name, where this program is published at first
abbrev pub opening_of : ℕ → ProgramParts → List Step → Option Opening
opening_of name published [] = None
opening_of name published (Publish program ∷ steps) = opening_of name program steps
opening_of name published (Open input template (Ok other) ∷ steps) =
    if other == name
    then Some (record { program = published; template = template; input = input })
    else opening_of name published steps
opening_of name published (Open input template (Err refused) ∷ steps) = opening_of name published steps
opening_of name published (Pull other c ∷ steps) = opening_of name published steps
opening_of name published (Close other answer ∷ steps) = opening_of name published steps

-- all bytes of the rendering that was opened so
abbrev pub run_bytes : Opening → List ℕ
run_bytes o =
    encode_utf8_all (joined_pieces (pieces_of_outcome (run (view_program o.program) o.template (view_value o.input))))

-- how many openings there were
abbrev pub openings : List Step → ℕ
openings [] = 0
openings (Open input template (Ok name) ∷ steps) = openings steps + 1
openings (_ ∷ steps) = openings steps

-- the program that is published at the end
abbrev pub published_after : ProgramParts → List Step → ProgramParts
published_after program [] = program
published_after program (Publish other ∷ steps) = published_after other steps
published_after program (_ ∷ steps) = published_after program steps
