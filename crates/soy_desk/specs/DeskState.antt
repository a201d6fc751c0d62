-- What a desk holds: the renderings that are open, the number of openings, and the program that is published.
--
-- Each open rendering has a name, the input and the program of its opening, what it has still to give, and whether it
-- is done. No two have the same name; of a name the first counts.
-- Example: on a new desk nothing is open, and the program that it was made with is published.
use Rattle.std.specs.Prelude.{ℕ, Bool, false, List, [], ◌∷◌, Option, Some, None, ◌==◌, if◌then◌else◌}
use Rattle.soy_tree.specs.ViewValues.{view_value}
use Rattle.soy_tree.specs.declared.value.Value.{Value}
use Rattle.template_ir.specs.Run.{run}
use Rattle.template_ir.specs.ViewOps.{view_program}
use Rattle.template_ir.specs.declared.program.ProgramParts.{ProgramParts}
use Rattle.render_core.specs.Rest.{Rest, solid}

pub record Entry : Type 0 where
  pub name : ℕ
  pub input : Value
  pub program : ProgramParts
  pub rest : Rest
  pub done : Bool

pub record DeskState : Type 0 where
  pub entries : List Entry
  pub opened : ℕ
  pub published : ProgramParts

abbrev pub desk_with : ProgramParts → DeskState
desk_with program = record { entries = []; opened = 0; published = program }

-- what a rendering has to give that has just begun
abbrev pub first_rest : ProgramParts → Value → ℕ → Rest
first_rest program input template =
    record { begun = []; coming = solid (run (view_program program) template (view_value input)) }

abbrev pub first_entry : ℕ → ProgramParts → Value → ℕ → Entry
first_entry name program input template = record {
  name = name;
  input = input;
  program = program;
  rest = first_rest program input template;
  done = false;
}

-- with what a pull leaves
abbrev pub pulled_entry : Entry → Rest → Bool → Entry
pulled_entry e rest done = record e { rest = rest; done = done }

-- the open rendering of a name
abbrev pub entry_named : ℕ → List Entry → Option Entry
entry_named name [] = None
entry_named name (e ∷ es) = if e.name == name then Some e else entry_named name es

-- with this one instead of that of its name
abbrev pub with_entry : Entry → List Entry → List Entry
with_entry new [] = []
with_entry new (e ∷ es) = if e.name == new.name then new ∷ es else e ∷ with_entry new es

-- without that of a name
abbrev pub without : ℕ → List Entry → List Entry
without name [] = []
without name (e ∷ es) = if e.name == name then es else e ∷ without name es
