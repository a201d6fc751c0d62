-- What is said of a script beside the program of a first bundle and what files are compiled to under a second: they are
-- an output, or are refused, as the answer to a `play` is.
--
-- Example: a script whose first line is empty is refused.
use Rattle.std.specs.Prelude.{◌≡◌, ℕ, List, Option, Result}
use Rattle.soy_front.specs.Compiled.{AreCompiled}
use Rattle.soy_front.specs.declared.compiling.Compiled.{Compiled}
use Rattle.soy_top.specs.declared.ending.Ending.{Ending}
use Rattle.soy_top.specs.declared.output.Output.{Output}
use Rattle.soy_top.specs.Accepts.{Accepts}
use Rattle.soy_top.specs.Answer.{play_answer}
use Rattle.soy_top.specs.Words.{Word}
use Rattle.template_ir.specs.declared.program.ProgramParts.{ProgramParts}

abbrev pub AcceptsScript : Word → List ℕ → ProgramParts → Compiled → Result Output Ending → Type 0
AcceptsScript script bytes first other result =
    (contents : List (List ℕ)) (bundle other_bundle : Option (List ℕ)) (one : Compiled)
    (are : AreCompiled contents bundle one) (are_other : AreCompiled contents other_bundle other)
    → one.program ≡ first → Accepts (play_answer script bytes are.of are_other.of) result
