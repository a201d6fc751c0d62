-- The pulls of a name among steps, and the bytes given for it.
--
-- A pull that was answered by Unknown is no pull of a rendering.
-- Example: of the pulls of 0, 1 and 0 those of 0 are the first and the third.
use Rattle.std.specs.Prelude.{ℕ, List, [], ◌∷◌, ◌++◌, Ok, Err, ◌==◌, if◌then◌else◌}
use Rattle.soy_base.specs.declared.memory.Refusal.TheVariants.{Because, OutOfMemory}
use Rattle.soy_desk.specs.Alone.{all_given}
use Rattle.soy_desk.specs.DeskRun.{DeskAnswer, PullCall, RenderingAnswer, Step, Pull, answered}
use Rattle.soy_desk.specs.declared.fault.DeskFault.TheVariants as fault

-- the pull of the rendering that a pull on the desk was, or none
abbrev pub pull_alone : PullCall DeskAnswer → DeskAnswer → List (PullCall RenderingAnswer)
pull_alone c (Ok n) = answered c (Ok n) ∷ []
pull_alone c (Err (Because (fault.TooDeep call))) = answered c (Err (Because call)) ∷ []
pull_alone c (Err (Because fault.Unknown)) = []
pull_alone c (Err OutOfMemory) = answered c (Err OutOfMemory) ∷ []

abbrev pub pulls_by : ℕ → Step → List (PullCall RenderingAnswer)
pulls_by name (Pull other c) = if other == name then pull_alone c c.answer else []
pulls_by name _ = []

abbrev pub pulls_of : ℕ → List Step → List (PullCall RenderingAnswer)
pulls_of name [] = []
pulls_of name (step ∷ steps) = pulls_by name step ++ pulls_of name steps

-- **the bytes given for a name**
abbrev pub given : ℕ → List Step → List ℕ
given name steps = all_given (pulls_of name steps)
