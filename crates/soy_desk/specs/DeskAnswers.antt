-- What a desk answers where the rendering of the name answered so.
use Rattle.std.specs.Prelude.{Ok, Err}
use Rattle.soy_base.specs.declared.memory.Refusal.TheVariants.{Because, OutOfMemory}
use Rattle.soy_desk.specs.DeskRun.{DeskAnswer, RenderingAnswer}
use Rattle.soy_desk.specs.declared.fault.DeskFault.TheVariants as fault

abbrev pub desk_answer : RenderingAnswer → DeskAnswer
desk_answer (Ok n) = Ok n
desk_answer (Err (Because call)) = Err (Because (fault.TooDeep call))
desk_answer (Err OutOfMemory) = Err OutOfMemory
