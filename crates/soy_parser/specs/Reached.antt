-- What a step in place leads to: the value after it where the step was taken, and nothing where it wasn't.
-- Example: a step that answers true and leaves a state has led to that state.
use Rattle.std.specs.Prelude.{Bool, true, false, Option, Some, None}

abbrev pub reached : {A : Type 0} → Bool → A → Option A
reached true to = Some to
reached false to = None
