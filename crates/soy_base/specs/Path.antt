-- A path to a part of JSON: its steps from outside on.
-- Example: the item 2 under the key `a` has the path `a`, 2.
use Rattle.std.specs.Prelude.{List}
use Rattle.soy_base.specs.declared.path.PathStep.{PathStep}

abbrev pub Path : Type 0
Path = List PathStep
