-- The op of a text, which an empty text hasn't.
use Rattle.std.specs.Prelude.{ℕ, List, [], ◌∷◌}
use Rattle.template_ir.specs.Ops.{Op, StaticOp}

abbrev pub text_ops : List ℕ → List Op
text_ops [] = []
text_ops (c ∷ text) = StaticOp (c ∷ text) ∷ []
