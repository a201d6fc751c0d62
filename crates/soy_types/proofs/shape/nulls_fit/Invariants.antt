use Rattle.std.proofs.Common.{drop}
use Rattle.soy_types.specs.Filling.{NullsFit, fields_at}
use Rattle.soy_types.proofs.shape.nulls_fit.Given as goal

-- those that were passed fit, if the rest do
abbrev pub invariant-loop-index : goal.invariant-loop-index
invariant-loop-index l =
    NullsFit (drop l.index (fields_at l.shape)) (drop l.index l.entries) → NullsFit (fields_at l.shape) l.entries
