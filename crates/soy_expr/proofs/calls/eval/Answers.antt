use Rattle.soy_expr.proofs.ValueOrBlock.{not_a_block}
use Rattle.soy_expr.proofs.calls.eval.Goals as goal

pub returns-in-Block-clause-value : goal.returns-in-Block-clause-value
returns-in-Block-clause-value g c =
    absurd (not_a_block _ _ c.requires.formed c.requires.typed (rw c.in-Block.is at c.in_ok-made.ensures.0.0))

pub returns-in-Block-clause-types : goal.returns-in-Block-clause-types
returns-in-Block-clause-types g c =
    absurd (not_a_block _ _ c.requires.formed c.requires.typed (rw c.in-Block.is at c.in_ok-made.ensures.0.0))
