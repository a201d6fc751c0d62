use Rattle.std.proofs.Common.{refl}
use Rattle.std.proofs.lemmas.Result.{err_from_is_err_and}
use Rattle.plural_rules.proofs.ReadLaws.{condition_read-Condition, refused_entry}
use Rattle.plural_rules.proofs.rules.Rule.read.Goals as goal

pub returns-in_err-parts_of-clause-refused : goal.returns-in_err-parts_of-clause-refused
returns-in_err-parts_of-clause-refused c =
    let p = err_from_is_err_and c.from_residual.result c.from_residual.ensures.1 in
    rw (p.1, p.2, ← c.entry.view_is) (refused_entry _ _ _ (rw c.as_str.ensures.value at c.in_err-parts_of.ensures))

pub returns-clause-ok : goal.returns-clause-ok
returns-clause-ok c =
    rw (← c.entry.view_is) (
      refl,
      condition_read-Condition _ _ _
          (rw c.as_str.ensures.value at c.in_ok-parts_of.ensures),
    )
