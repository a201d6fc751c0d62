use Rattle.std.proofs.Common.{sym}
use Rattle.std.proofs.lemmas.Result.{err_from_is_err_and}
use Rattle.plural_rules.proofs.EntryLaws.{AreRulesOf-taken, AreRulesOf-all, AreRulesOf-AreOnlyRulesOf}
use Rattle.plural_rules.proofs.EntryLaws.{RefusesEntries-at}
use Rattle.plural_rules.proofs.rules.Rules.parse.Goals as goal

pub returns-in_err-read-clause-refused : goal.returns-in_err-read-clause-refused
returns-in_err-read-clause-refused c =
    let p = err_from_is_err_and c.from_residual-in_err-read.result c.from_residual-in_err-read.ensures.1 in
    rw (p.1, p.2) (RefusesEntries-at _ _ _ _ _ c.loop-entry-test.true (sym c.entry-item.is) c.loop-entry.invariant
    c.in_err-read.ensures.refused)

pub loop-entry-preserved : goal.loop-entry-preserved
loop-entry-preserved c =
    rw c.in_ok-push.ensures.items (AreRulesOf-taken _ _ _ _ _ c.loop-entry-test.true (sym c.entry-item.is)
    c.loop-entry.invariant c.in_ok-read.ensures.ok)

pub returns-clause-only : goal.returns-clause-only
returns-clause-only c =
    AreRulesOf-AreOnlyRulesOf _ _ (AreRulesOf-all _ _ _ c.loop-entry-test.false c.loop-entry.invariant)
