use Rattle.std.proofs.Common.{arith}
use Rattle.std.proofs.lemmas.Bool.Decides.{nat_tests}
use Rattle.esc_table.proofs.PlainTexts.{plain_escaped}
use Rattle.esc_table.proofs.PushedSoFar.{all_pushed, next_pushed}
use Rattle.esc_table.proofs.escape.push_escaped.Goals as goal

pub loop-rest-preserved : goal.loop-rest-preserved
loop-rest-preserved g c =
    let facts = c.plain_run.ensures in
    let next = c.in_ok-rest.ensures in
    next_pushed _ _ _ _ _ _ _ _ _ _ c.loop-rest.invariant facts.run_utf8 facts.whole (plain_escaped _ _ facts.plain)
    c.in_ok-push_text.ensures.ok next.ok next.utf8 next.grown

pub returns-clause-ok : goal.returns-clause-ok
returns-clause-ok g c =
    all_pushed _ _ _ c.loop-rest.rest.now _ (grind (arith, nat_tests, c.is_empty.ensures, c.loop-rest-test.false))
    c.loop-rest.invariant
