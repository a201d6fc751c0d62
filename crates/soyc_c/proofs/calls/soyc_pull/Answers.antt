use Rattle.std.proofs.Common.{sym}
use Rattle.soyc_c.proofs.calls.soyc_pull.Goals as goal

pub returns-in-Some : goal.returns-in-Some
returns-in-Some c =
    rw (sym c.in-Some.ensures.before) (record {
      after = c.pull_held-answer.new.held;
      is_held = c.exchange-in-Some.ensures.after;
      answer = c.pull_held-answer.result;
      pulls = rw c.as_mut.ensures.value at c.pull_held-answer.ensures;
      says = c.say_count.ensures;
    })
