use Rattle.soy_top.specs.Words.{command_words}
use Rattle.soyc_c.proofs.PlainRuns.{run_reply}
use Rattle.soyc_c.proofs.reply.ran.Goals as goal

pub returns-clause-ok : goal.returns-clause-ok
returns-clause-ok c =
    let said = c.run.ensures in
    run_reply _ c.args.files.items (command_words c.args.words.now) _ _ _ _ _ _ c.new-library.ensures c.new-out.ensures
    c.new-err.ensures
    (record {
      usage_only = said.usage_only;
      usage_due = said.usage_due;
      read_only = said.read_only;
      read_due = said.read_due;
      refused_only = said.refused_only;
      refused_due = said.refused_due;
      done_only = said.done_only;
      done_due = said.done_due;
      too_deep_only = said.too_deep_only;
      too_deep_due = said.too_deep_due;
      nothing_written = said.nothing_written;
    })
    c.in_default.not-Memory
