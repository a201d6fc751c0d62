use Rattle.std.proofs.Common.{◌∙◌}
use Rattle.html_context.proofs.ClassLists.{classes_added}
use Rattle.html_context.proofs.classes.+classes.Goals as goal

pub push_all-loop-of-preserved : goal.push_all-loop-of-preserved
push_all-loop-of-preserved t c =
    rw c.in_ok-push_classes.ensures
    (classes_added c.loop-of.classes.items c.args.members.now c.loop-of.of-index c.of-item.result c.loop-of-test.true
    c.of-item.is
    ∙ c.loop-of.invariant)
