use Rattle.std.proofs.Common.{◌+◌, ap, drop, map}
use Rattle.msg_extract.specs.NameGroups.{group_names}
use Rattle.msg_extract.specs.Views.ViewKeys.{view_groups, view_key}
use Rattle.msg_extract.proofs.Naming.NameSteps.{names_ended, names_grown}
use Rattle.msg_extract.proofs.names.group_names.Goals as goal

pub returns-in_default : goal.returns-in_default
returns-in_default c =
    names_ended c.args.tries c.args.bases.now.keys (drop c.loop-base.base-index c.args.some.now)
    (view_groups c.args.contents.now) c.loop-base.number c.loop-base.texts
    (group_names c.args.tries c.args.bases.now.keys c.args.some.now (view_groups c.args.contents.now))
    c.in_default.ensures c.loop-base.invariant.same

pub loop-base-preserved : goal.loop-base-preserved
loop-base-preserved c = record {
  number = ap (λ n. n + 1) c.loop-base.invariant.number;
  same =
      names_grown c.args.tries c.args.bases.now.keys c.args.some.now (view_groups c.args.contents.now)
      c.loop-base.base-index c.loop-base.number c.base-item.result (map view_key c.in-Some.group.now.keys)
      c.loop-base.texts c.push_names.new.texts
      (group_names c.args.tries c.args.bases.now.keys c.args.some.now (view_groups c.args.contents.now))
      c.loop-base-test.true c.base-item.is c.in-Some.ensures c.in_ok-push_names.ensures c.loop-base.invariant.same;
}
