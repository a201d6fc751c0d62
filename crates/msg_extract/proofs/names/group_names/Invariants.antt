use Rattle.std.proofs.Common.{◌≡◌, ◌++◌, drop}
use Rattle.msg_extract.specs.NameGroups.{group_names}
use Rattle.msg_extract.specs.Views.ViewKeys.{view_groups}
use Rattle.msg_extract.proofs.names.group_names.Given as goal

abbrev pub invariant-loop-base : goal.invariant-loop-base
invariant-loop-base l = record {
  number : l.number ≡ l.base-index;
  same : l.texts ++ group_names l.tries l.bases.keys (drop l.base-index l.some) (drop l.number (view_groups l.contents))
      ≡ group_names l.tries l.bases.keys l.some (view_groups l.contents);
}
