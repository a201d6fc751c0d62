use Rattle.std.proofs.Common.{◌≡◌}
use Rattle.serde_json.specs.View.{members_view}
use Rattle.msg_bundle.specs.BundleForm.{entries_fault}
use Rattle.msg_bundle.proofs.form.entries_fault.Given as goal

abbrev pub invariant-loop-key : goal.invariant-loop-key
invariant-loop-key l =
    entries_fault l.only_keywords l.name (members_view l.key-iterator)
    ≡ entries_fault l.only_keywords l.name (members_view l.entries.entries)
