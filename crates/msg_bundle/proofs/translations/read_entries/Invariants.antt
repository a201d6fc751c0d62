-- What the entries that are left say follows what was read, and the fault of one of them is that of all.
use Rattle.std.proofs.Common.{List, ◌++◌}
use Rattle.serde_json.specs.View.{members_view}
use Rattle.soy_tree.specs.declared.bundle.Translation.{Translation}
use Rattle.msg_bundle.specs.declared.fault.BundleFault.{BundleFault}
use Rattle.msg_bundle.specs.Sources.{FindsRows}
use Rattle.msg_bundle.specs.Translations.{AreTranslations, HasTranslationFault}
use Rattle.msg_bundle.proofs.translations.read_entries.Given as goal

abbrev pub invariant-loop-id : goal.invariant-loop-id
invariant-loop-id l = record {
  read : (ts : List Translation) → AreTranslations l.rows (members_view l.id-iterator) ts
      → AreTranslations l.rows (members_view l.entries.entries) (l.translations ++ ts);
  fault : (f : BundleFault) → HasTranslationFault l.rows (members_view l.id-iterator) f
      → HasTranslationFault l.rows (members_view l.entries.entries) f;
  finds : FindsRows l.sources l.rows;
}
