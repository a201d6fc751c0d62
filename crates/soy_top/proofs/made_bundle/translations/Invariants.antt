use Rattle.std.proofs.Common.{◌≡◌, drop}
use Rattle.serde_json.specs.Data.{no_members}
use Rattle.serde_json.specs.View.{members_view}
use Rattle.soy_top.specs.MadeBundle.{with_translations}
use Rattle.soy_top.proofs.made_bundle.translations.Given as goal

abbrev pub invariant-loop-row : goal.invariant-loop-row
invariant-loop-row l =
    with_translations (members_view l.translations.entries) (drop l.row-index l.rows)
    ≡ with_translations no_members l.rows
