use Rattle.std.proofs.Common.{◌≡◌, ◌++◌, drop}
use Rattle.serde_json.specs.View.{view}
use Rattle.msg_bundle.specs.BundleRules.{rules_under}
use Rattle.msg_bundle.proofs.rules.texts_under.Given as goal

abbrev pub invariant-loop-category : goal.invariant-loop-category
invariant-loop-category l =
    l.texts.items ++ rules_under (drop l.category-index l.categories) (view l.rules)
    ≡ rules_under l.categories (view l.rules)
