use Rattle.std.proofs.Common.{◌≡◌, drop, map}
use Rattle.msg_extract.specs.SelectorRows.{view_selector}
use Rattle.ir_build.specs.NamedRows.{selector_in}
use Rattle.ir_build.proofs.placeholders.selector_in.Given as goal

abbrev pub invariant-loop-selector : goal.invariant-loop-selector
invariant-loop-selector l =
    selector_in l.of_plural l.name (map view_selector (drop l.selector-index l.selectors))
    ≡ selector_in l.of_plural l.name (map view_selector l.selectors)
