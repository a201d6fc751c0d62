use Rattle.std.proofs.Common.{◌≡◌, drop}
use Rattle.std.specs.List.{list_all}
use Rattle.html_state.specs.TakesClass.{takes_class}
use Rattle.soy_base.specs.declared.place.Placing.TheVariants.{Takes}
use Rattle.html_context.proofs.hole.takes_all.Given as goal

abbrev pub invariant-loop-class : goal.invariant-loop-class
invariant-loop-class l =
    list_all (takes_class (Takes l.place)) (drop l.class-index l.classes)
    ≡ list_all (takes_class (Takes l.place)) l.classes
