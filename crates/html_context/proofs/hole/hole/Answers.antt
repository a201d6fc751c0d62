use Rattle.std.proofs.Common.{sym, subst}
use Rattle.std.specs.Prelude.{IsTrue}
use Rattle.std.specs.List.{All}
use Rattle.html_state.specs.StatePlacing.{placing}
use Rattle.html_state.specs.TakesClass.{takes_class}
use Rattle.soy_base.specs.declared.place.ValueClass.{ValueClass}
use Rattle.html_context.specs.Walks.{view_site}
use Rattle.html_context.proofs.HoleClasses.{each_takes}
use Rattle.html_context.proofs.hole.hole.Goals as goal

pub after_value-requires : goal.after_value-requires
after_value-requires c =
    subst (λ (x : ValueClass). All (λ s. IsTrue (takes_class (placing s) x)) c.args.states.now)
    (sym c.taken_class.ensures)
    (each_takes (view_site c.args.at) c.args.classes.now c.args.states.now c.in_ok-place.place c.in_ok-place.ensures)
