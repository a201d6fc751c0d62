use Rattle.std.proofs.Common.{arith, ap, map, subst, List}
use Rattle.template_ir.specs.ViewOps.{view_routine}
use Rattle.ir_build.specs.Laid.{Lays, view_output}
use Rattle.ir_build.specs.Routines.{templates_holes, templates_stand}
use Rattle.soy_rules.specs.ViewTemplates.{view_all}
use Rattle.msg_extract.specs.LanguageOf.{language_of}
use Rattle.soy_rules.specs.declared.template.Declared.{Declared}
use Rattle.ir_build.proofs.OpLists.{map_pushed}
use Rattle.ir_build.proofs.RoutineSteps.{routines_begin, routines_end, routines_step}
use Rattle.ir_build.proofs.building.routines.Goals as goal

pub loop-one-init : goal.loop-one-init
loop-one-init c =
    routines_begin (language_of c.args.bundle.now) (view_all c.args.all.now) c.args.places.now
    c.declared-declared.result.now (view_output c.args.out.now) (map view_routine c.new-routines.result.items)
    (ap (map view_routine) c.new-routines.ensures.items)

pub loop-one-preserved : goal.loop-one-preserved
loop-one-preserved c =
    routines_step (language_of c.args.bundle.now) (view_all c.args.all.now) c.args.places.now
    c.declared-declared.result.now c.loop-one.one-index c.one-item.result (view_routine c.in_ok-routine.routine)
    (view_output c.args.out.now) (view_output c.loop-one.out) (view_output c.routine.new.out)
    (map view_routine c.loop-one.routines.items) (map view_routine c.push.new.self.items) c.loop-one-test.true
    c.one-item.is c.in_ok-routine.ensures
    (map_pushed view_routine c.loop-one.routines.items c.push.new.self.items c.in_ok-routine.routine
    c.in_ok-push.ensures.items) c.loop-one.invariant

pub returns : goal.returns
returns c =
    let l = language_of c.args.bundle.now in
    let done = map view_routine c.loop-one.routines.items in
    subst (λ (xs : List Declared). Lays
    (templates_stand l (view_all c.args.all.now) c.args.places.now (view_all xs) done)
    (templates_holes l.translation (view_all xs)) (view_output c.args.out.now) (view_output c.loop-one.out))
    c.declared-declared.ensures
    (routines_end l (view_all c.args.all.now) c.args.places.now c.declared-declared.result.now c.loop-one.one-index
    (view_output c.args.out.now) (view_output c.loop-one.out) done (omega arith) c.loop-one.invariant)
