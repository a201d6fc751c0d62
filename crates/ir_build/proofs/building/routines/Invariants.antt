use Rattle.std.proofs.Common.{map}
use Rattle.template_ir.specs.ViewOps.{view_routine}
use Rattle.ir_build.specs.Laid.{view_output}
use Rattle.soy_rules.specs.ViewTemplates.{view_all}
use Rattle.msg_extract.specs.LanguageOf.{language_of}
use Rattle.ir_build.proofs.RoutineSteps.{RoutinesOn}
use Rattle.ir_build.proofs.building.routines.Given as goal

abbrev pub invariant-loop-one : goal.invariant-loop-one
invariant-loop-one l =
    RoutinesOn (language_of l.bundle) (view_all l.all) l.places l.declared l.one-index (view_output l.initial.out)
    (view_output l.out) (map view_routine l.routines.items)
