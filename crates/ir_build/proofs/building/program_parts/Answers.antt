use mathlib.Core.Path.{refl}
use Rattle.std.proofs.Common.{◌∙◌, ap, map, subst}
use Rattle.soy_tree.specs.declared.bundle.Bundle.{Bundle}
use Rattle.soy_tree.specs.ViewTrees.{view_trees}
use Rattle.template_ir.specs.ViewOps.{view_ops, view_routine}
use Rattle.ir_build.specs.Laid.{Lays, Made, view_output}
use Rattle.ir_build.specs.Routines.{templates_holes, templates_stand}
use Rattle.soy_rules.specs.ViewTemplates.{view_all}
use Rattle.msg_extract.specs.LanguageOf.{language_of}
use Rattle.ir_build.proofs.RoutineSteps.{compiles_all}
use Rattle.ir_build.proofs.building.program_parts.Goals as goal

pub returns : goal.returns
returns c =
    let all = view_all c.in_ok-all.all in
    let routines = map view_routine c.in_ok-templates.templates.items in
    let start : Made = record { ops = view_ops c.new-3.result.items; holes = 0 } in
    compiles_all (view_trees c.args.trees.now) c.args.places.now (language_of c.args.bundle.now) _ all routines _ start
    (view_output c.routines.new.out)
    (ap view_all (c.in_ok-all.ensures ∙ c.as_slice.ensures.value) ∙ c.in_ok-declared.ensures) refl
    (subst (λ (b : Bundle). Lays (templates_stand (language_of b) all c.args.places.now all routines)
    (templates_holes (language_of b).translation all) start (view_output c.routines.new.out))
    c.in_ok-translations.ensures c.in_ok-templates.ensures) (ap (map view_routine) c.new-4.ensures)
    (ap view_ops c.new-5.ensures) refl c.in_ok-plural.ensures c.in_ok-ordinal.ensures
