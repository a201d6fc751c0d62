use Rattle.std.proofs.Common.{◌≡◌, List, [], subst}
use Rattle.std.specs.Prelude.{IsTrue, Ok}
use Rattle.soy_base.specs.declared.place.Place.{Place}
use Rattle.soy_tree.specs.declared.bundle.Bundle.{Bundle}
use Rattle.soy_tree.specs.declared.tree.Tree.{Tree}
use Rattle.soy_rules.specs.Typed.{AreTyped}
use Rattle.soy_tree.specs.ViewTrees.{view_trees}
use Rattle.msg_extract.specs.Fits.{FitsTrees}
use Rattle.soy_meaning.specs.Walks.AcceptedTrees.{walk_trees}
use Rattle.soy_meaning.specs.Runs.TypedData.{AreTypedTrees}
use Rattle.soy_meaning.specs.Walks.Walk.{walked}
use Rattle.template_ir.specs.Compiles.{Compiles}
use Rattle.template_ir.specs.Ops.{Program}
use Rattle.template_ir.specs.Sound.{is_sound}
use Rattle.template_ir.specs.ViewOps.{view_program}
use Rattle.template_ir.proofs.SoundPrograms.{compiled_is_sound}
use Rattle.ir_build.proofs.FittingTrees.{trees_fit}
use Rattle.msg_extract.specs.Translations.{translation_of}
use Rattle.msg_extract.specs.LanguageOf.{language_of}
use Rattle.ir_build.proofs.building.build.Goals as goal

built_is_sound : (given trees : List Tree) (b : Bundle) (prints places : List Place) (p : Program) → trees ≡ given
    → places ≡ prints → AreTyped trees → FitsTrees (translation_of b.messages) (view_trees given)
    → walk_trees (language_of b).translation (view_trees given) ≡ Ok (walked [] prints)
    → Compiles (view_trees trees) places (language_of b) p → IsTrue (is_sound p)
built_is_sound given trees b prints places p same_trees same_places typed fits walks compiles =
    let t : AreTyped given = subst (λ (ts : List Tree). AreTyped ts) same_trees typed in
    let stands : Compiles (view_trees given) prints (language_of b) p =
    subst (λ (xs : List Place). Compiles (view_trees given) xs (language_of b) p) same_places
    (subst (λ (ts : List Tree). Compiles (view_trees ts) places (language_of b) p) same_trees compiles) in
    let are_typed : AreTypedTrees (view_trees given) = record { demands = t.demands; formed = t.formed } in
    let all = trees_fit (translation_of b.messages) 0 (view_trees given) t.formed fits in
    compiled_is_sound (view_trees given) (language_of b) (walked [] prints) p are_typed all.0 all.1 walks stands

pub new-requires : goal.new-requires
new-requires c =
    built_is_sound c.args.typed.now c.trees.result.now c.args.bundle.now c.args.places.now.prints c.items.result.now
    (view_program c.in_ok-parts.parts) c.trees.ensures.trees c.items.ensures c.trees.ensures.typed c.requires.fits
    c.requires.places c.in_ok-parts.ensures
