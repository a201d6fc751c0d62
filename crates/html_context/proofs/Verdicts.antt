-- What the walk's answer says of the demands on all paths.
use Rattle.std.proofs.Common.{◌≡◌, [], List, Option, Result, Ok, Err, sym, subst}
use Rattle.std.specs.Prelude.{IfOk}
use Rattle.soy_base.specs.declared.place.Place.{Place}
use Rattle.soy_base.specs.declared.memory.Refusal.{Refusal}
use Rattle.soy_base.specs.declared.memory.Refusal.TheVariants.{Because, OutOfMemory}
use Rattle.html_state.specs.declared.row.State.{State}
use Rattle.soy_tree.specs.MessageParts.{MsgParts}
use Rattle.soy_tree.specs.Nodes.{Message}
use Rattle.soy_tree.specs.Trees.{Tree}
use Rattle.soy_meaning.specs.Walks.AcceptedTrees.{AcceptedTrees, walk_trees}
use Rattle.soy_meaning.specs.Walks.PageMachine.{page_machine}
use Rattle.soy_meaning.specs.Paths.PlanOfNodes.{trees_plan}
use Rattle.soy_meaning.specs.Paths.Plan.{Plan}
use Rattle.soy_meaning.specs.Walks.Walk.{WalkFault, Walked, walk, walked}
use Rattle.soy_meaning.proofs.Walks.PageStates.{page_compares}
use Rattle.soy_meaning.proofs.Walks.Exact.{accepted_when_walked, trees_walked, walked_places}
use Rattle.soy_base.specs.declared.places.Places.{Places}
use Rattle.html_context.specs.declared.fault.PlaceFault.{PlaceFault}
use Rattle.html_context.specs.Infers.{Decides, Infers, IsFaultOf}
use Rattle.html_context.specs.PlacesOfHoles.{PlacesOfHoles}

refused : (r : Result (Walked State) WalkFault) (fault : PlaceFault) → IsFaultOf r fault
    → (v : Walked State) × (r ≡ Ok v) → ⊥
refused (Ok v) fault is walked_to = is
refused (Err f) fault is (v, walked_to) = cc

pub decided : (translation : Message → Option MsgParts) (trees : List Tree)
    (answer : Result Places (Refusal PlaceFault))
    → Infers (walk_trees translation trees) answer → Decides (AcceptedTrees translation trees) answer
decided translation trees (Ok places) is =
    accepted_when_walked page_machine page_compares (trees_plan translation trees) (walked [] [])
    (walked [] places.prints) is
decided translation trees (Err (Because fault)) is =
    λ holds. refused (walk_trees translation trees) fault is (trees_walked translation trees holds)
decided translation trees (Err OutOfMemory) is = tt

places_of : (p : Plan) (places : List Place) → walk page_machine p (walked [] []) ≡ Ok (walked [] places)
    → PlacesOfHoles p places
places_of p places is =
    let w = walked_places page_machine page_compares p (walked [] []) (walked [] places) is in
    subst (λ (l : List Place). PlacesOfHoles p l) (sym w.1) (record { count = w.2; placed = w.3 })

pub placed : (translation : Message → Option MsgParts) (trees : List Tree) (answer : Result Places (Refusal PlaceFault))
    → Infers (walk_trees translation trees) answer
    → IfOk answer (λ places. PlacesOfHoles (trees_plan translation trees) places.prints)
placed translation trees (Ok places) is = places_of (trees_plan translation trees) places.prints is
placed translation trees (Err (Because fault)) is = tt
placed translation trees (Err OutOfMemory) is = tt
