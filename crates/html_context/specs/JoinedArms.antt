-- The walk of arms, one after the other: each begins with the states before the command, and what it leads to is joined
-- to what the arms before it led to.
--
-- Example: of `{if $a}x{else}y{/if}` the states after `x` are joined to none, and those after `y` to these.
use Rattle.std.specs.Prelude.{List, [], ◌∷◌, Result, Ok}
use Rattle.html_state.specs.declared.row.State.{State}
use Rattle.soy_rules.specs.Faults.{followed_by}
use Rattle.soy_meaning.specs.Walks.PageMachine.{page_machine}
use Rattle.soy_meaning.specs.Paths.Plan.{Plan}
use Rattle.soy_meaning.specs.Walks.States.{joined_states}
use Rattle.soy_meaning.specs.Walks.Walk.{WalkFault, Walked, walk, walked}

abbrev pub joined_arm : List State → Walked State → Plan → Result (Walked State) WalkFault
joined_arm before v p =
    followed_by (walk page_machine p (walked before v.places)) (λ u.
    Ok (walked (joined_states page_machine v.states u.states) u.places))

abbrev pub joined_arms : List State → Walked State → List Plan → Result (Walked State) WalkFault
joined_arms before v [] = Ok v
joined_arms before v (p ∷ ps) = followed_by (joined_arm before v p) (λ u. joined_arms before u ps)
