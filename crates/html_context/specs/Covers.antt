-- What a plan does from each choice of some states, in whatever order they come.
--
-- The walk carries lists of states, of which there are very many: some of these states, each once, in some order. A plan
-- covers these states where from each such list it leads to a list of that kind of those states, with these places. So
-- it meets no fault.
-- Example: from data and a tag's name a text `>` covers data, however the two come.
use Rattle.std.specs.Prelude.{◌≡◌, ◌<◌, ◌≤◌, List, [], length, Ok}
use Rattle.std.specs.List.{All}
use Rattle.soy_base.specs.declared.place.Place.{Place}
use Rattle.html_state.specs.declared.row.State.{State}
use Rattle.soy_meaning.specs.Walks.PageMachine.{page_machine}
use Rattle.soy_meaning.specs.Paths.Plan.{Plan}
use Rattle.soy_meaning.specs.Walks.States.{HasNoRepeats, IsMember}
use Rattle.soy_meaning.specs.Walks.Walk.{walk, walked}
use Rattle.html_context.specs.RowPlans.{plan_at}
use Rattle.html_context.specs.declared.heads.Head.{Head}
use Rattle.html_context.specs.declared.heads.Heads.{Heads}
use Rattle.html_context.specs.declared.table.Row.{Row}

-- each of the ones is among the others
pub record Within (some all : List State) : Type 0 where
  pub each : (s : State) → IsMember s some → IsMember s all

-- one or more of these states, each once
pub record SomeOf (all some : List State) : Type 0 where
  pub apart : HasNoRepeats some
  pub within : (s : State) → IsMember s some → IsMember s all
  pub any : 0 < length some

pub record Covers (p : Plan) (before : List State) (old : List Place) (after : List State) (new : List Place) : Type 0
  where
    pub leads : (xs : List State) → SomeOf before xs →
        (ys : List State) × SomeOf after ys × (walk page_machine p (walked xs old) ≡ Ok (walked ys new))

-- what leaves the states that stand around it, whichever they are
pub record PassedBy (p : Plan) (old new : List Place) : Type 0 where
  pub passes : (xs : List State) → walk page_machine p (walked xs old) ≡ Ok (walked xs new)

-- ---- what is kept of the heads of loops

-- at most 16 states, from which a body leads to none but these, with these places
pub record IsHead (rows : List Row) (head : Head) : Type 0 where
  pub few : length head.states.items ≤ 16
  pub closed : Covers (plan_at rows head.body) head.states.items [] head.states.items head.places.items

abbrev pub AllHeads : List Row → Heads → Type 0
AllHeads rows heads = All (λ h. IsHead rows h) heads.kept.items
