-- The walk over all paths together: a function on lists of states without repeats.
--
-- It gives the states after a plan and the places of the holes so far, or the first fault.
-- A static text is read by all states, character by character; where several refuse a character, the fault is that of
-- the first.
-- At a hole all states have to give one placing (else 12, with the first placing and the first that differs), which is
-- no refusal (else its code) and takes the classes (else 11).
-- Arms begin with the same states, and what they lead to is joined in their order. A loop's body is followed again
-- until the states at its head no longer grow. More than 16 states are refused (15) where arms or turns meet.
-- A frame within is walked from the start of its kind and has to end where it may (else 13).
-- Example: in `<a {if $x}href="{/if}{$y}">` the hole has the placings UriStart and Tag, in this order, and is refused
-- with 12.
use Rattle.std.specs.Prelude.{ℕ, zero, suc, Bool, true, false, List, [], ◌∷◌, ◌++◌, Option, Some, None, Result, Ok, Err}
use Rattle.std.specs.Prelude.{if◌then◌else◌, length, map, ◌==◌, nat_lt}
use Rattle.std.specs.List.{list_all}
use Rattle.soy_base.specs.declared.code.Code.{Code}
use Rattle.soy_base.specs.declared.code.Code.TheVariants as code
use Rattle.soy_base.specs.declared.kind.Kind.{Kind}
use Rattle.soy_base.specs.declared.place.Place.{Place}
use Rattle.soy_base.specs.declared.place.Place.TheVariants as place
use Rattle.soy_base.specs.declared.place.Placing.{Placing}
use Rattle.soy_base.specs.declared.place.Placing.TheVariants.{Takes, Refuses}
use Rattle.soy_base.specs.contracts.place.PlacingPartialEq.TheImpl as placing_eq
use Rattle.soy_base.specs.declared.place.ValueClass.{ValueClass}
use Rattle.html_state.specs.TakesClass.{takes_class}
use Rattle.soy_rules.specs.Faults.{followed_by}
use Rattle.soy_meaning.specs.Walks.Machine.{Machine}
use Rattle.soy_meaning.specs.Paths.Plan.{Plan, Nothing, Nowhere, StaticText, Hole, Then, Either, Meet, Loop, Frame}
use Rattle.soy_pieces.specs.Site.{Site}
use Rattle.soy_meaning.specs.Walks.States.{with_state, joined_states, state_limit, turn_limit}

pub record Walked (S : Type 0) : Type 0 where
  pub states : List S
  pub places : List Place

abbrev pub walked : {S : Type 0} → List S → List Place → Walked S
walked states places = record { states = states; places = places }

-- a fault, where it is met, and for 12 both placings
pub record WalkFault : Type 0 where
  pub code : Code
  pub at : Site
  pub placings : Option (Placing × Placing)

abbrev pub walk_fault : Site → Code → WalkFault
walk_fault at code = record { code = code; at = at; placings = None }

abbrev pub mixed_at : Site → Placing → Placing → WalkFault
mixed_at at one other = record { code = code.Mixed; at = at; placings = Some (one, other) }

-- what a fault of a text is as one of the walk
abbrev pub met_at : {A : Type 0} → Site → Result A Code → Result A WalkFault
met_at at (Ok a) = Ok a
met_at at (Err code) = Err (walk_fault at code)

abbrev pub is_same_placing : Placing → Placing → Bool
is_same_placing one other = (placing_eq.ghosts).eq one other

-- the place that a placing gives to a hole of these classes
abbrev pub taken_place : Site → List ValueClass → Placing → Result Place WalkFault
taken_place at classes (Refuses code) = Err (walk_fault at code)
taken_place at classes (Takes point) = if list_all (takes_class (Takes point)) classes then Ok point
    else Err (walk_fault at code.Place)

-- the same, where this other placing was met, or none
abbrev pub agreed_place : Site → List ValueClass → Placing → Option Placing → Result Place WalkFault
agreed_place at classes placing (Some other) = Err (mixed_at at placing other)
agreed_place at classes placing None = taken_place at classes placing

module _ {S : Type 0} (m : Machine S) where
  -- the states after one move of each, in their order, behind those that are done
  abbrev pub moved_states : (S → Result S Code) → List S → List S → Result (List S) Code
  moved_states move done [] = Ok done
  moved_states move done (s ∷ ss) = followed_by (move s) (λ t. moved_states move (with_state m done t) ss)

  -- the states after a static text and its end
  abbrev pub states_after_text : List ℕ → List S → Result (List S) Code
  states_after_text [] ss = moved_states m.text_end [] ss
  states_after_text (c ∷ cs) ss = followed_by (moved_states (λ s. m.step s c) [] ss) (λ ts. states_after_text cs ts)

  -- the first placing that isn't this one
  abbrev pub other_placing : Placing → List S → Option Placing
  other_placing placing [] = None
  other_placing placing (s ∷ ss) = if is_same_placing (m.placing s) placing then other_placing placing ss
      else Some (m.placing s)

  -- the place of a hole; where no state stands any place will do
  abbrev pub place_of_hole : Site → List ValueClass → List S → Result Place WalkFault
  place_of_hole at classes [] = Ok place.Plain
  place_of_hole at classes (s ∷ ss) = agreed_place at classes (m.placing s) (other_placing (m.placing s) ss)

  abbrev pub states_after_value : List S → List S
  states_after_value ss = joined_states m [] (map m.value ss)

  abbrev pub within_limit : Site → Walked S → Result (Walked S) WalkFault
  within_limit at w = if nat_lt state_limit (length w.states) then Err (walk_fault at code.States) else Ok w

  abbrev pub all_may_end : Kind → List S → Bool
  all_may_end kind [] = true
  all_may_end kind (s ∷ ss) = if m.may_end kind s then all_may_end kind ss else false

  -- past a frame, around which these states stand
  abbrev pub frame_end : Kind → Site → List S → Walked S → Result (Walked S) WalkFault
  frame_end kind at around w =
      if all_may_end kind w.states then Ok (walked around w.places)
      else Err (walk_fault at code.EndState)

  -- after a turn of a loop from `head` to `w`, whose states are together `more`
  abbrev pub after_turn : (Walked S → Result (Walked S) WalkFault) → Site → Walked S → Walked S → List S →
      Result (Walked S) WalkFault
  after_turn again at head w more =
      if nat_lt state_limit (length more) then Err (walk_fault at code.States)
      else if length more == length head.states then Ok (walked head.states w.places)
      else again (walked more head.places)

  -- a body again and again, at most so often
  unfoldable pub turns : (Walked S → Result (Walked S) WalkFault) → Site → ℕ → Walked S → Result (Walked S) WalkFault
  turns body at zero head = Err (walk_fault at code.States)
  turns body at (suc n) head =
      followed_by (body head) (λ w.
      after_turn (λ u. turns body at n u) at head w (joined_states m head.states w.states))

  abbrev pub walk : Plan → Walked S → Result (Walked S) WalkFault
  walk Nothing w = Ok w
  walk Nowhere w = Ok (walked [] w.places)
  walk (StaticText at text) w =
      followed_by (met_at at (states_after_text text w.states)) (λ states. Ok (walked states w.places))
  walk (Hole at classes) w =
      followed_by (place_of_hole at classes w.states) (λ point.
      Ok (walked (states_after_value w.states) (w.places ++ (point ∷ []))))
  walk (Then p q) w = followed_by (walk p w) (λ v. walk q v)
  walk (Either p q) w =
      followed_by (walk p w) (λ v.
      followed_by (walk q (walked w.states v.places)) (λ u. Ok (walked (joined_states m v.states u.states) u.places)))
  walk (Meet at p) w = followed_by (walk p w) (λ v. within_limit at v)
  walk (Loop at p) w = turns (λ v. walk p v) at turn_limit w
  walk (Frame kind at p) w =
      followed_by (walk p (walked (m.start kind ∷ []) w.places)) (λ v. frame_end kind at w.states v)
