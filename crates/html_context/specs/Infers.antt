-- What inferring answers: the places that the walk gives, or its first fault.
--
-- A fault of 12 keeps both placings, any other none. Only out of memory is free.
-- Example: where the walk refuses a print with UriStart and Tag, the answer is 12 with these two.
use Rattle.std.specs.Prelude.{◌≡◌, [], Result, Ok, Err, option_map}
use Rattle.soy_base.specs.declared.memory.Refusal.{Refusal}
use Rattle.soy_base.specs.declared.memory.Refusal.TheVariants.{Because, OutOfMemory}
use Rattle.html_state.specs.declared.row.State.{State}
use Rattle.soy_meaning.specs.Walks.Walk.{WalkFault, Walked, walked}
use Rattle.soy_base.specs.declared.places.Places.{Places}
use Rattle.html_context.specs.declared.fault.PlaceFault.{PlaceFault}

abbrev pub place_fault : WalkFault → PlaceFault
place_fault f =
    record {
      fault = record { code = f.code; file = f.at.file; at = f.at.at };
      first = option_map (λ both. both.0) f.placings;
      second = option_map (λ both. both.1) f.placings;
    }

-- the fault of a walk
abbrev pub IsFaultOf : Result (Walked State) WalkFault → PlaceFault → Type 0
IsFaultOf (Ok w) fault = ⊥
IsFaultOf (Err f) fault = fault ≡ place_fault f

abbrev pub Infers : Result (Walked State) WalkFault → Result Places (Refusal PlaceFault) → Type 0
Infers wanted (Ok places) = wanted ≡ Ok (walked [] places.prints)
Infers wanted (Err (Because fault)) = IsFaultOf wanted fault
Infers wanted (Err OutOfMemory) = Unit {0}

-- yes exactly where this holds
abbrev pub Decides : Type 0 → Result Places (Refusal PlaceFault) → Type 0
Decides holds (Ok places) = holds
Decides holds (Err (Because fault)) = holds → ⊥
Decides holds (Err OutOfMemory) = Unit {0}
