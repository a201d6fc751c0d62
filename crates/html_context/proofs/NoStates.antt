-- Where no state stands before a plan none stands after it.
use Rattle.std.proofs.Common.{◌≡◌, List, [], ◌∷◌, Ok, inl, refl}
use Rattle.soy_base.specs.declared.place.Place.{Place}
use Rattle.html_state.specs.declared.row.State.{State}
use Rattle.soy_meaning.specs.Walks.PageMachine.{page_machine}
use Rattle.soy_meaning.specs.Paths.Plan.{Plan}
use Rattle.soy_meaning.specs.Walks.States.{IsMember}
use Rattle.soy_meaning.specs.Walks.Walk.{Walked, walk, walked}
use Rattle.soy_meaning.proofs.Walks.PageStates.{page_compares}
use Rattle.soy_meaning.proofs.Walks.Sound.{Sound, sound}

no_members : (xs : List State) → ((t : State) → IsMember t xs → ⊥) → xs ≡ []
no_members [] h = refl
no_members (x ∷ xs) h = absurd (h x (inl refl))

pub none_after : (p : Plan) (places : List Place) (v : Walked State)
    → walk page_machine p (walked [] places) ≡ Ok v → v.states ≡ []
none_after p places v h =
    let s : Sound page_machine p [] v.states = sound page_machine page_compares p (walked [] places) v h in
    no_members v.states (λ t k. (s.from t k).before)
