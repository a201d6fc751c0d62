-- What an answer of the code says of the walk: the states and places that it gives, or its first fault.
--
-- A fault is exact: its code, its site and, for 12, both placings. Only out of memory is free.
-- Example: where the walk refuses a hole with 14, the code answers that fault, and where memory runs out before, that.
use Rattle.std.specs.Prelude.{◌≡◌, List, [], Result, Ok, Err}
use Rattle.std.specs.declared.alloc.Global.{Global}
use Rattle.std.specs.declared.vec.Vec.{Vec}
use Rattle.soy_base.specs.declared.memory.Refusal.{Refusal}
use Rattle.soy_base.specs.declared.memory.Refusal.TheVariants.{Because, OutOfMemory}
use Rattle.soy_base.specs.declared.place.Place.{Place}
use Rattle.html_state.specs.declared.row.State.{State}
use Rattle.soy_pieces.specs.Site.{Site}
use Rattle.soy_meaning.specs.Walks.Walk.{WalkFault, Walked, walked}
use Rattle.html_context.specs.declared.fault.FirstFault.{FirstFault}
use Rattle.html_context.specs.declared.fault.Site as code_site

abbrev pub view_site : code_site.Site → Site
view_site s = record { file = s.file; at = s.at }

abbrev pub view_fault : FirstFault → WalkFault
view_fault f = record { code = f.code; at = view_site f.at; placings = f.placings }

-- an answer, seen so, is this one
abbrev pub Gives : {A B : Type 0} → (A → B) → Result B WalkFault → Result A (Refusal FirstFault) → Type 0
Gives view wanted (Ok a) = wanted ≡ Ok (view a)
Gives view wanted (Err (Because f)) = wanted ≡ Err (view_fault f)
Gives view wanted (Err OutOfMemory) = Unit {0}

-- the same of the states alone
abbrev pub items_of : Vec State Global → List State
items_of v = v.items

-- the states after a part of a plan, with the places that are there then
abbrev pub Walks :
    Result (Walked State) WalkFault → List Place → Result (Vec State Global) (Refusal FirstFault) → Type 0
Walks wanted places result = Gives (λ v. walked v.items places) wanted result

-- the same where no state stands after the part
abbrev pub WalksAll :
    {A : Type 0} → Result (Walked State) WalkFault → List Place → Result A (Refusal FirstFault) → Type 0
WalksAll wanted places result = Gives (λ done. walked [] places) wanted result
