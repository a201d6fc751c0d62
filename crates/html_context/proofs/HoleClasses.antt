-- At a hole that has a place, each state takes a value of some class.
use Rattle.std.proofs.Common.{◌≡◌, ℕ, zero, suc, ◌<◌, Bool, true, false, List, [], ◌∷◌, Option, Some, None, Result, Ok}
use Rattle.std.proofs.Common.{Err, refl, sym, ap, ◌∙◌, subst, length, slice_index_or, arith}
use Rattle.std.specs.Prelude.{IsTrue, if◌then◌else◌}
use Rattle.std.specs.List.{All, list_all}
use Rattle.soy_base.specs.declared.code.Code.TheVariants as code
use Rattle.soy_base.specs.declared.place.Place.{Place}
use Rattle.soy_base.specs.declared.place.Place.TheVariants as place
use Rattle.soy_base.specs.declared.place.Placing.{Placing}
use Rattle.soy_base.specs.declared.place.Placing.TheVariants.{Refuses, Takes}
use Rattle.soy_base.specs.declared.place.ValueClass.{ValueClass}
use Rattle.html_state.specs.StatePlacing.{placing}
use Rattle.html_state.specs.TakesClass.{takes_class}
use Rattle.html_state.specs.declared.row.State.{State}
use Rattle.soy_meaning.specs.Walks.PageMachine.{page_machine}
use Rattle.soy_pieces.specs.Site.{Site}
use Rattle.soy_meaning.specs.Walks.Walk.{WalkFault, agreed_place, is_same_placing, other_placing, place_of_hole}
use Rattle.soy_meaning.specs.Walks.Walk.{taken_place}
use Rattle.soy_meaning.specs.Walks.Walk.{walk_fault}
use Rattle.soy_meaning.proofs.Walks.SamePlacings.{same_placing}
use Rattle.html_context.specs.TakenClass.{taken_class}

taken : (p : Place) → IsTrue (takes_class (Takes p) (taken_class p))
taken place.Text = refl
taken place.Rcdata = refl
taken place.Tag = refl
taken place.Attr = refl
taken place.UriStart = refl
taken place.UriPath = refl
taken place.UriQuery = refl
taken place.UriFragment = refl
taken place.JsValue = refl
taken place.JsSingle = refl
taken place.JsDouble = refl
taken place.CssValue = refl
taken place.CssString = refl
taken place.Plain = refl

takes_if : (b : Bool) (at : Site) (q p : Place) → ◌≡◌ {A = Result Place WalkFault}
    (if b then Ok q else Err (walk_fault at code.Place)) (Ok p) → q ≡ p
takes_if true at q p h = let e : q ≡ p = cc in e
takes_if false at q p h = let no : ⊥ = cc in absurd no

taken_from : (at : Site) (classes : List ValueClass) (x : Placing) (p : Place) → taken_place at classes x ≡ Ok p
    → x ≡ Takes p
taken_from at classes (Refuses c) p h = let no : ⊥ = cc in absurd no
taken_from at classes (Takes q) p h = ap Takes (takes_if (list_all (takes_class (Takes q)) classes) at q p h)

agreed_from : (at : Site) (classes : List ValueClass) (x : Placing) (o : Option Placing) (p : Place)
    → agreed_place at classes x o ≡ Ok p → (o ≡ None) × (x ≡ Takes p)
agreed_from at classes x (Some y) p h = let no : ⊥ = cc in absurd no
agreed_from at classes x None p h = (refl, taken_from at classes x p h)

none_if : (b : Bool) (y : Placing) (o : Option Placing) → (if b then o else Some y) ≡ None → (b ≡ true) × (o ≡ None)
none_if true y o h = (refl, h)
none_if false y o h = let no : ⊥ = cc in absurd no

-- no other placing: all have this one
alike : (x : Placing) (ss : List State) → other_placing page_machine x ss ≡ None → (k : ℕ) (d : State) → k < length ss
    → placing (slice_index_or ss k d) ≡ x
alike x [] h k d below = absurd (omega arith)
alike x (s ∷ ss) h zero d below =
    let b : (is_same_placing (placing s) x ≡ true) × (other_placing page_machine x ss ≡ None) = none_if
    (is_same_placing (placing s) x) (placing s) (other_placing page_machine x ss) h in
    same_placing (placing s) x b.0
alike x (s ∷ ss) h (suc k) d below =
    let b : (is_same_placing (placing s) x ≡ true) × (other_placing page_machine x ss ≡ None) = none_if
    (is_same_placing (placing s) x) (placing s) (other_placing page_machine x ss) h in
    alike x ss b.1 k d (omega arith)

placed : (x : Placing) (p : Place) → x ≡ Takes p → IsTrue (takes_class x (taken_class p))
placed x p e = subst (λ y. IsTrue (takes_class y (taken_class p))) (sym e) (taken p)

pub each_takes : (at : Site) (classes : List ValueClass) (ss : List State) (p : Place)
    → place_of_hole page_machine at classes ss ≡ Ok p
    → All (λ s. IsTrue (takes_class (placing s) (taken_class p))) ss
each_takes at classes [] p h k d below = absurd (omega arith)
each_takes at classes (s ∷ ss) p h zero d below =
    let a : (other_placing page_machine (placing s) ss ≡ None) × (placing s ≡ Takes p) = agreed_from at classes
    (placing s) (other_placing page_machine (placing s) ss) p h in
    placed (placing s) p a.1
each_takes at classes (s ∷ ss) p h (suc k) d below =
    let a : (other_placing page_machine (placing s) ss ≡ None) × (placing s ≡ Takes p) = agreed_from at classes
    (placing s) (other_placing page_machine (placing s) ss) p h in
    placed (placing (slice_index_or ss k d)) p (alike (placing s) ss a.0 k d (omega arith) ∙ a.1)
