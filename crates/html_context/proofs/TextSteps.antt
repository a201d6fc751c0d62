-- One character of a static text, and its end.
use Rattle.std.proofs.Common.{◌≡◌, ℕ, List, [], ◌∷◌, Result, Ok, Err, refl, sym, ap, ◌∙◌, subst, true, false}
use Rattle.soy_base.specs.Cuts.{is_nil}
use Rattle.soy_base.specs.declared.place.Place.{Place}
use Rattle.soy_meaning.specs.Paths.PlanOfParts.{text_plan}
use Rattle.std.specs.declared.alloc.Global.{Global}
use Rattle.std.specs.declared.vec.Vec.{Vec}
use Rattle.soy_base.specs.declared.code.Code.{Code}
use Rattle.soy_base.specs.declared.memory.Refusal.{Refusal}
use Rattle.soy_base.specs.declared.memory.Refusal.TheVariants.{Because, OutOfMemory}
use Rattle.html_state.specs.Next.{next, text_end}
use Rattle.html_state.specs.declared.row.State.{State}
use Rattle.soy_rules.specs.Faults.{followed_by}
use Rattle.soy_meaning.specs.Walks.PageMachine.{page_machine}
use Rattle.soy_pieces.specs.Site.{Site}
use Rattle.soy_meaning.specs.Walks.Walk.{WalkFault, met_at, moved_states, states_after_text, walk, walk_fault, walked}
use Rattle.html_context.specs.declared.fault.FirstFault.{FirstFault}
use Rattle.html_context.specs.Walks.{Gives, items_of, view_fault}

met_ok : {A : Type 0} (at : Site) (r : Result A Code) (a : A) → met_at at r ≡ Ok a → r ≡ Ok a
met_ok at (Ok b) a h = ap Ok (let e : b ≡ a = cc in e)
met_ok at (Err x) a h = let no : ⊥ = cc in absurd no

met_stop : (at : Site) (r : Result (List State) Code) (f : List State → Result (List State) Code) (x : WalkFault)
    → met_at at r ≡ Err x → met_at at (followed_by r f) ≡ Err x
met_stop at (Ok b) f x h = let no : ⊥ = cc in absurd no
met_stop at (Err c) f x h = h

step : (at : Site) (c : ℕ) (cs : List ℕ) (xs ys : List State) → met_at at
    (moved_states page_machine (λ s. next s c) [] xs) ≡ Ok ys
    → states_after_text page_machine (c ∷ cs) xs ≡ states_after_text page_machine cs ys
step at c cs xs ys h = let e : moved_states page_machine (λ s. next s c) [] xs
    ≡ Ok ys = met_ok at (moved_states page_machine (λ s. next s c) [] xs) ys h in rw e

stops : (at : Site) (c : ℕ) (cs text : List ℕ) (s t : List State) (e : Refusal FirstFault)
    → states_after_text page_machine (c ∷ cs) s ≡ states_after_text page_machine text t
    → Gives items_of (met_at at (moved_states page_machine (λ u. next u c) [] s)) (Err e)
    → Gives items_of (met_at at (states_after_text page_machine text t)) (Err e)
stops at c cs text s t (Because x) is h =
    ap (λ r. met_at at r) (sym is) ∙ met_stop at (moved_states page_machine (λ u. next u c) [] s)
    (λ ts. states_after_text page_machine cs ts) (view_fault x) h
stops at c cs text s t OutOfMemory is h = tt

-- over what is left of a text
pub left_more : (at : Site) (c : ℕ) (left cs : List ℕ) (xs ys : List State) (whole : Result (List State) Code)
    → left ≡ c ∷ cs
    → met_at at (moved_states page_machine (λ s. next s c) [] xs) ≡ Ok ys
    → states_after_text page_machine left xs ≡ whole → states_after_text page_machine cs ys ≡ whole
left_more at c left cs xs ys whole is h inv = sym (step at c cs xs ys h)
    ∙ (sym (ap (λ t. states_after_text page_machine t xs) is) ∙ inv)

pub left_fails : (at : Site) (c : ℕ) (left cs text : List ℕ) (xs start : List State) (e : Refusal FirstFault)
    → left ≡ c ∷ cs
    → states_after_text page_machine left xs ≡ states_after_text page_machine text start
    → Gives items_of (met_at at (moved_states page_machine (λ s. next s c) [] xs)) (Err e)
    → Gives items_of (met_at at (states_after_text page_machine text start)) (Err e)
left_fails at c left cs text xs start e is inv h =
    stops at c cs text xs start e (sym (ap (λ t. states_after_text page_machine t xs) is) ∙ inv) h

pub left_ends : (at : Site) (left text : List ℕ) (xs start : List State)
    (r : Result (Vec State Global) (Refusal FirstFault)) → left ≡ []
    → states_after_text page_machine left xs ≡ states_after_text page_machine text start
    → Gives items_of (met_at at (moved_states page_machine text_end [] xs)) r
    → Gives items_of (met_at at (states_after_text page_machine text start)) r
left_ends at left text xs start r is inv h =
    subst (λ z. Gives items_of (met_at at z) r) (sym (ap (λ t. states_after_text page_machine t xs) is) ∙ inv) h

-- the same of one state
pub one_more : (c : ℕ) (left cs : List ℕ) (s t : State) (whole : Result (List State) Code) → left ≡ c ∷ cs
    → next s c ≡ Ok t → states_after_text page_machine left (s ∷ []) ≡ whole
    → states_after_text page_machine cs (t ∷ []) ≡ whole
one_more c left cs s t whole is h inv =
    let e : states_after_text page_machine (c ∷ cs) (s ∷ []) ≡ states_after_text page_machine cs (t ∷ []) = rw h refl in
    sym e ∙ (sym (ap (λ x. states_after_text page_machine x (s ∷ [])) is) ∙ inv)

pub one_fails : (at : Site) (c : ℕ) (left cs : List ℕ) (s : State) (whole : Result (List State) Code) (k : Code)
    → left ≡ c ∷ cs
    → next s c ≡ Err k → states_after_text page_machine left (s ∷ []) ≡ whole → met_at at whole ≡ Err (walk_fault at k)
one_fails at c left cs s whole k is h inv =
    let e : states_after_text page_machine (c ∷ cs) (s ∷ []) ≡ Err k = rw h refl in
    ap (λ r. met_at at r) (sym inv ∙ (ap (λ x. states_after_text page_machine x (s ∷ [])) is ∙ e))

pub one_ends : (left : List ℕ) (s t : State) (whole : Result (List State) Code) → left ≡ []
    → text_end s ≡ Ok t → states_after_text page_machine left (s ∷ []) ≡ whole → whole ≡ Ok (t ∷ [])
one_ends left s t whole is h inv =
    let e : states_after_text page_machine [] (s ∷ []) ≡ Ok (t ∷ []) = rw h refl in
    sym inv ∙ (ap (λ x. states_after_text page_machine x (s ∷ [])) is ∙ e)

pub one_end_fails : (at : Site) (left : List ℕ) (s : State) (whole : Result (List State) Code) (k : Code) → left ≡ []
    → text_end s ≡ Err k → states_after_text page_machine left (s ∷ []) ≡ whole
    → met_at at whole ≡ Err (walk_fault at k)
one_end_fails at left s whole k is h inv =
    let e : states_after_text page_machine [] (s ∷ []) ≡ Err k = rw h refl in
    ap (λ r. met_at at r) (sym inv ∙ (ap (λ x. states_after_text page_machine x (s ∷ [])) is ∙ e))

-- the walk of a text that may be empty
pub empty_walk : (at : Site) (t : List ℕ) (ss : List State) (places : List Place) → is_nil t ≡ true
    → walk page_machine (text_plan at t) (walked ss places) ≡ Ok (walked ss places)
empty_walk at [] ss places e = refl
empty_walk at (c ∷ cs) ss places e = let no : ⊥ = cc in absurd no

pub some_walk : (at : Site) (t : List ℕ) (ss : List State) (places : List Place) → is_nil t ≡ false
    → walk page_machine (text_plan at t) (walked ss places)
    ≡ followed_by (met_at at (states_after_text page_machine t ss)) (λ states. Ok (walked states places))
some_walk at [] ss places e = let no : ⊥ = cc in absurd no
some_walk at (c ∷ cs) ss places e = refl
