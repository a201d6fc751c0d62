-- The walk of a plan goes by the walks of its parts.
use Rattle.std.proofs.Common.{◌≡◌, List, [], ◌∷◌, Result, Ok, map, refl, sym, ap, ◌∙◌}
use Rattle.soy_base.specs.declared.kind.Kind.{Kind}
use Rattle.html_state.specs.declared.row.State.{State}
use Rattle.soy_rules.specs.Faults.{followed_by}
use Rattle.soy_meaning.specs.Walks.PageMachine.{page_machine}
use Rattle.soy_meaning.specs.Paths.Plan.{Plan, Nowhere, Then, Either, Loop, Frame, in_turn, any_of, arms_meet}
use Rattle.soy_pieces.specs.Site.{Site}
use Rattle.soy_meaning.specs.Walks.States.{joined_states}
use Rattle.soy_meaning.specs.Walks.Walk.{WalkFault, Walked, frame_end, turns, walk, walked, within_limit}
use Rattle.html_context.specs.StandsFor.{walk_of}

abbrev pub Way : Type 0
Way = Walked State → Result (Walked State) WalkFault

-- ways, one after the other
abbrev pub each_way : List Way → Way
each_way [] = λ w. Ok w
each_way (f ∷ fs) = λ w. followed_by (f w) (each_way fs)

-- either of two ways
abbrev either_way : Way → Way → Way
either_way f g =
    λ w. followed_by (f w) (λ v.
    followed_by (g (walked w.states v.places)) (λ u. Ok (walked (joined_states page_machine v.states u.states)
    u.places)))

abbrev any_way : Way → List Way → Way
any_way f [] = f
any_way f (g ∷ gs) = any_way (either_way f g) gs

pub in_turn_ways : (ps : List Plan) → walk_of (in_turn ps) ≡ each_way (map walk_of ps)
in_turn_ways [] = refl
in_turn_ways (p ∷ ps) = ap (λ (g : Way). λ w. followed_by (walk page_machine p w) g) (in_turn_ways ps)

any_ways : (qs : List Plan) (p : Plan) → walk_of (any_of p qs) ≡ any_way (walk_of p) (map walk_of qs)
any_ways [] p = refl
any_ways (q ∷ qs) p = any_ways qs (Either p q)

meet_ways : (at : Site) (ps : List Plan)
    → walk_of (arms_meet at ps)
    ≡ (λ w. followed_by (any_way (walk_of Nowhere) (map walk_of ps) w) (λ v. within_limit page_machine at v))
meet_ways at ps = ap (λ (g : Way). λ w. followed_by (g w) (λ v. within_limit page_machine at v)) (any_ways ps Nowhere)

pub turn_walks : (ps qs : List Plan) → map walk_of ps ≡ map walk_of qs → walk_of (in_turn ps) ≡ walk_of (in_turn qs)
turn_walks ps qs e = in_turn_ways ps ∙ ap each_way e ∙ sym (in_turn_ways qs)

pub meet_walks : (at : Site) (ps qs : List Plan) → map walk_of ps ≡ map walk_of qs
    → walk_of (arms_meet at ps) ≡ walk_of (arms_meet at qs)
meet_walks at ps qs e =
    meet_ways at ps
    ∙ ap (λ (fs : List Way). λ w. followed_by (any_way (walk_of Nowhere) fs w) (λ v. within_limit page_machine at v)) e
    ∙ sym (meet_ways at qs)

pub then_walks : (p q p' q' : Plan) → walk_of p ≡ walk_of p' → walk_of q ≡ walk_of q'
    → walk_of (Then p q) ≡ walk_of (Then p' q')
then_walks p q p' q' e h =
    ap (λ (f : Way). λ w. followed_by (f w) (walk_of q)) e
    ∙ ap (λ (g : Way). λ w. followed_by (walk_of p' w) g) h

pub loop_walks : (at : Site) (p q : Plan) → walk_of p ≡ walk_of q → walk_of (Loop at p) ≡ walk_of (Loop at q)
loop_walks at p q e = ap (λ (f : Way). λ w. turns page_machine f at 17 w) e

pub frame_walks : (kind : Kind) (at : Site) (p q : Plan) → walk_of p ≡ walk_of q
    → walk_of (Frame kind at p) ≡ walk_of (Frame kind at q)
frame_walks kind at p q e =
    ap (λ (f : Way). λ w.
    followed_by (f (walked ((page_machine.start kind) ∷ []) w.places)) (λ v. frame_end page_machine kind at w.states v))
    e

pub map_through : {A : Type 0} (f : A → Plan) (xs : List A) → map walk_of (map f xs) ≡ map (λ x. walk_of (f x)) xs
map_through f [] = refl
map_through f (x ∷ xs) = ap (λ (gs : List Way). walk_of (f x) ∷ gs) (map_through f xs)
