-- The walk over a plan without positions is that over the plan; its first fault is the same but for its position.
use Rattle.std.proofs.Common.{◌≡◌, ℕ, zero, suc, List, [], ◌∷◌, Option, Some, None}
use Rattle.std.proofs.Common.{length, nat_lt, refl}
use Rattle.std.specs.Prelude.{Result, Ok, Err, ◌==◌, if◌then◌else◌}
use Rattle.std.specs.List.{list_all}
use Rattle.soy_base.specs.declared.code.Code.{Code}
use Rattle.soy_base.specs.declared.code.Code.TheVariants as code
use Rattle.soy_base.specs.declared.kind.Kind.{Kind}
use Rattle.soy_base.specs.declared.place.Placing.{Placing}
use Rattle.soy_base.specs.declared.place.Placing.TheVariants.{Takes, Refuses}
use Rattle.soy_base.specs.declared.place.ValueClass.{ValueClass}
use Rattle.html_state.specs.TakesClass.{takes_class}
use Rattle.soy_rules.specs.Faults.{followed_by}
use Rattle.soy_meaning.specs.Walks.Machine.{Machine}
use Rattle.soy_meaning.specs.Paths.Plan.{Either, Frame, Hole, Loop, Meet, Nothing, Nowhere, Plan, StaticText, Then}
use Rattle.soy_pieces.specs.Site.{Site}
use Rattle.soy_meaning.specs.Walks.States.{joined_states}
use Rattle.soy_meaning.specs.Walks.Walk.{WalkFault, Walked, after_turn, agreed_place, all_may_end, frame_end, met_at}
use Rattle.soy_meaning.specs.Walks.Walk.{other_placing, place_of_hole, states_after_text, taken_place, turns, walk}
use Rattle.soy_meaning.specs.Walks.Walk.{walk_fault}
use Rattle.soy_meaning.specs.Walks.Walk.{walked, within_limit}
use Rattle.alike_files.specs.RunWithoutPositions.{site_without_position}
use Rattle.alike_files.proofs.ExpressionValues.{through_if}
use Rattle.alike_files.proofs.MessageCuts.{either_same}
use Rattle.alike_files.proofs.PartPlans.{plan_placeless}

abbrev pub walk_fault_placeless : WalkFault → WalkFault
walk_fault_placeless f = record f { at = site_without_position f.at }

abbrev pub walk_placeless : {A : Type 0} → Result A WalkFault → Result A WalkFault
walk_placeless (Ok a) = Ok a
walk_placeless (Err f) = Err (walk_fault_placeless f)

-- what follows a step of the walk
then_same : {A B : Type 0} (r s : Result A WalkFault) (next other : A → Result B WalkFault) → s ≡ walk_placeless r
    → ((a : A) → other a ≡ walk_placeless (next a)) → followed_by s other ≡ walk_placeless (followed_by r next)
then_same (Ok a) s next other e h = rw e (h a)
then_same (Err f) s next other e h = rw e refl

met_same : {A : Type 0} (at : Site) (r : Result A Code)
    → met_at (site_without_position at) r ≡ walk_placeless (met_at at r)
met_same at (Ok a) = refl
met_same at (Err code) = refl

taken_same : (at : Site) (classes : List ValueClass) (placing : Placing)
    → taken_place (site_without_position at) classes placing ≡ walk_placeless (taken_place at classes placing)
taken_same at classes (Refuses code) = refl
taken_same at classes (Takes point) =
    through_if walk_placeless (list_all (takes_class (Takes point)) classes) (Ok point)
    (Err (walk_fault at code.Place))

agreed_same : (at : Site) (classes : List ValueClass) (placing : Placing) (o : Option Placing)
    → agreed_place (site_without_position at) classes placing o ≡ walk_placeless (agreed_place at classes placing o)
agreed_same at classes placing (Some other) = refl
agreed_same at classes placing None = taken_same at classes placing

module _ {S : Type 0} (m : Machine S) where
  hole_same : (at : Site) (classes : List ValueClass) (ss : List S)
      → place_of_hole m (site_without_position at) classes ss ≡ walk_placeless (place_of_hole m at classes ss)
  hole_same at classes [] = refl
  hole_same at classes (s ∷ ss) = agreed_same at classes (m.placing s) (other_placing m (m.placing s) ss)

  limit_same : (at : Site) (w : Walked S)
      → within_limit m (site_without_position at) w ≡ walk_placeless (within_limit m at w)
  limit_same at w = through_if walk_placeless (nat_lt 16 (length w.states)) (Err (walk_fault at code.States)) (Ok w)

  end_same : (kind : Kind) (at : Site) (around : List S) (w : Walked S)
      → frame_end m kind (site_without_position at) around w ≡ walk_placeless (frame_end m kind at around w)
  end_same kind at around w =
      through_if walk_placeless (all_may_end m kind w.states) (Ok (walked around w.places))
      (Err (walk_fault at code.EndState))

  turn_same : (again other : Walked S → Result (Walked S) WalkFault)
      → ((w : Walked S) → other w ≡ walk_placeless (again w)) → (at : Site) (head w : Walked S) (more : List S)
      → after_turn m other (site_without_position at) head w more ≡ walk_placeless (after_turn m again at head w more)
  turn_same again other h at head w more =
      either_same walk_placeless (nat_lt 16 (length more)) (Err (walk_fault at code.States))
      (if length more == length head.states then Ok (walked head.states w.places) else again (walked more head.places))
      _ _ refl
      (either_same walk_placeless (length more == length head.states) (Ok (walked head.states w.places))
      (again (walked more head.places)) _ _ refl (h (walked more head.places)))

  turns_same : (body other : Walked S → Result (Walked S) WalkFault)
      → ((w : Walked S) → other w ≡ walk_placeless (body w)) → (at : Site) (n : ℕ) (head : Walked S)
      → turns m other (site_without_position at) n head ≡ walk_placeless (turns m body at n head)
  unfolding turns
  turns_same body other h at zero head = refl
  turns_same body other h at (suc n) head =
      then_same (body head) (other head)
      (λ w. after_turn m (λ u. turns m body at n u) at head w (joined_states m head.states w.states))
      (λ w. after_turn m (λ u. turns m other (site_without_position at) n u) (site_without_position at) head w
      (joined_states m head.states w.states)) (h head)
      (λ w. turn_same (λ u. turns m body at n u) (λ u. turns m other (site_without_position at) n u)
      (λ u. turns_same body other h at n u) at head w (joined_states m head.states w.states))

  -- **the walk over a plan**
  pub walk_same : (p : Plan) (w : Walked S) → walk m (plan_placeless p) w ≡ walk_placeless (walk m p w)
  walk_same Nothing w = refl
  walk_same Nowhere w = refl
  walk_same (StaticText at text) w =
      then_same (met_at at (states_after_text m text w.states)) _ _ _
      (met_same at (states_after_text m text w.states)) (λ states. refl)
  walk_same (Hole at classes) w =
      then_same (place_of_hole m at classes w.states) _ _ _ (hole_same at classes w.states) (λ point. refl)
  walk_same (Then p q) w = then_same (walk m p w) _ _ _ (walk_same p w) (λ v. walk_same q v)
  walk_same (Either p q) w =
      then_same (walk m p w) _ _ _ (walk_same p w) (λ v.
      then_same (walk m q (walked w.states v.places)) _ _ _ (walk_same q (walked w.states v.places)) (λ u. refl))
  walk_same (Meet at p) w = then_same (walk m p w) _ _ _ (walk_same p w) (λ v. limit_same at v)
  walk_same (Loop at p) w =
      turns_same (λ v. walk m p v) (λ v. walk m (plan_placeless p) v) (λ v. walk_same p v) at 17 w
  walk_same (Frame kind at p) w =
      then_same (walk m p (walked (m.start kind ∷ []) w.places)) _ _ _
      (walk_same p (walked (m.start kind ∷ []) w.places)) (λ v. end_same kind at w.states v)
