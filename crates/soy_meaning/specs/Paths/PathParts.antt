-- The paths of a plan, and the states of a machine along them.
--
-- A path is a list of static texts and holes, each hole with its site. It takes any arm where arms stand side by side
-- and any number of turns of a loop, and passes by the frames within. Along it the machine reads each static text and
-- its end, and goes on from a hole as after a value.
-- Example: `<b>{$x}` has one path, the text `<b>` and a hole; after it the state is data again.
use Rattle.std.specs.Prelude.{◌≡◌, ℕ, List, [], ◌∷◌, ◌++◌, Result, Ok}
use Rattle.soy_base.specs.declared.code.Code.{Code}
use Rattle.soy_base.specs.declared.kind.Kind.{Kind}
use Rattle.soy_base.specs.declared.place.ValueClass.{ValueClass}
use Rattle.soy_rules.specs.Faults.{followed_by}
use Rattle.soy_meaning.specs.Walks.Machine.{Machine}
use Rattle.soy_meaning.specs.Paths.Plan.{Plan, Nothing, StaticText, Hole, Then, Either, Meet, Loop, Frame}
use Rattle.soy_pieces.specs.Site.{Site}

pub data PathPart : Type 0 where
  StaticPart : List ℕ → PathPart
  HolePart : Site → List ValueClass → PathPart

pub data IsPath : Plan → List PathPart → Type 0 where
  empty_path : IsPath Nothing []
  static_text : {at : Site} {text : List ℕ} → IsPath (StaticText at text) (StaticPart text ∷ [])
  hole : {at : Site} {classes : List ValueClass} → IsPath (Hole at classes) (HolePart at classes ∷ [])
  both : {p q : Plan} {a b : List PathPart} → IsPath p a → IsPath q b → IsPath (Then p q) (a ++ b)
  first_way : {p q : Plan} {a : List PathPart} → IsPath p a → IsPath (Either p q) a
  second_way : {p q : Plan} {a : List PathPart} → IsPath q a → IsPath (Either p q) a
  met : {at : Site} {p : Plan} {a : List PathPart} → IsPath p a → IsPath (Meet at p) a
  no_turn : {at : Site} {p : Plan} → IsPath (Loop at p) []
  turn : {at : Site} {p : Plan} {a b : List PathPart} → IsPath p a → IsPath (Loop at p) b → IsPath (Loop at p) (a ++ b)
  passed_by : {kind : Kind} {at : Site} {p : Plan} → IsPath (Frame kind at p) []

module _ {S : Type 0} (m : Machine S) where
  -- the state after a static text and its end, or the first fault
  abbrev pub after_text : List ℕ → S → Result S Code
  after_text [] s = m.text_end s
  after_text (c ∷ cs) s = followed_by (m.step s c) (λ t. after_text cs t)

  abbrev pub state_after_parts : List PathPart → S → Result S Code
  state_after_parts [] s = Ok s
  state_after_parts (StaticPart text ∷ l) s = followed_by (after_text text s) (λ t. state_after_parts l t)
  state_after_parts (HolePart at classes ∷ l) s = state_after_parts l (m.value s)

  -- some path leads from the one state to the other
  pub record PathLeads (p : Plan) (s t : S) : Type 0 where
    pub parts : List PathPart
    pub path : IsPath p parts
    pub reads : state_after_parts parts s ≡ Ok t

  -- the states that stand after a plan, before which these stand
  pub record StandsAfter (p : Plan) (P : S → Type 0) (t : S) : Type 0 where
    pub from : S
    pub before : P from
    pub path_leads : PathLeads p from t
