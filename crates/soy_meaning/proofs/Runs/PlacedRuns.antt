-- Where the values and frames of a run stand is where the walk says.
use Rattle.std.proofs.Common.{◌≡◌, ℕ, ◌+◌, List, [], ◌∷◌, ◌++◌, ◌⊎◌, inl, inr, Option, Some, Ok, refl, sym, ap}
use Rattle.std.proofs.Common.{◌∙◌, subst, append_assoc}
use Rattle.std.specs.Prelude.{get_or}
use Rattle.std.proofs.lemmas.List.{append-nil}
use Rattle.soy_base.specs.declared.direction.Dir.{Dir}
use Rattle.soy_base.specs.declared.kind.Kind.{Kind}
use Rattle.soy_base.specs.declared.place.Place.{Place}
use Rattle.soy_base.specs.declared.place.Placing.TheVariants.{Takes}
use Rattle.soy_base.specs.declared.place.ValueClass.{ValueClass}
use Rattle.html_state.specs.AfterPieces.{placing_after}
use Rattle.soy_meaning.specs.Paths.Filled.{Filled, FillsHoles, filled_end, filled_pieces, frame_before}
use Rattle.soy_meaning.specs.Paths.Filled.{parts_of_filled, text_before, value_before}
use Rattle.soy_meaning.specs.Walks.FourPoints.{AcceptedPaths}
use Rattle.soy_meaning.specs.Runs.FrameRun.{FrameRun, run_plan}
use Rattle.soy_meaning.specs.Walks.Holes.{holes_before}
use Rattle.soy_pieces.specs.Outcome.{RunEnd, StopsAt, WholeRun}
use Rattle.soy_meaning.specs.Walks.PageMachine.{page_machine}
use Rattle.soy_meaning.specs.Paths.PathParts.{HolePart, IsPath, PathPart, StaticPart, both, empty_path, first_way, hole}
use Rattle.soy_meaning.specs.Paths.PathParts.{met}
use Rattle.soy_meaning.specs.Paths.PathParts.{no_turn, passed_by, second_way, static_text, turn}
use Rattle.soy_pieces.specs.Pieces.{RunContext}
use Rattle.soy_meaning.specs.Paths.Plan.{Plan, Hole, Loop, Then}
use Rattle.soy_pieces.specs.Site.{Site}
use Rattle.soy_meaning.specs.Walks.Points.{Address, AtHole, AtMeet, Here, Inside, Left, LeadsTo, Point, Right, frame_at}
use Rattle.soy_meaning.specs.Walks.Points.{in_arms, in_body, one_way, other_way, point_at, to_first, to_head, to_hole}
use Rattle.soy_meaning.specs.Walks.Points.{to_second}
use Rattle.soy_meaning.specs.Runs.RunPlaces.{ArePlaced, FrameWithin, IsPlaced}
use Rattle.soy_meaning.specs.Runs.RunsAlong.{FilledByRuns, FitsClasses, IsPathUpTo}
use Rattle.soy_meaning.proofs.Runs.Goings.{FrameFills}
use Rattle.soy_meaning.proofs.Runs.ReadRuns.{runs_fill_holes}
use Rattle.soy_meaning.proofs.Runs.RunPieces.{filled_then, parts_then, pieces_then}

-- ---- a path leads to each of its holes

record HoleOn (p : Plan) (parts : List PathPart) (classes : List ValueClass) : Type 0 where
  pub hole : Address
  pub point : point_at p hole ≡ Some (AtHole classes)
  pub leads : LeadsTo p parts hole

-- a part of two lists that follow one another
record CutIn (a b first rest : List PathPart) (part : PathPart) : Type 0 where
  pub more : List PathPart
  pub is : a ≡ first ++ (part ∷ more)

record CutBehind (a b first rest : List PathPart) (part : PathPart) : Type 0 where
  pub more : List PathPart
  pub before : first ≡ a ++ more
  pub is : b ≡ more ++ (part ∷ rest)

same_head : (x y : PathPart) (l m : List PathPart) → x ∷ l ≡ y ∷ m → x ≡ y
same_head x y l m e = cc

same_tail : (x y : PathPart) (l m : List PathPart) → x ∷ l ≡ y ∷ m → l ≡ m
same_tail x y l m e = cc

cut : (a b first rest : List PathPart) (part : PathPart) → a ++ b ≡ first ++ (part ∷ rest)
    → CutIn a b first rest part ⊎ CutBehind a b first rest part
cut [] b first rest part e = inr (record { more = first; before = refl; is = e })
cut (x ∷ a) b [] rest part e =
    inl (record { more = a; is = ap (λ y. y ∷ a) (same_head x part (a ++ b) rest e) })
cut (x ∷ a) b (y ∷ first) rest part e =
    longer (same_head x y (a ++ b) (first ++ (part ∷ rest)) e)
    (cut a b first rest part (same_tail x y (a ++ b) (first ++ (part ∷ rest)) e))
  where
    longer : x ≡ y → CutIn a b first rest part ⊎ CutBehind a b first rest part
        → CutIn (x ∷ a) b (y ∷ first) rest part ⊎ CutBehind (x ∷ a) b (y ∷ first) rest part
    longer same (inl c) =
        inl (record { more = c.more; is = ap (λ l. x ∷ l) c.is ∙ ap (λ z. z ∷ (first ++ (part ∷ c.more))) same })
    longer same (inr c) =
        inr (record {
          more = c.more;
          before = ap (λ l. y ∷ l) c.before ∙ ap (λ z. z ∷ (a ++ c.more)) (sym same);
          is = c.is;
        })

nothing_there : {P : Type 0} (first rest : List PathPart) (part : PathPart) → [] ≡ first ++ (part ∷ rest) → P
nothing_there [] rest part e = let no : ⊥ = cc in absurd no
nothing_there (x ∷ first) rest part e = let no : ⊥ = cc in absurd no

text_no_hole : (text : List ℕ) (at : Site) (classes : List ValueClass) → StaticPart text ≡ HolePart at classes → ⊥
text_no_hole text at classes e = cc

same_classes : (at other : Site) (classes more : List ValueClass) → HolePart at classes ≡ HolePart other more
    → classes ≡ more
same_classes at other classes more e = cc

at_static : (text : List ℕ) (first rest : List PathPart) (at : Site) (classes : List ValueClass) (P : Type 0)
    → StaticPart text ∷ [] ≡ first ++ (HolePart at classes ∷ rest) → P
at_static text [] rest at classes P e =
    absurd (text_no_hole text at classes (same_head (StaticPart text) (HolePart at classes) [] rest e))
at_static text (x ∷ first) rest at classes P e =
    nothing_there first rest (HolePart at classes) (same_tail (StaticPart text) x [] (first ++ (HolePart at classes ∷
    rest)) e)

at_a_hole : (own : Site) (of : List ValueClass) (first rest : List PathPart) (at : Site) (classes : List ValueClass)
    → HolePart own of ∷ [] ≡ first ++ (HolePart at classes ∷ rest) → HoleOn (Hole own of) first classes
at_a_hole own of [] rest at classes e = record {
  hole = Here;
  point = ap (λ l. Some (AtHole l))
      (same_classes own at of classes (same_head (HolePart own of) (HolePart at classes) [] rest e));
  leads = to_hole;
}
at_a_hole own of (x ∷ first) rest at classes e =
    nothing_there first rest (HolePart at classes) (same_tail (HolePart own of) x [] (first ++ (HolePart at classes ∷
    rest)) e)

meet_no_hole : (classes : List ValueClass) → ◌≡◌ {A = Option Point} (Some AtMeet) (Some (AtHole classes)) → ⊥
meet_no_hole classes e = cc

-- a hole of a later turn
later_turn : (at : Site) (p : Plan) (a b : List PathPart) (classes : List ValueClass) (x : Address) → IsPath p a
    → point_at (Loop at p) x ≡ Some (AtHole classes) → LeadsTo (Loop at p) b x → HoleOn (Loop at p) (a ++ b) classes
later_turn at p a b classes x h point (in_body {a = turns} {b = more} {x = y} k leads) = record {
  hole = Inside y;
  point = point;
  leads = subst (λ l. LeadsTo (Loop at p) l (Inside y)) (append_assoc a turns more) (in_body (turn h k) leads);
}
later_turn at p a b classes x h point (to_head k) = absurd (meet_no_hole classes point)

hole_on : (p : Plan) (l : List PathPart) → IsPath p l → (first rest : List PathPart) (at : Site)
    (classes : List ValueClass) → l ≡ first ++ (HolePart at classes ∷ rest) → HoleOn p first classes
hole_on p l empty_path first rest at classes e = nothing_there first rest (HolePart at classes) e
hole_on p l (static_text {text = text}) first rest at classes e = at_static text first rest at classes _ e
hole_on p l (hole {at = own} {classes = of}) first rest at classes e = at_a_hole own of first rest at classes e
hole_on p l (both {p = one} {q = two} {a = a} {b = b} h k) first rest at classes e =
    elim (cut a b first rest (HolePart at classes) e) [
      | inl c ↦ (let found : HoleOn one first classes = hole_on one a h first c.more at classes c.is in
          record { hole = Left found.hole; point = found.point; leads = to_first found.leads })
      | inr c ↦ (let found : HoleOn two c.more classes = hole_on two b k c.more rest at classes c.is in
          record {
            hole = Right found.hole;
            point = found.point;
            leads = subst (λ z. LeadsTo (Then one two) z (Right found.hole)) (sym c.before)
                (to_second h found.leads);
          })
    ]
hole_on p l (first_way {p = one} {q = two} {a = a} h) first rest at classes e =
    let found : HoleOn one first classes = hole_on one a h first rest at classes e in
    record { hole = Left found.hole; point = found.point; leads = one_way found.leads }
hole_on p l (second_way {p = one} {q = two} {a = a} h) first rest at classes e =
    let found : HoleOn two first classes = hole_on two a h first rest at classes e in
    record { hole = Right found.hole; point = found.point; leads = other_way found.leads }
hole_on p l (met {p = one} {a = a} h) first rest at classes e =
    let found : HoleOn one first classes = hole_on one a h first rest at classes e in
    record { hole = Inside found.hole; point = found.point; leads = in_arms found.leads }
hole_on p l no_turn first rest at classes e = nothing_there first rest (HolePart at classes) e
hole_on p l (turn {at = own} {p = one} {a = a} {b = b} h k) first rest at classes e =
    elim (cut a b first rest (HolePart at classes) e) [
      | inl c ↦ (let found : HoleOn one first classes = hole_on one a h first c.more at classes c.is in
          record { hole = Inside found.hole; point = found.point; leads = in_body no_turn found.leads })
      | inr c ↦ (let found : HoleOn (Loop own one) c.more classes =
          hole_on (Loop own one) b k c.more rest at classes c.is in
          subst (λ z. HoleOn (Loop own one) z classes) (sym c.before)
          (later_turn own one a c.more classes found.hole h found.point found.leads))
    ]
hole_on p l passed_by first rest at classes e = nothing_there first rest (HolePart at classes) e

-- ---- the places of a run

pub fills_then : (f g : Filled) → FillsHoles f → FillsHoles g → FillsHoles (filled_then f g)
fills_then filled_end g h k = k
fills_then (text_before text f) g h k = fills_then f g h k
fills_then (value_before at classes value text f) g h k = (h.0, h.1, fills_then f g h.2 k)
fills_then (frame_before at classes kind inner f) g h k = (h.0, h.1, h.2, h.3, fills_then f g h.4 k)

-- what the walk says of each hole, behind each filling of a path to it
abbrev pub PlacesHold : Plan → List Place → Type 0
PlacesHold whole places =
    (y : Address) (kind : Kind) (q : Plan) → frame_at whole y ≡ Some (kind, q) → (x : Address)
    (classes : List ValueClass) → point_at q x ≡ Some (AtHole classes) → (context : Dir) (f : Filled)
    → LeadsTo q (parts_of_filled f) x → FillsHoles f → (d : Place)
    → placing_after kind (filled_pieces context f kind [])
    ≡ Ok (Takes (get_or places (holes_before whole y + holes_before q x) d))

module _ (c : RunContext) (whole : Plan) (accepted : AcceptedPaths page_machine whole) (places : List Place)
    (hold : PlacesHold whole places) where
  abbrev context : Dir
  context = c.direction

  -- a path of the frame's plan goes on behind these parts
  record GoesOnBehind (plan : Plan) (parts : List PathPart) : Type 0 where
    pub more : List PathPart
    pub path : IsPath plan (parts ++ more)

  up_to : (end : RunEnd) (p : Plan) (parts : List PathPart) → IsPathUpTo end p parts → GoesOnBehind p parts
  up_to WholeRun p parts h = record { more = []; path = subst (λ l. IsPath p l) (sym (append-nil parts)) h }
  up_to (StopsAt call) p parts h = record { more = h.0; path = h.1 }

  placed_here : (kind : Kind) (q : FrameWithin whole kind) (g : Filled) (at : Site) (classes : List ValueClass)
      (rest : List PathPart) → FillsHoles g → IsPath q.plan (parts_of_filled g ++ (HolePart at classes ∷ rest))
      → IsPlaced whole places context kind q classes (parts_of_filled g) (filled_pieces context g kind [])
  placed_here kind q g at classes rest fills path =
      let found : HoleOn q.plan (parts_of_filled g) classes =
      hole_on q.plan (parts_of_filled g ++ (HolePart at classes ∷ rest)) path (parts_of_filled g) rest at classes
      refl in
      record {
        hole = found.hole;
        point = found.point;
        leads = found.leads;
        place = λ d. hold q.address kind q.plan q.within found.hole classes found.point context g found.leads fills d;
      }

  abbrev Behind : (kind : Kind) → FrameWithin whole kind → Filled → Filled → Type 0
  Behind kind q g f = ArePlaced whole places context kind q (parts_of_filled g) (filled_pieces context g kind []) f

  -- behind what stands first
  behind : (kind : Kind) (q : FrameWithin whole kind) (g first f : Filled)
      → Behind kind q (filled_then g first) f
      → ArePlaced whole places context kind q (parts_of_filled g ++ parts_of_filled first)
      (filled_pieces context first kind (filled_pieces context g kind [])) f
  behind kind q g first f h =
      subst (λ l. ArePlaced whole places context kind q (parts_of_filled g ++ parts_of_filled first) l f)
      (pieces_then context g first kind [])
      (subst (λ l. ArePlaced whole places context kind q l (filled_pieces context (filled_then g first) kind []) f)
      (parts_then g first) h)

  longer_path : (p : Plan) (g first f : Filled) (more : List PathPart)
      → IsPath p (parts_of_filled g ++ ((parts_of_filled first ++ parts_of_filled f) ++ more))
      → IsPath p (parts_of_filled (filled_then g first) ++ (parts_of_filled f ++ more))
  longer_path p g first f more h =
      subst (λ l. IsPath p l)
      (ap (λ l. parts_of_filled g ++ l) (append_assoc (parts_of_filled first) (parts_of_filled f) more)
      ∙ (sym (append_assoc (parts_of_filled g) (parts_of_filled first) (parts_of_filled f ++ more))
      ∙ ap (λ l. l ++ (parts_of_filled f ++ more)) (sym (parts_then g first)))) h

  -- what fills the rest of a frame
  abbrev Placed : Filled → Type 0
  Placed f =
      (end : RunEnd) (run : FrameRun) (kind : Kind) (q : FrameWithin whole kind) (g : Filled) (more : List PathPart)
      → FillsHoles g → FilledByRuns c whole run end f → FitsClasses f
      → IsPath q.plan (parts_of_filled g ++ (parts_of_filled f ++ more)) → Behind kind q g f

  past_whole : (f : Filled) → Placed f → (end : RunEnd) (run : FrameRun) (kind : Kind) (q : FrameWithin whole kind)
      (g : Filled) (more : List PathPart) (at : Site) (classes : List ValueClass) (inner_kind : Kind) (inner : Filled)
      → Placed inner → FillsHoles g
      → FilledByRuns c whole run WholeRun (frame_before at classes inner_kind inner filled_end)
      → FilledByRuns c whole run end f → FitsClasses (frame_before at classes inner_kind inner f)
      → IsPath q.plan (parts_of_filled g ++ (HolePart at classes ∷ (parts_of_filled f ++ more)))
      → Behind kind q g (frame_before at classes inner_kind inner f)
  past_whole f rest end run kind q g more at classes inner_kind inner inside fills first runs fits path =
      let one : Filled = frame_before at classes inner_kind inner filled_end in
      let one_fills : FillsHoles one =
      runs_fill_holes c whole accepted one run first (fits.0, fits.1, tt) in
      let frame : FrameFills c whole run WholeRun at inner_kind inner = first.1 in
      let r : FrameWithin whole inner_kind = record {
        address = frame.0.within.0;
        plan = run_plan c frame.0.frame;
        within = frame.0.within.1;
      } in (
        placed_here kind q g at classes (parts_of_filled f ++ more) fills path,
        (
          r,
          inside WholeRun frame.0.frame inner_kind r filled_end [] tt frame.1 fits.1
              (subst (λ l. IsPath r.plan l) (sym (append-nil (parts_of_filled inner))) frame.0.path),
        ),
        behind kind q g one f
            (rest end run kind q (filled_then g one) more (fills_then g one fills one_fills) runs fits.2
            (longer_path q.plan g one f more path)),
      )

  placed : (f : Filled) → Placed f
  placed filled_end end run kind q g more fills runs fits path = tt
  placed (text_before text f) end run kind q g more fills runs fits path =
      let one : Filled = text_before text filled_end in
      behind kind q g one f
      (placed f end run kind q (filled_then g one) more (fills_then g one fills tt) runs fits
      (longer_path q.plan g one f more path))
  placed (value_before at classes value text f) end run kind q g more fills runs fits path =
      let one : Filled = value_before at classes value text filled_end in (
        placed_here kind q g at classes (parts_of_filled f ++ more) fills path,
        behind kind q g one f
            (placed f end run kind q (filled_then g one) more (fills_then g one fills (fits.0, runs.0, tt)) runs.1
            fits.1 (longer_path q.plan g one f more path)),
      )
  placed (frame_before at classes inner_kind inner filled_end) end run kind q g more fills runs fits path =
      let frame : FrameFills c whole run end at inner_kind inner = runs.1 in
      let r : FrameWithin whole inner_kind = record {
        address = frame.0.within.0;
        plan = run_plan c frame.0.frame;
        within = frame.0.within.1;
      } in
      let on : GoesOnBehind r.plan (parts_of_filled inner) = up_to end r.plan (parts_of_filled inner) frame.0.path in (
        placed_here kind q g at classes more fills path,
        (r, placed inner end frame.0.frame inner_kind r filled_end on.more tt frame.1 fits.1 on.path),
        tt,
      )
  placed (frame_before at classes inner_kind inner (text_before text f)) end run kind q g more fills runs fits path =
      past_whole (text_before text f) (placed (text_before text f)) end run kind q g more at classes inner_kind inner
      (placed inner) fills (runs.0, runs.1, tt) runs.2 fits path
  placed (frame_before at classes inner_kind inner (value_before at_ classes_ value text f)) end run kind q g more fills
      runs fits path =
      past_whole (value_before at_ classes_ value text f) (placed (value_before at_ classes_ value text f)) end run kind
      q g more at classes inner_kind inner (placed inner) fills (runs.0, runs.1, tt) runs.2 fits path
  placed (frame_before at classes inner_kind inner (frame_before at_ classes_ kind_ other f)) end run kind q g more
      fills runs fits path =
      past_whole (frame_before at_ classes_ kind_ other f) (placed (frame_before at_ classes_ kind_ other f)) end run
      kind q g more at classes inner_kind inner (placed inner) fills (runs.0, runs.1, tt) runs.2 fits path

  -- a run of a frame of the whole plan, at the frame's address
  pub run_placed : (f : Filled) (end : RunEnd) (run : FrameRun) (kind : Kind) (q : FrameWithin whole kind)
      → FilledByRuns c whole run end f → FitsClasses f → IsPathUpTo end q.plan (parts_of_filled f)
      → ArePlaced whole places context kind q [] [] f
  run_placed f end run kind q runs fits path =
      let on : GoesOnBehind q.plan (parts_of_filled f) = up_to end q.plan (parts_of_filled f) path in
      placed f end run kind q filled_end on.more tt runs fits on.path
