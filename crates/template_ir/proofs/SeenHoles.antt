-- What the walk says of the holes of a plan that stands in a frame, behind the frame's pieces so far.
use Rattle.std.proofs.Common.{◌≡◌, ℕ, ◌+◌, List, [], ◌∷◌, ◌++◌, Option, Some, Ok, refl}
use Rattle.std.proofs.Common.{sym, ap, subst, append_assoc, arith}
use Rattle.soy_base.specs.declared.direction.Dir.{Dir}
use Rattle.soy_base.specs.declared.kind.Kind.{Kind}
use Rattle.soy_base.specs.declared.place.Place.{Place}
use Rattle.soy_base.specs.declared.place.Placing.TheVariants.{Takes}
use Rattle.soy_base.specs.declared.place.ValueClass.{ValueClass}
use Rattle.html_state.specs.AfterPieces.{placing_after}
use Rattle.soy_base.specs.Piece.{Piece}
use Rattle.soy_meaning.specs.Paths.Filled.{Filled, FillsHoles, filled_end, filled_pieces, frame_before, parts_of_filled}
use Rattle.soy_meaning.specs.Paths.Filled.{text_before, value_before}
use Rattle.soy_meaning.specs.Walks.Holes.{hole_count, holes_before}
use Rattle.soy_meaning.specs.Paths.PathParts.{IsPath, PathPart, turn}
use Rattle.soy_meaning.specs.Paths.Plan.{Plan, Either, Frame, Hole, Loop, Meet, Nowhere, Then, any_of, arms_meet}
use Rattle.soy_pieces.specs.Site.{Site}
use Rattle.soy_meaning.specs.Walks.Points.{Address, AtHole, AtMeet, Here, Inside, LeadsTo, Left, Point, Right, frame_at}
use Rattle.soy_meaning.specs.Walks.Points.{in_arms, in_body, one_way, other_way, point_at, to_first, to_head, to_hole}
use Rattle.soy_meaning.specs.Walks.Points.{to_second}
use Rattle.soy_meaning.specs.Runs.RunsAlong.{IsFrameWithin}
use Rattle.soy_meaning.proofs.Runs.RunPieces.{filled_then, parts_then, pieces_then}
use Rattle.template_ir.specs.StandFor.{place_of}
use Rattle.template_ir.proofs.Counts.{all_holes}

pub fills_both : (f g : Filled) → FillsHoles f → FillsHoles g → FillsHoles (filled_then f g)
fills_both filled_end g h k = k
fills_both (text_before text f) g h k = fills_both f g h k
fills_both (value_before at classes value text f) g h k = (h.0, h.1, fills_both f g h.2 k)
fills_both (frame_before at classes kind inner f) g h k = (h.0, h.1, h.2, h.3, fills_both f g h.4 k)

meet_no_hole : (classes : List ValueClass) → ◌≡◌ {A = Option Point} (Some AtMeet) (Some (AtHole classes)) → ⊥
meet_no_hole classes e = cc

-- to a hole of a loop's body, by one more turn
turn_leads : (at : Site) (p : Plan) (a b : List PathPart) (x : Address) (classes : List ValueClass) → IsPath p a
    → point_at (Loop at p) x ≡ Some (AtHole classes) → LeadsTo (Loop at p) b x → LeadsTo (Loop at p) (a ++ b) x
turn_leads at p a b x classes h point (in_body {a = turns} {b = more} {x = y} k leads) =
    subst (λ l. LeadsTo (Loop at p) l (Inside y)) (append_assoc a turns more) (in_body (turn h k) leads)
turn_leads at p a b x classes h point (to_head k) = absurd (meet_no_hole classes point)

module _ (context : Dir) (whole : Plan) (places : List Place) where
  abbrev IsAt : Kind → List Piece → ℕ → Type 0
  IsAt kind pieces hole = placing_after kind pieces ≡ Ok (Takes (place_of places hole))

  is_at : (kind : Kind) (pieces other : List Piece) (m n : ℕ) → other ≡ pieces → m ≡ n → IsAt kind pieces m
      → IsAt kind other n
  is_at kind pieces other m n same number h =
      subst (λ l. IsAt kind l n) (sym same) (subst (λ k. IsAt kind pieces k) number h)

  -- each filling of a path to a hole leads to the place that is kept for the hole's number, counted from the first
  abbrev pub SeesHoles : Kind → Plan → List Piece → ℕ → Type 0
  SeesHoles kind p before hole =
      (f : Filled) → FillsHoles f → (x : Address) (classes : List ValueClass) → point_at p x ≡ Some (AtHole classes)
      → LeadsTo p (parts_of_filled f) x → IsAt kind (filled_pieces context f kind before) (hole + holes_before p x)

  -- and so it is in the frames within, each one of the whole plan
  abbrev pub SeesFrames : Plan → ℕ → Type 0
  SeesFrames p hole =
      (y : Address) (kind : Kind) (q : Plan) → frame_at p y ≡ Some (kind, q)
      → IsFrameWithin whole kind q × SeesHoles kind q [] (hole + holes_before p y)

  pub record Seen (kind : Kind) (p : Plan) (before : List Piece) (hole : ℕ) : Type 0 where
    pub holes : SeesHoles kind p before hole
    pub frames : SeesFrames p hole

  -- ---- what stands within a plan

  pub frames_first : (p q : Plan) (hole : ℕ) → SeesFrames (Then p q) hole → SeesFrames p hole
  frames_first p q hole h y kind r e = h (Left y) kind r e

  pub frames_second : (p q : Plan) (hole : ℕ) → SeesFrames (Then p q) hole → SeesFrames q (hole + hole_count p)
  frames_second p q hole h y kind r e =
      let one = h (Right y) kind r e in
      let n : hole + (hole_count p + holes_before q y) ≡ hole + hole_count p + holes_before q y = omega arith in
      (one.0, subst (λ k. SeesHoles kind r [] k) n one.1)

  pub first_seen : (kind : Kind) (p q : Plan) (before : List Piece) (hole : ℕ) → Seen kind (Then p q) before hole
      → Seen kind p before hole
  first_seen kind p q before hole h = record {
    holes = λ f fills x classes e leads. h.holes f fills (Left x) classes e (to_first leads);
    frames = frames_first p q hole h.frames;
  }

  pub second_seen : (kind : Kind) (p q : Plan) (before : List Piece) (hole : ℕ) → Seen kind (Then p q) before hole
      → (f : Filled) → FillsHoles f → IsPath p (parts_of_filled f)
      → Seen kind q (filled_pieces context f kind before) (hole + hole_count p)
  second_seen kind p q before hole h f fills path = record {
    holes = λ g more x classes e leads.
        is_at kind (filled_pieces context (filled_then f g) kind before)
        (filled_pieces context g kind (filled_pieces context f kind before))
        (hole + (hole_count p + holes_before q x)) (hole + hole_count p + holes_before q x)
        (sym (pieces_then context f g kind before)) (omega arith)
        (h.holes (filled_then f g) (fills_both f g fills more) (Right x) classes e
        (subst (λ l. LeadsTo (Then p q) l (Right x)) (sym (parts_then f g)) (to_second path leads)));
    frames = frames_second p q hole h.frames;
  }

  one_seen : (kind : Kind) (p q : Plan) (before : List Piece) (hole : ℕ) → Seen kind (Either p q) before hole
      → Seen kind p before hole
  one_seen kind p q before hole h = record {
    holes = λ f fills x classes e leads. h.holes f fills (Left x) classes e (one_way leads);
    frames = λ y k r e. h.frames (Left y) k r e;
  }

  other_seen : (kind : Kind) (p q : Plan) (before : List Piece) (hole : ℕ) → Seen kind (Either p q) before hole
      → Seen kind q before (hole + hole_count p)
  other_seen kind p q before hole h = record {
    holes = λ f fills x classes e leads.
        is_at kind (filled_pieces context f kind before) (filled_pieces context f kind before)
        (hole + (hole_count p + holes_before q x)) (hole + hole_count p + holes_before q x) refl (omega arith)
        (h.holes f fills (Right x) classes e (other_way leads));
    frames = λ y k r e.
        let one = h.frames (Right y) k r e in
        let n : hole + (hole_count p + holes_before q y) ≡ hole + hole_count p + holes_before q y = omega arith in
        (one.0, subst (λ m. SeesHoles k r [] m) n one.1);
  }

  -- a loop's body, and the loop behind one turn
  pub body_seen : (kind : Kind) (at : Site) (p : Plan) (before : List Piece) (hole : ℕ)
      → Seen kind (Loop at p) before hole → IsPath (Loop at p) [] → Seen kind p before hole
  body_seen kind at p before hole h none = record {
    holes = λ f fills x classes e leads. h.holes f fills (Inside x) classes e (in_body none leads);
    frames = λ y k r e. h.frames (Inside y) k r e;
  }

  pub turn_seen : (kind : Kind) (at : Site) (p : Plan) (before : List Piece) (hole : ℕ)
      → Seen kind (Loop at p) before hole → (f : Filled) → FillsHoles f → IsPath p (parts_of_filled f)
      → Seen kind (Loop at p) (filled_pieces context f kind before) hole
  turn_seen kind at p before hole h f fills path = record {
    holes = λ g more x classes e leads.
        is_at kind (filled_pieces context (filled_then f g) kind before)
        (filled_pieces context g kind (filled_pieces context f kind before)) (hole + holes_before (Loop at p) x)
        (hole + holes_before (Loop at p) x) (sym (pieces_then context f g kind before)) refl
        (h.holes (filled_then f g) (fills_both f g fills more) x classes e
        (subst (λ l. LeadsTo (Loop at p) l x) (sym (parts_then f g))
        (turn_leads at p (parts_of_filled f) (parts_of_filled g) x classes path e leads)));
    frames = h.frames;
  }

  -- a frame within
  pub frame_stands : (at : Site) (k : Kind) (p : Plan) (hole : ℕ) → SeesFrames (Frame k at p) hole
      → IsFrameWithin whole k p
  frame_stands at k p hole h = (h Here k p refl).0

  pub frame_seen : (at : Site) (k : Kind) (p : Plan) (hole : ℕ) → SeesFrames (Frame k at p) hole → Seen k p [] hole
  frame_seen at k p hole h =
      let n : hole + 0 ≡ hole = omega arith in record {
        holes = subst (λ m. SeesHoles k p [] m) n (h Here k p refl).1;
        frames = λ y kind r e. h (Inside y) kind r e;
      }

  -- the hole itself
  pub hole_seen : (kind : Kind) (at : Site) (classes : List ValueClass) (before : List Piece) (hole : ℕ)
      → Seen kind (Hole at classes) before hole → IsAt kind before hole
  hole_seen kind at classes before hole h =
      is_at kind before before (hole + 0) hole refl (omega arith) (h.holes filled_end tt Here classes refl to_hole)

  -- ---- arms that stand side by side

  abbrev pub AllSeen : Kind → List Plan → List Piece → ℕ → Type 0
  AllSeen kind [] before hole = Unit {0}
  AllSeen kind (p ∷ ps) before hole = Seen kind p before hole × AllSeen kind ps before (hole + hole_count p)

  pub all_at : (kind : Kind) (ps : List Plan) (before : List Piece) (m n : ℕ) → m ≡ n → AllSeen kind ps before m
      → AllSeen kind ps before n
  all_at kind ps before m n e h = subst (λ k. AllSeen kind ps before k) e h

  pub seen_same : (kind : Kind) (p : Plan) (before : List Piece) (m n : ℕ) → m ≡ n → Seen kind p before m
      → Seen kind p before n
  seen_same kind p before m n e h = subst (λ k. Seen kind p before k) e h

  any_seen : (kind : Kind) (p : Plan) (ps : List Plan) (before : List Piece) (hole : ℕ)
      → Seen kind (any_of p ps) before hole
      → Seen kind p before hole × AllSeen kind ps before (hole + hole_count p)
  any_seen kind p [] before hole h = (h, tt)
  any_seen kind p (q ∷ qs) before hole h =
      let r = any_seen kind (Either p q) qs before hole h in (
        one_seen kind p q before hole r.0,
        (
          other_seen kind p q before hole r.0,
          all_at kind qs before (hole + (hole_count p + hole_count q)) (hole + hole_count p + hole_count q)
              (omega arith) r.1,
        ),
      )

  meet_seen : (kind : Kind) (at : Site) (p : Plan) (before : List Piece) (hole : ℕ) → Seen kind (Meet at p) before hole
      → Seen kind p before hole
  meet_seen kind at p before hole h = record {
    holes = λ f fills x classes e leads. h.holes f fills (Inside x) classes e (in_arms leads);
    frames = λ y k r e. h.frames (Inside y) k r e;
  }

  pub arms_seen : (kind : Kind) (at : Site) (ps : List Plan) (before : List Piece) (hole : ℕ)
      → Seen kind (arms_meet at ps) before hole → AllSeen kind ps before hole
  arms_seen kind at ps before hole h =
      all_at kind ps before (hole + 0) hole (omega arith)
      (any_seen kind Nowhere ps before hole (meet_seen kind at (any_of Nowhere ps) before hole h)).1

  pub all_split : (kind : Kind) (ps qs : List Plan) (before : List Piece) (hole : ℕ)
      → AllSeen kind (ps ++ qs) before hole
      → AllSeen kind ps before hole × AllSeen kind qs before (hole + all_holes ps)
  all_split kind [] qs before hole h = (tt, all_at kind qs before hole (hole + 0) (omega arith) h)
  all_split kind (p ∷ ps) qs before hole h =
      let r = all_split kind ps qs before (hole + hole_count p) h.1 in (
        (h.0, r.0),
        all_at kind qs before (hole + hole_count p + all_holes ps) (hole + (hole_count p + all_holes ps)) (omega arith)
            r.1,
      )

  -- the last one behind others, whose holes are so many
  pub last_seen : (kind : Kind) (ps : List Plan) (q : Plan) (before : List Piece) (hole n : ℕ) → all_holes ps ≡ n
      → AllSeen kind (ps ++ (q ∷ [])) before hole → AllSeen kind ps before hole × Seen kind q before (hole + n)
  last_seen kind ps q before hole n e h =
      let r = all_split kind ps (q ∷ []) before hole h in
      (r.0, seen_same kind q before (hole + all_holes ps) (hole + n) (ap (λ k. hole + k) e) r.1.0)
