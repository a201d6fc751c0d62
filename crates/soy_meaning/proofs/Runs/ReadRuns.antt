-- Under accepted paths what runs give is read without a fault, also where they stop.
use Rattle.std.proofs.Common.{◌≡◌, ℕ, true, List, [], ◌∷◌, ◌++◌, inl, inr, Option, Some, None, Ok, refl, sym, ap, ◌∙◌}
use Rattle.std.proofs.Common.{subst, append_assoc}
use Rattle.std.proofs.lemmas.List.{append-nil}
use Rattle.soy_base.specs.declared.direction.Dir.{Dir}
use Rattle.soy_base.specs.declared.kind.Kind.{Kind}
use Rattle.soy_base.specs.declared.place.ValueClass.{ValueClass}
use Rattle.html_state.specs.AfterValue.{after_value}
use Rattle.html_state.specs.Follows.{Follows}
use Rattle.html_state.specs.KeepsPlace.{KeepsPlaceAt}
use Rattle.html_state.specs.AfterPieces.{after_piece, after_pieces, placing_after}
use Rattle.soy_base.specs.Piece.{Piece, Static, Value}
use Rattle.html_state.specs.Start.{start}
use Rattle.html_state.specs.StatePlacing.{placing}
use Rattle.html_state.specs.TakesClass.{takes_class}
use Rattle.html_state.specs.Texts.{and_then as after}
use Rattle.html_state.specs.declared.row.State.{State}
use Rattle.html_state.specs.declared.row.Tag.{Tag}
use Rattle.html_state.proofs.Pieces.{after_all-append}
use Rattle.soy_pieces.specs.EscapedAt.{escaped_where}
use Rattle.soy_meaning.specs.Paths.Filled.{Filled, FillsHoles, IsBlockKind, IsFrameOf, filled_end, filled_pieces}
use Rattle.soy_meaning.specs.Paths.Filled.{frame_before}
use Rattle.soy_meaning.specs.Paths.Filled.{parts_of_filled, text_before, value_before}
use Rattle.soy_pieces.specs.EscapedAt.{value_form}
use Rattle.soy_meaning.specs.Walks.FourPoints.{AcceptedPaths, FourPoints, takes_classes}
use Rattle.soy_meaning.specs.Runs.FrameRun.{FrameRun, run_outcome, run_plan}
use Rattle.soy_pieces.specs.Outcome.{RunEnd, StopsAt, WholeRun, end_of_outcome, pieces_of_outcome}
use Rattle.soy_meaning.specs.Walks.PageMachine.{page_machine}
use Rattle.soy_meaning.specs.Paths.PathParts.{IsPath, PathPart, after_text, state_after_parts}
use Rattle.soy_meaning.specs.Paths.Plan.{Either, Frame, Loop, Meet, Plan, Then}
use Rattle.soy_pieces.specs.Site.{Site}
use Rattle.soy_meaning.specs.Paths.PlanOfNodes.{kind_class}
use Rattle.soy_meaning.specs.Walks.Points.{Address, Here, Inside, Left, Right, frame_at}
use Rattle.soy_pieces.specs.Pieces.{RunContext}
use Rattle.soy_meaning.specs.Runs.RunsAlong.{FilledByRuns, FitsClasses, IsFrameWithin, IsPathUpTo, RunsAlong}
use Rattle.soy_meaning.proofs.Paths.FinePaths.{Fine}
use Rattle.soy_meaning.proofs.Runs.Goings.{FrameFills, whole_before}
use Rattle.soy_meaning.proofs.Paths.KeptForms.{form_kept}
use Rattle.soy_meaning.proofs.Walks.Moves.{followed_ok}
use Rattle.soy_base.proofs.Results.{ok_same}
use Rattle.soy_meaning.proofs.Paths.Pages.{FrameGoesOn, FrameRuns, IsLost, IsSettled, LeadsOn, follows_itself}
use Rattle.soy_meaning.proofs.Paths.Pages.{form_of_walk}
use Rattle.soy_meaning.proofs.Paths.Pages.{frame_goes_on, frame_law, frame_runs, lost_rest, may_not_end, one_piece}
use Rattle.soy_meaning.proofs.Paths.Pages.{read_behind}
use Rattle.soy_meaning.proofs.Paths.Pages.{starts_settled, takes_one, text_follows, value_follows}

-- ---- the frames of an accepted plan

some_same : (a b : Kind × Plan) → ◌≡◌ {A = Option (Kind × Plan)} (Some a) (Some b) → a ≡ b
some_same a b e = cc

none_some : (a : Kind × Plan) → ◌≡◌ {A = Option (Kind × Plan)} None (Some a) → ⊥
none_some a e = cc

abbrev IsAcceptedFrame : Kind × Plan → Type 0
IsAcceptedFrame found = FourPoints page_machine found.0 found.1 × AcceptedPaths page_machine found.1

accepted_frame : (p : Plan) → AcceptedPaths page_machine p → (y : Address) (found : Kind × Plan)
    → frame_at p y ≡ Some found → IsAcceptedFrame found
accepted_frame (Frame kind at p) h Here found e = subst IsAcceptedFrame (some_same (kind, p) found e) h
accepted_frame (Frame kind at p) h (Inside y) found e = accepted_frame p h.1 y found e
accepted_frame (Then p q) h (Left y) found e = accepted_frame p h.0 y found e
accepted_frame (Then p q) h (Right y) found e = accepted_frame q h.1 y found e
accepted_frame (Either p q) h (Left y) found e = accepted_frame p h.0 y found e
accepted_frame (Either p q) h (Right y) found e = accepted_frame q h.1 y found e
accepted_frame (Meet at p) h (Inside y) found e = accepted_frame p h y found e
accepted_frame (Loop at p) h (Inside y) found e = accepted_frame p h y found e
accepted_frame (Frame kind at p) h (Left y) found e = absurd (none_some found e)
accepted_frame (Frame kind at p) h (Right y) found e = absurd (none_some found e)
accepted_frame _ h _ found e = absurd (none_some found e)

-- a path goes on from where a run of it ends
record GoesOnAs (p : Plan) (parts : List PathPart) : Type 0 where
  pub more : List PathPart
  pub path : IsPath p (parts ++ more)

path_goes_on : (end : RunEnd) (p : Plan) (parts : List PathPart) → IsPathUpTo end p parts → GoesOnAs p parts
path_goes_on WholeRun p parts h = record { more = []; path = subst (λ l. IsPath p l) (sym (append-nil parts)) h }
path_goes_on (StopsAt call) p parts h = record { more = h.0; path = h.1 }

module _ (c : RunContext) (whole : Plan) (accepted : AcceptedPaths page_machine whole) where
  pub frame_of : (kind : Kind) (p : Plan) (parts : List PathPart) → IsFrameWithin whole kind p → IsPath p parts
      → IsFrameOf kind parts
  frame_of kind p parts within path =
      let found : IsAcceptedFrame (kind, p) = accepted_frame whole accepted within.0 (kind, p) within.1 in
      record { plan = p; points = found.0; inner = found.1; path = path }

  pub runs_fill_holes : (f : Filled) (q : FrameRun) → FilledByRuns c whole q WholeRun f → FitsClasses f → FillsHoles f
  runs_fill_holes filled_end q runs fits = tt
  runs_fill_holes (text_before text f) q runs fits = runs_fill_holes f q runs fits
  runs_fill_holes (value_before at classes value text f) q runs fits =
      (fits.0, runs.0, runs_fill_holes f q runs.1 fits.1)
  runs_fill_holes (frame_before at classes kind inner f) q runs fits =
      let frame : FrameFills c whole q WholeRun at kind inner =
      whole_before f (λ e. FrameFills c whole q e at kind inner) runs.1 in (
        runs.0,
        fits.0,
        frame_of kind (run_plan c frame.0.frame) (parts_of_filled inner) frame.0.within frame.0.path,
        runs_fill_holes inner frame.0.frame frame.1 fits.1,
        runs_fill_holes f q runs.2 fits.2,
      )

module _ (c : RunContext) (whole : Plan) (accepted : AcceptedPaths page_machine whole) where
  abbrev context : Dir
  context = c.direction

  -- the pieces behind those so far are read by the page
  record IsRead (so_far all : List Piece) (page : State) : Type 0 where
    pub more : List Piece
    pub is : all ≡ so_far ++ more
    pub now : State
    pub reads : after_pieces page more ≡ Ok now

  abbrev ReadFrom : Filled → Type 0
  ReadFrom f =
      (around : Option Tag) (kind : Kind) (so_far : List Piece) (own page walk : State)
      → after_pieces (start kind) so_far ≡ Ok own → Follows None own walk → Follows around page walk
      → IsSettled walk →
      (more : List PathPart) (last : State) → Fine page_machine (parts_of_filled f ++ more) walk
      → state_after_parts page_machine (parts_of_filled f ++ more) walk ≡ Ok last → (IsLost last → ⊥) →
      IsRead so_far (filled_pieces context f kind so_far) page

  -- past what stands first
  read_past : (f : Filled) → ReadFrom f → (around : Option Tag) (kind : Kind) (so_far first : List Piece)
      (own page walk : State) → after_pieces (start kind) so_far ≡ Ok own → LeadsOn None first own walk
      → LeadsOn around first page walk → IsSettled walk →
      (more : List PathPart) (last : State) → Fine page_machine (parts_of_filled f ++ more) walk
      → state_after_parts page_machine (parts_of_filled f ++ more) walk ≡ Ok last → (IsLost last → ⊥) →
      IsRead so_far (filled_pieces context f kind (so_far ++ first)) page
  read_past f read around kind so_far first own page walk reads own_led page_led settled more last fine leads kept =
      let r : IsRead (so_far ++ first) (filled_pieces context f kind (so_far ++ first)) page_led.0 =
      read around kind (so_far ++ first) own_led.0 page_led.0 walk
      (read_behind kind so_far first own own_led.0 reads own_led.1) own_led.2 page_led.2 settled more last fine
      leads kept in
      record {
        more = first ++ r.more;
        is = r.is ∙ append_assoc so_far first r.more;
        now = r.now;
        reads = after_all-append after_piece page first r.more
            ∙ (ap (after (λ past. after_pieces past r.more)) page_led.1 ∙ r.reads);
      }

  -- past a whole frame
  past_frame : (f : Filled) → ReadFrom f → (q : FrameRun) (at : Site) (classes : List ValueClass) (inner_kind : Kind)
      (inner : Filled) → IsBlockKind inner_kind → FrameFills c whole q WholeRun at inner_kind inner →
      FitsClasses inner → ((placed : State) → takes_classes (placing placed) classes ≡ true
      → takes_class (placing placed) (kind_class inner_kind) ≡ true)
      → ReadFrom (frame_before at classes inner_kind inner f)
  past_frame f read q at classes inner_kind inner block frame fits one around kind so_far own page walk reads
      own_follows page_follows settled more last fine leads kept =
      let takes : takes_class (placing walk) (kind_class inner_kind) ≡ true = one walk fine.0 in
      let is_frame : IsFrameOf inner_kind (parts_of_filled inner) =
      frame_of c whole accepted inner_kind (run_plan c frame.0.frame) (parts_of_filled inner) frame.0.within
      frame.0.path in
      let fills : FillsHoles inner = runs_fill_holes c whole accepted inner frame.0.frame frame.1 fits in
      read_past f read around kind so_far (filled_pieces context inner inner_kind []) own page (after_value walk)
      reads (frame_law context None own walk inner_kind inner own_follows settled block takes is_frame fills)
      (frame_law context around page walk inner_kind inner page_follows settled block takes is_frame fills) settled
      more last fine.1 leads kept

  read_on : (f : Filled) (end : RunEnd) (q : FrameRun) → FilledByRuns c whole q end f → FitsClasses f → ReadFrom f
  read_on filled_end end q runs fits around kind so_far own page walk reads own_follows page_follows settled more last
      fine leads kept =
      record { more = []; is = sym (append-nil so_far); now = page; reads = refl }
  read_on (text_before text f) end q runs fits around kind so_far own page walk reads own_follows page_follows settled
      more last fine leads kept =
      let rest : List PathPart = parts_of_filled f ++ more in
      let p : (w : State) × (after_text page_machine text walk ≡ Ok w)
      × (state_after_parts page_machine rest w ≡ Ok last) = followed_ok (after_text page_machine text walk)
      (λ w. state_after_parts page_machine rest w) last leads in
      let fine_rest : Fine page_machine rest p.0 =
      subst (λ w. Fine page_machine rest w) (ok_same fine.0 p.0 (sym fine.1 ∙ p.1)) fine.2 in
      elim (text_follows None text own walk p.0 own_follows p.1) [
        | inl lost ↦ absurd (kept (lost_rest rest p.0 last lost fine_rest p.2))
        | inr o ↦ elim (text_follows around text page walk p.0 page_follows p.1) [
          | inl lost ↦ absurd (kept (lost_rest rest p.0 last lost fine_rest p.2))
          | inr g ↦ read_past f (read_on f end q runs fits) around kind so_far (Static text ∷ []) own page p.0 reads
              (o.0, one_piece own o.0 (Static text) o.1, o.2) (g.0, one_piece page g.0 (Static text) g.1, g.2) g.3
              more last fine_rest p.2 kept
        ]
      ]
  read_on (value_before at classes value text f) end q runs fits around kind so_far own page walk reads own_follows
      page_follows settled more last fine leads kept =
      let form : (out : List ℕ) × (escaped_where (placing walk) value text context ≡ Some out)
      × KeepsPlaceAt (placing walk) out = form_kept (placing walk) value text context
      (takes_one (placing walk) value classes fine.0 fits.0) runs.0 in
      let is_out : value_form (placing_after kind so_far) value text context ≡ form.0 =
      form_of_walk context kind so_far own walk classes value text form.0 reads own_follows fine.0 form.1 in
      read_past f (read_on f end q runs.1 fits.1) around kind so_far
      (Value (value_form (placing_after kind so_far) value text context) ∷ []) own page (after_value walk) reads
      (subst (λ o. LeadsOn None (Value o ∷ []) own (after_value walk)) (sym is_out)
      (value_follows None own walk form.0 own_follows form.2))
      (subst (λ o. LeadsOn around (Value o ∷ []) page (after_value walk)) (sym is_out)
      (value_follows around page walk form.0 page_follows form.2)) settled more last fine.1 leads kept
  read_on (frame_before at classes inner_kind inner filled_end) end q runs fits around kind so_far own page walk reads
      own_follows page_follows settled more last fine leads kept =
      let frame : FrameFills c whole q end at inner_kind inner = runs.1 in
      let plan : Plan = run_plan c frame.0.frame in
      let takes : takes_class (placing walk) (kind_class inner_kind) ≡ true =
      takes_one (placing walk) (kind_class inner_kind) classes fine.0 fits.0 in
      let g : FrameGoesOn around page walk inner_kind = frame_goes_on around page walk inner_kind runs.0 page_follows
      takes settled in
      let longer : GoesOnAs plan (parts_of_filled inner) = path_goes_on end plan (parts_of_filled inner)
      frame.0.path in
      let run : FrameRuns inner_kind (parts_of_filled inner ++ longer.more) =
      frame_runs inner_kind (parts_of_filled inner ++ longer.more)
      (frame_of c whole accepted inner_kind plan (parts_of_filled inner ++ longer.more) frame.0.within longer.path) in
      let r : IsRead [] (filled_pieces context inner inner_kind []) page =
      read_on inner end frame.0.frame frame.1 fits.1 g.0 inner_kind [] (start inner_kind) page (start inner_kind) refl
      (follows_itself (start inner_kind)) g.1 (starts_settled inner_kind) longer.more run.last run.fine run.leads
      (λ lost. may_not_end inner_kind run.last lost run.ends) in
      record {
        more = filled_pieces context inner inner_kind [];
        is = refl;
        now = r.now;
        reads = subst (λ l. after_pieces page l ≡ Ok r.now) (sym r.is) r.reads;
      }
  read_on (frame_before at classes inner_kind inner (text_before text f)) end q runs fits around kind so_far own page
      walk reads own_follows page_follows settled more last fine leads kept =
      past_frame (text_before text f) (read_on (text_before text f) end q runs.2 fits.2) q at classes inner_kind inner
      runs.0 runs.1 fits.1 (λ s all. takes_one (placing s) (kind_class inner_kind) classes all fits.0)
      around kind so_far own page walk reads own_follows page_follows settled more last fine leads kept
  read_on (frame_before at classes inner_kind inner (value_before spot others value text f)) end q runs fits around
      kind so_far own page walk reads own_follows page_follows settled more last fine leads kept =
      past_frame (value_before spot others value text f)
      (read_on (value_before spot others value text f) end q runs.2 fits.2) q at
      classes inner_kind inner runs.0 runs.1 fits.1
      (λ s all. takes_one (placing s) (kind_class inner_kind) classes all fits.0)
      around kind so_far own page walk reads own_follows page_follows settled more last fine leads kept
  read_on (frame_before at classes inner_kind inner (frame_before spot others other within f)) end q runs fits around
      kind so_far own page walk reads own_follows page_follows settled more last fine leads kept =
      past_frame (frame_before spot others other within f)
      (read_on (frame_before spot others other within f) end q runs.2 fits.2) q at
      classes inner_kind inner runs.0 runs.1 fits.1
      (λ s all. takes_one (placing s) (kind_class inner_kind) classes all fits.0)
      around kind so_far own page walk reads own_follows page_follows settled more last fine leads kept

  pub runs_are_read : (q : FrameRun) → IsFrameWithin whole q.kind (run_plan c q) → (r : RunsAlong c whole q)
      → FitsClasses r.filled → (now : State)
      × (after_pieces (start q.kind) (pieces_of_outcome (run_outcome c q)) ≡ Ok now)
  runs_are_read q within r fits =
      let p : Plan = run_plan c q in
      let end : RunEnd = end_of_outcome (run_outcome c q) in
      let kind : Kind = q.kind in
      let longer : GoesOnAs p (parts_of_filled r.filled) = path_goes_on end p (parts_of_filled r.filled) r.path in
      let run : FrameRuns kind (parts_of_filled r.filled ++ longer.more) =
      frame_runs kind (parts_of_filled r.filled ++ longer.more)
      (frame_of c whole accepted kind p (parts_of_filled r.filled ++ longer.more) within longer.path) in
      let read : IsRead [] (filled_pieces context r.filled kind []) (start kind) =
      read_on r.filled end q r.runs fits None kind [] (start kind) (start kind) (start kind) refl
      (follows_itself (start kind)) (follows_itself (start kind)) (starts_settled kind) longer.more run.last
      run.fine run.leads (λ lost. may_not_end kind run.last lost run.ends) in
      (read.now, subst (λ l. after_pieces (start kind) l ≡ Ok read.now) (sym (r.pieces ∙ read.is)) read.reads)
