-- How a run goes along a path: through all of it, or to a stop.
use Rattle.std.proofs.Common.{◌≡◌, ℕ, Bool, true, false, List, [], ◌∷◌, ◌++◌, ◌⊎◌, inl, inr, if◌then◌else◌, refl, sym}
use Rattle.std.proofs.Common.{ap, ◌∙◌, subst, append_assoc}
use Rattle.std.proofs.lemmas.List.{append-nil}
use Rattle.soy_base.specs.declared.direction.Dir.{Dir}
use Rattle.soy_base.specs.declared.kind.Kind.{Kind}
use Rattle.soy_base.specs.declared.kind.Kind.TheVariants as kinds
use Rattle.soy_base.specs.declared.place.ValueClass.{ValueClass}
use Rattle.html_state.specs.AfterPieces.{after_pieces, placing_after}
use Rattle.soy_base.specs.Piece.{Piece, Static, Value}
use Rattle.html_state.specs.Start.{start}
use Rattle.soy_rules.specs.Val.{Binding, BlockOf, Known, value_text}
use Rattle.soy_tree.specs.Values as values
use Rattle.soy_tree.specs.Values.{StringValue}
use Rattle.soy_meaning.specs.Paths.Filled.{Filled, IsBlockKind, filled_end, filled_pieces, frame_before}
use Rattle.soy_meaning.specs.Paths.Filled.{parts_of_filled}
use Rattle.soy_meaning.specs.Paths.Filled.{text_before, value_before}
use Rattle.soy_pieces.specs.EscapedAt.{value_form}
use Rattle.soy_pieces.specs.Giving.{BoundBlock, StateSoFar, block_bound, called_means, frame_means, piece_means}
use Rattle.soy_pieces.specs.Giving.{placing_so_far, printed_means, read_outcome, text_means, value_class}
use Rattle.soy_pieces.specs.Giving.{value_means}
use Rattle.soy_meaning.specs.Runs.FrameRun.{FrameRun, IsBlockOf, run_outcome, run_plan}
use Rattle.soy_pieces.specs.Meaning.{bound_as}
use Rattle.soy_meaning.specs.Runs.GivenAt.{IsGivenAt}
use Rattle.soy_pieces.specs.Outcome.{Outcome, RunEnd, RunEnds, StopsAt, WholeRun, continued_by, end_of_outcome}
use Rattle.soy_pieces.specs.Outcome.{gathered, gives_nothing, none_spent, pieces_of_outcome}
use Rattle.soy_pieces.specs.Pieces.{RunContext}
use Rattle.soy_meaning.specs.Paths.PathParts.{IsPath, PathPart, empty_path, hole, met, static_text}
use Rattle.soy_meaning.specs.Paths.Plan.{Plan, Hole, Nothing, Nowhere, arms_meet}
use Rattle.soy_pieces.specs.Site.{Site}
use Rattle.soy_meaning.specs.Paths.PlanOfParts.{text_plan}
use Rattle.soy_meaning.specs.Paths.PlanOfNodes.{kind_class}
use Rattle.soy_meaning.specs.Runs.RunsAlong.{BlockRuns, FilledByRuns, FitsClasses, IsFrameWithin, IsPathUpTo, RunsAlong}
use Rattle.soy_meaning.specs.Runs.RunsAlong.{RunsInFrame, end_before}
use Rattle.soy_meaning.specs.Walks.States.{IsMember}
use Rattle.soy_meaning.proofs.Runs.RunPieces.{ComesBehind, Halts, IsGathered, IsSilent, SameRun, StopsOnlyAt}
use Rattle.soy_meaning.proofs.Runs.RunPieces.{filled_then}
use Rattle.soy_meaning.proofs.Runs.RunPieces.{gathered_silent, parts_then, pieces_then, placing_is, read_all, read_more}
use Rattle.soy_meaning.proofs.Runs.RunPieces.{stop_followed, stop_not_whole, whole_followed}
use Rattle.soy_meaning.proofs.Paths.SomePaths.{HasPath, any_member}
use Rattle.soy_pieces.proofs.ValueTexts.{text_of_value}

-- ---- the ends of frames in holes

pub whole_before : (f : Filled) (P : RunEnd → Type 0) → P (end_before f WholeRun) → P WholeRun
whole_before filled_end P h = h
whole_before (text_before text f) P h = h
whole_before (value_before at classes value text f) P h = h
whole_before (frame_before at classes kind inner f) P h = h

either_end : (f : Filled) (end : RunEnd) (P : RunEnd → Type 0) → P WholeRun → P end → P (end_before f end)
either_end filled_end end P whole stops = stops
either_end (text_before text f) end P whole stops = whole
either_end (value_before at classes value text f) end P whole stops = whole
either_end (frame_before at classes kind inner f) end P whole stops = whole

path_up_to : (end : RunEnd) (p : Plan) (parts : List PathPart) → IsPath p parts → IsPathUpTo end p parts
path_up_to WholeRun p parts h = h
path_up_to (StopsAt call) p parts h = ([], subst (λ l. IsPath p l) (sym (append-nil parts)) h)

module _ (c : RunContext) (whole : Plan) where
  -- what fills a hole with a frame that is given there
  abbrev pub FrameFills : FrameRun → RunEnd → Site → Kind → Filled → Type 0
  FrameFills q end at kind inner =
      (r : RunsInFrame c whole q end at kind (parts_of_filled inner)) × FilledByRuns c whole r.frame end inner

  abbrev frame_up_to : (end : RunEnd) (q : FrameRun) (at : Site) (kind : Kind) (parts : List PathPart)
      → RunsInFrame c whole q WholeRun at kind parts → RunsInFrame c whole q end at kind parts
  frame_up_to end q at kind parts r = record {
    frame = r.frame;
    is_kind = r.is_kind;
    given = r.given;
    within = r.within;
    path = path_up_to end (run_plan c r.frame) parts r.path;
  }

  -- what holds of whole runs holds up to any end
  runs_up_to : (end : RunEnd) (f : Filled) (q : FrameRun) → FilledByRuns c whole q WholeRun f
      → FilledByRuns c whole q end f
  runs_up_to end filled_end q h = tt
  runs_up_to end (text_before text f) q h = runs_up_to end f q h
  runs_up_to end (value_before at classes value text f) q h = (h.0, runs_up_to end f q h.1)
  runs_up_to end (frame_before at classes kind inner f) q h =
      let frame : FrameFills q WholeRun at kind inner = whole_before f (λ e. FrameFills q e at kind inner) h.1 in (
        h.0,
        either_end f end (λ e. FrameFills q e at kind inner) frame
            (frame_up_to end q at kind (parts_of_filled inner) frame.0, runs_up_to end inner frame.0.frame frame.1),
        runs_up_to end f q h.2,
      )

  pub runs_then : (end : RunEnd) (f g : Filled) (q : FrameRun) → FilledByRuns c whole q WholeRun f
      → FilledByRuns c whole q end g → FilledByRuns c whole q end (filled_then f g)
  runs_then end filled_end g q h k = k
  runs_then end (text_before text f) g q h k = runs_then end f g q h k
  runs_then end (value_before at classes value text f) g q h k = (h.0, runs_then end f g q h.1 k)
  runs_then end (frame_before at classes kind inner f) g q h k =
      let frame : FrameFills q WholeRun at kind inner = whole_before f (λ e. FrameFills q e at kind inner) h.1 in (
        h.0,
        either_end (filled_then f g) end (λ e. FrameFills q e at kind inner) frame
            (frame_up_to end q at kind (parts_of_filled inner) frame.0, runs_up_to end inner frame.0.frame frame.1),
        runs_then end f g q h.2 k,
      )

fits_then : (f g : Filled) → FitsClasses f → FitsClasses g → FitsClasses (filled_then f g)
fits_then filled_end g h k = k
fits_then (text_before text f) g h k = fits_then f g h k
fits_then (value_before at classes value text f) g h k = (h.0, fits_then f g h.1 k)
fits_then (frame_before at classes kind inner f) g h k = (h.0, h.1, fits_then f g h.2 k)

-- what is printed has one of the classes
abbrev pub HasClass : Binding BoundBlock → List ValueClass → Type 0
HasClass (Known v) classes = IsMember (value_class v) classes
HasClass (BlockOf block) classes = IsMember (kind_class block.kind) classes

abbrev stop_call : RunEnd → Site → Site
stop_call WholeRun other = other
stop_call (StopsAt call) other = call

same_stop : (a b : Site) → StopsAt a ≡ StopsAt b → a ≡ b
same_stop a b e = ap (λ end. stop_call end a) e

-- how a block ends that is bound
abbrev bound_end : Binding BoundBlock → RunEnd
bound_end (Known v) = WholeRun
bound_end (BlockOf block) = end_of_outcome block.outcome

-- a block that is bound runs along a path of a frame of the whole plan, and stops at one of these calls alone; under
-- the claim what is in its holes has their classes
module _ (c : RunContext) (whole : Plan) (Claim : Type 0) (IsStop : Site → Type 0) where
  abbrev pub IsGood : Binding BoundBlock → Type 0
  IsGood (Known v) = Unit {0}
  IsGood (BlockOf block) =
      (r : BlockRuns c whole block) × StopsOnlyAt IsStop block.outcome × (Claim → FitsClasses r.runs.filled)

  -- what is run of a frame
  pub record Ran (q : FrameRun) : Type 0 where
    pub within : IsFrameWithin whole q.kind (run_plan c q)
    pub runs : RunsAlong c whole q
    pub stops : StopsOnlyAt IsStop (run_outcome c q)
    pub fits : Claim → FitsClasses runs.filled

module _ (c : RunContext) (whole : Plan) (Claim : Type 0) (IsStop : Site → Type 0) (run : FrameRun) where
  abbrev context : Dir
  context = c.direction

  abbrev kind : Kind
  kind = run.kind

  -- the state after pieces of the frame
  abbrev pub after_so_far : List Piece → StateSoFar
  after_so_far before = after_pieces (start kind) before

  -- behind these pieces the outcome gives what fills a path of the plan, and goes on as the other
  pub record Through (p : Plan) (before : List Piece) (o : Outcome) (on : StateSoFar → Outcome) : Type 0 where
    pub filled : Filled
    pub path : IsPath p (parts_of_filled filled)
    pub runs : FilledByRuns c whole run WholeRun filled
    pub fits : Claim → FitsClasses filled
    pub pieces : before ++ pieces_of_outcome o ≡ filled_pieces context filled kind before ++ pieces_of_outcome
        (on (after_so_far (filled_pieces context filled kind before)))
    pub ends : end_of_outcome o ≡ end_of_outcome (on (after_so_far (filled_pieces context filled kind before)))

  -- or it gives what fills a prefix of a path, and stops
  pub record Stopped (p : Plan) (before : List Piece) (o : Outcome) : Type 0 where
    pub filled : Filled
    pub call : Site
    pub more : List PathPart
    pub path : IsPath p (parts_of_filled filled ++ more)
    pub runs : FilledByRuns c whole run (StopsAt call) filled
    pub fits : Claim → FitsClasses filled
    pub pieces : before ++ pieces_of_outcome o ≡ filled_pieces context filled kind before
    pub ends : end_of_outcome o ≡ StopsAt call
    pub stops : IsStop call

  abbrev pub Goes : Plan → List Piece → Outcome → (StateSoFar → Outcome) → Type 0
  Goes p before o on = Through p before o on ⊎ Stopped p before o

  pub same_goes : (p : Plan) (before : List Piece) (o other : Outcome) (on : StateSoFar → Outcome) → SameRun o other
      → Goes p before other on → Goes p before o on
  same_goes p before o other on same (inl t) =
      inl (record {
        filled = t.filled;
        path = t.path;
        runs = t.runs;
        fits = t.fits;
        pieces = ap (λ l. before ++ l) same.pieces
            ∙ t.pieces;
        ends = same.ends ∙ t.ends;
      })
  same_goes p before o other on same (inr s) =
      inr (record {
        filled = s.filled;
        call = s.call;
        more = s.more;
        path = s.path;
        runs = s.runs;
        fits = s.fits;
        pieces = ap (λ l. before ++ l) same.pieces ∙ s.pieces;
        ends = same.ends ∙ s.ends;
        stops = s.stops;
      })

  -- along a plan that has these paths too
  pub along : (p q : Plan) (before : List Piece) (o : Outcome) (on : StateSoFar → Outcome)
      → ((l : List PathPart) → IsPath p l → IsPath q l) → Goes p before o on → Goes q before o on
  along p q before o on has (inl t) =
      inl (record {
        filled = t.filled;
        path = has (parts_of_filled t.filled) t.path;
        runs = t.runs;
        fits = t.fits;
        pieces = t.pieces;
        ends = t.ends;
      })
  along p q before o on has (inr s) =
      inr (record {
        filled = s.filled;
        call = s.call;
        more = s.more;
        path = has (parts_of_filled s.filled ++ s.more)
            s.path;
        runs = s.runs;
        fits = s.fits;
        pieces = s.pieces;
        ends = s.ends;
        stops = s.stops;
      })

  -- ---- one and then another

  abbrev pub Joins : Plan → Plan → Plan → Type 0
  Joins p q r = (a b : List PathPart) → IsPath p a → IsPath q b → IsPath r (a ++ b)

  through_both : (p q r : Plan) (before : List Piece) (o : Outcome) (on next : StateSoFar → Outcome) → Joins p q r
      → (t : Through p before o on) →
      Through q (filled_pieces context t.filled kind before)
      (on (after_so_far (filled_pieces context t.filled kind before))) next → Through r before o next
  through_both p q r before o on next joins t u =
      let is : filled_pieces context u.filled kind (filled_pieces context t.filled kind before)
      ≡ filled_pieces context (filled_then t.filled u.filled) kind before =
      sym (pieces_then context t.filled u.filled kind before) in
      record {
        filled = filled_then t.filled u.filled;
        path = subst (λ l. IsPath r l) (sym (parts_then t.filled u.filled))
            (joins (parts_of_filled t.filled) (parts_of_filled u.filled) t.path u.path);
        runs = runs_then c whole WholeRun t.filled u.filled run t.runs u.runs;
        fits = λ k. fits_then t.filled u.filled (t.fits k) (u.fits k);
        pieces = t.pieces ∙ (u.pieces ∙ ap (λ l. l ++ pieces_of_outcome (next (after_so_far l))) is);
        ends = t.ends ∙ (u.ends ∙ ap (λ l. end_of_outcome (next (after_so_far l))) is);
      }

  pub through_stopped : (p q r : Plan) (before : List Piece) (o : Outcome) (on : StateSoFar → Outcome) → Joins p q r
      → (t : Through p before o on) →
      Stopped q (filled_pieces context t.filled kind before)
      (on (after_so_far (filled_pieces context t.filled kind before))) → Stopped r before o
  through_stopped p q r before o on joins t s = record {
    filled = filled_then t.filled s.filled;
    call = s.call;
    more = s.more;
    path = subst (λ l. IsPath r l)
        (sym (ap (λ l. l ++ s.more) (parts_then t.filled s.filled) ∙ append_assoc (parts_of_filled t.filled)
        (parts_of_filled s.filled) s.more))
        (joins (parts_of_filled t.filled) (parts_of_filled s.filled ++ s.more) t.path s.path);
    runs = runs_then c whole (StopsAt s.call) t.filled s.filled run t.runs s.runs;
    fits = λ k. fits_then t.filled s.filled (t.fits k) (s.fits k);
    pieces = t.pieces ∙ (s.pieces ∙ sym (pieces_then context t.filled s.filled kind before));
    ends = t.ends ∙ s.ends;
    stops = s.stops;
  }

  pub stopped_first : (p q r : Plan) (before : List Piece) (o : Outcome) → Joins p q r → HasPath q
      → Stopped p before o → Stopped r before o
  stopped_first p q r before o joins has s = record {
    filled = s.filled;
    call = s.call;
    more = s.more ++ has.parts;
    path = subst (λ l. IsPath r l) (append_assoc (parts_of_filled s.filled) s.more has.parts)
        (joins (parts_of_filled s.filled ++ s.more) has.parts s.path has.path);
    runs = s.runs;
    fits = s.fits;
    pieces = s.pieces;
    ends = s.ends;
    stops = s.stops;
  }

  -- behind what is gone through
  pub goes_behind : (p q r : Plan) (before : List Piece) (o : Outcome) (on next : StateSoFar → Outcome) → Joins p q r
      → (t : Through p before o on) →
      Goes q (filled_pieces context t.filled kind before)
      (on (after_so_far (filled_pieces context t.filled kind before))) next → Goes r before o next
  goes_behind p q r before o on next joins t (inl u) = inl (through_both p q r before o on next joins t u)
  goes_behind p q r before o on next joins t (inr s) = inr (through_stopped p q r before o on joins t s)

  pub goes_both : (p q r : Plan) (before : List Piece) (o : Outcome) (on next : StateSoFar → Outcome) → Joins p q r
      → HasPath q → Goes p before o on →
      ((more : List Piece) → Goes q more (on (after_so_far more)) next) → Goes r before o next
  goes_both p q r before o on next joins has (inl t) rest = goes_behind p q r before o on next joins t
      (rest (filled_pieces context t.filled kind before))
  goes_both p q r before o on next joins has (inr s) rest = inr (stopped_first p q r before o joins has s)

  -- ---- nothing, texts and values

  pub passes : (p : Plan) (before : List Piece) (on : StateSoFar → Outcome) → IsPath p []
      → Goes p before (on (after_so_far before)) on
  passes p before on path =
      inl (record { filled = filled_end; path = path; runs = tt; fits = λ k. tt; pieces = refl; ends = refl })

  pub halts_stopped : (p : Plan) (before : List Piece) (o : Outcome) → HasPath p → Halts IsStop o → Stopped p before o
  halts_stopped p before o has h = record {
    filled = filled_end;
    call = h.call;
    more = has.parts;
    path = has.path;
    runs = tt;
    fits = λ k. tt;
    pieces = ap (λ l. before ++ l) h.pieces ∙ append-nil before;
    ends = h.ends;
    stops = h.stops;
  }

  halts_goes : (p : Plan) (before : List Piece) (o : Outcome) (on : StateSoFar → Outcome) → HasPath p → Halts IsStop o
      → Goes p before o on
  halts_goes p before o on has h = inr (halts_stopped p before o has h)

  pub silent_goes : {A : Type 0} (IsFine : A → Type 0) (p : Plan) (before : List Piece) (o : Outcome)
      (next : A → Outcome) (on : StateSoFar → Outcome) → HasPath p →
      IsSilent IsStop IsFine o next → ((a : A) → IsFine a → Goes p before (next a) on) → Goes p before o on
  silent_goes IsFine p before o next on has (inl b) rest = same_goes p before o (next b.value) on b.same
      (rest b.value b.good)
  silent_goes IsFine p before o next on has (inr h) rest = halts_goes p before o on has h

  piece_pieces : (before : List Piece) (piece : Piece) (on : StateSoFar → Outcome) →
      before ++ pieces_of_outcome (piece_means piece (after_so_far before) on) ≡ (before ++ (piece ∷ []))
      ++ pieces_of_outcome (on (after_so_far (before ++ (piece ∷ []))))
  piece_pieces before piece on =
      ap (λ r. before ++ (piece ∷ pieces_of_outcome (on r))) (read_more (start kind) before piece)
      ∙ sym (append_assoc before (piece ∷ []) (pieces_of_outcome (on (after_so_far (before ++ (piece ∷ []))))))

  piece_ends : (before : List Piece) (piece : Piece) (on : StateSoFar → Outcome) →
      end_of_outcome (piece_means piece (after_so_far before) on)
      ≡ end_of_outcome (on (after_so_far (before ++ (piece ∷ []))))
  piece_ends before piece on = ap (λ r. end_of_outcome (on r)) (read_more (start kind) before piece)

  pub text_goes : (at : Site) (text : List ℕ) (before : List Piece) (on : StateSoFar → Outcome)
      → Goes (text_plan at text) before (text_means text (after_so_far before) on) on
  text_goes at [] before on = passes Nothing before on empty_path
  text_goes at (c ∷ text) before on =
      inl (record {
        filled = text_before (c ∷ text) filled_end;
        path = static_text;
        runs = tt;
        fits = λ k. tt;
        pieces = piece_pieces before (Static (c ∷ text)) on;
        ends = piece_ends before (Static (c ∷ text)) on;
      })

  pub value_goes : (at : Site) (classes : List ValueClass) (v : values.Value) (before : List Piece)
      (on : StateSoFar → Outcome) → (Claim → IsMember (value_class v) classes)
      → Goes (Hole at classes) before (value_means context v (after_so_far before) on) on
  value_goes at classes v before on fits =
      let form : List ℕ = value_form (placing_after kind before) (value_class v) (value_text v) context in
      let is : form ≡ value_form (placing_so_far (after_so_far before)) (value_class v) (value_text v) context =
      ap (λ r. value_form r (value_class v) (value_text v) context) (sym (placing_is kind before)) in
      let goes : Goes (Hole at classes) before (piece_means (Value form) (after_so_far before) on) on = inl (record {
        filled = value_before at classes (value_class v) (value_text v) filled_end;
        path = hole;
        runs = (text_of_value v, tt);
        fits = λ k. (fits k, tt);
        pieces = piece_pieces before (Value form) on;
        ends = piece_ends before (Value form) on;
      }) in
      subst (λ out. Goes (Hole at classes) before (piece_means (Value out) (after_so_far before) on) on) is goes

  -- ---- frames

  -- under the claim the frame has a class of the hole
  abbrev FrameFits : FrameRun → List ValueClass → Type 0
  FrameFits inner classes = Claim → IsMember (kind_class inner.kind) classes

  -- the frame that fills a hole
  pub frame_fills : (at : Site) (classes : List ValueClass) (inner : FrameRun) → IsBlockKind inner.kind
      → IsGivenAt c run at inner → (r : Ran c whole Claim IsStop inner) (end : RunEnd)
      → end_of_outcome (run_outcome c inner) ≡ end →
      FilledByRuns c whole run end (frame_before at classes inner.kind r.runs.filled filled_end)
  frame_fills at classes inner is_block given r end ends = (
    is_block,
    (
      record {
        frame = inner;
        is_kind = refl;
        given = given;
        within = r.within;
        path = subst (λ e. IsPathUpTo e (run_plan c inner) (parts_of_filled r.runs.filled)) ends r.runs.path;
      },
      subst (λ e. FilledByRuns c whole inner e r.runs.filled) ends r.runs.runs,
    ),
    tt,
  )

  frame_whole : (at : Site) (classes : List ValueClass) (inner : FrameRun) (before : List Piece)
      (on : StateSoFar → Outcome) → FrameFits inner classes → IsBlockKind inner.kind → IsGivenAt c run at inner
      → (r : Ran c whole Claim IsStop inner)
      → end_of_outcome (run_outcome c inner) ≡ WholeRun
      → Goes (Hole at classes) before (frame_means (run_outcome c inner) (after_so_far before) on) on
  frame_whole at classes inner before on fits is_block given r ends =
      let o : Outcome = run_outcome c inner in
      let filled : Filled = r.runs.filled in
      let rest : Outcome = on (read_outcome (after_so_far before) o) in
      let behind : ComesBehind o rest (continued_by o rest) = whole_followed o rest ends in
      let state : read_outcome (after_so_far before) o
      ≡ after_so_far (before ++ filled_pieces context filled inner.kind []) = read_all (start kind) before o
      ∙ ap (λ l. after_so_far (before ++ l)) r.runs.pieces in
      inl (record {
        filled = frame_before at classes inner.kind filled filled_end;
        path = hole;
        runs = frame_fills at classes inner is_block given r WholeRun ends;
        fits = λ k. (fits k, r.fits k, tt);
        pieces = ap (λ l. before ++ l) behind.pieces
            ∙ (sym (append_assoc before (pieces_of_outcome o) (pieces_of_outcome rest))
            ∙ (ap (λ l. (before ++ l) ++ pieces_of_outcome rest) r.runs.pieces
            ∙ ap (λ s. (before ++ filled_pieces context filled inner.kind []) ++ pieces_of_outcome (on s)) state));
        ends = behind.ends ∙ ap (λ s. end_of_outcome (on s)) state;
      })

  frame_stops : (at : Site) (classes : List ValueClass) (inner : FrameRun) (before : List Piece)
      (on : StateSoFar → Outcome) → FrameFits inner classes → IsBlockKind inner.kind → IsGivenAt c run at inner
      → (r : Ran c whole Claim IsStop inner)
      (call : Site) → end_of_outcome (run_outcome c inner) ≡ StopsAt call
      → Goes (Hole at classes) before (frame_means (run_outcome c inner) (after_so_far before) on) on
  frame_stops at classes inner before on fits is_block given r call ends =
      let o : Outcome = run_outcome c inner in
      let rest : Outcome = on (read_outcome (after_so_far before) o) in
      let same : SameRun (continued_by o rest) o = stop_followed o rest call ends in
      inr (record {
        filled = frame_before at classes inner.kind r.runs.filled filled_end;
        call = call;
        more = [];
        path = hole;
        runs = frame_fills at classes inner is_block given r (StopsAt call) ends;
        fits = λ k. (fits k, r.fits k, tt);
        pieces = ap (λ l. before ++ l) (same.pieces ∙ r.runs.pieces);
        ends = same.ends ∙ ends;
        stops = r.stops call ends;
      })

  frame_by_end : (at : Site) (classes : List ValueClass) (inner : FrameRun) (before : List Piece)
      (on : StateSoFar → Outcome) → FrameFits inner classes → IsBlockKind inner.kind → IsGivenAt c run at inner
      → Ran c whole Claim IsStop inner
      → (end : RunEnd) → end_of_outcome (run_outcome c inner) ≡ end
      → Goes (Hole at classes) before (frame_means (run_outcome c inner) (after_so_far before) on) on
  frame_by_end at classes inner before on fits is_block given r WholeRun ends =
      frame_whole at classes inner before on fits is_block given r ends
  frame_by_end at classes inner before on fits is_block given r (StopsAt call) ends =
      frame_stops at classes inner before on fits is_block given r call ends

  pub frame_goes : (at : Site) (classes : List ValueClass) (inner : FrameRun) (before : List Piece)
      (on : StateSoFar → Outcome) → FrameFits inner classes → IsBlockKind inner.kind → IsGivenAt c run at inner
      → Ran c whole Claim IsStop inner
      → Goes (Hole at classes) before (frame_means (run_outcome c inner) (after_so_far before) on) on
  frame_goes at classes inner before on fits is_block given r =
      frame_by_end at classes inner before on fits is_block given r (end_of_outcome (run_outcome c inner)) refl

  -- what is printed of a block, where the block's frame is given
  abbrev pub GivesBlocks : Site → Binding BoundBlock → Type 0
  GivesBlocks at b = (inner : FrameRun) → IsBlockOf c b inner → IsGivenAt c run at inner

  pub printed_goes : (at : Site) (classes : List ValueClass) (b : Binding BoundBlock) (before : List Piece)
      (on : StateSoFar → Outcome) → IsGood c whole Claim IsStop b → GivesBlocks at b → (Claim → HasClass b classes) →
      Goes (Hole at classes) before (printed_means context b (after_so_far before) on) on
  printed_goes at classes (Known v) before on good given fits = value_goes at classes v before on fits
  printed_goes at classes (BlockOf block) before on good given fits =
      let inner : FrameRun = good.0.frame in
      let is : BlockOf block ≡ BlockOf (record { kind = inner.kind; outcome = run_outcome c inner }) = good.0.is_its in
      subst (λ b. Goes (Hole at classes) before (printed_means context b (after_so_far before) on) on) (sym is)
      (frame_goes at classes inner before on (λ k. subst (λ b. HasClass b classes) is (fits k)) good.0.is_block
      (given inner is)
      (record {
        within = good.0.within;
        runs = good.0.runs;
        stops = λ call ends. good.1 call (ap (λ b. bound_end b) is ∙ ends);
        fits = good.2;
      }))

  hole_path : (at : Site) (classes : List ValueClass) → HasPath (Hole at classes)
  hole_path at classes = record { parts = _; path = hole }

  called_as : (at : Site) (classes : List ValueClass) (inner : FrameRun) (before : List Piece)
      (on : StateSoFar → Outcome) → FrameFits inner classes → IsGivenAt c run at inner
      → Ran c whole Claim IsStop inner → (k : Kind) → inner.kind ≡ k
      → Goes (Hole at classes) before (called_means context k (run_outcome c inner) (after_so_far before) on) on
  called_as at classes inner before on fits given r kinds.Html is =
      frame_goes at classes inner before on fits (subst IsBlockKind (sym is) tt) given r
  called_as at classes inner before on fits given r kinds.Attributes is =
      frame_goes at classes inner before on fits (subst IsBlockKind (sym is) tt) given r
  called_as at classes inner before on fits given r kinds.Text is =
      let o : Outcome = run_outcome c inner in
      let next : List ℕ → Outcome = λ text. value_means context (StringValue text) (after_so_far before) on in
      silent_goes (IsGathered [] o) (Hole at classes) before (gathered [] o next) next on (hole_path at classes)
      (gathered_silent IsStop [] o next r.stops)
      (λ text good. value_goes at classes (StringValue text) before on
      (λ k. subst (λ z. IsMember (kind_class z) classes) is (fits k)))

  pub called_goes : (at : Site) (classes : List ValueClass) (inner : FrameRun) (before : List Piece)
      (on : StateSoFar → Outcome) → FrameFits inner classes → IsGivenAt c run at inner → Ran c whole Claim IsStop inner
      → Goes (Hole at classes) before (called_means context inner.kind (run_outcome c inner) (after_so_far before) on)
      on
  called_goes at classes inner before on fits given r =
      called_as at classes inner before on fits given r inner.kind refl

  -- a call that may not be opened
  pub refused_goes : (at : Site) (classes : List ValueClass) (k : Kind) (before : List Piece)
      (on : StateSoFar → Outcome) → IsStop at
      → Goes (Hole at classes) before
      (called_means context k (RunEnds none_spent (StopsAt at)) (after_so_far before) on) on
  refused_goes at classes kinds.Html before on stops = halts_goes (Hole at classes) before
      (RunEnds none_spent (StopsAt at)) on (hole_path at classes)
      (record { pieces = refl; call = at; ends = refl; stops = stops })
  refused_goes at classes kinds.Attributes before on stops = halts_goes (Hole at classes) before
      (RunEnds none_spent (StopsAt at)) on (hole_path at classes)
      (record { pieces = refl; call = at; ends = refl; stops = stops })
  refused_goes at classes kinds.Text before on stops = halts_goes (Hole at classes) before
      (RunEnds none_spent (StopsAt at)) on (hole_path at classes)
      (record { pieces = refl; call = at; ends = refl; stops = stops })

  -- a whole frame
  pub goes_whole : (on : StateSoFar → Outcome) → ((s : StateSoFar) → on s ≡ gives_nothing)
      → Goes (run_plan c run) [] (run_outcome c run) on
      → (r : RunsAlong c whole run) × StopsOnlyAt IsStop (run_outcome c run) × (Claim → FitsClasses r.filled)
  goes_whole on nothing (inl t) =
      let p : Plan = run_plan c run in
      let o : Outcome = run_outcome c run in
      let done : on (after_so_far (filled_pieces context t.filled kind [])) ≡ gives_nothing =
      nothing (after_so_far (filled_pieces context t.filled kind [])) in
      let ends : end_of_outcome o ≡ WholeRun = t.ends ∙ ap end_of_outcome done in (
        record {
          filled = t.filled;
          pieces = t.pieces ∙ (ap (λ x. filled_pieces context t.filled kind [] ++ pieces_of_outcome x) done
              ∙ append-nil (filled_pieces context t.filled kind []));
          path = subst (λ e. IsPathUpTo e p (parts_of_filled t.filled)) (sym ends) t.path;
          runs = subst (λ e. FilledByRuns c whole run e t.filled) (sym ends) t.runs;
        },
        (λ call stops. absurd (stop_not_whole call (sym stops ∙ ends))),
        t.fits,
      )
  goes_whole on nothing (inr s) =
      let p : Plan = run_plan c run in (
        record {
          filled = s.filled;
          pieces = s.pieces;
          path = subst (λ e. IsPathUpTo e p (parts_of_filled s.filled)) (sym s.ends) (s.more, s.path);
          runs = subst (λ e. FilledByRuns c whole run e s.filled) (sym s.ends) s.runs;
        },
        (λ call stops. subst IsStop (same_stop s.call call (sym s.ends ∙ stops)) s.stops),
        s.fits,
      )

  -- ---- arms that stand side by side

  -- along one of these plans
  pub record GoesSome (ps : List Plan) (before : List Piece) (o : Outcome) (on : StateSoFar → Outcome) : Type 0 where
    pub plan : Plan
    pub member : IsMember plan ps
    pub goes : Goes plan before o on

  pub some_here : (p : Plan) (ps : List Plan) (before : List Piece) (o : Outcome) (on : StateSoFar → Outcome)
      → Goes p before o on → GoesSome (p ∷ ps) before o on
  some_here p ps before o on goes = record { plan = p; member = inl refl; goes = goes }

  pub some_behind : (p : Plan) (ps : List Plan) (before : List Piece) (o : Outcome) (on : StateSoFar → Outcome)
      → GoesSome ps before o on → GoesSome (p ∷ ps) before o on
  some_behind p ps before o on some = record { plan = some.plan; member = inr some.member; goes = some.goes }

  pub some_same : (ps : List Plan) (before : List Piece) (o other : Outcome) (on : StateSoFar → Outcome)
      → SameRun o other → GoesSome ps before other on → GoesSome ps before o on
  some_same ps before o other on same some =
      record { plan = some.plan; member = some.member; goes = same_goes some.plan before o other on same some.goes }

  pub some_if : (ps : List Plan) (before : List Piece) (test : Bool) (o other : Outcome) (on : StateSoFar → Outcome)
      → (test ≡ true → GoesSome ps before o on) → GoesSome ps before other on
      → GoesSome ps before (if test then o else other) on
  some_if ps before true o other on one two = one refl
  some_if ps before false o other on one two = two

  pub some_meets : (at : Site) (ps : List Plan) (before : List Piece) (o : Outcome) (on : StateSoFar → Outcome)
      → GoesSome ps before o on → Goes (arms_meet at ps) before o on
  some_meets at ps before o on some =
      along some.plan (arms_meet at ps) before o on (λ l h. met (any_member Nowhere ps some.plan l some.member h))
      some.goes

module _ (c : RunContext) (whole : Plan) (Claim : Type 0) (IsStop : Site → Type 0) where
  -- a block as what is bound to a name
  abbrev pub BindsBlock : FrameRun → Kind → Binding BoundBlock → Type 0
  BindsBlock q k b = IsGood c whole Claim IsStop b × (b ≡ bound_as k (run_outcome c q))

  binds_as : (q : FrameRun) (next : Binding BoundBlock → Outcome) → Ran c whole Claim IsStop q → (k : Kind) → q.kind ≡ k
      → IsSilent IsStop (BindsBlock q k) (block_bound k (run_outcome c q) next) next
  binds_as q next r kinds.Html is =
      inl (record {
        value = BlockOf (record { kind = kinds.Html; outcome = run_outcome c q });
        good = (
          (
            record {
              frame = q;
              is_its = ap (λ k. BlockOf (record { kind = k; outcome = run_outcome c q })) (sym is);
              is_block = subst IsBlockKind (sym is) tt;
              within = r.within;
              runs = r.runs;
            },
            r.stops,
            r.fits,
          ),
          refl,
        );
        same = record { pieces = refl; ends = refl };
      })
  binds_as q next r kinds.Attributes is =
      inl (record {
        value = BlockOf (record { kind = kinds.Attributes; outcome = run_outcome c q });
        good = (
          (
            record {
              frame = q;
              is_its = ap (λ k. BlockOf (record { kind = k; outcome = run_outcome c q })) (sym is);
              is_block = subst IsBlockKind (sym is) tt;
              within = r.within;
              runs = r.runs;
            },
            r.stops,
            r.fits,
          ),
          refl,
        );
        same = record { pieces = refl; ends = refl };
      })
  binds_as q next r kinds.Text is = text_binds
      (gathered_silent IsStop [] (run_outcome c q) (λ text. next (Known (StringValue text))) r.stops)
    where
      text_binds : IsSilent IsStop (IsGathered [] (run_outcome c q))
          (gathered [] (run_outcome c q) (λ text. next (Known (StringValue text))))
          (λ text. next (Known (StringValue text)))
          → IsSilent IsStop (BindsBlock q kinds.Text) (block_bound kinds.Text (run_outcome c q) next) next
      text_binds (inl b) =
          inl (record {
            value = Known (StringValue b.value);
            good = (tt, ap (λ text. Known (StringValue text)) b.good);
            same = b.same;
          })
      text_binds (inr h) = inr h

  pub block_binds : (q : FrameRun) (next : Binding BoundBlock → Outcome) → Ran c whole Claim IsStop q
      → IsSilent IsStop (BindsBlock q q.kind) (block_bound q.kind (run_outcome c q) next) next
  block_binds q next r = binds_as q next r q.kind refl
