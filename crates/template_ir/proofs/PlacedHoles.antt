-- What stands in a hole of a run stands where the walk says: values, printed blocks and calls.
use Rattle.std.proofs.Common.{◌≡◌, ℕ, zero, suc, List, [], ◌∷◌, ◌++◌}
use Rattle.std.proofs.Common.{refl, sym, ap, ◌∙◌, subst}
use Rattle.soy_base.specs.declared.kind.Kind.{Kind}
use Rattle.soy_base.specs.declared.kind.Kind.TheVariants as kinds
use Rattle.soy_base.specs.declared.place.Place.{Place}
use Rattle.soy_base.specs.declared.place.ValueClass.{ValueClass}
use Rattle.html_state.specs.AfterPieces.{after_pieces, placing_after}
use Rattle.soy_base.specs.Piece.{Piece, Static, Value}
use Rattle.html_state.specs.Start.{start}
use Rattle.soy_rules.specs.Templates.{Declared, param_scope}
use Rattle.soy_rules.specs.Val.{Binding, BlockOf, Known, value_text}
use Rattle.soy_tree.specs.Values as values
use Rattle.soy_tree.specs.Values.{StringValue}
use Rattle.soy_meaning.specs.Paths.Filled.{Filled, FillsHoles, IsBlockKind, IsFrameOf, filled_end, filled_pieces}
use Rattle.soy_meaning.specs.Paths.Filled.{frame_before, parts_of_filled, text_before, value_before}
use Rattle.soy_pieces.specs.EscapedAt.{value_form}
use Rattle.soy_meaning.specs.Walks.FourPoints.{AcceptedPaths}
use Rattle.soy_meaning.specs.Runs.FrameRun.{FrameRun, run_outcome, run_plan, template_frame}
use Rattle.soy_pieces.specs.Meaning.{bound_as}
use Rattle.soy_pieces.specs.Giving.{BoundBlock, RunEnv, StateSoFar, placing_so_far, read_outcome, read_piece}
use Rattle.soy_pieces.specs.Giving.{value_class}
use Rattle.soy_pieces.specs.Meaning.{joined_pieces}
use Rattle.soy_pieces.specs.Outcome.{Outcome, RunEnds, StopsAt, WholeRun, end_of_outcome, none_spent}
use Rattle.soy_pieces.specs.Outcome.{pieces_of_outcome}
use Rattle.soy_meaning.specs.Walks.PageMachine.{page_machine}
use Rattle.soy_meaning.specs.Paths.PathParts.{IsPath, both, empty_path, hole, met, static_text, turn}
use Rattle.soy_pieces.specs.Pieces.{RunContext, called_within, context_in}
use Rattle.soy_meaning.specs.Paths.Plan.{Plan, Hole, Loop, Nowhere, Then, arms_meet}
use Rattle.soy_pieces.specs.Site.{Site}
use Rattle.soy_meaning.specs.Paths.PlanOfNodes.{kind_class}
use Rattle.soy_meaning.specs.Paths.PlanOfParts.{text_plan}
use Rattle.soy_meaning.specs.Runs.RunsAlong.{FilledByRuns, IsFrameWithin, IsPathUpTo}
use Rattle.soy_meaning.specs.Walks.States.{IsMember}
use Rattle.soy_meaning.specs.Runs.StopsWithin.{itself}
use Rattle.soy_meaning.specs.Runs.TranslationFits.{NodesFit}
use Rattle.soy_meaning.proofs.Typing.CheckedTrees.{around_template}
use Rattle.soy_meaning.proofs.Runs.Goings.{HasClass, IsGood, Ran}
use Rattle.soy_meaning.proofs.Runs.NodeRuns.{frame_runs}
use Rattle.soy_meaning.proofs.Runs.OpenedCalls.{called_more, called_none}
use Rattle.soy_meaning.proofs.Runs.ReadRuns.{frame_of, runs_fill_holes}
use Rattle.soy_meaning.proofs.Runs.RunBindings.{AllRun, FramesIn}
use Rattle.soy_meaning.proofs.Runs.RunPieces.{filled_then, parts_then, pieces_then, placing_is, read_all, read_more}
use Rattle.soy_meaning.proofs.Runs.RunPieces.{stop_not_whole}
use Rattle.soy_meaning.proofs.Paths.SomePaths.{any_member}
use Rattle.soy_meaning.proofs.Typing.TypedEnvs.{EnvTyped}
use Rattle.soy_meaning.proofs.Typing.TypedNodes.{NodesTyped}
use Rattle.soy_pieces.proofs.ValueTexts.{text_of_value}
use Rattle.template_ir.specs.Placed.{BoundPlaced, CalledPlaced, PrintPlaced, TextPlaced, ValuePlaced}
use Rattle.template_ir.proofs.SeenHoles.{Seen, fills_both, hole_seen}

-- past a block, where what comes next is as it should be
pub bound_placed : (k : Kind) (o : Outcome) (Next : Type 0) → Next → BoundPlaced k o Next
bound_placed kinds.Html o Next next = next
bound_placed kinds.Attributes o Next next = next
bound_placed kinds.Text o Next next = λ whole. next

module _ (c : RunContext) (whole : Plan) (accepted : AcceptedPaths page_machine whole) (places : List Place) where
  abbrev pub AllGood : RunEnv → Type 0
  AllGood = AllRun c whole (Unit {0}) (λ at. Unit {0})

  abbrev pub IsGoodBinding : Binding BoundBlock → Type 0
  IsGoodBinding = IsGood c whole (Unit {0}) (λ at. Unit {0})

  abbrev pub HasRun : FrameRun → Type 0
  HasRun = Ran c whole (Unit {0}) (λ at. Unit {0})

  -- each template runs, within which so many calls may be open
  abbrev pub TemplatesRun : ℕ → Type 0
  TemplatesRun left =
      (d : Declared) (env : RunEnv) → IsMember d c.declared → AllGood env
      → EnvTyped (param_scope d.template.params) env → HasRun (template_frame left d env)

  -- a frame by itself
  pub frame_has_run : (q : FrameRun) → ((fewer : ℕ) → q.left ≡ suc fewer → TemplatesRun fewer) → AllGood q.env
      → IsFrameWithin whole q.kind (run_plan c q) → FramesIn whole (run_plan c q) → NodesFit c.translation q.body
      → NodesTyped (around_template c.declared q.template) q.body q.scope → EnvTyped q.scope q.env → HasRun q
  frame_has_run q deeper runs within frames fit typed fitting =
      frame_runs c whole (Unit {0}) (λ at. Unit {0}) q (λ at h. tt) q.left
      (λ fewer e d env member good fits opened. deeper fewer e d env member good (fits tt)) q
      (record { same_left = refl; opened = itself }) runs within frames fit (λ k. typed) (λ k. fitting)

  -- a block that has run, as what is bound to a name
  pub bound_good : (q : FrameRun) → HasRun q → (k : Kind) → q.kind ≡ k → IsGoodBinding (bound_as k (run_outcome c q))
  bound_good q r kinds.Html is = (
    record {
      frame = q;
      is_its = ap (λ k. BlockOf (record { kind = k; outcome = run_outcome c q })) (sym is);
      is_block = subst IsBlockKind (sym is) tt;
      within = r.within;
      runs = r.runs;
    },
    r.stops,
    r.fits,
  )
  bound_good q r kinds.Attributes is = (
    record {
      frame = q;
      is_its = ap (λ k. BlockOf (record { kind = k; outcome = run_outcome c q })) (sym is);
      is_block = subst IsBlockKind (sym is) tt;
      within = r.within;
      runs = r.runs;
    },
    r.stops,
    r.fits,
  )
  bound_good q r kinds.Text is = tt

  -- the state behind pieces of a frame
  abbrev pub At : Kind → List Piece → StateSoFar
  At kind before = after_pieces (start kind) before

  -- what comes next behind each filling of a path
  abbrev pub Afterwards : Kind → Plan → List Piece → (StateSoFar → Type 0) → Type 0
  Afterwards kind p before Next =
      (f : Filled) → FillsHoles f → IsPath p (parts_of_filled f) → Next (At kind
      (filled_pieces c.direction f kind before))

  pub after_then : (kind : Kind) (p q : Plan) (before : List Piece) (Next : StateSoFar → Type 0)
      → Afterwards kind (Then p q) before Next → (f : Filled) → FillsHoles f → IsPath p (parts_of_filled f)
      → Afterwards kind q (filled_pieces c.direction f kind before) Next
  after_then kind p q before Next after f fills path g more rest =
      subst (λ l. Next (At kind l)) (pieces_then c.direction f g kind before)
      (after (filled_then f g) (fills_both f g fills more)
      (subst (λ l. IsPath (Then p q) l) (sym (parts_then f g)) (both path rest)))

  pub after_turn : (kind : Kind) (at : Site) (p : Plan) (before : List Piece) (Next : StateSoFar → Type 0)
      → Afterwards kind (Loop at p) before Next → (f : Filled) → FillsHoles f → IsPath p (parts_of_filled f)
      → Afterwards kind (Loop at p) (filled_pieces c.direction f kind before) Next
  after_turn kind at p before Next after f fills path g more rest =
      subst (λ l. Next (At kind l)) (pieces_then c.direction f g kind before)
      (after (filled_then f g) (fills_both f g fills more)
      (subst (λ l. IsPath (Loop at p) l) (sym (parts_then f g)) (turn path rest)))

  -- behind each of some plans
  abbrev pub AfterEach : Kind → List Plan → List Piece → (StateSoFar → Type 0) → Type 0
  AfterEach kind ps before Next = (p : Plan) → IsMember p ps → Afterwards kind p before Next

  pub after_arms : (kind : Kind) (at : Site) (ps : List Plan) (before : List Piece) (Next : StateSoFar → Type 0)
      → Afterwards kind (arms_meet at ps) before Next → AfterEach kind ps before Next
  after_arms kind at ps before Next after p member f fills path =
      after f fills (met (any_member Nowhere ps p (parts_of_filled f) member path))

  pub text_placed : (at : Site) (text : List ℕ) (kind : Kind) (before : List Piece) (Next : StateSoFar → Type 0)
      → Afterwards kind (text_plan at text) before Next → TextPlaced text (At kind before) Next
  text_placed at [] kind before Next after = after filled_end tt empty_path
  text_placed at (x ∷ text) kind before Next after =
      subst Next (sym (read_more (start kind) before (Static (x ∷ text))))
      (after (text_before (x ∷ text) filled_end) tt static_text)

  -- ---- holes

  module _ (called : Site → Declared → RunEnv → Outcome) (Opened : ℕ → RunEnv → Type 0) (of : Declared) (at : Site)
      (classes : List ValueClass) (kind : Kind) (before : List Piece) (number : ℕ)
      (seen : Seen c.direction whole places kind (Hole at classes) before number) (Next : StateSoFar → Type 0)
      (after : Afterwards kind (Hole at classes) before Next) where
    abbrev own : RunContext
    own = context_in c of

    pub value_placed : (v : values.Value) → IsMember (value_class v) classes
        → ValuePlaced own places called Opened v number (At kind before) Next
    value_placed v member =
        let is : placing_so_far (At kind before) ≡ placing_after kind before = placing_is kind before in
        let form : List ℕ = value_form (placing_after kind before) (value_class v) (value_text v) c.direction in
        let next : Next (read_piece (At kind before) (Value form)) =
        subst Next (sym (read_more (start kind) before (Value form)))
        (after (value_before at classes (value_class v) (value_text v) filled_end) (member, text_of_value v, tt) hole)
        in (
          is ∙ hole_seen c.direction whole places kind at classes before number seen,
          subst (λ r. Next (read_piece (At kind before) (Value (value_form r (value_class v) (value_text v)
              c.direction))))
              (sym is) next,
        )

    -- a frame that ends whole
    pub frame_placed : (inner : FrameRun) → IsBlockKind inner.kind → HasRun inner → IsMember (kind_class inner.kind)
        classes
        → end_of_outcome (run_outcome c inner) ≡ WholeRun → Next (read_outcome (At kind before) (run_outcome c inner))
    frame_placed inner is_block ran member ends =
        let o : Outcome = run_outcome c inner in
        let filled : Filled = ran.runs.filled in
        let path : IsPath (run_plan c inner) (parts_of_filled filled) =
        subst (λ e. IsPathUpTo e (run_plan c inner) (parts_of_filled filled)) ends ran.runs.path in
        let runs : FilledByRuns c whole inner WholeRun filled =
        subst (λ e. FilledByRuns c whole inner e filled) ends ran.runs.runs in
        let is_frame : IsFrameOf inner.kind (parts_of_filled filled) =
        frame_of c whole accepted inner.kind (run_plan c inner) (parts_of_filled filled) ran.within path in
        let fills : FillsHoles filled = runs_fill_holes c whole accepted filled inner runs (ran.fits tt) in
        let state : read_outcome (At kind before) o
        ≡ At kind (before ++ filled_pieces c.direction filled inner.kind []) =
        read_all (start kind) before o ∙ ap (λ l. At kind (before ++ l)) ran.runs.pieces in
        subst Next (sym state)
        (after (frame_before at classes inner.kind filled filled_end) (is_block, member, is_frame, fills, tt) hole)

    pub print_placed : (b : Binding BoundBlock) → IsGoodBinding b → HasClass b classes
        → PrintPlaced own places called Opened b number (At kind before) Next
    print_placed (Known v) good has = value_placed v has
    print_placed (BlockOf block) good has =
        let inner : FrameRun = good.0.frame in
        let is : BlockOf block ≡ BlockOf (record { kind = inner.kind; outcome = run_outcome c inner }) = good.0.is_its
        in
        subst (λ b. PrintPlaced own places called Opened b number (At kind before) Next) (sym is)
        (λ ends. frame_placed inner good.0.is_block
        (record {
          within = good.0.within;
          runs = good.0.runs;
          stops = λ call h. tt;
          fits = good.2;
        })
        (subst (λ b. HasClass b classes) is has) ends)

    -- a call that isn't opened
    stopped_placed : (k : Kind) (o : Outcome) → (end_of_outcome o ≡ WholeRun → ⊥)
        → CalledPlaced own places called Opened k o number (At kind before) Next
    stopped_placed kinds.Html o never = λ ends. absurd (never ends)
    stopped_placed kinds.Attributes o never = λ ends. absurd (never ends)
    stopped_placed kinds.Text o never = λ ends. absurd (never ends)

    ran_placed : (k : Kind) (inner : FrameRun) → inner.kind ≡ k → HasRun inner → IsMember (kind_class k) classes
        → CalledPlaced own places called Opened k (run_outcome c inner) number (At kind before) Next
    ran_placed kinds.Html inner is ran member =
        λ ends. frame_placed inner (subst IsBlockKind (sym is) tt) ran
        (subst (λ k. IsMember (kind_class k) classes) (sym is) member) ends
    ran_placed kinds.Attributes inner is ran member =
        λ ends. frame_placed inner (subst IsBlockKind (sym is) tt) ran
        (subst (λ k. IsMember (kind_class k) classes) (sym is) member) ends
    ran_placed kinds.Text inner is ran member =
        λ ends. value_placed (StringValue (joined_pieces (pieces_of_outcome (run_outcome c inner)))) member

    -- a call of a template
    pub call_placed : (left : ℕ) → ((fewer : ℕ) → left ≡ suc fewer → TemplatesRun fewer) → (d : Declared)
        (env : RunEnv) → IsMember d c.declared → AllGood env → EnvTyped (param_scope d.template.params) env
        → IsMember (kind_class d.template.kind) classes → (site : Site)
        → CalledPlaced own places called Opened d.template.kind (called_within c left site d env) number
        (At kind before) Next
    call_placed zero deeper d env among good fitting member site =
        subst (λ o. CalledPlaced own places called Opened d.template.kind o number (At kind before) Next)
        (sym (called_none c site d env))
        (stopped_placed d.template.kind (RunEnds none_spent (StopsAt site)) (λ e. stop_not_whole site e))
    call_placed (suc fewer) deeper d env among good fitting member site =
        subst (λ o. CalledPlaced own places called Opened d.template.kind o number (At kind before) Next)
        (sym (called_more c fewer site d env))
        (ran_placed d.template.kind (template_frame fewer d env) refl (deeper fewer refl d env among good fitting)
        member)
