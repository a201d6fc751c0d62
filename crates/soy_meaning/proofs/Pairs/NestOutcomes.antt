-- Two runs of a frame side by side: what fills their paths is alike where their choices are the same.
use Rattle.std.proofs.Common.{◌≡◌, ℕ, ◌+◌, Bool, true, false, List, [], ◌∷◌, ◌++◌, inl, inr, Some}
use Rattle.std.proofs.Common.{if◌then◌else◌, refl, sym, ap, ◌∙◌, subst, append_assoc}
use Rattle.std.proofs.lemmas.List.{append-nil}
use Rattle.soy_base.specs.declared.kind.Kind.{Kind}
use Rattle.soy_base.specs.declared.kind.Kind.TheVariants as kinds
use Rattle.soy_base.specs.declared.place.ValueClass.{ValueClass}
use Rattle.html_state.specs.AfterPieces.{after_pieces, placing_after}
use Rattle.soy_base.specs.Piece.{Piece, Static, Value}
use Rattle.html_state.specs.Start.{start}
use Rattle.soy_rules.specs.Val.{Binding, BlockOf, Known, value_text}
use Rattle.soy_tree.specs.Values as values
use Rattle.soy_tree.specs.Values.{StringValue}
use Rattle.soy_meaning.specs.Runs.EqualChoices.{BindingsBy, FilledAlike}
use Rattle.soy_meaning.specs.Paths.Filled.{Filled, IsBlockKind, filled_end, filled_pieces, frame_before}
use Rattle.soy_meaning.specs.Paths.Filled.{parts_of_filled}
use Rattle.soy_meaning.specs.Paths.Filled.{text_before, value_before}
use Rattle.soy_pieces.specs.EscapedAt.{value_form}
use Rattle.soy_meaning.specs.Runs.FrameRun.{FrameRun, IsBlockOf, run_outcome, run_plan}
use Rattle.soy_pieces.specs.Meaning.{bound_as}
use Rattle.soy_meaning.specs.Runs.GivenAt.{IsGivenAt}
use Rattle.soy_pieces.specs.Giving.{BoundBlock, StateSoFar, block_bound, called_means, frame_means, piece_means}
use Rattle.soy_pieces.specs.Giving.{printed_means, read_outcome, text_means, value_class}
use Rattle.soy_pieces.specs.Giving.{value_means, with_choice, with_cost}
use Rattle.soy_pieces.specs.Meaning.{joined_pieces}
use Rattle.soy_pieces.specs.Outcome.{ArmTaken, ChoiceMade, GivesPiece, Outcome, RunEnd, RunEnds, Spent, StopsAt}
use Rattle.soy_pieces.specs.Outcome.{Turns, WholeRun, choices_of_outcome, continued_by, end_of_outcome, gathered}
use Rattle.soy_pieces.specs.Outcome.{gives_nothing, none_spent, pieces_of_outcome}
use Rattle.soy_meaning.specs.Paths.PathParts.{HolePart, IsPath, PathPart, StaticPart, both, empty_path, met}
use Rattle.soy_meaning.specs.Paths.PathParts.{static_text}
use Rattle.soy_meaning.specs.Runs.PicksValues.{is_block_kind}
use Rattle.soy_pieces.specs.Pieces.{RunContext}
use Rattle.soy_meaning.specs.Paths.Plan.{Nowhere, Plan, Then, arms_meet}
use Rattle.soy_pieces.specs.Site.{Site}
use Rattle.soy_meaning.specs.Paths.PlanOfNodes.{kind_class}
use Rattle.soy_meaning.specs.Paths.PlanOfParts.{text_plan}
use Rattle.soy_meaning.specs.Runs.RunsAlong.{FilledByRuns, FitsClasses, IsFrameWithin, IsPathUpTo}
use Rattle.soy_meaning.specs.Walks.States.{IsMember}
use Rattle.soy_meaning.proofs.Pairs.AlikeNodes.{first_turns}
use Rattle.soy_meaning.proofs.Pairs.AlikeOutcomes.{BeginsFrom, Choices, Gathers, begins, choice_of, cost_of}
use Rattle.soy_meaning.proofs.Pairs.AlikeOutcomes.{first_choices}
use Rattle.soy_meaning.proofs.Pairs.AlikeOutcomes.{followed_choices, gathers, gathers_begins, no_clash, rest_same}
use Rattle.soy_meaning.proofs.Pairs.AlikeOutcomes.{stop_is}
use Rattle.soy_meaning.proofs.Runs.Goings.{GivesBlocks, HasClass, Ran, frame_fills, runs_then}
use Rattle.soy_meaning.proofs.Runs.RunPieces.{ComesBehind, SameRun, placing_is, read_all, read_more, spent_same}
use Rattle.soy_meaning.proofs.Runs.RunPieces.{stop_followed, stop_not_whole, whole_followed}
use Rattle.soy_meaning.proofs.Paths.SomePaths.{HasPath, any_member}
use Rattle.soy_pieces.proofs.ValueTexts.{text_of_value}

-- ---- paths that these follow

abbrev pub AnyStop : Site → Type 0
AnyStop at = Unit {0}

abbrev pub IsUpTo : RunEnd → (List PathPart → Type 0) → List PathPart → Type 0
IsUpTo WholeRun P parts = P parts
IsUpTo (StopsAt call) P parts = (more : List PathPart) × P (parts ++ more)

abbrev pub HasSome : (List PathPart → Type 0) → Type 0
HasSome P = (l : List PathPart) × P l

-- a path of the plan, and then one of these
pub record Behind (p : Plan) (P : List PathPart → Type 0) (l : List PathPart) : Type 0 where
  pub first : List PathPart
  pub last : List PathPart
  pub path : IsPath p first
  pub rest : P last
  pub is : l ≡ first ++ last

abbrev pub Joins : Plan → (List PathPart → Type 0) → (List PathPart → Type 0) → Type 0
Joins p P Q = (a b : List PathPart) → IsPath p a → P b → Q (a ++ b)

pub joins_then : (p r : Plan) (P Q : List PathPart → Type 0) → Joins (Then p r) P Q → Joins p (Behind r P) Q
joins_then p r P Q joins a b h k =
    subst Q (append_assoc a k.first k.last ∙ ap (λ l. a ++ l) (sym k.is))
    (joins (a ++ k.first) k.last (both h k.path) k.rest)

pub joins_behind : (p : Plan) (P : List PathPart → Type 0) → Joins p P (Behind p P)
joins_behind p P a b h k = record { first = a; last = b; path = h; rest = k; is = refl }

pub joins_arm : (at : Site) (ps : List Plan) (p : Plan) (P Q : List PathPart → Type 0) → IsMember p ps
    → Joins (arms_meet at ps) P Q → Joins p P Q
joins_arm at ps p P Q member joins a b h k = joins a b (met (any_member Nowhere ps p a member h)) k

pub has_behind : (p : Plan) (P : List PathPart → Type 0) → HasPath p → HasSome P → HasSome (Behind p P)
has_behind p P has some =
    (has.parts ++ some.0, joins_behind p P has.parts some.0 has.path some.1)

up_with : (end : RunEnd) (P Q : List PathPart → Type 0) (a l : List PathPart)
    → ((m : List PathPart) → P m → Q (a ++ m)) → IsUpTo end P l → IsUpTo end Q (a ++ l)
up_with WholeRun P Q a l into h = into l h
up_with (StopsAt call) P Q a l into h = (h.0, subst Q (sym (append_assoc a l h.0)) (into (l ++ h.0) h.1))

up_wider : (end : RunEnd) (P Q : List PathPart → Type 0) (l : List PathPart)
    → ((m : List PathPart) → P m → Q m) → IsUpTo end P l → IsUpTo end Q l
up_wider WholeRun P Q l wider h = wider l h
up_wider (StopsAt call) P Q l wider h = (h.0, wider (l ++ h.0) h.1)

path_up : (end : RunEnd) (p : Plan) (l : List PathPart) → IsUpTo end (IsPath p) l → IsPathUpTo end p l
path_up WholeRun p l h = h
path_up (StopsAt call) p l h = h

abbrev one_work : Spent
one_work = record { cost = 0; work = 1; choices = [] }

-- ---- what fills the rest of a path

module _ (c : RunContext) (whole : Plan) (Claim : Type 0) where
  -- the state after pieces of the frame
  abbrev pub At : FrameRun → List Piece → StateSoFar
  At q before = after_pieces (start q.kind) before

  abbrev pub HasRun : FrameRun → Type 0
  HasRun q = Ran c whole Claim AnyStop q

  -- behind these pieces of the frame the outcome gives the rest of them, along one of these paths
  pub record Rest (q : FrameRun) (P : List PathPart → Type 0) (before : List Piece) (o : Outcome) (f : Filled) :
      Type 0 where
    pub pieces : before ++ pieces_of_outcome o ≡ filled_pieces c.direction f q.kind before
    pub path : IsUpTo (end_of_outcome o) P (parts_of_filled f)
    pub runs : FilledByRuns c whole q (end_of_outcome o) f
    pub fits : Claim → FitsClasses f

  rest_as : (q : FrameRun) (P Q : List PathPart → Type 0) (before : List Piece) (o one : Outcome) (f : Filled)
      → SameRun o one → ((l : List PathPart) → P l → Q l) → Rest q P before one f → Rest q Q before o f
  rest_as q P Q before o one f same wider r = record {
    pieces = ap (λ l. before ++ l) same.pieces ∙ r.pieces;
    path = subst (λ e. IsUpTo e Q (parts_of_filled f)) (sym same.ends)
        (up_wider (end_of_outcome one) P Q (parts_of_filled f) wider r.path);
    runs = subst (λ e. FilledByRuns c whole q e f) (sym same.ends) r.runs;
    fits = r.fits;
  }

  rest_text : (q : FrameRun) (P Q : List PathPart → Type 0) (before : List Piece) (text : List ℕ) (o : Outcome)
      (f : Filled) → ((l : List PathPart) → P l → Q (StaticPart text ∷ l))
      → Rest q P (before ++ (Static text ∷ [])) o f
      → Rest q Q before (GivesPiece one_work (Static text) o) (text_before text f)
  rest_text q P Q before text o f into r = record {
    pieces = sym (append_assoc before (Static text ∷ []) (pieces_of_outcome o)) ∙ r.pieces;
    path = up_with (end_of_outcome o) P Q (StaticPart text ∷ []) (parts_of_filled f) into r.path;
    runs = r.runs;
    fits = r.fits;
  }

  abbrev form_at : FrameRun → List Piece → values.Value → List ℕ
  form_at q before v = value_form (placing_after q.kind before) (value_class v) (value_text v) c.direction

  rest_value : (q : FrameRun) (P Q : List PathPart → Type 0) (before : List Piece) (at : Site)
      (classes : List ValueClass) (v : values.Value) (o : Outcome) (f : Filled)
      → (Claim → IsMember (value_class v) classes) → ((l : List PathPart) → P l → Q (HolePart at classes ∷ l))
      → Rest q P (before ++ (Value (form_at q before v) ∷ [])) o f
      → Rest q Q before (GivesPiece one_work (Value (form_at q before v)) o)
      (value_before at classes (value_class v) (value_text v) f)
  rest_value q P Q before at classes v o f has into r = record {
    pieces = sym (append_assoc before (Value (form_at q before v) ∷ []) (pieces_of_outcome o)) ∙ r.pieces;
    path = up_with (end_of_outcome o) P Q (HolePart at classes ∷ []) (parts_of_filled f) into r.path;
    runs = (text_of_value v, r.runs);
    fits = λ k. (has k, r.fits k);
  }

  -- the pieces of a frame that has run
  abbrev pieces_in : (q : FrameRun) → HasRun q → List Piece
  pieces_in q ran = filled_pieces c.direction ran.runs.filled q.kind []

  rest_frame : (q : FrameRun) (P Q : List PathPart → Type 0) (before : List Piece) (at : Site)
      (classes : List ValueClass) (inner : FrameRun) (ran : HasRun inner) → IsBlockKind inner.kind
      → IsGivenAt c q at inner → (Claim → IsMember (kind_class inner.kind) classes)
      → end_of_outcome (run_outcome c inner) ≡ WholeRun → (o : Outcome) (f : Filled)
      → ((l : List PathPart) → P l → Q (HolePart at classes ∷ l))
      → Rest q P (before ++ pieces_in inner ran) o f
      → Rest q Q before (continued_by (run_outcome c inner) o)
      (frame_before at classes inner.kind ran.runs.filled f)
  rest_frame q P Q before at classes inner ran is_block given has ends o f into r =
      let done : Outcome = run_outcome c inner in
      let behind : ComesBehind done o (continued_by done o) = whole_followed done o ends in
      let filled : Filled = frame_before at classes inner.kind ran.runs.filled f in
      record {
        pieces = ap (λ l. before ++ l) behind.pieces
            ∙ (sym (append_assoc before (pieces_of_outcome done) (pieces_of_outcome o))
            ∙ (ap (λ l. (before ++ l) ++ pieces_of_outcome o) ran.runs.pieces ∙ r.pieces));
        path = subst (λ e. IsUpTo e Q (parts_of_filled filled)) (sym behind.ends)
            (up_with (end_of_outcome o) P Q (HolePart at classes ∷ []) (parts_of_filled f) into r.path);
        runs = subst (λ e. FilledByRuns c whole q e filled) (sym behind.ends)
            (runs_then c whole (end_of_outcome o)
            (frame_before at classes inner.kind ran.runs.filled filled_end) f q
            (frame_fills c whole Claim AnyStop q at classes inner is_block given ran WholeRun ends) r.runs);
        fits = λ k. (has k, ran.fits k, r.fits k);
      }

  -- within a frame that stops
  rest_stops : (q : FrameRun) (P Q : List PathPart → Type 0) (before : List Piece) (at : Site)
      (classes : List ValueClass) (inner : FrameRun) (ran : HasRun inner) → IsBlockKind inner.kind
      → IsGivenAt c q at inner → (Claim → IsMember (kind_class inner.kind) classes) → (call : Site)
      → end_of_outcome (run_outcome c inner) ≡ StopsAt call → (o : Outcome)
      → ((l : List PathPart) → P l → Q (HolePart at classes ∷ l)) → HasSome P
      → Rest q Q before (continued_by (run_outcome c inner) o)
      (frame_before at classes inner.kind ran.runs.filled filled_end)
  rest_stops q P Q before at classes inner ran is_block given has call ends o into some =
      let done : Outcome = run_outcome c inner in
      let same : SameRun (continued_by done o) done = stop_followed done o call ends in
      let filled : Filled = frame_before at classes inner.kind ran.runs.filled filled_end in
      record {
        pieces = ap (λ l. before ++ l) (same.pieces ∙ ran.runs.pieces);
        path = subst (λ e. IsUpTo e Q (parts_of_filled filled)) (sym (same.ends ∙ ends))
            (some.0, into some.0 some.1);
        runs = subst (λ e. FilledByRuns c whole q e filled) (sym (same.ends ∙ ends))
            (frame_fills c whole Claim AnyStop q at classes inner is_block given ran (StopsAt call) ends);
        fits = λ k. (has k, ran.fits k, tt);
      }

  rest_halts : (q : FrameRun) (Q : List PathPart → Type 0) (before : List Piece) (o : Outcome) (call : Site)
      → pieces_of_outcome o ≡ [] → end_of_outcome o ≡ StopsAt call → HasSome Q → Rest q Q before o filled_end
  rest_halts q Q before o call none ends some = record {
    pieces = ap (λ l. before ++ l) none ∙ append-nil before;
    path = subst (λ e. IsUpTo e Q []) (sym ends) some;
    runs = tt;
    fits = λ k. tt;
  }

  -- ---- whole frames

  abbrev ran_whole : (f : FrameRun) → IsFrameWithin whole f.kind (run_plan c f) → (filled : Filled)
      → Rest f (IsPath (run_plan c f)) [] (run_outcome c f) filled → HasRun f
  ran_whole f within filled r = record {
    within = within;
    runs = record {
      filled = filled;
      pieces = r.pieces;
      path = path_up (end_of_outcome (run_outcome c f)) (run_plan c f) (parts_of_filled filled) r.path;
      runs = r.runs;
    };
    stops = λ at h. tt;
    fits = r.fits;
  }

  -- ---- two frames

  pub record TwinRun (q p : FrameRun) : Type 0 where
    pub one : HasRun q
    pub two : HasRun p
    pub alike : FilledAlike one.runs.filled two.runs.filled
    pub choices : choices_of_outcome (run_outcome c q) ≡ choices_of_outcome (run_outcome c p)
    pub ends : end_of_outcome (run_outcome c q) ≡ end_of_outcome (run_outcome c p)

  -- where their choices are the same
  abbrev pub Twins : FrameRun → FrameRun → Type 0
  Twins q p = (rest more : Choices)
      → choices_of_outcome (run_outcome c q) ++ rest ≡ choices_of_outcome (run_outcome c p) ++ more → TwinRun q p

  pub record TwinBlocks (a b : BoundBlock) : Type 0 where
    pub one : FrameRun
    pub two : FrameRun
    pub one_is : IsBlockOf c (BlockOf a) one
    pub two_is : IsBlockOf c (BlockOf b) two
    pub is_block : IsBlockKind one.kind
    pub same_kind : one.kind ≡ two.kind
    pub twins : Twins one two

  -- ---- the rest of two frames

  pub record Twin (q p : FrameRun) (P : List PathPart → Type 0) (before after : List Piece) (o other : Outcome) :
      Type 0 where
    pub filled : Filled
    pub also : Filled
    pub one : Rest q P before o filled
    pub two : Rest p P after other also
    pub alike : FilledAlike filled also
    pub choices : choices_of_outcome o ≡ choices_of_outcome other
    pub ends : end_of_outcome o ≡ end_of_outcome other

  module _ (q p : FrameRun) where
    abbrev pub TwinBy : (List PathPart → Type 0) → List Piece → List Piece → Outcome → Outcome → Type 0
    TwinBy P before after o other = (rest more : Choices)
        → choices_of_outcome o ++ rest ≡ choices_of_outcome other ++ more → Twin q p P before after o other

    abbrev pub OnTwin : (List PathPart → Type 0) → (StateSoFar → Outcome) → (StateSoFar → Outcome) → Type 0
    OnTwin P on other = (x y : List Piece) → TwinBy P x y (on (At q x)) (other (At p y))

    twin_behind : (P : List PathPart → Type 0) (before after : List Piece) (chosen : Choices)
        (o other one two : Outcome) → choices_of_outcome o ≡ chosen ++ choices_of_outcome one
        → choices_of_outcome other ≡ chosen ++ choices_of_outcome two → SameRun o one → SameRun other two
        → TwinBy P before after one two → TwinBy P before after o other
    twin_behind P before after chosen o other one two c_is d_is same_one same_two twin rest more h =
        let a : Twin q p P before after one two = twin rest more
        (rest_same chosen (choices_of_outcome o) (choices_of_outcome other) (choices_of_outcome one)
        (choices_of_outcome two) rest more c_is d_is h) in record {
          filled = a.filled;
          also = a.also;
          one = rest_as q P P before o one a.filled same_one (λ l k. k) a.one;
          two = rest_as p P P after other two a.also same_two (λ l k. k) a.two;
          alike = a.alike;
          choices = c_is ∙ (ap (λ l. chosen ++ l) a.choices ∙ sym d_is);
          ends = same_one.ends ∙ (a.ends ∙ sym same_two.ends);
        }

    pub twin_wider : (P Q : List PathPart → Type 0) (before after : List Piece) (o other : Outcome)
        → ((l : List PathPart) → P l → Q l) → TwinBy P before after o other → TwinBy Q before after o other
    twin_wider P Q before after o other wider twin rest more h =
        let a : Twin q p P before after o other = twin rest more h in record {
          filled = a.filled;
          also = a.also;
          one = rest_as q P Q before o o a.filled (record { pieces = refl; ends = refl }) wider a.one;
          two = rest_as p P Q after other other a.also (record { pieces = refl; ends = refl }) wider a.two;
          alike = a.alike;
          choices = a.choices;
          ends = a.ends;
        }

    pub twin_costs : (P : List PathPart → Type 0) (before after : List Piece) (n m : ℕ) (o other : Outcome)
        → TwinBy P before after o other → TwinBy P before after (with_cost n o) (with_cost m other)
    twin_costs P before after n m o other twin =
        twin_behind P before after [] (with_cost n o) (with_cost m other) o other (first_choices (cost_of n) o)
        (first_choices (cost_of m) other) (spent_same (cost_of n) o) (spent_same (cost_of m) other) twin

    pub twin_chosen : (P : List PathPart → Type 0) (before after : List Piece) (choice : ChoiceMade)
        (o other : Outcome) → TwinBy P before after o other
        → TwinBy P before after (with_choice choice o) (with_choice choice other)
    twin_chosen P before after choice o other twin =
        twin_behind P before after (choice ∷ []) (with_choice choice o) (with_choice choice other) o other
        (first_choices (choice_of choice) o) (first_choices (choice_of choice) other)
        (spent_same (choice_of choice) o) (spent_same (choice_of choice) other) twin

    -- of two choices that are the same where the choices go on alike
    pub twin_same : (P : List PathPart → Type 0) (before after : List Piece) (choice another : ChoiceMade)
        (o other : Outcome) → choice ≡ another → TwinBy P before after o other
        → TwinBy P before after (with_choice choice o) (with_choice another other)
    twin_same P before after choice another o other same twin =
        subst (λ z. TwinBy P before after (with_choice choice o) (with_choice z other)) same
        (twin_chosen P before after choice o other twin)

    pub twin_if : (P : List PathPart → Type 0) (before after : List Piece) (k : ℕ) (test check : Bool)
        (one two following past : Outcome)
        → (test ≡ true → check ≡ true → TwinBy P before after one two) → BeginsFrom (k + 1) following
        → BeginsFrom (k + 1) past → TwinBy P before after following past →
        TwinBy P before after (if test then with_choice (ArmTaken (Some k)) one else following)
        (if check then with_choice (ArmTaken (Some k)) two else past)
    twin_if P before after k true true one two following past twin b d others =
        twin_chosen P before after (ArmTaken (Some k)) one two (twin refl refl)
    twin_if P before after k true false one two following past twin b d others =
        λ rest more h. absurd (no_clash k one past d rest more h)
    twin_if P before after k false true one two following past twin b d others =
        λ rest more h. absurd (no_clash k two following b more rest (sym h))
    twin_if P before after k false false one two following past twin b d others = others

    pub twin_turns : (P : List PathPart → Type 0) (before after : List Piece) (n m : ℕ) (one two : Outcome)
        → (n ≡ m → TwinBy P before after one two)
        → TwinBy P before after (with_choice (Turns n) one) (with_choice (Turns m) two)
    twin_turns P before after n m one two twin rest more h =
        let same : n ≡ m = ap first_turns
        (ap (λ l. l ++ rest) (sym (first_choices (choice_of (Turns n)) one))
        ∙ (h ∙ ap (λ l. l ++ more) (first_choices (choice_of (Turns m)) two))) in
        twin_same P before after (Turns n) (Turns m) one two (ap Turns same) (twin same) rest more h

    -- whole frames of one plan
    pub twin_whole : (r : Plan) → run_plan c q ≡ r → run_plan c p ≡ r → IsFrameWithin whole q.kind (run_plan c q)
        → IsFrameWithin whole p.kind (run_plan c p)
        → TwinBy (IsPath r) [] [] (run_outcome c q) (run_outcome c p) → Twins q p
    twin_whole r q_is p_is within also_within twin rest more h =
        let a : Twin q p (IsPath r) [] [] (run_outcome c q) (run_outcome c p) = twin rest more h in record {
          one = ran_whole q within a.filled (subst (λ z. Rest q (IsPath z) [] (run_outcome c q) a.filled) (sym q_is)
              a.one);
          two = ran_whole p also_within a.also (subst (λ z. Rest p (IsPath z) [] (run_outcome c p) a.also) (sym p_is)
              a.two);
          alike = a.alike;
          choices = a.choices;
          ends = a.ends;
        }

    -- at the end of both
    pub twin_nothing : (before after : List Piece) → TwinBy (λ l. l ≡ []) before after gives_nothing gives_nothing
    twin_nothing before after rest more h = record {
      filled = filled_end;
      also = filled_end;
      one = record { pieces = append-nil before; path = refl; runs = tt; fits = λ k. tt };
      two = record { pieces = append-nil after; path = refl; runs = tt; fits = λ k. tt };
      alike = tt;
      choices = refl;
      ends = refl;
    }

    -- ---- texts and values

    stepped : (Q : List PathPart → Type 0) (before after : List Piece) (a b : Piece) (on other : StateSoFar → Outcome)
        → TwinBy Q before after (GivesPiece one_work a (on (At q (before ++ (a ∷ [])))))
        (GivesPiece one_work b (other (At p (after ++ (b ∷ []))))) →
        TwinBy Q before after (piece_means a (At q before) on) (piece_means b (At p after) other)
    stepped Q before after a b on other twin =
        subst (λ s. TwinBy Q before after (GivesPiece one_work a (on s)) (piece_means b (At p after) other))
        (sym (read_more (start q.kind) before a))
        (subst (λ s. TwinBy Q before after (GivesPiece one_work a (on (At q (before ++ (a ∷ [])))))
        (GivesPiece one_work b (other s))) (sym (read_more (start p.kind) after b)) twin)

    pub twin_text : (P Q : List PathPart → Type 0) (at : Site) (text : List ℕ) → Joins (text_plan at text) P Q
        → (before after : List Piece) (on other : StateSoFar → Outcome) → OnTwin P on other →
        TwinBy Q before after (text_means text (At q before) on) (text_means text (At p after) other)
    twin_text P Q at [] joins before after on other twin =
        twin_wider P Q before after (on (At q before)) (other (At p after)) (λ l h. joins [] l empty_path h)
        (twin before after)
    twin_text P Q at (code ∷ text) joins before after on other twin =
        let said : List ℕ = code ∷ text in
        let into : (l : List PathPart) → P l → Q (StaticPart said ∷ l) =
        λ l h. joins (StaticPart said ∷ []) l static_text h in
        let x : List Piece = before ++ (Static said ∷ []) in
        let y : List Piece = after ++ (Static said ∷ []) in
        stepped Q before after (Static said) (Static said) on other
        (λ rest more h. let a : Twin q p P x y (on (At q x)) (other (At p y)) = twin x y rest more h in record {
          filled = text_before said a.filled;
          also = text_before said a.also;
          one = rest_text q P Q before said (on (At q x)) a.filled into a.one;
          two = rest_text p P Q after said (other (At p y)) a.also into a.two;
          alike = (refl, a.alike);
          choices = a.choices;
          ends = a.ends;
        })

    pub twin_value : (P Q : List PathPart → Type 0) (at : Site) (classes : List ValueClass) (v w : values.Value)
        → (Claim → IsMember (value_class v) classes) → (Claim → IsMember (value_class w) classes)
        → ((l : List PathPart) → P l → Q (HolePart at classes ∷ l))
        → (before after : List Piece) (on other : StateSoFar → Outcome) → OnTwin P on other →
        TwinBy Q before after (value_means c.direction v (At q before) on)
        (value_means c.direction w (At p after) other)
    twin_value P Q at classes v w has also_has into before after on other twin =
        let left : List ℕ = form_at q before v in
        let right : List ℕ = form_at p after w in
        let x : List Piece = before ++ (Value left ∷ []) in
        let y : List Piece = after ++ (Value right ∷ []) in
        let base : TwinBy Q before after (piece_means (Value left) (At q before) on)
        (piece_means (Value right) (At p after) other) =
        stepped Q before after (Value left) (Value right) on other
        (λ rest more h. let a : Twin q p P x y (on (At q x)) (other (At p y)) = twin x y rest more h in record {
          filled = value_before at classes (value_class v) (value_text v) a.filled;
          also = value_before at classes (value_class w) (value_text w) a.also;
          one = rest_value q P Q before at classes v (on (At q x)) a.filled has into a.one;
          two = rest_value p P Q after at classes w (other (At p y)) a.also also_has into a.two;
          alike = (refl, refl, a.alike);
          choices = a.choices;
          ends = a.ends;
        }) in
        subst (λ out. TwinBy Q before after (piece_means (Value out) (At q before) on)
        (value_means c.direction w (At p after) other))
        (ap (λ r. value_form r (value_class v) (value_text v) c.direction) (sym (placing_is q.kind before)))
        (subst (λ out. TwinBy Q before after (piece_means (Value left) (At q before) on)
        (piece_means (Value out) (At p after) other))
        (ap (λ r. value_form r (value_class w) (value_text w) c.direction) (sym (placing_is p.kind after))) base)

    -- ---- frames

    -- the states behind two frames
    behind_frames : (P : List PathPart → Type 0) (before after : List Piece) (a b : FrameRun) (one : HasRun a)
        (two : HasRun b) (on other : StateSoFar → Outcome) → OnTwin P on other →
        TwinBy P (before ++ pieces_in a one) (after ++ pieces_in b two)
        (on (read_outcome (At q before) (run_outcome c a))) (other (read_outcome (At p after) (run_outcome c b)))
    behind_frames P before after a b one two on other twin =
        let x : List Piece = before ++ pieces_in a one in
        let y : List Piece = after ++ pieces_in b two in
        let left : read_outcome (At q before) (run_outcome c a) ≡ At q x =
        read_all (start q.kind) before (run_outcome c a) ∙ ap (λ l. At q (before ++ l)) one.runs.pieces in
        let right : read_outcome (At p after) (run_outcome c b) ≡ At p y =
        read_all (start p.kind) after (run_outcome c b) ∙ ap (λ l. At p (after ++ l)) two.runs.pieces in
        subst (λ s. TwinBy P x y (on s) (other (read_outcome (At p after) (run_outcome c b)))) (sym left)
        (subst (λ s. TwinBy P x y (on (At q x)) (other s)) (sym right) (twin x y))

    frames_by_end : (P Q : List PathPart → Type 0) (at : Site) (classes : List ValueClass) (a b : FrameRun)
        → a.kind ≡ b.kind → IsBlockKind a.kind → IsBlockKind b.kind → IsGivenAt c q at a → IsGivenAt c p at b
        → (Claim → IsMember (kind_class a.kind) classes) → (Claim → IsMember (kind_class b.kind) classes)
        → (t : TwinRun a b) → HasSome P → ((l : List PathPart) → P l → Q (HolePart at classes ∷ l))
        → (before after : List Piece) (one two : Outcome)
        → TwinBy P (before ++ pieces_in a t.one) (after ++ pieces_in b t.two) one two → (end : RunEnd)
        → end_of_outcome (run_outcome c b) ≡ end →
        TwinBy Q before after (continued_by (run_outcome c a) one) (continued_by (run_outcome c b) two)
    frames_by_end P Q at classes a b same_kind is_block also_block given also_given has also_has t some into before
        after one two twin WholeRun e rest more h =
        let o : Outcome = run_outcome c a in
        let other : Outcome = run_outcome c b in
        let first : choices_of_outcome (continued_by o one) ≡ choices_of_outcome other ++ choices_of_outcome one =
        followed_choices o one (t.ends ∙ e) ∙ ap (λ l. l ++ choices_of_outcome one) t.choices in
        let second : choices_of_outcome (continued_by other two)
        ≡ choices_of_outcome other ++ choices_of_outcome two = followed_choices other two e in
        let past : Twin q p P (before ++ pieces_in a t.one) (after ++ pieces_in b t.two) one two = twin rest more
        (rest_same (choices_of_outcome other) (choices_of_outcome (continued_by o one))
        (choices_of_outcome (continued_by other two)) (choices_of_outcome one) (choices_of_outcome two) rest more
        first second h) in
        let left : ComesBehind o one (continued_by o one) = whole_followed o one (t.ends ∙ e) in
        let right : ComesBehind other two (continued_by other two) = whole_followed other two e in record {
          filled = frame_before at classes a.kind t.one.runs.filled past.filled;
          also = frame_before at classes b.kind t.two.runs.filled past.also;
          one = rest_frame q P Q before at classes a t.one is_block given has (t.ends ∙ e) one past.filled into
              past.one;
          two = rest_frame p P Q after at classes b t.two also_block also_given also_has e two past.also into
              past.two;
          alike = (refl, refl, same_kind, t.alike, past.alike);
          choices = first ∙ (ap (λ l. choices_of_outcome other ++ l) past.choices ∙ sym second);
          ends = left.ends ∙ (past.ends ∙ sym right.ends);
        }
    frames_by_end P Q at classes a b same_kind is_block also_block given also_given has also_has t some into before
        after one two twin (StopsAt call) e rest more h =
        let o : Outcome = run_outcome c a in
        let other : Outcome = run_outcome c b in
        let left : continued_by o one ≡ o = stop_is o one call (t.ends ∙ e) in
        let right : continued_by other two ≡ other = stop_is other two call e in record {
          filled = frame_before at classes a.kind t.one.runs.filled filled_end;
          also = frame_before at classes b.kind t.two.runs.filled filled_end;
          one = rest_stops q P Q before at classes a t.one is_block given has call (t.ends ∙ e) one into some;
          two = rest_stops p P Q after at classes b t.two also_block also_given also_has call e two into some;
          alike = (refl, refl, same_kind, t.alike, tt);
          choices = ap choices_of_outcome left ∙ (t.choices ∙ sym (ap choices_of_outcome right));
          ends = ap end_of_outcome left ∙ (t.ends ∙ sym (ap end_of_outcome right));
        }

    pub twin_frame : (P Q : List PathPart → Type 0) (at : Site) (classes : List ValueClass) (a b : FrameRun)
        → a.kind ≡ b.kind → IsBlockKind a.kind → IsGivenAt c q at a → IsGivenAt c p at b
        → (Claim → IsMember (kind_class a.kind) classes) → Twins a b → HasSome P
        → ((l : List PathPart) → P l → Q (HolePart at classes ∷ l))
        → (before after : List Piece) (on other : StateSoFar → Outcome) → OnTwin P on other →
        TwinBy Q before after (frame_means (run_outcome c a) (At q before) on)
        (frame_means (run_outcome c b) (At p after) other)
    twin_frame P Q at classes a b same_kind is_block given also_given has twins some into before after on other twin
        rest more h =
        let o : Outcome = run_outcome c a in
        let w : Outcome = run_outcome c b in
        let one : Outcome = on (read_outcome (At q before) o) in
        let two : Outcome = other (read_outcome (At p after) w) in
        let u : (tail : Choices) × (choices_of_outcome (continued_by o one) ≡ choices_of_outcome o ++ tail) =
        begins o one in
        let v : (tail : Choices) × (choices_of_outcome (continued_by w two) ≡ choices_of_outcome w ++ tail) =
        begins w two in
        let t : TwinRun a b = twins (u.0 ++ rest) (v.0 ++ more)
        (sym (append_assoc (choices_of_outcome o) u.0 rest) ∙ (ap (λ l. l ++ rest) (sym u.1)
        ∙ (h ∙ (ap (λ l. l ++ more) v.1 ∙ append_assoc (choices_of_outcome w) v.0 more)))) in
        frames_by_end P Q at classes a b same_kind is_block (subst IsBlockKind same_kind is_block) given also_given
        has (λ k. subst (λ z. IsMember (kind_class z) classes) same_kind (has k)) t some into before after one two
        (behind_frames P before after a b t.one t.two on other twin) (end_of_outcome w) refl rest more h

    -- ---- what is gathered

    texts_by : (Q : List PathPart → Type 0) (before after : List Piece) (a b : FrameRun) → TwinRun a b → HasSome Q
        → (next following : List ℕ → Outcome)
        → ((l m : List ℕ) → l ≡ joined_pieces (pieces_of_outcome (run_outcome c a))
        → m ≡ joined_pieces (pieces_of_outcome (run_outcome c b)) → TwinBy Q before after (next l) (following m)) →
        Gathers [] (run_outcome c a) next → Gathers [] (run_outcome c b) following →
        TwinBy Q before after (gathered [] (run_outcome c a) next) (gathered [] (run_outcome c b) following)
    texts_by Q before after a b t some next following twin (inl g) (inl k) =
        twin_behind Q before after (choices_of_outcome (run_outcome c b)) (gathered [] (run_outcome c a) next)
        (gathered [] (run_outcome c b) following) (next g.value) (following k.value)
        (g.choices ∙ ap (λ l. l ++ choices_of_outcome (next g.value)) t.choices) k.choices g.same k.same
        (twin g.value k.value g.is k.is)
    texts_by Q before after a b t some next following twin (inl g) (inr k) =
        absurd (stop_not_whole k.call (sym k.ends ∙ (sym t.ends ∙ g.ends)))
    texts_by Q before after a b t some next following twin (inr g) (inl k) =
        absurd (stop_not_whole g.call (sym g.ends ∙ (t.ends ∙ k.ends)))
    texts_by Q before after a b t some next following twin (inr g) (inr k) = λ rest more h. record {
      filled = filled_end;
      also = filled_end;
      one = rest_halts q Q before (gathered [] (run_outcome c a) next) g.call g.pieces g.halts some;
      two = rest_halts p Q after (gathered [] (run_outcome c b) following) k.call k.pieces k.halts some;
      alike = tt;
      choices = g.choices ∙ (t.choices ∙ sym k.choices);
      ends = g.halts ∙ (sym g.ends ∙ (t.ends ∙ (k.ends ∙ sym k.halts)));
    }

    twin_texts : (Q : List PathPart → Type 0) (before after : List Piece) (a b : FrameRun) → Twins a b → HasSome Q
        → (next following : List ℕ → Outcome)
        → ((l m : List ℕ) → l ≡ joined_pieces (pieces_of_outcome (run_outcome c a))
        → m ≡ joined_pieces (pieces_of_outcome (run_outcome c b)) → TwinBy Q before after (next l) (following m)) →
        TwinBy Q before after (gathered [] (run_outcome c a) next) (gathered [] (run_outcome c b) following)
    twin_texts Q before after a b twins some next following twin rest more h =
        let o : Outcome = run_outcome c a in
        let w : Outcome = run_outcome c b in
        let g : Gathers [] o next = gathers [] o next in
        let k : Gathers [] w following = gathers [] w following in
        let u : (tail : Choices) × (choices_of_outcome (gathered [] o next) ≡ choices_of_outcome o ++ tail) =
        gathers_begins [] o next g in
        let v : (tail : Choices) × (choices_of_outcome (gathered [] w following) ≡ choices_of_outcome w ++ tail) =
        gathers_begins [] w following k in
        let t : TwinRun a b = twins (u.0 ++ rest) (v.0 ++ more)
        (sym (append_assoc (choices_of_outcome o) u.0 rest) ∙ (ap (λ l. l ++ rest) (sym u.1)
        ∙ (h ∙ (ap (λ l. l ++ more) v.1 ∙ append_assoc (choices_of_outcome w) v.0 more)))) in
        texts_by Q before after a b t some next following twin g k rest more h

    -- ---- what is bound, printed and called

    pub twin_bound : (Q : List PathPart → Type 0) (before after : List Piece) (k : Kind) (a b : FrameRun)
        → a.kind ≡ k → b.kind ≡ k → Twins a b → HasSome Q → (next following : Binding BoundBlock → Outcome)
        → ((x y : Binding BoundBlock) → x ≡ bound_as k (run_outcome c a) → y ≡ bound_as k (run_outcome c b)
        → BindingsBy TwinBlocks (is_block_kind k) x y → TwinBy Q before after (next x) (following y)) →
        TwinBy Q before after (block_bound k (run_outcome c a) next) (block_bound k (run_outcome c b) following)
    twin_bound Q before after kinds.Html a b a_is b_is twins some next following twin =
        twin (BlockOf (record { kind = kinds.Html; outcome = run_outcome c a }))
        (BlockOf (record { kind = kinds.Html; outcome = run_outcome c b })) refl refl
        (record {
          one = a;
          two = b;
          one_is = ap (λ z. BlockOf (record { kind = z; outcome = run_outcome c a })) (sym a_is);
          two_is = ap (λ z. BlockOf (record { kind = z; outcome = run_outcome c b })) (sym b_is);
          is_block = subst IsBlockKind (sym a_is) tt;
          same_kind = a_is ∙ sym b_is;
          twins = twins;
        })
    twin_bound Q before after kinds.Attributes a b a_is b_is twins some next following twin =
        twin (BlockOf (record { kind = kinds.Attributes; outcome = run_outcome c a }))
        (BlockOf (record { kind = kinds.Attributes; outcome = run_outcome c b })) refl refl
        (record {
          one = a;
          two = b;
          one_is = ap (λ z. BlockOf (record { kind = z; outcome = run_outcome c a })) (sym a_is);
          two_is = ap (λ z. BlockOf (record { kind = z; outcome = run_outcome c b })) (sym b_is);
          is_block = subst IsBlockKind (sym a_is) tt;
          same_kind = a_is ∙ sym b_is;
          twins = twins;
        })
    twin_bound Q before after kinds.Text a b a_is b_is twins some next following twin =
        twin_texts Q before after a b twins some (λ text. next (Known (StringValue text)))
        (λ text. following (Known (StringValue text)))
        (λ l m l_is m_is. twin (Known (StringValue l)) (Known (StringValue m))
        (ap (λ text. Known (StringValue text)) l_is) (ap (λ text. Known (StringValue text)) m_is) tt)

    pub twin_printed : (P Q : List PathPart → Type 0) (at : Site) (classes : List ValueClass) (may : Bool)
        (a b : Binding BoundBlock) → BindingsBy TwinBlocks may a b → GivesBlocks c whole Claim AnyStop q at a
        → GivesBlocks c whole Claim AnyStop p at b → (Claim → HasClass a classes) → (Claim → HasClass b classes)
        → HasSome P → ((l : List PathPart) → P l → Q (HolePart at classes ∷ l))
        → (before after : List Piece) (on other : StateSoFar → Outcome) → OnTwin P on other →
        TwinBy Q before after (printed_means c.direction a (At q before) on)
        (printed_means c.direction b (At p after) other)
    twin_printed P Q at classes may (Known v) (Known w) h given also has also_has some into before after on other twin
        = twin_value P Q at classes v w has also_has into before after on other twin
    twin_printed P Q at classes true (Known v) (BlockOf b) h given also has also_has some into before after on other
        twin = absurd h
    twin_printed P Q at classes false (Known v) (BlockOf b) h given also has also_has some into before after on other
        twin = absurd h
    twin_printed P Q at classes true (BlockOf a) (Known w) h given also has also_has some into before after on other
        twin = absurd h
    twin_printed P Q at classes false (BlockOf a) (Known w) h given also has also_has some into before after on other
        twin = absurd h
    twin_printed P Q at classes false (BlockOf a) (BlockOf b) h given also has also_has some into before after on
        other twin = absurd h
    twin_printed P Q at classes true (BlockOf a) (BlockOf b) h given also has also_has some into before after on other
        twin =
        let t : TwinBlocks a b = h in
        subst (λ z. TwinBy Q before after (printed_means c.direction z (At q before) on)
        (printed_means c.direction (BlockOf b) (At p after) other)) (sym t.one_is)
        (subst (λ z. TwinBy Q before after (frame_means (run_outcome c t.one) (At q before) on)
        (printed_means c.direction z (At p after) other)) (sym t.two_is)
        (twin_frame P Q at classes t.one t.two t.same_kind t.is_block (given t.one t.one_is) (also t.two t.two_is)
        (λ k. subst (λ z. HasClass z classes) t.one_is (has k)) t.twins some into before after on other twin))

    pub twin_called : (P Q : List PathPart → Type 0) (at : Site) (classes : List ValueClass) (k : Kind)
        (a b : FrameRun) → a.kind ≡ k → b.kind ≡ k → IsGivenAt c q at a → IsGivenAt c p at b
        → (Claim → IsMember (kind_class k) classes) → Twins a b → HasSome P
        → ((l : List PathPart) → P l → Q (HolePart at classes ∷ l))
        → (before after : List Piece) (on other : StateSoFar → Outcome) → OnTwin P on other →
        TwinBy Q before after (called_means c.direction k (run_outcome c a) (At q before) on)
        (called_means c.direction k (run_outcome c b) (At p after) other)
    twin_called P Q at classes kinds.Html a b a_is b_is given also has twins some into before after on other twin =
        twin_frame P Q at classes a b (a_is ∙ sym b_is) (subst IsBlockKind (sym a_is) tt) given also
        (λ j. subst (λ z. IsMember (kind_class z) classes) (sym a_is) (has j)) twins some into before after on other
        twin
    twin_called P Q at classes kinds.Attributes a b a_is b_is given also has twins some into before after on other
        twin =
        twin_frame P Q at classes a b (a_is ∙ sym b_is) (subst IsBlockKind (sym a_is) tt) given also
        (λ j. subst (λ z. IsMember (kind_class z) classes) (sym a_is) (has j)) twins some into before after on other
        twin
    twin_called P Q at classes kinds.Text a b a_is b_is given also has twins some into before after on other twin =
        twin_texts Q before after a b twins (HolePart at classes ∷ some.0, into some.0 some.1)
        (λ text. value_means c.direction (StringValue text) (At q before) on)
        (λ text. value_means c.direction (StringValue text) (At p after) other)
        (λ l m l_is m_is. twin_value P Q at classes (StringValue l) (StringValue m) has has into before after on other
        twin)

    twin_refusal : (Q : List PathPart → Type 0) (at : Site) → HasSome Q → (before after : List Piece) →
        TwinBy Q before after (RunEnds none_spent (StopsAt at)) (RunEnds none_spent (StopsAt at))
    twin_refusal Q at some before after rest more h = record {
      filled = filled_end;
      also = filled_end;
      one = rest_halts q Q before (RunEnds none_spent (StopsAt at)) at refl refl some;
      two = rest_halts p Q after (RunEnds none_spent (StopsAt at)) at refl refl some;
      alike = tt;
      choices = refl;
      ends = refl;
    }

    -- calls that may not be opened
    pub twin_refused : (Q : List PathPart → Type 0) (at : Site) (k : Kind) → HasSome Q
        → (before after : List Piece) (on other : StateSoFar → Outcome) →
        TwinBy Q before after (called_means c.direction k (RunEnds none_spent (StopsAt at)) (At q before) on)
        (called_means c.direction k (RunEnds none_spent (StopsAt at)) (At p after) other)
    twin_refused Q at kinds.Html some before after on other = twin_refusal Q at some before after
    twin_refused Q at kinds.Attributes some before after on other = twin_refusal Q at some before after
    twin_refused Q at kinds.Text some before after on other = twin_refusal Q at some before after
