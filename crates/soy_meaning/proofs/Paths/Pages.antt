-- A page that fills a path goes on as the walk along the path, through values and frames.
use Rattle.std.proofs.Common.{◌≡◌, ℕ, Bool, true, false, ◌&&◌, ◌==◌, List, [], ◌∷◌, ◌++◌, ◌⊎◌, inl, inr, Option}
use Rattle.std.proofs.Common.{Some, None, Result, Ok, Err, if◌then◌else◌, refl, sym, ap, ◌∙◌, subst, append_assoc}
use Rattle.std.specs.Char.{is_ascii_alphanumeric}
use Rattle.std.specs.List.{list_all}
use Rattle.std.proofs.lemmas.Bool.{and_parts}
use Rattle.std.proofs.lemmas.List.{append-nil}
use Rattle.soy_base.specs.Among.{is_among}
use Rattle.soy_base.specs.Characters.{ampersand, equals_sign, number_sign, semicolon}
use Rattle.soy_base.specs.declared.code.Code.{Code}
use Rattle.soy_base.specs.declared.code.Code.TheVariants as code
use Rattle.soy_base.specs.declared.direction.Dir.{Dir}
use Rattle.soy_base.specs.declared.kind.Kind.{Kind}
use Rattle.soy_base.specs.declared.kind.Kind.TheVariants as kind
use Rattle.soy_base.specs.declared.place.Place.{Place}
use Rattle.soy_base.specs.declared.place.Place.TheVariants as place
use Rattle.soy_base.specs.declared.place.Placing.{Placing}
use Rattle.soy_base.specs.declared.place.Placing.TheVariants.{Takes, Refuses}
use Rattle.soy_base.specs.declared.place.ValueClass.{ValueClass}
use Rattle.html_state.specs.AfterAll.{after_all}
use Rattle.html_state.specs.AfterValue.{after_value}
use Rattle.html_state.specs.Follows.{Follows, FollowsOn, IsOutside, LeadsPage, PlacedAlike}
use Rattle.html_state.specs.Follows.{FramesAttributes, FramesHtml}
use Rattle.html_state.specs.KeepsPlace.{KeepsPlaceAt}
use Rattle.html_state.specs.Kept.{prefix_with}
use Rattle.html_state.specs.Leads.{marked}
use Rattle.html_state.specs.MayEnd.{may_end, may_end_row}
use Rattle.html_state.specs.Next.{begun_reference, is_decided, name_end, name_next, next, numeric_next}
use Rattle.html_state.specs.Next.{pending, plain_next, reference_begun_next, reference_next, text_end}
use Rattle.html_state.specs.AfterPieces.{after_piece, after_pieces, placing_after}
use Rattle.soy_base.specs.Piece.{Piece, Static, Value}
use Rattle.html_state.specs.References.{name_begun, reference_names}
use Rattle.html_state.specs.Start.{start}
use Rattle.html_state.specs.StatePlacing.{placing, row_placing}
use Rattle.html_state.specs.TakesClass.{takes_class}
use Rattle.html_state.specs.Texts.{and_then as after}
use Rattle.html_state.specs.declared.row.HtmlRow.{HtmlRow}
use Rattle.html_state.specs.declared.row.HtmlRow.TheVariants as row
use Rattle.html_state.specs.declared.row.Reference.{Reference}
use Rattle.html_state.specs.declared.row.Reference.TheVariants as reference
use Rattle.html_state.specs.declared.row.State.{State}
use Rattle.html_state.specs.declared.row.Tag.{Tag}
use Rattle.html_state.proofs.PageFrames.{page_attributes, page_html, page_value}
use Rattle.html_state.proofs.PagePlaces.{page_place}
use Rattle.html_state.proofs.PageSteps.{page_step, page_text_end, same_row}
use Rattle.html_state.proofs.Pieces.{after_all-append}
use Rattle.soy_pieces.specs.EscapedAt.{escaped_where}
use Rattle.soy_meaning.specs.Paths.Filled.{Filled, filled_end, text_before, value_before, frame_before, parts_of_filled}
use Rattle.soy_meaning.specs.Paths.Filled.{filled_pieces, IsBlockKind, IsFrameOf, FillsHoles}
use Rattle.soy_pieces.specs.EscapedAt.{value_form}
use Rattle.soy_meaning.specs.Walks.FourPoints.{StartsAs, takes_classes}
use Rattle.soy_meaning.specs.Walks.PageMachine.{page_machine}
use Rattle.soy_meaning.specs.Paths.PlanOfNodes.{kind_class}
use Rattle.soy_meaning.specs.Paths.PathParts.{PathPart, StaticPart, HolePart, after_text, state_after_parts}
use Rattle.soy_meaning.specs.Walks.States.{IsMember}
use Rattle.soy_meaning.proofs.Paths.FinePaths.{Fine, fine_runs, path_fine}
use Rattle.soy_meaning.proofs.Walks.Holds.{Holds}
use Rattle.soy_meaning.proofs.Paths.KeptForms.{form_kept}
use Rattle.soy_meaning.proofs.Walks.Moves.{followed_ok}
use Rattle.soy_base.proofs.Results.{ok_same}
use Rattle.soy_meaning.proofs.Walks.PointsAndHolds.{good_of_points}

-- the walk has left its tag
abbrev pub IsLost : State → Type 0
IsLost state = IsOutside state.row

-- no reference is pending
abbrev pub IsSettled : State → Type 0
IsSettled state = state.reference ≡ reference.Decided

-- ---- a walk that has left its tag stays so

abbrev StaysOutside : Result State Code → Type 0
StaysOutside (Ok now) = IsLost now
StaysOutside (Err fault) = Unit {0}

outside_if : (test : Bool) (one other : Result State Code) → StaysOutside one → StaysOutside other
    → StaysOutside (if test then one else other)
outside_if true one other is is_other = is
outside_if false one other is is_other = is_other

plain_outside : (c : ℕ) → StaysOutside (plain_next row.Outside c)
plain_outside c = outside_if (c == ampersand && false) (Err code.Reference)
    (Ok (pending row.Outside (begun_reference row.Outside c))) tt tt

numeric_outside : (o : Result Reference Code) → StaysOutside (after (λ following. Ok (pending row.Outside following)) o)
numeric_outside (Ok following) = tt
numeric_outside (Err fault) = tt

end_outside : (is_name : Bool) (c : ℕ) → StaysOutside (name_end row.Outside is_name c)
end_outside is_name c =
    outside_if (c == semicolon) (if is_name then Ok (pending row.Outside reference.Decided) else Err code.Reference)
    (if c == equals_sign && false then plain_next row.Outside c else Err code.Ampersand)
    (outside_if is_name (Ok (pending row.Outside reference.Decided)) (Err code.Reference) tt tt)
    (outside_if (c == equals_sign && false) (plain_next row.Outside c) (Err code.Ampersand) (plain_outside c) tt)

begun_outside : (prefix : List ℕ) (c : ℕ) → StaysOutside (reference_begun_next row.Outside prefix c)
begun_outside [] c =
    outside_if (c == number_sign) (Ok (pending row.Outside (reference.Begun (prefix_with [] c))))
    (if is_ascii_alphanumeric c && true then Ok (pending row.Outside (name_begun (prefix_with [] c)))
    else plain_next row.Outside c) tt
    (outside_if (is_ascii_alphanumeric c && true) (Ok (pending row.Outside (name_begun (prefix_with [] c))))
    (plain_next row.Outside c) tt (plain_outside c))
begun_outside (first ∷ rest) c =
    outside_if (first == number_sign) (after (λ following. Ok (pending row.Outside following)) (numeric_next rest c))
    (name_next row.Outside (first ∷ rest) c)
    (numeric_outside (numeric_next rest c))
    (outside_if (is_ascii_alphanumeric c) (Ok (pending row.Outside (name_begun (prefix_with (first ∷ rest) c))))
    (name_end row.Outside (is_among reference_names (first ∷ rest)) c)
    tt (end_outside (is_among reference_names (first ∷ rest)) c))

next_outside : (now : Reference) (c : ℕ) → StaysOutside (reference_next row.Outside now c)
next_outside reference.Decided c = plain_outside c
next_outside (reference.Begun prefix) c = begun_outside prefix c
next_outside reference.NoName c =
    outside_if (is_ascii_alphanumeric c) (Ok (pending row.Outside reference.NoName)) (name_end row.Outside false c) tt
    (end_outside false c)

outside_row : (now : HtmlRow) → IsOutside now → now ≡ row.Outside
outside_row row.Outside is = refl
outside_row row.Data never = absurd never
outside_row row.TagOpen never = absurd never
outside_row row.EndTagOpen never = absurd never
outside_row (row.TagName k n) never = absurd never
outside_row (row.InTag t i) never = absurd never
outside_row (row.MarkupDeclaration p) never = absurd never
outside_row (row.InDeclaration d) never = absurd never
outside_row (row.Within e) never = absurd never
outside_row (row.BegunEndTag e b) never = absurd never
outside_row row.Plain never = absurd never

lost_step : (t u : State) (c : ℕ) → IsLost t → next t c ≡ Ok u → IsLost u
lost_step t u c lost is =
    subst StaysOutside (sym (ap (λ r. reference_next r t.reference c) (outside_row t.row lost)) ∙ is)
    (next_outside t.reference c)

-- ---- a static text

settled_if : (now : Reference) (t u : State) → (if is_decided now then Ok t else Err code.Ampersand) ≡ Ok u
    → (now ≡ reference.Decided) × (t ≡ u)
settled_if reference.Decided t u is = (refl, ok_same t u is)
settled_if (reference.Begun prefix) t u is = let never : ⊥ = cc in absurd never
settled_if reference.NoName t u is = let never : ⊥ = cc in absurd never

text_ends : (t u : State) → text_end t ≡ Ok u → IsSettled t × (t ≡ u)
text_ends t u is = settled_if t.reference t u is

lost_text : (text : List ℕ) (t u : State) → IsLost t → after_text page_machine text t ≡ Ok u → IsLost u
lost_text [] t u lost is = subst IsLost (text_ends t u is).1 lost
lost_text (c ∷ text) t u lost is =
    let p : (w : State) × (next t c ≡ Ok w) × (after_text page_machine text w ≡ Ok u) =
    followed_ok (next t c) (λ w. after_text page_machine text w) u is in
    lost_text text p.0 u (lost_step t p.0 c lost p.1) p.2

step_follows : (around : Option Tag) (s t u : State) (c : ℕ) → Follows around s t → next t c ≡ Ok u →
    IsLost u ⊎ ((v : State) × (next s c ≡ Ok v) × Follows around v u)
step_follows around s t u c follows is = subst (λ o. FollowsOn around (next s c) o) is (page_step around s t c follows)

-- what reading a static text leads to
abbrev pub ReadsOn : Option Tag → Result State Code → State → Type 0
ReadsOn around read u = IsLost u ⊎ ((v : State) × (read ≡ Ok v) × Follows around v u × IsSettled u)

read_first : (around : Option Tag) (text : List ℕ) (o : Result State Code) (v u : State) → o ≡ Ok v →
    ReadsOn around (after text_end (after_all next v text)) u
    → ReadsOn around (after text_end (after (λ past. after_all next past text) o)) u
read_first around text o v u is on =
    subst (λ z. ReadsOn around (after text_end (after (λ past. after_all next past text) z)) u) (sym is) on

pub text_follows : (around : Option Tag) (text : List ℕ) (s t u : State) → Follows around s t
    → after_text page_machine text t ≡ Ok u →
    ReadsOn around (after_piece s (Static text)) u
text_follows around [] s t u follows is =
    let e : IsSettled t × (t ≡ u) = text_ends t u is in
    inr (
      s,
      page_text_end around s t follows (is ∙ ap Ok (sym e.1)),
      subst (λ z. Follows around s z) e.1 follows,
      subst IsSettled e.1 e.0,
    )
text_follows around (c ∷ text) s t u follows is =
    let p : (w : State) × (next t c ≡ Ok w) × (after_text page_machine text w ≡ Ok u) =
    followed_ok (next t c) (λ w. after_text page_machine text w) u is in
    elim (step_follows around s t p.0 c follows p.1) [
      | inl lost ↦ inl (lost_text text p.0 u lost p.2)
      | inr q ↦ read_first around text (next s c) q.0 u q.1 (text_follows around text q.0 p.0 u q.2 p.2)
    ]

-- ---- a hole

pub lost_hole : (t : State) (classes : List ValueClass) → IsLost t → takes_classes (placing t) classes ≡ true → ⊥
lost_hole t classes lost takes =
    let refused : takes_classes (Refuses code.Place) classes ≡ true =
    subst (λ r. takes_classes (row_placing r) classes ≡ true) (outside_row t.row lost) takes in
    let never : ⊥ = cc in never

pub lost_rest : (l : List PathPart) (t u : State) → IsLost t → Fine page_machine l t
    → state_after_parts page_machine l t ≡ Ok u → IsLost u
lost_rest [] t u lost fine is = subst IsLost (ok_same t u is) lost
lost_rest (StaticPart text ∷ l) t u lost fine is =
    let p : (w : State) × (after_text page_machine text t ≡ Ok w) × (state_after_parts page_machine l w ≡ Ok u) =
    followed_ok (after_text page_machine text t) (λ w. state_after_parts page_machine l w) u is in
    let same : fine.0 ≡ p.0 = ok_same fine.0 p.0 (sym fine.1 ∙ p.1) in
    lost_rest l p.0 u (lost_text text t p.0 lost p.1) (subst (λ w. Fine page_machine l w) same fine.2) p.2
lost_rest (HolePart at classes ∷ l) t u lost fine is = absurd (lost_hole t classes lost fine.0)

all_take : (point : Place) (value : ValueClass) (classes : List ValueClass)
    → list_all (takes_class (Takes point)) classes ≡ true → IsMember value classes
    → takes_class (Takes point) value ≡ true
all_take point value [] all one = absurd one
all_take point value (first ∷ classes) all (inl same) = let parts = and_parts _ _ all in
    subst (λ v. takes_class (Takes point) v ≡ true) (sym same) parts.0
all_take point value (first ∷ classes) all (inr later) = let parts = and_parts _ _ all in
    all_take point value classes parts.1 later

pub takes_one : (placing : Placing) (value : ValueClass) (classes : List ValueClass)
    → takes_classes placing classes ≡ true → IsMember value classes → takes_class placing value ≡ true
takes_one (Takes point) value classes all one = all_take point value classes all one
takes_one (Refuses code) value classes all one = let never : ⊥ = cc in absurd never

-- where nothing is around, the placings are the same
pub same_placing_alone : (own walk : Placing) (classes : List ValueClass) → PlacedAlike None own walk
    → takes_classes walk classes ≡ true → own ≡ walk
same_placing_alone own (Takes place.Text) classes alike all = alike
same_placing_alone own (Takes place.Rcdata) classes alike all = alike
same_placing_alone own (Takes place.Tag) classes alike all = alike
same_placing_alone own (Takes place.Attr) classes alike all = alike
same_placing_alone own (Takes place.UriStart) classes alike all = alike
same_placing_alone own (Takes place.UriPath) classes alike all = alike
same_placing_alone own (Takes place.UriQuery) classes alike all = alike
same_placing_alone own (Takes place.UriFragment) classes alike all = alike
same_placing_alone own (Takes place.JsValue) classes alike all = alike
same_placing_alone own (Takes place.JsSingle) classes alike all = alike
same_placing_alone own (Takes place.JsDouble) classes alike all = alike
same_placing_alone own (Takes place.CssValue) classes alike all = alike
same_placing_alone own (Takes place.CssString) classes alike all = alike
same_placing_alone own (Takes place.Plain) classes alike all = alike
same_placing_alone own (Refuses code) classes alike all = let never : ⊥ = cc in absurd never

-- what a value or a frame in a hole leads to
abbrev pub LeadsOn : Option Tag → List Piece → State → State → Type 0
LeadsOn around pieces page after_hole = (now : State) × (after_pieces page pieces ≡ Ok now)
    × Follows around now after_hole

pub one_piece : (page now : State) (item : Piece) → after_piece page item ≡ Ok now → after_pieces page (item ∷ [])
    ≡ Ok now
one_piece page now item is = ap (after (λ past. Ok past)) is

pub value_follows : (around : Option Tag) (page walk : State) (out : List ℕ) → Follows around page walk
    → KeepsPlaceAt (placing walk) out →
    LeadsOn around (Value out ∷ []) page (after_value walk)
value_follows around page walk out follows keeps =
    let led : LeadsPage around page walk out = page_value around page walk out follows keeps in (
      marked page led.0,
      one_piece page (marked page led.0) (Value out)
          (ap (after (λ now. Ok (marked page now))) led.1),
      led.2,
    )

-- the form of a value is that of the walk's placing
form_is : (context : Dir) (o : Result Placing Code) (own walk : Placing) (value : ValueClass) (text out : List ℕ)
    → o ≡ Ok own → own ≡ walk → escaped_where walk value text context ≡ Some out →
    value_form o value text context ≡ out
form_is context o own walk value text out is same form = rw (is, same, form) refl

-- ---- frames

abbrev pub FrameGoesOn : Option Tag → State → State → Kind → Type 0
FrameGoesOn around page walk kind =
    (inside : Option Tag) × Follows inside page (start kind)
    × ((now ended : State) → Follows inside now ended → may_end kind ended ≡ true → IsSettled ended
    → Follows around now (after_value walk))

pub frame_goes_on : (around : Option Tag) (page walk : State) (kind : Kind) → IsBlockKind kind
    → Follows around page walk
    → takes_class (placing walk) (kind_class kind) ≡ true → IsSettled walk →
    FrameGoesOn around page walk kind
frame_goes_on around page walk kind.Html block follows takes settled = let f : FramesHtml around page walk =
    page_html around page walk follows takes settled in (None, f.0, f.1)
frame_goes_on around page walk kind.Attributes block follows takes settled =
    let f : FramesAttributes around page walk = page_attributes around page walk follows takes settled in
    (Some f.0, f.1, f.2)
frame_goes_on around page walk kind.Text block follows takes settled = absurd block

pub may_not_end : (kind : Kind) (t : State) → IsLost t → may_end kind t ≡ true → ⊥
may_not_end kind.Html t lost ends = let is : may_end_row kind.Html row.Outside ≡ true =
    subst (λ r. may_end_row kind.Html r ≡ true) (outside_row t.row lost) ends in let never : ⊥ = cc in never
may_not_end kind.Attributes t lost ends = let is : may_end_row kind.Attributes row.Outside ≡ true =
    subst (λ r. may_end_row kind.Attributes r ≡ true) (outside_row t.row lost) ends in let never : ⊥ = cc in never
may_not_end kind.Text t lost ends = let is : may_end_row kind.Text row.Outside ≡ true =
    subst (λ r. may_end_row kind.Text r ≡ true) (outside_row t.row lost) ends in let never : ⊥ = cc in never

pub starts_settled : (kind : Kind) → IsSettled (start kind)
starts_settled kind.Html = refl
starts_settled kind.Attributes = refl
starts_settled kind.Text = refl

pub follows_itself : (state : State) → Follows None state state
follows_itself state = (same_row state.row, refl)

-- an accepted frame is fine from its start, and may end where it leads
pub record FrameRuns (kind : Kind) (parts : List PathPart) : Type 0 where
  pub last : State
  pub fine : Fine page_machine parts (start kind)
  pub leads : state_after_parts page_machine parts (start kind) ≡ Ok last
  pub ends : may_end kind last ≡ true

pub frame_runs : (kind : Kind) (parts : List PathPart) → IsFrameOf kind parts → FrameRuns kind parts
frame_runs kind parts frame =
    let good : Holds page_machine frame.plan (StartsAs page_machine kind) =
    good_of_points page_machine frame.plan (StartsAs page_machine kind) frame.points.points frame.inner in
    let fine : Fine page_machine parts (start kind) = path_fine page_machine frame.plan (StartsAs page_machine kind)
    good parts frame.path (start kind) refl in
    let runs : (u : State) × (state_after_parts page_machine parts (start kind) ≡ Ok u) =
    fine_runs page_machine parts (start kind) fine in
    record {
      last = runs.0;
      fine = fine;
      leads = runs.1;
      ends = frame.points.ends runs.0
          (record {
            from = start kind;
            before = refl;
            path_leads = record { parts = parts; path = frame.path; reads = runs.1 };
          });
    }

-- ---- what fills a path

-- the pieces that come after those so far, read by the frame itself and by the page around it
pub record GoesOn (around : Option Tag) (kind : Kind) (so_far whole : List Piece) (page last : State) : Type 0 where
  pub more : List Piece
  pub is : whole ≡ so_far ++ more
  pub own : LeadsOn None whole (start kind) last
  pub reads : LeadsOn around more page last
  pub settled : IsSettled last

goes_on_behind : (around : Option Tag) (kind : Kind) (so_far first whole : List Piece) (page middle last : State)
    → after_pieces page first ≡ Ok middle →
    GoesOn around kind (so_far ++ first) whole middle last → GoesOn around kind so_far whole page last
goes_on_behind around kind so_far first whole page middle last is on = record {
  more = first ++ on.more;
  is = on.is ∙ append_assoc so_far first on.more;
  own = on.own;
  reads = (
    on.reads.0,
    after_all-append after_piece page first on.more
        ∙ (ap (after (λ past. after_pieces past on.more)) is ∙ on.reads.1),
    on.reads.2,
  );
  settled = on.settled;
}

pub read_behind : (kind : Kind) (so_far more : List Piece) (own now : State) → after_pieces (start kind) so_far ≡ Ok own
    → after_pieces own more ≡ Ok now → after_pieces (start kind) (so_far ++ more) ≡ Ok now
read_behind kind so_far more own now is led = after_all-append after_piece (start kind) so_far more
    ∙ (ap (after (λ past. after_pieces past more)) is ∙ led)

module _ (context : Dir) where
  -- from anywhere along the path
  abbrev FollowsFilled : Filled → Type 0
  FollowsFilled f =
      (around : Option Tag) (kind : Kind) (so_far : List Piece) (own page walk last : State) → FillsHoles f →
      after_pieces (start kind) so_far ≡ Ok own → Follows None own walk → Follows around page walk → IsSettled walk →
      Fine page_machine (parts_of_filled f) walk → state_after_parts page_machine (parts_of_filled f) walk ≡ Ok last →
      IsLost last ⊎ GoesOn around kind so_far (filled_pieces context f kind so_far) page last

  -- past what stands first
  go_on : (f : Filled) → FollowsFilled f → (around : Option Tag) (kind : Kind) (so_far first : List Piece)
      (own page walk last : State) → FillsHoles f →
      after_pieces (start kind) so_far ≡ Ok own → LeadsOn None first own walk → LeadsOn around first page walk
      → IsSettled walk →
      Fine page_machine (parts_of_filled f) walk → state_after_parts page_machine (parts_of_filled f) walk ≡ Ok last →
      IsLost last ⊎ GoesOn around kind so_far (filled_pieces context f kind (so_far ++ first)) page last
  go_on f follows around kind so_far first own page walk last fills reads own_led page_led settled fine leads =
      elim (follows around kind (so_far ++ first) own_led.0 page_led.0 walk last fills
      (read_behind kind so_far first own own_led.0 reads own_led.1) own_led.2 page_led.2 settled fine leads) [
        | inl lost ↦ inl lost
        | inr on ↦ inr (goes_on_behind around kind so_far first (filled_pieces context f kind (so_far ++ first)) page
            page_led.0 last page_led.1 on)
      ]

  -- a frame in a hole
  frame_leads : (kind : Kind) (inner : Filled) → FollowsFilled inner → FillsHoles inner
      → IsFrameOf kind (parts_of_filled inner) → IsBlockKind kind →
      (around : Option Tag) (page walk : State) → Follows around page walk
      → takes_class (placing walk) (kind_class kind) ≡ true → IsSettled walk →
      LeadsOn around (filled_pieces context inner kind []) page (after_value walk)
  frame_leads kind inner follows fills frame block around page walk page_follows takes settled =
      let g : FrameGoesOn around page walk kind = frame_goes_on around page walk kind block page_follows takes settled
      in
      let runs : FrameRuns kind (parts_of_filled inner) = frame_runs kind (parts_of_filled inner) frame in
      elim (follows g.0 kind [] (start kind) page (start kind) runs.last fills refl (follows_itself (start kind)) g.1
      (starts_settled kind) runs.fine runs.leads) [
        | inl lost ↦ absurd (may_not_end kind runs.last lost runs.ends)
        | inr on ↦ (
          on.reads.0,
          subst (λ l. after_pieces page l ≡ Ok on.reads.0) (sym on.is) on.reads.1,
          g.2 on.reads.0 runs.last on.reads.2 runs.ends on.settled,
        )
      ]

  pub form_of_walk : (kind : Kind) (so_far : List Piece) (own walk : State) (classes : List ValueClass)
      (value : ValueClass) (text out : List ℕ) → after_pieces (start kind) so_far ≡ Ok own → Follows None own walk →
      takes_classes (placing walk) classes ≡ true → escaped_where (placing walk) value text context ≡ Some out
      → value_form (placing_after kind so_far) value text context ≡ out
  form_of_walk kind so_far own walk classes value text out reads follows takes form =
      form_is context (placing_after kind so_far) (placing own) (placing walk) value text out
      (ap (after (λ state. Ok (placing state))) reads)
      (same_placing_alone (placing own) (placing walk) classes (page_place None own walk follows) takes) form

  pub pieces_follow : (f : Filled) → FollowsFilled f
  pieces_follow filled_end around kind so_far own page walk last fills reads own_follows page_follows settled fine
      leads =
      let same : walk ≡ last = ok_same walk last leads in
      inr (record {
        more = [];
        is = sym (append-nil so_far);
        own = (own, reads, subst (λ w. Follows None own w) same own_follows);
        reads = (page, refl, subst (λ w. Follows around page w) same page_follows);
        settled = subst IsSettled same settled;
      })
  pieces_follow (text_before text f) around kind so_far own page walk last fills reads own_follows page_follows
      settled fine leads =
      let p : (w : State) × (after_text page_machine text walk ≡ Ok w)
      × (state_after_parts page_machine (parts_of_filled f) w ≡ Ok last) =
      followed_ok (after_text page_machine text walk) (λ w. state_after_parts page_machine (parts_of_filled f) w)
      last leads in
      let rest : Fine page_machine (parts_of_filled f) p.0 = subst (λ w. Fine page_machine (parts_of_filled f) w)
      (ok_same fine.0 p.0 (sym fine.1 ∙ p.1)) fine.2 in
      elim (text_follows None text own walk p.0 own_follows p.1) [
        | inl lost ↦ inl (lost_rest (parts_of_filled f) p.0 last lost rest p.2)
        | inr o ↦ elim (text_follows around text page walk p.0 page_follows p.1) [
          | inl lost ↦ inl (lost_rest (parts_of_filled f) p.0 last lost rest p.2)
          | inr q ↦ go_on f (pieces_follow f) around kind so_far (Static text ∷ []) own page p.0 last fills reads
              (o.0, one_piece own o.0 (Static text) o.1, o.2) (q.0, one_piece page q.0 (Static text) q.1, q.2) q.3
              rest p.2
        ]
      ]
  pieces_follow (value_before at classes value text f) around kind so_far own page walk last fills reads own_follows
      page_follows settled fine leads =
      let form : (out : List ℕ) × (escaped_where (placing walk) value text context ≡ Some out)
      × KeepsPlaceAt (placing walk) out = form_kept (placing walk) value text context
      (takes_one (placing walk) value classes fine.0 fills.0) fills.1 in
      let is_out : value_form (placing_after kind so_far) value text context ≡ form.0 =
      form_of_walk kind so_far own walk classes value text form.0 reads own_follows fine.0 form.1 in
      go_on f (pieces_follow f) around kind so_far (Value (value_form (placing_after kind so_far) value text context)
      ∷ []) own page (after_value walk) last fills.2 reads
      (subst (λ o. LeadsOn None (Value o ∷ []) own (after_value walk)) (sym is_out)
      (value_follows None own walk form.0 own_follows form.2))
      (subst (λ o. LeadsOn around (Value o ∷ []) page (after_value walk)) (sym is_out)
      (value_follows around page walk form.0 page_follows form.2)) settled fine.1 leads
  pieces_follow (frame_before at classes inner_kind inner f) around kind so_far own page walk last fills reads
      own_follows page_follows settled fine leads =
      let takes : takes_class (placing walk) (kind_class inner_kind) ≡ true =
      takes_one (placing walk) (kind_class inner_kind) classes fine.0 fills.1 in
      go_on f (pieces_follow f) around kind so_far (filled_pieces context inner inner_kind []) own page
      (after_value walk) last fills.4 reads
      (frame_leads inner_kind inner (pieces_follow inner) fills.3 fills.2 fills.0 None own walk own_follows takes
      settled)
      (frame_leads inner_kind inner (pieces_follow inner) fills.3 fills.2 fills.0 around page walk page_follows takes
      settled) settled fine.1 leads

  -- ---- the laws

  pub frame_law : (around : Option Tag) (page walk : State) (kind : Kind) (f : Filled) → Follows around page walk
      → IsSettled walk → IsBlockKind kind → takes_class (placing walk) (kind_class kind) ≡ true →
      IsFrameOf kind (parts_of_filled f) → FillsHoles f → LeadsOn around (filled_pieces context f kind []) page
      (after_value walk)
  frame_law around page walk kind f follows settled block takes frame fills =
      frame_leads kind f (pieces_follow f) fills frame block around page walk follows takes settled
