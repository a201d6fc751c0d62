-- Two runs that go along one path, filled alike, have their values and frames at the places of the same holes.
use Rattle.std.proofs.Common.{◌≡◌, List, [], ◌∷◌, ◌++◌, refl, sym, ap, ◌∙◌, subst}
use Rattle.soy_base.specs.declared.direction.Dir.{Dir}
use Rattle.soy_base.specs.declared.kind.Kind.{Kind}
use Rattle.soy_base.specs.declared.place.Place.{Place}
use Rattle.soy_base.specs.declared.place.ValueClass.{ValueClass}
use Rattle.html_state.specs.AfterPieces.{placing_after}
use Rattle.soy_base.specs.Piece.{Piece, Static, Value}
use Rattle.soy_meaning.specs.Runs.EqualChoices.{FilledAlike}
use Rattle.soy_meaning.specs.Paths.Filled.{Filled, FillsHoles, filled_end, filled_pieces, frame_before}
use Rattle.soy_meaning.specs.Paths.Filled.{parts_of_filled, text_before, value_before}
use Rattle.soy_pieces.specs.EscapedAt.{value_form}
use Rattle.soy_meaning.specs.Walks.FourPoints.{AcceptedPaths}
use Rattle.soy_meaning.specs.Runs.FrameRun.{FrameRun}
use Rattle.soy_pieces.specs.Outcome.{RunEnd, WholeRun}
use Rattle.soy_meaning.specs.Walks.PageMachine.{page_machine}
use Rattle.soy_meaning.specs.Paths.PathParts.{HolePart, PathPart, StaticPart}
use Rattle.soy_pieces.specs.Pieces.{RunContext}
use Rattle.soy_meaning.specs.Paths.Plan.{Plan}
use Rattle.soy_pieces.specs.Site.{Site}
use Rattle.soy_meaning.specs.Walks.Points.{LeadsTo}
use Rattle.soy_meaning.specs.Runs.RunPlaces.{ArePlaced, ArePlacedInBoth, FrameWithin, IsPlaced, IsPlacedInBoth}
use Rattle.soy_meaning.specs.Runs.RunsAlong.{FilledByRuns, FitsClasses}
use Rattle.soy_meaning.proofs.Runs.Goings.{FrameFills}
use Rattle.soy_meaning.proofs.Runs.PlacedRuns.{PlacesHold, fills_then}
use Rattle.soy_meaning.proofs.Runs.ReadRuns.{runs_fill_holes}
use Rattle.soy_meaning.proofs.Runs.RunPieces.{filled_then, parts_then, pieces_then}

same_hole : (parts : List PathPart) (at site : Site) (classes others : List ValueClass) → at ≡ site → classes ≡ others
    → parts ++ (HolePart site others ∷ []) ≡ parts ++ (HolePart at classes ∷ [])
same_hole parts at site classes others e d =
    ap (λ x. parts ++ (HolePart x others ∷ [])) (sym e) ∙ ap (λ l. parts ++ (HolePart at l ∷ [])) (sym d)

parts_more : (h first : Filled) (parts : List PathPart) → parts_of_filled h ≡ parts
    → parts_of_filled (filled_then h first) ≡ parts ++ parts_of_filled first
parts_more h first parts same = parts_then h first ∙ ap (λ l. l ++ parts_of_filled first) same

module _ (c : RunContext) (whole : Plan) (accepted : AcceptedPaths page_machine whole) (places : List Place)
    (hold : PlacesHold whole places) where
  abbrev context : Dir
  context = c.direction

  -- the hole of the one is the other's
  both_here : (kind : Kind) (q : FrameWithin whole kind) (classes : List ValueClass) (parts : List PathPart)
      (one : List Piece) (h : Filled) → IsPlaced whole places context kind q classes parts one
      → parts_of_filled h ≡ parts → FillsHoles h
      → IsPlacedInBoth whole places context kind q classes parts one (filled_pieces context h kind [])
  both_here kind q classes parts one h p same fills = record {
    hole = p.hole;
    point = p.point;
    leads = p.leads;
    first = p.place;
    second = λ d. hold q.address kind q.plan q.within p.hole classes p.point context h
        (subst (λ l. LeadsTo q.plan l p.hole) (sym same) p.leads) fills d;
  }

  -- behind what the other has first
  behind : (kind : Kind) (q : FrameWithin whole kind) (parts : List PathPart) (one : List Piece) (h first f g : Filled)
      → ArePlacedInBoth whole places context kind q parts one (filled_pieces context (filled_then h first) kind []) f g
      → ArePlacedInBoth whole places context kind q parts one
      (filled_pieces context first kind (filled_pieces context h kind [])) f g
  behind kind q parts one h first f g p =
      subst (λ l. ArePlacedInBoth whole places context kind q parts one l f g) (pieces_then context h first kind []) p

  ended : (kind : Kind) (q : FrameWithin whole kind) (parts : List PathPart) (one two : List Piece) (f : Filled)
      → FilledAlike f filled_end → ArePlacedInBoth whole places context kind q parts one two f filled_end
  ended kind q parts one two filled_end alike = tt
  ended kind q parts one two (text_before text f) alike = absurd alike
  ended kind q parts one two (value_before at classes value text f) alike = absurd alike
  ended kind q parts one two (frame_before at classes k inner f) alike = absurd alike

  -- what fills the rest of both frames
  abbrev AlsoPlaced : Filled → Filled → Type 0
  AlsoPlaced f g =
      (end : RunEnd) (run : FrameRun) (kind : Kind) (q : FrameWithin whole kind) (parts : List PathPart)
      (one : List Piece) (h : Filled) → parts_of_filled h ≡ parts → FillsHoles h → FilledByRuns c whole run end g
      → FitsClasses g → FilledAlike f g → ArePlaced whole places context kind q parts one f
      → ArePlacedInBoth whole places context kind q parts one (filled_pieces context h kind []) f g

  past_whole : (f g inner within : Filled) → AlsoPlaced f g → AlsoPlaced inner within → (end : RunEnd) (run : FrameRun)
      (kind : Kind) (q : FrameWithin whole kind) (parts : List PathPart) (one : List Piece) (h : Filled) (at site :
      Site)
      (classes others : List ValueClass) (k l : Kind) → parts_of_filled h ≡ parts → FillsHoles h
      → FilledByRuns c whole run WholeRun (frame_before site others l within filled_end)
      → FilledByRuns c whole run end g → FitsClasses (frame_before site others l within g)
      → FilledAlike (frame_before at classes k inner f) (frame_before site others l within g)
      → ArePlaced whole places context kind q parts one (frame_before at classes k inner f)
      → ArePlacedInBoth whole places context kind q parts one (filled_pieces context h kind [])
      (frame_before at classes k inner f) (frame_before site others l within g)
  past_whole f g inner within rest inside end run kind q parts one h at site classes others k l same fills first runs
      fits alike p =
      let only : Filled = frame_before site others l within filled_end in
      let frame : FrameFills c whole run WholeRun site l within = first.1 in (
        both_here kind q classes parts one h p.0 same fills,
        (p.1.0, inside WholeRun frame.0.frame k p.1.0 [] [] filled_end refl tt frame.1 fits.1 alike.3 p.1.1),
        behind kind q (parts ++ (HolePart at classes ∷ [])) (one ++ filled_pieces context inner k []) h only f g
            (rest end run kind q (parts ++ (HolePart at classes ∷ [])) (one ++ filled_pieces context inner k [])
            (filled_then h only) (parts_more h only parts same ∙ same_hole parts at site classes others alike.0 alike.1)
            (fills_then h only fills (runs_fill_holes c whole accepted only run first (fits.0, fits.1, tt))) runs fits.2
            alike.4 p.2),
      )

  placed_also : (f g : Filled) → AlsoPlaced f g
  placed_also filled_end filled_end end run kind q parts one h same fills runs fits alike p = tt
  placed_also filled_end (text_before other g) end run kind q parts one h same fills runs fits alike p = absurd alike
  placed_also filled_end (value_before site others class other g) end run kind q parts one h same fills runs fits
      alike p = absurd alike
  placed_also filled_end (frame_before site others l within g) end run kind q parts one h same fills runs fits alike p
      = absurd alike
  placed_also (text_before text f) (text_before other g) end run kind q parts one h same fills runs fits alike p =
      let only : Filled = text_before other filled_end in
      behind kind q (parts ++ (StaticPart text ∷ [])) (one ++ (Static text ∷ [])) h only f g
      (placed_also f g end run kind q (parts ++ (StaticPart text ∷ [])) (one ++ (Static text ∷ [])) (filled_then h only)
      (parts_more h only parts same ∙ ap (λ t. parts ++ (StaticPart t ∷ [])) (sym alike.0))
      (fills_then h only fills tt) runs fits alike.1 p)
  placed_also (text_before text f) filled_end end run kind q parts one h same fills runs fits alike p = absurd alike
  placed_also (text_before text f) (value_before site others class other g) end run kind q parts one h same fills runs
      fits alike p = absurd alike
  placed_also (text_before text f) (frame_before site others l within g) end run kind q parts one h same fills runs
      fits alike p = absurd alike
  placed_also (value_before at classes value text f) (value_before site others class other g) end run kind q parts one h
      same fills runs fits alike p =
      let only : Filled = value_before site others class other filled_end in
      let now : List Piece = one ++ (Value (value_form (placing_after kind one) value text context) ∷ []) in (
        both_here kind q classes parts one h p.0 same fills,
        behind kind q (parts ++ (HolePart at classes ∷ [])) now h only f g
            (placed_also f g end run kind q (parts ++ (HolePart at classes ∷ [])) now (filled_then h only)
            (parts_more h only parts same ∙ same_hole parts at site classes others alike.0 alike.1)
            (fills_then h only fills (fits.0, runs.0, tt)) runs.1 fits.1 alike.2 p.1),
      )
  placed_also (value_before at classes value text f) filled_end end run kind q parts one h same fills runs fits alike
      p = absurd alike
  placed_also (value_before at classes value text f) (text_before other g) end run kind q parts one h same fills runs
      fits alike p = absurd alike
  placed_also (value_before at classes value text f) (frame_before site others l within g) end run kind q parts one h
      same fills runs fits alike p = absurd alike
  placed_also (frame_before at classes k inner f) filled_end end run kind q parts one h same fills runs fits alike p =
      absurd alike
  placed_also (frame_before at classes k inner f) (text_before other g) end run kind q parts one h same fills runs
      fits alike p = absurd alike
  placed_also (frame_before at classes k inner f) (value_before site others class other g) end run kind q parts one h
      same fills runs fits alike p = absurd alike
  placed_also (frame_before at classes k inner f) (frame_before site others l within filled_end) end run kind q parts
      one h same fills runs fits alike p =
      let frame : FrameFills c whole run end site l within = runs.1 in (
        both_here kind q classes parts one h p.0 same fills,
        (
          p.1.0,
          placed_also inner within end frame.0.frame k p.1.0 [] [] filled_end refl tt frame.1 fits.1 alike.3 p.1.1,
        ),
        ended kind q (parts ++ (HolePart at classes ∷ [])) (one ++ filled_pieces context inner k [])
            (filled_pieces context h kind [] ++ filled_pieces context within l []) f alike.4,
      )
  placed_also (frame_before at classes k inner f) (frame_before site others l within (text_before other g)) end run
      kind q parts one h same fills runs fits alike p =
      past_whole f (text_before other g) inner within (placed_also f (text_before other g)) (placed_also inner within)
      end run kind q parts one h at site
      classes others k l same fills (runs.0, runs.1, tt) runs.2 fits alike p
  placed_also (frame_before at classes k inner f) (frame_before site others l within (value_before site_ others_ class
      other g)) end run kind q parts one h same fills runs fits alike p =
      past_whole f (value_before site_ others_ class other g) inner within (placed_also f (value_before site_ others_
      class other g)) (placed_also inner within) end run kind q parts one h at site
      classes others k l same fills (runs.0, runs.1, tt) runs.2 fits alike p
  placed_also (frame_before at classes k inner f) (frame_before site others l within (frame_before site_ others_ l_
      within_ g)) end run kind q parts one h same fills runs fits alike p =
      past_whole f (frame_before site_ others_ l_ within_ g) inner within (placed_also f (frame_before site_ others_
      l_ within_ g)) (placed_also inner within) end run kind q parts one h at site
      classes others k l same fills (runs.0, runs.1, tt) runs.2 fits alike p

  -- two fillings of a path, of which the one is placed
  pub both_placed : (f g : Filled) (end : RunEnd) (run : FrameRun) (kind : Kind) (q : FrameWithin whole kind)
      → FilledByRuns c whole run end g → FitsClasses g → FilledAlike f g
      → ArePlaced whole places context kind q [] [] f → ArePlacedInBoth whole places context kind q [] [] [] f g
  both_placed f g end run kind q runs fits alike p =
      placed_also f g end run kind q [] [] filled_end refl tt runs fits alike p
