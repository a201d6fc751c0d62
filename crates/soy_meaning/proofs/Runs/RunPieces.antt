-- The pieces and the end of outcomes, the state after pieces, and what fills a path and then another.
use Rattle.std.proofs.Common.{◌≡◌, ℕ, List, [], ◌∷◌, ◌++◌, ◌⊎◌, inl, inr, Result, Ok, Err, refl, sym, ap, ◌∙◌}
use Rattle.std.proofs.Common.{append_assoc}
use Rattle.std.proofs.lemmas.List.{append-nil}
use Rattle.soy_base.specs.declared.code.Code.{Code}
use Rattle.soy_base.specs.declared.direction.Dir.{Dir}
use Rattle.soy_base.specs.declared.kind.Kind.{Kind}
use Rattle.html_state.specs.AfterPieces.{after_piece, after_pieces, placing_after}
use Rattle.soy_base.specs.Piece.{Piece, Static, Value}
use Rattle.html_state.specs.Start.{start}
use Rattle.html_state.specs.StatePlacing.{placing}
use Rattle.html_state.specs.Texts.{and_then as after}
use Rattle.html_state.specs.declared.row.State.{State}
use Rattle.html_state.proofs.Pieces.{after_all-append}
use Rattle.soy_meaning.specs.Paths.Filled.{Filled, filled_end, filled_pieces, frame_before, parts_of_filled}
use Rattle.soy_meaning.specs.Paths.Filled.{text_before}
use Rattle.soy_meaning.specs.Paths.Filled.{value_before}
use Rattle.soy_pieces.specs.EscapedAt.{value_form}
use Rattle.soy_pieces.specs.Giving.{placing_so_far, read_outcome, read_piece}
use Rattle.soy_pieces.specs.Meaning.{joined_pieces}
use Rattle.soy_pieces.specs.Outcome.{GivesPiece, Outcome, RunEnds, Spent, StopsAt, WholeRun, continued_by}
use Rattle.soy_pieces.specs.Outcome.{end_of_outcome, gathered, pieces_of_outcome, spent_first}
use Rattle.soy_meaning.specs.Paths.PathParts.{HolePart, StaticPart}
use Rattle.soy_pieces.specs.Site.{Site}

-- ---- outcomes

-- the same pieces and end
pub record SameRun (o other : Outcome) : Type 0 where
  pub pieces : pieces_of_outcome o ≡ pieces_of_outcome other
  pub ends : end_of_outcome o ≡ end_of_outcome other

-- nothing is given any more, and the call is one of these
pub record Halts (IsStop : Site → Type 0) (o : Outcome) : Type 0 where
  pub pieces : pieces_of_outcome o ≡ []
  pub call : Site
  pub ends : end_of_outcome o ≡ StopsAt call
  pub stops : IsStop call

-- where an outcome stops, it stops at one of these calls
abbrev pub StopsOnlyAt : (Site → Type 0) → Outcome → Type 0
StopsOnlyAt IsStop o = (call : Site) → end_of_outcome o ≡ StopsAt call → IsStop call

pub spent_same : (a : Spent) (o : Outcome) → SameRun (spent_first a o) o
spent_same a (RunEnds b end) = record { pieces = refl; ends = refl }
spent_same a (GivesPiece b piece o) = record { pieces = refl; ends = refl }

pub same_run : (a b c : Outcome) → SameRun a b → SameRun b c → SameRun a c
same_run a b c h k = record { pieces = h.pieces ∙ k.pieces; ends = h.ends ∙ k.ends }

pub stop_not_whole : (call : Site) → StopsAt call ≡ WholeRun → ⊥
stop_not_whole call e = cc

-- what comes behind an outcome that ends whole
pub record ComesBehind (o rest whole : Outcome) : Type 0 where
  pub pieces : pieces_of_outcome whole ≡ pieces_of_outcome o ++ pieces_of_outcome rest
  pub ends : end_of_outcome whole ≡ end_of_outcome rest

pub whole_followed : (o rest : Outcome) → end_of_outcome o ≡ WholeRun → ComesBehind o rest (continued_by o rest)
whole_followed (RunEnds a WholeRun) rest h =
    record { pieces = (spent_same a rest).pieces; ends = (spent_same a rest).ends }
whole_followed (RunEnds a (StopsAt call)) rest h = absurd (stop_not_whole call h)
whole_followed (GivesPiece a piece o) rest h =
    let r : ComesBehind o rest (continued_by o rest) = whole_followed o rest h in
    record { pieces = ap (λ l. piece ∷ l) r.pieces; ends = r.ends }

pub stop_followed : (o rest : Outcome) (call : Site) → end_of_outcome o ≡ StopsAt call → SameRun (continued_by o rest) o
stop_followed (RunEnds a WholeRun) rest call h = absurd (stop_not_whole call (sym h))
stop_followed (RunEnds a (StopsAt at)) rest call h = record { pieces = refl; ends = refl }
stop_followed (GivesPiece a piece o) rest call h =
    let r : SameRun (continued_by o rest) o = stop_followed o rest call h in
    record { pieces = ap (λ l. piece ∷ l) r.pieces; ends = r.ends }

-- an outcome is what comes next for some good value, or halts
pub record Becomes {A : Type 0} (IsGood : A → Type 0) (o : Outcome) (next : A → Outcome) : Type 0 where
  pub value : A
  pub good : IsGood value
  pub same : SameRun o (next value)

-- what is gathered behind a text
abbrev pub IsGathered : List ℕ → Outcome → List ℕ → Type 0
IsGathered text o all = all ≡ text ++ joined_pieces (pieces_of_outcome o)

module _ (IsStop : Site → Type 0) where
  abbrev pub IsSilent : {A : Type 0} → (A → Type 0) → Outcome → (A → Outcome) → Type 0
  IsSilent IsGood o next = Becomes IsGood o next ⊎ Halts IsStop o

  pub same_halts : (o other : Outcome) → SameRun o other → Halts IsStop other → Halts IsStop o
  same_halts o other same h =
      record { pieces = same.pieces ∙ h.pieces; call = h.call; ends = same.ends ∙ h.ends; stops = h.stops }

  pub same_silent : {A : Type 0} (IsGood : A → Type 0) (o other : Outcome) (next : A → Outcome) → SameRun o other
      → IsSilent IsGood other next → IsSilent IsGood o next
  same_silent IsGood o other next same (inl b) =
      inl (record { value = b.value; good = b.good; same = same_run o other (next b.value) same b.same })
  same_silent IsGood o other next same (inr h) = inr (same_halts o other same h)

  pub silent_then : {A B : Type 0} (IsGood : A → Type 0) (IsFine : B → Type 0) (o : Outcome) (middle : A → Outcome)
      (next : B → Outcome) →
      IsSilent IsGood o middle → ((a : A) → IsGood a → IsSilent IsFine (middle a) next) → IsSilent IsFine o next
  silent_then IsGood IsFine o middle next (inl b) rest = same_silent IsFine o (middle b.value) next b.same
      (rest b.value b.good)
  silent_then IsGood IsFine o middle next (inr h) rest = inr h

  -- what is good is fine too
  pub silent_as : {A : Type 0} (IsGood IsFine : A → Type 0) (o : Outcome) (next : A → Outcome)
      → ((a : A) → IsGood a → IsFine a) → IsSilent IsGood o next → IsSilent IsFine o next
  silent_as IsGood IsFine o next fine (inl b) =
      inl (record { value = b.value; good = fine b.value b.good; same = b.same })
  silent_as IsGood IsFine o next fine (inr h) = inr h

  gathered_behind : (text more : List ℕ) (o : Outcome) (next : List ℕ → Outcome)
      → IsSilent (IsGathered (text ++ more) o) (gathered (text ++ more) o next) next
      → IsSilent (λ all. all ≡ text ++ (more ++ joined_pieces (pieces_of_outcome o))) (gathered (text ++ more) o next)
      next
  gathered_behind text more o next rest =
      silent_as (IsGathered (text ++ more) o) (λ all. all ≡ text ++ (more ++ joined_pieces (pieces_of_outcome o)))
      (gathered (text ++ more) o next) next
      (λ all is. is ∙ append_assoc text more (joined_pieces (pieces_of_outcome o))) rest

  pub gathered_silent : (text : List ℕ) (o : Outcome) (next : List ℕ → Outcome) → StopsOnlyAt IsStop o
      → IsSilent (IsGathered text o) (gathered text o next) next
  gathered_silent text (RunEnds a WholeRun) next only =
      inl (record { value = text; good = sym (append-nil text); same = spent_same a (next text) })
  gathered_silent text (RunEnds a (StopsAt call)) next only =
      inr (record { pieces = refl; call = call; ends = refl; stops = only call refl })
  gathered_silent text (GivesPiece a (Static more) o) next only =
      same_silent (IsGathered text (GivesPiece a (Static more) o)) (spent_first a (gathered (text ++ more) o next))
      (gathered (text ++ more) o next) next (spent_same a (gathered (text ++ more) o next))
      (gathered_behind text more o next (gathered_silent (text ++ more) o next only))
  gathered_silent text (GivesPiece a (Value more) o) next only =
      same_silent (IsGathered text (GivesPiece a (Value more) o)) (spent_first a (gathered (text ++ more) o next))
      (gathered (text ++ more) o next) next (spent_same a (gathered (text ++ more) o next))
      (gathered_behind text more o next (gathered_silent (text ++ more) o next only))

-- ---- states

ok_again : (r : Result State Code) → after (λ following. Ok following) r ≡ r
ok_again (Ok now) = refl
ok_again (Err fault) = refl

read_one : (r : Result State Code) (piece : Piece) → after (λ middle. after_pieces middle (piece ∷ [])) r
    ≡ read_piece r piece
read_one (Ok now) piece = ok_again (after_piece now piece)
read_one (Err fault) piece = refl

pub read_more : (s : State) (before : List Piece) (piece : Piece) →
    read_piece (after_pieces s before) piece ≡ after_pieces s (before ++ (piece ∷ []))
read_more s before piece =
    sym (after_all-append after_piece s before (piece ∷ []) ∙ read_one (after_pieces s before) piece)

pub read_all : (s : State) (before : List Piece) (o : Outcome) →
    read_outcome (after_pieces s before) o ≡ after_pieces s (before ++ pieces_of_outcome o)
read_all s before (RunEnds a end) = ap (λ l. after_pieces s l) (sym (append-nil before))
read_all s before (GivesPiece a piece o) =
    ap (λ r. read_outcome r o) (read_more s before piece)
    ∙ (read_all s (before ++ (piece ∷ [])) o
    ∙ ap (λ l. after_pieces s l) (append_assoc before (piece ∷ []) (pieces_of_outcome o)))

placing_of : (r : Result State Code) → placing_so_far r ≡ after (λ state. Ok (placing state)) r
placing_of (Ok now) = refl
placing_of (Err fault) = refl

pub placing_is : (kind : Kind) (before : List Piece) → placing_so_far (after_pieces (start kind) before)
    ≡ placing_after kind before
placing_is kind before = placing_of (after_pieces (start kind) before)

-- ---- what fills a path and then another

abbrev pub filled_then : Filled → Filled → Filled
filled_then filled_end g = g
filled_then (text_before text f) g = text_before text (filled_then f g)
filled_then (value_before at classes value text f) g = value_before at classes value text (filled_then f g)
filled_then (frame_before at classes kind inner f) g = frame_before at classes kind inner (filled_then f g)

pub parts_then : (f g : Filled) → parts_of_filled (filled_then f g) ≡ parts_of_filled f ++ parts_of_filled g
parts_then filled_end g = refl
parts_then (text_before text f) g = ap (λ l. StaticPart text ∷ l) (parts_then f g)
parts_then (value_before at classes value text f) g = ap (λ l. HolePart at classes ∷ l) (parts_then f g)
parts_then (frame_before at classes kind inner f) g = ap (λ l. HolePart at classes ∷ l) (parts_then f g)

pub pieces_then : (context : Dir) (f g : Filled) (kind : Kind) (before : List Piece) →
    filled_pieces context (filled_then f g) kind before ≡ filled_pieces context g kind
    (filled_pieces context f kind before)
pieces_then context filled_end g kind before = refl
pieces_then context (text_before text f) g kind before = pieces_then context f g kind (before ++ (Static text ∷ []))
pieces_then context (value_before at classes value text f) g kind before =
    pieces_then context f g kind (before ++ (Value (value_form (placing_after kind before) value text context) ∷ []))
pieces_then context (frame_before at classes inner_kind inner f) g kind before =
    pieces_then context f g kind (before ++ filled_pieces context inner inner_kind [])
