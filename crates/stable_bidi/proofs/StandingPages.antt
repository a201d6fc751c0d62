-- One page of which each value stands as its place has it; and two such pages with the same static texts, which are
-- alike.
use Rattle.std.proofs.Common.{◌≡◌, ℕ, List, [], ◌∷◌, ◌++◌, Ok, refl, ap, ◌∙◌, subst}
use Rattle.html_state.specs.AfterValue.{after_value}
use Rattle.html_state.specs.Leads.{marked}
use Rattle.html_state.specs.AfterPieces.{after_piece, after_pieces}
use Rattle.soy_base.specs.Piece.{Piece, Static, Value}
use Rattle.html_state.specs.Texts.{and_then as after}
use Rattle.html_state.specs.declared.row.State.{State}
use Rattle.soy_meaning.specs.Runs.EqualChoices.{AlikePieces}
use Rattle.stable_bidi.specs.PagesAlike.{IsValueAt, PagesAlike}

-- in one page, from a state on, each value stands as its place has it
abbrev pub PageStands : State → List Piece → Type 0
PageStands s [] = Unit {0}
PageStands s (Static text ∷ l) = (now : State) → after_piece s (Static text) ≡ Ok now → PageStands now l
PageStands s (Value out ∷ l) = IsValueAt s out × PageStands (after_value s) l

-- two such pages
pub stand_alike : (s : State) (l m : List Piece) → AlikePieces l m → PageStands s l → PageStands s m → PagesAlike s l m
stand_alike s [] [] alike one two = tt
stand_alike s (Static text ∷ l) (Static other ∷ m) alike one two = (
  alike.0,
  λ now is. stand_alike now l m alike.1 (one now is)
      (two now (subst (λ (t : List ℕ). after_piece s (Static t) ≡ Ok now) alike.0 is)),
)
stand_alike s (Value out ∷ l) (Value other ∷ m) alike one two =
    (one.0, two.0, stand_alike (after_value s) l m alike one.1 two.1)
stand_alike s [] (Static other ∷ m) never one two = absurd never
stand_alike s [] (Value other ∷ m) never one two = absurd never
stand_alike s (Static text ∷ l) [] never one two = absurd never
stand_alike s (Value out ∷ l) [] never one two = absurd never
stand_alike s (Static text ∷ l) (Value other ∷ m) never one two = absurd never
stand_alike s (Value out ∷ l) (Static other ∷ m) never one two = absurd never

-- a value's characters and its mark lead to the state behind it
value_passes : (s : State) (out : List ℕ) → IsValueAt s out → after_piece s (Value out) ≡ Ok (after_value s)
value_passes s out is = ap (after (λ now. Ok (marked s now))) is.1.1 ∙ ap Ok is.1.2

-- pieces of such a page, and more behind them
pub stands-append : (s : State) (first rest : List Piece) → PageStands s first
    → ((now : State) → after_pieces s first ≡ Ok now → PageStands now rest) → PageStands s (first ++ rest)
stands-append s [] rest stands more = more s refl
stands-append s (Static text ∷ first) rest stands more = λ now is.
    stands-append now first rest (stands now is)
    (λ last led. more last (ap (after (λ past. after_pieces past first)) is ∙ led))
stands-append s (Value out ∷ first) rest stands more = (
  stands.0,
  stands-append (after_value s) first rest stands.1
      (λ last led. more last (ap (after (λ past. after_pieces past first)) (value_passes s out stands.0) ∙ led)),
)
