-- How an outcome is stored, by which a proof tells the states of a desk apart: as its pieces, each with what is spent
-- before it, and its end.
use Rattle.std.specs.Prelude.{◌≡◌, ℕ, zero, suc, ◌⊎◌, List, [], ◌∷◌, Option, Some, None, refl}
use Rattle.std.proofs.Common.{inl, inr}
use Rattle.std.specs.Coded.{Coded, coded_list, coded_option, coded_ℕ, coded×, coded⊎, code_by}
use Rattle.soy_base.specs.Piece.{Piece, Static, Value}
use Rattle.soy_pieces.specs.Outcome.{ArmTaken, ChoiceMade, FallbackTranslation, GivesPiece, MessageText, Outcome}
use Rattle.soy_pieces.specs.Outcome.{OwnTranslation, RunEnd, RunEnds, SourceText, Spent, StopsAt, TextTaken, Turns}
use Rattle.soy_pieces.specs.Outcome.{WholeRun}

-- ---- what is spent

abbrev pub text_number : MessageText → ℕ
text_number SourceText = zero
text_number OwnTranslation = suc zero
text_number FallbackTranslation = suc (suc zero)

abbrev pub numbered_text : ℕ → MessageText
numbered_text zero = SourceText
numbered_text (suc zero) = OwnTranslation
numbered_text (suc (suc n)) = FallbackTranslation

pub numbered-text : (text : MessageText) → numbered_text (text_number text) ≡ text
numbered-text SourceText = refl
numbered-text OwnTranslation = refl
numbered-text FallbackTranslation = refl

abbrev pub coded_text : Coded MessageText
coded_text = code_by ℕ coded_ℕ text_number numbered_text numbered-text

abbrev pub choice_parts : ChoiceMade → Option ℕ ⊎ (ℕ ⊎ MessageText)
choice_parts (ArmTaken arm) = inl arm
choice_parts (Turns n) = inr (inl n)
choice_parts (TextTaken text) = inr (inr text)

abbrev pub choice_of : Option ℕ ⊎ (ℕ ⊎ MessageText) → ChoiceMade
choice_of (inl arm) = ArmTaken arm
choice_of (inr (inl n)) = Turns n
choice_of (inr (inr text)) = TextTaken text

pub choice-parts : (c : ChoiceMade) → choice_of (choice_parts c) ≡ c
choice-parts (ArmTaken arm) = refl
choice-parts (Turns n) = refl
choice-parts (TextTaken text) = refl

abbrev pub coded_choice : Coded ChoiceMade
coded_choice =
    code_by (Option ℕ ⊎ (ℕ ⊎ MessageText)) (coded⊎ (coded_option coded_ℕ) (coded⊎ coded_ℕ coded_text)) choice_parts
    choice_of choice-parts

abbrev pub coded_spent : Coded Spent
coded_spent =
    code_by (ℕ × (ℕ × List ChoiceMade)) (coded× coded_ℕ (coded× coded_ℕ (coded_list coded_choice)))
    (λ s. (s.cost, (s.work, s.choices))) (λ p. record { cost = p.0; work = p.1.0; choices = p.1.1 }) (λ _. refl)

-- ---- pieces and ends

abbrev pub piece_parts : Piece → List ℕ ⊎ List ℕ
piece_parts (Static text) = inl text
piece_parts (Value text) = inr text

abbrev pub piece_of : List ℕ ⊎ List ℕ → Piece
piece_of (inl text) = Static text
piece_of (inr text) = Value text

pub piece-parts : (p : Piece) → piece_of (piece_parts p) ≡ p
piece-parts (Static text) = refl
piece-parts (Value text) = refl

abbrev pub coded_piece : Coded Piece
coded_piece =
    code_by (List ℕ ⊎ List ℕ) (coded⊎ (coded_list coded_ℕ) (coded_list coded_ℕ)) piece_parts piece_of piece-parts

abbrev pub end_parts : RunEnd → Option (ℕ × ℕ)
end_parts WholeRun = None
end_parts (StopsAt site) = Some (site.file, site.at)

abbrev pub end_of : Option (ℕ × ℕ) → RunEnd
end_of None = WholeRun
end_of (Some site) = StopsAt (record { file = site.0; at = site.1 })

pub end-parts : (end : RunEnd) → end_of (end_parts end) ≡ end
end-parts WholeRun = refl
end-parts (StopsAt site) = refl

abbrev pub coded_end : Coded RunEnd
coded_end = code_by (Option (ℕ × ℕ)) (coded_option (coded× coded_ℕ coded_ℕ)) end_parts end_of end-parts

-- ---- outcomes

abbrev pub flat_pieces : Outcome → List (Spent × Piece)
flat_pieces (RunEnds spent end) = []
flat_pieces (GivesPiece spent piece o) = (spent, piece) ∷ flat_pieces o

abbrev pub flat_end : Outcome → Spent × RunEnd
flat_end (RunEnds spent end) = (spent, end)
flat_end (GivesPiece spent piece o) = flat_end o

abbrev pub nested : List (Spent × Piece) → Spent × RunEnd → Outcome
nested [] end = RunEnds end.0 end.1
nested (p ∷ pieces) end = GivesPiece p.0 p.1 (nested pieces end)

pub nested-flat : (o : Outcome) → nested (flat_pieces o) (flat_end o) ≡ o
nested-flat (RunEnds spent end) = refl
nested-flat (GivesPiece spent piece o) = λ i. GivesPiece spent piece (nested-flat o i)

abbrev pub coded_outcome : Coded Outcome
coded_outcome =
    code_by (List (Spent × Piece) × (Spent × RunEnd))
    (coded× (coded_list (coded× coded_spent coded_piece)) (coded× coded_spent coded_end))
    (λ o. (flat_pieces o, flat_end o)) (λ p. nested p.0 p.1) nested-flat
