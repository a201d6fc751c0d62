-- A sequence that is read one character at a time.
use Rattle.std.proofs.Common.{◌≡◌, ℕ, zero, suc, ◌-◌, ◌<◌, true, List, [], ◌∷◌, ◌++◌, length, get_or}
use Rattle.std.proofs.Common.{sym, ap}
use Rattle.std.proofs.Common.{subst, ◌∙◌, append_assoc, arith, Option, Some, None}
use Rattle.std.specs.Option.{is_some}
use Rattle.bidi_order.specs.Explicit.{KeptCharacter}
use Rattle.bidi_preview.specs.NextCharacter.{character_at, next_character}
use Rattle.bidi_preview.specs.NextCharacter.NextCharacter.{GoesOn, Ends}
use Rattle.bidi_preview.specs.SequenceSteps.{Chain, IsExplicit, ReadSoFar}
use Rattle.bidi_preview.specs.SequenceSteps.Chain.{chain_end, chain_more}
use Rattle.bidi_preview.proofs.NextKept.{kept_index}
use Rattle.bidi_preview.proofs.SequenceLevels.{next_at, next_here, next_later}

-- a character stands where the sequence goes on
abbrev pub IsHere : List (Option KeptCharacter) → Option ℕ → Type 0
IsHere line None = Unit {0}
IsHere line (Some i) = (is_some (character_at line i) ≡ true) × (i < length line)

-- how many indexes are left
abbrev pub left_over : List (Option KeptCharacter) → Option ℕ → ℕ
left_over line None = 0
left_over line (Some i) = suc (length line - i)

pub read_more : (base : ℕ) (line : List (Option KeptCharacter)) (first i j : ℕ) (k : KeptCharacter) (indexes : List ℕ)
    (beside other : ℕ) → character_at line i ≡ Some k → next_character base line i k ≡ GoesOn j
    → ReadSoFar base line first (Some i) indexes beside → ReadSoFar base line first (Some j) (indexes ++ i ∷ []) other
read_more base line first i j k indexes beside other here next h rest level c =
    subst (λ l. Chain base line first l level) (sym (append_assoc indexes (i ∷ []) rest))
    (h (i ∷ rest) level (chain_more here next c))

pub read_end : (base : ℕ) (line : List (Option KeptCharacter)) (first i : ℕ) (k : KeptCharacter) (indexes : List ℕ)
    (beside level : ℕ) → character_at line i ≡ Some k → next_character base line i k ≡ Ends level
    → ReadSoFar base line first (Some i) indexes beside → ReadSoFar base line first None (indexes ++ i ∷ []) level
read_end base line first i k indexes beside level here next h = h (i ∷ []) level (chain_end here next)

-- it goes on at a later character
pub goes_later : (base : ℕ) (line : List (Option KeptCharacter)) (i j : ℕ) (k : KeptCharacter) → IsExplicit base line
    → character_at line i ≡ Some k → next_character base line i k ≡ GoesOn j → i < j
goes_later base line i j k explicit here next = next_later base line explicit i k here j
    (next_at base line explicit i k here j next)

pub goes_here : (base : ℕ) (line : List (Option KeptCharacter)) (i j : ℕ) (k : KeptCharacter) → IsExplicit base line
    → character_at line i ≡ Some k → next_character base line i k ≡ GoesOn j → is_some (character_at line j) ≡ true
goes_here base line i j k explicit here next =
    ap is_some (next_here base line explicit i k here j (next_at base line explicit i k here j next))

pub goes_within : (base : ℕ) (line : List (Option KeptCharacter)) (i j : ℕ) (k : KeptCharacter) → IsExplicit base line
    → character_at line i ≡ Some k → next_character base line i k ≡ GoesOn j → j < length line
goes_within base line i j k explicit here next = kept_index line j (goes_here base line i j k explicit here next)

-- a character that is read stands at its index
pub here_is : (line : List (Option KeptCharacter)) (i : ℕ) (x other : Option KeptCharacter) (k : KeptCharacter)
    → i < length line → x ≡ get_or line i other → x ≡ Some k → character_at line i ≡ Some k
here_is [] i x other k within is e = absurd (omega (arith, within))
here_is (y ∷ line) zero x other k within is e = sym is ∙ e
here_is (y ∷ line) (suc i) x other k within is e = here_is line i x other k (omega (arith, within)) is e
