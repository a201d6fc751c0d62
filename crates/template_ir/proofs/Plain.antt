-- Outcomes without their choices and their work.
use Rattle.std.proofs.Common.{◌≡◌, ℕ, List, [], ◌∷◌, ◌++◌, refl, sym, ap, ◌∙◌}
use Rattle.soy_base.specs.Piece.{Static, Value}
use Rattle.soy_pieces.specs.Outcome.{Outcome, RunEnds, GivesPiece, Spent, StopsAt, WholeRun, continued_by}
use Rattle.soy_pieces.specs.Outcome.{costs_of_outcome, end_of_outcome, gathered}
use Rattle.soy_pieces.specs.Outcome.{pieces_of_outcome, spent_first}
use Rattle.soy_pieces.proofs.Outcomes.{first_none}

abbrev pub plain_spent : Spent → Spent
plain_spent a = record { cost = a.cost; work = 0; choices = [] }

abbrev pub plain : Outcome → Outcome
plain (RunEnds a end) = RunEnds (plain_spent a) end
plain (GivesPiece a piece o) = GivesPiece (plain_spent a) piece (plain o)

pub plain_first : (a : Spent) (o : Outcome) → plain (spent_first a o) ≡ spent_first (plain_spent a) (plain o)
plain_first a (RunEnds b end) = refl
plain_first a (GivesPiece b piece o) = refl

pub plain_followed : (a b : Outcome) → plain (continued_by a b) ≡ continued_by (plain a) (plain b)
plain_followed (RunEnds a WholeRun) b = plain_first a b
plain_followed (RunEnds a (StopsAt call)) b = refl
plain_followed (GivesPiece a piece o) b = ap (GivesPiece (plain_spent a) piece) (plain_followed o b)

pub plain_gathered : (text : List ℕ) (o : Outcome) (next : List ℕ → Outcome)
    → plain (gathered text o next) ≡ gathered text (plain o) (λ more. plain (next more))
plain_gathered text (RunEnds a WholeRun) next = plain_first a (next text)
plain_gathered text (RunEnds a (StopsAt call)) next = refl
plain_gathered text (GivesPiece a (Static more) o) next =
    plain_first a (gathered (text ++ more) o next)
    ∙ ap (spent_first (plain_spent a)) (plain_gathered (text ++ more) o next)
plain_gathered text (GivesPiece a (Value more) o) next =
    plain_first a (gathered (text ++ more) o next)
    ∙ ap (spent_first (plain_spent a)) (plain_gathered (text ++ more) o next)

-- ---- what is the same without them

pub plain_pieces : (o : Outcome) → pieces_of_outcome (plain o) ≡ pieces_of_outcome o
plain_pieces (RunEnds a end) = refl
plain_pieces (GivesPiece a piece o) = ap (λ l. piece ∷ l) (plain_pieces o)

pub plain_end : (o : Outcome) → end_of_outcome (plain o) ≡ end_of_outcome o
plain_end (RunEnds a end) = refl
plain_end (GivesPiece a piece o) = plain_end o

pub plain_costs : (o : Outcome) → costs_of_outcome (plain o) ≡ costs_of_outcome o
plain_costs (RunEnds a end) = refl
plain_costs (GivesPiece a piece o) = ap (λ l. a.cost ∷ l) (plain_costs o)

-- ---- alike

-- the same pieces with the same costs, and the same end
abbrev pub Same : Outcome → Outcome → Type 0
Same a b = plain a ≡ plain b

pub same_first : (s t : Spent) (a b : Outcome) → s.cost ≡ t.cost → Same a b → Same (spent_first s a) (spent_first t b)
same_first s t a b h k =
    plain_first s a
    ∙ (ap (λ n. spent_first (record { cost = n; work = 0; choices = [] }) (plain a)) h
    ∙ (ap (spent_first (plain_spent t)) k ∙ sym (plain_first t b)))

-- what costs nothing changes nothing
pub same_free : (s : Spent) (a : Outcome) → s.cost ≡ 0 → Same (spent_first s a) a
same_free s a h =
    plain_first s a
    ∙ (ap (λ n. spent_first (record { cost = n; work = 0; choices = [] }) (plain a)) h ∙ first_none (plain a))

pub same_followed : (a b c d : Outcome) → Same a b → Same c d → Same (continued_by a c) (continued_by b d)
same_followed a b c d h k =
    plain_followed a c ∙ (ap (λ o. continued_by o (plain c)) h ∙ (ap (continued_by (plain b)) k ∙ sym (plain_followed
    b d)))
