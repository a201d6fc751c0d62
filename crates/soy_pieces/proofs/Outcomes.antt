-- Outcomes follow one another as lists do.
use Rattle.std.proofs.Common.{◌≡◌, ◌+◌, ℕ, List, [], ◌++◌, refl, sym, ap, arith, append_assoc}
use Rattle.std.proofs.lemmas.List.{append-nil}
use Rattle.soy_base.specs.Piece.{Static, Value}
use Rattle.soy_pieces.specs.Outcome.{ChoiceMade, Outcome, RunEnds, GivesPiece, Spent, StopsAt, WholeRun, and_spent}
use Rattle.soy_pieces.specs.Outcome.{continued_by, gathered, gives_nothing, none_spent, spent_first}

spent_is : (c d v w : ℕ) (k l : List ChoiceMade) → c ≡ d → v ≡ w → k ≡ l →
    ◌≡◌ {A = Spent} (record { cost = c; work = v; choices = k }) (record { cost = d; work = w; choices = l })
spent_is c d v w k l same_cost same_work same_choices = cc

pub spent_none : (a : Spent) → and_spent none_spent a ≡ a
spent_none a = spent_is (0 + a.cost) a.cost (0 + a.work) a.work a.choices a.choices (omega arith) (omega arith) refl

pub none_after : (a : Spent) → and_spent a none_spent ≡ a
none_after a =
    spent_is (a.cost + 0) a.cost (a.work + 0) a.work (a.choices ++ []) a.choices (omega arith) (omega arith)
    (append-nil a.choices)

pub spent_joined : (a b c : Spent) → and_spent (and_spent a b) c ≡ and_spent a (and_spent b c)
spent_joined a b c =
    spent_is (a.cost + b.cost + c.cost) (a.cost + (b.cost + c.cost)) (a.work + b.work + c.work)
    (a.work + (b.work + c.work))
    ((a.choices ++ b.choices) ++ c.choices) (a.choices ++ (b.choices ++ c.choices)) (omega arith) (omega arith)
    (append_assoc a.choices b.choices c.choices)

pub first_none : (o : Outcome) → spent_first none_spent o ≡ o
first_none (RunEnds a end) = ap (λ s. RunEnds s end) (spent_none a)
first_none (GivesPiece a piece o) = ap (λ s. GivesPiece s piece o) (spent_none a)

pub first_twice : (a b : Spent) (o : Outcome) → spent_first a (spent_first b o) ≡ spent_first (and_spent a b) o
first_twice a b (RunEnds c end) = ap (λ s. RunEnds s end) (sym (spent_joined a b c))
first_twice a b (GivesPiece c piece o) = ap (λ s. GivesPiece s piece o) (sym (spent_joined a b c))

pub first_followed : (a : Spent) (o rest : Outcome)
    → continued_by (spent_first a o) rest ≡ spent_first a (continued_by o rest)
first_followed a (RunEnds b WholeRun) rest = sym (first_twice a b rest)
first_followed a (RunEnds b (StopsAt call)) rest = refl
first_followed a (GivesPiece b piece o) rest = refl

pub followed_joined : (a b c : Outcome) → continued_by (continued_by a b) c ≡ continued_by a (continued_by b c)
followed_joined (RunEnds s WholeRun) b c = first_followed s b c
followed_joined (RunEnds s (StopsAt call)) b c = refl
followed_joined (GivesPiece s piece a) b c = ap (GivesPiece s piece) (followed_joined a b c)

pub followed_nothing : (o : Outcome) → continued_by o gives_nothing ≡ o
followed_nothing (RunEnds a WholeRun) = ap (λ s. RunEnds s WholeRun) (none_after a)
followed_nothing (RunEnds a (StopsAt call)) = refl
followed_nothing (GivesPiece a piece o) = ap (GivesPiece a piece) (followed_nothing o)

pub first_gathered : (text : List ℕ) (a : Spent) (o : Outcome) (next : List ℕ → Outcome) →
    gathered text (spent_first a o) next ≡ spent_first a (gathered text o next)
first_gathered text a (RunEnds b WholeRun) next = sym (first_twice a b (next text))
first_gathered text a (RunEnds b (StopsAt call)) next = refl
first_gathered text a (GivesPiece b (Static more) o) next = sym (first_twice a b (gathered (text ++ more) o next))
first_gathered text a (GivesPiece b (Value more) o) next = sym (first_twice a b (gathered (text ++ more) o next))

pub gathered_followed : (text : List ℕ) (o rest : Outcome) (next : List ℕ → Outcome) →
    gathered text (continued_by o rest) next ≡ gathered text o (λ more. gathered more rest next)
gathered_followed text (RunEnds a WholeRun) rest next = first_gathered text a rest next
gathered_followed text (RunEnds a (StopsAt call)) rest next = refl
gathered_followed text (GivesPiece a (Static more) o) rest next =
    ap (spent_first a) (gathered_followed (text ++ more) o rest next)
gathered_followed text (GivesPiece a (Value more) o) rest next =
    ap (spent_first a) (gathered_followed (text ++ more) o rest next)
