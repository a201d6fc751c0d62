-- Blocks that are bound: what is gathered of two that give the same.
use Rattle.std.proofs.Common.{◌≡◌, ℕ, List, [], ◌∷◌, ◌++◌, refl, sym, ap, ◌∙◌, append_assoc, subst}
use Rattle.std.proofs.lemmas.List.{append-nil}
use Rattle.soy_base.specs.declared.kind.Kind.{Kind}
use Rattle.soy_base.specs.declared.kind.Kind.TheVariants as kind
use Rattle.soy_base.specs.Piece.{Piece, Static, Value}
use Rattle.soy_rules.specs.Val.{Binding, Known}
use Rattle.soy_tree.specs.Values.{StringValue}
use Rattle.soy_pieces.specs.Meaning.{bound_as}
use Rattle.soy_pieces.specs.Giving.{BoundBlock, block_bound}
use Rattle.soy_pieces.specs.Meaning.{joined_pieces}
use Rattle.soy_pieces.specs.Outcome.{GivesPiece, Outcome, RunEnds, Spent, StopsAt, WholeRun, continued_by}
use Rattle.soy_pieces.specs.Outcome.{end_of_outcome}
use Rattle.soy_pieces.specs.Outcome.{gathered, gives_nothing, pieces_of_outcome, spent_first}
use Rattle.soy_pieces.proofs.Outcomes.{first_followed, first_none}
use Rattle.template_ir.specs.Run.{bound_gives}
use Rattle.template_ir.proofs.Core.{first_spent, past_piece}
use Rattle.template_ir.proofs.Matching.{Matches}
use Rattle.template_ir.specs.Placed.{BoundPlaced}
use Rattle.template_ir.proofs.Plain.{Same, plain, plain_pieces, same_first}

abbrev text_of : Piece → List ℕ
text_of (Static text) = text
text_of (Value text) = text

abbrev first_text : Outcome → List ℕ
first_text (RunEnds s end) = []
first_text (GivesPiece s piece o) = text_of piece

pub pieces_same : (a b : Outcome) → Same a b → pieces_of_outcome a ≡ pieces_of_outcome b
pieces_same a b h = sym (plain_pieces a) ∙ (ap pieces_of_outcome h ∙ plain_pieces b)

gathered_piece : (text : List ℕ) (s : Spent) (piece : Piece) (o : Outcome) (f : List ℕ → Outcome)
    → gathered text (GivesPiece s piece o) f ≡ spent_first s (gathered (text ++ text_of piece) o f)
gathered_piece text s (Static more) o f = refl
gathered_piece text s (Value more) o f = refl

joined_piece : (piece : Piece) (l : List Piece) → joined_pieces (piece ∷ l) ≡ text_of piece ++ joined_pieces l
joined_piece (Static text) l = refl
joined_piece (Value text) l = refl

spent_rest : (s t : Spent) (a o z : Outcome) → s.cost ≡ t.cost → Same a (continued_by o z)
    → Same (spent_first s a) (continued_by (spent_first t o) z)
spent_rest s t a o z h k = same_first s t a (continued_by o z) h k ∙ ap plain (sym (first_followed t o z))

pub gathered_both : (text : List ℕ) (o other : Outcome) → Same o other → (f g : List ℕ → Outcome) (z : Outcome)
    → (end_of_outcome o ≡ WholeRun → Same (f (text ++ joined_pieces (pieces_of_outcome o)))
    (continued_by (g (text ++ joined_pieces (pieces_of_outcome o))) z))
    → Same (gathered text o f) (continued_by (gathered text other g) z)
gathered_both text (RunEnds s WholeRun) (RunEnds t WholeRun) h f g z next =
    spent_rest s t (f text) (g text) z (ap first_spent h)
    (ap (λ l. plain (f l)) (sym (append-nil text))
    ∙ (next refl ∙ ap (λ l. plain (continued_by (g l) z)) (append-nil text)))
gathered_both text (RunEnds s WholeRun) (RunEnds t (StopsAt call)) h f g z next = let no : ⊥ = cc in absurd no
gathered_both text (RunEnds s (StopsAt call)) (RunEnds t WholeRun) h f g z next = let no : ⊥ = cc in absurd no
gathered_both text (RunEnds s (StopsAt call)) (RunEnds t (StopsAt other)) h f g z next = h
gathered_both text (RunEnds s end) (GivesPiece t piece o) h f g z next = let no : ⊥ = cc in absurd no
gathered_both text (GivesPiece s piece o) (RunEnds t end) h f g z next = let no : ⊥ = cc in absurd no
gathered_both text (GivesPiece s piece o) (GivesPiece t other q) h f g z next =
    let same : text_of piece ≡ text_of other = ap first_text h in
    let longer : text ++ joined_pieces (pieces_of_outcome (GivesPiece s piece o))
    ≡ (text ++ text_of piece) ++ joined_pieces (pieces_of_outcome o) =
    ap (λ l. text ++ l) (joined_piece piece (pieces_of_outcome o))
    ∙ sym (append_assoc text (text_of piece) (joined_pieces (pieces_of_outcome o))) in
    ap plain (gathered_piece text s piece o f)
    ∙ (spent_rest s t (gathered (text ++ text_of piece) o f) (gathered (text ++ text_of piece) q g) z (ap first_spent h)
    (gathered_both (text ++ text_of piece) o q (ap past_piece h) f g z
    (λ whole. subst (λ l. Same (f l) (continued_by (g l) z)) longer (next whole)))
    ∙ (ap (λ l. plain (continued_by (spent_first t (gathered (text ++ l) q g)) z)) same
    ∙ ap (λ x. plain (continued_by x z)) (sym (gathered_piece text t other q g))))

-- a block that is bound, and what is bound, before what comes next
pub bound_same : (k : Kind) (o other : Outcome) → Same o other → (next : Binding BoundBlock → Outcome) (z : Outcome)
    (Next : Type 0) → BoundPlaced k o Next
    → (Next → Same (next (bound_as k o)) z)
    → Same (block_bound k o next) (continued_by (bound_gives k other) z)
bound_same kind.Text o other h next z Next placed goes =
    gathered_both [] o other h (λ text. next (Known (StringValue text))) (λ text. gives_nothing) z
    (λ whole. goes (placed whole) ∙ ap plain (sym (first_none z)))
bound_same kind.Html o other h next z Next placed goes = goes placed ∙ ap plain (sym (first_none z))
bound_same kind.Attributes o other h next z Next placed goes = goes placed ∙ ap plain (sym (first_none z))

pub bound_match : (k : Kind) (o other : Outcome) → Same o other → Matches (bound_as k o) (bound_as k other)
bound_match kind.Text o other h = ap (λ l. StringValue (joined_pieces l)) (pieces_same o other h)
bound_match kind.Html o other h = h
bound_match kind.Attributes o other h = h
