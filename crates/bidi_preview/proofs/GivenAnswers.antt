-- An answer that is given in a list of answers.
use Rattle.std.proofs.Common.{◌≡◌, ℕ, zero, suc, ◌<◌, ◌≤◌, Bool, List, [], ◌∷◌, length, get_or, refl, ap, arith, Option}
use Rattle.std.proofs.Common.{Some}
use Rattle.std.proofs.Common.{None}
use Rattle.std.proofs.Math.ListN.{set}
use Rattle.bidi_preview.specs.AutoDirections.{answer_at}

pub answer_set : (k : ℕ) (b : Bool) (answers : List (Option Bool)) (o : Option Bool) → k < length answers
    → get_or answers k o ≡ None → set answers k (Some b) ≡ answer_at k b answers
answer_set k b [] o within none = absurd (omega (arith, within))
answer_set zero b (None ∷ answers) o within none = refl
answer_set zero b (Some x ∷ answers) o within none = absurd (cc)
answer_set (suc k) b (x ∷ answers) o within none =
    ap (λ l. x ∷ l) (answer_set k b answers o (omega (arith, within)) none)

pub answer_kept : (k : ℕ) (b a : Bool) (answers : List (Option Bool)) (o : Option Bool)
    → get_or answers k o ≡ Some a → answer_at k b answers ≡ answers
answer_kept k b a [] o some = refl
answer_kept zero b a (None ∷ answers) o some = absurd (cc)
answer_kept zero b a (Some x ∷ answers) o some = refl
answer_kept (suc k) b a (x ∷ answers) o some = ap (λ l. x ∷ l) (answer_kept k b a answers o some)

pub answer_past : (k : ℕ) (b : Bool) (answers : List (Option Bool)) → length answers ≤ k
    → answer_at k b answers ≡ answers
answer_past k b [] past = refl
answer_past zero b (a ∷ answers) past = absurd (omega (arith, past))
answer_past (suc k) b (a ∷ answers) past = ap (λ l. a ∷ l) (answer_past k b answers (omega (arith, past)))
