-- What several pushes one after another add.
use Rattle.std.proofs.Common.{◌≡◌, ℕ, List, ◌++◌, sym, ap, ◌∙◌}
use Rattle.std.proofs.lemmas.List as lists

pub append_assoc : {A : Type 0} (xs ys zs : List A) → (xs ++ ys) ++ zs ≡ xs ++ (ys ++ zs)
append_assoc xs ys zs = lists.append_assoc xs ys zs

pub two_pushed : (old first last a b : List ℕ) → first ≡ old ++ a → last ≡ first ++ b → last ≡ old ++ (a ++ b)
two_pushed old first last a b e f = f ∙ (ap (λ (l : List ℕ). l ++ b) e ∙ append_assoc old a b)

pub three_pushed : (old first second last a b c : List ℕ) → first ≡ old ++ a → second ≡ first ++ b → last ≡ second ++ c
    → last ≡ old ++ (a ++ (b ++ c))
three_pushed old first second last a b c e f g =
    g ∙ ap (λ (l : List ℕ). l ++ c) (f ∙ ap (λ (l : List ℕ). l ++ b) e ∙ append_assoc old a b)
    ∙ append_assoc old (a ++ b) c ∙ ap (λ (l : List ℕ). old ++ l) (append_assoc a b c)

pub four_pushed : (old first second third last a b c d : List ℕ) → first ≡ old ++ a → second ≡ first ++ b
    → third ≡ second ++ c → last ≡ third ++ d → last ≡ old ++ (a ++ (b ++ (c ++ d)))
four_pushed old first second third last a b c d e f g h =
    h ∙ (ap (λ (l : List ℕ). l ++ d) (three_pushed old first second third a b c e f g)
    ∙ (append_assoc old (a ++ (b ++ c)) d
    ∙ ap (λ (l : List ℕ). old ++ l) (append_assoc a (b ++ c) d ∙ ap (λ (l : List ℕ). a ++ l) (append_assoc b c d))))

pub five_pushed : (old first second third fourth last a b c d f : List ℕ) → first ≡ old ++ a → second ≡ first ++ b
    → third ≡ second ++ c → fourth ≡ third ++ d → last ≡ fourth ++ f
    → last ≡ old ++ (a ++ (b ++ (c ++ (d ++ f))))
five_pushed old first second third fourth last a b c d f e g h i j =
    j ∙ (ap (λ (l : List ℕ). l ++ f) (four_pushed old first second third fourth a b c d e g h i)
    ∙ (append_assoc old (a ++ (b ++ (c ++ d))) f
    ∙ ap (λ (l : List ℕ). old ++ l) (append_assoc a (b ++ (c ++ d)) f
    ∙ ap (λ (l : List ℕ). a ++ l) (append_assoc b (c ++ d) f ∙ ap (λ (l : List ℕ). b ++ l) (append_assoc c d f)))))

-- the same where two of them are one part
pub inner_four : (old first second third last a b c d : List ℕ) → first ≡ old ++ a → second ≡ first ++ b
    → third ≡ second ++ c → last ≡ third ++ d → last ≡ old ++ (a ++ ((b ++ c) ++ d))
inner_four old first second third last a b c d e f g h =
    four_pushed old first second third last a b c d e f g h
    ∙ ap (λ (l : List ℕ). old ++ (a ++ l)) (sym (append_assoc b c d))

pub inner_five : (old first second third fourth last a b c d f : List ℕ) → first ≡ old ++ a → second ≡ first ++ b
    → third ≡ second ++ c → fourth ≡ third ++ d → last ≡ fourth ++ f
    → last ≡ old ++ (a ++ (b ++ ((c ++ d) ++ f)))
inner_five old first second third fourth last a b c d f e g h i j =
    five_pushed old first second third fourth last a b c d f e g h i j
    ∙ ap (λ (l : List ℕ). old ++ (a ++ (b ++ l))) (sym (append_assoc c d f))
