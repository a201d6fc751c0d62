-- The wrapped text, part by part.
use Rattle.std.proofs.Common.{◌≡◌, ℕ, List, [], ◌++◌, refl, ap, ◌∙◌, append_assoc, codes}
use Rattle.std.specs.Str.{chars}

-- the fixed parts, read as characters
pub begins_span : chars (codes "<span dir=\"") ≡ codes "<span dir=\""
unfolding chars
begins_span = refl

pub ends_tag : chars (codes "\">") ≡ codes "\">"
unfolding chars
ends_tag = refl

pub ends_span : chars (codes "</span>") ≡ codes "</span>"
unfolding chars
ends_span = refl

-- five parts added to nothing, one after the other
pub five_added : (a b c d e t t1 t2 t3 t4 t5 : List ℕ) → t ≡ [] → t1 ≡ t ++ a → t2 ≡ t1 ++ b → t3 ≡ t2 ++ c
    → t4 ≡ t3 ++ d → t5 ≡ t4 ++ e
    → t5 ≡ a ++ (b ++ (c ++ (d ++ e)))
five_added a b c d e t t1 t2 t3 t4 t5 h h1 h2 h3 h4 h5 =
    h5 ∙ ap (λ l. l ++ e)
    (h4 ∙ ap (λ l. l ++ d) (h3 ∙ ap (λ l. l ++ c) (h2 ∙ ap (λ l. l ++ b) (h1 ∙ ap (λ l. l ++ a) h))))
    ∙ append_assoc ((a ++ b) ++ c) d e ∙ append_assoc (a ++ b) c (d ++ e) ∙ append_assoc a b (c ++ (d ++ e))
