-- Three texts, each added after the one before.
use Rattle.std.proofs.Common.{◌≡◌, ℕ, List, ◌++◌, ap, ◌∙◌, append_assoc}

pub three_pushed : (start one two first second third : List ℕ) → one ≡ start ++ first → two ≡ one ++ second →
    two ++ third ≡ start ++ (first ++ (second ++ third))
three_pushed start one two first second third is_one is_two =
    ap (λ l. l ++ third) (is_two ∙ ap (λ l. l ++ second) is_one)
    ∙ append_assoc (start ++ first) second third ∙ append_assoc start first (second ++ third)
