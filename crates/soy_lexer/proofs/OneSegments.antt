-- A text has one sequence of segments: what stands at an offset decides the next segment.
use Rattle.std.proofs.Common.{◌≡◌, ℕ, ◌+◌, List, [], ◌∷◌, Option, Some, refl, sym, ◌∙◌, ap, subst}
use Rattle.soy_base.specs.ByteLength.{byte_len}
use Rattle.soy_lexer.specs.Segment.{Segment, source_text}
use Rattle.soy_lexer.specs.ModeAfter.{mode_after}
use Rattle.soy_lexer.specs.declared.mode.Mode.{Mode}
use Rattle.soy_lexer.specs.Found.Found.{Begins, Fails}
use Rattle.soy_lexer.specs.Segments.{Segments}
use Rattle.soy_lexer.specs.Segments.Segments.{Ended, Stopped, Goes}

-- of two equal finds the segments are equal
same_segment : (p q : Segment) (r s : List ℕ) → Begins p r ≡ Begins q s → p ≡ q
same_segment p q r s e = cc

-- and what follows them
same_rest : (p q : Segment) (r s : List ℕ) → Begins p r ≡ Begins q s → r ≡ s
same_rest p q r s e = cc

-- and how much further on no token begins
same_further : (m n : ℕ) → Fails m ≡ Fails n → m ≡ n
same_further m n e = cc

-- no text begins with a segment and with no token
never_both : (p : Segment) (r : List ℕ) (n : ℕ) → Begins p r ≡ Fails n → ⊥
never_both p r n e = cc

-- the segments after an equal segment and an equal rest
moved : (offset : ℕ) (mode : Mode) (p q : Segment) (r s : List ℕ) (ps : List Segment) (stop : Option ℕ) → p ≡ q
    → r ≡ s →
    Segments (offset + byte_len (source_text q)) (mode_after mode q) s ps stop
    → Segments (offset + byte_len (source_text p)) (mode_after mode p) r ps stop
moved offset mode p q r s ps stop e f d =
    subst (λ (x : Segment). Segments (offset + byte_len (source_text x)) (mode_after mode x) r ps stop) (sym e)
    (subst (λ (x : List ℕ). Segments (offset + byte_len (source_text q)) (mode_after mode q) x ps stop) (sym f) d)

-- two sequences of segments of one text are equal, and stop alike
pub one_segments : (offset : ℕ) (mode : Mode) (text : List ℕ) (ps qs : List Segment) (s t : Option ℕ) →
    Segments offset mode text ps s → Segments offset mode text qs t → (ps ≡ qs) × (s ≡ t)
one_segments offset mode [] _ _ _ _ (Ended _ _) (Ended _ _) = (refl, refl)
one_segments offset mode (c ∷ cs) _ _ _ _ (Stopped _ _ _ _ m e) (Stopped _ _ _ _ n f) =
    (refl, ap (λ k. Some (offset + k)) (same_further m n (sym e ∙ f)))
one_segments offset mode (c ∷ cs) _ _ _ _ (Stopped _ _ _ _ m e) (Goes _ _ _ _ q s qs t f d) =
    absurd (never_both q s m (sym f ∙ e))
one_segments offset mode (c ∷ cs) _ _ _ _ (Goes _ _ _ _ p r ps stop e d) (Stopped _ _ _ _ n f) =
    absurd (never_both p r n (sym e ∙ f))
one_segments offset mode (c ∷ cs) _ _ _ _ (Goes _ _ _ _ p r ps stop e d) (Goes _ _ _ _ q s qs t f g) =
    let same = sym e ∙ f in
    let segment = same_segment p q r s same in
    let both = one_segments (offset + byte_len (source_text p)) (mode_after mode p) r ps qs stop t d
    (moved offset mode p q r s qs t segment (same_rest p q r s same) g) in
    let tails : ps ≡ qs = both.0 in
    (cc, both.1)
