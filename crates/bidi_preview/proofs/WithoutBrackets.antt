-- A sequence without brackets has no pairs, and N0 leaves it unchanged.
use Rattle.std.proofs.Common.{◌≡◌, ℕ, suc, Bool, true, false, List, [], ◌∷◌, refl, sym, ap, ◌∙◌, Option, Some, None}
use Rattle.std.specs.List.{list_any}
use Rattle.std.specs.Option.{is_some}
use Rattle.bidi_class.specs.declared.brackets.Bracket.{Bracket}
use Rattle.bidi_class.specs.declared.class.Class.{Class}
use Rattle.bidi_class.specs.declared.class.Class.TheVariants.{ON}
use Rattle.bidi_order.specs.Resolve.{bracket_pairs_from, n0, neutral_bracket, pairs_in_order}
use Rattle.bidi_preview.specs.NeutralSteps.{counting_brackets}

neutral-none : (c : Class) → neutral_bracket c None ≡ None
neutral-none ON = refl
neutral-none _ = refl

no-pairs : (i : ℕ) (cs : List Class) (bs : List (Option Bracket)) → list_any is_some bs ≡ false
    → bracket_pairs_from i [] (counting_brackets cs bs) ≡ []
no-pairs i [] bs none = refl
no-pairs i (c ∷ cs) [] none = refl
no-pairs i (c ∷ cs) (None ∷ bs) none =
    ap (λ b. bracket_pairs_from i [] (b ∷ counting_brackets cs bs)) (neutral-none c) ∙ no-pairs (suc i) cs bs none
no-pairs i (c ∷ cs) (Some b ∷ bs) none = absurd (cc)

pub no_brackets : (own sos : Bool) (were_nonspacing : List Bool) (cs : List Class) (bs : List (Option Bracket))
    (some : Bool) → some ≡ list_any is_some bs → some ≡ false
    → cs ≡ n0 own sos were_nonspacing (pairs_in_order (bracket_pairs_from 0 [] (counting_brackets cs bs))) cs
no_brackets own sos were_nonspacing cs bs some is none =
    sym (ap (λ (ps : List (ℕ × ℕ)). n0 own sos were_nonspacing (pairs_in_order ps) cs)
    (no-pairs 0 cs bs (sym is ∙ none)))
