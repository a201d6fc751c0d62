-- L1 changes separators, white space and isolate controls alone.
use Rattle.std.proofs.Common.{◌≡◌, ℕ, zero, suc, ◌<◌, false, List, [], ◌∷◌, length, map, get_or, refl, ap, ◌∙◌, arith}
use Rattle.std.proofs.Common.{Option, Some, None}
use Rattle.bidi_class.specs.Class.{bidi_class}
use Rattle.bidi_class.specs.declared.class.Class.{Class}
use Rattle.bidi_class.specs.declared.class.Class.TheVariants as class
use Rattle.bidi_order.specs.Levels.{line_levels}
use Rattle.bidi_order.specs.Reset.{ResetKind, is_reset, is_reset_class, can_reset, reset_kind, reset_levels}
use Rattle.bidi_order.specs.Reset.ResetKind.{Separator, Whitespace}
use Rattle.bidi_order.specs.Sequences.{levels_before_reset}
use Rattle.std.proofs.lemmas.Bool.{both_ways, cond-false}

not_reset : (kind : ResetKind) (after : List ResetKind) → can_reset kind ≡ false → is_reset kind after ≡ false
not_reset Separator after h = absurd (both_ways _ h refl)
not_reset Whitespace after h = absurd (both_ways _ h refl)
not_reset _ after h = refl

pub reset_levels-others : (base : ℕ) (kinds : List ResetKind) (levels : List (Option ℕ)) (i : ℕ)
    → can_reset (get_or kinds i Separator) ≡ false → get_or (reset_levels base kinds levels) i None ≡ get_or levels i
    None
reset_levels-others base [] levels i h = refl
reset_levels-others base (kind ∷ kinds) [] i h = refl
reset_levels-others base (kind ∷ kinds) (None ∷ levels) zero h = refl
reset_levels-others base (kind ∷ kinds) (None ∷ levels) (suc i) h = reset_levels-others base kinds levels i h
reset_levels-others base (kind ∷ kinds) (Some level ∷ levels) zero h =
    ap Some (cond-false _ _ _ (not_reset kind kinds h))
reset_levels-others base (kind ∷ kinds) (Some level ∷ levels) (suc i) h = reset_levels-others base kinds levels i h

-- a class of which L1 doesn't speak is of no kind that it changes
no_reset_kind : (k : Class) → is_reset_class k ≡ false → can_reset (reset_kind k) ≡ false
no_reset_kind class.L h = refl
no_reset_kind class.R h = refl
no_reset_kind class.AL h = refl
no_reset_kind class.EN h = refl
no_reset_kind class.ES h = refl
no_reset_kind class.ET h = refl
no_reset_kind class.AN h = refl
no_reset_kind class.CS h = refl
no_reset_kind class.NSM h = refl
no_reset_kind class.BN h = refl
no_reset_kind class.B h = refl
no_reset_kind class.S h = absurd (both_ways _ h refl)
no_reset_kind class.WS h = absurd (both_ways _ h refl)
no_reset_kind class.ON h = refl
no_reset_kind class.LRE h = refl
no_reset_kind class.LRO h = refl
no_reset_kind class.RLE h = refl
no_reset_kind class.RLO h = refl
no_reset_kind class.PDF h = refl
no_reset_kind class.LRI h = absurd (both_ways _ h refl)
no_reset_kind class.RLI h = absurd (both_ways _ h refl)
no_reset_kind class.FSI h = absurd (both_ways _ h refl)
no_reset_kind class.PDI h = absurd (both_ways _ h refl)

kind_at : (line : List ℕ) (i : ℕ) → i < length line
    → get_or (map (λ (c : ℕ). reset_kind (bidi_class c)) line) i Separator ≡ reset_kind (bidi_class (get_or line i 0))
kind_at [] i within = absurd (omega (arith, within))
kind_at (c ∷ line) zero within = refl
kind_at (c ∷ line) (suc i) within = kind_at line i (omega (arith, within))

pub line_levels-others : (base : ℕ) (line : List ℕ) (i : ℕ) → i < length line
    → is_reset_class (bidi_class (get_or line i 0)) ≡ false
    → get_or (line_levels base line) i None ≡ get_or (levels_before_reset base line) i None
unfolding line_levels
line_levels-others base line i within other =
    reset_levels-others base (map (λ (c : ℕ). reset_kind (bidi_class c)) line) (levels_before_reset base line) i
    (ap can_reset (kind_at line i within) ∙ no_reset_kind (bidi_class (get_or line i 0)) other)
