-- A surrounding character is kept: it has a level.
use Rattle.std.proofs.Common.{◌≡◌, ℕ, zero, suc, ◌<◌, true, List, [], ◌∷◌, length, map, get_or, refl, subst, sym, arith}
use Rattle.std.proofs.Common.{Option, Some, None, if◌then◌else◌}
use Rattle.bidi_class.specs.Class.{bidi_class}
use Rattle.bidi_order.specs.DirectionalStatus.{DirectionalStatus, initial_status, status_after}
use Rattle.bidi_order.specs.Explicit.{KeptCharacter, act_of_character, explicit_character, explicit_from}
use Rattle.bidi_order.specs.Sequences.{resolved_level, resolved_levels_from, levels_before_reset}
use Rattle.bidi_order.specs.Reset.{ResetKind, is_reset, reset_kind, reset_levels}
use Rattle.bidi_order.specs.Levels.{line_levels}
use Rattle.bidi_order.specs.TwoLines.{is_surrounding}
use Rattle.bidi_order.proofs.SameOrder.{plain, surrounding-explicit}

-- a level stands at the index
abbrev pub HasLevel : List (Option ℕ) → ℕ → Type 0
HasLevel levels i = (level : ℕ) × (get_or levels i None ≡ Some level)

-- one more character before others
HasLevel-later : (base i : ℕ) (back : List (Option KeptCharacter)) (x : Option KeptCharacter)
    (rest : List (Option KeptCharacter))
    → ((back : List (Option KeptCharacter)) → HasLevel (resolved_levels_from base back rest) i)
    → HasLevel (resolved_levels_from base back (x ∷ rest)) (suc i)
HasLevel-later base i back None rest later = later (None ∷ back)
HasLevel-later base i back (Some k) rest later = later (Some k ∷ back)

HasLevel-from : (base : ℕ) (s : DirectionalStatus) (back : List (Option KeptCharacter)) (line : List ℕ) (i : ℕ)
    → i < length line → is_surrounding (bidi_class (get_or line i 0)) ≡ true
    → HasLevel (resolved_levels_from base back (explicit_from s line)) i
HasLevel-from base s back [] i within surrounding = absurd (omega (arith, within))
HasLevel-from base s back (c ∷ cs) zero within surrounding =
    subst (λ l. HasLevel (resolved_levels_from base back l) 0)
    (sym (surrounding-explicit s c cs surrounding))
    (resolved_level base back (plain s c) (explicit_from s cs), refl)
HasLevel-from base s back (c ∷ cs) (suc i) within surrounding =
    HasLevel-later base i back (explicit_character c (act_of_character c cs) s)
    (explicit_from (status_after (act_of_character c cs) s) cs)
    (λ back. HasLevel-from base (status_after (act_of_character c cs) s) back cs i (omega (arith, within)) surrounding)

-- L1 removes no level
HasLevel-reset : (base : ℕ) (kinds : List ResetKind) (levels : List (Option ℕ)) (i : ℕ) → HasLevel levels i
    → HasLevel (reset_levels base kinds levels) i
HasLevel-reset base [] levels i h = h
HasLevel-reset base (kind ∷ kinds) [] i h = h
HasLevel-reset base (kind ∷ kinds) (None ∷ levels) zero h = h
HasLevel-reset base (kind ∷ kinds) (None ∷ levels) (suc i) h = HasLevel-reset base kinds levels i h
HasLevel-reset base (kind ∷ kinds) (Some level ∷ levels) zero h = (if is_reset kind kinds then base else level, refl)
HasLevel-reset base (kind ∷ kinds) (Some level ∷ levels) (suc i) h = HasLevel-reset base kinds levels i h

pub HasLevel-surrounding : (base : ℕ) (line : List ℕ) (i : ℕ) → i < length line
    → is_surrounding (bidi_class (get_or line i 0)) ≡ true → HasLevel (line_levels base line) i
unfolding line_levels
HasLevel-surrounding base line i within surrounding =
    HasLevel-reset base (map (λ (c : ℕ). reset_kind (bidi_class c)) line) (levels_before_reset base line) i
    (HasLevel-from base (initial_status base) [] line i within surrounding)
