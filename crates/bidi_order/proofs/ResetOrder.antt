-- What L1 does between two characters that it leaves.
use Rattle.std.proofs.Common.{◌≡◌, ℕ, suc, ◌+◌, ◌-◌, ◌≤◌, min, Bool, true, false, not, inl, inr, List, [], ◌∷◌, ◌++◌}
use Rattle.std.proofs.Common.{take, drop, get_or, length, slice_range, refl, sym, ap, ◌∙◌, append_assoc, length-append}
use Rattle.std.proofs.Common.{arith, Option, Some, None, if◌then◌else◌}
use Rattle.std.proofs.lemmas.Bool.{cond-true, cond-false, cases_Bool, both_ways}
use Rattle.std.proofs.lemmas.List.{get_or_at, drop_at, take_at}
use Rattle.bidi_order.specs.DirectionalStatus.{is_odd}
use Rattle.bidi_order.specs.Reset.{ResetKind, is_trailing, is_reset, reset_levels}
use Rattle.bidi_order.specs.Reset.ResetKind.{Separator, Whitespace, Removed, Text}
use Rattle.bidi_order.specs.VisualOrder.{is_left_of, least_level}
use Rattle.bidi_order.proofs.LeastLevel.{Every, is_left_of-least}
use Rattle.bidi_order.proofs.LeastLevel.Every.{every_none, every_some}
use Rattle.bidi_order.proofs.SimilarLevels.{least_level-append}

-- the kinds of some characters with their levels: a separator is kept
pub data Fits : List ResetKind → List (Option ℕ) → Type 0 where
  fits_end : Fits [] []
  fits_some : {kind : ResetKind} {kinds : List ResetKind} {l : ℕ} {ls : List (Option ℕ)} → Fits kinds ls
      → Fits (kind ∷ kinds) (Some l ∷ ls)
  fits_none : {kind : ResetKind} {kinds : List ResetKind} {ls : List (Option ℕ)} → (kind ≡ Separator → ⊥)
      → Fits kinds ls → Fits (kind ∷ kinds) (None ∷ ls)

abbrev pub has_separator : List ResetKind → Bool
has_separator [] = false
has_separator (Separator ∷ kinds) = true
has_separator (_ ∷ kinds) = has_separator kinds

-- L1 on some characters before others
abbrev pub reset_in : ℕ → List ResetKind → List ResetKind → List (Option ℕ) → List (Option ℕ)
reset_in base [] after levels = []
reset_in base (kind ∷ kinds) after [] = []
reset_in base (kind ∷ kinds) after (None ∷ levels) = None ∷ reset_in base kinds after levels
reset_in base (kind ∷ kinds) after (Some l ∷ levels) = Some (if is_reset kind (kinds ++ after) then base else l)
    ∷ reset_in base kinds after levels

pub reset_levels-prefix : (base : ℕ) (kinds after : List ResetKind) (ls N : List (Option ℕ)) → Fits kinds ls
    → reset_levels base (kinds ++ after) (ls ++ N) ≡ reset_in base kinds after ls ++ reset_levels base after N
reset_levels-prefix base kinds after ls N fits_end = refl
reset_levels-prefix base kinds after ls N (fits_some {kind = kind} {kinds = kinds'} {l = l} {ls = ls'} h) =
    ap (λ r. Some (if is_reset kind (kinds' ++ after) then base else l) ∷ r)
    (reset_levels-prefix base kinds' after ls' N h)
reset_levels-prefix base kinds after ls N (fits_none {kinds = kinds'} {ls = ls'} n h) =
    ap (λ r. None ∷ r) (reset_levels-prefix base kinds' after ls' N h)

pub length-reset_in : (base : ℕ) (kinds after : List ResetKind) (ls : List (Option ℕ)) → Fits kinds ls
    → length (reset_in base kinds after ls) ≡ length kinds
length-reset_in base kinds after ls fits_end = refl
length-reset_in base kinds after ls (fits_some {kinds = kinds'} {ls = ls'} h) =
    ap suc (length-reset_in base kinds' after ls' h)
length-reset_in base kinds after ls (fits_none {kinds = kinds'} {ls = ls'} n h) =
    ap suc (length-reset_in base kinds' after ls' h)

-- where no separator comes before a character that L1 leaves, nothing is reset
not-is_trailing : (kinds after : List ResetKind) → has_separator kinds ≡ false → is_trailing (kinds ++ Text ∷ after)
    ≡ false
not-is_trailing [] after h = refl
not-is_trailing (Separator ∷ kinds) after h = absurd (both_ways _ h refl)
not-is_trailing (Text ∷ kinds) after h = refl
not-is_trailing (Whitespace ∷ kinds) after h = not-is_trailing kinds after h
not-is_trailing (Removed ∷ kinds) after h = not-is_trailing kinds after h

not-is_reset : (kind : ResetKind) (kinds after : List ResetKind) → has_separator (kind ∷ kinds) ≡ false
    → is_reset kind (kinds ++ Text ∷ after) ≡ false
not-is_reset Separator kinds after h = absurd (both_ways _ h refl)
not-is_reset Whitespace kinds after h = not-is_trailing kinds after h
not-is_reset Removed kinds after h = refl
not-is_reset Text kinds after h = refl

pub later : (kind : ResetKind) (kinds : List ResetKind) → has_separator (kind ∷ kinds) ≡ false
    → has_separator kinds ≡ false
later Separator kinds h = absurd (both_ways _ h refl)
later Whitespace kinds h = h
later Removed kinds h = h
later Text kinds h = h

reset_in-none : (base : ℕ) (kinds after : List ResetKind) (ls : List (Option ℕ)) → Fits kinds ls
    → has_separator kinds ≡ false → reset_in base kinds (Text ∷ after) ls ≡ ls
reset_in-none base kinds after ls fits_end h = refl
reset_in-none base kinds after ls (fits_some {kind = kind} {kinds = kinds'} {l = l} {ls = ls'} f) h =
    ap (λ n. Some n ∷ reset_in base kinds' (Text ∷ after) ls')
    (cond-false _ _ _ (not-is_reset kind kinds' after h))
    ∙ ap (λ r. Some l ∷ r) (reset_in-none base kinds' after ls' f (later kind kinds' h))
reset_in-none base kinds after ls (fits_none {kind = kind} {kinds = kinds'} {ls = ls'} n f) h =
    ap (λ r. None ∷ r) (reset_in-none base kinds' after ls' f (later kind kinds' h))

-- where a separator comes, the least level is the base
pub reset_levels-ge : (base : ℕ) (b : Bool) (l : ℕ) → base ≤ l → base ≤ (if b then base else l)
reset_levels-ge base true l h = omega arith
reset_levels-ge base false l h = h

least-base : (base : ℕ) (kinds after : List ResetKind) (ls : List (Option ℕ)) → Every (λ l. base ≤ l) ls
    → least_level base (reset_in base kinds after ls) ≡ base
least-base base [] after ls h = refl
least-base base (kind ∷ kinds) after [] h = refl
least-base base (kind ∷ kinds) after (None ∷ ls) (every_none h) = least-base base kinds after ls h
least-base base (kind ∷ kinds) after (Some l ∷ ls) (every_some g h) =
    let same : min base (if is_reset kind (kinds ++ after) then base else l) ≡ base =
    omega (arith, reset_levels-ge base (is_reset kind (kinds ++ after)) l g) in
    ap (λ n. least_level n (reset_in base kinds after ls)) same ∙ least-base base kinds after ls h

reset_in-some : (base n : ℕ) (kinds after : List ResetKind) (ls : List (Option ℕ)) → Fits kinds ls
    → has_separator kinds ≡ true → Every (λ l. base ≤ l) ls → base ≤ n → least_level n (reset_in base kinds after ls)
    ≡ base
reset_in-some base n [] after ls f h e low = absurd (both_ways _ refl h)
reset_in-some base n (kind ∷ kinds) after [] f h e low = elim f [ ]
reset_in-some base n (Separator ∷ kinds) after (Some l ∷ ls) f h (every_some g e) low =
    let same : min n base ≡ base = omega arith in ap (λ m. least_level m (reset_in base kinds after ls)) same
    ∙ least-base base kinds after ls e
reset_in-some base n (Separator ∷ kinds) after (None ∷ ls) (fits_none apart f) h e low = absurd (apart refl)
reset_in-some base n (kind ∷ kinds) after (Some l ∷ ls) (fits_some f) h (every_some g e) low =
    reset_in-some base (min n (if is_reset kind (kinds ++ after) then base else l)) kinds after ls f h e
    (omega (arith, reset_levels-ge base (is_reset kind (kinds ++ after)) l g))
reset_in-some base n (kind ∷ kinds) after (None ∷ ls) (fits_none apart f) h (every_none e) low =
    reset_in-some base n kinds after ls f h e low

-- two levels of a list, and those from behind the first to the second
pub second-at : (RA RM RB : List (Option ℕ)) (x y : Option ℕ)
    → get_or (RA ++ x ∷ (RM ++ y ∷ RB)) (length RA + 1 + length RM) None ≡ y
second-at RA RM RB x y =
    let j : ℕ = length RA + 1 + length RM in
    let longer : length (RA ++ x ∷ RM) ≡ j = omega (arith, length-append RA (x ∷ RM)) in
    ap (λ l. get_or l j None) (sym (append_assoc RA (x ∷ RM) (y ∷ RB)))
    ∙ get_or_at (RA ++ x ∷ RM) y RB None j longer

pub slice-between : (RA RM RB : List (Option ℕ)) (x y : Option ℕ)
    → slice_range (RA ++ x ∷ (RM ++ y ∷ RB)) (length RA + 1) (length RA + 1 + length RM + 1) ≡ RM ++ y ∷ []
slice-between RA RM RB x y =
    let i : ℕ = length RA in
    let j : ℕ = length RA + 1 + length RM in
    let longer : length (RA ++ x ∷ []) ≡ i + 1 = length-append RA (x ∷ []) in
    let n : j + 1 - (i + 1) ≡ length (RM ++ y ∷ []) = omega (arith, length-append RM (y ∷ [])) in
    ap (λ l. take (j + 1 - (i + 1)) (drop (i + 1) l)) (sym (append_assoc RA (x ∷ []) (RM ++ y ∷ RB)))
    ∙ ap (take (j + 1 - (i + 1))) (drop_at (RA ++ x ∷ []) (RM ++ y ∷ RB) (i + 1) longer)
    ∙ ap (take (j + 1 - (i + 1))) (sym (append_assoc RM (y ∷ []) RB))
    ∙ take_at (RM ++ y ∷ []) RB (j + 1 - (i + 1)) (sym n)

-- the order of two characters in a list of levels
pub order-at : (RA RM RB : List (Option ℕ)) (lx ly : ℕ) → is_left_of (RA ++ Some lx ∷ (RM ++ Some ly ∷ RB))
    (length RA) (length RA + 1 + length RM) ≡ not (is_odd (least_level lx (RM ++ Some ly ∷ [])))
order-at RA RM RB lx ly =
    let line : List (Option ℕ) = RA ++ Some lx ∷ (RM ++ Some ly ∷ RB) in
    let i : ℕ = length RA in
    let j : ℕ = length RA + 1 + length RM in
    is_left_of-least line i j lx ly (omega arith) (get_or_at RA (Some lx) (RM ++ Some ly ∷ RB) None i refl)
    (second-at RA RM RB (Some lx) (Some ly))
    ∙ ap (λ l. not (is_odd (least_level lx l))) (slice-between RA RM RB (Some lx) (Some ly))

-- what counts between two characters: the base where a separator stands there, and else their least level
abbrev pub least_between : ℕ → Bool → ℕ → List (Option ℕ) → ℕ → ℕ
least_between base separated lx LM ly = if separated then base else min (least_level lx LM) ly

pub order-reset_levels : (base : ℕ) (SA SM SB : List ResetKind) (LA LM LB : List (Option ℕ)) (lx ly : ℕ) → Fits SA LA
    → Fits SM LM → Every (λ l. base ≤ l) LM → base ≤ lx → base ≤ ly
    → is_left_of (reset_levels base (SA ++ Text ∷ (SM ++ Text ∷ SB)) (LA ++ Some lx ∷ (LM ++ Some ly ∷ LB)))
    (length SA) (length SA + 1 + length SM) ≡ not (is_odd (least_between base (has_separator SM) lx LM ly))
order-reset_levels base SA SM SB LA LM LB lx ly fa fm every gx gy =
    let RA : List (Option ℕ) = reset_in base SA (Text ∷ (SM ++ Text ∷ SB)) LA in
    let RM : List (Option ℕ) = reset_in base SM (Text ∷ SB) LM in
    let RB : List (Option ℕ) = reset_levels base SB LB in
    let parted : reset_levels base (SA ++ Text ∷ (SM ++ Text ∷ SB)) (LA ++ Some lx ∷ (LM ++ Some ly ∷ LB))
    ≡ RA ++ Some lx ∷ (RM ++ Some ly ∷ RB) =
    reset_levels-prefix base SA (Text ∷ (SM ++ Text ∷ SB)) LA (Some lx ∷ (LM ++ Some ly ∷ LB)) fa
    ∙ ap (λ l. RA ++ Some lx ∷ l) (reset_levels-prefix base SM (Text ∷ SB) LM (Some ly ∷ LB) fm) in
    let a : length SA ≡ length RA = sym (length-reset_in base SA (Text ∷ (SM ++ Text ∷ SB)) LA fa) in
    let m : length SM ≡ length RM = sym (length-reset_in base SM (Text ∷ SB) LM fm) in
    let least : least_level lx (RM ++ Some ly ∷ []) ≡ least_between base (has_separator SM) lx LM ly =
    least_level-append lx RM (Some ly ∷ []) ∙ elim (cases_Bool (has_separator SM)) [
      | inl is ↦
          let low : least_level lx RM ≡ base = reset_in-some base lx SM (Text ∷ SB) LM fm is every gx in
          let n : min (least_level lx RM) ly ≡ base = omega arith in n ∙ sym (cond-true _ _ _ is)
      | inr no' ↦ ap (λ l. min (least_level lx l) ly) (reset_in-none base SM SB LM fm no') ∙ sym (cond-false _ _ _ no')
    ] in
    ap (λ l. is_left_of l (length SA) (length SA + 1 + length SM)) parted
    ∙ ap (λ n. is_left_of (RA ++ Some lx ∷ (RM ++ Some ly ∷ RB)) n (n + 1 + length SM)) a
    ∙ ap (λ n. is_left_of (RA ++ Some lx ∷ (RM ++ Some ly ∷ RB)) (length RA) (length RA + 1 + n)) m
    ∙ order-at RA RM RB lx ly ∙ ap (λ n. not (is_odd n)) least
