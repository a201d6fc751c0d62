-- The least level from one character of a line to another, where a separator or a value stands between them.
use Rattle.std.proofs.Common.{◌≡◌, ℕ, zero, suc, ◌+◌, ◌-◌, ◌<◌, ◌≤◌, min, true, false, inl, inr, List, []}
use Rattle.std.proofs.Common.{◌∷◌, ◌++◌, take, drop, get_or, length, map, slice_range, refl, sym, ap, subst, ◌∙◌, arith}
use Rattle.std.proofs.Common.{Option, Some, None, if◌then◌else◌, ◌==◌}
use Rattle.std.proofs.lemmas.Bool.{cond-true, cond-false, cases_Bool, both_ways, eqb-true, or_cases}
use Rattle.std.proofs.lemmas.List.{get_or-drop, get_or_at, length-map, map-append}
use Rattle.bidi_class.specs.declared.class.Class.TheVariants.{S}
use Rattle.bidi_class.specs.Class.{bidi_class}
use Rattle.bidi_text.specs.Clean.{cleaned_text}
use Rattle.bidi_order.specs.DirectionalStatus.{DirectionalStatus, initial_status, is_within_depth}
use Rattle.bidi_order.specs.Explicit.{KeptCharacter, explicit_characters, explicit_from, status_before}
use Rattle.bidi_order.specs.Sequences.{levels_before_reset, resolved_level, resolved_levels_from}
use Rattle.bidi_order.specs.Reset.{ResetKind, is_reset, is_trailing, reset_kind, reset_levels}
use Rattle.bidi_order.specs.Reset.ResetKind.{Separator, Whitespace, Removed, Text}
use Rattle.bidi_order.specs.Levels.{line_levels}
use Rattle.bidi_order.specs.VisualOrder.{least_level}
use Rattle.bidi_order.specs.WithinLimit.{LabelledCharacter, line_characters, value_character, value_characters}
use Rattle.bidi_order.specs.WithinLimit.{value_initiator, is_value_initiator, is_within_limit}
use Rattle.bidi_order.proofs.RestoredStatus.{Matched, Value, value, opening, closing, explicit_in, explicit_from-prefix}
use Rattle.bidi_order.proofs.RestoredStatus.{length-explicit_in}
use Rattle.bidi_order.proofs.AroundValues.{closing-pdi, initiator-starts, line_characters-value, within_from-at}
use Rattle.bidi_order.proofs.CleanedMatched.{Matched-cleaned}
use Rattle.bidi_order.proofs.DeletedContent.{levels_in, past, resolved_levels_from-prefix, length-levels_in}
use Rattle.bidi_order.proofs.FollowedSequences.{Above-Within}
use Rattle.bidi_order.proofs.LeastLevel.{Every, Every-take, Every-drop, Every-get_or, Every-least_level}
use Rattle.bidi_order.proofs.LeastLevel.Every.{every_end, every_none, every_some}
use Rattle.bidi_order.proofs.LevelsAboveBase.{levels-base}
use Rattle.bidi_order.proofs.SimilarLevels.{IsValue, least-inside, least_level-append, resolved_level-le}
use Rattle.bidi_order.proofs.ResetOrder.{Fits, has_separator, reset_in, reset_levels-prefix, length-reset_in}
use Rattle.bidi_order.proofs.ResetOrder.{reset_levels-ge, slice-between, second-at, later}
use Rattle.bidi_order.proofs.ResetOrder.Fits.{fits_end, fits_some, fits_none}
use Rattle.bidi_order.proofs.SameOrder.{kinds, fits-line, Fits-tail, Fits-left, Fits-right, Every-first}
use Rattle.bidi_order.proofs.SameOrder.{Every-left, Every-right, is_value}
use Rattle.bidi_order.proofs.SameLine.{kinds-cleaned}

-- ---- a separator

-- no level of a line is below its base
reset_levels-Every : (base : ℕ) (those : List ResetKind) (levels : List (Option ℕ)) → Every (λ l. base ≤ l) levels
    → Every (λ l. base ≤ l) (reset_levels base those levels)
reset_levels-Every base [] levels h = h
reset_levels-Every base (kind ∷ those) [] h = every_end
reset_levels-Every base (kind ∷ those) (None ∷ levels) (every_none h) =
    every_none (reset_levels-Every base those levels h)
reset_levels-Every base (kind ∷ those) (Some level ∷ levels) (every_some g h) =
    every_some (reset_levels-ge base (is_reset kind those) level g) (reset_levels-Every base those levels h)

line_levels-Every : (base : ℕ) (line : List ℕ) → Every (λ l. base ≤ l) (line_levels base line)
unfolding line_levels
line_levels-Every base line = reset_levels-Every base (kinds line) (levels_before_reset base line)
    (levels-base base line)

-- a separator has the level of the base
separator-level : (base : ℕ) (those : List ResetKind) (levels : List (Option ℕ)) (m : ℕ) → Fits those levels
    → get_or those m Text ≡ Separator → get_or (reset_levels base those levels) m None ≡ Some base
separator-level base [] [] m fits_end e = absurd (apart e)
  where
    apart : Text ≡ Separator → ⊥
    apart e = cc
separator-level base [] (level ∷ levels) m f e = elim f [ ]
separator-level base (kind ∷ after) [] m f e = elim f [ ]
separator-level base (kind ∷ after) (Some level ∷ levels) zero (fits_some f) e =
    ap (λ k. Some (if is_reset k after then base else level)) e
separator-level base (kind ∷ after) (Some level ∷ levels) (suc m) (fits_some f) e =
    separator-level base after levels m f e
separator-level base (kind ∷ after) (None ∷ levels) zero (fits_none apart f) e = absurd (apart e)
separator-level base (kind ∷ after) (None ∷ levels) (suc m) (fits_none apart f) e =
    separator-level base after levels m f e

kind-at : (line : List ℕ) (m : ℕ) → m < length line → get_or (kinds line) m Text ≡ reset_kind
    (bidi_class (get_or line m 0))
kind-at [] m within = absurd (omega (arith, within))
kind-at (c ∷ line) zero within = refl
kind-at (c ∷ line) (suc m) within = kind-at line m (omega (arith, within))

line-separator : (base : ℕ) (line : List ℕ) (m : ℕ) → m < length line → bidi_class (get_or line m 0) ≡ S
    → get_or (line_levels base line) m None ≡ Some base
unfolding line_levels
line-separator base line m within e =
    separator-level base (kinds line) (levels_before_reset base line) m
    (fits-line base (initial_status base) [] line) (kind-at line m within ∙ ap reset_kind e)

-- the least level is at most each
least_level-first : (n : ℕ) (levels : List (Option ℕ)) → least_level n levels ≤ n
least_level-first n [] = omega arith
least_level-first n (None ∷ levels) = least_level-first n levels
least_level-first n (Some level ∷ levels) = omega (arith, least_level-first (min n level) levels)

least_level-item : (k d level : ℕ) (levels : List (Option ℕ)) (n : ℕ) → get_or levels d None ≡ Some level → d < n
    → least_level k (take n levels) ≤ level
least_level-item k d level [] n e within = absurd (none e)
  where
    none : None ≡ Some level → ⊥
    none e = cc
least_level-item k d level (l ∷ levels) zero e within = absurd (omega (arith, within))
least_level-item k zero level (None ∷ levels) (suc n) e within = absurd (none e)
  where
    none : None ≡ Some level → ⊥
    none e = cc
least_level-item k zero level (Some l ∷ levels) (suc n) e within =
    let same : l ≡ level = cc in omega (arith, least_level-first (min k l) (take n levels))
least_level-item k (suc d) level (None ∷ levels) (suc n) e within =
    least_level-item k d level levels n e (omega (arith, within))
least_level-item k (suc d) level (Some l ∷ levels) (suc n) e within =
    least_level-item (min k l) d level levels n e (omega (arith, within))

-- where a separator stands between two characters their least level is the base
pub least-separator : (base : ℕ) (line : List ℕ) (i m j first : ℕ) → i < m → m < j → j < length line
    → get_or (line_levels base line) i None ≡ Some first → bidi_class (get_or line m 0) ≡ S
    → least_level first (slice_range (line_levels base line) (i + 1) (j + 1)) ≡ base
least-separator base line i m j first after before within at_first e =
    let levels : List (Option ℕ) = line_levels base line in
    let every : Every (λ l. base ≤ l) levels = line_levels-Every base line in
    let d : ℕ = m - (i + 1) in
    let to_m : i + 1 + d ≡ m = omega arith in
    let at : get_or (drop (i + 1) levels) d None ≡ Some base =
    get_or-drop (i + 1) levels d None ∙ ap (λ k. get_or levels k None) to_m
    ∙ line-separator base line m (omega arith) e in
    let low : least_level first (slice_range levels (i + 1) (j + 1)) ≤ base =
    least_level-item first d base (drop (i + 1) levels) (j + 1 - (i + 1)) at (omega arith) in
    let high : base ≤ least_level first (slice_range levels (i + 1) (j + 1)) =
    Every-least_level (λ l. base ≤ l) first (slice_range levels (i + 1) (j + 1))
    (Every-get_or (λ l. base ≤ l) i first levels every at_first)
    (Every-take (λ l. base ≤ l) (j + 1 - (i + 1)) (drop (i + 1) levels)
    (Every-drop (λ l. base ≤ l) (i + 1) levels every)) in
    omega (arith, low, high)

-- ---- a value

-- before white space that isn't reset nothing is reset, up to a separator
trails-not : (those after : List ResetKind) → has_separator those ≡ false → is_trailing after ≡ false
    → is_trailing (those ++ Whitespace ∷ after) ≡ false
trails-not [] after h t = t
trails-not (Separator ∷ those) after h t = absurd (both_ways _ h refl)
trails-not (Text ∷ those) after h t = refl
trails-not (Whitespace ∷ those) after h t = trails-not those after h t
trails-not (Removed ∷ those) after h t = trails-not those after h t

reset-not : (kind : ResetKind) (those after : List ResetKind) → has_separator (kind ∷ those) ≡ false
    → is_trailing after ≡ false → is_reset kind (those ++ Whitespace ∷ after) ≡ false
reset-not Separator those after h t = absurd (both_ways _ h refl)
reset-not Whitespace those after h t = trails-not those after h t
reset-not Removed those after h t = refl
reset-not Text those after h t = refl

reset_in-not : (base : ℕ) (those after : List ResetKind) (ls : List (Option ℕ)) → Fits those ls
    → has_separator those ≡ false → is_trailing after ≡ false → reset_in base those (Whitespace ∷ after) ls ≡ ls
reset_in-not base those after ls fits_end h t = refl
reset_in-not base those after ls (fits_some {kind = kind} {kinds = those'} {l = l} {ls = ls'} f) h t =
    ap (λ n. Some n ∷ reset_in base those' (Whitespace ∷ after) ls')
    (cond-false _ _ _ (reset-not kind those' after h t))
    ∙ ap (λ r. Some l ∷ r) (reset_in-not base those' after ls' f (later kind those' h) t)
reset_in-not base those after ls (fits_none {kind = kind} {kinds = those'} {ls = ls'} n f) h t =
    ap (λ r. None ∷ r) (reset_in-not base those' after ls' f (later kind those' h) t)

reset_in-Every : (base : ℕ) (those after : List ResetKind) (ls : List (Option ℕ)) → Every (λ l. base ≤ l) ls
    → Every (λ l. base ≤ l) (reset_in base those after ls)
reset_in-Every base [] after ls h = every_end
reset_in-Every base (kind ∷ those) after [] h = every_end
reset_in-Every base (kind ∷ those) after (None ∷ ls) (every_none h) =
    every_none (reset_in-Every base those after ls h)
reset_in-Every base (kind ∷ those) after (Some l ∷ ls) (every_some g h) =
    every_some (reset_levels-ge base (is_reset kind (those ++ after)) l g) (reset_in-Every base those after ls h)

-- from an isolate control over some levels to another one the least level is that of one of the two, where before L1 no
-- level between is below the first
least_between_controls : (base : ℕ) (KV KB : List ResetKind) (LV : List (Option ℕ)) (lo lp : ℕ) → Fits KV LV
    → has_separator KV ≡ false → Every (λ l. base ≤ l) LV → base ≤ lo → least_level lo LV ≡ lo
    → least_level (if is_trailing (KV ++ Whitespace ∷ KB) then base else lo)
    (reset_in base KV (Whitespace ∷ KB) LV ++ Some (if is_trailing KB then base else lp) ∷ [])
    ≡ min (if is_trailing (KV ++ Whitespace ∷ KB) then base else lo) (if is_trailing KB then base else lp)
least_between_controls base KV KB LV lo lp fits apart every low inside =
    let first : ℕ = if is_trailing (KV ++ Whitespace ∷ KB) then base else lo in
    let between : List (Option ℕ) = reset_in base KV (Whitespace ∷ KB) LV in
    least_level-append first between (Some (if is_trailing KB then base else lp) ∷ [])
    ∙ elim (cases_Bool (is_trailing KB)) [
      | inl is ↦
          let high : base ≤ first = reset_levels-ge base (is_trailing (KV ++ Whitespace ∷ KB)) lo low in
          let all : base ≤ least_level first between =
          Every-least_level (λ l. base ≤ l) first between high (reset_in-Every base KV (Whitespace ∷ KB) LV every) in
          let last : (if is_trailing KB then base else lp) ≡ base = cond-true _ _ _ is in
          omega (arith, high, all, last)
      | inr isn't ↦
          let first_is : first ≡ lo = cond-false _ _ _ (trails-not KV KB apart isn't) in
          let same : least_level first between ≡ first =
          ap (least_level first) (reset_in-not base KV KB LV fits apart isn't) ∙ ap (λ n. least_level n LV) first_is
          ∙ inside ∙ sym first_is in
          ap (λ n. min n (if is_trailing KB then base else lp)) same
    ]

same-level : {m n : ℕ} → Some m ≡ Some n → m ≡ n
same-level e = cc

-- the same of a whole list of levels
least_across_controls : (base : ℕ) (KA KV KB : List ResetKind) (LA LV LB : List (Option ℕ)) (lo lp first last : ℕ)
    → Fits KA LA → Fits KV LV → has_separator KV ≡ false → Every (λ l. base ≤ l) LV → base ≤ lo
    → least_level lo LV ≡ lo
    → get_or (reset_levels base (KA ++ Whitespace ∷ (KV ++ Whitespace ∷ KB)) (LA ++ Some lo ∷ (LV ++ Some lp ∷ LB)))
    (length KA) None ≡ Some first
    → get_or (reset_levels base (KA ++ Whitespace ∷ (KV ++ Whitespace ∷ KB)) (LA ++ Some lo ∷ (LV ++ Some lp ∷ LB)))
    (length KA + 1 + length KV) None ≡ Some last
    → least_level first (slice_range
    (reset_levels base (KA ++ Whitespace ∷ (KV ++ Whitespace ∷ KB)) (LA ++ Some lo ∷ (LV ++ Some lp ∷ LB)))
    (length KA + 1) (length KA + 1 + length KV + 1)) ≡ min first last
least_across_controls base KA KV KB LA LV LB lo lp first last fa fv apart every low inside at_first at_last =
    let one : ℕ = if is_trailing (KV ++ Whitespace ∷ KB) then base else lo in
    let other : ℕ = if is_trailing KB then base else lp in
    let RA : List (Option ℕ) = reset_in base KA (Whitespace ∷ (KV ++ Whitespace ∷ KB)) LA in
    let RV : List (Option ℕ) = reset_in base KV (Whitespace ∷ KB) LV in
    let RB : List (Option ℕ) = reset_levels base KB LB in
    let L : List (Option ℕ) = RA ++ Some one ∷ (RV ++ Some other ∷ RB) in
    let parted : reset_levels base (KA ++ Whitespace ∷ (KV ++ Whitespace ∷ KB)) (LA ++ Some lo ∷ (LV ++ Some lp ∷ LB))
    ≡ L =
    reset_levels-prefix base KA (Whitespace ∷ (KV ++ Whitespace ∷ KB)) LA (Some lo ∷ (LV ++ Some lp ∷ LB)) fa
    ∙ ap (λ l. RA ++ Some one ∷ l) (reset_levels-prefix base KV (Whitespace ∷ KB) LV (Some lp ∷ LB) fv) in
    let a : length KA ≡ length RA = sym (length-reset_in base KA (Whitespace ∷ (KV ++ Whitespace ∷ KB)) LA fa) in
    let v : length KV ≡ length RV = sym (length-reset_in base KV (Whitespace ∷ KB) LV fv) in
    let first_at : Some one ≡ Some first =
    sym (get_or_at RA (Some one) (RV ++ Some other ∷ RB) None (length KA) (sym a))
    ∙ ap (λ l. get_or l (length KA) None) (sym parted) ∙ at_first in
    let last_at : Some other ≡ Some last =
    sym (second-at RA RV RB (Some one) (Some other)) ∙ ap (λ n. get_or L (n + 1 + length RV) None) (sym a)
    ∙ ap (λ n. get_or L (length KA + 1 + n) None) (sym v)
    ∙ ap (λ l. get_or l (length KA + 1 + length KV) None) (sym parted) ∙ at_last in
    let first_is : one ≡ first = same-level first_at in
    let last_is : other ≡ last = same-level last_at in
    let slice : slice_range L (length KA + 1) (length KA + 1 + length KV + 1) ≡ RV ++ Some other ∷ [] =
    ap (λ n. slice_range L (n + 1) (n + 1 + length KV + 1)) a
    ∙ ap (λ n. slice_range L (length RA + 1) (length RA + 1 + n + 1)) v
    ∙ slice-between RA RV RB (Some one) (Some other) in
    ap (λ l. least_level first (slice_range l (length KA + 1) (length KA + 1 + length KV + 1))) parted
    ∙ ap (least_level first) slice ∙ ap (λ n. least_level n (RV ++ Some other ∷ [])) (sym first_is)
    ∙ least_between_controls base KV KB LV lo lp fv apart every low inside
    ∙ ap (λ n. min n other) first_is ∙ ap (min first) last_is

initiator-kind : (i : ℕ) → is_value_initiator i ≡ true → reset_kind (bidi_class i) ≡ Whitespace
unfolding bidi_class
initiator-kind i h =
    elim (or_cases (i == 0x2066) (i == 0x2067) h) [
      | inl lri ↦ let e : 0x2066 ≡ i = sym (eqb-true i 0x2066 lri) in
          subst (λ i. reset_kind (bidi_class i) ≡ Whitespace) e refl
      | inr rli ↦ let e : 0x2067 ≡ i = sym (eqb-true i 0x2067 rli) in
          subst (λ i. reset_kind (bidi_class i) ≡ Whitespace) e refl
    ]

pdi-kind : reset_kind (bidi_class 0x2069) ≡ Whitespace
unfolding bidi_class
pdi-kind = refl

-- from a value's initiator to its PDI the least level is that of one of the two
least_in_line : (base i : ℕ) (a v b : List ℕ) (first last : ℕ) → is_value_initiator i ≡ true → Matched 0 v
    → has_separator (kinds v) ≡ false
    → is_within_depth (status_before (initial_status base) a (i ∷ (v ++ 0x2069 ∷ b))) ≡ true
    → get_or (line_levels base (a ++ i ∷ (v ++ 0x2069 ∷ b))) (length a) None ≡ Some first
    → get_or (line_levels base (a ++ i ∷ (v ++ 0x2069 ∷ b))) (length a + 1 + length v) None ≡ Some last
    → least_level first (slice_range (line_levels base (a ++ i ∷ (v ++ 0x2069 ∷ b))) (length a + 1)
    (length a + 1 + length v + 1)) ≡ min first last
unfolding line_levels
least_in_line base i a v b first last starts matched apart room at_first at_last =
    let line : List ℕ = a ++ i ∷ (v ++ 0x2069 ∷ b) in
    let s : DirectionalStatus = status_before (initial_status base) a (i ∷ (v ++ 0x2069 ∷ b)) in
    let SA : List (Option KeptCharacter) = explicit_in (initial_status base) a (i ∷ (v ++ 0x2069 ∷ b)) in
    let it : Value s i 0x2069 v b = value s i 0x2069 v b (initiator-starts i starts) closing-pdi matched room in
    let o : KeptCharacter = opening s in
    let p : KeptCharacter = closing s in
    let T : List (Option KeptCharacter) = explicit_from s b in
    let are : IsValue o p it.slots = is_value s it.slots it.within in
    let back : List (Option KeptCharacter) = past [] SA in
    let LA : List (Option ℕ) = levels_in base [] SA (Some o ∷ (it.slots ++ Some p ∷ T)) in
    let at_o : ℕ = resolved_level base back o (it.slots ++ Some p ∷ T) in
    let LV : List (Option ℕ) = levels_in base (Some o ∷ back) it.slots (Some p ∷ T) in
    let at_p : ℕ = resolved_level base (past (Some o ∷ back) it.slots) p T in
    let LB : List (Option ℕ) = resolved_levels_from base (Some p ∷ past (Some o ∷ back) it.slots) T in
    let L : List (Option ℕ) = LA ++ Some at_o ∷ (LV ++ Some at_p ∷ LB) in
    let K : List ResetKind = kinds a ++ Whitespace ∷ (kinds v ++ Whitespace ∷ kinds b) in
    let levels : resolved_levels_from base [] (explicit_characters base line) ≡ L =
    ap (resolved_levels_from base [])
    (explicit_from-prefix (initial_status base) a (i ∷ (v ++ 0x2069 ∷ b)) ∙ ap (λ r. SA ++ r) it.is)
    ∙ resolved_levels_from-prefix base [] SA (Some o ∷ (it.slots ++ Some p ∷ T))
    ∙ ap (λ r. LA ++ Some at_o ∷ r) (resolved_levels_from-prefix base (Some o ∷ back) it.slots (Some p ∷ T)) in
    let split : kinds line ≡ K =
    map-append (λ (c : ℕ). reset_kind (bidi_class c)) a (i ∷ (v ++ 0x2069 ∷ b))
    ∙ ap (λ t. kinds a ++ t ∷ kinds (v ++ 0x2069 ∷ b)) (initiator-kind i starts)
    ∙ ap (λ r. kinds a ++ Whitespace ∷ r) (map-append (λ (c : ℕ). reset_kind (bidi_class c)) v (0x2069 ∷ b)
    ∙ ap (λ t. kinds v ++ t ∷ kinds b) pdi-kind) in
    let fits : Fits K L = subst (λ k. Fits k L) split
    (subst (Fits (kinds line)) levels (fits-line base (initial_status base) [] line)) in
    let every : Every (λ l. base ≤ l) (Some at_o ∷ (LV ++ Some at_p ∷ LB)) =
    Every-right (λ l. base ≤ l) LA (Some at_o ∷ (LV ++ Some at_p ∷ LB))
    (subst (Every (λ l. base ≤ l)) levels (levels-base base line)) in
    let long_a : length (kinds a) ≡ length a = length-map a (λ (c : ℕ). reset_kind (bidi_class c)) in
    let long_v : length (kinds v) ≡ length v = length-map v (λ (c : ℕ). reset_kind (bidi_class c)) in
    let n : length (kinds a) ≡ length LA = long_a
    ∙ sym (length-explicit_in (initial_status base) a (i ∷ (v ++ 0x2069 ∷ b)))
    ∙ sym (length-levels_in base [] SA (Some o ∷ (it.slots ++ Some p ∷ T))) in
    let k : length (kinds v) ≡ length LV = long_v ∙ sym it.long
    ∙ sym (length-levels_in base (Some o ∷ back) it.slots (Some p ∷ T)) in
    let fits_a : Fits (kinds a) LA = Fits-left (kinds a) (Whitespace ∷ (kinds v ++ Whitespace ∷ kinds b)) LA
    (Some at_o ∷ (LV ++ Some at_p ∷ LB)) n fits in
    let fits_v : Fits (kinds v) LV = Fits-left (kinds v) (Whitespace ∷ kinds b) LV (Some at_p ∷ LB) k
    (Fits-tail (Fits-right (kinds a) (Whitespace ∷ (kinds v ++ Whitespace ∷ kinds b)) LA
    (Some at_o ∷ (LV ++ Some at_p ∷ LB)) n fits)) in
    let inside : least_level at_o LV ≡ at_o =
    least-inside base at_o o.level (Some o ∷ back) it.slots (Some p ∷ T) (Above-Within are.within)
    (resolved_level-le base back o (it.slots ++ Some p ∷ T) are.steady) in
    let whole : reset_levels base (kinds line) (levels_before_reset base line) ≡ reset_levels base K L =
    ap (reset_levels base (kinds line)) levels ∙ ap (λ k. reset_levels base k L) split in
    let first_at : get_or (reset_levels base K L) (length (kinds a)) None ≡ Some first =
    ap (λ l. get_or l (length (kinds a)) None) (sym whole)
    ∙ ap (λ n. get_or (reset_levels base (kinds line) (levels_before_reset base line)) n None) long_a ∙ at_first in
    let last_at : get_or (reset_levels base K L) (length (kinds a) + 1 + length (kinds v)) None ≡ Some last =
    ap (λ l. get_or l (length (kinds a) + 1 + length (kinds v)) None) (sym whole)
    ∙ ap (λ n. get_or (reset_levels base (kinds line) (levels_before_reset base line)) (n + 1 + length (kinds v)) None)
    long_a
    ∙ ap (λ n. get_or (reset_levels base (kinds line) (levels_before_reset base line)) (length a + 1 + n) None) long_v
    ∙ at_last in
    ap (λ l. least_level first (slice_range l (length a + 1) (length a + 1 + length v + 1))) whole
    ∙ ap (λ n. least_level first (slice_range (reset_levels base K L) (n + 1) (n + 1 + length v + 1))) (sym long_a)
    ∙ ap (λ n. least_level first (slice_range (reset_levels base K L) (length (kinds a) + 1)
    (length (kinds a) + 1 + n + 1))) (sym long_v)
    ∙ least_across_controls base (kinds a) (kinds v) (kinds b) LA LV LB at_o at_p first last fits_a fits_v apart
    (Every-left (λ l. base ≤ l) LV (Some at_p ∷ LB)
    (Every-right (λ l. base ≤ l) (Some at_o ∷ []) (LV ++ Some at_p ∷ LB) every))
    (Every-first (λ l. base ≤ l) at_o (LV ++ Some at_p ∷ LB) every) inside first_at last_at

pub least-value_characters : (base k i first last : ℕ) (text : List ℕ) (prefix suffix : List LabelledCharacter)
    → is_value_initiator i ≡ true
    → is_within_limit base (prefix ++ (value_characters k i (cleaned_text text) ++ suffix)) ≡ true
    → get_or (line_levels base (line_characters (prefix ++ (value_characters k i (cleaned_text text) ++ suffix))))
    (length prefix) None ≡ Some first
    → get_or (line_levels base (line_characters (prefix ++ (value_characters k i (cleaned_text text) ++ suffix))))
    (length prefix + 1 + length (cleaned_text text)) None ≡ Some last
    → least_level first (slice_range
    (line_levels base (line_characters (prefix ++ (value_characters k i (cleaned_text text) ++ suffix))))
    (length prefix + 1) (length prefix + 1 + length (cleaned_text text) + 1)) ≡ min first last
unfolding is_within_limit
least-value_characters base k i first last text prefix suffix starts limit at_first at_last =
    let v : List ℕ = cleaned_text text in
    let a : List ℕ = line_characters prefix in
    let b : List ℕ = line_characters suffix in
    let line : List ℕ = a ++ i ∷ (v ++ 0x2069 ∷ b) in
    let at_i : line_characters (prefix ++ (value_characters k i v ++ suffix)) ≡ line =
    line_characters-value k i v prefix suffix in
    let room : is_within_depth (status_before (initial_status base) a (i ∷ (v ++ 0x2069 ∷ b))) ≡ true =
    subst (λ l. is_within_depth (status_before (initial_status base) a l) ≡ true)
    (line_characters-value k i v [] suffix)
    (within_from-at (initial_status base) prefix (value_initiator k i)
    (map (value_character k) v ++ value_character k 0x2069 ∷ [] ++ suffix) refl limit) in
    let n : length a ≡ length prefix = length-map prefix (λ (m : LabelledCharacter). m.character) in
    let first_at : get_or (line_levels base line) (length a) None ≡ Some first =
    ap (λ l. get_or (line_levels base l) (length a) None) (sym at_i)
    ∙ ap (λ n. get_or (line_levels base (line_characters (prefix ++ (value_characters k i v ++ suffix)))) n None) n
    ∙ at_first in
    let last_at : get_or (line_levels base line) (length a + 1 + length v) None ≡ Some last =
    ap (λ l. get_or (line_levels base l) (length a + 1 + length v) None) (sym at_i)
    ∙ ap (λ n. get_or (line_levels base (line_characters (prefix ++ (value_characters k i v ++ suffix))))
    (n + 1 + length v) None) n ∙ at_last in
    ap (λ l. least_level first (slice_range (line_levels base l) (length prefix + 1)
    (length prefix + 1 + length v + 1))) at_i
    ∙ ap (λ n. least_level first (slice_range (line_levels base line) (n + 1) (n + 1 + length v + 1))) (sym n)
    ∙ least_in_line base i a v b first last starts (Matched-cleaned text) (kinds-cleaned text) room first_at last_at
