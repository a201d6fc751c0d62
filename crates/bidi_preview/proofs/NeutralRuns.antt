-- N1 and N2 in place: the neutrals since the last direction are set once the next one is known.
use Rattle.std.proofs.Common.{◌≡◌, ℕ, zero, suc, ◌+◌, ◌<◌, ◌≤◌, Bool, List, [], ◌∷◌, ◌++◌, take, drop, length, get_or}
use Rattle.std.proofs.Common.{refl, sym, ap, ◌∙◌, append_assoc, arith, Option, Some, None}
use Rattle.std.proofs.Math.ListN.{drop_of_length-le, set}
use Rattle.std.proofs.Math.Seq.{drop-cons, take-length}
use Rattle.std.proofs.lemmas.List.{append-nil, take_more}
use Rattle.bidi_class.specs.declared.class.Class.{Class}
use Rattle.bidi_order.specs.Resolve.{between, class_direction, n1, next_direction}
use Rattle.bidi_preview.specs.NeutralSteps.{filled, neutrals_so_far}

pub filled-more : (c : Class) (s i : ℕ) (cs : List Class) → s ≤ i → i < length cs
    → take (suc i) (filled c s (suc i) cs) ≡ take i (filled c s i cs) ++ c ∷ []
filled-more c s i [] order within = absurd (omega (arith, within))
filled-more c zero zero (x ∷ cs) order within = refl
filled-more c zero (suc i) (x ∷ cs) order within =
    ap (λ l. c ∷ l) (filled-more c zero i cs (omega arith) (omega (arith, within)))
filled-more c (suc s) zero (x ∷ cs) order within = absurd (omega (arith, order))
filled-more c (suc s) (suc i) (x ∷ cs) order within =
    ap (λ l. x ∷ l) (filled-more c s i cs (omega (arith, order)) (omega (arith, within)))

pub filled_none : (c : Class) (s : ℕ) (cs : List Class) → filled c s s cs ≡ cs
filled_none c zero cs = refl
filled_none c (suc s) [] = refl
filled_none c (suc s) (x ∷ cs) = ap (λ l. x ∷ l) (filled_none c s cs)

up : (n : ℕ) → n + 1 ≡ suc n
up n = omega arith

filled-at : (c : Class) (i e : ℕ) (cs : List Class) → i < e → i < length cs
    → filled c (suc i) e (set cs i c) ≡ filled c i e cs
filled-at c i zero cs order within = absurd (omega (arith, order))
filled-at c i (suc e) [] order within = absurd (omega (arith, within))
filled-at c zero (suc e) (x ∷ cs) order within = refl
filled-at c (suc i) (suc e) (x ∷ cs) order within =
    ap (λ l. x ∷ l) (filled-at c i e cs (omega (arith, order)) (omega (arith, within)))

pub filled_set : (c : Class) (i e : ℕ) (cs : List Class) → i < e → i < length cs
    → filled c (i + 1) e (set cs i c) ≡ filled c i e cs
filled_set c i e cs order within = ap (λ n. filled c n e (set cs i c)) (up i) ∙ filled-at c i e cs order within

pub filled-drop : (c : Class) (s i : ℕ) (cs : List Class) → drop i (filled c s i cs) ≡ drop i cs
filled-drop c s zero cs = refl
filled-drop c s (suc i) [] = refl
filled-drop c zero (suc i) (x ∷ cs) = filled-drop c zero i cs
filled-drop c (suc s) (suc i) (x ∷ cs) = filled-drop c s i cs

pub filled_length : (c : Class) (s i : ℕ) (cs : List Class) → length (filled c s i cs) ≡ length cs
filled_length c s zero cs = refl
filled_length c s (suc i) [] = refl
filled_length c zero (suc i) (x ∷ cs) = ap suc (filled_length c zero i cs)
filled_length c (suc s) (suc i) (x ∷ cs) = ap suc (filled_length c s i cs)

any_default : (cs : List Class) (i : ℕ) (d e : Class) → i < length cs → get_or cs i d ≡ get_or cs i e
any_default [] i d e h = absurd (omega (arith, h))
any_default (c ∷ cs) zero d e h = refl
any_default (c ∷ cs) (suc i) d e h = any_default cs i d e (omega (arith, h))

same : (cs : List Class) (i : ℕ) (d : Class) → i < length cs → get_or cs i d ≡ get_or cs i (get_or cs i d)
same cs i d h = any_default cs i d (get_or cs i d) h

module _ (own eos : Bool) where
  next-none : (c : Class) (cs : List Class) → class_direction c ≡ None → next_direction eos (c ∷ cs)
      ≡ next_direction eos cs
  next-none c cs e = ap (λ (o : Option Bool). elim o [ None ↦ next_direction eos cs | Some d ↦ d ]) e

  next-some : (c : Class) (cs : List Class) (d : Bool) → class_direction c ≡ Some d → next_direction eos (c ∷ cs) ≡ d
  next-some c cs d e = ap (λ (o : Option Bool). elim o [ None ↦ next_direction eos cs | Some d ↦ d ]) e

  n1-none : (before : Bool) (c : Class) (cs : List Class) → class_direction c ≡ None → n1 own before eos (c ∷ cs)
      ≡ between own before (next_direction eos cs) ∷ n1 own before eos cs
  n1-none before c cs e = ap (λ (o : Option Bool). elim o [
    | None ↦ between own before (next_direction eos cs) ∷ n1 own before eos cs
    | Some d ↦ c ∷ n1 own d eos cs
  ]) e

  n1-some : (before : Bool) (c : Class) (cs : List Class) (d : Bool) → class_direction c ≡ Some d
      → n1 own before eos (c ∷ cs) ≡ c ∷ n1 own d eos cs
  n1-some before c cs d e = ap (λ (o : Option Bool). elim o [
    | None ↦ between own before (next_direction eos cs) ∷ n1 own before eos cs
    | Some d ↦ c ∷ n1 own d eos cs
  ]) e

  one_more : (i : ℕ) → i + 1 ≡ suc i
  one_more i = omega arith

  -- one more neutral
  neutral-more : (before : Bool) (start i : ℕ) (cs : List Class) (c : Class) → start ≤ i → i < length cs
      → c ≡ get_or cs i c → class_direction c ≡ None → neutrals_so_far own eos before start (i + 1) cs
      ≡ neutrals_so_far own eos before start i cs
  neutral-more before start i cs c order within here none =
      let rest : List Class = drop (suc i) cs in
      let b : Class = between own before (next_direction eos rest) in
      let parts : drop i cs ≡ c ∷ rest = drop-cons cs i c within ∙ ap (λ x. x ∷ rest) (sym here) in
      ap (λ n. neutrals_so_far own eos before start n cs) (one_more i)
      ∙ ap (λ l. l ++ n1 own before eos rest) (filled-more b start i cs order within)
      ∙ append_assoc (take i (filled b start i cs)) (b ∷ []) (n1 own before eos rest)
      ∙ ap (λ l. take i (filled b start i cs) ++ l) (sym (n1-none before c rest none))
      ∙ ap (λ d. take i (filled (between own before d) start i cs) ++ n1 own before eos (c ∷ rest))
      (sym (next-none c rest none))
      ∙ ap (λ l. take i (filled (between own before (next_direction eos l)) start i cs) ++ n1 own before eos l)
      (sym parts)

  -- a direction
  direction-more : (before : Bool) (start i : ℕ) (cs : List Class) (c : Class) (d : Bool) → i < length cs
      → c ≡ get_or cs i c → class_direction c ≡ Some d
      → neutrals_so_far own eos d (i + 1) (i + 1) (filled (between own before d) start i cs)
      ≡ neutrals_so_far own eos before start i cs
  direction-more before start i cs c d within here some =
      let rest : List Class = drop (suc i) cs in
      let b : Class = between own before d in
      let F : List Class = filled b start i cs in
      let parts : drop i cs ≡ c ∷ rest = drop-cons cs i c within ∙ ap (λ x. x ∷ rest) (sym here) in
      let far : drop i F ≡ c ∷ rest = filled-drop b start i cs ∙ parts in
      let inside : i < length F = omega (arith, filled_length b start i cs) in
      let cut : drop i F ≡ get_or F i c ∷ drop (suc i) F = drop-cons F i c inside in
      let at : get_or F i c ≡ c = cc in
      let behind : drop (suc i) F ≡ rest = cc in
      let e : Class = between own d (next_direction eos (drop (i + 1) F)) in
      ap (λ l. take (i + 1) l ++ n1 own d eos (drop (i + 1) F)) (filled_none e (i + 1) F)
      ∙ ap (λ l. l ++ n1 own d eos (drop (i + 1) F)) (take_more F i c inside)
      ∙ append_assoc (take i F) (get_or F i c ∷ []) (n1 own d eos (drop (i + 1) F))
      ∙ ap (λ x. take i F ++ x ∷ n1 own d eos (drop (i + 1) F)) at
      ∙ ap (λ n. take i F ++ c ∷ n1 own d eos (drop n F)) (one_more i)
      ∙ ap (λ l. take i F ++ c ∷ n1 own d eos l) behind
      ∙ ap (λ l. take i F ++ l) (sym (n1-some before c rest d some))
      ∙ ap (λ x. take i (filled (between own before x) start i cs) ++ n1 own before eos (c ∷ rest))
      (sym (next-some c rest d some))
      ∙ ap (λ l. take i (filled (between own before (next_direction eos l)) start i cs) ++ n1 own before eos l)
      (sym parts)

  pub neutrals_none : (before : Bool) (start i : ℕ) (cs : List Class) (d : Class) → start ≤ i → i < length cs
      → class_direction (get_or cs i d) ≡ None → neutrals_so_far own eos before start (i + 1) cs
      ≡ neutrals_so_far own eos before start i cs
  neutrals_none before start i cs d order within e =
      neutral-more before start i cs (get_or cs i d) order within (same cs i d within) e

  pub neutrals_some : (before : Bool) (start i : ℕ) (cs : List Class) (d : Class) (e : Bool) → i < length cs
      → class_direction (get_or cs i d) ≡ Some e
      → neutrals_so_far own eos e (i + 1) (i + 1) (filled (between own before e) start i cs)
      ≡ neutrals_so_far own eos before start i cs
  neutrals_some before start i cs d e within is =
      direction-more before start i cs (get_or cs i d) e within (same cs i d within) is

  pub neutrals_end : (before : Bool) (start : ℕ) (cs : List Class) (i : ℕ) → i ≡ length cs
      → filled (between own before eos) start i cs ≡ neutrals_so_far own eos before start i cs
  neutrals_end before start cs i e =
      let past : drop i cs ≡ [] = drop_of_length-le cs (omega arith) in
      sym (ap (λ l. take i (filled (between own before (next_direction eos l)) start i cs) ++ n1 own before eos l) past
      ∙ append-nil (take i (filled (between own before eos) start i cs))
      ∙ ap (λ n. take n (filled (between own before eos) start i cs))
      (e ∙ sym (filled_length (between own before eos) start i cs))
      ∙ take-length (filled (between own before eos) start i cs))

pub neutrals_start : (own sos eos : Bool) (cs : List Class) → neutrals_so_far own eos sos 0 0 cs ≡ n1 own sos eos cs
neutrals_start own sos eos cs = refl
