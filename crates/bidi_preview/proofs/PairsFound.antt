-- Pairs of brackets by their opening ones: the pairs found so far, put in order, are those that the partners list.
use Rattle.std.proofs.Common.{◌≡◌, ◌≢◌, ◌==◌, ℕ, zero, suc, ◌+◌, ◌<◌, ◌≤◌, true, false, inl, inr, List}
use Rattle.std.proofs.Common.{[], ◌∷◌, ◌++◌}
use Rattle.std.proofs.Common.{drop, length, get_or, reverse, refl, sym, ap, subst, ◌∙◌, append_assoc, arith, Option}
use Rattle.std.proofs.Common.{Some, None}
use Rattle.std.proofs.lemmas.Bool.{cases_Bool, cases_lt, cond-true, cond-false, eq-eqb, lt-ltb, le-ltb, ne_eqb}
use Rattle.std.proofs.lemmas.List.{append-nil, get_or-set_other, length-reverse, reverse-append}
use Rattle.std.proofs.Math.ListN.{drop_of_length-le, replicate, set}
use Rattle.bidi_class.specs.declared.brackets.Bracket.{Bracket}
use Rattle.bidi_class.specs.declared.brackets.Bracket.TheVariants.{Opens, Closes}
use Rattle.bidi_class.specs.declared.class.Class.{Class}
use Rattle.bidi_order.specs.Resolve.{bracket_pairs_from, matching_opening, neutral_bracket, pair_inserted}
use Rattle.bidi_order.specs.Resolve.{pairs_in_order}
use Rattle.bidi_preview.specs.NeutralSteps.{AreOpen, PairsSoFar, counting_brackets, listed_pairs}

inserted-first : (p o : ℕ × ℕ) (os : List (ℕ × ℕ)) → p.0 < o.0 → pair_inserted p (o ∷ os) ≡ p ∷ (o ∷ os)
inserted-first p o os h = cond-true _ _ _ (lt-ltb p.0 o.0 h)

inserted-later : (p o : ℕ × ℕ) (os : List (ℕ × ℕ)) → o.0 ≤ p.0 → pair_inserted p (o ∷ os) ≡ o ∷ pair_inserted p os
inserted-later p o os h = cond-false _ _ _ (le-ltb p.0 o.0 h)

-- two pairs are inserted in either order
inserted-ordered : (a b : ℕ × ℕ) (l : List (ℕ × ℕ)) → a.0 < b.0 → pair_inserted a (pair_inserted b l)
    ≡ pair_inserted b (pair_inserted a l)
inserted-ordered a b [] h = inserted-first a b [] h ∙ sym (inserted-later b a [] (omega arith))
inserted-ordered a b (x ∷ xs) h =
    elim (cases_lt b.0 x.0) [
      | inl less ↦
          ap (pair_inserted a) (inserted-first b x xs less) ∙ inserted-first a b (x ∷ xs) h
          ∙ sym (ap (pair_inserted b) (inserted-first a x xs (omega arith))
          ∙ inserted-later b a (x ∷ xs) (omega arith) ∙ ap (λ l. a ∷ l) (inserted-first b x xs less))
      | inr more ↦
          elim (cases_lt a.0 x.0) [
            | inl less ↦
                ap (pair_inserted a) (inserted-later b x xs more) ∙ inserted-first a x (pair_inserted b xs) less
                ∙ sym (ap (pair_inserted b) (inserted-first a x xs less)
                ∙ inserted-later b a (x ∷ xs) (omega arith) ∙ ap (λ l. a ∷ l) (inserted-later b x xs more))
            | inr also ↦
                ap (pair_inserted a) (inserted-later b x xs more) ∙ inserted-later a x (pair_inserted b xs) also
                ∙ ap (λ l. x ∷ l) (inserted-ordered a b xs h)
                ∙ sym (ap (pair_inserted b) (inserted-later a x xs also)
                ∙ inserted-later b x (pair_inserted a xs) more)
          ]
    ]

-- none of the pairs opens at the index
abbrev pub HasNoOpening : ℕ → List (ℕ × ℕ) → Type 0
HasNoOpening i [] = Unit {0}
HasNoOpening i (p ∷ pairs) = (p.0 ≡ i → ⊥) × HasNoOpening i pairs

inserted-opening : (i : ℕ) (p : ℕ × ℕ) (l : List (ℕ × ℕ)) → HasNoOpening i (pair_inserted p l)
    → (p.0 ≡ i → ⊥) × HasNoOpening i l
inserted-opening i p [] h = h
inserted-opening i p (x ∷ xs) h =
    elim (cases_lt p.0 x.0) [
      | inl less ↦ subst (HasNoOpening i) (inserted-first p x xs less) h
      | inr more ↦
          let parts : (x.0 ≡ i → ⊥) × HasNoOpening i (pair_inserted p xs) =
          subst (HasNoOpening i) (inserted-later p x xs more) h in
          let rest : (p.0 ≡ i → ⊥) × HasNoOpening i xs = inserted-opening i p xs parts.1 in
          (rest.0, (parts.0, rest.1))
    ]

-- one more pair at the end
ordered-append : (done : List (ℕ × ℕ)) (p : ℕ × ℕ) → HasNoOpening p.0 (pairs_in_order done)
    → pairs_in_order (done ++ p ∷ []) ≡ pair_inserted p (pairs_in_order done)
ordered-append [] p h = refl
ordered-append (d ∷ done) p h =
    let parts : (d.0 ≡ p.0 → ⊥) × HasNoOpening p.0 (pairs_in_order done) =
    inserted-opening p.0 d (pairs_in_order done) h in
    ap (pair_inserted d) (ordered-append done p parts.1)
    ∙ elim (cases_lt d.0 p.0) [
      | inl less ↦ inserted-ordered d p (pairs_in_order done) less
      | inr more ↦ sym (inserted-ordered p d (pairs_in_order done) (below more parts.0))
    ]
  where
    below : {a b : ℕ} → b ≤ a → (a ≡ b → ⊥) → b < a
    below h differs = omega arith

-- the pairs that the partners list
listed-first : (i v b : ℕ) (P : List (Option ℕ)) → i < b → pair_inserted (i, v) (listed_pairs b P)
    ≡ (i, v) ∷ listed_pairs b P
listed-first i v b [] h = refl
listed-first i v b (None ∷ P) h = listed-first i v (suc b) P (omega arith)
listed-first i v b (Some l ∷ P) h = inserted-first (i, v) (b, l) (listed_pairs (suc b) P) h

listed-set : (P : List (Option ℕ)) (a n i v : ℕ) → i ≡ a + n → n < length P → get_or P n None ≡ None
    → pair_inserted (i, v) (listed_pairs a P) ≡ listed_pairs a (set P n (Some v))
listed-set [] a n i v e within free = absurd (omega (arith, within))
listed-set (None ∷ P) a zero i v e within free =
    let same : i ≡ a = omega arith in
    listed-first i v (suc a) P (omega arith) ∙ ap (λ j. (j, v) ∷ listed_pairs (suc a) P) same
listed-set (Some l ∷ P) a zero i v e within free = absurd (cc)
listed-set (None ∷ P) a (suc n) i v e within free =
    listed-set P (suc a) n i v (omega arith) (omega (arith, within)) free
listed-set (Some l ∷ P) a (suc n) i v e within free =
    inserted-later (i, v) (a, l) (listed_pairs (suc a) P) (omega arith)
    ∙ ap (λ k. (a, l) ∷ k) (listed-set P (suc a) n i v (omega arith) (omega (arith, within)) free)

listed-later : (P : List (Option ℕ)) (b i : ℕ) → i < b → HasNoOpening i (listed_pairs b P)
listed-later [] b i h = tt
listed-later (None ∷ P) b i h = listed-later P (suc b) i (omega arith)
listed-later (Some l ∷ P) b i h = ((λ e. omega arith), listed-later P (suc b) i (omega arith))

listed-free : (P : List (Option ℕ)) (a n i : ℕ) → i ≡ a + n → get_or P n None ≡ None → HasNoOpening i (listed_pairs a P)
listed-free [] a n i e free = tt
listed-free (None ∷ P) a zero i e free = listed-later P (suc a) i (omega arith)
listed-free (Some l ∷ P) a zero i e free = absurd (cc)
listed-free (None ∷ P) a (suc n) i e free = listed-free P (suc a) n i (omega arith) free
listed-free (Some l ∷ P) a (suc n) i e free =
    ((λ h. omega arith), listed-free P (suc a) n i (omega arith) free)

-- ---- one more character

open-wider : (partners : List (Option ℕ)) (b : ℕ) (opened : List (ℕ × ℕ)) → AreOpen partners b opened
    → AreOpen partners (suc b) opened
open-wider partners b [] h = tt
open-wider partners b (o ∷ opened) h = (omega (arith, h.0), (h.1.0, h.1.1))

open-at : (partners : List (Option ℕ)) (b c : ℕ) (opened : List (ℕ × ℕ)) → b ≤ c → AreOpen partners b opened
    → AreOpen partners c opened
open-at partners b c [] e h = tt
open-at partners b c (o ∷ opened) e h = (omega (arith, h.0), (h.1.0, h.1.1))

-- a partner is set above all that are open
open-set : (partners : List (Option ℕ)) (b f v : ℕ) (opened : List (ℕ × ℕ)) → b ≤ f → AreOpen partners b opened
    → AreOpen (set partners f (Some v)) b opened
open-set partners b f v [] e h = tt
open-set partners b f v (o ∷ opened) e h =
    let differs : o.1 ≢ f = λ same. omega (arith, h.0) in (
      h.0,
      (
        get_or-set_other partners f o.1 (Some v) None differs ∙ h.1.0,
        open-set partners o.1 f v opened (omega (arith, h.0)) h.1.1,
      ),
    )

-- what a closing bracket matches
pub record IsOpened (partners : List (Option ℕ)) (bound first : ℕ) (others : List (ℕ × ℕ)) : Type 0 where
  pub below : first < bound
  pub free : get_or partners first None ≡ None
  pub are_open : AreOpen partners first others

of_some : {A : Type 0} {x y : A} → Some x ≡ Some y → x ≡ y
of_some e = cc

opened-matching : (partners : List (Option ℕ)) (bound c : ℕ) (opened : List (ℕ × ℕ)) (first : ℕ)
    (others : List (ℕ × ℕ)) → AreOpen partners bound opened → matching_opening c opened ≡ Some (first, others)
    → IsOpened partners bound first others
opened-matching partners bound c [] first others h e = absurd (cc)
opened-matching partners bound c (o ∷ opened) first others h e =
    elim (cases_Bool (c == o.0)) [
      | inl is ↦
          let same : ◌≡◌ {A = Option (ℕ × List (ℕ × ℕ))} (Some (o.1, opened)) (Some (first, others)) =
          sym (cond-true _ _ _ is) ∙ e in
          let pair : ◌≡◌ {A = ℕ × List (ℕ × ℕ)} (o.1, opened) (first, others) = of_some same in
          let index : o.1 ≡ first = ap (λ (p : ℕ × List (ℕ × ℕ)). p.0) pair in
          let rest : opened ≡ others = ap (λ (p : ℕ × List (ℕ × ℕ)). p.1) pair in
          record {
            below = subst (λ i. i < bound) index h.0;
            free = subst (λ i. get_or partners i None ≡ None) index h.1.0;
            are_open = subst (AreOpen partners first) rest (subst (λ i. AreOpen partners i opened) index h.1.1);
          }
      | inr isn't ↦
          opened-matching partners bound c opened first others
          (open-at partners o.1 bound opened (omega (arith, h.0)) h.1.1) (sym (cond-false _ _ _ isn't) ∙ e)
    ]

module _ (brackets : List (Option Bracket)) (i : ℕ) (opened : List (ℕ × ℕ)) (partners : List (Option ℕ))
    (p : PairsSoFar brackets i opened partners) where
  later : (k : ℕ) → suc i ≤ k → get_or partners k None ≡ None
  later k h = p.fresh k (omega (arith, h))

  pub found_none : drop i brackets ≡ None ∷ drop (suc i) brackets → PairsSoFar brackets (suc i) opened partners
  found_none e = record {
    done = p.done;
    found = p.found ∙ ap (λ l. p.done ++ bracket_pairs_from i opened l) e;
    listed = p.listed;
    are_open = open-wider partners i opened p.are_open;
    fresh = later;
  }

  pub found_opens : (c : ℕ) → drop i brackets ≡ Some (Opens c) ∷ drop (suc i) brackets → (length opened == 63) ≡ false
      → PairsSoFar brackets (suc i) ((c, i) ∷ opened) partners
  found_opens c e room = record {
    done = p.done;
    found = p.found ∙ ap (λ l. p.done ++ bracket_pairs_from i opened l) e
        ∙ ap (λ l. p.done ++ l) (cond-false _ _ _ room);
    listed = p.listed;
    are_open = (omega arith, (p.fresh i (omega arith), p.are_open));
    fresh = later;
  }

  pub found_full : (c : ℕ) → drop i brackets ≡ Some (Opens c) ∷ drop (suc i) brackets → (length opened == 63) ≡ true
      → listed_pairs 0 partners ≡ pairs_in_order (bracket_pairs_from 0 [] brackets)
  found_full c e full = sym (ap pairs_in_order (p.found ∙ ap (λ l. p.done ++ bracket_pairs_from i opened l) e
      ∙ ap (λ l. p.done ++ l) (cond-true _ _ _ full) ∙ append-nil p.done) ∙ p.listed)

  abbrev after_closing : ℕ → Option (ℕ × List (ℕ × ℕ)) → List (ℕ × ℕ)
  after_closing c o = elim o [
    | None ↦ bracket_pairs_from (suc i) opened (drop (suc i) brackets)
    | Some found ↦ (found.0, i) ∷ bracket_pairs_from (suc i) found.1 (drop (suc i) brackets)
  ]

  pub found_lone : (c : ℕ) → drop i brackets ≡ Some (Closes c) ∷ drop (suc i) brackets
      → matching_opening c opened ≡ None → PairsSoFar brackets (suc i) opened partners
  found_lone c e alone = record {
    done = p.done;
    found = p.found ∙ ap (λ l. p.done ++ bracket_pairs_from i opened l) e
        ∙ ap (λ o. p.done ++ after_closing c o) alone;
    listed = p.listed;
    are_open = open-wider partners i opened p.are_open;
    fresh = later;
  }

  pub found_pair : (c first : ℕ) (others : List (ℕ × ℕ)) → drop i brackets ≡ Some (Closes c) ∷ drop (suc i) brackets
      → matching_opening c opened ≡ Some (first, others) → i < length partners
      → PairsSoFar brackets (suc i) others (set partners first (Some i))
  found_pair c first others e matches within =
      let o : IsOpened partners i first others = opened-matching partners i c opened first others p.are_open matches in
      record {
        done = p.done ++ (first, i) ∷ [];
        found = p.found ∙ ap (λ l. p.done ++ bracket_pairs_from i opened l) e
            ∙ ap (λ o. p.done ++ after_closing c o) matches
            ∙ sym (append_assoc p.done ((first, i) ∷ []) (bracket_pairs_from (suc i) others (drop (suc i) brackets)));
        listed = ordered-append p.done (first, i)
            (subst (HasNoOpening first) (sym p.listed) (listed-free partners 0 first first (omega arith) o.free))
            ∙ ap (pair_inserted (first, i)) p.listed
            ∙ listed-set partners 0 first first i (omega arith) (omega (arith, o.below)) o.free;
        are_open = open-at (set partners first (Some i)) first (suc i) others (omega (arith, o.below))
            (open-set partners first first i others (omega arith) o.are_open);
        fresh = λ k h. get_or-set_other partners first k (Some i) None (λ same. omega (arith, o.below)) ∙ later k h;
      }

  pub found_end : length brackets ≤ i
      → listed_pairs 0 partners ≡ pairs_in_order (bracket_pairs_from 0 [] brackets)
  found_end h = sym (ap pairs_in_order (p.found
      ∙ ap (λ l. p.done ++ bracket_pairs_from i opened l) (drop_of_length-le brackets h) ∙ append-nil p.done)
      ∙ p.listed)

none-listed : (a n : ℕ) → listed_pairs a (replicate n None) ≡ []
none-listed a zero = refl
none-listed a (suc n) = none-listed (suc a) n

pub none_at : (n k : ℕ) → get_or {A = Option ℕ} (replicate n None) k None ≡ None
none_at zero k = refl
none_at (suc n) zero = refl
none_at (suc n) (suc k) = none_at n k

pub found_start : (brackets : List (Option Bracket)) (n : ℕ) → PairsSoFar brackets 0 [] (replicate n None)
found_start brackets n = record {
  done = [];
  found = refl;
  listed = sym (none-listed 0 n);
  are_open = tt;
  fresh = λ k h. none_at n k;
}

-- the brackets that count, from an index on
pub counting_drop : (cs : List Class) (brackets : List (Option Bracket)) (i : ℕ) (c : Class) (b : Option Bracket)
    → i < length cs → length brackets ≡ length cs → drop i (counting_brackets cs brackets)
    ≡ neutral_bracket (get_or cs i c) (get_or brackets i b) ∷ drop (suc i) (counting_brackets cs brackets)
counting_drop [] brackets i c b h long = absurd (omega (arith, h))
counting_drop (x ∷ cs) [] i c b h long = absurd (omega (arith, long))
counting_drop (x ∷ cs) (y ∷ brackets) zero c b h long = refl
counting_drop (x ∷ cs) (y ∷ brackets) (suc i) c b h long =
    counting_drop cs brackets i c b (omega (arith, h)) (omega (arith, long))

-- ---- the same by indexes

up : (i : ℕ) → suc i ≡ i + 1
up i = omega arith

module _ (cs : List Class) (brackets : List (Option Bracket)) (i : ℕ) (opened : List (ℕ × ℕ))
    (partners : List (Option ℕ)) (c : Class) (b : Option Bracket) (within : i < length cs)
    (long : length brackets ≡ length cs) (p : PairsSoFar (counting_brackets cs brackets) i opened partners) where
  here : (x : Option Bracket) → neutral_bracket (get_or cs i c) (get_or brackets i b) ≡ x
      → drop i (counting_brackets cs brackets) ≡ x ∷ drop (suc i) (counting_brackets cs brackets)
  here x e = counting_drop cs brackets i c b within long
      ∙ ap (λ y. y ∷ drop (suc i) (counting_brackets cs brackets)) e

  pub read_none : neutral_bracket (get_or cs i c) (get_or brackets i b) ≡ None
      → PairsSoFar (counting_brackets cs brackets) (i + 1) opened partners
  read_none e = subst (λ n. PairsSoFar (counting_brackets cs brackets) n opened partners) (up i)
      (found_none (counting_brackets cs brackets) i opened partners p (here None e))

  pub read_opens : (x : ℕ) → neutral_bracket (get_or cs i c) (get_or brackets i b) ≡ Some (Opens x)
      → (length opened == 63) ≡ false → PairsSoFar (counting_brackets cs brackets) (i + 1) ((x, i) ∷ opened) partners
  read_opens x e room = subst (λ n. PairsSoFar (counting_brackets cs brackets) n ((x, i) ∷ opened) partners) (up i)
      (found_opens (counting_brackets cs brackets) i opened partners p x (here (Some (Opens x)) e) room)

  pub read_full : (x : ℕ) → neutral_bracket (get_or cs i c) (get_or brackets i b) ≡ Some (Opens x)
      → (length opened == 63) ≡ true
      → listed_pairs 0 partners ≡ pairs_in_order (bracket_pairs_from 0 [] (counting_brackets cs brackets))
  read_full x e full = found_full (counting_brackets cs brackets) i opened partners p x (here (Some (Opens x)) e) full

  pub read_lone : (x : ℕ) → neutral_bracket (get_or cs i c) (get_or brackets i b) ≡ Some (Closes x)
      → matching_opening x opened ≡ None → PairsSoFar (counting_brackets cs brackets) (i + 1) opened partners
  read_lone x e alone = subst (λ n. PairsSoFar (counting_brackets cs brackets) n opened partners) (up i)
      (found_lone (counting_brackets cs brackets) i opened partners p x (here (Some (Closes x)) e) alone)

  pub read_pair : (x first : ℕ) (others : List (ℕ × ℕ))
      → neutral_bracket (get_or cs i c) (get_or brackets i b) ≡ Some (Closes x)
      → matching_opening x opened ≡ Some (first, others) → length partners ≡ length cs
      → PairsSoFar (counting_brackets cs brackets) (i + 1) others (set partners first (Some i))
  read_pair x first others e matches same =
      subst (λ n. PairsSoFar (counting_brackets cs brackets) n others (set partners first (Some i))) (up i)
      (found_pair (counting_brackets cs brackets) i opened partners p x first others (here (Some (Closes x)) e) matches
      (omega arith))

  pub read_first : (x first : ℕ) (others : List (ℕ × ℕ)) → matching_opening x opened ≡ Some (first, others)
      → first < i
  read_first x first others matches =
      let o : IsOpened partners i first others = opened-matching partners i x opened first others p.are_open matches in
      o.below

pub counting_long : (cs : List Class) (brackets : List (Option Bracket)) → length brackets ≡ length cs
    → length (counting_brackets cs brackets) ≡ length cs
counting_long [] brackets long = refl
counting_long (c ∷ cs) [] long = absurd (omega (arith, long))
counting_long (c ∷ cs) (b ∷ brackets) long = ap suc (counting_long cs brackets (omega (arith, long)))

pub read_end : (cs : List Class) (brackets : List (Option Bracket)) (i : ℕ) (opened : List (ℕ × ℕ))
    (partners : List (Option ℕ)) → length brackets ≡ length cs → length cs ≤ i
    → PairsSoFar (counting_brackets cs brackets) i opened partners
    → listed_pairs 0 partners ≡ pairs_in_order (bracket_pairs_from 0 [] (counting_brackets cs brackets))
read_end cs brackets i opened partners long h p = found_end (counting_brackets cs brackets) i opened partners p
    (omega (arith, counting_long cs brackets long, h))

-- the open brackets as a list with its last item last
pub full_items : (cs : List Class) (brackets : List (Option Bracket)) (i : ℕ) (items : List (ℕ × ℕ))
    (partners : List (Option ℕ)) (c : Class) (b : Option Bracket) → i < length cs → length brackets ≡ length cs
    → PairsSoFar (counting_brackets cs brackets) i (reverse items) partners → (x : ℕ)
    → neutral_bracket (get_or cs i c) (get_or brackets i b) ≡ Some (Opens x) → length items ≡ 63
    → listed_pairs 0 partners ≡ pairs_in_order (bracket_pairs_from 0 [] (counting_brackets cs brackets))
full_items cs brackets i items partners c b within long p x e full =
    read_full cs brackets i (reverse items) partners c b within long p x e
    (eq-eqb (length (reverse items)) 63 (length-reverse items ∙ full))

pub opens_items : (cs : List Class) (brackets : List (Option Bracket)) (i : ℕ) (items : List (ℕ × ℕ))
    (partners : List (Option ℕ)) (c : Class) (b : Option Bracket) → i < length cs → length brackets ≡ length cs
    → PairsSoFar (counting_brackets cs brackets) i (reverse items) partners → (x : ℕ)
    → neutral_bracket (get_or cs i c) (get_or brackets i b) ≡ Some (Opens x) → (length items ≡ 63 → ⊥)
    → PairsSoFar (counting_brackets cs brackets) (i + 1) (reverse (items ++ (x, i) ∷ [])) partners
opens_items cs brackets i items partners c b within long p x e room =
    subst (λ o. PairsSoFar (counting_brackets cs brackets) (i + 1) o partners)
    (sym (reverse-append items ((x, i) ∷ [])))
    (read_opens cs brackets i (reverse items) partners c b within long p x e
    (ne_eqb (length (reverse items)) 63 (λ h. room (sym (length-reverse items) ∙ h))))
