-- Members of lists without repeats.
use Rattle.std.proofs.Common.{◌≡◌, ℕ, ◌+◌, ◌≤◌, Bool, true, false, List, [], ◌∷◌, ◌++◌, ◌⊎◌, inl, inr}
use Rattle.std.proofs.Common.{if◌then◌else◌, length, refl, sym, ◌∙◌, subst, arith, length-append}
use Rattle.soy_meaning.specs.Walks.Machine.{ComparesEqual, Machine}
use Rattle.soy_meaning.specs.Walks.States.{AtMost, HasNoRepeats, IsMember, has_state, joined_states, with_state}

pub mem_left : {S : Type 0} (s : S) (xs ys : List S) → IsMember s xs → IsMember s (xs ++ ys)
mem_left s [] ys h = absurd h
mem_left s (x ∷ xs) ys (inl e) = inl e
mem_left s (x ∷ xs) ys (inr h) = inr (mem_left s xs ys h)

pub mem_right : {S : Type 0} (s : S) (xs ys : List S) → IsMember s ys → IsMember s (xs ++ ys)
mem_right s [] ys h = h
mem_right s (x ∷ xs) ys h = inr (mem_right s xs ys h)

split_more : {S : Type 0} (s x : S) (xs ys : List S) → IsMember s xs ⊎ IsMember s ys
    → IsMember s (x ∷ xs) ⊎ IsMember s ys
split_more s x xs ys (inl h) = inl (inr h)
split_more s x xs ys (inr h) = inr h

pub mem_split : {S : Type 0} (s : S) (xs ys : List S) → IsMember s (xs ++ ys) → IsMember s xs ⊎ IsMember s ys
mem_split s [] ys h = inr h
mem_split s (x ∷ xs) ys (inl e) = inl (inl e)
mem_split s (x ∷ xs) ys (inr h) = split_more s x xs ys (mem_split s xs ys h)

mem_one : {S : Type 0} (s y : S) → IsMember s (y ∷ []) → s ≡ y
mem_one s y (inl e) = e
mem_one s y (inr h) = absurd h

-- the list with one member left out
pub without : {S : Type 0} (x : S) (ys : List S) → IsMember x ys → List S
without x [] h = absurd h
without x (y ∷ ys) (inl e) = ys
without x (y ∷ ys) (inr h) = y ∷ without x ys h

length_without : {S : Type 0} (x : S) (ys : List S) (h : IsMember x ys) → length ys ≡ length (without x ys h) + 1
unfolding without
length_without x [] h = absurd h
length_without x (y ∷ ys) (inl e) = omega arith
length_without x (y ∷ ys) (inr h) = omega (arith, length_without x ys h)

mem_without : {S : Type 0} (x t : S) (ys : List S) (h : IsMember x ys) → (t ≡ x → ⊥) → IsMember t ys
    → IsMember t (without x ys h)
unfolding without
mem_without x t [] h apart k = absurd h
mem_without x t (y ∷ ys) (inl e) apart (inl k) = absurd (apart (k ∙ sym e))
mem_without x t (y ∷ ys) (inl e) apart (inr k) = k
mem_without x t (y ∷ ys) (inr h) apart (inl k) = inl k
mem_without x t (y ∷ ys) (inr h) apart (inr k) = inr (mem_without x t ys h apart k)

-- different members of a list are no more than it has
pub pigeons : {S : Type 0} (xs ys : List S) → HasNoRepeats xs → ((t : S) → IsMember t xs → IsMember t ys)
    → length xs ≤ length ys
pigeons [] ys d inside = omega arith
pigeons (x ∷ xs) ys d inside =
    let here : IsMember x ys = inside x (inl refl) in
    let rest : length xs ≤ length (without x ys here) =
    pigeons xs (without x ys here) d.1 (λ t k. mem_without x t ys here (λ e. d.0 (subst (λ u. IsMember u xs) e k))
    (inside t (inr k))) in
    omega (arith, length_without x ys here, rest)

pub few_from_list : {S : Type 0} (n : ℕ) (ys : List S) (P : S → Type 0) → length ys ≤ n
    → ((t : S) → P t → IsMember t ys) → AtMost n P
few_from_list n ys P small inside xs d all =
    let h : length xs ≤ length ys = pigeons xs ys d (λ t k. inside t (all t k)) in omega arith

module _ {S : Type 0} (m : Machine S) (compares : ComparesEqual m) where
  has_here : (s x : S) (xs : List S) → (has_state m s xs ≡ true → IsMember s xs) → (b : Bool) → m.same s x ≡ b
      → (if b then true else has_state m s xs) ≡ true → IsMember s (x ∷ xs)
  has_here s x xs f true e h = inl (compares.equal s x e)
  has_here s x xs f false e h = inr (f h)

  pub has_mem : (s : S) (xs : List S) → has_state m s xs ≡ true → IsMember s xs
  has_mem s [] h = let no : ⊥ = cc in absurd no
  has_mem s (x ∷ xs) h = has_here s x xs (λ k. has_mem s xs k) (m.same s x) refl h

  later_has : (b c : Bool) → c ≡ true → (if b then true else c) ≡ true
  later_has true c h = refl
  later_has false c h = h

  here_has : (b c : Bool) → b ≡ true → (if b then true else c) ≡ true
  here_has true c h = refl
  here_has false c h = let no : ⊥ = cc in absurd no

  pub mem_has : (s : S) (xs : List S) → IsMember s xs → has_state m s xs ≡ true
  mem_has s [] h = absurd h
  mem_has s (x ∷ xs) (inl e) = here_has (m.same s x) (has_state m s xs)
      (subst (λ u. m.same s u ≡ true) e (compares.itself s))
  mem_has s (x ∷ xs) (inr h) = later_has (m.same s x) (has_state m s xs) (mem_has s xs h)

  mem_if : (b : Bool) (t y : S) (xs : List S) → IsMember t (if b then xs else xs ++ (y ∷ [])) → IsMember t xs ⊎ (t ≡ y)
  mem_if true t y xs h = inl h
  mem_if false t y xs h = elim (mem_split t xs (y ∷ []) h) [ inl k ↦ inl k | inr k ↦ inr (mem_one t y k) ]

  pub mem_add : (t y : S) (xs : List S) → IsMember t (with_state m xs y) → IsMember t xs ⊎ (t ≡ y)
  mem_add t y xs h = mem_if (has_state m y xs) t y xs h

  old_if : (b : Bool) (t y : S) (xs : List S) → IsMember t xs → IsMember t (if b then xs else xs ++ (y ∷ []))
  old_if true t y xs h = h
  old_if false t y xs h = mem_left t xs (y ∷ []) h

  pub add_old : (t y : S) (xs : List S) → IsMember t xs → IsMember t (with_state m xs y)
  add_old t y xs h = old_if (has_state m y xs) t y xs h

  new_if : (b : Bool) (y : S) (xs : List S) → has_state m y xs ≡ b → IsMember y (if b then xs else xs ++ (y ∷ []))
  new_if true y xs e = has_mem y xs e
  new_if false y xs e = mem_right y xs (y ∷ []) (inl refl)

  pub add_new : (y : S) (xs : List S) → IsMember y (with_state m xs y)
  add_new y xs = new_if (has_state m y xs) y xs refl

  distinct_push : (y : S) (xs : List S) → HasNoRepeats xs → (IsMember y xs → ⊥) → HasNoRepeats (xs ++ (y ∷ []))
  distinct_push y [] d new = ((λ h. h), tt)
  distinct_push y (x ∷ xs) d new = (
    (λ h. elim (mem_split x xs (y ∷ []) h) [ inl k ↦ d.0 k | inr k ↦ new (inl (sym (mem_one x y k))) ]),
    distinct_push y xs d.1 (λ h. new (inr h)),
  )

  distinct_if : (b : Bool) (y : S) (xs : List S) → has_state m y xs ≡ b → HasNoRepeats xs
      → HasNoRepeats (if b then xs else xs ++ (y ∷ []))
  distinct_if true y xs e d = d
  distinct_if false y xs e d = distinct_push y xs d (λ h. let k : has_state m y xs ≡ true = mem_has y xs h in
      let no : ⊥ = cc in no)

  pub distinct_add : (y : S) (xs : List S) → HasNoRepeats xs → HasNoRepeats (with_state m xs y)
  distinct_add y xs d = distinct_if (has_state m y xs) y xs refl d

  length_if : (b : Bool) (y : S) (xs : List S) → length xs ≤ length (if b then xs else xs ++ (y ∷ []))
  length_if true y xs = omega arith
  length_if false y xs = omega (arith, length-append xs (y ∷ []))

  pub length_add : (y : S) (xs : List S) → length xs ≤ length (with_state m xs y)
  length_add y xs = length_if (has_state m y xs) y xs

  same_if : (b : Bool) (y : S) (xs : List S) → has_state m y xs ≡ b → length (if b then xs else xs ++ (y ∷ []))
      ≡ length xs → IsMember y xs
  same_if true y xs e h = has_mem y xs e
  same_if false y xs e h = let no : ⊥ = omega (arith, length-append xs (y ∷ []), h) in absurd no

  pub add_same : (y : S) (xs : List S) → length (with_state m xs y) ≡ length xs → IsMember y xs
  add_same y xs h = same_if (has_state m y xs) y xs refl h

  pub join_old : (t : S) (xs ys : List S) → IsMember t xs → IsMember t (joined_states m xs ys)
  join_old t xs [] h = h
  join_old t xs (y ∷ ys) h = join_old t (with_state m xs y) ys (add_old t y xs h)

  pub join_new : (t : S) (xs ys : List S) → IsMember t ys → IsMember t (joined_states m xs ys)
  join_new t xs [] h = absurd h
  join_new t xs (y ∷ ys) (inl e) =
      join_old t (with_state m xs y) ys (subst (λ u. IsMember u (with_state m xs y)) (sym e) (add_new y xs))
  join_new t xs (y ∷ ys) (inr h) = join_new t (with_state m xs y) ys h

  regroup : (t y : S) (xs ys : List S) → IsMember t (with_state m xs y) ⊎ IsMember t ys → IsMember t xs
      ⊎ IsMember t (y ∷ ys)
  regroup t y xs ys (inl h) = elim (mem_add t y xs h) [ inl k ↦ inl k | inr e ↦ inr (inl e) ]
  regroup t y xs ys (inr h) = inr (inr h)

  pub mem_join : (t : S) (xs ys : List S) → IsMember t (joined_states m xs ys) → IsMember t xs ⊎ IsMember t ys
  mem_join t xs [] h = inl h
  mem_join t xs (y ∷ ys) h = regroup t y xs ys (mem_join t (with_state m xs y) ys h)

  pub distinct_join : (xs ys : List S) → HasNoRepeats xs → HasNoRepeats (joined_states m xs ys)
  distinct_join xs [] d = d
  distinct_join xs (y ∷ ys) d = distinct_join (with_state m xs y) ys (distinct_add y xs d)

  pub length_join : (xs ys : List S) → length xs ≤ length (joined_states m xs ys)
  length_join xs [] = omega arith
  length_join xs (y ∷ ys) = omega (arith, length_add y xs, length_join (with_state m xs y) ys)

  only_old : (t y : S) (xs : List S) → IsMember y xs → IsMember t (with_state m xs y) → IsMember t xs
  only_old t y xs h k = elim (mem_add t y xs k) [ inl j ↦ j | inr e ↦ subst (λ u. IsMember u xs) (sym e) h ]

  -- what adds nothing was there
  pub join_same : (xs ys : List S) → length (joined_states m xs ys) ≡ length xs → (t : S) → IsMember t ys
      → IsMember t xs
  join_same xs [] h t k = absurd k
  join_same xs (y ∷ ys) h t (inl e) =
      let short : length (with_state m xs y) ≡ length xs =
      omega (arith, h, length_add y xs, length_join (with_state m xs y) ys) in
      subst (λ u. IsMember u xs) (sym e) (add_same y xs short)
  join_same xs (y ∷ ys) h t (inr k) =
      let short : length (with_state m xs y) ≡ length xs =
      omega (arith, h, length_add y xs, length_join (with_state m xs y) ys) in
      let rest : length (joined_states m (with_state m xs y) ys) ≡ length (with_state m xs y) =
      omega (arith, h, short) in
      only_old t y xs (add_same y xs short) (join_same (with_state m xs y) ys rest t k)
