-- What one move of every state gives.
use Rattle.std.proofs.Common.{◌≡◌, ℕ, List, [], ◌∷◌, ◌⊎◌, inl, inr, Result, Ok, Err}
use Rattle.std.proofs.Common.{map, refl, sym, ap, ◌∙◌, subst}
use Rattle.soy_base.specs.declared.code.Code.{Code}
use Rattle.soy_rules.specs.Faults.{followed_by}
use Rattle.soy_meaning.proofs.Members.{add_new, add_old, distinct_add, distinct_join, join_new, mem_add, mem_join}
use Rattle.soy_meaning.specs.Walks.Machine.{ComparesEqual, Machine}
use Rattle.soy_meaning.specs.Paths.PathParts.{after_text}
use Rattle.soy_meaning.specs.Walks.States.{HasNoRepeats, IsMember, with_state}
use Rattle.soy_meaning.specs.Walks.Walk.{moved_states, states_after_text, states_after_value}
use Rattle.soy_base.proofs.Results.{ok_same}

pub followed_ok : {A B E : Type 0} (r : Result A E) (f : A → Result B E) (b : B) → followed_by r f ≡ Ok b
    → (a : A) × (r ≡ Ok a) × (f a ≡ Ok b)
followed_ok (Ok a) f b h = (a, refl, h)
followed_ok (Err e) f b h = let no : ⊥ = cc in absurd no

pub followed_is : {A B E : Type 0} (r : Result A E) (f : A → Result B E) (a : A) (s : Result B E) → r ≡ Ok a → f a ≡ s
    → followed_by r f ≡ s
followed_is r f a s e h = rw e h

-- `ys` are the results of `f` on `xs`, and nothing else
pub record Maps {S : Type 0} (f : S → Result S Code) (xs ys : List S) : Type 0 where
  pub each : (s : S) → IsMember s xs → (t : S) × (f s ≡ Ok t)
  pub to : (s t : S) → IsMember s xs → f s ≡ Ok t → IsMember t ys
  pub from : (t : S) → IsMember t ys → (s : S) × IsMember s xs × (f s ≡ Ok t)
  pub distinct : HasNoRepeats ys

record Gathers {S : Type 0} (f : S → Result S Code) (done xs ys : List S) : Type 0 where
  pub each : (s : S) → IsMember s xs → (t : S) × (f s ≡ Ok t)
  pub old : (t : S) → IsMember t done → IsMember t ys
  pub to : (s t : S) → IsMember s xs → f s ≡ Ok t → IsMember t ys
  pub from : (t : S) → IsMember t ys → IsMember t done ⊎ ((s : S) × IsMember s xs × (f s ≡ Ok t))
  pub distinct : HasNoRepeats done → HasNoRepeats ys

module _ {S : Type 0} (m : Machine S) (compares : ComparesEqual m) where
  gathers_more : (f : S → Result S Code) (done xs ys : List S) (x y : S) → f x ≡ Ok y
      → Gathers f (with_state m done y) xs ys → Gathers f done (x ∷ xs) ys
  gathers_more f done xs ys x y e g = record {
    each = λ s h. elim h [ inl k ↦ (y, subst (λ u. f u ≡ Ok y) (sym k) e) | inr k ↦ g.each s k ];
    old = λ t h. g.old t (add_old m compares t y done h);
    to = λ s t h k. elim h [
      | inl j ↦ (let same : t ≡ y = ok_same t y (sym k ∙ (ap f j ∙ e)) in subst (λ u. IsMember u ys) (sym same)
          (g.old y (add_new m compares y done)))
      | inr j ↦ g.to s t j k
    ];
    from = λ t h. elim (g.from t h) [
      | inl k ↦ elim (mem_add m compares t y done k) [
        | inl j ↦ inl j
        | inr j ↦
            inr (x, inl refl, e ∙ ap Ok (sym j))
      ]
      | inr k ↦ inr (k.0, inr k.1, k.2)
    ];
    distinct = λ d. g.distinct (distinct_add m compares y done d);
  }

  gathers : (f : S → Result S Code) (done xs ys : List S) → moved_states m f done xs ≡ Ok ys → Gathers f done xs ys
  gathers f done [] ys h =
      let same : done ≡ ys = ok_same done ys h in record {
        each = λ s k. absurd k;
        old = λ t k. subst (λ (l : List S). IsMember t l) same k;
        to = λ s t k j. absurd k;
        from = λ t k. inl (subst (λ (l : List S). IsMember t l) (sym same) k);
        distinct = λ d. subst (λ (l : List S). HasNoRepeats l) same d;
      }
  gathers f done (x ∷ xs) ys h =
      let p : (t : S) × (f x ≡ Ok t) × (moved_states m f (with_state m done t) xs ≡ Ok ys) =
      followed_ok (f x) (λ t. moved_states m f (with_state m done t) xs) ys h in
      gathers_more f done xs ys x p.0 p.1 (gathers f (with_state m done p.0) xs ys p.2)

  pub gather_maps : (f : S → Result S Code) (xs ys : List S) → moved_states m f [] xs ≡ Ok ys → Maps f xs ys
  gather_maps f xs ys h =
      let g : Gathers f [] xs ys = gathers f [] xs ys h in record {
        each = g.each;
        to = g.to;
        from = λ t k. elim (g.from t k) [ inl j ↦ absurd j | inr j ↦ j ];
        distinct = g.distinct tt;
      }

  pub gather_goes : (f : S → Result S Code) (done xs : List S) → ((s : S) → IsMember s xs → (t : S) × (f s ≡ Ok t))
      → (ys : List S) × (moved_states m f done xs ≡ Ok ys)
  gather_goes f done [] all = (done, refl)
  gather_goes f done (x ∷ xs) all =
      let p : (t : S) × (f x ≡ Ok t) = all x (inl refl) in
      let r : (ys : List S) × (moved_states m f (with_state m done p.0) xs ≡ Ok ys) =
      gather_goes f (with_state m done p.0) xs (λ s k. all s (inr k)) in
      (r.0, followed_is (f x) (λ t. moved_states m f (with_state m done t) xs) p.0 (Ok r.0) p.1 r.1)

  pub maps_then : (f g : S → Result S Code) (xs ys zs : List S) → Maps f xs ys → Maps g ys zs
      → Maps (λ s. followed_by (f s) g) xs zs
  maps_then f g xs ys zs a b = record {
    each = λ s h. (let p : (t : S) × (f s ≡ Ok t) = a.each s h in let q : (u : S)
        × (g p.0 ≡ Ok u) = b.each p.0 (a.to s p.0 h p.1) in (q.0, followed_is (f s) g p.0 (Ok q.0) p.1 q.1));
    to = λ s t h k. (let p : (u : S) × (f s ≡ Ok u) × (g u ≡ Ok t) = followed_ok (f s) g t k in
        b.to p.0 t (a.to s p.0 h p.1) p.2);
    from = λ t h. (let q : (u : S) × IsMember u ys × (g u ≡ Ok t) = b.from t h in let p : (s : S) × IsMember s xs
        × (f s ≡ Ok q.0) = a.from q.0 q.1 in (p.0, p.1, followed_is (f p.0) g q.0 (Ok t) p.2 q.2));
    distinct = b.distinct;
  }

  pub follow_maps : (text : List ℕ) (xs ys : List S) → states_after_text m text xs ≡ Ok ys
      → Maps (after_text m text) xs ys
  follow_maps [] xs ys h = gather_maps m.text_end xs ys h
  follow_maps (c ∷ cs) xs ys h =
      let p : (zs : List S) × (moved_states m (λ s. m.step s c) [] xs ≡ Ok zs) × (states_after_text m cs zs ≡ Ok ys) =
      followed_ok (moved_states m (λ s. m.step s c) [] xs) (λ ts. states_after_text m cs ts) ys h in
      maps_then (λ s. m.step s c) (after_text m cs) xs p.0 ys (gather_maps (λ s. m.step s c) xs p.0 p.1)
      (follow_maps cs p.0 ys p.2)

  pub follow_goes : (text : List ℕ) (xs : List S) → ((s : S) → IsMember s xs → (t : S) × (after_text m text s ≡ Ok t))
      → (ys : List S) × (states_after_text m text xs ≡ Ok ys)
  follow_goes [] xs all = gather_goes m.text_end [] xs all
  follow_goes (c ∷ cs) xs all =
      let one : (s : S) → IsMember s xs → (t : S) × (m.step s c ≡ Ok t) =
      λ s h. (let p : (t : S) × (m.step s c ≡ Ok t) × (after_text m cs t ≡ Ok (all s h).0) = followed_ok
      (m.step s c) (λ t. after_text m cs t) (all s h).0 (all s h).1 in (p.0, p.1)) in
      let g : (zs : List S) × (moved_states m (λ s. m.step s c) [] xs ≡ Ok zs) =
      gather_goes (λ s. m.step s c) [] xs one in
      let maps : Maps (λ s. m.step s c) xs g.0 = gather_maps (λ s. m.step s c) xs g.0 g.1 in
      let rest : (s : S) → IsMember s g.0 → (t : S) × (after_text m cs s ≡ Ok t) =
      λ u h. (let b : (s : S) × IsMember s xs × (m.step s c ≡ Ok u) = maps.from u h in
      let p : (t : S) × (m.step b.0 c ≡ Ok t) × (after_text m cs t ≡ Ok (all b.0 b.1).0) =
      followed_ok (m.step b.0 c) (λ t. after_text m cs t) (all b.0 b.1).0 (all b.0 b.1).1 in
      let same : p.0 ≡ u = ok_same p.0 u (sym p.1 ∙ b.2) in
      ((all b.0 b.1).0, subst (λ v. after_text m cs v ≡ Ok (all b.0 b.1).0) same p.2)) in
      let r : (ys : List S) × (states_after_text m cs g.0 ≡ Ok ys) = follow_goes cs g.0 rest in
      (r.0, followed_is (moved_states m (λ s. m.step s c) [] xs) (λ ts. states_after_text m cs ts) g.0 (Ok r.0) g.1 r.1)

  mem_map : (f : S → S) (s : S) (xs : List S) → IsMember s xs → IsMember (f s) (map f xs)
  mem_map f s [] h = absurd h
  mem_map f s (x ∷ xs) (inl e) = inl (ap f e)
  mem_map f s (x ∷ xs) (inr h) = inr (mem_map f s xs h)

  map_mem : (f : S → S) (t : S) (xs : List S) → IsMember t (map f xs) → (s : S) × IsMember s xs × (f s ≡ t)
  map_mem f t [] h = absurd h
  map_mem f t (x ∷ xs) (inl e) = (x, inl refl, sym e)
  map_mem f t (x ∷ xs) (inr h) = let r : (s : S) × IsMember s xs × (f s ≡ t) = map_mem f t xs h in (r.0, inr r.1, r.2)

  pub values_to : (s : S) (xs : List S) → IsMember s xs → IsMember (m.value s) (states_after_value m xs)
  values_to s xs h = join_new m compares (m.value s) [] (map m.value xs) (mem_map m.value s xs h)

  pub values_from : (t : S) (xs : List S) → IsMember t (states_after_value m xs) → (s : S) × IsMember s xs
      × (m.value s ≡ t)
  values_from t xs h = elim (mem_join m compares t [] (map m.value xs) h) [
    | inl k ↦ absurd k
    | inr k ↦
        map_mem m.value t xs k
  ]

  pub values_distinct : (xs : List S) → HasNoRepeats (states_after_value m xs)
  values_distinct xs = distinct_join m compares [] (map m.value xs) tt
