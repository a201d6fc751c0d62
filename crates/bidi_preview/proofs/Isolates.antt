-- What stands in an isolate of a line, by indexes: an initiator and the PDI that matches have one level, and all that
-- stands between them has higher levels, or all of it has that level too.
use Rattle.std.proofs.Common.{◌≡◌, ℕ, zero, suc, ◌+◌, true, false, ◌⊎◌, inl, inr, List, [], ◌∷◌, ◌++◌, map}
use Rattle.std.proofs.Common.{length}
use Rattle.std.proofs.Common.{refl, sym, ap, subst, ◌∙◌, arith, Option, Some, None}
use Rattle.std.proofs.lemmas.Bool.{cases_Bool}
use Rattle.bidi_class.specs.Class.{bidi_class}
use Rattle.bidi_class.specs.Pairs.{is_initiator, is_closing}
use Rattle.bidi_order.specs.DirectionalStatus.{DirectionalStatus, ExplicitAct, status_after}
use Rattle.bidi_order.specs.DirectionalStatus.ExplicitAct.{Embeds, Isolates, EndsIsolate, EndsEmbedding}
use Rattle.bidi_order.specs.Explicit.{IsolateRole, KeptCharacter, explicit_character, act_of_character, explicit_from}
use Rattle.bidi_order.specs.Explicit.IsolateRole.{Initiates, Terminates, Neither}
use Rattle.bidi_order.proofs.FollowedSequences.{Within}
use Rattle.bidi_order.proofs.RestoredStatus.{Matched, Other, act_of_class-begins, act_of_class-ends}
use Rattle.bidi_order.proofs.RestoredStatus.{act_of_class-other}
use Rattle.bidi_order.proofs.RestoredStatus.{opening, closing}
use Rattle.bidi_order.proofs.RestoredStatus.Matched.{matched_end, matched_opens, matched_ends, matched_plain}
use Rattle.bidi_order.proofs.RestoredStatus.Other.{other_embeds, other_pops, other_drops, other_stands}
use Rattle.bidi_preview.specs.NextCharacter.{closing_from}
use Rattle.bidi_preview.proofs.OverflowIsolates.{AllAt, Isolate, isolate}
use Rattle.bidi_preview.proofs.OverflowIsolates.Isolate.{of_valid, of_overflow}

-- a text up to the character that ends so many open isolates and one more
pub record Split (a n : ℕ) (cs : List ℕ) (j : ℕ) : Type 0 where
  pub inside : List ℕ
  pub end : ℕ
  pub rest : List ℕ
  pub is : cs ≡ inside ++ end ∷ rest
  pub ends : is_closing end ≡ true
  pub matched : Matched n inside
  pub index : j ≡ a + length inside

split-more : {a n m j : ℕ} (c : ℕ) (cs : List ℕ) → ((v : List ℕ) → Matched m v → Matched n (c ∷ v))
    → Split (suc a) m cs j → Split a n (c ∷ cs) j
split-more c cs more s = record {
  inside = c ∷ s.inside;
  end = s.end;
  rest = s.rest;
  is = ap (λ l. c ∷ l) s.is;
  ends = s.ends;
  matched = more s.inside s.matched;
  index = omega (arith, s.index);
}

abbrev Splits : List ℕ → Type 0
Splits cs = (s : DirectionalStatus) (a n j : ℕ) → closing_from a n (explicit_from s cs) ≡ Some j → Split a n cs j

-- the end in the explicit characters, after an act
abbrev end_after : ℕ → List ℕ → DirectionalStatus → ℕ → ℕ → ExplicitAct → Option ℕ
end_after c cs s a n act = closing_from a n (explicit_character c act s ∷ explicit_from (status_after act s) cs)

split-other : (c : ℕ) (cs : List ℕ) (act : ExplicitAct) → Other act → Splits cs → (s : DirectionalStatus) (a n j : ℕ)
    → end_after c cs s a n act ≡ Some j → Split (suc a) n cs j
split-other c cs act (other_embeds b o) more s a n j h = more (status_after (Embeds b o) s) (suc a) n j h
split-other c cs act other_pops more s a n j h = more (status_after EndsEmbedding s) (suc a) n j h
split-other c cs act other_drops more s a n j h = more s (suc a) n j h
split-other c cs act other_stands more s a n j h = more s (suc a) n j h

some_is : {A : Type 0} (x y : A) → Some x ≡ Some y → x ≡ y
some_is x y e = cc

split-ends : (c : ℕ) (cs : List ℕ) → is_closing c ≡ true → Splits cs → (s : DirectionalStatus) (a n j : ℕ)
    → end_after c cs s a n EndsIsolate ≡ Some j → Split a n (c ∷ cs) j
split-ends c cs e more s a zero j h = record {
  inside = [];
  end = c;
  rest = cs;
  is = refl;
  ends = e;
  matched = matched_end;
  index = let same : a ≡ j = some_is a j h in omega arith;
}
split-ends c cs e more s a (suc n) j h =
    split-more c cs (λ v m. matched_ends e m) (more (status_after EndsIsolate s) (suc a) n j h)

pub split : (cs : List ℕ) → Splits cs
split [] s a n j h = absurd (never j h)
  where
    never : (j : ℕ) → None ≡ Some j → ⊥
    never j e = cc
split (c ∷ cs) s a n j h =
    elim (cases_Bool (is_initiator c)) [
      | inl b ↦
          let does = act_of_class-begins (bidi_class c) (map bidi_class cs) b in
          split-more c cs (λ v m. matched_opens b m) (split cs (status_after (Isolates does.0) s) (suc a) (suc n) j
          (sym (ap (end_after c cs s a n) does.1) ∙ h))
      | inr b ↦
          elim (cases_Bool (is_closing c)) [
            | inl e ↦ split-ends c cs e (split cs) s a n j
                (sym (ap (end_after c cs s a n) (act_of_class-ends (bidi_class c) (map bidi_class cs) e)) ∙ h)
            | inr e ↦ split-more c cs (λ v m. matched_plain b e m)
                (split-other c cs (act_of_character c cs)
                (act_of_class-other (bidi_class c) (map bidi_class cs) b e) (split cs) s a n j h)
          ]
    ]

-- an initiator of a line, and the PDI that matches
pub record Pair (k : KeptCharacter) (rest : List (Option KeptCharacter)) (a j : ℕ) : Type 0 where
  pub inside : List (Option KeptCharacter)
  pub end : KeptCharacter
  pub after : List (Option KeptCharacter)
  pub is : rest ≡ inside ++ Some end ∷ after
  pub index : j ≡ a + length inside
  pub opens : k.role ≡ Initiates
  pub ends : end.role ≡ Terminates
  pub same : k.level ≡ end.level
  pub within : Within k.level 0 inside ⊎ AllAt k.level inside

-- the parts of an isolate that begins a list
pair_of : (s : DirectionalStatus) (c p : ℕ) (v back : List ℕ) (a j : ℕ) → Isolate s c p v back → j ≡ a + length v
    → (k : KeptCharacter) (rest : List (Option KeptCharacter)) → explicit_from s (c ∷ (v ++ p ∷ back)) ≡ Some k ∷ rest
    → Pair k rest a j
unfolding opening closing
pair_of s c p v back a j (of_valid i) e k rest is =
    let first : opening s ≡ k = cc in
    let others : i.slots ++ Some (closing s) ∷ explicit_from s back ≡ rest = cc in
    record {
      inside = i.slots;
      end = closing s;
      after = explicit_from s back;
      is = sym others;
      index = omega (arith, i.long);
      opens = sym (ap (λ (k : KeptCharacter). k.role) first);
      ends = refl;
      same = sym (ap (λ (k : KeptCharacter). k.level) first);
      within = inl (subst (λ l. Within l 0 i.slots) (ap (λ (k : KeptCharacter). k.level) first) i.within);
    }
pair_of s c p v back a j (of_overflow i) e k rest is =
    let first : opening s ≡ k = cc in
    let others : i.slots ++ Some (closing s) ∷ explicit_from s back ≡ rest = cc in
    record {
      inside = i.slots;
      end = closing s;
      after = explicit_from s back;
      is = sym others;
      index = omega (arith, i.long);
      opens = sym (ap (λ (k : KeptCharacter). k.role) first);
      ends = refl;
      same = sym (ap (λ (k : KeptCharacter). k.level) first);
      within = inr (subst (λ l. AllAt l i.slots) (ap (λ (k : KeptCharacter). k.level) first) i.flat);
    }

abbrev role_of : Option KeptCharacter → IsolateRole
role_of None = Neither
role_of (Some k) = k.role

-- a kept character that initiates is an initiator
never_initiates : (c : ℕ) (cs : List ℕ) (s : DirectionalStatus) (k : KeptCharacter) → is_initiator c ≡ false
    → explicit_character c (act_of_character c cs) s ≡ Some k → k.role ≡ Initiates → ⊥
never_initiates c cs s k b is opens =
    elim (cases_Bool (is_closing c)) [
      | inl e ↦ by_ends (sym (ap (λ act. explicit_character c act s)
          (act_of_class-ends (bidi_class c) (map bidi_class cs) e)) ∙ is)
      | inr e ↦ by_other (act_of_character c cs) (act_of_class-other (bidi_class c) (map bidi_class cs) b e) is
    ]
  where
    by_ends : explicit_character c EndsIsolate s ≡ Some k → ⊥
    by_ends h = let role : Terminates ≡ k.role = ap role_of h in cc

    by_other : (act : ExplicitAct) → Other act → explicit_character c act s ≡ Some k → ⊥
    by_other act (other_embeds b o) h = cc
    by_other act other_pops h = cc
    by_other act other_drops h = cc
    by_other act other_stands h = let role : Neither ≡ k.role = ap role_of h in cc

-- the isolate of an initiator in a line
pub pair_at : (s : DirectionalStatus) (line : List ℕ) (A : List (Option KeptCharacter)) (k : KeptCharacter)
    (rest : List (Option KeptCharacter)) (a j : ℕ) → explicit_from s line ≡ A ++ Some k ∷ rest → k.role ≡ Initiates
    → closing_from a 0 rest ≡ Some j → Pair k rest a j
pair_at s [] [] k rest a j is opens h = absurd (cc)
pair_at s [] (x ∷ A) k rest a j is opens h = absurd (cc)
pair_at s (c ∷ cs) [] k rest a j is opens h =
    let first : explicit_character c (act_of_character c cs) s ≡ Some k = cc in
    let others : explicit_from (status_after (act_of_character c cs) s) cs ≡ rest = cc in
    elim (cases_Bool (is_initiator c)) [
      | inl b ↦
          let cut : Split a 0 cs j = split cs (status_after (act_of_character c cs) s) a 0 j
          (ap (closing_from a 0) others ∙ h) in
          pair_of s c cut.end cut.inside cut.rest a j
          (isolate s c cut.end cut.inside cut.rest b cut.ends cut.matched) cut.index k rest
          (sym (ap (λ l. explicit_from s (c ∷ l)) cut.is) ∙ is)
      | inr b ↦ absurd (never_initiates c cs s k b first opens)
    ]
pair_at s (c ∷ cs) (x ∷ A) k rest a j is opens h =
    let others : explicit_from (status_after (act_of_character c cs) s) cs ≡ A ++ Some k ∷ rest = cc in
    pair_at (status_after (act_of_character c cs) s) cs A k rest a j others opens h
