-- The sequences of a line, resolved one after the other.
use Rattle.std.proofs.Common.{◌≡◌, ◌==◌, ℕ, zero, suc, ◌+◌, ◌<◌, ◌≤◌, max, true, false, inl, inr, List, []}
use Rattle.std.proofs.Common.{◌∷◌}
use Rattle.std.proofs.Common.{reverse, take, get_or, length, map, refl, sym, ap, subst, ◌∙◌, arith, Option}
use Rattle.std.proofs.Common.{Some, None}
use Rattle.std.proofs.lemmas.Bool.{both_ways, cases_Bool, eq-eqb, eqb-true}
use Rattle.std.proofs.lemmas.List.{length-replicate}
use Rattle.std.proofs.Math.ListN.{replicate}
use Rattle.std.specs.Option.{is_some}
use Rattle.bidi_class.specs.declared.class.Class.{Class}
use Rattle.bidi_class.specs.declared.brackets.Bracket.{Bracket}
use Rattle.bidi_order.specs.Explicit.{KeptCharacter}
use Rattle.bidi_order.specs.Resolve.{implicit, resolve}
use Rattle.bidi_order.specs.Sequences.{resolved_levels_from, side_class}
use Rattle.bidi_preview.specs.NextCharacter.{character_at, level_behind}
use Rattle.bidi_preview.specs.NeutralSteps.{characters_of}
use Rattle.bidi_preview.specs.SequenceSteps.{BeginsSequence, Chain, IsExplicit, IsInProgress, ResolvedUpTo}
use Rattle.bidi_preview.specs.SequenceSteps.{WritesSequence, bracket_at, class_at, written}
use Rattle.bidi_preview.specs.SequenceSteps.Chain.{chain_end, chain_more}
use Rattle.bidi_preview.proofs.LastOpened.{reverse-take}
use Rattle.bidi_preview.proofs.PairsFound.{none_at}
use Rattle.bidi_preview.proofs.SequenceLevels.{first-unwritten, levels-done, sequence-levels}
use Rattle.bidi_preview.proofs.Written.{kept-within, written-first, written-progress, written-stays}

-- the indexes of a chain are within the line
pub chain_within : (base : ℕ) (X : List (Option KeptCharacter)) (i level : ℕ) (is : List ℕ) → Chain base X i is level
    → (t : ℕ) → t < length is → get_or is t 0 < length X
chain_within base X i level is (chain_end {k = k} here next) zero h = kept-within X i k here
chain_within base X i level is (chain_end {k = k} here next) (suc t) h = absurd (omega (arith, h))
chain_within base X i level is (chain_more {k = k} here next c) zero h = kept-within X i k here
chain_within base X i level is (chain_more {j = j} {indexes = is'} here next c) (suc t) h =
    chain_within base X j level is' c t (omega (arith, h))

pub writes : (base : ℕ) (X : List (Option KeptCharacter)) → IsExplicit base X → (i : ℕ) (k : KeptCharacter)
    (sos eos : ℕ) (is : List ℕ) (given classes : List Class) (brackets : List (Option Bracket))
    (old new : List (Option ℕ)) → character_at X i ≡ Some k → BeginsSequence base X i k sos → Chain base X i is eos
    → given ≡ map (class_at base X) is → brackets ≡ map (bracket_at base X) is
    → map (implicit k.level) classes
    ≡ resolve k.level (side_class (max k.level sos)) (side_class (max k.level eos)) (characters_of given brackets)
    → length classes ≡ length given → new ≡ written is (map (implicit k.level) classes) old
    → WritesSequence base X i old new
writes base X explicit i k sos eos is given classes brackets old new here first c g b resolved long e = record {
  indexes = is;
  values = map (implicit k.level) classes;
  beside = eos;
  chain = c;
  right = sequence-levels base X explicit i k sos eos is classes here first c
      (resolved ∙ ap (λ l. resolve k.level (side_class (max k.level sos)) (side_class (max k.level eos))
      (characters_of l brackets)) g
      ∙ ap (λ l. resolve k.level (side_class (max k.level sos)) (side_class (max k.level eos))
      (characters_of (map (class_at base X) is) l)) b) (long ∙ ap length g ∙ mapped is);
  is = e;
}
  where
    mapped : (is : List ℕ) → length (map (class_at base X) is) ≡ length is
    mapped [] = refl
    mapped (i ∷ is) = ap suc (mapped is)

module _ (base : ℕ) (X : List (Option KeptCharacter)) (i b : ℕ) (levels : List (Option ℕ))
    (r : ResolvedUpTo base X i b levels) where
  behind_kept : (k : KeptCharacter) → character_at X i ≡ Some k → level_behind base (reverse (take (i + 1) X)) ≡ k.level
  behind_kept k here = ap (level_behind base) (reverse-take X i None (kept-within X i k here)
      ∙ ap (λ x. x ∷ reverse (take i X)) here)

  behind_removed : i < length X → character_at X i ≡ None → level_behind base (reverse (take (i + 1) X))
      ≡ level_behind base (reverse (take i X))
  behind_removed h gone = ap (level_behind base) (reverse-take X i None h ∙ ap (λ x. x ∷ reverse (take i X)) gone)

  -- one more index, at which a level stands if a character is kept
  done_more : (new : List (Option ℕ))
      → ((j : ℕ) → is_some (get_or levels j None) ≡ true → is_some (get_or new j None) ≡ true)
      → ((k : KeptCharacter) → character_at X i ≡ Some k → is_some (get_or new i None) ≡ true) → (j : ℕ)
      (k : KeptCharacter) → j < i + 1 → character_at X j ≡ Some k → is_some (get_or new j None) ≡ true
  done_more new stays now j k h here =
      elim (cases_Bool (j == i)) [
        | inl same ↦
            let e : j ≡ i = eqb-true j i same in
            subst (λ n. is_some (get_or new n None) ≡ true) (sym e)
            (now k (subst (λ n. character_at X n ≡ Some k) e here))
        | inr other ↦ stays j (r.done j k (below other) here)
      ]
    where
      below : (j == i) ≡ false → j < i
      below other = let differs : j ≡ i → ⊥ = λ e. both_ways (j == i) other (eq-eqb j i e) in omega arith

  pub up_none : i < length X → character_at X i ≡ None → ResolvedUpTo base X (i + 1) b levels
  up_none h gone = record {
    progress = r.progress;
    done = done_more levels (λ j e. e) (λ k here. absurd (never (sym gone ∙ here)));
    bound = r.bound;
    beside = r.beside ∙ sym (behind_removed h gone);
  }
    where
      never : {k : KeptCharacter} → None ≡ Some k → ⊥
      never e = cc

  pub up_old : (k : KeptCharacter) → character_at X i ≡ Some k → is_some (get_or levels i None) ≡ true
      → k.level ≤ 125 → ResolvedUpTo base X (i + 1) k.level levels
  up_old k here has low = record {
    progress = r.progress;
    done = done_more levels (λ j e. e) (λ q there. has);
    bound = low;
    beside = sym (behind_kept k here);
  }

  pub up_new : (k : KeptCharacter) (new : List (Option ℕ)) → character_at X i ≡ Some k
      → WritesSequence base X i levels new → k.level ≤ 125 → ResolvedUpTo base X (i + 1) k.level new
  up_new k new here w low = record {
    progress = subst (IsInProgress base X) (sym w.is)
        (written-progress base X i w.beside w.indexes w.values levels w.chain w.right r.progress);
    done = done_more new (λ j e. subst (λ l. is_some (get_or l j None) ≡ true) (sym w.is)
        (written-stays w.indexes w.values levels j e)) (λ q there. subst (λ l. is_some (get_or l i None) ≡ true)
        (sym w.is) (written-first base X i w.beside w.indexes w.values levels w.chain w.right r.progress));
    bound = low;
    beside = sym (behind_kept k here);
  }

  pub up_begins : (k : KeptCharacter) → IsExplicit base X → character_at X i ≡ Some k
      → is_some (get_or levels i None) ≡ false → BeginsSequence base X i k b
  up_begins k explicit here none =
      first-unwritten base X explicit levels i k r.progress here none r.done ∙ ap (λ (n : ℕ). ([], n)) (sym r.beside)

  pub up_end : length X ≤ i → levels ≡ resolved_levels_from base [] X
  up_end h = levels-done base X levels r.progress (λ j k here. r.done j k (omega (arith, kept-within X j k here)) here)

pub up_start : (base : ℕ) (X : List (Option KeptCharacter)) (n : ℕ) → n ≡ length X → base ≤ 125
    → ResolvedUpTo base X 0 base (replicate n None)
up_start base X n long low = record {
  progress = record {
    long = length-replicate n None ∙ long;
    right = λ i level e. absurd (never (sym (none_at n i) ∙ e));
    closed = λ i j k here h goes. absurd (both_ways false refl (sym (ap is_some (none_at n i)) ∙ h));
  };
  done = λ j k h. absurd (omega (arith, h));
  bound = low;
  beside = refl;
}
  where
    never : {v : ℕ} → None ≡ Some v → ⊥
    never e = cc

pub never_none : (base : ℕ) (X : List (Option KeptCharacter)) (i : ℕ) (old new : List (Option ℕ))
    → is_some (character_at X i) ≡ true → character_at X i ≡ None → WritesSequence base X i old new
never_none base X i old new some gone = absurd (both_ways (is_some (character_at X i)) (ap is_some gone) some)
