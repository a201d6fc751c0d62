-- The levels of a sequence that is read once: those of each of its characters.
use Rattle.std.proofs.Common.{◌≡◌, ℕ, zero, suc, ◌+◌, ◌<◌, max, true, false, inl, inr, List, [], ◌∷◌, ◌++◌}
use Rattle.std.proofs.Common.{reverse, take, drop, get_or, length, map, refl, sym, ap, subst, ◌∙◌, append_assoc}
use Rattle.std.proofs.Common.{arith}
use Rattle.std.proofs.Common.{length-append, Option, Some, None}
use Rattle.std.proofs.lemmas.Bool.{both_ways}
use Rattle.std.proofs.lemmas.List.{append-nil, length-take-le, reverse-append, take-append-drop}
use Rattle.std.proofs.Math.Seq.{drop-append-add, drop-cons, get_or-append_seam, take-append_seam}
use Rattle.std.specs.Option.{is_some}
use Rattle.bidi_class.specs.declared.class.Class.{Class}
use Rattle.bidi_class.specs.declared.class.Class.TheVariants.{ON}
use Rattle.bidi_order.specs.DirectionalStatus.{initial_status}
use Rattle.bidi_order.specs.Explicit.{KeptCharacter, SequenceCharacter, explicit_from}
use Rattle.bidi_order.specs.Resolve.{implicit, resolve}
use Rattle.bidi_order.specs.Sequences.{resolved_level, resolved_levels_from, side_class}
use Rattle.bidi_preview.specs.NextCharacter.{character_at, level_at, level_behind, next_character}
use Rattle.bidi_preview.specs.NextCharacter.NextCharacter.{GoesOn, Ends}
use Rattle.bidi_preview.specs.NeutralSteps.{characters_of}
use Rattle.bidi_preview.specs.SequenceSteps.{AreLevels, Chain, HasLevel, IsExplicit, IsInProgress, bracket_at}
use Rattle.bidi_preview.specs.SequenceSteps.{class_at}
use Rattle.bidi_preview.specs.SequenceSteps.Chain.{chain_end, chain_more}
use Rattle.bidi_preview.proofs.Neighbours.{SeesSequence, after_in, before_in, level-seen, sees-next}
use Rattle.bidi_preview.proofs.NextCharacters.{ComesFrom, NextAt, begins, ends_at, goes_on}
use Rattle.bidi_preview.specs.SequenceSteps.AreLevels.{levels_end, levels_more}
use Rattle.bidi_preview.proofs.Written.{kept-within}

-- a line around one of its characters
line_cut : (X : List (Option KeptCharacter)) (i : ℕ) (k : KeptCharacter) → character_at X i ≡ Some k
    → X ≡ take i X ++ Some k ∷ drop (suc i) X
line_cut X i k here =
    sym (take-append-drop i X) ∙ ap (λ l. take i X ++ l) (drop-cons X i None (kept-within X i k here)
    ∙ ap (λ x. x ∷ drop (suc i) X) here)

front_long : (X : List (Option KeptCharacter)) (i : ℕ) (k : KeptCharacter) → character_at X i ≡ Some k
    → length (take i X) ≡ i
front_long X i k here = let within : i < length X = kept-within X i k here in length-take-le i X (omega arith)

-- what a character of a sequence is
abbrev resolved_at : List (Option KeptCharacter) → ℕ → ℕ → SequenceCharacter
resolved_at X base i = record { class = class_at base X i; bracket = bracket_at base X i }

characters-map : (X : List (Option KeptCharacter)) (base : ℕ) (is : List ℕ)
    → characters_of (map (class_at base X) is) (map (bracket_at base X) is) ≡ map (resolved_at X base) is
characters-map X base [] = refl
characters-map X base (i ∷ is) = ap (λ l. resolved_at X base i ∷ l) (characters-map X base is)

resolved-here : (X : List (Option KeptCharacter)) (base i : ℕ) (k : KeptCharacter) → character_at X i ≡ Some k
    → resolved_at X base i ≡ k.resolved
resolved-here X base i k here =
    let by : Option KeptCharacter → SequenceCharacter = λ o. record {
      class = elim o [ None ↦ ON | Some k ↦ k.resolved.class ];
      bracket = elim o [ None ↦ None | Some k ↦ k.resolved.bracket ];
    } in
    ap by here

some_is : {A : Type 0} {x y : A} → Some x ≡ Some y → x ≡ y
some_is e = cc

-- a list from an index on
first-is : (v : ℕ) (vs : List ℕ) (index : ℕ) (xs : List ℕ) → v ∷ vs ≡ drop index xs → v ≡ get_or xs index 0
first-is v vs zero [] e = absurd (cc)
first-is v vs zero (x ∷ xs) e = cc
first-is v vs (suc index) [] e = absurd (cc)
first-is v vs (suc index) (x ∷ xs) e = first-is v vs index xs e

rest-is : (v : ℕ) (vs : List ℕ) (index : ℕ) (xs : List ℕ) → v ∷ vs ≡ drop index xs → vs ≡ drop (suc index) xs
rest-is v vs zero [] e = absurd (cc)
rest-is v vs zero (x ∷ xs) e = cc
rest-is v vs (suc index) [] e = absurd (cc)
rest-is v vs (suc index) (x ∷ xs) e = rest-is v vs index xs e

module _ (base : ℕ) (X : List (Option KeptCharacter)) (explicit : IsExplicit base X) where
  module _ (i : ℕ) (k : KeptCharacter) (here : character_at X i ≡ Some k) where
    explicit_cut : explicit_from (initial_status base) explicit.text ≡ take i X ++ Some k ∷ drop (suc i) X
    explicit_cut = sym explicit.is ∙ line_cut X i k here

    next_is : next_character base (take i X ++ Some k ∷ drop (suc i) X) (length (take i X)) k
        ≡ next_character base X i k
    next_is = sym (ap (λ Y. next_character base Y (length (take i X)) k) (line_cut X i k here))
        ∙ ap (λ n. next_character base X n k) (front_long X i k here)

    pub next_at : (j : ℕ) → next_character base X i k ≡ GoesOn j → NextAt base (take i X) k (drop (suc i) X) j
    next_at j goes = goes_on base (initial_status base) explicit.text (take i X) k (drop (suc i) X) explicit_cut j
        (next_is ∙ goes)

    after_ends : (level : ℕ) → next_character base X i k ≡ Ends level → after_in base k (drop (suc i) X) ≡ ([], level)
    after_ends level ends = ends_at base (initial_status base) explicit.text (take i X) k (drop (suc i) X) explicit_cut
        level (next_is ∙ ends)

    -- the line around the next character
    module _ (j : ℕ) (n : NextAt base (take i X) k (drop (suc i) X) j) where
      around : X ≡ (take i X ++ Some k ∷ n.between) ++ Some n.next ∷ n.rest
      around = line_cut X i k here ∙ ap (λ l. take i X ++ Some k ∷ l) n.is
          ∙ sym (append_assoc (take i X) (Some k ∷ n.between) (Some n.next ∷ n.rest))

      front_is : length (take i X ++ Some k ∷ n.between) ≡ j
      front_is = omega (arith, length-append (take i X) (Some k ∷ n.between), n.index)

      pub next_later : i < j
      next_later = omega (arith, n.index, front_long X i k here)

      pub next_here : character_at X j ≡ Some n.next
      next_here = ap (λ m. get_or X m None) (sym front_is)
          ∙ ap (λ l. get_or l (length (take i X ++ Some k ∷ n.between)) None) around
          ∙ get_or-append_seam (take i X ++ Some k ∷ n.between) (Some n.next) n.rest None

      before_next : reverse (take j X) ≡ reverse n.between ++ Some k ∷ reverse (take i X)
      before_next = ap (λ m. reverse (take m X)) (sym front_is)
          ∙ ap (λ l. reverse (take (length (take i X ++ Some k ∷ n.between)) l)) around
          ∙ ap reverse (take-append_seam (take i X ++ Some k ∷ n.between) (Some n.next ∷ n.rest))
          ∙ reverse-append (take i X) (Some k ∷ n.between)
          ∙ ap (λ l. l ++ reverse (take i X)) (reverse-append (Some k ∷ []) n.between)
          ∙ append_assoc (reverse n.between) (Some k ∷ []) (reverse (take i X))

      one_more : (m : ℕ) → suc m ≡ m + 1
      one_more m = omega arith

      after_next : drop (suc j) X ≡ n.rest
      after_next = ap (λ m. drop (suc m) X) (sym front_is)
          ∙ ap (drop (suc (length (take i X ++ Some k ∷ n.between)))) around
          ∙ ap (λ m. drop m ((take i X ++ Some k ∷ n.between) ++ Some n.next ∷ n.rest))
          (one_more (length (take i X ++ Some k ∷ n.between)))
          ∙ drop-append-add (take i X ++ Some k ∷ n.between) (Some n.next ∷ n.rest) 1

  -- what comes after a character of a chain
  pub record Follows (k : KeptCharacter) (i : ℕ) (is : List ℕ) (level : ℕ) : Type 0 where
    pub rest : k.resolved ∷ (after_in base k (drop (suc i) X)).0 ≡ map (resolved_at X base) is
    pub beside : (after_in base k (drop (suc i) X)).1 ≡ level

  chain-follows : (i level : ℕ) (is : List ℕ) → Chain base X i is level → (k : KeptCharacter) → character_at X i
      ≡ Some k
      → Follows k i is level
  chain-follows i level is (chain_end {k = q} here next) k there =
      let same : q ≡ k = some_is (sym here ∙ there) in
      let after : after_in base k (drop (suc i) X) ≡ ([], level) =
      after_ends i k there level (ap (next_character base X i) (sym same) ∙ next) in
      record {
        rest = ap (λ (a : List SequenceCharacter × ℕ). k.resolved ∷ a.0) after
            ∙ ap (λ r. r ∷ []) (sym (resolved-here X base i k there));
        beside = ap (λ (a : List SequenceCharacter × ℕ). a.1) after;
      }
  chain-follows i level is (chain_more {j = j} {k = q} {indexes = is'} here next c) k there =
      let same : q ≡ k = some_is (sym here ∙ there) in
      let n : NextAt base (take i X) k (drop (suc i) X) j =
      next_at i k there j (ap (next_character base X i) (sym same) ∙ next) in
      let more : Follows n.next j is' level = chain-follows j level is' c n.next (next_here i k there j n) in
      let ahead : after_in base k (drop (suc i) X)
      ≡ (n.next.resolved ∷ (after_in base n.next n.rest).0, (after_in base n.next n.rest).1) =
      ap (after_in base k) n.is ∙ n.neighbours.ahead in
      record {
        rest = ap (λ (a : List SequenceCharacter × ℕ). k.resolved ∷ a.0) ahead
            ∙ ap (λ l. k.resolved ∷ (n.next.resolved ∷ (after_in base n.next l).0)) (sym (after_next i k there j n))
            ∙ ap (λ l. k.resolved ∷ l) more.rest
            ∙ ap (λ r. r ∷ map (resolved_at X base) is') (sym (resolved-here X base i k there));
        beside = ap (λ (a : List SequenceCharacter × ℕ). a.1) ahead
            ∙ ap (λ l. (after_in base n.next l).1) (sym (after_next i k there j n)) ∙ more.beside;
      }

  -- the first value is the level here
  here-level : (i : ℕ) (k : KeptCharacter) → character_at X i ≡ Some k → (of sos eos : ℕ)
      (whole : List SequenceCharacter) (index : ℕ)
      → SeesSequence base (reverse (take i X)) k (drop (suc i) X) of sos eos whole index → (v : ℕ) (vs : List ℕ)
      → v ∷ vs ≡ drop index (resolve of (side_class (max of sos)) (side_class (max of eos)) whole)
      → HasLevel base X i v
  here-level i k there of sos eos whole index s v vs e = record {
    character = k;
    here = there;
    is = first-is v vs index (resolve of (side_class (max of sos)) (side_class (max of eos)) whole) e
        ∙ sym (level-seen base (reverse (take i X)) k (drop (suc i) X) of sos eos whole index s);
  }

  -- the levels along a chain, where its first character sees a sequence
  chain-levels : (i level : ℕ) (is : List ℕ) → Chain base X i is level → (k : KeptCharacter)
      → character_at X i ≡ Some k → (of sos eos : ℕ) (whole : List SequenceCharacter) (index : ℕ)
      → SeesSequence base (reverse (take i X)) k (drop (suc i) X) of sos eos whole index → (vs : List ℕ)
      → vs ≡ drop index (resolve of (side_class (max of sos)) (side_class (max of eos)) whole)
      → length vs ≡ length is → AreLevels base X is vs
  chain-levels i level is (chain_end here next) k there of sos eos whole index s [] e long = absurd (omega arith)
  chain-levels i level is (chain_end here next) k there of sos eos whole index s (v ∷ []) e long =
      levels_more (here-level i k there of sos eos whole index s v [] e) levels_end
  chain-levels i level is (chain_end here next) k there of sos eos whole index s (v ∷ w ∷ vs) e long =
      absurd (omega arith)
  chain-levels i level is (chain_more here next c) k there of sos eos whole index s [] e long = absurd (omega arith)
  chain-levels i level is (chain_more {j = j} {k = q} {indexes = is'} here next c) k there of sos eos whole index s
      (v ∷ vs) e long =
      let same : q ≡ k = some_is (sym here ∙ there) in
      let n : NextAt base (take i X) k (drop (suc i) X) j =
      next_at i k there j (ap (next_character base X i) (sym same) ∙ next) in
      let sees : SeesSequence base (reverse n.between ++ Some k ∷ reverse (take i X)) n.next n.rest of sos eos whole
      (suc index) =
      sees-next base (reverse (take i X)) k n.between n.next n.rest of sos eos whole index n.neighbours
      (subst (λ l. SeesSequence base (reverse (take i X)) k l of sos eos whole index) n.is s) in
      levels_more (here-level i k there of sos eos whole index s v vs e)
      (chain-levels j level is' c n.next (next_here i k there j n) of sos eos whole (suc index)
      (subst (λ l. SeesSequence base l n.next (drop (suc j) X) of sos eos whole (suc index))
      (sym (before_next i k there j n))
      (subst (λ l. SeesSequence base (reverse n.between ++ Some k ∷ reverse (take i X)) n.next l of sos eos whole
      (suc index)) (sym (after_next i k there j n)) sees)) vs
      (rest-is v vs index (resolve of (side_class (max of sos)) (side_class (max of eos)) whole) e) (omega arith))

  -- the levels of a sequence from its first character on
  pub sequence-levels : (i : ℕ) (k : KeptCharacter) (sos eos : ℕ) (is : List ℕ) (classes : List Class)
      → character_at X i ≡ Some k → before_in base (reverse (take i X)) k ≡ ([], sos) → Chain base X i is eos
      → map (implicit k.level) classes ≡ resolve k.level (side_class (max k.level sos)) (side_class (max k.level eos))
      (characters_of (map (class_at base X) is) (map (bracket_at base X) is)) → length classes ≡ length is
      → AreLevels base X is (map (implicit k.level) classes)
  sequence-levels i k sos eos is classes here first c resolved long =
      let f : Follows k i is eos = chain-follows i eos is c k here in
      let whole : List SequenceCharacter = characters_of (map (class_at base X) is) (map (bracket_at base X) is) in
      chain-levels i eos is c k here k.level sos eos whole 0 (record {
        level_is = refl;
        sos_is = ap (λ (b : List SequenceCharacter × ℕ). b.1) first;
        eos_is = f.beside;
        whole_is = ap (λ (b : List SequenceCharacter × ℕ). reverse b.0 ++ k.resolved
            ∷ (after_in base k (drop (suc i) X)).0) first ∙ f.rest ∙ sym (characters-map X base is);
        index_is = ap (λ (b : List SequenceCharacter × ℕ). length b.0) first;
      }) (map (implicit k.level) classes) resolved (mapped classes ∙ long)
    where
      mapped : (cs : List Class) → length (map (implicit k.level) cs) ≡ length cs
      mapped [] = refl
      mapped (c ∷ cs) = ap suc (mapped cs)

  -- a character without a level is the first of its sequence, where all before it have one
  pub first-unwritten : (levels : List (Option ℕ)) (i : ℕ) (k : KeptCharacter) → IsInProgress base X levels
      → character_at X i ≡ Some k → is_some (get_or levels i None) ≡ false
      → ((j : ℕ) (q : KeptCharacter) → j < i → character_at X j ≡ Some q → is_some (get_or levels j None) ≡ true)
      → before_in base (reverse (take i X)) k ≡ ([], level_behind base (reverse (take i X)))
  first-unwritten levels i k p here none done =
      elim (begins base (initial_status base) explicit.text (take i X) k (drop (suc i) X) (explicit_cut i k here)) [
        | inl first ↦ first
        | inr from ↦ absurd (both_ways (is_some (get_or levels i None)) none (reached from))
      ]
    where
      near_here : (f : ComesFrom base (initial_status base) explicit.text (take i X) k (drop (suc i) X)
          (explicit_cut i k here)) → character_at X (length f.prefix) ≡ Some f.near
      near_here f = ap (λ l. get_or l (length f.prefix) None) (line_cut X i k here
          ∙ ap (λ l. l ++ Some k ∷ drop (suc i) X) f.before_is
          ∙ append_assoc f.prefix (Some f.near ∷ f.between) (Some k ∷ drop (suc i) X))
          ∙ get_or-append_seam f.prefix (Some f.near) (f.between ++ Some k ∷ drop (suc i) X) None

      goes : (f : ComesFrom base (initial_status base) explicit.text (take i X) k (drop (suc i) X)
          (explicit_cut i k here)) → next_character base X (length f.prefix) f.near ≡ GoesOn i
      goes f = ap (λ l. next_character base l (length f.prefix) f.near) (line_cut X i k here) ∙ f.goes
          ∙ ap GoesOn (front_long X i k here)

      below : (f : ComesFrom base (initial_status base) explicit.text (take i X) k (drop (suc i) X)
          (explicit_cut i k here)) → length f.prefix < i
      below f = omega (
        arith,
        ap length f.before_is,
        length-append f.prefix (Some f.near ∷ f.between),
        front_long X i k here,
      )

      reached : ComesFrom base (initial_status base) explicit.text (take i X) k (drop (suc i) X) (explicit_cut i k here)
          → is_some (get_or levels i None) ≡ true
      reached f = p.closed (length f.prefix) i f.near (near_here f)
          (done (length f.prefix) f.near (below f) (near_here f)) (goes f)

-- ---- all levels

-- a level by what stands at an index
abbrev level_of : ℕ → List (Option KeptCharacter) → List (Option KeptCharacter) → Option KeptCharacter → Option ℕ
level_of base back rest None = None
level_of base back rest (Some k) = Some (resolved_level base back k rest)

levels-get : (base : ℕ) (back R : List (Option KeptCharacter)) (j : ℕ)
    → get_or (resolved_levels_from base back R) j None
    ≡ level_of base (reverse (take j R) ++ back) (drop (suc j) R) (get_or R j None)
levels-get base back [] j = refl
levels-get base back (None ∷ R) zero = refl
levels-get base back (Some k ∷ R) zero = refl
levels-get base back (None ∷ R) (suc j) = levels-get base (None ∷ back) R j
    ∙ ap (λ l. level_of base l (drop (suc j) R) (get_or R j None)) (sym (turned None (take j R) back))
  where
    turned : (x : Option KeptCharacter) (F back : List (Option KeptCharacter))
        → reverse (x ∷ F) ++ back ≡ reverse F ++ x ∷ back
    turned x F back = ap (λ l. l ++ back) (reverse-append (x ∷ []) F) ∙ append_assoc (reverse F) (x ∷ []) back
levels-get base back (Some k ∷ R) (suc j) = levels-get base (Some k ∷ back) R j
    ∙ ap (λ l. level_of base l (drop (suc j) R) (get_or R j None)) (sym (turned (Some k) (take j R) back))
  where
    turned : (x : Option KeptCharacter) (F back : List (Option KeptCharacter))
        → reverse (x ∷ F) ++ back ≡ reverse F ++ x ∷ back
    turned x F back = ap (λ l. l ++ back) (reverse-append (x ∷ []) F) ∙ append_assoc (reverse F) (x ∷ []) back

pub levels-long : (base : ℕ) (back R : List (Option KeptCharacter)) → length (resolved_levels_from base back R)
    ≡ length R
levels-long base back [] = refl
levels-long base back (None ∷ R) = ap suc (levels-long base (None ∷ back) R)
levels-long base back (Some k ∷ R) = ap suc (levels-long base (Some k ∷ back) R)

same_lists : (xs ys : List (Option ℕ)) → length xs ≡ length ys
    → ((j : ℕ) → get_or xs j None ≡ get_or ys j None) → xs ≡ ys
same_lists [] [] long h = refl
same_lists [] (y ∷ ys) long h = absurd (omega arith)
same_lists (x ∷ xs) [] long h = absurd (omega arith)
same_lists (x ∷ xs) (y ∷ ys) long h =
    ap (λ z. z ∷ xs) (h 0) ∙ ap (λ l. y ∷ l) (same_lists xs ys (omega arith) (λ j. h (suc j)))

-- where each kept character has a level, all of them are right
pub levels-done : (base : ℕ) (X : List (Option KeptCharacter)) (levels : List (Option ℕ)) → IsInProgress base X levels
    → ((j : ℕ) (q : KeptCharacter) → character_at X j ≡ Some q → is_some (get_or levels j None) ≡ true)
    → levels ≡ resolved_levels_from base [] X
levels-done base X levels p done =
    same_lists levels (resolved_levels_from base [] X) (p.long ∙ sym (levels-long base [] X)) (λ j.
    at j (get_or X j None) refl (get_or levels j None) refl
    ∙ ap (λ l. level_of base l (drop (suc j) X) (get_or X j None)) (sym (append-nil (reverse (take j X))))
    ∙ sym (levels-get base [] X j))
  where
    at : (j : ℕ) (x : Option KeptCharacter) → get_or X j None ≡ x → (v : Option ℕ) → get_or levels j None ≡ v
        → get_or levels j None ≡ level_of base (reverse (take j X)) (drop (suc j) X) (get_or X j None)
    at j None none None e = e ∙ ap (level_of base (reverse (take j X)) (drop (suc j) X)) (sym none)
    at j None none (Some v) e =
        let has : HasLevel base X j v = p.right j v e in
        absurd (never (sym none ∙ has.here))
      where
        never : {k : KeptCharacter} → None ≡ Some k → ⊥
        never e = cc
    at j (Some k) some None e = absurd (both_ways false refl (sym (ap is_some e) ∙ done j k some))
    at j (Some k) some (Some v) e =
        let has : HasLevel base X j v = p.right j v e in
        let same : has.character ≡ k = some_is (sym has.here ∙ some) in
        e ∙ ap Some (has.is ∙ ap (level_at base X j) same)
        ∙ ap (level_of base (reverse (take j X)) (drop (suc j) X)) (sym some)
