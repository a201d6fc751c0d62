-- After an isolate that begins within the limit the status is what it was before, and each character inside has a
-- higher level.
use Rattle.std.proofs.Common.{◌≡◌, ℕ, zero, suc, ◌+◌, ◌<◌, ◌≤◌, Bool, true, false, ◌==◌, ◌&&◌, nat_lt, nat_le, inl, inr}
use Rattle.std.proofs.Common.{List, [], ◌∷◌, ◌++◌, map, length, refl, sym, ap, subst, ◌∙◌, arith, if◌then◌else◌, Option}
use Rattle.std.proofs.Common.{Some, None}
use Rattle.std.proofs.lemmas.Bool.{cond-true, cond-false, cases_Bool, cases_lt, both_ways, eqb-true, and_parts}
use Rattle.std.proofs.lemmas.Bool.{and_from, le-leb, leb-true, lt-ltb, le-ltb}
use Rattle.std.specs.Option.{option_map_or}
use Rattle.bidi_class.specs.declared.class.Class.{Class}
use Rattle.bidi_class.specs.declared.class.Class.TheVariants.{L, R, AL, LRE, LRO, RLE, RLO, PDF, LRI, RLI, FSI, PDI, BN}
use Rattle.bidi_class.specs.Class.{bidi_class, begins_isolate}
use Rattle.bidi_class.specs.Pairs.{ends_isolate, is_initiator, is_closing}
use Rattle.bidi_order.specs.DirectionalStatus.{StatusEntry, DirectionalStatus, top_entry, last_entry, strong_class}
use Rattle.bidi_order.specs.DirectionalStatus.{is_odd, next_level, ExplicitAct, begins_right_to_left, act_of_class}
use Rattle.bidi_order.specs.DirectionalStatus.{has_room, isolate_popped, embedding_popped, status_after}
use Rattle.bidi_order.specs.DirectionalStatus.{is_within_depth}
use Rattle.bidi_order.specs.DirectionalStatus.ExplicitAct.{Embeds, Isolates, EndsIsolate, EndsEmbedding, IsRemoved}
use Rattle.bidi_order.specs.DirectionalStatus.ExplicitAct.{Stays}
use Rattle.bidi_order.specs.Explicit.{KeptCharacter, explicit_character, act_of_character, explicit_from, status_before}
use Rattle.bidi_order.specs.Explicit.IsolateRole.{Initiates, Terminates}
use Rattle.bidi_order.proofs.FollowedSequences.{Within}
use Rattle.bidi_order.proofs.FollowedSequences.Within.{within_end, within_none, within_plain, within_opens, within_ends}

-- a text whose isolate controls match, but that so many PDIs are still to come
pub data Matched : ℕ → List ℕ → Type 0 where
  matched_end : Matched 0 []
  matched_opens : {d c : ℕ} {cs : List ℕ} → is_initiator c ≡ true → Matched (suc d) cs → Matched d (c ∷ cs)
  matched_ends : {d c : ℕ} {cs : List ℕ} → is_closing c ≡ true → Matched d cs → Matched (suc d) (c ∷ cs)
  matched_plain : {d c : ℕ} {cs : List ℕ} → is_initiator c ≡ false → is_closing c ≡ false → Matched d cs
      → Matched d (c ∷ cs)

-- what an initiator, a PDI and another character do
pub act_of_class-begins : (k : Class) (ks : List Class) → begins_isolate k ≡ true → (b : Bool)
    × (act_of_class k ks ≡ Isolates b)
act_of_class-begins LRI ks h = (false, refl)
act_of_class-begins RLI ks h = (true, refl)
act_of_class-begins FSI ks h = (begins_right_to_left 0 ks, refl)
act_of_class-begins _ ks h = absurd (both_ways _ refl h)

pub act_of_class-ends : (k : Class) (ks : List Class) → ends_isolate k ≡ true → act_of_class k ks ≡ EndsIsolate
act_of_class-ends PDI ks h = refl
act_of_class-ends _ ks h = absurd (both_ways _ refl h)

-- an act that isn't of isolates
pub data Other : ExplicitAct → Type 0 where
  other_embeds : (b : Bool) (o : Option Bool) → Other (Embeds b o)
  other_pops : Other EndsEmbedding
  other_drops : Other IsRemoved
  other_stands : Other Stays

pub act_of_class-other : (k : Class) (ks : List Class) → begins_isolate k ≡ false → ends_isolate k ≡ false
    → Other (act_of_class k ks)
act_of_class-other LRI ks h e = absurd (both_ways _ h refl)
act_of_class-other RLI ks h e = absurd (both_ways _ h refl)
act_of_class-other FSI ks h e = absurd (both_ways _ h refl)
act_of_class-other PDI ks h e = absurd (both_ways _ e refl)
act_of_class-other LRE ks h e = other_embeds false None
act_of_class-other RLE ks h e = other_embeds true None
act_of_class-other LRO ks h e = other_embeds false (Some false)
act_of_class-other RLO ks h e = other_embeds true (Some true)
act_of_class-other PDF ks h e = other_pops
act_of_class-other BN ks h e = other_drops
act_of_class-other _ ks h e = other_stands

-- the next level is higher, by two at most
pub next_level-gt : (b : Bool) (n : ℕ) → n < next_level b n
next_level-gt true n =
    elim (cases_Bool (is_odd n)) [
      | inl h ↦ subst (λ k. n < k) (sym (cond-true _ _ _ h)) (omega arith)
      | inr h ↦
          subst (λ k. n < k) (sym (cond-false _ _ _ h)) (omega arith)
    ]
next_level-gt false n =
    elim (cases_Bool (is_odd n)) [
      | inl h ↦ subst (λ k. n < k) (sym (cond-true _ _ _ h)) (omega arith)
      | inr h ↦
          subst (λ k. n < k) (sym (cond-false _ _ _ h)) (omega arith)
    ]

next_level-le : (b : Bool) (n : ℕ) → next_level b n ≤ n + 2
next_level-le true n =
    elim (cases_Bool (is_odd n)) [
      | inl h ↦ subst (λ k. k ≤ n + 2) (sym (cond-true _ _ _ h)) (omega arith)
      | inr h ↦
          subst (λ k. k ≤ n + 2) (sym (cond-false _ _ _ h)) (omega arith)
    ]
next_level-le false n =
    elim (cases_Bool (is_odd n)) [
      | inl h ↦ subst (λ k. k ≤ n + 2) (sym (cond-true _ _ _ h)) (omega arith)
      | inr h ↦
          subst (λ k. k ≤ n + 2) (sym (cond-false _ _ _ h)) (omega arith)
    ]

-- how many isolates stand among entries
abbrev isolates : List StatusEntry → ℕ
isolates [] = 0
isolates (e ∷ es) = if e.isolate then isolates es + 1 else isolates es

-- each entry has a higher level
data Higher (level : ℕ) : List StatusEntry → Type 0 where
  higher_end : Higher level []
  higher_more : {e : StatusEntry} {es : List StatusEntry} → level < e.level → Higher level es → Higher level (e ∷ es)

-- the status inside an isolate with the entry, begun from a status with the stack and so many valid isolates
record Inside (base : ℕ) (entry : StatusEntry) (below : List StatusEntry) (valid depth : ℕ) (t : DirectionalStatus) :
    Type 0 where
  base_is : t.base ≡ base
  inner : List StatusEntry
  stack_is : t.stack ≡ inner ++ entry ∷ below
  open_are : isolates inner + t.overflow_isolates ≡ depth
  valid_are : t.valid_isolates ≡ valid + 1 + isolates inner
  higher : Higher (last_entry base below).level inner

module _ (base : ℕ) (entry : StatusEntry) (below : List StatusEntry) (valid : ℕ) (isolate : entry.isolate ≡ true)
    (high : (last_entry base below).level < entry.level) where
  Inner : ℕ → DirectionalStatus → Type 0
  Inner depth t = Inside base entry below valid depth t

  -- the top's level is higher than before the isolate
  top_entry-higher : (inner : List StatusEntry) → Higher (last_entry base below).level inner
      → (last_entry base below).level < (last_entry base (inner ++ entry ∷ below)).level
  top_entry-higher [] h = high
  top_entry-higher (e ∷ inner) (higher_more l h) = l

  inside-top_entry : (d : ℕ) (t : DirectionalStatus) → Inside base entry below valid d t
      → (last_entry base below).level < (top_entry t).level
  inside-top_entry d t i = subst (λ b. (last_entry base below).level < (last_entry b t.stack).level) (sym i.base_is)
      (subst (λ s. (last_entry base below).level < (last_entry base s).level) (sym i.stack_is)
      (top_entry-higher i.inner i.higher))

  inside-embedded : (d : ℕ) (t : DirectionalStatus) (b : Bool) (o : Option Bool) → Inside base entry below valid d t
      → Inside base entry below valid d (status_after (Embeds b o) t)
  inside-embedded d t b o i =
      elim (cases_Bool (has_room more.level t)) [
        | inl room ↦ subst (Inside base entry below valid d) (sym (cond-true _ _ _ room)) (record {
          inner = more ∷ i.inner;
          base_is = i.base_is;
          stack_is = ap (λ s. more ∷ s) i.stack_is;
          open_are = i.open_are;
          valid_are = i.valid_are;
          higher = higher_more (omega (arith, inside-top_entry d t i, next_level-gt b (top_entry t).level)) i.higher;
        })
        | inr full ↦ subst (Inside base entry below valid d) (sym (cond-false _ _ _ full))
            (elim (cases_Bool (t.overflow_isolates == 0)) [
              | inl none ↦ subst (Inside base entry below valid d) (sym (cond-true _ _ _ none))
                  (record {
                    inner = i.inner;
                    base_is = i.base_is;
                    stack_is = i.stack_is;
                    open_are = i.open_are;
                    valid_are = i.valid_are;
                    higher = i.higher;
                  })
              | inr some ↦ subst (Inside base entry below valid d) (sym (cond-false _ _ _ some)) i
            ])
      ]
    where
      more : StatusEntry
      more = record { level = next_level b (top_entry t).level; override = o; isolate = false }

  inside-isolated : (d : ℕ) (t : DirectionalStatus) (b : Bool) → Inside base entry below valid d t
      → Inside base entry below valid (suc d) (status_after (Isolates b) t)
  inside-isolated d t b i =
      elim (cases_Bool (has_room more.level t)) [
        | inl room ↦ subst (Inside base entry below valid (suc d)) (sym (cond-true _ _ _ room)) (record {
          inner = more ∷ i.inner;
          base_is = i.base_is;
          stack_is = ap (λ s. more ∷ s) i.stack_is;
          open_are = omega (arith, i.open_are);
          valid_are = omega (arith, i.valid_are);
          higher = higher_more (omega (arith, inside-top_entry d t i, next_level-gt b (top_entry t).level)) i.higher;
        })
        | inr full ↦ subst (Inside base entry below valid (suc d)) (sym (cond-false _ _ _ full))
            (record {
              inner = i.inner;
              base_is = i.base_is;
              stack_is = i.stack_is;
              open_are = omega (arith, i.open_are);
              valid_are = i.valid_are;
              higher = i.higher;
            })
      ]
    where
      more : StatusEntry
      more = record { level = next_level b (top_entry t).level; override = None; isolate = true }

  -- entries without those down to the topmost isolate
  record Popped (inner : List StatusEntry) : Type 0 where
    left : List StatusEntry
    is : isolate_popped (inner ++ entry ∷ below) ≡ left ++ entry ∷ below
    fewer : isolates inner ≡ isolates left + 1
    still : Higher (last_entry base below).level left

  isolate_popped-inner : (inner : List StatusEntry) → Higher (last_entry base below).level inner → 0 < isolates inner
      → Popped inner
  isolate_popped-inner [] h some = absurd (omega arith)
  isolate_popped-inner (e ∷ es) (higher_more l h) some =
      elim (cases_Bool e.isolate) [
        | inl here ↦ record { left = es; is = cond-true _ _ _ here; fewer = cond-true _ _ _ here; still = h }
        | inr later ↦
            let rest : Popped es =
            isolate_popped-inner es h (omega (arith, cond-false e.isolate (isolates es + 1) (isolates es) later)) in
            record {
              left = rest.left;
              is = cond-false _ _ _ later ∙ rest.is;
              fewer = cond-false _ _ _ later
                  ∙ rest.fewer;
              still = rest.still;
            }
      ]

  inside-isolate_ended : (d : ℕ) (t : DirectionalStatus) → Inside base entry below valid (suc d) t
      → Inside base entry below valid d (status_after EndsIsolate t)
  inside-isolate_ended d t i =
      elim (cases_lt 0 t.overflow_isolates) [
        | inl some ↦ subst (Inside base entry below valid d)
            (sym (cond-true _ _ _ (lt-ltb 0 t.overflow_isolates some)))
            (record {
              inner = i.inner;
              base_is = i.base_is;
              stack_is = i.stack_is;
              open_are = omega (arith, i.open_are);
              valid_are = i.valid_are;
              higher = i.higher;
            })
        | inr none ↦
            let p : Popped i.inner = isolate_popped-inner i.inner i.higher (omega (arith, i.open_are)) in
            subst (Inside base entry below valid d)
            (sym (cond-false _ _ _ (le-ltb 0 t.overflow_isolates none)
            ∙ cond-true _ _ _ (lt-ltb 0 t.valid_isolates (omega (arith, i.valid_are))))) (record {
              inner = p.left;
              base_is = i.base_is;
              stack_is = ap isolate_popped i.stack_is ∙ p.is;
              open_are = omega (arith, i.open_are, p.fewer);
              valid_are = omega (arith, i.valid_are, p.fewer);
              higher = p.still;
            })
      ]

  record Unembedded (inner : List StatusEntry) : Type 0 where
    left : List StatusEntry
    is : embedding_popped (inner ++ entry ∷ below) ≡ left ++ entry ∷ below
    as_many : isolates left ≡ isolates inner
    still : Higher (last_entry base below).level left

  embedding_popped-inner : (inner : List StatusEntry) → Higher (last_entry base below).level inner → Unembedded inner
  embedding_popped-inner [] h = record { left = []; is = cond-true _ _ _ isolate; as_many = refl; still = h }
  embedding_popped-inner (e ∷ es) (higher_more l h) =
      elim (cases_Bool e.isolate) [
        | inl here ↦ record { left = e ∷ es; is = cond-true _ _ _ here; as_many = refl; still = higher_more l h }
        | inr other ↦ record {
          left = es;
          is = cond-false _ _ _ other;
          as_many = sym (cond-false _ _ _ other);
          still = h;
        }
      ]

  inside-isolate_popped : (d : ℕ) (t : DirectionalStatus) → Inside base entry below valid d t
      → Inside base entry below valid d (status_after EndsEmbedding t)
  inside-isolate_popped d t i =
      elim (cases_Bool (nat_lt 0 t.overflow_isolates)) [
        | inl some ↦ subst (Inside base entry below valid d) (sym (cond-true _ _ _ some)) i
        | inr none ↦ subst (Inside base entry below valid d) (sym (cond-false _ _ _ none))
            (elim (cases_Bool (nat_lt 0 t.overflow_embeddings)) [
              | inl some ↦ subst (Inside base entry below valid d) (sym (cond-true _ _ _ some))
                  (record {
                    inner = i.inner;
                    base_is = i.base_is;
                    stack_is = i.stack_is;
                    open_are = i.open_are;
                    valid_are = i.valid_are;
                    higher = i.higher;
                  })
              | inr none ↦
                  let u : Unembedded i.inner = embedding_popped-inner i.inner i.higher in
                  subst (Inside base entry below valid d) (sym (cond-false _ _ _ none))
                  (record {
                    inner = u.left;
                    base_is = i.base_is;
                    stack_is = ap embedding_popped i.stack_is ∙ u.is;
                    open_are = ap (λ n. n + t.overflow_isolates) u.as_many ∙ i.open_are;
                    valid_are = i.valid_are
                        ∙ ap (λ n. valid + 1 + n) (sym u.as_many);
                    higher = u.still;
                  })
            ])
      ]

  inside-other : (d : ℕ) (t : DirectionalStatus) (a : ExplicitAct) → Other a → Inside base entry below valid d t
      → Inside base entry below valid d (status_after a t)
  inside-other d t a (other_embeds b o) i = inside-embedded d t b o i
  inside-other d t a other_pops i = inside-isolate_popped d t i
  inside-other d t a other_drops i = i
  inside-other d t a other_stands i = i

  -- after the isolate's PDI the status is that before it
  inside-end : (s t : DirectionalStatus) → s.base ≡ base → s.stack ≡ below → s.valid_isolates ≡ valid
      → s.overflow_isolates ≡ 0 → s.overflow_embeddings ≡ 0 → Inside base entry below valid 0 t
      → status_after EndsIsolate t ≡ s
  inside-end s t base_is stack_is valid_is no_isolates no_embeddings i =
      let none : t.overflow_isolates ≤ 0 = omega (arith, i.open_are) in
      cond-false _ _ _ (le-ltb 0 t.overflow_isolates none)
      ∙ cond-true _ _ _ (lt-ltb 0 t.valid_isolates (omega (arith, i.valid_are)))
      ∙ same (i.base_is ∙ sym base_is) (ap isolate_popped i.stack_is
      ∙ isolate_popped-all i.inner (omega (arith, i.open_are)) ∙ sym stack_is) (omega (arith, i.open_are))
      (sym no_embeddings) (omega (arith, i.valid_are, i.open_are))
    where
      same : {b : ℕ} {a : List StatusEntry} {x y z : ℕ} → b ≡ s.base → a ≡ s.stack → x ≡ s.overflow_isolates
          → y ≡ s.overflow_embeddings → z ≡ s.valid_isolates
          → ◌≡◌ {A = DirectionalStatus}
          (record { base = b; stack = a; overflow_isolates = x; overflow_embeddings = y; valid_isolates = z }) s
      same u p q r o = λ j. record {
        base = u j;
        stack = p j;
        overflow_isolates = q j;
        overflow_embeddings = r j;
        valid_isolates = o j;
      }

      isolate_popped-all : (inner : List StatusEntry) → isolates inner ≡ 0 → isolate_popped (inner ++ entry ∷ below)
          ≡ below
      isolate_popped-all [] none = cond-true _ _ _ isolate
      isolate_popped-all (e ∷ es) none =
          elim (cases_Bool e.isolate) [
            | inl here ↦ absurd (omega (arith, cond-true e.isolate (isolates es + 1) (isolates es) here))
            | inr other ↦ cond-false _ _ _ other ∙ isolate_popped-all es (sym (cond-false _ _ _ other) ∙ none)
          ]

  -- what a text inside gives
  record Content (d : ℕ) (t : DirectionalStatus) (v rest : List ℕ) : Type 0 where
    slots : List (Option KeptCharacter)
    after : DirectionalStatus
    is : explicit_from t (v ++ rest) ≡ slots ++ explicit_from after rest
    within : Within (last_entry base below).level d slots
    inside : Inside base entry below valid 0 after
    after_is : status_before t v rest ≡ after
    long : length slots ≡ length v

  content-more : (d e : ℕ) (t : DirectionalStatus) (c : ℕ) (cs rest : List ℕ) (a : ExplicitAct)
      → act_of_character c (cs ++ rest) ≡ a → Content e (status_after a t) cs rest
      → ((V : List (Option KeptCharacter)) → Within (last_entry base below).level e V
      → Within (last_entry base below).level d (explicit_character c a t ∷ V)) → Content d t (c ∷ cs) rest
  content-more d e t c cs rest a is more within = record {
    slots = explicit_character c a t ∷ more.slots;
    after = more.after;
    is = ap (λ a. explicit_character c a t ∷ explicit_from (status_after a t) (cs ++ rest)) is
        ∙ ap (λ l. explicit_character c a t ∷ l) more.is;
    within = within more.slots more.within;
    inside = more.inside;
    after_is = ap (λ a. status_before (status_after a t) cs rest) is ∙ more.after_is;
    long = ap suc more.long;
  }

  content : (d : ℕ) (t : DirectionalStatus) (v rest : List ℕ) → Matched d v → Inside base entry below valid d t
      → Content d t v rest
  content d t v rest matched_end i = record {
    slots = [];
    after = t;
    is = refl;
    within = within_end;
    inside = i;
    after_is = refl;
    long = refl;
  }
  content d t v rest (matched_opens {c = c} {cs = cs} b m) i =
      let does = act_of_class-begins (bidi_class c) (map bidi_class (cs ++ rest)) b in
      content-more d (suc d) t c cs rest (Isolates does.0) does.1
      (content (suc d) (status_after (Isolates does.0) t) cs rest m (inside-isolated d t does.0 i))
      (λ V w. within_opens (inside-top_entry d t i) refl w)
  content d t v rest (matched_ends {d = e} {c = c} {cs = cs} b m) i =
      let later : Inside base entry below valid e (status_after EndsIsolate t) = inside-isolate_ended e t i in
      content-more (suc e) e t c cs rest EndsIsolate (act_of_class-ends (bidi_class c) (map bidi_class (cs ++ rest))
      b) (content e (status_after EndsIsolate t) cs rest m later)
      (λ V w. within_ends (inside-top_entry e (status_after EndsIsolate t) later) refl w)
  content d t v rest (matched_plain {c = c} {cs = cs} b e m) i =
      let other = act_of_class-other (bidi_class c) (map bidi_class (cs ++ rest)) b e in
      content-more d d t c cs rest (act_of_character c (cs ++ rest)) refl
      (content d (status_after (act_of_character c (cs ++ rest)) t) cs rest m
      (inside-other d t (act_of_character c (cs ++ rest)) other i))
      (λ V w. plain c d (act_of_character c (cs ++ rest)) other V w)
    where
      plain : (c n : ℕ) (a : ExplicitAct) → Other a → (V : List (Option KeptCharacter))
          → Within (last_entry base below).level n V
          → Within (last_entry base below).level n (explicit_character c a t ∷ V)
      plain c n a (other_embeds b o) V w = within_none w
      plain c n a other_pops V w = within_none w
      plain c n a other_drops V w = within_none w
      plain c n a other_stands V w = within_plain (inside-top_entry d t i) refl w

-- an FSI passes over isolates
pub fsi-begins : (n : ℕ) (k : Class) (M : List Class) → begins_isolate k ≡ true → begins_right_to_left n (k ∷ M)
    ≡ begins_right_to_left (suc n) M
fsi-begins n LRI M h = refl
fsi-begins n RLI M h = refl
fsi-begins n FSI M h = refl
fsi-begins n _ M h = absurd (both_ways _ refl h)

pub fsi-ends : (n : ℕ) (k : Class) (M : List Class) → ends_isolate k ≡ true → begins_right_to_left (suc n) (k ∷ M)
    ≡ begins_right_to_left n M
fsi-ends n PDI M h = refl
fsi-ends n _ M h = absurd (both_ways _ refl h)

pub fsi-other : (n : ℕ) (k : Class) (M : List Class) → begins_isolate k ≡ false → ends_isolate k ≡ false
    → begins_right_to_left (suc n) (k ∷ M) ≡ begins_right_to_left (suc n) M
fsi-other n LRI M h e = absurd (both_ways _ h refl)
fsi-other n RLI M h e = absurd (both_ways _ h refl)
fsi-other n FSI M h e = absurd (both_ways _ h refl)
fsi-other n PDI M h e = absurd (both_ways _ e refl)
fsi-other n _ M h e = refl

pub fsi-more : (k : Class) (M N : List Class) → ((n : ℕ) → begins_right_to_left n M ≡ begins_right_to_left n N)
    → (n : ℕ) → begins_right_to_left n (k ∷ M) ≡ begins_right_to_left n (k ∷ N)
fsi-more LRI M N same n = same (suc n)
fsi-more RLI M N same n = same (suc n)
fsi-more FSI M N same n = same (suc n)
fsi-more PDI M N same zero = refl
fsi-more PDI M N same (suc n) = same n
fsi-more L M N same zero = refl
fsi-more R M N same zero = refl
fsi-more AL M N same zero = refl
fsi-more _ M N same n = same n

pub fsi-matched : (d : ℕ) (v : List ℕ) → Matched d v → (n m : ℕ) (T : List ℕ) → m ≡ suc n + d
    → begins_right_to_left m (map bidi_class (v ++ T)) ≡ begins_right_to_left (suc n) (map bidi_class T)
fsi-matched d v matched_end n m T e = let same : m ≡ suc n = omega arith in
    ap (λ m. begins_right_to_left m (map bidi_class T)) same
fsi-matched d v (matched_opens {c = c} {cs = cs} b h) n m T e = fsi-begins m (bidi_class c) (map bidi_class (cs ++ T))
    b ∙ fsi-matched (suc d) cs h n (suc m) T (omega arith)
fsi-matched d v (matched_ends {d = f} {c = c} {cs = cs} b h) n m T e =
    let up : m ≡ suc (suc n + f) = omega arith in
    ap (λ m. begins_right_to_left m (map bidi_class (c ∷ (cs ++ T)))) up ∙ fsi-ends (suc n + f) (bidi_class c)
    (map bidi_class (cs ++ T)) b ∙ fsi-matched f cs h n (suc n + f) T refl
fsi-matched d v (matched_plain {c = c} {cs = cs} b g h) n m T e =
    let up : m ≡ suc (n + d) = omega arith in
    ap (λ m. begins_right_to_left m (map bidi_class (c ∷ (cs ++ T)))) up ∙ fsi-other (n + d) (bidi_class c)
    (map bidi_class (cs ++ T)) b g ∙ fsi-matched d cs h n (suc (n + d)) T (omega arith)

pub act_of_class-same : (k : Class) (M N : List Class) → begins_right_to_left 0 M ≡ begins_right_to_left 0 N
    → act_of_class k M ≡ act_of_class k N
act_of_class-same FSI M N same = ap Isolates same
act_of_class-same _ M N same = refl

-- what an FSI before sees alike
abbrev pub Alike : List ℕ → List ℕ → Type 0
Alike X Y = (n : ℕ) → begins_right_to_left n (map bidi_class X) ≡ begins_right_to_left n (map bidi_class Y)

pub Alike-isolates : (i j c : ℕ) (v w back : List ℕ) → is_initiator i ≡ true → is_initiator j ≡ true → Matched 0 v
    → Matched 0 w → Alike (i ∷ (v ++ c ∷ back)) (j ∷ (w ++ c ∷ back))
Alike-isolates i j c v w back bi bj mv mw n =
    fsi-begins n (bidi_class i) (map bidi_class (v ++ c ∷ back)) bi ∙ fsi-matched 0 v mv n (suc n) (c ∷ back)
    (omega arith)
    ∙ sym (fsi-begins n (bidi_class j) (map bidi_class (w ++ c ∷ back)) bj ∙ fsi-matched 0 w mw n (suc n) (c ∷ back)
    (omega arith))

Alike-prefix : (prefix X Y : List ℕ) → Alike X Y → Alike (prefix ++ X) (prefix ++ Y)
Alike-prefix [] X Y same = same
Alike-prefix (c ∷ prefix) X Y same = fsi-more (bidi_class c) (map bidi_class (prefix ++ X))
    (map bidi_class (prefix ++ Y)) (Alike-prefix prefix X Y same)

act_of_character-same : (c : ℕ) (prefix X Y : List ℕ) → Alike X Y → act_of_character c (prefix ++ X)
    ≡ act_of_character c (prefix ++ Y)
act_of_character-same c prefix X Y same = act_of_class-same (bidi_class c) (map bidi_class (prefix ++ X))
    (map bidi_class (prefix ++ Y)) (Alike-prefix prefix X Y same 0)

pub status_before-same : (s : DirectionalStatus) (prefix X Y : List ℕ) → Alike X Y
    → status_before s prefix X ≡ status_before s prefix Y
status_before-same s [] X Y same = refl
status_before-same s (c ∷ prefix) X Y same =
    ap (λ a. status_before (status_after a s) prefix X) (act_of_character-same c prefix X Y same)
    ∙ status_before-same (status_after (act_of_character c (prefix ++ Y)) s) prefix X Y same

-- the explicit characters of a prefix
abbrev pub explicit_in : DirectionalStatus → List ℕ → List ℕ → List (Option KeptCharacter)
explicit_in s [] rest = []
explicit_in s (c ∷ prefix) rest = explicit_character c (act_of_character c (prefix ++ rest)) s ∷ explicit_in
    (status_after (act_of_character c (prefix ++ rest)) s) prefix rest

pub explicit_from-prefix : (s : DirectionalStatus) (prefix X : List ℕ) → explicit_from s (prefix ++ X)
    ≡ explicit_in s prefix X ++ explicit_from (status_before s prefix X) X
explicit_from-prefix s [] X = refl
explicit_from-prefix s (c ∷ prefix) X = ap (λ l. explicit_character c (act_of_character c (prefix ++ X)) s ∷ l)
    (explicit_from-prefix (status_after (act_of_character c (prefix ++ X)) s) prefix X)

pub length-explicit_in : (s : DirectionalStatus) (prefix X : List ℕ) → length (explicit_in s prefix X) ≡ length prefix
length-explicit_in s [] X = refl
length-explicit_in s (c ∷ prefix) X =
    ap suc (length-explicit_in (status_after (act_of_character c (prefix ++ X)) s) prefix X)

pub explicit_in-same : (s : DirectionalStatus) (prefix X Y : List ℕ) → Alike X Y
    → explicit_in s prefix X ≡ explicit_in s prefix Y
explicit_in-same s [] X Y same = refl
explicit_in-same s (c ∷ prefix) X Y same =
    ap (λ a. explicit_character c a s ∷ explicit_in (status_after a s) prefix X)
    (act_of_character-same c prefix X Y same)
    ∙ ap (λ l. explicit_character c (act_of_character c (prefix ++ Y)) s ∷ l)
    (explicit_in-same (status_after (act_of_character c (prefix ++ Y)) s) prefix X Y same)

-- an initiator and its PDI, where the status before and after is the same
unfoldable pub opening : DirectionalStatus → KeptCharacter
opening s = record {
  level = (top_entry s).level;
  role = Initiates;
  resolved = record { class = option_map_or strong_class (top_entry s).override LRI; bracket = None };
}

unfoldable pub closing : DirectionalStatus → KeptCharacter
closing s = record {
  level = (top_entry s).level;
  role = Terminates;
  resolved = record { class = option_map_or strong_class (top_entry s).override PDI; bracket = None };
}

-- a character that closes an isolate closes it
closing_act : (p : ℕ) (rest : List ℕ) → is_closing p ≡ true → act_of_character p rest ≡ EndsIsolate
closing_act p rest h = act_of_class-ends (bidi_class p) (map bidi_class rest) h

-- what stands inside a value, and what its isolate gives
pub record Value (s : DirectionalStatus) (i p : ℕ) (v back : List ℕ) : Type 0 where
  pub slots : List (Option KeptCharacter)
  pub is : explicit_from s (i ∷ (v ++ p ∷ back)) ≡ Some (opening s) ∷ (slots ++ Some (closing s) ∷ explicit_from s back)
  pub within : Within (top_entry s).level 0 slots
  pub restored : status_after (act_of_character p back)
      (status_before (status_after (act_of_character i (v ++ p ∷ back)) s) v (p ∷ back)) ≡ s
  pub long : length slots ≡ length v

-- an initiator whose level is pushed
pub valid : (s : DirectionalStatus) (i p : ℕ) (v back : List ℕ) (b : Bool) → act_of_character i (v ++ p ∷ back)
    ≡ Isolates b → has_room (next_level b (top_entry s).level) s ≡ true → is_closing p ≡ true → Matched 0 v
    → Value s i p v back
unfolding opening closing
valid s i p v back b does has ep m =
    let entry : StatusEntry = record { level = next_level b (top_entry s).level; override = None; isolate = true } in
    let parts = and_parts (nat_le entry.level 125) (s.overflow_isolates == 0 && s.overflow_embeddings == 0) has in
    let counts = and_parts (s.overflow_isolates == 0) (s.overflow_embeddings == 0) parts.1 in
    let pushed : status_after (Isolates b) s ≡ record s {
      stack = entry ∷ s.stack;
      valid_isolates = s.valid_isolates + 1;
    } = cond-true _ _ _ has in
    let begun : Inside s.base entry s.stack s.valid_isolates 0 (status_after (Isolates b) s) =
    subst (Inside s.base entry s.stack s.valid_isolates 0) (sym pushed) (record {
      inner = [];
      base_is = refl;
      stack_is = refl;
      open_are = omega (arith, eqb-true s.overflow_isolates 0 counts.0);
      valid_are = omega arith;
      higher = higher_end;
    }) in
    let inside : Content s.base entry s.stack s.valid_isolates refl (next_level-gt b (top_entry s).level) 0
    (status_after (Isolates b) s) v (p ∷ back) =
    content s.base entry s.stack s.valid_isolates refl (next_level-gt b (top_entry s).level) 0
    (status_after (Isolates b) s) v (p ∷ back) m begun in
    let restored : status_after EndsIsolate inside.after ≡ s =
    inside-end s.base entry s.stack s.valid_isolates refl (next_level-gt b (top_entry s).level) s inside.after refl
    refl refl (eqb-true s.overflow_isolates 0 counts.0) (eqb-true s.overflow_embeddings 0 counts.1) inside.inside in
    record {
      slots = inside.slots;
      is = ap (λ a. explicit_character i a s ∷ explicit_from (status_after a s) (v ++ p ∷ back)) does
          ∙ ap (λ l. Some (opening s) ∷ l) (inside.is ∙ ap (λ l. inside.slots ++ l) (
          ap (λ a. explicit_character p a inside.after ∷ explicit_from (status_after a inside.after) back)
          (closing_act p back ep)
          ∙ ap (λ t. Some (closing t) ∷ explicit_from t back) restored));
      within = inside.within;
      restored = ap (λ a. status_after (act_of_character p back) (status_before (status_after a s) v (p ∷ back))) does
          ∙ ap (λ a. status_after a (status_before (status_after (Isolates b) s) v (p ∷ back))) (closing_act p back ep)
          ∙ ap (status_after EndsIsolate) inside.after_is ∙ restored;
      long = inside.long;
    }

-- one within the limit
pub value : (s : DirectionalStatus) (i p : ℕ) (v back : List ℕ) → is_initiator i ≡ true → is_closing p ≡ true
    → Matched 0 v → is_within_depth s ≡ true → Value s i p v back
value s i p v back bi ep m room =
    let does = act_of_class-begins (bidi_class i) (map bidi_class (v ++ p ∷ back)) bi in
    let level : ℕ = next_level does.0 (top_entry s).level in
    let parts = and_parts (nat_le (top_entry s).level 123) (s.overflow_isolates == 0 && s.overflow_embeddings == 0)
    room in
    let low : (top_entry s).level ≤ 123 = leb-true (top_entry s).level 123 parts.0 in
    valid s i p v back does.0 does.1
    (and_from _ _ (le-leb level 125 (omega (arith, next_level-le does.0 (top_entry s).level))) parts.1) ep m
