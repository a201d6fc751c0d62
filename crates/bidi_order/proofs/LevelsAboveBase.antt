-- No level is lower than the base.
use Rattle.std.proofs.Common.{ℕ, ◌≤◌, ◌==◌, nat_lt, inl, inr, List, [], ◌∷◌, sym, subst, arith, Option, Some, None}
use Rattle.std.proofs.lemmas.Bool.{cond-true, cond-false, cases_Bool}
use Rattle.bidi_order.specs.DirectionalStatus.{StatusEntry, DirectionalStatus, top_entry, last_entry, next_level}
use Rattle.bidi_order.specs.DirectionalStatus.{ExplicitAct, has_room, isolate_popped, embedding_popped, status_after}
use Rattle.bidi_order.specs.DirectionalStatus.{initial_status}
use Rattle.bidi_order.specs.DirectionalStatus.ExplicitAct.{Embeds, Isolates, EndsIsolate, EndsEmbedding, IsRemoved}
use Rattle.bidi_order.specs.DirectionalStatus.ExplicitAct.{Stays}
use Rattle.bidi_order.specs.Explicit.{KeptCharacter, explicit_character, act_of_character, explicit_from}
use Rattle.bidi_order.specs.Explicit.{explicit_characters}
use Rattle.bidi_order.specs.Sequences.{resolved_levels_from}
use Rattle.bidi_order.proofs.RestoredStatus.{next_level-gt}
use Rattle.bidi_order.proofs.SimilarLevels.{resolved_level-ge}
use Rattle.bidi_order.proofs.LeastLevel.{Every}
use Rattle.bidi_order.proofs.LeastLevel.Every.{every_end, every_none, every_some}

-- each entry has the level or a higher one
data From (low : ℕ) : List StatusEntry → Type 0 where
  from_end : From low []
  from_more : {e : StatusEntry} {es : List StatusEntry} → low ≤ e.level → From low es → From low (e ∷ es)

record Based (low : ℕ) (s : DirectionalStatus) : Type 0 where
  base_is : low ≤ s.base
  stack_is : From low s.stack

last_entry-From : (low base : ℕ) (es : List StatusEntry) → low ≤ base → From low es → low ≤ (last_entry base es).level
last_entry-From low base [] b h = b
last_entry-From low base (e ∷ es) b (from_more l h) = l

top_entry-Based : (low : ℕ) (s : DirectionalStatus) → Based low s → low ≤ (top_entry s).level
top_entry-Based low s h = last_entry-From low s.base s.stack h.base_is h.stack_is

From-isolate_popped : (low : ℕ) (es : List StatusEntry) → From low es → From low (isolate_popped es)
From-isolate_popped low [] h = h
From-isolate_popped low (e ∷ es) (from_more l h) =
    elim (cases_Bool e.isolate) [
      | inl is ↦ subst (From low) (sym (cond-true _ _ _ is)) h
      | inr no' ↦
          subst (From low) (sym (cond-false _ _ _ no')) (From-isolate_popped low es h)
    ]

From-embedding_popped : (low : ℕ) (es : List StatusEntry) → From low es → From low (embedding_popped es)
From-embedding_popped low [] h = h
From-embedding_popped low (e ∷ es) (from_more l h) =
    elim (cases_Bool e.isolate) [
      | inl is ↦ subst (From low) (sym (cond-true _ _ _ is)) (from_more l h)
      | inr no' ↦
          subst (From low) (sym (cond-false _ _ _ no')) h
    ]

Based-status_after : (low : ℕ) (a : ExplicitAct) (s : DirectionalStatus) → Based low s → Based low (status_after a s)
Based-status_after low (Embeds b o) s h =
    elim (cases_Bool (has_room (next_level b (top_entry s).level) s)) [
      | inl room ↦ subst (Based low) (sym (cond-true _ _ _ room))
          (record {
            base_is = h.base_is;
            stack_is = from_more (omega (arith, next_level-gt b (top_entry s).level, top_entry-Based low s h))
                h.stack_is;
          })
      | inr full ↦ subst (Based low) (sym (cond-false _ _ _ full)) (elim (cases_Bool (s.overflow_isolates == 0)) [
        | inl is ↦ subst (Based low) (sym (cond-true _ _ _ is)) (record { base_is = h.base_is; stack_is = h.stack_is })
        | inr no' ↦ subst (Based low) (sym (cond-false _ _ _ no')) h
      ])
    ]
Based-status_after low (Isolates b) s h =
    elim (cases_Bool (has_room (next_level b (top_entry s).level) s)) [
      | inl room ↦ subst (Based low) (sym (cond-true _ _ _ room))
          (record {
            base_is = h.base_is;
            stack_is = from_more (omega (arith, next_level-gt b (top_entry s).level, top_entry-Based low s h))
                h.stack_is;
          })
      | inr full ↦ subst (Based low) (sym (cond-false _ _ _ full))
          (record { base_is = h.base_is; stack_is = h.stack_is })
    ]
Based-status_after low EndsIsolate s h =
    elim (cases_Bool (nat_lt 0 s.overflow_isolates)) [
      | inl is ↦ subst (Based low) (sym (cond-true _ _ _ is)) (record { base_is = h.base_is; stack_is = h.stack_is })
      | inr no' ↦ subst (Based low) (sym (cond-false _ _ _ no')) (elim (cases_Bool (nat_lt 0 s.valid_isolates)) [
        | inl is ↦ subst (Based low) (sym (cond-true _ _ _ is))
            (record { base_is = h.base_is; stack_is = From-isolate_popped low s.stack h.stack_is })
        | inr none ↦ subst (Based low) (sym (cond-false _ _ _ none)) h
      ])
    ]
Based-status_after low EndsEmbedding s h =
    elim (cases_Bool (nat_lt 0 s.overflow_isolates)) [
      | inl is ↦ subst (Based low) (sym (cond-true _ _ _ is)) h
      | inr no' ↦ subst (Based low) (sym (cond-false _ _ _ no')) (elim (cases_Bool (nat_lt 0 s.overflow_embeddings)) [
        | inl is ↦ subst (Based low) (sym (cond-true _ _ _ is)) (record { base_is = h.base_is; stack_is = h.stack_is })
        | inr none ↦ subst (Based low) (sym (cond-false _ _ _ none))
            (record { base_is = h.base_is; stack_is = From-embedding_popped low s.stack h.stack_is })
      ])
    ]
Based-status_after low IsRemoved s h = h
Based-status_after low Stays s h = h

-- each kept character has the level or a higher one
pub data Low (low : ℕ) : List (Option KeptCharacter) → Type 0 where
  low_end : Low low []
  low_none : {S : List (Option KeptCharacter)} → Low low S → Low low (None ∷ S)
  low_some : {k : KeptCharacter} {S : List (Option KeptCharacter)} → low ≤ k.level → Low low S → Low low (Some k ∷ S)

Low-explicit_character : (low c : ℕ) (a : ExplicitAct) (s : DirectionalStatus) (S : List (Option KeptCharacter))
    → Based low s → Low low S → Low low (explicit_character c a s ∷ S)
Low-explicit_character low c (Embeds b o) s S h l = low_none l
Low-explicit_character low c (Isolates b) s S h l = low_some (top_entry-Based low s h) l
Low-explicit_character low c EndsIsolate s S h l =
    low_some (top_entry-Based low (status_after EndsIsolate s) (Based-status_after low EndsIsolate s h)) l
Low-explicit_character low c EndsEmbedding s S h l = low_none l
Low-explicit_character low c IsRemoved s S h l = low_none l
Low-explicit_character low c Stays s S h l = low_some (top_entry-Based low s h) l

Low-explicit_from : (low : ℕ) (s : DirectionalStatus) (line : List ℕ) → Based low s → Low low (explicit_from s line)
Low-explicit_from low s [] h = low_end
Low-explicit_from low s (c ∷ cs) h = Low-explicit_character low c (act_of_character c cs) s
    (explicit_from (status_after (act_of_character c cs) s) cs) h
    (Low-explicit_from low (status_after (act_of_character c cs) s) cs
    (Based-status_after low (act_of_character c cs) s h))

Every-resolved_levels_from : (low base : ℕ) (back S : List (Option KeptCharacter)) → Low low S
    → Every (λ l. low ≤ l) (resolved_levels_from base back S)
Every-resolved_levels_from low base back S low_end = every_end
Every-resolved_levels_from low base back S (low_none {S = S'} h) =
    every_none (Every-resolved_levels_from low base (None ∷ back) S' h)
Every-resolved_levels_from low base back S (low_some {k = k} {S = S'} l h) =
    every_some (omega (arith, resolved_level-ge base back k S'))
    (Every-resolved_levels_from low base (Some k ∷ back) S' h)

pub levels-base : (base : ℕ) (line : List ℕ)
    → Every (λ l. base ≤ l) (resolved_levels_from base [] (explicit_characters base line))
levels-base base line = Every-resolved_levels_from base base [] (explicit_characters base line)
    (Low-explicit_from base (initial_status base) line (record { base_is = omega arith; stack_is = from_end }))
