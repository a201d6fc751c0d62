use Rattle.std.proofs.Common.{◌≡◌, ◌⊎◌, inl, inr, ◌-◌, [], ◌∷◌, ◌++◌, length, take, vec_len, true, false, ap, sym}
use Rattle.std.proofs.Common.{subst, refl, ◌∙◌, arith}
use Rattle.std.specs.List.Sorted.{IsStrictlyIncreasing}
use Rattle.std.specs.Str.{chars}
use Rattle.std.specs.Str.Iter.{char_indices_offset, char_indices_rest}
use Rattle.bidi_class.specs.declared.class.Class.{Class}
use Rattle.bidi_class.specs.declared.class.Class.TheVariants.{LRI, RLI, FSI, PDI}
use Rattle.bidi_class.specs.Class.{begins_isolate}
use Rattle.bidi_class.specs.Pairs.{ends_isolate}
use Rattle.bidi_text.proofs.Ascending.{increasing-dropped_bytes}
use Rattle.bidi_text.proofs.Marking.{ReadsOne, marking_begins, marking_closes, marking_end, marking_lone, marking_start}
use Rattle.bidi_text.proofs.Marking.{marking_stays}
use Rattle.bidi_text.proofs.controls.marks.Goals as goal

-- the initiators' classes begin isolates
begins : (k : Class) → (k ≡ LRI) ⊎ ((k ≡ RLI) ⊎ (k ≡ FSI)) → begins_isolate k ≡ true
begins k h = elim h [
  | inl lri ↦ ap begins_isolate lri
  | inr others ↦
      elim others [ inl rli ↦ ap begins_isolate rli | inr fsi ↦ ap begins_isolate fsi ]
]

-- no other class but that of PDI does anything to an isolate
neither : (k : Class) → (k ≡ LRI → ⊥) → (k ≡ RLI → ⊥) → (k ≡ FSI → ⊥) → (k ≡ PDI → ⊥)
    → (begins_isolate k ≡ false) × (ends_isolate k ≡ false)
neither LRI lri rli fsi pdi = absurd (lri refl)
neither RLI lri rli fsi pdi = absurd (rli refl)
neither FSI lri rli fsi pdi = absurd (fsi refl)
neither PDI lri rli fsi pdi = absurd (pdi refl)
neither _ lri rli fsi pdi = (refl, refl)

-- the text is read from its start
pub loop-offset-init : goal.loop-offset-init
loop-offset-init c =
    let same = c.into_iter-offset-iterator.ensures.into_iter_gives in
    rw (
      c.new-offsets.ensures.items,
      ap char_indices_offset same ∙ c.char_indices-offset-items.ensures.offset,
      ap
          char_indices_rest same ∙ c.char_indices-offset-items.ensures.rest,
    )
    (marking_start c.args.text.now c.utf8.text)

-- an initiator was found
pub loop-offset-preserved-in-Continue-1 : goal.loop-offset-preserved-in-Continue-1
loop-offset-preserved-in-Continue-1 c =
    let step = c.in-Some.ensures.steps in
    let reads : ReadsOne c.in-Some.c (char_indices_offset c.loop-offset.offset-iterator)
    (char_indices_offset c.next.new.self) (char_indices_rest c.loop-offset.offset-iterator)
    (char_indices_rest c.next.new.self) =
    record { split = step.1; past = step.2 } in
    marking_begins c.loop-offset.invariant reads c.push.new.self.items
    (ap begins_isolate (sym c.class_of.ensures) ∙ begins c.class_of.result c.in-LRI.is)
    (c.in_ok-push-in-LRI.ensures.items ∙ ap (λ n. c.loop-offset.offsets.items ++ n ∷ []) step.0)

-- a PDI closed the last open initiator
pub loop-offset-preserved-then-closings-len : goal.loop-offset-preserved-then-closings-len
loop-offset-preserved-then-closings-len c =
    let step = c.in-Some.ensures.steps in
    let reads : ReadsOne c.in-Some.c (char_indices_offset c.loop-offset.offset-iterator)
    (char_indices_offset c.next.new.self) (char_indices_rest c.loop-offset.offset-iterator)
    (char_indices_rest c.next.new.self) =
    record { split = step.1; past = step.2 } in
    let same : vec_len c.loop-offset.offsets ≡ length c.loop-offset.offsets.items = omega arith in
    marking_closes c.loop-offset.invariant reads c.pop.new.self.items
    (ap begins_isolate (sym c.class_of.ensures ∙ c.in-PDI.is)) (ap ends_isolate (sym c.class_of.ensures ∙ c.in-PDI.is))
    (omega arith) (c.pop.ensures.rest ∙ ap (λ n. take (n - 1) c.loop-offset.offsets.items) same)

-- a PDI found no open initiator
pub loop-offset-preserved-in-PDI-2 : goal.loop-offset-preserved-in-PDI-2
loop-offset-preserved-in-PDI-2 c =
    let step = c.in-Some.ensures.steps in
    let reads : ReadsOne c.in-Some.c (char_indices_offset c.loop-offset.offset-iterator)
    (char_indices_offset c.next.new.self) (char_indices_rest c.loop-offset.offset-iterator)
    (char_indices_rest c.next.new.self) =
    record { split = step.1; past = step.2 } in
    marking_lone c.loop-offset.invariant reads c.push-in-PDI-2.new.self.items
    (ap begins_isolate (sym c.class_of.ensures ∙ c.in-PDI.is)) (ap ends_isolate (sym c.class_of.ensures ∙ c.in-PDI.is))
    (omega arith) (c.in_ok-push-in-PDI-2.ensures.items ∙ ap (λ n. c.loop-offset.offsets.items ++ n ∷ []) step.0)

-- another character was passed
pub loop-offset-preserved : goal.loop-offset-preserved
loop-offset-preserved c =
    let step = c.in-Some.ensures.steps in
    let reads : ReadsOne c.in-Some.c (char_indices_offset c.loop-offset.offset-iterator)
    (char_indices_offset c.next.new.self) (char_indices_rest c.loop-offset.offset-iterator)
    (char_indices_rest c.next.new.self) =
    record { split = step.1; past = step.2 } in
    let out = neither c.class_of.result c.in_default.not-LRI c.in_default.not-RLI c.in_default.not-FSI
    c.in_default.not-PDI in
    marking_stays c.loop-offset.invariant reads (ap begins_isolate (sym c.class_of.ensures) ∙ out.0)
    (ap ends_isolate (sym c.class_of.ensures) ∙ out.1)

-- no character is left
pub returns-clause-offsets : goal.returns-clause-offsets
returns-clause-offsets c = c.new.ensures ∙ marking_end c.loop-offset.invariant c.in-None.ensures.steps.0

pub returns-clause-ascending : goal.returns-clause-ascending
returns-clause-ascending c = subst IsStrictlyIncreasing (sym (returns-clause-offsets c))
    (increasing-dropped_bytes (chars c.args.text.now))
