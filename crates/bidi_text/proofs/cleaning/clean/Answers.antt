use Rattle.std.proofs.Common.{◌≡◌, ℕ, List, [], ◌∷◌, ◌++◌, length, ap, ◌∙◌, arith}
use Rattle.std.specs.Str.{chars}
use Rattle.std.specs.Str.Iter.{char_indices_offset, char_indices_rest}
use Rattle.std.specs.String.{string_bytes}
use Rattle.std.proofs.lemmas.Str.{chars-nil}
use Rattle.bidi_text.proofs.CleanedSoFar.{cleaned_dropped, cleaned_end, cleaned_kept, cleaned_start}
use Rattle.bidi_text.proofs.Marking.{ReadsOne}
use Rattle.bidi_text.proofs.cleaning.clean.Goals as goal
use Rattle.bidi_text.proofs.cleaning.clean.Goals.{in_default-via-in-Some-split_first+else-first-offset}
use Rattle.bidi_text.proofs.cleaning.clean.Goals.{in_default-via-in_default}

-- the text is read from its start
pub loop-offset-init : goal.loop-offset-init
loop-offset-init c =
    let same = c.into_iter-offset-iterator.ensures.into_iter_gives in
    rw (
      c.items-offsets.ensures ∙ c.in_ok-found.ensures.offsets,
      c.new-cleaned.ensures.bytes,
      chars-nil,
      ap char_indices_offset same ∙ c.char_indices-offset-items.ensures.offset,
      ap char_indices_rest same ∙ c.char_indices-offset-items.ensures.rest,
    )
    (cleaned_start c.args.text.now c.utf8.text)

-- the character is the next that is left out
pub loop-offset-preserved-then-first-offset : goal.loop-offset-preserved-then-first-offset
loop-offset-preserved-then-first-offset c =
    let step = c.in-Some.ensures.steps in
    let reads : ReadsOne c.in-Some.c (char_indices_offset c.loop-offset.offset-iterator)
    (char_indices_offset c.next.new.self) (char_indices_rest c.loop-offset.offset-iterator)
    (char_indices_rest c.next.new.self) =
    record { split = step.1; past = step.2 } in
    cleaned_dropped c.loop-offset.invariant reads c.in-Some-split_first.later.now
    (c.in-Some-split_first.ensures.cases.0 ∙ ap (λ n. n ∷ c.in-Some-split_first.later.now)
    (c.if-first-offset.true ∙ step.0))

-- a list that begins with a number is no other one
other_head : (offsets later rest : List ℕ) (first at offset : ℕ) → offsets ≡ first ∷ later → (first ≡ offset → ⊥)
    → offset ≡ at → offsets ≡ at ∷ rest → ⊥
other_head offsets later rest first at offset split other same is = other (cc)

-- the character is kept
pub loop-offset-preserved : goal.loop-offset-preserved
loop-offset-preserved c =
    let step = c.in-Some.ensures.steps in
    let reads : ReadsOne c.in-Some.c (char_indices_offset c.loop-offset.offset-iterator)
    (char_indices_offset c.next.new.self) (char_indices_rest c.loop-offset.offset-iterator)
    (char_indices_rest c.next.new.self) =
    record { split = step.1; past = step.2 } in
    cleaned_kept c.loop-offset.invariant reads (chars (string_bytes c.push_char.new.out))
    (λ later is. elim c.in_default.branch [
      | in_default-via-in-Some-split_first+else-first-offset w ↦
          other_head _ w.in-Some-split_first.later.now later w.in-Some-split_first.first.now _ c.in-Some.offset
          w.in-Some-split_first.ensures.cases.0 w.if-first-offset.false step.0 is
      | in_default-via-in_default w ↦ omega (arith, w.in_default.ensures.cases, ap length is)
    ])
    (c.in_ok-push_char-in_default.ensures.ok ∙ ap (λ k. chars (string_bytes c.loop-offset.cleaned) ++ k ∷ [])
    c.spaced.ensures)

-- no character is left
pub returns : goal.returns
returns c = cleaned_end c.loop-offset.invariant c.in-None.ensures.steps.0
