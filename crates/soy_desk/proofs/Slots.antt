-- Slots, and the open renderings that they stand for.
use Rattle.std.proofs.Common.{◌≡◌, ℕ, zero, suc, ◌+◌, ◌<◌, ◌≤◌, ◌⊎◌, inl, inr, Bool, false, List, [], ◌∷◌, ◌++◌}
use Rattle.std.proofs.Common.{Some, None, Result, Ok, Err, Less, Greater, ap, refl, sym, ◌∙◌, arith, ◌==◌}
use Rattle.std.proofs.Common.{get_or, length, set}
use Rattle.std.specs.List.{remove}
use Rattle.std.specs.List.Sorted.{IsBinarySearchResult, IsNonDecreasingBy, IsPartitionPoint, IsSearchInRange}
use Rattle.std.specs.Ordering.{nat_cmp, ordering_index}
use Rattle.std.specs.Prelude.{MatchOption, if◌then◌else◌}
use Rattle.std.specs.Result.{result_ok}
use Rattle.std.proofs.lemmas.Bool.{cases_lt}
use Rattle.std.proofs.lemmas.Bool.Decides.{nat_tests}
use Rattle.std.proofs.lemmas.Cmp.{ranked}
use Rattle.std.proofs.lemmas.List.{get_or_default}
use Rattle.soy_base.specs.declared.memory.Refusal.TheVariants as refusal
use Rattle.soy_tree.specs.ViewValues.{view_value}
use Rattle.template_ir.specs.declared.program.ProgramParts.{ProgramParts}
use Rattle.render_core.specs.Rest.{has_ended, rest_of}
use Rattle.soy_desk.specs.Ascends.{Ascends}
use Rattle.soy_desk.specs.DeskAnswers.{desk_answer}
use Rattle.soy_desk.specs.DeskRun.{CloseStep, DeskAnswer, PullCall, PullStep, PullsNamed, RenderingAnswer, answered}
use Rattle.soy_desk.specs.DeskState.{DeskState, Entry, entry_named, first_entry, first_rest, pulled_entry, with_entry}
use Rattle.soy_desk.specs.DeskState.{without}
use Rattle.soy_desk.specs.ViewSlots.{PullsSlot, StandsAt, view_slot, view_slots}
use Rattle.soy_desk.specs.declared.slot.Slot.{Slot}
use Rattle.soy_desk.proofs.Entries.{differs, is_itself, named_name, push_ascends, with_ascends, without_ascends}

-- ---- names that ascend

ascends_at : (slots : List Slot) (low high at : ℕ) (d : Slot) → Ascends low (view_slots slots) high
    → at < length slots → low ≤ (get_or slots at d).name
ascends_at [] low high at d h within = absurd (omega (arith, within))
ascends_at (s ∷ slots) low high zero d h within = h.0
ascends_at (s ∷ slots) low high (suc at) d h within =
    omega (arith, h.0, ascends_at slots (s.name + 1) high at d h.1 (omega (arith, within)))

-- a slot before another has the lower name
ascends_between : (slots : List Slot) (low high i j : ℕ) (d : Slot) → Ascends low (view_slots slots) high → i < j
    → j < length slots → (get_or slots i d).name < (get_or slots j d).name
ascends_between [] low high i j d h lt within = absurd (omega (arith, within))
ascends_between (s ∷ slots) low high i zero d h lt within = absurd (omega (arith, lt))
ascends_between (s ∷ slots) low high zero (suc j) d h lt within =
    omega (arith, ascends_at slots (s.name + 1) high j d h.1 (omega (arith, within)))
ascends_between (s ∷ slots) low high (suc i) (suc j) d h lt within =
    ascends_between slots (s.name + 1) high i j d h.1 (omega (arith, lt)) (omega (arith, within))

-- ---- places

-- no slot before a place has the name
abbrev pub NoneBefore : List Slot → ℕ → ℕ → Type 0
NoneBefore slots name at = (k : ℕ) (d : Slot) → k < at → (get_or slots k d).name ≡ name → ⊥

none_past : (s : Slot) (slots : List Slot) (name at : ℕ) → NoneBefore (s ∷ slots) name (suc at)
    → NoneBefore slots name at
none_past s slots name at none = λ k d lt is. none (suc k) d (omega (arith, lt)) is

first_differs : (s : Slot) (slots : List Slot) (name at : ℕ) → NoneBefore (s ∷ slots) name (suc at)
    → (s.name == name) ≡ false
first_differs s slots name at none = differs s.name name (none 0 s (omega arith))

none_stands : (slots : List Slot) (name : ℕ) → NoneBefore slots name (length slots)
    → entry_named name (view_slots slots) ≡ None
none_stands [] name none = refl
none_stands (s ∷ slots) name none =
    ap (λ (b : Bool). if b then Some (view_slot s) else entry_named name (view_slots slots))
    (first_differs s slots name (length slots) none)
    ∙ none_stands slots name (none_past s slots name (length slots) none)

-- the first slot
stands_first : (s : Slot) (slots : List Slot) (name : ℕ) → s.name ≡ name → StandsAt (s ∷ slots) name 0
stands_first s slots name is = record {
  within = omega arith;
  named = λ d. ap (λ (b : Bool). if b then Some (view_slot s) else entry_named name (view_slots slots))
      (is_itself s.name name is);
  changed = λ x same.
      sym (ap (λ (b : Bool). if b then view_slot x ∷ view_slots slots
      else view_slot s ∷ with_entry (view_slot x) (view_slots slots)) (is_itself s.name x.name (is ∙ sym same)));
  removed = sym (ap (λ (b : Bool). if b then view_slots slots else view_slot s ∷ without name (view_slots slots))
      (is_itself s.name name is));
}

stands_later : (s : Slot) (slots : List Slot) (name at : ℕ) → (s.name == name) ≡ false → StandsAt slots name at
    → StandsAt (s ∷ slots) name (suc at)
stands_later s slots name at test h = record {
  within = omega (arith, h.within);
  named = λ d. ap (λ (b : Bool). if b then Some (view_slot s) else entry_named name (view_slots slots)) test
      ∙ h.named d;
  changed = λ x same.
      ap (λ (es : List Entry). view_slot s ∷ es) (h.changed x same)
      ∙ sym (ap (λ (b : Bool). if b then view_slot x ∷ view_slots slots
      else view_slot s ∷ with_entry (view_slot x) (view_slots slots))
      (ap (λ (n : ℕ). s.name == n) same ∙ test));
  removed = ap (λ (es : List Entry). view_slot s ∷ es) h.removed
      ∙ sym (ap (λ (b : Bool). if b then view_slots slots else view_slot s ∷ without name (view_slots slots)) test);
}

stands : (slots : List Slot) (name at : ℕ) → at < length slots → ((d : Slot) → (get_or slots at d).name ≡ name)
    → NoneBefore slots name at → StandsAt slots name at
stands [] name at within is none = absurd (omega (arith, within))
stands (s ∷ slots) name zero within is none = stands_first s slots name (is s)
stands (s ∷ slots) name (suc at) within is none =
    stands_later s slots name at (first_differs s slots name at none)
    (stands slots name at (omega (arith, within)) is (none_past s slots name at none))

-- ---- a search

module _ (slots : List Slot) (high name : ℕ) (ascend : Ascends 0 (view_slots slots) high) where
  -- where names ascend, a slot of the name is the one
  stands_there : (at : ℕ) → at < length slots → ((d : Slot) → (get_or slots at d).name ≡ name)
      → StandsAt slots name at
  stands_there at within is =
      stands slots name at within is
      (λ k d lt hit. omega (arith, ascends_between slots 0 high k at d ascend lt within, hit, is d))

  pub guessed : (at : ℕ) (x : Slot) → at < length slots → x ≡ get_or slots at x → x.name ≡ name
      → StandsAt slots name at
  guessed at x within read is =
      stands_there at within
      (λ d. ap (λ (s : Slot). s.name) (get_or_default slots at d x within ∙ sym read) ∙ is)

  -- the comparisons with the name rise along the slots, as a binary search asks
  comparisons_rise : IsNonDecreasingBy (λ (s : Slot). ordering_index (nat_cmp s.name name)) slots
  comparisons_rise = λ i j d le within.
      let same_name = λ (same : i ≡ j). ap (λ (k : ℕ). (get_or slots k d).name) same in
      let names_rise : (get_or slots i d).name ≤ (get_or slots j d).name =
      grind (arith, ascends_between slots 0 high i j d ascend, same_name) in
      grind (arith, nat_tests)

  -- where lower names are before a place and higher ones from it on, no slot has the name
  none_in_gap : (at k : ℕ) (d : Slot)
      → IsPartitionPoint (λ (s : Slot). nat_cmp s.name name ≡ Less) (λ (s : Slot). nat_cmp s.name name ≡ Greater)
      slots at → k < length slots → (get_or slots k d).name ≡ name → (k < at) ⊎ (at ≤ k) → ⊥
  none_in_gap at k d parted within hit (inl below) =
      omega (arith, hit, ranked _ name _ (sym (parted.0 k d (omega arith) below)))
  none_in_gap at k d parted within hit (inr above) =
      omega (arith, hit, ranked _ name _ (sym (parted.1 k d above within)))

  -- a binary search ends at the slot of the name, or there is none
  pub searched : (r : Result ℕ ℕ) → IsSearchInRange r (length slots)
      → IsBinarySearchResult (λ (s : Slot). nat_cmp s.name name) slots r
      → MatchOption (result_ok r) (entry_named name (view_slots slots) ≡ None) (StandsAt slots name)
  searched (Ok at) within equal = stands_there at within (λ d. ranked _ name _ (sym (equal d)))
  searched (Err at) within parted =
      none_stands slots name
      (λ k d lt hit. none_in_gap at k d (parted comparisons_rise) lt hit (cases_lt k at))

-- ---- a rendering that begins

pub begun_slot : (slot : Slot) (template : ℕ)
    → rest_of slot.program.value (view_value slot.input) slot.rendering
    ≡ first_rest slot.program.value slot.input template
    → has_ended slot.rendering ≡ false
    → view_slot slot ≡ first_entry slot.name slot.program.value slot.input template
begun_slot slot template rest_is done_is = λ i. record {
  name = slot.name;
  input = slot.input;
  program = slot.program.value;
  rest = rest_is i;
  done = done_is i;
}

pub view_push : (slots : List Slot) (slot : Slot)
    → view_slots (slots ++ slot ∷ []) ≡ view_slots slots ++ view_slot slot ∷ []
view_push [] slot = refl
view_push (s ∷ slots) slot = ap (λ (es : List Entry). view_slot s ∷ es) (view_push slots slot)

pub opened_ascends : (slots new : List Slot) (opened : ℕ) (e : Entry)
    → view_slots new ≡ view_slots slots ++ e ∷ [] → e.name ≡ opened → Ascends 0 (view_slots slots) opened
    → Ascends 0 (view_slots new) (opened + 1)
opened_ascends slots new opened e is named ascend =
    rw is (push_ascends 0 (view_slots slots) opened e named ascend)

-- ---- a pull

same_pulled : (old new : Slot) (c : PullCall RenderingAnswer) → PullsSlot old c new
    → view_slot new ≡ pulled_entry (view_slot old) (view_slot new).rest (view_slot new).done
same_pulled old new c h = λ i. record {
  name = h.name i;
  input = h.input i;
  program = h.program i;
  rest = (view_slot new).rest;
  done = (view_slot new).done;
}

pub pull_step : (before after : DeskState) (name : ℕ) (c : PullCall DeskAnswer) (answer : RenderingAnswer)
    → PullsNamed before name (answered c answer) after → PullStep before name c (desk_answer answer) after
pull_step before after name c (Ok n) h = h
pull_step before after name c (Err (refusal.Because call)) h = h
pull_step before after name c (Err refusal.OutOfMemory) h = h

module _ (slots : List Slot) (opened : ℕ) (published : ProgramParts) where
  abbrev pub state_of : List Slot → DeskState
  state_of others = record { entries = view_slots others; opened = opened; published = published }

  is_open : (name at : ℕ) (old : Slot) → StandsAt slots name at → old ≡ get_or slots at old
      → entry_named name (view_slots slots) ≡ Some (view_slot old)
  is_open name at old h old_is = h.named old ∙ ap (λ (s : Slot). Some (view_slot s)) (sym old_is)

  pulled_name : (name at : ℕ) (c : PullCall RenderingAnswer) (old new : Slot) → StandsAt slots name at
      → old ≡ get_or slots at old → PullsSlot old c new → new.name ≡ name
  pulled_name name at c old new h old_is pulls =
      pulls.name ∙ named_name name (view_slots slots) (view_slot old) (is_open name at old h old_is)

  pub pulled_named : (name at : ℕ) (c : PullCall RenderingAnswer) (old new : Slot) → StandsAt slots name at
      → old ≡ get_or slots at old → PullsSlot old c new
      → PullsNamed (state_of slots) name c (state_of (set slots at new))
  pulled_named name at c old new h old_is pulls =
      record {
        entry = view_slot old;
        rest = (view_slot new).rest;
        done = (view_slot new).done;
        is_open = is_open name at old h old_is;
        pulls = pulls.pulls;
        after_is =
            ap (λ (es : List Entry). let s : DeskState =
            record { entries = es; opened = opened; published = published } in s)
            (h.changed new (pulled_name name at c old new h old_is pulls)
            ∙ ap (λ (e : Entry). with_entry e (view_slots slots)) (same_pulled old new c pulls));
      }

  pub pulled_ascends : (name at : ℕ) (c : PullCall RenderingAnswer) (old new : Slot) → StandsAt slots name at
      → old ≡ get_or slots at old → PullsSlot old c new → Ascends 0 (view_slots slots) opened
      → Ascends 0 (view_slots (set slots at new)) opened
  pulled_ascends name at c old new h old_is pulls ascend =
      rw (h.changed new (pulled_name name at c old new h old_is pulls))
      (with_ascends 0 (view_slots slots) opened (view_slot new) ascend)

  pub closed_step : (name at : ℕ) → StandsAt slots name at → (d : Slot)
      → CloseStep (state_of slots) name (Ok tt) (state_of (remove slots at))
  closed_step name at h d = (
    view_slot (get_or slots at d),
    h.named d,
    ap (λ (es : List Entry). let s : DeskState =
        record { entries = es; opened = opened; published = published } in s) h.removed,
  )

  pub closed_ascends : (name at : ℕ) → StandsAt slots name at → Ascends 0 (view_slots slots) opened
      → Ascends 0 (view_slots (remove slots at)) opened
  closed_ascends name at h ascend = rw h.removed (without_ascends 0 (view_slots slots) opened name ascend)
