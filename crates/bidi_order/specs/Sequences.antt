-- The isolating run sequence through a character (UAX #9, BD13 and X10), and the levels that the rules from W1 to I2
-- give a line.
--
-- From a character its sequence is followed to both ends of the line over the characters that are kept. The next one at
-- the sequence's level belongs to it. At one of another level the sequence ends; but after an initiator it goes on at
-- the PDI that matches, and before a PDI at the initiator that matches. Initiators and PDIs match as in BD9, by the
-- characters themselves. No list of level runs is made, so nothing has to be renumbered where a part of a line is left
-- out.
--
-- In `a`, RLI, U+05D0, PDI, `b` at the base 0 the sequence through `a` is `a`, RLI, PDI, `b`, and that through U+05D0
-- is this character alone, at level 1 with sos and eos R.
use Rattle.std.specs.Prelude.{ℕ, zero, suc, max, Bool, true, false, ◌==◌, List, [], ◌∷◌, ◌++◌, reverse, length, get_or}
use Rattle.std.specs.Prelude.{if◌then◌else◌, Option, Some, None}
use Rattle.bidi_class.specs.declared.class.Class.{Class}
use Rattle.bidi_class.specs.declared.class.Class.TheVariants.{L, R}
use Rattle.bidi_order.specs.DirectionalStatus.{is_odd}
use Rattle.bidi_order.specs.Explicit.{IsolateRole, SequenceCharacter, KeptCharacter, explicit_characters}
use Rattle.bidi_order.specs.Explicit.IsolateRole.{Initiates, Terminates, Neither}
use Rattle.bidi_order.specs.Resolve.{resolve}

-- from a character to the line's end, or to its start
pub data Scan : Type 0 where
  Forward : Scan
  Backward : Scan

-- what a character does to isolates for one who reads that way: backward a PDI enters an isolate
abbrev pub scanned_role : Scan → IsolateRole → IsolateRole
scanned_role Forward role = role
scanned_role Backward Initiates = Terminates
scanned_role Backward Terminates = Initiates
scanned_role Backward Neither = Neither

abbrev pub enters_isolate : IsolateRole → Bool
enters_isolate Initiates = true
enters_isolate _ = false

-- how far a sequence is followed
pub data Following : Type 0 where
  -- the character before is in the sequence; whether it enters an isolate
  Taking : Bool → Following
  -- the end of an isolate is sought: how many more isolates are open, and the level beside the sequence if it has no
  -- end
  Passing : ℕ → ℕ → Following

-- what becomes of the next character: it is in the sequence, or passed over, or behind the sequence's end
pub data SequenceStep : Type 0 where
  Take : SequenceStep
  Pass : ℕ → SequenceStep
  Stop : SequenceStep

-- while the end of an isolate is sought, with so many more open
abbrev pub step_past_isolate : ℕ → IsolateRole → SequenceStep
step_past_isolate n Initiates = Pass (suc n)
step_past_isolate zero Terminates = Take
step_past_isolate (suc n) Terminates = Pass n
step_past_isolate n Neither = Pass n

-- the level beside a sequence that ends with an isolate control that nothing matches: the base after an initiator, and
-- before a PDI the level before it
abbrev pub unmatched_level : Scan → ℕ → ℕ → ℕ
unmatched_level Forward base level = base
unmatched_level Backward base level = level

-- the level beside the sequence at the end of the line
abbrev pub line_end_level : ℕ → Following → ℕ
line_end_level base (Taking _) = base
line_end_level base (Passing n other) = other

-- after a character of the sequence: whether the next one has the sequence's level, whether an isolate was entered, and
-- the next one's part in isolates
abbrev pub step_in_sequence : Bool → Bool → IsolateRole → SequenceStep
step_in_sequence true entered role = Take
step_in_sequence false true role = step_past_isolate 0 role
step_in_sequence false false role = Stop

module _ (scan : Scan) (base level : ℕ) where
  abbrev pub sequence_step : Following → KeptCharacter → SequenceStep
  sequence_step (Taking entered) k = step_in_sequence (k.level == level) entered (scanned_role scan k.role)
  sequence_step (Passing n other) k = step_past_isolate n (scanned_role scan k.role)

  abbrev pub unmatched_level_at : Following → KeptCharacter → ℕ
  unmatched_level_at (Taking entered) k = unmatched_level scan base k.level
  unmatched_level_at (Passing n other) k = other

  -- the sequence from here on, and the level beside its end
  abbrev pub sequence_along : Following → List (Option KeptCharacter) → List SequenceCharacter × ℕ
  sequence_along w [] = ([], line_end_level base w)
  sequence_along w (None ∷ rest) = sequence_along w rest
  sequence_along w (Some k ∷ rest) = elim (sequence_step w k) [
    | Take ↦
        let more = sequence_along (Taking (enters_isolate (scanned_role scan k.role))) rest in
        (k.resolved ∷ more.0, more.1)
    | Pass n ↦ sequence_along (Passing n (unmatched_level_at w k)) rest
    | Stop ↦ ([], k.level)
  ]

-- sos and eos: the class of an odd or even level
abbrev pub side_class : ℕ → Class
side_class level = if is_odd level then R else L

-- the level of a character by I1 and I2, from what stands before it, nearest first, and after it
abbrev pub resolved_level : ℕ → List (Option KeptCharacter) → KeptCharacter → List (Option KeptCharacter) → ℕ
resolved_level base back k rest =
    let before = sequence_along Backward base k.level (Taking (enters_isolate (scanned_role Backward k.role))) back in
    let after = sequence_along Forward base k.level (Taking (enters_isolate (scanned_role Forward k.role))) rest in
    get_or
    (resolve k.level (side_class (max k.level before.1)) (side_class (max k.level after.1))
    (reverse before.0 ++ k.resolved ∷ after.0))
    (length before.0) 0

-- the levels of characters, after others, nearest first
abbrev pub resolved_levels_from : ℕ → List (Option KeptCharacter) → List (Option KeptCharacter) → List (Option ℕ)
resolved_levels_from base back [] = []
resolved_levels_from base back (None ∷ rest) = None ∷ resolved_levels_from base (None ∷ back) rest
resolved_levels_from base back (Some k ∷ rest) =
    Some (resolved_level base back k rest) ∷ resolved_levels_from base (Some k ∷ back) rest

-- the levels of a line before L1
abbrev pub levels_before_reset : ℕ → List ℕ → List (Option ℕ)
levels_before_reset base line = resolved_levels_from base [] (explicit_characters base line)
