-- How the sequences of a line are read and their levels written: a sequence is a chain of indexes, each where the
-- sequence goes on after the one before, and its levels are written at these indexes.
--
-- In `a`, RLI, U+05D0, PDI, `b` at the base 0 the chain from 0 is 0, 1, 3, 4, which ends beside the level 0.
use Rattle.std.specs.Prelude.{◌≡◌, ◌<◌, ◌≤◌, ℕ, zero, suc, drop, true, List, [], ◌∷◌, ◌++◌, length, reverse, take}
use Rattle.std.specs.Prelude.{slice_index_or, slice_set}
use Rattle.std.specs.Prelude.{Option, Some, None}
use Rattle.std.specs.Option.{is_some}
use Rattle.bidi_class.specs.declared.class.Class.{Class}
use Rattle.bidi_class.specs.declared.class.Class.TheVariants.{ON}
use Rattle.bidi_class.specs.declared.brackets.Bracket.{Bracket}
use Rattle.bidi_order.specs.Explicit.{KeptCharacter, explicit_characters}
use Rattle.bidi_order.specs.Sequences.{enters_isolate, scanned_role, sequence_along}
use Rattle.bidi_order.specs.Sequences.Scan.{Backward}
use Rattle.bidi_order.specs.Sequences.Following.{Taking}
use Rattle.bidi_preview.specs.NextCharacter.{NextCharacter, character_at, closing_from, level_at, level_behind}
use Rattle.bidi_preview.specs.NextCharacter.{matching_end}
use Rattle.bidi_preview.specs.NextCharacter.{next_character}
use Rattle.bidi_preview.specs.NextCharacter.NextCharacter.{GoesOn, Ends}
use Rattle.bidi_preview.specs.declared.sequence.Next.{Next}
use Rattle.bidi_preview.specs.declared.sequence.Next.TheVariants as code

-- what the code's type stands for
abbrev pub view_next : Next → NextCharacter
view_next (code.GoesOn i) = GoesOn i
view_next (code.Ends level) = Ends level

-- the characters are those of some line
pub record IsExplicit (base : ℕ) (line : List (Option KeptCharacter)) : Type 0 where
  pub text : List ℕ
  pub is : line ≡ explicit_characters base text

-- the ends are those that match, at each initiator
pub record HasEnds (line : List (Option KeptCharacter)) (ends : List (Option ℕ)) : Type 0 where
  pub long : length ends ≡ length line
  pub match : (i : ℕ) (k : KeptCharacter) → character_at line i ≡ Some k → enters_isolate k.role ≡ true
      → slice_index_or ends i None ≡ matching_end line i

module _ (base : ℕ) (line : List (Option KeptCharacter)) where
  -- from an index on, the indexes of a sequence up to its end, beside a level
  pub data Chain : ℕ → List ℕ → ℕ → Type 0 where
    chain_end : {i level : ℕ} {k : KeptCharacter} → character_at line i ≡ Some k
        → next_character base line i k ≡ Ends level → Chain i (i ∷ []) level
    chain_more : {i j level : ℕ} {k : KeptCharacter} {indexes : List ℕ} → character_at line i ≡ Some k
        → next_character base line i k ≡ GoesOn j → Chain j indexes level → Chain i (i ∷ indexes) level

  abbrev pub class_at : ℕ → Class
  class_at i = elim (character_at line i) [ None ↦ ON | Some k ↦ k.resolved.class ]

  abbrev pub bracket_at : ℕ → Option Bracket
  bracket_at i = elim (character_at line i) [ None ↦ None | Some k ↦ k.resolved.bracket ]

  -- the level of the character at an index
  pub record HasLevel (i level : ℕ) : Type 0 where
    pub character : KeptCharacter
    pub here : character_at line i ≡ Some character
    pub is : level ≡ level_at base line i character

  -- levels that are written for whole sequences: each is right, and none ends before its sequence does
  pub record IsInProgress (levels : List (Option ℕ)) : Type 0 where
    pub long : length levels ≡ length line
    pub right : (i level : ℕ) → slice_index_or levels i None ≡ Some level → HasLevel i level
    pub closed : (i j : ℕ) (k : KeptCharacter) → character_at line i ≡ Some k
        → is_some (slice_index_or levels i None) ≡ true → next_character base line i k ≡ GoesOn j
        → is_some (slice_index_or levels j None) ≡ true

  -- the values are the levels at the indexes
  pub data AreLevels : List ℕ → List ℕ → Type 0 where
    levels_end : AreLevels [] []
    levels_more : {i v : ℕ} {indexes values : List ℕ} → HasLevel i v → AreLevels indexes values
        → AreLevels (i ∷ indexes) (v ∷ values)

-- levels written at indexes
abbrev pub written : List ℕ → List ℕ → List (Option ℕ) → List (Option ℕ)
written [] values levels = levels
written (i ∷ indexes) [] levels = levels
written (i ∷ indexes) (v ∷ values) levels = written indexes values (slice_set levels i (Some v))

-- the levels of the sequence from an index on were written
pub record WritesSequence (base : ℕ) (line : List (Option KeptCharacter)) (first : ℕ) (old new : List (Option ℕ)) :
    Type 0 where
  pub indexes : List ℕ
  pub values : List ℕ
  pub beside : ℕ
  pub chain : Chain base line first indexes beside
  pub right : AreLevels base line indexes values
  pub is : new ≡ written indexes values old

-- before a character nothing of its sequence stands, and beside it a level
abbrev pub BeginsSequence : ℕ → List (Option KeptCharacter) → ℕ → KeptCharacter → ℕ → Type 0
BeginsSequence base line i k level =
    sequence_along Backward base k.level (Taking (enters_isolate (scanned_role Backward k.role)))
    (reverse (take i line)) ≡ ([], level)

-- a sequence that is being read from an index on: where it goes on, what was read and any chain from there are a chain;
-- where it has ended, what was read is one
abbrev pub ReadSoFar : ℕ → List (Option KeptCharacter) → ℕ → Option ℕ → List ℕ → ℕ → Type 0
ReadSoFar base line first None indexes beside = Chain base line first indexes beside
ReadSoFar base line first (Some i) indexes beside =
    (rest : List ℕ) (level : ℕ) → Chain base line i rest level → Chain base line first (indexes ++ rest) level

-- a level beside an end is an explicit one
abbrev pub BoundsEnd : Next → Type 0
BoundsEnd (code.GoesOn i) = Unit {0}
BoundsEnd (code.Ends level) = level ≤ 125

-- the sequences that begin before an index have their levels, and so has each character before it; beside it stands
-- this level
pub record ResolvedUpTo (base : ℕ) (line : List (Option KeptCharacter)) (i before : ℕ) (levels : List (Option ℕ)) :
    Type 0 where
  pub progress : IsInProgress base line levels
  pub done : (j : ℕ) (k : KeptCharacter) → j < i → character_at line j ≡ Some k
      → is_some (slice_index_or levels j None) ≡ true
  pub bound : before ≤ 125
  pub beside : before ≡ level_behind base (reverse (take i line))

-- the item at an index of a stack
abbrev pub waiting_at : List ℕ → ℕ → Option ℕ
waiting_at [] n = None
waiting_at (i ∷ waiting) zero = Some i
waiting_at (i ∷ waiting) (suc n) = waiting_at waiting n

-- isolates are matched from an index on: for each number of open isolates the PDI that ends one more waits
pub record MatchedFrom (line : List (Option KeptCharacter)) (from : ℕ) (waiting : List ℕ) (ends : List (Option ℕ)) :
    Type 0 where
  pub long : length ends ≡ length line
  pub waits : (n : ℕ) → waiting_at waiting n ≡ closing_from from n (drop from line)
  pub found : (i : ℕ) (k : KeptCharacter) → from ≤ i → character_at line i ≡ Some k → enters_isolate k.role ≡ true
      → slice_index_or ends i None ≡ matching_end line i
