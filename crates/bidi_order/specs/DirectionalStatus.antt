-- The directional status, and what each character does to it (UAX #9, 3.3.2, "Explicit Levels and Directions", BD2 and
-- X1 to X8).
--
-- A status has a stack of entries and three counts. An embedding, an override or an isolate pushes an entry at the next
-- odd or even level, up to 125, and what finds no room is counted, so that its end ends nothing else.
--
-- After `a`, RLE, LRI from the base 0 the stack has an entry of level 2, an isolate, above one of level 1; a PDF leaves
-- it unchanged, since the last entry is an isolate, and a PDI takes both the isolate and what was pushed in it.
use Rattle.std.specs.Prelude.{ℕ, zero, suc, ◌+◌, ◌-◌, ◌%◌, Bool, true, false, ◌==◌, ◌&&◌, nat_lt, nat_le, List, []}
use Rattle.std.specs.Prelude.{◌∷◌, if◌then◌else◌, Option, Some, None}
use Rattle.bidi_class.specs.declared.class.Class.{Class}
use Rattle.bidi_class.specs.declared.class.Class.TheVariants.{L, R, AL, LRE, LRO, RLE, RLO, PDF, LRI, RLI, FSI, PDI}
use Rattle.bidi_class.specs.declared.class.Class.TheVariants.{BN}

-- an entry of the directional status stack
pub record StatusEntry : Type 0 where
  pub level : ℕ
  -- the direction of an override, if there is one; true is from right to left
  pub override : Option Bool
  pub isolate : Bool

-- the level of the base; the entries above it, that which was pushed last first; and the three counts of X1
pub record DirectionalStatus : Type 0 where
  pub base : ℕ
  pub stack : List StatusEntry
  pub overflow_isolates : ℕ
  pub overflow_embeddings : ℕ
  pub valid_isolates : ℕ

-- X1: the status in which a line with this base begins
abbrev pub initial_status : ℕ → DirectionalStatus
initial_status base =
    record { base = base; stack = []; overflow_isolates = 0; overflow_embeddings = 0; valid_isolates = 0 }

-- the entry that was pushed last, or that of the base, which nothing takes away
abbrev pub last_entry : ℕ → List StatusEntry → StatusEntry
last_entry base [] = record { level = base; override = None; isolate = false }
last_entry base (entry ∷ entries) = entry

abbrev pub top_entry : DirectionalStatus → StatusEntry
top_entry s = last_entry s.base s.stack

abbrev pub is_odd : ℕ → Bool
is_odd n = n % 2 == 1

-- the least odd level above a level, for what runs from right to left, or the least even one
abbrev pub next_level : Bool → ℕ → ℕ
next_level right_to_left n =
    if is_odd n then (if right_to_left then n + 2 else n + 1) else (if right_to_left then n + 1 else n + 2)

-- the class of a direction
abbrev pub strong_class : Bool → Class
strong_class right_to_left = if right_to_left then R else L

-- what a character does to the status
pub data ExplicitAct : Type 0 where
  -- LRE, RLE, LRO, RLO: the direction, and that of the override if it is one
  Embeds : Bool → Option Bool → ExplicitAct
  -- LRI, RLI, FSI: the direction
  Isolates : Bool → ExplicitAct
  -- PDI
  EndsIsolate : ExplicitAct
  -- PDF
  EndsEmbedding : ExplicitAct
  -- BN
  IsRemoved : ExplicitAct
  -- any other character
  Stays : ExplicitAct

-- X5c: the first character of class L, R or AL in these, up to the PDI that closes them and with isolates passed over,
-- is R or AL; so many isolates are open. Of `1`, LRI, `a`, PDI, U+05D0 it is U+05D0.
abbrev pub begins_right_to_left : ℕ → List Class → Bool
begins_right_to_left n [] = false
begins_right_to_left n (LRI ∷ cs) = begins_right_to_left (suc n) cs
begins_right_to_left n (RLI ∷ cs) = begins_right_to_left (suc n) cs
begins_right_to_left n (FSI ∷ cs) = begins_right_to_left (suc n) cs
begins_right_to_left zero (PDI ∷ cs) = false
begins_right_to_left (suc n) (PDI ∷ cs) = begins_right_to_left n cs
begins_right_to_left zero (L ∷ cs) = false
begins_right_to_left zero (R ∷ cs) = true
begins_right_to_left zero (AL ∷ cs) = true
begins_right_to_left n (_ ∷ cs) = begins_right_to_left n cs

-- what a character does, by its class and those of what follows it
abbrev pub act_of_class : Class → List Class → ExplicitAct
act_of_class LRE cs = Embeds false None
act_of_class RLE cs = Embeds true None
act_of_class LRO cs = Embeds false (Some false)
act_of_class RLO cs = Embeds true (Some true)
act_of_class LRI cs = Isolates false
act_of_class RLI cs = Isolates true
act_of_class FSI cs = Isolates (begins_right_to_left 0 cs)
act_of_class PDI cs = EndsIsolate
act_of_class PDF cs = EndsEmbedding
act_of_class BN cs = IsRemoved
act_of_class _ cs = Stays

-- an entry of this level may be pushed: it is at most 125 (max_depth), and nothing has overflowed
abbrev pub has_room : ℕ → DirectionalStatus → Bool
has_room level s = nat_le level 125 && (s.overflow_isolates == 0 && s.overflow_embeddings == 0)

-- X2 to X5: after an embedding or an override with this entry
abbrev pub embedded : StatusEntry → DirectionalStatus → DirectionalStatus
embedded entry s =
    if has_room entry.level s then record s { stack = entry ∷ s.stack }
    else if s.overflow_isolates == 0 then record s { overflow_embeddings = s.overflow_embeddings + 1 }
    else s

-- X5a, X5b: after an initiator with this entry
abbrev pub isolated : StatusEntry → DirectionalStatus → DirectionalStatus
isolated entry s =
    if has_room entry.level s then record s { stack = entry ∷ s.stack; valid_isolates = s.valid_isolates + 1 }
    else record s { overflow_isolates = s.overflow_isolates + 1 }

-- the stack without its entries down to the topmost isolate, and without that
abbrev pub isolate_popped : List StatusEntry → List StatusEntry
isolate_popped [] = []
isolate_popped (entry ∷ entries) = if entry.isolate then entries else isolate_popped entries

-- X6a: after a PDI
abbrev pub isolate_ended : DirectionalStatus → DirectionalStatus
isolate_ended s =
    if nat_lt 0 s.overflow_isolates then record s { overflow_isolates = s.overflow_isolates - 1 }
    else if nat_lt 0 s.valid_isolates then
    record s { stack = isolate_popped s.stack; overflow_embeddings = 0; valid_isolates = s.valid_isolates - 1 }
    else s

-- the stack without its last entry, where that is no isolate
abbrev pub embedding_popped : List StatusEntry → List StatusEntry
embedding_popped [] = []
embedding_popped (entry ∷ entries) = if entry.isolate then entry ∷ entries else entries

-- X7: after a PDF
abbrev pub embedding_ended : DirectionalStatus → DirectionalStatus
embedding_ended s =
    if nat_lt 0 s.overflow_isolates then s
    else if nat_lt 0 s.overflow_embeddings then record s { overflow_embeddings = s.overflow_embeddings - 1 }
    else record s { stack = embedding_popped s.stack }

-- the status after a character
abbrev pub status_after : ExplicitAct → DirectionalStatus → DirectionalStatus
status_after (Embeds right_to_left override) s =
    embedded (record { level = next_level right_to_left (top_entry s).level; override = override; isolate = false }) s
status_after (Isolates right_to_left) s =
    isolated (record { level = next_level right_to_left (top_entry s).level; override = None; isolate = true }) s
status_after EndsIsolate s = isolate_ended s
status_after EndsEmbedding s = embedding_ended s
status_after IsRemoved s = s
status_after Stays s = s

-- the limit on depth at a value's initiator: the top's level is at most 123, and nothing has overflowed, so that an
-- isolate of either direction finds room
abbrev pub is_within_depth : DirectionalStatus → Bool
is_within_depth s = nat_le (top_entry s).level 123 && (s.overflow_isolates == 0 && s.overflow_embeddings == 0)
