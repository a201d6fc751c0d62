-- The explicit levels of a line (UAX #9, X2 to X9): which characters are kept, at which level, and what is known of
-- each from there on.
--
-- A character is kept unless it is an embedding, an override, a PDF or of class BN. It has the level of the top of the
-- status before it, a PDI that of the status after it, and the class of the top's override where there is one.
--
-- Of RLO, `a`, PDF, `b` at the base 0 the `a` is kept at level 1 with class R, and the `b` at level 0 with class L.
use Rattle.std.specs.Prelude.{ℕ, List, [], ◌∷◌, ◌++◌, map, Option, Some, None}
use Rattle.std.specs.Option.{option_map_or}
use Rattle.bidi_class.specs.declared.class.Class.{Class}
use Rattle.bidi_class.specs.declared.class.Class.TheVariants.{LRI, PDI}
use Rattle.bidi_class.specs.declared.brackets.Bracket.{Bracket}
use Rattle.bidi_class.specs.Class.{bidi_class}
use Rattle.bidi_class.specs.Brackets.{bracket}
use Rattle.bidi_order.specs.DirectionalStatus.{StatusEntry, DirectionalStatus, ExplicitAct, act_of_class}
use Rattle.bidi_order.specs.DirectionalStatus.{initial_status, status_after, strong_class, top_entry}
use Rattle.bidi_order.specs.DirectionalStatus.ExplicitAct.{Isolates, EndsIsolate, Stays}

-- what a kept character does to isolates, by the character itself, also under an override
pub data IsolateRole : Type 0 where
  -- LRI, RLI, FSI
  Initiates : IsolateRole
  -- PDI
  Terminates : IsolateRole
  Neither : IsolateRole

-- a character as the rules from W1 on read it: its class, which is LRI for each initiator, and the bracket that it is
pub record SequenceCharacter : Type 0 where
  pub class : Class
  pub bracket : Option Bracket

-- a character that is kept
pub record KeptCharacter : Type 0 where
  pub level : ℕ
  pub role : IsolateRole
  pub resolved : SequenceCharacter

-- a character under an entry: at its level, of the class of its override where there is one
abbrev pub kept_character : StatusEntry → IsolateRole → Class → Option Bracket → Option KeptCharacter
kept_character entry role class bracket = Some (record {
  level = entry.level;
  role = role;
  resolved = record { class = option_map_or strong_class entry.override class; bracket = bracket };
})

-- X5a to X6a and X9: the character, by what it does and the status before it; None where it is removed
abbrev pub explicit_character : ℕ → ExplicitAct → DirectionalStatus → Option KeptCharacter
explicit_character c (Isolates _) s = kept_character (top_entry s) Initiates LRI None
explicit_character c EndsIsolate s = kept_character (top_entry (status_after EndsIsolate s)) Terminates PDI None
explicit_character c Stays s = kept_character (top_entry s) Neither (bidi_class c) (bracket c)
explicit_character c _ s = None

-- what a character does, by itself and what follows it in its line
abbrev pub act_of_character : ℕ → List ℕ → ExplicitAct
act_of_character c cs = act_of_class (bidi_class c) (map bidi_class cs)

-- X2 to X9 from a status on
abbrev pub explicit_from : DirectionalStatus → List ℕ → List (Option KeptCharacter)
explicit_from s [] = []
explicit_from s (c ∷ cs) =
    explicit_character c (act_of_character c cs) s ∷ explicit_from (status_after (act_of_character c cs) s) cs

-- the characters of a line
abbrev pub explicit_characters : ℕ → List ℕ → List (Option KeptCharacter)
explicit_characters base line = explicit_from (initial_status base) line

-- the status after the first of these characters, where the second follow them
abbrev pub status_before : DirectionalStatus → List ℕ → List ℕ → DirectionalStatus
status_before s [] rest = s
status_before s (c ∷ prefix) rest = status_before (status_after (act_of_character c (prefix ++ rest)) s) prefix rest
