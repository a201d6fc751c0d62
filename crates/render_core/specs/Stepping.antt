-- What one step of the machine does.
--
-- What the frames gave before it is what it spends and gives, and then what they give after it. A step works, or what
-- is pending falls: how many parameters a call has still to hand.
use Rattle.std.specs.Prelude.{◌≡◌, ℕ, ◌+◌, ◌-◌, ◌*◌, ◌≤◌, ◌<◌, ◌⊎◌, List, [], ◌∷◌, Option, Some, None, Result, Ok}
use Rattle.std.specs.Prelude.{Err, encode_utf8_all, length, max, min, slice_get, take, true, false}
use Rattle.soy_base.specs.Piece.{Piece}
use Rattle.soy_base.specs.declared.fault.TooDeep.{TooDeep}
use Rattle.soy_base.specs.declared.kind.Kind.{Kind}
use Rattle.soy_base.specs.declared.kind.Kind.TheVariants as kind
use Rattle.soy_base.specs.declared.memory.OutOfMemory.{OutOfMemory}
use Rattle.soy_base.specs.declared.memory.Refusal.{Refusal}
use Rattle.soy_base.specs.declared.memory.Refusal.TheVariants as refusal
use Rattle.soy_tree.specs.Values as values
use Rattle.soy_pieces.specs.Outcome.{GivesPiece, Outcome, Spent, end_of_outcome, none_spent, pieces_of_outcome}
use Rattle.soy_pieces.specs.Outcome.{spent_first}
use Rattle.template_ir.specs.declared.op.Block.{Block}
use Rattle.template_ir.specs.declared.op.Op.{Op}
use Rattle.template_ir.specs.declared.op.Op.TheVariants as op
use Rattle.template_ir.specs.declared.program.ProgramParts.{ProgramParts}
use Rattle.render_core.specs.Frames.{MachineFits, machine_gives, ops_ahead, over, past, past_with}
use Rattle.render_core.specs.Linked.{bound_over}
use Rattle.render_core.specs.Pulls.{Gave, stops_at}
use Rattle.render_core.specs.Rest.{BegunFits, IsWhole, begun_left, coming, first_spent, piece_bytes}
use Rattle.render_core.specs.Texts.{added, is_none}
use Rattle.render_core.specs.Variables.{cells_of, env_at, held_means, name_or_none, name_there}
use Rattle.render_core.specs.declared.begun.Begun.{Begun}
use Rattle.render_core.specs.declared.frame.Ahead.{Ahead}
use Rattle.render_core.specs.declared.frame.Frame.{Frame}
use Rattle.render_core.specs.declared.frame.Frame.TheVariants as frame
use Rattle.soy_expr.specs.declared.evaluated.Made.TheVariants as made
use Rattle.render_core.specs.declared.frame.Handing.{Handing}
use Rattle.render_core.specs.declared.held.Bound.{Bound}
use Rattle.render_core.specs.declared.held.Held.{Held}
use Rattle.render_core.specs.declared.held.Held.TheVariants as held
use Rattle.render_core.specs.declared.held.Kept.{Kept}
use Rattle.render_core.specs.declared.held.Naming.{Naming}
use Rattle.render_core.specs.declared.held.Naming.TheVariants as naming
use Rattle.render_core.specs.declared.frame.Purpose.{Purpose}
use Rattle.render_core.specs.declared.frame.Purpose.TheVariants as purpose
use Rattle.render_core.specs.declared.stack.Machine.{Machine}
use Rattle.render_core.specs.declared.stack.Step.{Step}
use Rattle.render_core.specs.declared.stack.Step.TheVariants as step

-- a kind of blocks that are bound as they are
abbrev pub IsBlockKind : Kind → Type 0
IsBlockKind kind.Text = ⊥
IsBlockKind _ = Unit {0}

-- a block that the next op names, with the variables that are visible there
abbrev pub kept_of : Ahead → Kind → Block → Kept
kept_of f k b =
    record { kind = k; block = record { first = b.first; end = min b.end f.at }; env = f.env; left = f.left }

-- ---- the end of a text

-- a call past one more parameter, which is bound over so many variables
abbrev pub handed_past : Handing → ℕ → Handing
handed_past h n = record h { next = h.next + 1; inner = n + 1 }

-- the frame that comes after a text that was gathered, bound over so many variables
abbrev pub text_next : Ahead → Purpose → ℕ → Frame
text_next f purpose.Bind n = frame.Ops (past_with f (n + 1))
text_next f purpose.Show n = frame.Show f n
text_next f (purpose.Hand h) n = frame.Call f (handed_past h n)

-- the variable that it is bound to
abbrev pub text_var : Ahead → Purpose → List ℕ → Bound
text_var f purpose.Bind text = bound_over (naming.Op f.at) (held.Made (made.Str text)) f.env
text_var f purpose.Show text = bound_over naming.Hidden (held.Made (made.Str text)) 0
text_var f (purpose.Hand h) text = bound_over (naming.Handed f.at h.next) (held.Made (made.Str text)) h.inner

-- the variable that a parameter is bound to
abbrev pub handed_bound : Ahead → Handing → Held → Bound
handed_bound f h to = bound_over (naming.Handed f.at h.next) to h.inner

-- the next op of a block, or that there is none
abbrev pub OpBefore : ProgramParts → Ahead → Option Op → Type 0
OpBefore p f (Some o) = (f.at < f.end) × (slice_get p.ops f.at ≡ Some o)
OpBefore p f None = (f.end ≤ f.at) ⊎ (slice_get p.ops f.at ≡ None)

-- ---- what is pending

abbrev pub given_count : Option Op → ℕ
given_count (Some (op.Call c)) = length c.given
given_count _ = 0

abbrev pub most_given : List Op → ℕ
most_given [] = 0
most_given (o ∷ os) = max (given_count (Some o)) (most_given os)

abbrev pub pending_text : ProgramParts → ℕ → Purpose → ℕ
pending_text p at purpose.Bind = 1
pending_text p at purpose.Show = 2
pending_text p at (purpose.Hand h) = 2 + (given_count (slice_get p.ops at) - (h.next + 1))

abbrev pub pending : ProgramParts → Frame → ℕ
pending p (frame.Ops f) = 0
pending p (frame.Turns r) = 0
pending p (frame.Gather f what) = pending_text p f.at what
pending p (frame.Show f at) = 1
pending p (frame.Call f h) = 1 + (given_count (slice_get p.ops f.at) - h.next)

-- one more than what may ever be pending
abbrev pub weight : ProgramParts → ℕ
weight p = 3 + most_given p.ops

-- ---- steps

-- a machine that is unchanged
pub record IsSame (old new : Machine) : Type 0 where
  pub top : new.top ≡ old.top
  pub below : new.below ≡ old.below
  pub texts : new.texts ≡ old.texts
  pub bound : new.bound ≡ old.bound

-- what a step does outside of the machine: the room before and after it, and the piece that has begun then
pub record Output : Type 0 where
  pub room : List ℕ
  pub room_after : List ℕ
  pub begun : Option Begun

abbrev pub output : List ℕ → List ℕ → Option Begun → Output
output room room_after begun = record { room = room; room_after = room_after; begun = begun }

abbrev pub IsSpared : Output → Type 0
IsSpared out = (out.room_after ≡ out.room) × (out.begun ≡ None)

-- only a step that gives does anything there
abbrev pub Spares : Output → Result Step OutOfMemory → Type 0
Spares out (Ok (step.Gives n)) = Unit {0}
Spares out _ = IsSpared out

-- what stands above the frames below the top, past its next op, gives this
pub record GoesIn (p : ProgramParts) (input : values.Value) (old new : Machine) (f : Ahead) (x : Outcome) : Type 0 where
  pub gives : machine_gives p input new ≡ over p input old.bound (frame.Ops (past f) ∷ old.below) old.texts x
  pub fits : MachineFits new
  pub quiet : pending p new.top ≡ 0

module _ (p : ProgramParts) (input : values.Value) where
  -- so much is spent between the two
  pub record Goes (old new : Machine) (before after : ℕ) (gives : Outcome → Outcome) (spent : Spent) : Type 0 where
    pub same : machine_gives p input old ≡ gives (machine_gives p input new)
    pub cost : after ≡ before + spent.cost
    pub falls : pending p new.top < spent.work * weight p + pending p old.top
    pub fits : MachineFits new

  -- nothing is changed, and at most so much is spent
  pub record Stays (old new : Machine) (before after : ℕ) : Type 0 where
    pub same : machine_gives p input new ≡ machine_gives p input old
    pub low : before ≤ after
    pub high : after ≤ before + (first_spent (machine_gives p input old)).cost
    pub fits : MachineFits new

  abbrev pub Silent : Machine → Machine → ℕ → ℕ → Type 0
  Silent old new before after = (spent : Spent) × Goes old new before after (spent_first spent) spent

  -- the first bytes are given into the room, and what is left of them has begun
  abbrev pub Given : List Bound → List ℕ → Output → ℕ → Type 0
  Given bound bytes out n =
      Gave bytes (begun_left p input bound out.begun) out.room out.room_after n × BegunFits p input bound out.begun

  abbrev pub Gives : Machine → Machine → ℕ → ℕ → Output → ℕ → Type 0
  Gives old new before after out n =
      (spent : Spent) × (piece : Piece) × Goes old new before after (GivesPiece spent piece) spent
      × Given new.bound (piece_bytes piece) out n

  -- a step that gives nothing
  abbrev pub Stepped : Machine → Machine → ℕ → ℕ → Result Step OutOfMemory → Type 0
  Stepped old new before after (Ok step.Silent) = Silent old new before after
  Stepped old new before after (Ok (step.Gives n)) = ⊥
  Stepped old new before after (Ok step.Done) =
      Stays old new before after × IsWhole (machine_gives p input old) × (after ≡ before)
  Stepped old new before after (Ok (step.TooDeep call)) =
      Stays old new before after × (pieces_of_outcome (machine_gives p input old) ≡ [])
      × (end_of_outcome (machine_gives p input old) ≡ stops_at call)
  Stepped old new before after (Err e) = Stays old new before after

  -- a step that may give bytes
  abbrev pub SteppedInto : Machine → Machine → ℕ → ℕ → Output → Result Step OutOfMemory → Type 0
  SteppedInto old new before after out (Ok (step.Gives n)) = Gives old new before after out n
  SteppedInto old new before after out result = Stepped old new before after result

  -- steps up to the next piece
  pub record Went (old new : Machine) (before after : ℕ) : Type 0 where
    pub spent : Spent
    pub same : coming p input old ≡ spent_first spent (coming p input new)
    pub cost : after ≡ before + spent.cost
    pub fits : MachineFits new

  pub record Left (old new : Machine) (before after : ℕ) : Type 0 where
    pub spent : Spent
    pub same : coming p input old ≡ spent_first spent (coming p input new)
    pub low : before ≤ after
    pub high : after ≤ before + (first_spent (coming p input old)).cost
    pub fits : MachineFits new

  pub record NextPiece (old new : Machine) (before after : ℕ) (out : Output) (n : ℕ) : Type 0 where
    pub spent : Spent
    pub piece : Piece
    pub same : coming p input old ≡ GivesPiece spent piece (coming p input new)
    pub cost : after ≡ before + spent.cost
    pub fits : MachineFits new
    pub some : 0 < length (piece_bytes piece)
    pub given : Given new.bound (piece_bytes piece) out n

  abbrev pub Advanced : Machine → Machine → ℕ → ℕ → Output → Result (Option ℕ) (Refusal TooDeep) → Type 0
  Advanced old new before after out (Ok (Some n)) = NextPiece old new before after out n
  Advanced old new before after out (Ok None) =
      IsSpared out × Left old new before after × IsWhole (coming p input old) × IsWhole (coming p input new)
  Advanced old new before after out (Err (refusal.Because call)) =
      IsSpared out × Left old new before after × (pieces_of_outcome (coming p input old) ≡ [])
      × (end_of_outcome (coming p input old) ≡ stops_at call)
  Advanced old new before after out (Err refusal.OutOfMemory) = IsSpared out × Left old new before after

  -- a form of a value is given, or added to the innermost text, and another frame comes next
  abbrev pub GaveForm : Machine → Machine → Frame → List ℕ → Output → Result Step OutOfMemory → Type 0
  GaveForm old new next form out (Ok step.Silent) =
      (new.top ≡ next) × (new.below ≡ old.below) × (new.bound ≡ old.bound)
      × (new.texts ≡ added old.texts form) × (is_none old.texts ≡ false)
  GaveForm old new next form out (Ok (step.Gives n)) =
      (new.top ≡ next) × (new.below ≡ old.below) × (new.bound ≡ old.bound)
      × (new.texts ≡ old.texts) × (is_none old.texts ≡ true)
      × Given old.bound (encode_utf8_all form) out n
  GaveForm old new next form out (Ok step.Done) = ⊥
  GaveForm old new next form out (Ok (step.TooDeep call)) = ⊥
  GaveForm old new next form out (Err e) = IsSame old new

  -- what stood above the frames below the top, past its next op, is done
  abbrev pub Does : Machine → Machine → Ahead → Outcome → Output → Result Step OutOfMemory → Type 0
  Does old new f x out (Ok step.Silent) = GoesIn p input old new f x
  Does old new f x out (Ok (step.Gives n)) =
      (piece : Piece) × (over p input old.bound (frame.Ops (past f) ∷ old.below) old.texts x
      ≡ GivesPiece none_spent piece (machine_gives p input new)) × MachineFits new × (pending p new.top ≡ 0)
      × Given new.bound (piece_bytes piece) out n
  Does old new f x out (Ok step.Done) = ⊥
  Does old new f x out (Ok (step.TooDeep call)) = ⊥
  Does old new f x out (Err e) = IsSame old new

  -- the variable of an op is bound, and what is past the op comes next
  pub record Binds (old new : Machine) (f : Ahead) (name : Naming) (to : Held) : Type 0 where
    pub gives : machine_gives p input new
        ≡ over p input (take f.mark old.bound) old.below old.texts (ops_ahead p (past f)
        ((name_or_none (name_there p name), held_means p input (cells_of p input old.bound) to)
        ∷ env_at (cells_of p input old.bound) f.env))
    pub fits : MachineFits new
    pub quiet : pending p new.top ≡ 0
