-- What a stack of frames gives.
--
-- A frame gives what is left of it, from the variables of all frames. The frames give one after the other, the top
-- first; those below a frame see the variables up to its mark. What stands above a frame that gathers is gathered into
-- a text, which is bound, printed or handed there. Example: above the op `Static "b"` a frame with the op `Static "a"`
-- gives `a` and then `b`.
use Rattle.std.specs.Prelude.{ℕ, ℤ, zero, suc, ◌+◌, ◌≤◌, ◌<◌, pos, List, [], ◌∷◌, Option, Some, None}
use Rattle.std.specs.Prelude.{drop, length, min, slice_get, take}
use Rattle.soy_base.specs.declared.place.Place.{Place}
use Rattle.soy_base.specs.declared.place.Place.TheVariants as place
use Rattle.soy_rules.specs.Val.{Known}
use Rattle.soy_tree.specs.Values.{Items, StringValue, no_item, item}
use Rattle.soy_tree.specs.Values as values
use Rattle.soy_expr.specs.declared.evaluated.Made.TheVariants as made
use Rattle.soy_pieces.specs.Giving.{RunEnv}
use Rattle.soy_pieces.specs.Outcome.{Outcome, RunEnds, WholeRun, continued_by, gathered, gives_nothing}
use Rattle.soy_pieces.specs.Pieces.{listed_items}
use Rattle.template_ir.specs.Ops.{Handed}
use Rattle.template_ir.specs.Run.{OpMeans, all_give, all_handed_give, block_gives, called_at, handed_env}
use Rattle.template_ir.specs.Run.{kind_of_template, one_step, opened_gives, turns_give, value_gives}
use Rattle.template_ir.specs.ViewOps.{view_callee, view_program}
use Rattle.template_ir.specs.declared.op.Block.{Block}
use Rattle.template_ir.specs.declared.op.Callee as code_callee
use Rattle.template_ir.specs.declared.op.Op.{Op}
use Rattle.template_ir.specs.declared.op.Op.TheVariants as op
use Rattle.template_ir.specs.declared.program.ProgramParts.{ProgramParts}
use Rattle.render_core.specs.Variables.{Cell, cell_at, cells_of, env_at, name_or_none, name_there}
use Rattle.render_core.specs.declared.frame.Ahead.{Ahead}
use Rattle.render_core.specs.declared.frame.Frame.{Frame}
use Rattle.render_core.specs.declared.frame.Frame.TheVariants as frame
use Rattle.render_core.specs.declared.frame.Handing.{Handing}
use Rattle.render_core.specs.declared.frame.Purpose.{Purpose}
use Rattle.render_core.specs.declared.frame.Purpose.TheVariants as purpose
use Rattle.render_core.specs.declared.frame.Round.{Round}
use Rattle.render_core.specs.declared.held.Bound.{Bound}
use Rattle.render_core.specs.declared.held.Held.{Held}
use Rattle.render_core.specs.declared.held.Held.TheVariants as held
use Rattle.render_core.specs.declared.held.Naming.TheVariants as naming
use Rattle.render_core.specs.declared.stack.Machine.{Machine}

-- ---- ops

-- what is left past the next op
abbrev pub past : Ahead → Ahead
past f = record f { at = f.at + 1 }

-- the same with other variables
abbrev pub past_with : Ahead → ℕ → Ahead
past_with f n = record f { at = f.at + 1; env = n }

-- a block that the next op names, over so many variables
abbrev pub child_at : Ahead → Block → ℤ → ℕ → Ahead
child_at f b n m = record {
  at = b.first;
  end = min b.end f.at;
  env = f.env;
  left = f.left;
  number = n;
  mark = m;
}

-- the ops from one place up to another, with what `#` stands for
abbrev pub ops_ahead : ProgramParts → Ahead → RunEnv → Outcome
ops_ahead p f env = block_gives (all_give (view_program p) f.left) (record { first = f.at; end = f.end }) f.number env

-- the meanings of the ops before the one at a place
abbrev pub means_before : ProgramParts → ℕ → ℕ → List OpMeans
means_before p left at = take at (all_give (view_program p) left)

-- ---- loops

abbrev pub items_after : ℕ → Items → Items
items_after zero vs = vs
items_after (suc n) no_item = no_item
items_after (suc n) (item v vs) = items_after n vs

abbrev pub turns_of : ProgramParts → List Cell → Round → Option Op → Outcome
turns_of p cells r (Some (op.For name index e body)) =
    turns_give (block_gives (means_before p r.left r.op) body (pos 0)) name index (env_at cells r.env) r.next
    (items_after r.next (listed_items (cell_at cells r.list).part))
turns_of p cells r _ = RunEnds (one_step 0) WholeRun

-- ---- calls

-- a call whose parameters up to a number are handed, with the callee's variables so far
abbrev pub call_after : ProgramParts → Ahead → ℕ → RunEnv → RunEnv → code_callee.Callee → Outcome
call_after p f next env inner c =
    let ms : List OpMeans = means_before p f.left f.at in
    let given : List Handed = drop next (view_callee c).given in
    continued_by (all_handed_give ms given env)
    (opened_gives p.dir c.place (kind_of_template (view_program p) c.template)
    (called_at (view_program p) f.left (view_callee c).site c.template (handed_env ms given env inner)))

abbrev pub call_of : ProgramParts → Ahead → ℕ → RunEnv → RunEnv → Option Op → Outcome
call_of p f next env inner (Some (op.Call c)) =
    continued_by (call_after p f next env inner c) (ops_ahead p (past f) env)
call_of p f next env inner _ = RunEnds (one_step 0) WholeRun

abbrev pub call_place : Option Op → Place
call_place (Some (op.Call c)) = c.place
call_place _ = place.Plain

-- the print of a text by the call at an op, and what follows
abbrev pub shown_by : ProgramParts → Ahead → RunEnv → List ℕ → Outcome
shown_by p f env text =
    continued_by (value_gives p.dir (call_place (slice_get p.ops f.at)) (StringValue text)) (ops_ahead p (past f) env)

-- ---- frames

-- the text that a variable is bound to
abbrev pub text_held : Held → List ℕ
text_held (held.Made (made.Str text)) = text
text_held _ = []

abbrev pub text_bound : Option Bound → List ℕ
text_bound None = []
text_bound (Some b) = text_held b.to

-- what comes after a text that was gathered
abbrev pub after_text : ProgramParts → List Cell → Ahead → Purpose → List ℕ → Outcome
after_text p cells f purpose.Bind text =
    ops_ahead p (past f) ((name_or_none (name_there p (naming.Op f.at)), Known (StringValue text)) ∷ env_at cells f.env)
after_text p cells f purpose.Show text = shown_by p f (env_at cells f.env) text
after_text p cells f (purpose.Hand h) text =
    call_of p f (h.next + 1) (env_at cells f.env)
    ((name_or_none (name_there p (naming.Handed f.at h.next)), Known (StringValue text)) ∷ env_at cells h.inner)
    (slice_get p.ops f.at)

abbrev pub mark_of : Frame → ℕ
mark_of (frame.Ops f) = f.mark
mark_of (frame.Turns r) = r.mark
mark_of (frame.Gather f what) = f.mark
mark_of (frame.Show f at) = f.mark
mark_of (frame.Call f h) = f.mark

module _ (p : ProgramParts) (input : values.Value) where
  abbrev pub frame_gives : List Bound → Frame → Outcome
  frame_gives bound (frame.Ops f) = ops_ahead p f (env_at (cells_of p input bound) f.env)
  frame_gives bound (frame.Turns r) = turns_of p (cells_of p input bound) r (slice_get p.ops r.op)
  frame_gives bound (frame.Gather f what) = after_text p (cells_of p input bound) f what []
  frame_gives bound (frame.Show f at) =
      shown_by p f (env_at (cells_of p input bound) f.env) (text_bound (slice_get bound at))
  frame_gives bound (frame.Call f h) =
      call_of p f h.next (env_at (cells_of p input bound) f.env) (env_at (cells_of p input bound) h.inner)
      (slice_get p.ops f.at)

  -- a frame after what stands above it
  abbrev pub frame_over : List Bound → Frame → List (List ℕ) → Outcome → Outcome
  frame_over bound (frame.Gather f what) (text ∷ texts) o =
      gathered text o (after_text p (cells_of p input bound) f what)
  frame_over bound f texts o = continued_by o (frame_gives bound f)

  abbrev pub texts_past : Frame → List (List ℕ) → List (List ℕ)
  texts_past (frame.Gather f what) (text ∷ texts) = texts
  texts_past f texts = texts

  abbrev pub ended : List (List ℕ) → Outcome → Outcome
  ended [] o = o
  ended (text ∷ texts) o = gathered text o (λ whole. gives_nothing)

  -- frames, the top first, after what stands above them
  abbrev pub over : List Bound → List Frame → List (List ℕ) → Outcome → Outcome
  over bound [] texts o = ended texts o
  over bound (f ∷ fs) texts o = over (take (mark_of f) bound) fs (texts_past f texts) (frame_over bound f texts o)

  abbrev pub machine_gives : Machine → Outcome
  machine_gives m = over m.bound (m.top ∷ m.below) m.texts gives_nothing

-- a frame that doesn't gather
abbrev pub IsPlainFrame : Frame → Type 0
IsPlainFrame (frame.Gather f what) = ⊥
IsPlainFrame _ = Unit {0}

-- ---- how frames fit

-- what a frame names stands among so many variables
abbrev pub CallWithin : ℕ → Ahead → Handing → Type 0
CallWithin n f h = (f.at < f.end) × (f.env ≤ h.mark) × (f.mark ≤ h.mark) × (h.mark ≤ n) × (h.inner ≤ n)

abbrev pub PurposeWithin : ℕ → Ahead → Purpose → Type 0
PurposeWithin n f (purpose.Hand h) = CallWithin n f h
PurposeWithin n f _ = (f.at < f.end) × (f.env ≤ n)

abbrev pub FrameWithin : ℕ → Frame → Type 0
FrameWithin n (frame.Ops f) = f.env ≤ n
FrameWithin n (frame.Turns r) = (r.env ≤ n) × (r.list < n)
FrameWithin n (frame.Gather f what) = PurposeWithin n f what
FrameWithin n (frame.Show f at) = (f.at < f.end) × (f.env ≤ n) × (at < n)
FrameWithin n (frame.Call f h) = CallWithin n f h

-- each frame names variables below the mark of the frame above it, and marks don't rise
abbrev pub FramesFit : List Frame → ℕ → Type 0
FramesFit [] n = Unit {0}
FramesFit (f ∷ fs) n = FrameWithin n f × (mark_of f ≤ n) × FramesFit fs (mark_of f)

abbrev pub MachineFits : Machine → Type 0
MachineFits m = FramesFit (m.top ∷ m.below) (length m.bound)
