-- The call at an op: what it hands, and how it is opened.
--
-- Example: `{call a}{param x: 1 /}{/call}` hands the parameter of the number 0, and is opened at the number 1.
use Rattle.std.specs.Prelude.{◌≡◌, ℕ, ◌-◌, ◌<◌, pos, Option, Some, None, slice_get}
use Rattle.template_ir.specs.declared.op.Block.{Block}
use Rattle.template_ir.specs.declared.op.Callee.{Callee}
use Rattle.template_ir.specs.declared.op.Handed.{Handed}
use Rattle.template_ir.specs.declared.op.Op.{Op}
use Rattle.template_ir.specs.declared.op.Op.TheVariants as op
use Rattle.template_ir.specs.declared.program.ProgramParts.{ProgramParts}
use Rattle.template_ir.specs.declared.program.Routine.{Routine}
use Rattle.render_core.specs.Frames.{MachineFits}
use Rattle.render_core.specs.declared.frame.Ahead.{Ahead}
use Rattle.render_core.specs.declared.frame.Frame.TheVariants as frame
use Rattle.render_core.specs.declared.frame.Handing.{Handing}
use Rattle.render_core.specs.declared.stack.Machine.{Machine}

abbrev pub callee_of : Option Op → Option Callee
callee_of (Some (op.Call c)) = Some c
callee_of _ = None

-- what it hands by a number
abbrev pub given_at : ℕ → Option Callee → Option Handed
given_at number None = None
given_at number (Some c) = slice_get c.given number

-- the body of a callee, over the variables that were handed to it
abbrev pub called_child : Ahead → Handing → Block → Ahead
called_child f h body = record {
  at = body.first;
  end = body.end;
  env = h.inner;
  left = f.left - 1;
  number = pos 0;
  mark = h.mark;
}

-- the call on top hands this next
pub record Hands (p : ProgramParts) (m : Machine) (f : Ahead) (h : Handing) (handed : Handed) : Type 0 where
  pub top : m.top ≡ frame.Call f h
  pub fits : MachineFits m
  pub given : given_at h.next (callee_of (slice_get p.ops f.at)) ≡ Some handed

-- the call on top has handed all
pub record Opens (p : ProgramParts) (m : Machine) (f : Ahead) (h : Handing) (c : Callee) : Type 0 where
  pub top : m.top ≡ frame.Call f h
  pub fits : MachineFits m
  pub call : callee_of (slice_get p.ops f.at) ≡ Some c
  pub last : slice_get c.given h.next ≡ None

-- and its template is there, and may be opened
pub record OpensRoutine (p : ProgramParts) (m : Machine) (f : Ahead) (h : Handing) (c : Callee)
    (r : Routine) : Type 0 where
  pub opens : Opens p m f h c
  pub routine : slice_get p.templates c.template ≡ Some r
  pub left : 0 < f.left
