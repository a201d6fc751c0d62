-- How a loop begins.
use Rattle.std.specs.Prelude.{◌≡◌, ℕ, ◌+◌, Bool, true, false, List, Option, Some, None, length, min, pos}
use Rattle.soy_expr.specs.declared.evaluated.Made.TheVariants as made
use Rattle.soy_tree.specs.Types.{Name}
use Rattle.soy_tree.specs.declared.expr.Expr as code_expr
use Rattle.template_ir.specs.declared.op.Block.{Block}
use Rattle.template_ir.specs.declared.op.Op.{Op}
use Rattle.template_ir.specs.declared.op.Op.TheVariants as op
use Rattle.template_ir.specs.declared.program.ProgramParts.{ProgramParts}
use Rattle.render_core.specs.Finds.{held_of}
use Rattle.render_core.specs.Linked.{Adds, bound_over}
use Rattle.render_core.specs.declared.frame.Ahead.{Ahead}
use Rattle.render_core.specs.declared.frame.Round.{Round}
use Rattle.render_core.specs.declared.held.Bound.{Bound}
use Rattle.render_core.specs.declared.held.Held.TheVariants as held
use Rattle.render_core.specs.declared.held.Naming.TheVariants as naming
use Rattle.render_core.specs.declared.valuing.Found.{Found}

-- an op that is a loop over this list
abbrev pub IsLoopOver : code_expr.Expr → Op → Type 0
IsLoopOver list (op.For name index e body) = e ≡ list
IsLoopOver list _ = ⊥

-- all turns of the loop at the next op, over so many variables
abbrev pub first_round : Ahead → ℕ → Round
first_round f n = record {
  op = f.at;
  list = n;
  next = 0;
  env = f.env;
  left = f.left;
  mark = n;
}

-- the variable that the list is bound to
abbrev pub list_bound : Found → Bound
list_bound x = bound_over naming.Hidden (held_of x) 0

-- the variables of the next turn, over so many
abbrev pub item_bound : Round → Bound
item_bound r = bound_over (naming.Op r.op) (held.Item r.list r.next) r.env

abbrev pub index_bound : Round → ℕ → Bound
index_bound r env = bound_over (naming.Index r.op) (held.Made (made.Int (pos r.next))) env

pub record AddsIndex (p : ProgramParts) (r : Round) (old new : List Bound) : Type 0 where
  pub between : List Bound
  pub item : Adds p (item_bound r) old between
  pub index : Adds p (index_bound r (length old + 1)) between new

abbrev pub AddsTurn : ProgramParts → Round → Bool → List Bound → List Bound → Type 0
AddsTurn p r true old new = AddsIndex p r old new
AddsTurn p r false old new = Adds p (item_bound r) old new

-- their number
abbrev pub turn_env : Bool → ℕ → ℕ
turn_env true n = n + 1 + 1
turn_env false n = n + 1

-- the loop past its next turn
abbrev pub turned : Round → Round
turned r = record r { next = r.next + 1 }

-- the body in a turn, with the variables of a number
abbrev pub turn_child : Round → Block → ℕ → ℕ → Ahead
turn_child r body env n = record {
  at = body.first;
  end = min body.end r.op;
  env = env;
  left = r.left;
  number = pos 0;
  mark = n;
}

abbrev pub IsNoLoop : Option Op → Type 0
IsNoLoop (Some (op.For name index e body)) = ⊥
IsNoLoop _ = Unit {0}

-- the index and the body of a loop, or that an op is none
abbrev pub LoopAt : Option (Option Name × Block) → Option Op → Type 0
LoopAt (Some found) o = (name : Name) × (e : code_expr.Expr) × (o ≡ Some (op.For name found.0 e found.1))
LoopAt None o = IsNoLoop o
