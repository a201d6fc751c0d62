-- What variables stand for: their names, which stand in the program, and what they are bound to, a value that was made,
-- a part of the data, or a block.
--
-- Each variable is made from those before it: a part by the way down from another, a block by the variables where it is
-- written. The variables of a number are none where it is 0, and else the one that stands one below it, with those that
-- it stands over. Example: after `{let $a: 1 /}` and `{let $b: 2 /}` two variables stand for `b` over `a`.
use Rattle.std.specs.Prelude.{ℕ, zero, suc, pos, List, [], ◌∷◌, Option, Some, None, if◌then◌else◌}
use Rattle.std.specs.Prelude.{slice_get, slice_index_or}
use Rattle.soy_tree.specs.Types.{Name}
use Rattle.soy_rules.specs.Val.{Binding, BlockOf, Known}
use Rattle.soy_tree.specs.Values.{Value, NullValue}
use Rattle.soy_tree.specs.declared.tree.Param.{Param}
use Rattle.soy_expr.specs.Parts.{child}
use Rattle.soy_expr.specs.ViewEvaluated.{view_made}
use Rattle.soy_pieces.specs.Giving.{BoundBlock, RunEnv}
use Rattle.template_ir.specs.Run.{all_give, block_gives}
use Rattle.soy_base.specs.Table.{table}
use Rattle.template_ir.specs.ViewOps.{view_program}
use Rattle.template_ir.specs.declared.op.Handed.{Handed}
use Rattle.template_ir.specs.declared.op.Op.{Op}
use Rattle.template_ir.specs.declared.op.Op.TheVariants as op
use Rattle.template_ir.specs.declared.program.ProgramParts.{ProgramParts}
use Rattle.template_ir.specs.declared.program.Routine.{Routine}
use Rattle.render_core.specs.Keys.{fits_key}
use Rattle.render_core.specs.declared.held.Bound.{Bound}
use Rattle.render_core.specs.declared.held.Held.{Held}
use Rattle.render_core.specs.declared.held.Held.TheVariants as held
use Rattle.render_core.specs.declared.held.Kept.{Kept}
use Rattle.render_core.specs.declared.held.Naming.{Naming}
use Rattle.render_core.specs.declared.held.Naming.TheVariants as naming
use Rattle.render_core.specs.declared.held.Path.{Path}
use Rattle.render_core.specs.declared.held.Path.TheVariants as path

-- ---- names

abbrev pub op_name : Op → Option Name
op_name (op.For name index e body) = Some name
op_name (op.Let name e) = Some name
op_name (op.LetBlock name kind body) = Some name
op_name _ = None

abbrev pub index_name : Op → Option Name
index_name (op.For name index e body) = index
index_name _ = None

abbrev pub handed_of : Option Handed → Option Name
handed_of None = None
handed_of (Some h) = Some h.name

abbrev pub handed_name : ℕ → Op → Option Name
handed_name number (op.Call c) = handed_of (slice_get c.given number)
handed_name number _ = None

abbrev pub name_of_param : Option Param → Option Name
name_of_param None = None
name_of_param (Some param) = Some param.name

abbrev pub param_name : ℕ → Option Routine → Option Name
param_name number None = None
param_name number (Some r) = name_of_param (slice_get r.params number)

abbrev pub of_op : (Op → Option Name) → Option Op → Option Name
of_op name None = None
of_op name (Some o) = name o

abbrev pub name_there : ProgramParts → Naming → Option Name
name_there p naming.Hidden = None
name_there p (naming.Op at) = of_op op_name (slice_get p.ops at)
name_there p (naming.Index at) = of_op index_name (slice_get p.ops at)
name_there p (naming.Handed at number) = of_op (handed_name number) (slice_get p.ops at)
name_there p (naming.Param template number) = param_name number (slice_get p.templates template)

abbrev pub name_or_none : Option Name → Name
name_or_none None = []
name_or_none (Some name) = name

-- ---- parts of the data

-- a variable: the part of the data that it is bound to, or null, and the variables from it down
pub record Cell : Type 0 where
  pub part : Value
  pub env : RunEnv

-- the part to which numbers lead
abbrev pub led : List ℕ → Value → Value
led [] v = v
led (n ∷ ns) v = led ns (child n v)

abbrev pub cell_at : List Cell → ℕ → Cell
cell_at cells n = slice_index_or cells n (record { part = NullValue; env = [] })

-- the place of the variable from which a path leads, and the numbers on the way down
abbrev pub path_of : Path → ℕ
path_of (path.Whole of) = of
path_of (path.Child of number) = of
path_of (path.Deep of steps) = of

abbrev pub path_steps : Path → List ℕ
path_steps (path.Whole of) = []
path_steps (path.Child of number) = number ∷ []
path_steps (path.Deep of steps) = steps.items

abbrev pub path_value : List Cell → Path → Value
path_value cells path = led (path_steps path) (cell_at cells (path_of path)).part

abbrev pub env_at : List Cell → ℕ → RunEnv
env_at cells zero = []
env_at cells (suc n) = (cell_at cells n).env

abbrev pub part_held : Value → List Cell → Held → Value
part_held input cells held.Root = input
part_held input cells (held.Item of number) = child number (cell_at cells of).part
part_held input cells (held.Part path) = path_value cells path
part_held input cells _ = NullValue

-- ---- variables

abbrev pub kept_means : ProgramParts → List Cell → Kept → BoundBlock
kept_means p cells kept =
    record {
      kind = kept.kind;
      outcome = block_gives (all_give (view_program p) kept.left) kept.block (pos 0)
          (env_at cells kept.env);
    }

abbrev pub held_means : ProgramParts → Value → List Cell → Held → Binding BoundBlock
held_means p input cells (held.Made made) = Known (view_made made)
held_means p input cells (held.Block kept) = BlockOf (kept_means p cells kept)
held_means p input cells held.Root = Known input
held_means p input cells (held.Item of number) = Known (child number (cell_at cells of).part)
held_means p input cells (held.Part path) = Known (path_value cells path)

-- from those before it; it isn't visible where it has the fingerprint or the key of another name
abbrev pub bound_means : ProgramParts → Value → List Cell → Bound → Cell
bound_means p input cells b =
    record {
      part = part_held input cells b.to;
      env = if fits_key b.links (name_or_none (name_there p b.name))
          then (name_or_none (name_there p b.name), held_means p input cells b.to) ∷ env_at cells b.below
          else env_at cells b.below;
    }

unfoldable pub cells_of : ProgramParts → Value → List Bound → List Cell
cells_of p input bound = table (bound_means p input) bound
