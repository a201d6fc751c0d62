-- What is given at once: its bytes whole, of which nothing is left.
-- Example: `{$x}` with `a`, at Text, left to right: the room begins with `<span dir="ltr">a</span>`.
use Rattle.std.specs.Prelude.{◌≡◌, ◌<◌, ℕ, List, [], Some, encode_utf8_all, slice_get, true}
use Rattle.soy_base.specs.declared.direction.Dir.{Dir}
use Rattle.soy_base.specs.declared.place.Place.{Place}
use Rattle.soy_rules.specs.Cost.{cost}
use Rattle.soy_rules.specs.Val.{Binding, Known, val}
use Rattle.soy_tree.specs.Expressions.{Expr}
use Rattle.soy_tree.specs.Values as values
use Rattle.soy_pieces.specs.Giving.{BoundBlock}
use Rattle.template_ir.specs.Run.{value_at}
use Rattle.template_ir.specs.declared.op.Op.{Op}
use Rattle.template_ir.specs.declared.program.ProgramParts.{ProgramParts}
use Rattle.render_core.specs.Frames.{MachineFits}
use Rattle.render_core.specs.Pulls.{Gave}
use Rattle.render_core.specs.Texts.{is_none}
use Rattle.render_core.specs.Variables.{cells_of, env_at}
use Rattle.render_core.specs.declared.frame.Ahead.{Ahead}
use Rattle.render_core.specs.declared.frame.Frame.TheVariants as frame
use Rattle.render_core.specs.declared.held.Bound.{Bound}
use Rattle.render_core.specs.declared.stack.Machine.{Machine}

-- the op is next, and nothing is gathered
pub record IsNext (p : ProgramParts) (m : Machine) (f : Ahead) (o : Op) : Type 0 where
  pub top : m.top ≡ frame.Ops f
  pub fits : MachineFits m
  pub op : slice_get p.ops f.at ≡ Some o
  pub low : f.at < f.end
  pub none : is_none m.texts ≡ true

-- the form at a place of a value that is bound so
abbrev pub GivesBinding : Dir → Binding BoundBlock → Place → List ℕ → List ℕ → ℕ → Type 0
GivesBinding context b point room room_after n =
    (v : values.Value) × (b ≡ Known v) × Gave (encode_utf8_all (value_at context point v)) [] room room_after n

-- the form of what an expression is valued to in two steps, as a field of a variable is
abbrev pub GivesField : ProgramParts → values.Value → List Bound → ℕ → Expr → Place → List ℕ → List ℕ → ℕ → Type 0
GivesField p input bound env e point room room_after n =
    (cost e (env_at (cells_of p input bound) env) ≡ 2)
    × GivesBinding p.dir (val e (env_at (cells_of p input bound) env)) point room room_after n
