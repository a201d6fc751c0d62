-- The ops and programs that those of the code stand for.
use Rattle.std.specs.Prelude.{List, map}
use Rattle.soy_tree.specs.ViewExpressions.{view_expr, view_exprs}
use Rattle.soy_tree.specs.ViewTrees.{view_params}
use Rattle.template_ir.specs.Ops.{Branch, Callee, Choice, Handed, HandedBy, Op, Program, Routine, CallOp, ForOp}
use Rattle.template_ir.specs.Ops.{HandedBlock, HandedSame, HandedValue, IfOp, LetBlockOp, LetOp, NumberOp, PluralOp}
use Rattle.template_ir.specs.Ops.{PrintOp, SelectOp, StaticOp, SwitchOp}
use Rattle.template_ir.specs.declared.op.Branch as code_branch
use Rattle.template_ir.specs.declared.op.Callee as code_callee
use Rattle.template_ir.specs.declared.op.Choice as code_choice
use Rattle.template_ir.specs.declared.op.Handed as code_handed
use Rattle.template_ir.specs.declared.op.HandedBy as code_by
use Rattle.template_ir.specs.declared.op.HandedBy.TheVariants as by
use Rattle.template_ir.specs.declared.op.Op as code_op
use Rattle.template_ir.specs.declared.op.Op.TheVariants as op
use Rattle.template_ir.specs.declared.program.ProgramParts as code_parts
use Rattle.template_ir.specs.declared.program.Routine as code_routine

abbrev pub view_branch : code_branch.Branch → Branch
view_branch b = record { when = view_expr b.when; body = b.body }

abbrev pub view_choice : code_choice.Choice → Choice
view_choice c = record { values = view_exprs c.values; body = c.body }

abbrev pub view_by : code_by.HandedBy → HandedBy
view_by (by.Plain e) = HandedValue (view_expr e)
view_by (by.Block kind b) = HandedBlock kind b
view_by by.Same = HandedSame

abbrev pub view_handed : code_handed.Handed → Handed
view_handed h = record { name = h.name; by = view_by h.by }

abbrev pub view_callee : code_callee.Callee → Callee
view_callee c =
    record {
      template = c.template;
      given = map view_handed c.given;
      place = c.place;
      site = record { file = c.file; at = c.at };
    }

abbrev pub view_op : code_op.Op → Op
view_op (op.Static text) = StaticOp text
view_op (op.Print e point) = PrintOp (view_expr e) point
view_op (op.Number point) = NumberOp point
view_op (op.If branches other) = IfOp (map view_branch branches) other
view_op (op.Switch e choices other) = SwitchOp (view_expr e) (map view_choice choices) other
view_op (op.For name index e body) = ForOp name index (view_expr e) body
view_op (op.Let name e) = LetOp name (view_expr e)
view_op (op.LetBlock name kind body) = LetBlockOp name kind body
view_op (op.Call c) = CallOp (view_callee c)
view_op (op.Plural p) = PluralOp (view_expr p.number) p.offset p.ordinal p.exact p.named
view_op (op.Select s) = SelectOp (view_expr s.word) s.arms

abbrev pub view_ops : List code_op.Op → List Op
view_ops = map view_op

abbrev pub view_routine : code_routine.Routine → Routine
view_routine r =
    record { name = r.name; kind = r.kind; private = r.private; params = view_params r.params; body = r.body }

abbrev pub view_program : code_parts.ProgramParts → Program
view_program p =
    record {
      templates = map view_routine p.templates;
      ops = view_ops p.ops;
      direction = p.dir;
      plural = p.plural;
      ordinal = p.ordinal;
    }
