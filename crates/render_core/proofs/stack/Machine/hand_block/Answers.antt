use Rattle.std.proofs.Common.{◌∙◌, ap, subst, sym}
use Rattle.soy_base.specs.declared.kind.Kind.{Kind}
use Rattle.template_ir.specs.declared.op.HandedBy.TheVariants as by
use Rattle.render_core.specs.Stepping.{IsBlockKind}
use Rattle.render_core.proofs.stack.Machine.hand_block.Goals as goal

pub hand_text-requires-clause-by : goal.hand_text-requires-clause-by
hand_text-requires-clause-by c = c.requires.by ∙ ap (λ (k : Kind). by.Block k c.args.block) c.in-Text.is

pub hand_kept-requires-clause-kind : goal.hand_kept-requires-clause-kind
hand_kept-requires-clause-kind c = subst IsBlockKind (sym c.in-Html.is) tt

pub hand_kept-requires-in-Attributes-clause-kind : goal.hand_kept-requires-in-Attributes-clause-kind
hand_kept-requires-in-Attributes-clause-kind c = subst IsBlockKind (sym c.in-Attributes.is) tt
