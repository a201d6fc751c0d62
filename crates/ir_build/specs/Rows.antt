-- Single branches, cases and arms, what is handed, and the ops of plurals and selects.
use Rattle.std.specs.Prelude.{ℕ, ℤ, Bool, List}
use Rattle.plural_rules.specs.declared.category.Category.{Category}
use Rattle.soy_tree.specs.Expressions.{Expr}
use Rattle.soy_tree.specs.Types.{Name}
use Rattle.template_ir.specs.Ops.{Branch, Choice, Handed, HandedBy, Op, PluralOp, SelectOp}
use Rattle.template_ir.specs.declared.op.Block.{Block}
use Rattle.template_ir.specs.declared.op.ExactBlock.{ExactBlock}
use Rattle.template_ir.specs.declared.op.NamedBlock.{NamedBlock}
use Rattle.template_ir.specs.declared.op.WordBlock.{WordBlock}

abbrev pub branch : Expr → Block → Branch
branch when b = record { when = when; body = b }

abbrev pub choice : List Expr → Block → Choice
choice values b = record { values = values; body = b }

abbrev pub exact_block : ℤ → Block → ExactBlock
exact_block is b = record { is = is; body = b }

abbrev pub named_block : Category → Block → NamedBlock
named_block category b = record { category = category; body = b }

abbrev pub word_block : List ℕ → Block → WordBlock
word_block is b = record { is = is; body = b }

abbrev pub handed_as : Name → HandedBy → Handed
handed_as name by = record { name = name; by = by }

abbrev pub plural_op : Expr → ℕ → Bool → List ExactBlock → List NamedBlock → Op
plural_op e offset ordinal exact named = PluralOp e offset ordinal exact named

abbrev pub select_op : Expr → List WordBlock → Op
select_op e arms = SelectOp e arms
