-- Ops and programs, as plain data.
--
-- An op is what a program does at one point. The blocks that it names, ranges of the program's ops, stand before it.
-- Example: `{if $x}a{/if}` is the op `IfOp` of one branch, whose block is the op `StaticOp "a"`.
use Rattle.std.specs.Prelude.{ℕ, Bool, List, Option}
use Rattle.soy_base.specs.declared.direction.Dir.{Dir}
use Rattle.soy_base.specs.declared.kind.Kind.{Kind}
use Rattle.soy_base.specs.declared.place.Place.{Place}
use Rattle.plural_rules.specs.Condition.{Alternatives}
use Rattle.plural_rules.specs.declared.category.Category.{Category}
use Rattle.soy_tree.specs.Types.{Name}
use Rattle.soy_tree.specs.Expressions.{Expr}
use Rattle.soy_tree.specs.Trees.{Param}
use Rattle.soy_pieces.specs.Site.{Site}
use Rattle.template_ir.specs.declared.op.Block.{Block}
use Rattle.template_ir.specs.declared.op.ExactBlock.{ExactBlock}
use Rattle.template_ir.specs.declared.op.NamedBlock.{NamedBlock}
use Rattle.template_ir.specs.declared.op.WordBlock.{WordBlock}

pub record Branch : Type 0 where
  pub when : Expr
  pub body : Block

pub record Choice : Type 0 where
  pub values : List Expr
  pub body : Block

-- what a parameter of a callee is handed: a value, a block, or what the same name means to the caller
pub data HandedBy : Type 0 where
  HandedValue : Expr → HandedBy
  HandedBlock : Kind → Block → HandedBy
  HandedSame : HandedBy

pub record Handed : Type 0 where
  pub name : Name
  pub by : HandedBy

-- the number of the template, what is handed in the order in which it is valued, the place, and where the call stands
pub record Callee : Type 0 where
  pub template : ℕ
  pub given : List Handed
  pub place : Place
  pub site : Site

pub data Op : Type 0 where
  StaticOp : List ℕ → Op
  PrintOp : Expr → Place → Op
  -- `#`
  NumberOp : Place → Op
  IfOp : List Branch → Option Block → Op
  SwitchOp : Expr → List Choice → Option Block → Op
  -- the variable, that of the index, the list, the body
  ForOp : Name → Option Name → Expr → Block → Op
  LetOp : Name → Expr → Op
  LetBlockOp : Name → Kind → Block → Op
  CallOp : Callee → Op
  -- the number, the offset, whether it is ordinal, the arms for numbers and those for categories
  PluralOp : Expr → ℕ → Bool → List ExactBlock → List NamedBlock → Op
  SelectOp : Expr → List WordBlock → Op

-- a template, under its full name
pub record Routine : Type 0 where
  pub name : Name
  pub kind : Kind
  pub private : Bool
  pub params : List Param
  pub body : Block

pub record Program : Type 0 where
  pub templates : List Routine
  pub ops : List Op
  pub direction : Dir
  pub plural : List (Category × Alternatives)
  pub ordinal : List (Category × Alternatives)
