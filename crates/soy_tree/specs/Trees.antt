-- The trees of files, as plain data.
-- A parameter has its type as written; one that isn't required also takes null.
use Rattle.std.specs.Prelude.{Bool, List}
use Rattle.soy_base.specs.declared.fault.Span.{Span}
use Rattle.soy_base.specs.declared.kind.Kind.{Kind}
use Rattle.soy_tree.specs.Types.{Name, SoyType}
use Rattle.soy_tree.specs.Nodes.{Nodes}

pub record Param : Type 0 where
  pub name : Name
  pub of : SoyType
  pub required : Bool
  pub span : Span

pub record Template : Type 0 where
  pub name : Name
  pub kind : Kind
  pub private : Bool
  pub params : List Param
  pub body : Nodes
  pub span : Span

pub record Tree : Type 0 where
  pub namespace : Name
  pub templates : List Template
