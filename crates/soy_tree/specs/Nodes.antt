-- Nodes of a template's body and the messages among them, as plain data, each with the span in which it stands.
-- A command that may lack its last part (the else of an if, the default of a switch, the fallback of a message) says
-- so.
-- Example: `{if $a}x{/if}` is `If (arm (Variable a ..) (node (TextNode x ..) no_node) no_arm) no_otherwise ..`.
use Rattle.std.specs.Prelude.{ℕ, ℤ, Bool, List, Option}
use Rattle.soy_base.specs.declared.fault.Span.{Span}
use Rattle.soy_base.specs.declared.kind.Kind.{Kind}
use Rattle.soy_tree.specs.Types.{Name}
use Rattle.soy_tree.specs.Expressions.{Expr}

mutual
  pub data Node : Type 0 where
    TextNode : List ℕ → Span → Node
    -- a printed expression, and its `phname`
    Print : Expr → Option Name → Span → Node
    If : Arms → Otherwise → Span → Node
    Switch : Expr → Cases → Otherwise → Span → Node
    -- the variable, that of the index, the list, the body
    For : Name → Option Name → Expr → Nodes → Span → Node
    Let : Name → Expr → Span → Node
    LetBlock : Name → Kind → Nodes → Span → Node
    -- the callee's name without a leading dot, whether `data="all"` is there, the params
    Call : Name → Bool → Arguments → Span → Node
    MessageNode : Message → Fallback → Span → Node

  pub data Nodes : Type 0 where
    no_node : Nodes
    node : Node → Nodes → Nodes

  pub data Otherwise : Type 0 where
    no_otherwise : Otherwise
    otherwise : Nodes → Otherwise

  pub data Arms : Type 0 where
    no_arm : Arms
    arm : Expr → Nodes → Arms → Arms

  pub data Cases : Type 0 where
    no_case : Cases
    case : List Expr → Nodes → Cases → Cases

  pub data Arguments : Type 0 where
    no_argument : Arguments
    argument : Name → Given → Span → Arguments → Arguments

  pub data Given : Type 0 where
    Plain : Expr → Given
    Block : Kind → Nodes → Given

  pub data Message : Type 0 where
    -- the description, the meaning, what it holds
    message : List ℕ → List ℕ → MessageBody → Span → Message

  pub data Fallback : Type 0 where
    no_fallback : Fallback
    fallback : Message → Fallback

  pub data MessageBody : Type 0 where
    Parts : Nodes → MessageBody
    -- the selector, the offset, the cases, the default
    Plural : Expr → ℕ → PluralCases → MessageBody → MessageBody
    Select : Expr → SelectCases → MessageBody → MessageBody

  pub data PluralCases : Type 0 where
    no_plural_case : PluralCases
    plural_case : ℤ → MessageBody → PluralCases → PluralCases

  pub data SelectCases : Type 0 where
    no_select_case : SelectCases
    select_case : List ℕ → MessageBody → SelectCases → SelectCases
