-- The parts of a translation, as plain data, in the order of its text; a plural has its arms for single numbers first.
-- Example: `{N, plural, other {#}}` is one plural part without exact arms, whose arm for other holds the number.
use Rattle.std.specs.Prelude.{ℕ, ℤ, Bool, List}
use Rattle.plural_rules.specs.declared.category.Category.{Category}
use Rattle.soy_tree.specs.Types.{Name}

mutual
  pub data MsgPart : Type 0 where
    TextPart : List ℕ → MsgPart
    Placeholder : Name → MsgPart
    -- `#`
    NumberPart : MsgPart
    -- whether it is ordinal, the selector's name, the offset, the arms for numbers and those for categories
    PluralPart : Bool → Name → ℕ → ExactArms → NamedArms → MsgPart
    SelectPart : Name → SelectArms → MsgPart

  pub data MsgParts : Type 0 where
    no_part : MsgParts
    part : MsgPart → MsgParts → MsgParts

  pub data ExactArms : Type 0 where
    no_exact_arm : ExactArms
    exact_arm : ℤ → MsgParts → ExactArms → ExactArms

  pub data NamedArms : Type 0 where
    no_named_arm : NamedArms
    named_arm : Category → MsgParts → NamedArms → NamedArms

  pub data SelectArms : Type 0 where
    no_select_arm : SelectArms
    select_arm : List ℕ → MsgParts → SelectArms → SelectArms
