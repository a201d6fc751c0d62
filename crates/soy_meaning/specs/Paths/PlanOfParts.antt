-- The plan of a translation: all of it stands at its `{msg` command.
--
-- A placeholder gives what it is in the source: a print, or the texts and prints of a tag, each text of its own. `#` is
-- a printed int. The arms of a plural or select meet, in their order. An empty text gives nothing.
-- Example: in the translation `{START_BOLD}a`, with START_BOLD for `<b>`, the text `<b>` and the text `a` follow one
-- another, so that a `&` at the end of the first is a fault.
use Rattle.std.specs.Prelude.{ℕ, List, [], ◌∷◌, ◌++◌, Option, Some, None, Result, Ok, Err}
use Rattle.soy_base.specs.declared.place.ValueClass.{ValueClass}
use Rattle.soy_base.specs.declared.place.ValueClass.TheVariants as class
use Rattle.soy_tree.specs.Types.{SoyType, NullType, BoolType, IntType, StringType, HtmlType, AttributesType}
use Rattle.soy_rules.specs.Members.{members}
use Rattle.soy_rules.specs.Faults.{TypeFault}
use Rattle.soy_rules.specs.TypeOf.{Scope, type_of}
use Rattle.soy_tree.specs.Expressions.{Expr}
use Rattle.soy_tree.specs.MessageText.{MessageItem, Character, Printed, Cut, TextCut, PrintCut, TagCut}
use Rattle.soy_rules.specs.Placeholders.{Use}
use Rattle.soy_tree.specs.MessageParts.{MsgPart, MsgParts, ExactArms, NamedArms, SelectArms, TextPart, Placeholder}
use Rattle.soy_tree.specs.MessageParts.{NumberPart, PluralPart, SelectPart, no_part, part, no_exact_arm, exact_arm}
use Rattle.soy_tree.specs.MessageParts.{no_named_arm, named_arm, no_select_arm, select_arm}
use Rattle.soy_meaning.specs.Paths.Plan.{Plan, Nothing, StaticText, Hole, Then, arms_meet}
use Rattle.soy_pieces.specs.Site.{Site}
use Rattle.soy_rules.specs.Placeholders.{placeholder_cut}

-- ---- the classes of what is printed

abbrev pub member_classes : SoyType → List ValueClass
member_classes NullType = class.Null ∷ []
member_classes BoolType = class.Bool ∷ []
member_classes IntType = class.Int ∷ []
member_classes StringType = class.Text ∷ []
member_classes HtmlType = class.Html ∷ []
member_classes AttributesType = class.Attributes ∷ []
member_classes _ = []

abbrev pub classes_of_all : List SoyType → List ValueClass
classes_of_all [] = []
classes_of_all (t ∷ ts) = member_classes t ++ classes_of_all ts

-- an expression without a type has no class; a typed tree prints none
abbrev pub known_classes : Result SoyType TypeFault → List ValueClass
known_classes (Ok t) = classes_of_all (members t)
known_classes (Err fault) = []

abbrev pub printed_classes : Expr → Scope → List ValueClass
printed_classes e scope = known_classes (type_of e scope)

-- ---- placeholders

abbrev pub text_plan : Site → List ℕ → Plan
text_plan at [] = Nothing
text_plan at (c ∷ cs) = StaticText at (c ∷ cs)

-- the texts and prints of a tag, behind this text
abbrev pub tag_plan : Scope → Site → List ℕ → List MessageItem → Plan
tag_plan scope at text [] = text_plan at text
tag_plan scope at text (Character c span ∷ rest) = tag_plan scope at (text ++ (c ∷ [])) rest
tag_plan scope at text (Printed e phname span ∷ rest) =
    Then (text_plan at text) (Then (Hole at (printed_classes e scope)) (tag_plan scope at [] rest))

abbrev pub cut_plan : Scope → Site → Option Cut → Plan
cut_plan scope at None = Nothing
cut_plan scope at (Some (TextCut text)) = Nothing
cut_plan scope at (Some (PrintCut e phname span)) = Hole at (printed_classes e scope)
cut_plan scope at (Some (TagCut tag)) = tag_plan scope at [] tag

-- ---- parts

module _ (uses : List Use) (scope : Scope) (at : Site) where
  abbrev mutual
    pub part_plan : MsgPart → Plan
    part_plan (TextPart text) = text_plan at text
    part_plan (Placeholder name) = cut_plan scope at (placeholder_cut name uses uses)
    part_plan NumberPart = Hole at (class.Int ∷ [])
    part_plan (PluralPart ordinal name offset exact named) = arms_meet at (exact_plans exact ++ named_plans named)
    part_plan (SelectPart name arms) = arms_meet at (select_arm_plans arms)

    pub parts_plan : MsgParts → Plan
    parts_plan no_part = Nothing
    parts_plan (part p ps) = Then (part_plan p) (parts_plan ps)

    pub exact_plans : ExactArms → List Plan
    exact_plans no_exact_arm = []
    exact_plans (exact_arm n ps arms) = parts_plan ps ∷ exact_plans arms

    pub named_plans : NamedArms → List Plan
    named_plans no_named_arm = []
    named_plans (named_arm category ps arms) = parts_plan ps ∷ named_plans arms

    pub select_arm_plans : SelectArms → List Plan
    select_arm_plans no_select_arm = []
    select_arm_plans (select_arm word ps arms) = parts_plan ps ∷ select_arm_plans arms
