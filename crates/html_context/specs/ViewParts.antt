-- What the plan of a translation goes by, of a `Source` of the code: the uses of names in the message, the variables
-- and the site.
use Rattle.std.specs.Prelude.{◌≡◌, List, map}
use Rattle.soy_tree.specs.MessageParts.{MsgPart, MsgParts, ExactArms, NamedArms, SelectArms}
use Rattle.soy_rules.specs.Placeholders.{Use}
use Rattle.soy_tree.specs.ViewNodes.{view_message}
use Rattle.soy_expr.specs.ViewScope.{view_vars}
use Rattle.msg_extract.specs.PlaceholderNodes.{placeholders_of}
use Rattle.msg_extract.specs.Views.ViewPlaceholders.{view_placeholder}
use Rattle.soy_meaning.specs.Paths.Plan.{Plan}
use Rattle.soy_rules.specs.Placeholders.{uses_of}
use Rattle.soy_meaning.specs.Paths.PlanOfParts.{exact_plans, named_plans, part_plan, parts_plan, select_arm_plans}
use Rattle.html_context.specs.declared.source.Source.{Source}
use Rattle.html_context.specs.Walks.{view_site}

-- the placeholders are those of the message
abbrev pub IsNamed : Source → Type 0
IsNamed s = map view_placeholder s.placeholders.now ≡ placeholders_of (view_message s.message.now)

abbrev pub source_uses : Source → List Use
source_uses s = uses_of (view_message s.message.now)

abbrev pub plan_of_part : Source → MsgPart → Plan
plan_of_part s = part_plan (source_uses s) (view_vars s.vars.now) (view_site s.at)

abbrev pub plan_of_parts : Source → MsgParts → Plan
plan_of_parts s = parts_plan (source_uses s) (view_vars s.vars.now) (view_site s.at)

abbrev pub plans_of_exact : Source → ExactArms → List Plan
plans_of_exact s = exact_plans (source_uses s) (view_vars s.vars.now) (view_site s.at)

abbrev pub plans_of_named : Source → NamedArms → List Plan
plans_of_named s = named_plans (source_uses s) (view_vars s.vars.now) (view_site s.at)

abbrev pub plans_of_select : Source → SelectArms → List Plan
plans_of_select s = select_arm_plans (source_uses s) (view_vars s.vars.now) (view_site s.at)
