-- The plan of a translation reads no more of spans than where a fault is: without them it is the plan without
-- positions.
use Rattle.std.proofs.Common.{◌≡◌, List, [], ◌∷◌, ◌++◌, map, Option, Some, None, bytes_eq, refl, sym, ap, ◌∙◌}
use Rattle.std.specs.Prelude.{Result, Ok, Err, option_map}
use Rattle.std.proofs.lemmas.List.{map-append}
use Rattle.soy_tree.specs.Expressions.{Expr}
use Rattle.soy_rules.specs.Faults.{TypeFault}
use Rattle.soy_tree.specs.MessageParts.{MsgPart, MsgParts, ExactArms, NamedArms, SelectArms, TextPart, Placeholder}
use Rattle.soy_tree.specs.MessageParts.{NumberPart, PluralPart, SelectPart, no_part, part, no_exact_arm, exact_arm}
use Rattle.soy_tree.specs.MessageParts.{no_named_arm, named_arm, no_select_arm, select_arm}
use Rattle.soy_tree.specs.MessageText.{Character, Cut, MessageItem, PrintCut, Printed, TagCut, TextCut}
use Rattle.soy_rules.specs.Placeholders.{AsPlaceholder, AsPlural, AsSelect, Role, Use, name_of}
use Rattle.soy_rules.specs.TypeOf.{Scope, type_of}
use Rattle.soy_tree.specs.Types.{Name, SoyType}
use Rattle.soy_meaning.specs.Paths.Plan.{Either, Frame, Hole, Loop, Meet, Nothing, Nowhere, Plan, StaticText, Then}
use Rattle.soy_pieces.specs.Site.{Site}
use Rattle.soy_meaning.specs.Paths.Plan.{any_of, arms_meet, in_turn}
use Rattle.soy_meaning.specs.Paths.PlanOfParts.{cut_plan, exact_plans, known_classes, named_plans, part_plan}
use Rattle.soy_rules.specs.Placeholders.{cut_of_role}
use Rattle.soy_meaning.specs.Paths.PlanOfParts.{parts_plan, printed_classes, select_arm_plans, tag_plan}
use Rattle.soy_rules.specs.Placeholders.{placeholder_cut}
use Rattle.soy_meaning.specs.Paths.PlanOfParts.{text_plan}
use Rattle.alike_files.specs.RunWithoutPositions.{site_without_position}
use Rattle.soy_format.specs.WithoutSpans.{expr_without_spans}
use Rattle.alike_files.proofs.ExpressionTypes.{type_same}
use Rattle.alike_files.proofs.Faults.{first_same, placeless}
use Rattle.alike_files.proofs.MessageCuts.{cut_without_spans, either_same, items_without_spans}
use Rattle.alike_files.proofs.PlaceholderNames.{name_of_same, role_without_spans, uses_without_spans}

abbrev pub plan_placeless : Plan → Plan
plan_placeless Nothing = Nothing
plan_placeless Nowhere = Nowhere
plan_placeless (StaticText at text) = StaticText (site_without_position at) text
plan_placeless (Hole at classes) = Hole (site_without_position at) classes
plan_placeless (Then p q) = Then (plan_placeless p) (plan_placeless q)
plan_placeless (Either p q) = Either (plan_placeless p) (plan_placeless q)
plan_placeless (Meet at p) = Meet (site_without_position at) (plan_placeless p)
plan_placeless (Loop at p) = Loop (site_without_position at) (plan_placeless p)
plan_placeless (Frame kind at p) = Frame kind (site_without_position at) (plan_placeless p)

abbrev pub plans_placeless : List Plan → List Plan
plans_placeless = map plan_placeless

-- ---- plans together

pub in_turn_same : (ps : List Plan) → in_turn (plans_placeless ps) ≡ plan_placeless (in_turn ps)
in_turn_same [] = refl
in_turn_same (p ∷ ps) = ap (λ q. Then (plan_placeless p) q) (in_turn_same ps)

any_of_same : (p : Plan) (ps : List Plan)
    → any_of (plan_placeless p) (plans_placeless ps) ≡ plan_placeless (any_of p ps)
any_of_same p [] = refl
any_of_same p (q ∷ qs) = any_of_same (Either p q) qs

pub arms_meet_same : (at : Site) (arms : List Plan)
    → arms_meet (site_without_position at) (plans_placeless arms) ≡ plan_placeless (arms_meet at arms)
arms_meet_same at arms = ap (λ p. Meet (site_without_position at) p) (any_of_same Nowhere arms)

-- arms in two lists
pub both_meet : (at : Site) (a b a' b' : List Plan) → a' ≡ plans_placeless a → b' ≡ plans_placeless b
    → arms_meet (site_without_position at) (a' ++ b') ≡ plan_placeless (arms_meet at (a ++ b))
both_meet at a b a' b' e h =
    rw (e, h)
    (ap (arms_meet (site_without_position at)) (sym (map-append plan_placeless a b)) ∙ arms_meet_same at (a ++ b))

-- ---- placeholders

known_same : (r : Result SoyType TypeFault) → known_classes (placeless r) ≡ known_classes r
known_same (Ok t) = refl
known_same (Err fault) = refl

pub printed_same : (e : Expr) (scope : Scope) → printed_classes (expr_without_spans e) scope ≡ printed_classes e scope
printed_same e scope = ap known_classes (type_same e scope) ∙ known_same (type_of e scope)

pub text_plan_same : (at : Site) (text : Name)
    → text_plan (site_without_position at) text ≡ plan_placeless (text_plan at text)
text_plan_same at [] = refl
text_plan_same at (c ∷ cs) = refl

role_cut_same : (r : Role) → cut_of_role (role_without_spans r) ≡ option_map cut_without_spans (cut_of_role r)
role_cut_same (AsPlaceholder cut) = refl
role_cut_same (AsPlural e) = refl
role_cut_same (AsSelect e) = refl

pub placeholder_cut_same : (name : Name) (all uses : List Use)
    → placeholder_cut name (uses_without_spans all) (uses_without_spans uses)
    ≡ option_map cut_without_spans (placeholder_cut name all uses)
placeholder_cut_same name all [] = refl
placeholder_cut_same name all (u ∷ uses) =
    rw (name_of_same all u.base u.content)
    (either_same (option_map cut_without_spans) (bytes_eq (name_of all u.base u.content) name) _
    (placeholder_cut name all uses) _ _
    (first_same cut_without_spans (cut_of_role u.role) _ (placeholder_cut name all uses) _ (role_cut_same u.role)
    (placeholder_cut_same name all uses)) (placeholder_cut_same name all uses))

tag_plan_same : (scope : Scope) (at : Site) (text : Name) (items : List MessageItem)
    → tag_plan scope (site_without_position at) text (items_without_spans items)
    ≡ plan_placeless (tag_plan scope at text items)
tag_plan_same scope at text [] = text_plan_same at text
tag_plan_same scope at text (Character c span ∷ rest) = tag_plan_same scope at (text ++ (c ∷ [])) rest
tag_plan_same scope at text (Printed e phname span ∷ rest) =
    rw (text_plan_same at text, printed_same e scope, tag_plan_same scope at [] rest) refl

cut_plan_same : (scope : Scope) (at : Site) (o : Option Cut)
    → cut_plan scope (site_without_position at) (option_map cut_without_spans o)
    ≡ plan_placeless (cut_plan scope at o)
cut_plan_same scope at None = refl
cut_plan_same scope at (Some (TextCut text)) = refl
cut_plan_same scope at (Some (PrintCut e phname span)) = rw (printed_same e scope) refl
cut_plan_same scope at (Some (TagCut tag)) = tag_plan_same scope at [] tag

-- ---- parts

module _ (uses : List Use) (scope : Scope) (at : Site) where
  mutual
    part_same : (p : MsgPart)
        → part_plan (uses_without_spans uses) scope (site_without_position at) p
        ≡ plan_placeless (part_plan uses scope at p)
    part_same (TextPart text) = text_plan_same at text
    part_same (Placeholder name) =
        rw (placeholder_cut_same name uses uses) (cut_plan_same scope at (placeholder_cut name uses uses))
    part_same NumberPart = refl
    part_same (PluralPart ordinal name offset exact named) =
        both_meet at (exact_plans uses scope at exact) (named_plans uses scope at named) _ _ (exact_same exact)
        (named_same named)
    part_same (SelectPart name arms) =
        rw (select_same arms) (arms_meet_same at (select_arm_plans uses scope at arms))

    -- **the plan of a translation**
    pub parts_same : (ps : MsgParts)
        → parts_plan (uses_without_spans uses) scope (site_without_position at) ps
        ≡ plan_placeless (parts_plan uses scope at ps)
    parts_same no_part = refl
    parts_same (part p ps) = rw (part_same p, parts_same ps) refl

    exact_same : (arms : ExactArms)
        → exact_plans (uses_without_spans uses) scope (site_without_position at) arms
        ≡ plans_placeless (exact_plans uses scope at arms)
    exact_same no_exact_arm = refl
    exact_same (exact_arm n ps arms) = rw (parts_same ps, exact_same arms) refl

    named_same : (arms : NamedArms)
        → named_plans (uses_without_spans uses) scope (site_without_position at) arms
        ≡ plans_placeless (named_plans uses scope at arms)
    named_same no_named_arm = refl
    named_same (named_arm category ps arms) = rw (parts_same ps, named_same arms) refl

    select_same : (arms : SelectArms)
        → select_arm_plans (uses_without_spans uses) scope (site_without_position at) arms
        ≡ plans_placeless (select_arm_plans uses scope at arms)
    select_same no_select_arm = refl
    select_same (select_arm word ps arms) = rw (parts_same ps, select_same arms) refl
