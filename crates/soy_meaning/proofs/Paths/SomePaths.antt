-- Each plan of a tree has a path.
use Rattle.std.proofs.Common.{◌≡◌, ℕ, true, false, List, [], ◌∷◌, ◌++◌, inl, inr, Option, Some, None, refl, subst}
use Rattle.std.proofs.lemmas.Bool.{and_parts}
use Rattle.soy_tree.specs.MessageParts.{MsgPart, MsgParts, NamedArms, SelectArms, TextPart, Placeholder}
use Rattle.soy_tree.specs.MessageParts.{NumberPart, PluralPart, SelectPart, no_part, part}
use Rattle.soy_tree.specs.MessageParts.{no_named_arm, named_arm, no_select_arm, select_arm}
use Rattle.soy_tree.specs.MessageText.{MessageItem, Character, Printed, Cut, TextCut, PrintCut, TagCut}
use Rattle.soy_tree.specs.Nodes.{Node, Nodes, Otherwise, Arguments, Given, Message, MessageBody}
use Rattle.soy_tree.specs.Nodes.{TextNode, Print, If, Switch, For, Let, LetBlock, Call}
use Rattle.soy_tree.specs.Nodes.{MessageNode, no_node, node, no_otherwise, otherwise}
use Rattle.soy_tree.specs.Nodes.{no_argument, argument, Plain, Block, message, Parts, Plural}
use Rattle.soy_tree.specs.Nodes.{Select}
use Rattle.soy_rules.specs.Placeholders.{Use}
use Rattle.soy_rules.specs.TypeOf.{Scope}
use Rattle.soy_base.specs.declared.fault.Span.{Span}
use Rattle.soy_meaning.specs.Paths.PathParts.{IsPath, PathPart, both, empty_path, first_way, hole, met, no_turn}
use Rattle.soy_meaning.specs.Paths.PathParts.{passed_by}
use Rattle.soy_meaning.specs.Paths.PathParts.{second_way, static_text}
use Rattle.soy_meaning.specs.Paths.Plan.{Plan, Nowhere, Then, Either, any_of, arms_meet}
use Rattle.soy_pieces.specs.Site.{Site}
use Rattle.soy_meaning.specs.Paths.PlanOfNodes.{PlanContext, arm_plans, argument_frames, body_plan, case_plans}
use Rattle.soy_meaning.specs.Paths.PlanOfNodes.{fallback_plans}
use Rattle.soy_meaning.specs.Paths.PlanOfNodes.{given_frame, node_plan, nodes_plan, other_plan, plural_plans}
use Rattle.soy_meaning.specs.Paths.PlanOfNodes.{scope_past}
use Rattle.soy_meaning.specs.Paths.PlanOfNodes.{select_plans, source_plan, translation_plans}
use Rattle.soy_pieces.specs.Site.{starts_at}
use Rattle.soy_meaning.specs.Paths.PlanOfParts.{cut_plan, exact_plans, named_plans, part_plan, parts_plan}
use Rattle.soy_rules.specs.Placeholders.{placeholder_cut}
use Rattle.soy_meaning.specs.Paths.PlanOfParts.{select_arm_plans, tag_plan, text_plan}
use Rattle.soy_meaning.specs.Walks.States.{IsMember}
use Rattle.soy_meaning.specs.Runs.TranslationFits.{has_other, has_other_word, part_fits, parts_fit, exact_fit}
use Rattle.soy_meaning.specs.Runs.TranslationFits.{named_fit}
use Rattle.soy_meaning.specs.Runs.TranslationFits.{select_fit}
use Rattle.soy_pieces.specs.Branch.{selector}
use Rattle.std.specs.Prelude.{◌&&◌, is_some}
use Rattle.soy_meaning.proofs.Members.{mem_right}

pub record HasPath (p : Plan) : Type 0 where
  pub parts : List PathPart
  pub path : IsPath p parts

-- ---- arms that stand side by side

pub any_first : (p : Plan) (ps : List Plan) (parts : List PathPart) → IsPath p parts → IsPath (any_of p ps) parts
any_first p [] parts h = h
any_first p (q ∷ qs) parts h = any_first (Either p q) qs parts (first_way h)

pub any_member : (p : Plan) (ps : List Plan) (q : Plan) (parts : List PathPart) → IsMember q ps → IsPath q parts
    → IsPath (any_of p ps) parts
any_member p [] q parts member h = absurd member
any_member p (r ∷ rs) q parts (inl same) h =
    any_first (Either p r) rs parts (second_way (subst (λ z. IsPath z parts) same h))
any_member p (r ∷ rs) q parts (inr member) h = any_member (Either p r) rs q parts member h

-- one of these plans has a path
pub record SomeHasPath (ps : List Plan) : Type 0 where
  pub plan : Plan
  pub member : IsMember plan ps
  pub has : HasPath plan

pub arms_path : (at : Site) (ps : List Plan) → SomeHasPath ps → HasPath (arms_meet at ps)
arms_path at ps some = record {
  parts = some.has.parts;
  path = met (any_member Nowhere ps some.plan some.has.parts some.member some.has.path);
}

some_first : (p : Plan) (ps : List Plan) → HasPath p → SomeHasPath (p ∷ ps)
some_first p ps has = record { plan = p; member = inl refl; has = has }

some_more : (p : Plan) (ps : List Plan) → SomeHasPath ps → SomeHasPath (p ∷ ps)
some_more p ps some = record { plan = some.plan; member = inr some.member; has = some.has }

pub some_last : (ps : List Plan) (p : Plan) → HasPath p → SomeHasPath (ps ++ (p ∷ []))
some_last ps p has = record { plan = p; member = mem_right p ps (p ∷ []) (inl refl); has = has }

some_right : (ps qs : List Plan) → SomeHasPath qs → SomeHasPath (ps ++ qs)
some_right ps qs some = record { plan = some.plan; member = mem_right some.plan ps qs some.member; has = some.has }

pub then_path : (p q : Plan) → HasPath p → HasPath q → HasPath (Then p q)
then_path p q one other = record { parts = one.parts ++ other.parts; path = both one.path other.path }

pub text_path : (at : Site) (text : List ℕ) → HasPath (text_plan at text)
text_path at [] = record { parts = []; path = empty_path }
text_path at (c ∷ text) = record { parts = _; path = static_text }

-- ---- translations

pub tag_path : (scope : Scope) (at : Site) (text : List ℕ) (tag : List MessageItem)
    → HasPath (tag_plan scope at text tag)
tag_path scope at text [] = text_path at text
tag_path scope at text (Character c span ∷ rest) = tag_path scope at (text ++ (c ∷ [])) rest
tag_path scope at text (Printed e phname span ∷ rest) =
    then_path (text_plan at text) _ (text_path at text)
    (then_path _ (tag_plan scope at [] rest) (record { parts = _; path = hole }) (tag_path scope at [] rest))

cut_path : (scope : Scope) (at : Site) (cut : Option Cut) → HasPath (cut_plan scope at cut)
cut_path scope at None = record { parts = []; path = empty_path }
cut_path scope at (Some (TextCut text)) = record { parts = []; path = empty_path }
cut_path scope at (Some (PrintCut e phname span)) = record { parts = _; path = hole }
cut_path scope at (Some (TagCut tag)) = tag_path scope at [] tag

module _ (uses : List Use) (scope : Scope) (at : Site) where
  mutual
    pub part_path : (p : MsgPart) → part_fits uses p ≡ true → HasPath (part_plan uses scope at p)
    part_path (TextPart text) fits = text_path at text
    part_path (Placeholder name) fits = cut_path scope at (placeholder_cut name uses uses)
    part_path NumberPart fits = record { parts = _; path = hole }
    part_path (PluralPart ordinal name offset exact named) fits =
        let parts = and_parts (is_some (selector true name uses uses) && has_other named) (exact_fit uses exact
        && named_fit uses named) fits in
        let head = and_parts (is_some (selector true name uses uses)) (has_other named) parts.0 in
        let rest = and_parts (exact_fit uses exact) (named_fit uses named) parts.1 in
        arms_path at (exact_plans uses scope at exact ++ named_plans uses scope at named)
        (some_right (exact_plans uses scope at exact) (named_plans uses scope at named)
        (named_path named head.1 rest.1))
    part_path (SelectPart name arms) fits =
        let parts = and_parts (is_some (selector false name uses uses) && has_other_word arms) (select_fit uses arms)
        fits in
        let head = and_parts (is_some (selector false name uses uses)) (has_other_word arms) parts.0 in
        arms_path at (select_arm_plans uses scope at arms) (select_arms_path arms head.1 parts.1)

    pub parts_path : (ps : MsgParts) → parts_fit uses ps ≡ true → HasPath (parts_plan uses scope at ps)
    parts_path no_part fits = record { parts = []; path = empty_path }
    parts_path (part p ps) fits =
        let parts = and_parts (part_fits uses p) (parts_fit uses ps) fits in
        then_path (part_plan uses scope at p) (parts_plan uses scope at ps) (part_path p parts.0)
        (parts_path ps parts.1)

    named_path : (arms : NamedArms) → has_other arms ≡ true → named_fit uses arms ≡ true
        → SomeHasPath (named_plans uses scope at arms)
    named_path no_named_arm has fits = let no : ⊥ = cc in absurd no
    named_path (named_arm of ps arms) has fits =
        some_first (parts_plan uses scope at ps) (named_plans uses scope at arms)
        (parts_path ps (and_parts (parts_fit uses ps) (named_fit uses arms) fits).0)

    select_arms_path : (arms : SelectArms) → has_other_word arms ≡ true → select_fit uses arms ≡ true
        → SomeHasPath (select_arm_plans uses scope at arms)
    select_arms_path no_select_arm has fits = let no : ⊥ = cc in absurd no
    select_arms_path (select_arm word ps arms) has fits =
        some_first (parts_plan uses scope at ps) (select_arm_plans uses scope at arms)
        (parts_path ps (and_parts (parts_fit uses ps) (select_fit uses arms) fits).0)

-- ---- nodes

module _ (c : PlanContext) where
  mutual
    pub node_path : (n : Node) (scope : Scope) → HasPath (node_plan c n scope)
    node_path (TextNode text span) scope = text_path (starts_at c.file span) text
    node_path (Print e phname span) scope = record { parts = _; path = hole }
    node_path (If arms other span) scope =
        arms_path (starts_at c.file span) (arm_plans c arms scope ++ (other_plan c other scope ∷ []))
        (some_last (arm_plans c arms scope) (other_plan c other scope) (other_path other scope))
    node_path (Switch e cases other span) scope =
        arms_path (starts_at c.file span) (case_plans c cases scope ++ (other_plan c other scope ∷ []))
        (some_last (case_plans c cases scope) (other_plan c other scope) (other_path other scope))
    node_path (For name index e body span) scope = record { parts = []; path = no_turn }
    node_path (Let name e span) scope = record { parts = []; path = empty_path }
    node_path (LetBlock name kind body span) scope = record { parts = []; path = passed_by }
    node_path (Call name all given span) scope =
        then_path _ (argument_frames c given scope) (record { parts = _; path = hole })
        (record { parts = []; path = frames_path given scope })
    node_path (MessageNode m other span) scope =
        arms_path (starts_at c.file span)
        (source_plan c m scope (starts_at c.file span)
        ∷ (translation_plans c m scope (starts_at c.file span) ++ fallback_plans c other scope
        (starts_at c.file span)))
        (some_first (source_plan c m scope (starts_at c.file span)) _ (source_path m scope (starts_at c.file span)))

    pub nodes_path : (ns : Nodes) (scope : Scope) → HasPath (nodes_plan c ns scope)
    nodes_path no_node scope = record { parts = []; path = empty_path }
    nodes_path (node n ns) scope =
        then_path (node_plan c n scope) (nodes_plan c ns (scope_past n scope)) (node_path n scope)
        (nodes_path ns (scope_past n scope))

    other_path : (o : Otherwise) (scope : Scope) → HasPath (other_plan c o scope)
    other_path no_otherwise scope = record { parts = []; path = empty_path }
    other_path (otherwise body) scope = nodes_path body scope

    -- the path past the frames of arguments is the empty one
    pub frames_path : (given : Arguments) (scope : Scope) → IsPath (argument_frames c given scope) []
    frames_path no_argument scope = empty_path
    frames_path (argument name given span rest) scope = both (given_path given span scope) (frames_path rest scope)

    given_path : (given : Given) (span : Span) (scope : Scope) → IsPath (given_frame c given span scope) []
    given_path (Plain e) span scope = empty_path
    given_path (Block kind body) span scope = passed_by

    source_path : (m : Message) (scope : Scope) (at : Site) → HasPath (source_plan c m scope at)
    source_path (message desc meaning body span) scope at = body_path body scope at

    pub body_path : (b : MessageBody) (scope : Scope) (at : Site) → HasPath (body_plan c b scope at)
    body_path (Parts ns) scope at = nodes_path ns scope
    body_path (Plural e offset cases other) scope at =
        arms_path at (plural_plans c cases scope at ++ (body_plan c other scope at ∷ []))
        (some_last (plural_plans c cases scope at) (body_plan c other scope at) (body_path other scope at))
    body_path (Select e cases other) scope at =
        arms_path at (select_plans c cases scope at ++ (body_plan c other scope at ∷ []))
        (some_last (select_plans c cases scope at) (body_plan c other scope at) (body_path other scope at))
