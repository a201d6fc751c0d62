-- The paths of a tree's plan are the ways through the tree.
use Rattle.std.proofs.Common.{◌≡◌, ℕ, List, [], ◌∷◌, ◌++◌, ◌⊎◌, inl, inr, Option, Some, None, refl, sym, ap, ◌∙◌}
use Rattle.std.proofs.Common.{subst}
use Rattle.std.proofs.lemmas.List.{append-nil}
use Rattle.soy_base.specs.declared.fault.Span.{Span}
use Rattle.soy_base.specs.declared.place.ValueClass.{ValueClass}
use Rattle.soy_tree.specs.MessageParts.{MsgPart, MsgParts, ExactArms, NamedArms, SelectArms, TextPart, Placeholder}
use Rattle.soy_tree.specs.MessageParts.{NumberPart, PluralPart, SelectPart, no_part, part, no_exact_arm, exact_arm}
use Rattle.soy_tree.specs.MessageParts.{no_named_arm, named_arm, no_select_arm, select_arm}
use Rattle.soy_tree.specs.MessageText.{MessageItem, Character, Printed, Cut, TextCut, PrintCut, TagCut}
use Rattle.soy_rules.specs.Narrowing.{narrowed}
use Rattle.soy_tree.specs.Nodes.{Node, Nodes, Otherwise, Arms, Cases, Arguments, Given, Message, Fallback, MessageBody}
use Rattle.soy_tree.specs.Nodes.{PluralCases, SelectCases, TextNode, Print, If, Switch, For, Let, LetBlock, Call}
use Rattle.soy_tree.specs.Nodes.{MessageNode, no_node, node, no_otherwise, otherwise, no_arm, arm, no_case, case}
use Rattle.soy_tree.specs.Nodes.{no_argument, argument, Plain, Block, message, no_fallback, fallback, Parts, Plural}
use Rattle.soy_tree.specs.Nodes.{Select, no_plural_case, plural_case, no_select_case, select_case}
use Rattle.soy_rules.specs.Placeholders.{Use}
use Rattle.soy_rules.specs.TypeOf.{Scope, type_of}
use Rattle.soy_base.specs.declared.kind.Kind.{Kind}
use Rattle.soy_meaning.specs.Paths.PathParts.{HolePart, IsPath, PathPart, both, empty_path, first_way, hole, met}
use Rattle.soy_meaning.specs.Paths.PathParts.{no_turn, passed_by, second_way, static_text, turn}
use Rattle.soy_meaning.specs.Paths.Plan.{Plan, Either, Frame, Hole, Loop, Meet, Nothing, Nowhere, Then, any_of}
use Rattle.soy_pieces.specs.Site.{Site}
use Rattle.soy_meaning.specs.Paths.Plan.{arms_meet}
use Rattle.soy_meaning.specs.Paths.PlanOfNodes.{PlanContext, arm_plans, argument_frames, body_plan, body_scope}
use Rattle.soy_meaning.specs.Paths.PlanOfNodes.{case_plans}
use Rattle.soy_meaning.specs.Paths.PlanOfNodes.{fallback_plans, given_frame, node_plan, nodes_plan, other_plan}
use Rattle.soy_meaning.specs.Paths.PlanOfNodes.{plural_plans}
use Rattle.soy_meaning.specs.Paths.PlanOfNodes.{scope_past, select_plans, source_plan, translated_plan}
use Rattle.soy_rules.specs.Placeholders.{uses_of}
use Rattle.soy_pieces.specs.Site.{starts_at}
use Rattle.soy_meaning.specs.Paths.PlanOfParts.{cut_plan, exact_plans, named_plans, part_plan, parts_plan}
use Rattle.soy_rules.specs.Placeholders.{placeholder_cut}
use Rattle.soy_meaning.specs.Paths.PlanOfParts.{printed_classes, select_arm_plans, tag_plan, text_plan}
use Rattle.soy_meaning.specs.Paths.Ways.{IsBoth, IsRepeated, IsWayOfArms, IsWayOfBody, IsWayOfCases, IsWayOfCut}
use Rattle.soy_meaning.specs.Paths.Ways.{IsWayOfExact}
use Rattle.soy_meaning.specs.Paths.Ways.{IsWayOfFallback, IsWayOfMessage, IsWayOfNamed, IsWayOfNode, IsWayOfNodes}
use Rattle.soy_meaning.specs.Paths.Ways.{IsWayOfOther}
use Rattle.soy_meaning.specs.Paths.Ways.{IsWayOfPart, IsWayOfParts, IsWayOfPlural, IsWayOfSelect, IsWayOfTag}
use Rattle.soy_meaning.specs.Paths.Ways.{IsWayOfTranslation, IsWayOfWords, no_more, one_more, text_parts}
use Rattle.soy_meaning.proofs.Paths.SomePaths.{any_first}

-- the paths of the plan are these ways
pub record HasWays (p : Plan) (IsWay : List PathPart → Type 0) : Type 0 where
  pub to : (l : List PathPart) → IsPath p l → IsWay l
  pub from : (l : List PathPart) → IsWay l → IsPath p l

nothing_path : (l : List PathPart) → IsPath Nothing l → l ≡ []
nothing_path l empty_path = refl

nothing_ways : HasWays Nothing (λ l. l ≡ [])
nothing_ways = record { to = nothing_path; from = λ l e. subst (λ z. IsPath Nothing z) (sym e) empty_path }

frame_path : (kind : Kind) (at : Site) (p : Plan) (l : List PathPart) → IsPath (Frame kind at p) l → l ≡ []
frame_path kind at p l passed_by = refl

frame_ways : (kind : Kind) (at : Site) (p : Plan) → HasWays (Frame kind at p) (λ l. l ≡ [])
frame_ways kind at p =
    record { to = frame_path kind at p; from = λ l e. subst (λ z. IsPath (Frame kind at p) z) (sym e) passed_by }

hole_parts : (at : Site) (classes : List ValueClass) (l : List PathPart) → IsPath (Hole at classes) l
    → l ≡ HolePart at classes ∷ []
hole_parts at classes l hole = refl

hole_ways : (at : Site) (classes : List ValueClass) → HasWays (Hole at classes) (λ l. l ≡ HolePart at classes ∷ [])
hole_ways at classes =
    record { to = hole_parts at classes; from = λ l e. subst (λ z. IsPath (Hole at classes) z) (sym e) hole }

text_path_parts : (at : Site) (text : List ℕ) (l : List PathPart) → IsPath (text_plan at text) l → l ≡ text_parts text
text_path_parts at [] l empty_path = refl
text_path_parts at (c ∷ text) l static_text = refl

path_of_text : (at : Site) (text : List ℕ) → IsPath (text_plan at text) (text_parts text)
path_of_text at [] = empty_path
path_of_text at (c ∷ text) = static_text

text_ways : (at : Site) (text : List ℕ) → HasWays (text_plan at text) (λ l. l ≡ text_parts text)
text_ways at text = record {
  to = text_path_parts at text;
  from = λ l e. subst (λ z. IsPath (text_plan at text) z)
      (sym e) (path_of_text at text);
}

then_path_parts : (p q : Plan) (One Other : List PathPart → Type 0) → HasWays p One → HasWays q Other
    → (l : List PathPart) → IsPath (Then p q) l → IsBoth One Other l
then_path_parts p q One Other one other l (both {a = a} {b = b} h k) = (a, b, refl, one.to a h, other.to b k)

then_ways : (p q : Plan) (One Other : List PathPart → Type 0) → HasWays p One → HasWays q Other
    → HasWays (Then p q) (IsBoth One Other)
then_ways p q One Other one other = record {
  to = then_path_parts p q One Other one other;
  from = λ l w. subst (λ z. IsPath (Then p q) z) (sym w.2) (both (one.from w.0 w.3) (other.from w.1 w.4));
}

loop_to : (at : Site) (p : Plan) (One : List PathPart → Type 0) → HasWays p One → (l : List PathPart)
    → IsPath (Loop at p) l → IsRepeated One l
loop_to at p One one l no_turn = no_more
loop_to at p One one l (turn {a = a} {b = b} h k) = one_more (one.to a h) (loop_to at p One one b k)

loop_from : (at : Site) (p : Plan) (One : List PathPart → Type 0) → HasWays p One → (l : List PathPart)
    → IsRepeated One l → IsPath (Loop at p) l
loop_from at p One one l no_more = no_turn
loop_from at p One one l (one_more {a = a} {b = b} h k) = turn (one.from a h) (loop_from at p One one b k)

loop_ways : (at : Site) (p : Plan) (One : List PathPart → Type 0) → HasWays p One → HasWays (Loop at p) (IsRepeated One)
loop_ways at p One one = record { to = loop_to at p One one; from = loop_from at p One one }

-- ---- arms

-- a path of one of these
abbrev IsPathOfAny : List Plan → List PathPart → Type 0
IsPathOfAny [] l = ⊥
IsPathOfAny (p ∷ ps) l = IsPath p l ⊎ IsPathOfAny ps l

record AnyHasWays (ps : List Plan) (IsWay : List PathPart → Type 0) : Type 0 where
  pub to : (l : List PathPart) → IsPathOfAny ps l → IsWay l
  pub from : (l : List PathPart) → IsWay l → IsPathOfAny ps l

either_path : (p q : Plan) (l : List PathPart) → IsPath (Either p q) l → IsPath p l ⊎ IsPath q l
either_path p q l (first_way h) = inl h
either_path p q l (second_way h) = inr h

any_to : (p : Plan) (ps : List Plan) (l : List PathPart) → IsPath (any_of p ps) l → IsPath p l ⊎ IsPathOfAny ps l
any_to p [] l h = inl h
any_to p (q ∷ qs) l h = elim (any_to (Either p q) qs l h) [
  | inl e ↦ elim (either_path p q l e) [ inl a ↦ inl a | inr b ↦ inr (inl b) ]
  | inr r ↦ inr (inr r)
]

any_from : (p : Plan) (ps : List Plan) (l : List PathPart) → IsPathOfAny ps l → IsPath (any_of p ps) l
any_from p [] l h = absurd h
any_from p (q ∷ qs) l (inl h) = any_first (Either p q) qs l (second_way h)
any_from p (q ∷ qs) l (inr h) = any_from (Either p q) qs l h

no_path : (l : List PathPart) → IsPath Nowhere l → ⊥
no_path l h = elim h [ ]

met_path : (at : Site) (p : Plan) (l : List PathPart) → IsPath (Meet at p) l → IsPath p l
met_path at p l (met h) = h

meet_ways : (at : Site) (ps : List Plan) (IsWay : List PathPart → Type 0) → AnyHasWays ps IsWay
    → HasWays (arms_meet at ps) IsWay
meet_ways at ps IsWay any = record {
  to = λ l h. elim (any_to Nowhere ps l (met_path at (any_of Nowhere ps) l h))
      [ inl a ↦ absurd (no_path l a) | inr r ↦ any.to l r ];
  from = λ l w. met (any_from Nowhere ps l (any.from l w));
}

no_ways : AnyHasWays [] (λ l. ⊥)
no_ways = record { to = λ l h. h; from = λ l h. h }

more_ways : (p : Plan) (ps : List Plan) (One Other : List PathPart → Type 0) → HasWays p One → AnyHasWays ps Other
    → AnyHasWays (p ∷ ps) (λ l. One l ⊎ Other l)
more_ways p ps One Other one other = record {
  to = λ l h. elim h [ inl a ↦ inl (one.to l a) | inr b ↦ inr (other.to l b) ];
  from = λ l w. elim w [ inl a ↦ inl (one.from l a) | inr b ↦ inr (other.from l b) ];
}

last_ways : (p : Plan) (One : List PathPart → Type 0) → HasWays p One → AnyHasWays (p ∷ []) One
last_ways p One one = record {
  to = λ l h. elim h [ inl a ↦ one.to l a | inr b ↦ absurd b ];
  from = λ l w. inl (one.from l w);
}

split_any : (ps qs : List Plan) (l : List PathPart) → IsPathOfAny (ps ++ qs) l → IsPathOfAny ps l ⊎ IsPathOfAny qs l
split_any [] qs l h = inr h
split_any (p ∷ ps) qs l (inl h) = inl (inl h)
split_any (p ∷ ps) qs l (inr h) = elim (split_any ps qs l h) [ inl a ↦ inl (inr a) | inr b ↦ inr b ]

join_left : (ps qs : List Plan) (l : List PathPart) → IsPathOfAny ps l → IsPathOfAny (ps ++ qs) l
join_left [] qs l h = absurd h
join_left (p ∷ ps) qs l (inl h) = inl h
join_left (p ∷ ps) qs l (inr h) = inr (join_left ps qs l h)

join_right : (ps qs : List Plan) (l : List PathPart) → IsPathOfAny qs l → IsPathOfAny (ps ++ qs) l
join_right [] qs l h = h
join_right (p ∷ ps) qs l h = inr (join_right ps qs l h)

joined_ways : (ps qs : List Plan) (One Other : List PathPart → Type 0) → AnyHasWays ps One → AnyHasWays qs Other
    → AnyHasWays (ps ++ qs) (λ l. One l ⊎ Other l)
joined_ways ps qs One Other one other = record {
  to = λ l h. elim (split_any ps qs l h) [ inl a ↦ inl (one.to l a) | inr b ↦ inr (other.to l b) ];
  from = λ l w. elim w [ inl a ↦ join_left ps qs l (one.from l a) | inr b ↦ join_right ps qs l (other.from l b) ];
}

-- ---- translations

tag_ways : (scope : Scope) (at : Site) (text : List ℕ) (tag : List MessageItem)
    → HasWays (tag_plan scope at text tag) (IsWayOfTag scope at text tag)
tag_ways scope at text [] = text_ways at text
tag_ways scope at text (Character c span ∷ rest) = tag_ways scope at (text ++ (c ∷ [])) rest
tag_ways scope at text (Printed e phname span ∷ rest) =
    then_ways (text_plan at text) (Then (Hole at (printed_classes e scope)) (tag_plan scope at [] rest))
    (λ a. a ≡ text_parts text)
    (IsBoth (λ a. a ≡ HolePart at (printed_classes e scope) ∷ []) (IsWayOfTag scope at [] rest)) (text_ways at text)
    (then_ways (Hole at (printed_classes e scope)) (tag_plan scope at [] rest)
    (λ a. a ≡ HolePart at (printed_classes e scope) ∷ []) (IsWayOfTag scope at [] rest)
    (hole_ways at (printed_classes e scope)) (tag_ways scope at [] rest))

cut_ways : (scope : Scope) (at : Site) (cut : Option Cut) → HasWays (cut_plan scope at cut) (IsWayOfCut scope at cut)
cut_ways scope at None = nothing_ways
cut_ways scope at (Some (TextCut text)) = nothing_ways
cut_ways scope at (Some (PrintCut e phname span)) = hole_ways at (printed_classes e scope)
cut_ways scope at (Some (TagCut tag)) = tag_ways scope at [] tag

module _ (uses : List Use) (scope : Scope) (at : Site) where
  mutual
    part_ways : (p : MsgPart) → HasWays (part_plan uses scope at p) (IsWayOfPart uses scope at p)
    part_ways (TextPart text) = text_ways at text
    part_ways (Placeholder name) = cut_ways scope at (placeholder_cut name uses uses)
    part_ways NumberPart = hole_ways at _
    part_ways (PluralPart ordinal name offset exact named) =
        meet_ways at (exact_plans uses scope at exact ++ named_plans uses scope at named)
        (IsWayOfPart uses scope at (PluralPart ordinal name offset exact named))
        (joined_ways (exact_plans uses scope at exact) (named_plans uses scope at named)
        (IsWayOfExact uses scope at exact) (IsWayOfNamed uses scope at named) (exact_ways exact) (named_ways named))
    part_ways (SelectPart name arms) = meet_ways at (select_arm_plans uses scope at arms)
        (IsWayOfWords uses scope at arms) (word_ways arms)

    pub parts_ways : (ps : MsgParts) → HasWays (parts_plan uses scope at ps) (IsWayOfParts uses scope at ps)
    parts_ways no_part = nothing_ways
    parts_ways (part p ps) = then_ways (part_plan uses scope at p) (parts_plan uses scope at ps)
        (IsWayOfPart uses scope at p) (IsWayOfParts uses scope at ps) (part_ways p) (parts_ways ps)

    exact_ways : (arms : ExactArms) → AnyHasWays (exact_plans uses scope at arms) (IsWayOfExact uses scope at arms)
    exact_ways no_exact_arm = no_ways
    exact_ways (exact_arm n ps arms) = more_ways (parts_plan uses scope at ps) (exact_plans uses scope at arms)
        (IsWayOfParts uses scope at ps) (IsWayOfExact uses scope at arms) (parts_ways ps) (exact_ways arms)

    named_ways : (arms : NamedArms) → AnyHasWays (named_plans uses scope at arms) (IsWayOfNamed uses scope at arms)
    named_ways no_named_arm = no_ways
    named_ways (named_arm of ps arms) = more_ways (parts_plan uses scope at ps) (named_plans uses scope at arms)
        (IsWayOfParts uses scope at ps) (IsWayOfNamed uses scope at arms) (parts_ways ps) (named_ways arms)

    word_ways : (arms : SelectArms) → AnyHasWays (select_arm_plans uses scope at arms) (IsWayOfWords uses scope at arms)
    word_ways no_select_arm = no_ways
    word_ways (select_arm word ps arms) =
        more_ways (parts_plan uses scope at ps) (select_arm_plans uses scope at arms) (IsWayOfParts uses scope at ps)
        (IsWayOfWords uses scope at arms) (parts_ways ps) (word_ways arms)

translated_ways : (uses : List Use) (scope : Scope) (at : Site) (found : Option MsgParts)
    → AnyHasWays (translated_plan uses scope at found) (IsWayOfTranslation uses scope at found)
translated_ways uses scope at None = no_ways
translated_ways uses scope at (Some parts) = last_ways (parts_plan uses scope at parts)
    (IsWayOfParts uses scope at parts) (parts_ways uses scope at parts)

-- ---- nodes

-- a plan that is passed by behind another
past_ways : (p q : Plan) (One : List PathPart → Type 0) → HasWays p One → HasWays q (λ l. l ≡ [])
    → HasWays (Then p q) One
past_ways p q One one none = record {
  to = λ l h. (let w : IsBoth One (λ b. b ≡ []) l = then_path_parts p q One (λ b. b ≡ []) one none l h in
      subst One (sym (w.2 ∙ (ap (λ z. w.0 ++ z) w.4 ∙ append-nil w.0))) w.3);
  from = λ l w. subst (λ z. IsPath (Then p q) z) (append-nil l) (both (one.from l w) (none.from [] refl));
}

module _ (c : PlanContext) where
  fallback_ways : (other : Fallback) (scope : Scope) (at : Site) → AnyHasWays (fallback_plans c other scope at)
      (IsWayOfFallback c other scope at)
  fallback_ways no_fallback scope at = no_ways
  fallback_ways (fallback m) scope at = translated_ways (uses_of m) scope at (c.translation m)

  given_ways : (given : Given) (span : Span) (scope : Scope) → HasWays (given_frame c given span scope) (λ l. l ≡ [])
  given_ways (Plain e) span scope = nothing_ways
  given_ways (Block kind body) span scope = frame_ways kind _ _

  frames_ways : (given : Arguments) (scope : Scope) → HasWays (argument_frames c given scope) (λ l. l ≡ [])
  frames_ways no_argument scope = nothing_ways
  frames_ways (argument name given span rest) scope = past_ways (given_frame c given span scope)
      (argument_frames c rest scope) (λ l. l ≡ []) (given_ways given span scope) (frames_ways rest scope)

  mutual
    node_ways : (n : Node) (scope : Scope) → HasWays (node_plan c n scope) (IsWayOfNode c n scope)
    node_ways (TextNode text span) scope = text_ways (starts_at c.file span) text
    node_ways (Print e phname span) scope = hole_ways (starts_at c.file span) (printed_classes e scope)
    node_ways (If arms other span) scope =
        meet_ways (starts_at c.file span) (arm_plans c arms scope ++ (other_plan c other scope ∷ []))
        (IsWayOfNode c (If arms other span) scope)
        (joined_ways (arm_plans c arms scope) (other_plan c other scope ∷ []) (IsWayOfArms c arms scope)
        (IsWayOfOther c other scope) (arms_ways arms scope)
        (last_ways (other_plan c other scope) (IsWayOfOther c other scope) (other_ways other scope)))
    node_ways (Switch e cases other span) scope =
        meet_ways (starts_at c.file span) (case_plans c cases scope ++ (other_plan c other scope ∷ []))
        (IsWayOfNode c (Switch e cases other span) scope)
        (joined_ways (case_plans c cases scope) (other_plan c other scope ∷ []) (IsWayOfCases c cases scope)
        (IsWayOfOther c other scope) (cases_ways cases scope)
        (last_ways (other_plan c other scope) (IsWayOfOther c other scope) (other_ways other scope)))
    node_ways (For name index e body span) scope =
        let within : Scope = body_scope name index (type_of e scope) scope in
        loop_ways (starts_at c.file span) (nodes_plan c body within) (IsWayOfNodes c body within)
        (nodes_ways body within)
    node_ways (Let name e span) scope = nothing_ways
    node_ways (LetBlock name kind body span) scope = frame_ways kind _ _
    node_ways (Call name all given span) scope =
        past_ways (Hole (starts_at c.file span) _) (argument_frames c given scope)
        (IsWayOfNode c (Call name all given span) scope) (hole_ways (starts_at c.file span) _)
        (frames_ways given scope)
    node_ways (MessageNode m other span) scope =
        let at : Site = starts_at c.file span in
        let own : List Plan = translated_plan (uses_of m) scope at (c.translation m) in
        let fallbacks : List Plan = fallback_plans c other scope at in
        meet_ways at (source_plan c m scope at ∷ (own ++ fallbacks)) (IsWayOfNode c (MessageNode m other span) scope)
        (more_ways (source_plan c m scope at) (own ++ fallbacks) (IsWayOfMessage c m scope)
        (λ l. IsWayOfTranslation (uses_of m) scope at (c.translation m) l ⊎ IsWayOfFallback c other scope at l)
        (source_ways m scope at)
        (joined_ways own fallbacks (IsWayOfTranslation (uses_of m) scope at (c.translation m))
        (IsWayOfFallback c other scope at) (translated_ways (uses_of m) scope at (c.translation m))
        (fallback_ways other scope at)))

    pub nodes_ways : (ns : Nodes) (scope : Scope) → HasWays (nodes_plan c ns scope) (IsWayOfNodes c ns scope)
    nodes_ways no_node scope = nothing_ways
    nodes_ways (node n ns) scope =
        then_ways (node_plan c n scope) (nodes_plan c ns (scope_past n scope)) (IsWayOfNode c n scope)
        (IsWayOfNodes c ns (scope_past n scope)) (node_ways n scope) (nodes_ways ns (scope_past n scope))

    other_ways : (other : Otherwise) (scope : Scope) → HasWays (other_plan c other scope) (IsWayOfOther c other scope)
    other_ways no_otherwise scope = nothing_ways
    other_ways (otherwise body) scope = nodes_ways body scope

    arms_ways : (arms : Arms) (scope : Scope) → AnyHasWays (arm_plans c arms scope) (IsWayOfArms c arms scope)
    arms_ways no_arm scope = no_ways
    arms_ways (arm e body arms) scope = more_ways (nodes_plan c body (narrowed e scope)) (arm_plans c arms scope)
        (IsWayOfNodes c body (narrowed e scope)) (IsWayOfArms c arms scope) (nodes_ways body (narrowed e scope))
        (arms_ways arms scope)

    cases_ways : (cases : Cases) (scope : Scope) → AnyHasWays (case_plans c cases scope) (IsWayOfCases c cases scope)
    cases_ways no_case scope = no_ways
    cases_ways (case values body cases) scope = more_ways (nodes_plan c body scope) (case_plans c cases scope)
        (IsWayOfNodes c body scope) (IsWayOfCases c cases scope) (nodes_ways body scope) (cases_ways cases scope)

    source_ways : (m : Message) (scope : Scope) (at : Site)
        → HasWays (source_plan c m scope at) (IsWayOfMessage c m scope)
    source_ways (message desc meaning body span) scope at = body_ways body scope at

    body_ways : (body : MessageBody) (scope : Scope) (at : Site)
        → HasWays (body_plan c body scope at) (IsWayOfBody c body scope)
    body_ways (Parts ns) scope at = nodes_ways ns scope
    body_ways (Plural e offset cases other) scope at =
        meet_ways at (plural_plans c cases scope at ++ (body_plan c other scope at ∷ []))
        (IsWayOfBody c (Plural e offset cases other) scope)
        (joined_ways (plural_plans c cases scope at) (body_plan c other scope at ∷ []) (IsWayOfPlural c cases scope)
        (IsWayOfBody c other scope) (plurals_ways cases scope at)
        (last_ways (body_plan c other scope at) (IsWayOfBody c other scope) (body_ways other scope at)))
    body_ways (Select e cases other) scope at =
        meet_ways at (select_plans c cases scope at ++ (body_plan c other scope at ∷ []))
        (IsWayOfBody c (Select e cases other) scope)
        (joined_ways (select_plans c cases scope at) (body_plan c other scope at ∷ []) (IsWayOfSelect c cases scope)
        (IsWayOfBody c other scope) (selects_ways cases scope at)
        (last_ways (body_plan c other scope at) (IsWayOfBody c other scope) (body_ways other scope at)))

    plurals_ways : (cases : PluralCases) (scope : Scope) (at : Site)
        → AnyHasWays (plural_plans c cases scope at) (IsWayOfPlural c cases scope)
    plurals_ways no_plural_case scope at = no_ways
    plurals_ways (plural_case n body cases) scope at =
        more_ways (body_plan c body scope at) (plural_plans c cases scope at) (IsWayOfBody c body scope)
        (IsWayOfPlural c cases scope) (body_ways body scope at) (plurals_ways cases scope at)

    selects_ways : (cases : SelectCases) (scope : Scope) (at : Site)
        → AnyHasWays (select_plans c cases scope at) (IsWayOfSelect c cases scope)
    selects_ways no_select_case scope at = no_ways
    selects_ways (select_case word body cases) scope at =
        more_ways (body_plan c body scope at) (select_plans c cases scope at) (IsWayOfBody c body scope)
        (IsWayOfSelect c cases scope) (body_ways body scope at) (selects_ways cases scope at)
