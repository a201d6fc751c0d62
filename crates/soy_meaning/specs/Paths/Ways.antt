-- The ways through a tree, in the words of templates: which texts and holes can follow one another, whatever the data.
--
-- A text gives itself, unless it is empty. A print is a hole of the classes of its type, at its site, and a call one of
-- the callee's kind; those of a translation stand at its message. An if goes one of its arms or its else, where there
-- is none past it; so does a switch. A loop goes its body any number of times. A message goes its source, its
-- translation or its fallback's translation, and in each any arm of a plural or a select. A let gives nothing, and a
-- block's own ways are those of a frame of its own.
-- Example: the ways of `<p {if $x}id="a"{/if}>` are `<p `, `id="a"`, `>` and `<p `, `>`.
use Rattle.std.specs.Prelude.{◌≡◌, ◌⊎◌, ℕ, List, [], ◌∷◌, ◌++◌, Option, Some, None}
use Rattle.soy_base.specs.declared.place.ValueClass.TheVariants as class
use Rattle.soy_tree.specs.MessageParts.{MsgPart, MsgParts, ExactArms, NamedArms, SelectArms, TextPart, Placeholder}
use Rattle.soy_tree.specs.MessageParts.{NumberPart, PluralPart, SelectPart, no_part, part, no_exact_arm, exact_arm}
use Rattle.soy_tree.specs.MessageParts.{no_named_arm, named_arm, no_select_arm, select_arm}
use Rattle.soy_tree.specs.MessageText.{MessageItem, Character, Printed, Cut, PrintCut, TagCut}
use Rattle.soy_rules.specs.Narrowing.{narrowed}
use Rattle.soy_tree.specs.Nodes.{Node, Nodes, Otherwise, Arms, Cases, Message, Fallback, MessageBody, PluralCases}
use Rattle.soy_tree.specs.Nodes.{SelectCases, TextNode, Print, If, Switch, For, Call, MessageNode}
use Rattle.soy_tree.specs.Nodes.{no_node, node, no_otherwise, otherwise, no_arm, arm, no_case, case, message}
use Rattle.soy_tree.specs.Nodes.{no_fallback, fallback, Parts, Plural, Select, no_plural_case, plural_case}
use Rattle.soy_tree.specs.Nodes.{no_select_case, select_case}
use Rattle.soy_rules.specs.Placeholders.{Use}
use Rattle.soy_rules.specs.Templates.{callee}
use Rattle.soy_rules.specs.TypeOf.{Scope, type_of}
use Rattle.soy_meaning.specs.Paths.PathParts.{HolePart, PathPart, StaticPart}
use Rattle.soy_pieces.specs.Site.{Site}
use Rattle.soy_meaning.specs.Paths.PlanOfNodes.{PlanContext, body_scope, called_classes, scope_past}
use Rattle.soy_rules.specs.Placeholders.{uses_of}
use Rattle.soy_pieces.specs.Site.{starts_at}
use Rattle.soy_meaning.specs.Paths.PlanOfParts.{printed_classes}
use Rattle.soy_rules.specs.Placeholders.{placeholder_cut}

abbrev pub text_parts : List ℕ → List PathPart
text_parts [] = []
text_parts (c ∷ cs) = StaticPart (c ∷ cs) ∷ []

-- one way and then another
abbrev pub IsBoth : (List PathPart → Type 0) → (List PathPart → Type 0) → List PathPart → Type 0
IsBoth One Other l = (a : List PathPart) × (b : List PathPart) × (l ≡ a ++ b) × One a × Other b

-- a way any number of times
pub data IsRepeated (One : List PathPart → Type 0) : List PathPart → Type 0 where
  no_more : IsRepeated One []
  one_more : {a b : List PathPart} → One a → IsRepeated One b → IsRepeated One (a ++ b)

-- ---- translations

-- the texts and prints of a tag, behind this text
abbrev pub IsWayOfTag : Scope → Site → List ℕ → List MessageItem → List PathPart → Type 0
IsWayOfTag scope at text [] l = l ≡ text_parts text
IsWayOfTag scope at text (Character c span ∷ rest) l = IsWayOfTag scope at (text ++ (c ∷ [])) rest l
IsWayOfTag scope at text (Printed e phname span ∷ rest) l =
    IsBoth (λ a. a ≡ text_parts text)
    (IsBoth (λ a. a ≡ HolePart at (printed_classes e scope) ∷ []) (IsWayOfTag scope at [] rest)) l

abbrev pub IsWayOfCut : Scope → Site → Option Cut → List PathPart → Type 0
IsWayOfCut scope at (Some (PrintCut e phname span)) l = l ≡ HolePart at (printed_classes e scope) ∷ []
IsWayOfCut scope at (Some (TagCut tag)) l = IsWayOfTag scope at [] tag l
IsWayOfCut scope at _ l = l ≡ []

module _ (uses : List Use) (scope : Scope) (at : Site) where
  abbrev mutual
    pub IsWayOfPart : MsgPart → List PathPart → Type 0
    IsWayOfPart (TextPart text) l = l ≡ text_parts text
    IsWayOfPart (Placeholder name) l = IsWayOfCut scope at (placeholder_cut name uses uses) l
    IsWayOfPart NumberPart l = l ≡ HolePart at (class.Int ∷ []) ∷ []
    IsWayOfPart (PluralPart ordinal name offset exact named) l = IsWayOfExact exact l ⊎ IsWayOfNamed named l
    IsWayOfPart (SelectPart name arms) l = IsWayOfWords arms l

    pub IsWayOfParts : MsgParts → List PathPart → Type 0
    IsWayOfParts no_part l = l ≡ []
    IsWayOfParts (part p ps) l = IsBoth (IsWayOfPart p) (IsWayOfParts ps) l

    pub IsWayOfExact : ExactArms → List PathPart → Type 0
    IsWayOfExact no_exact_arm l = ⊥
    IsWayOfExact (exact_arm n ps arms) l = IsWayOfParts ps l ⊎ IsWayOfExact arms l

    pub IsWayOfNamed : NamedArms → List PathPart → Type 0
    IsWayOfNamed no_named_arm l = ⊥
    IsWayOfNamed (named_arm category ps arms) l = IsWayOfParts ps l ⊎ IsWayOfNamed arms l

    pub IsWayOfWords : SelectArms → List PathPart → Type 0
    IsWayOfWords no_select_arm l = ⊥
    IsWayOfWords (select_arm word ps arms) l = IsWayOfParts ps l ⊎ IsWayOfWords arms l

abbrev pub IsWayOfTranslation : List Use → Scope → Site → Option MsgParts → List PathPart → Type 0
IsWayOfTranslation uses scope at None l = ⊥
IsWayOfTranslation uses scope at (Some parts) l = IsWayOfParts uses scope at parts l

-- ---- nodes

module _ (c : PlanContext) where
  abbrev pub IsWayOfFallback : Fallback → Scope → Site → List PathPart → Type 0
  IsWayOfFallback no_fallback scope at l = ⊥
  IsWayOfFallback (fallback m) scope at l = IsWayOfTranslation (uses_of m) scope at (c.translation m) l

  abbrev mutual
    pub IsWayOfNode : Node → Scope → List PathPart → Type 0
    IsWayOfNode (TextNode text span) scope l = l ≡ text_parts text
    IsWayOfNode (Print e phname span) scope l =
        l ≡ HolePart (starts_at c.file span) (printed_classes e scope) ∷ []
    IsWayOfNode (If arms other span) scope l = IsWayOfArms arms scope l ⊎ IsWayOfOther other scope l
    IsWayOfNode (Switch e cases other span) scope l = IsWayOfCases cases scope l ⊎ IsWayOfOther other scope l
    IsWayOfNode (For name index e body span) scope l =
        IsRepeated (IsWayOfNodes body (body_scope name index (type_of e scope) scope)) l
    IsWayOfNode (Call name all given span) scope l =
        l ≡ HolePart (starts_at c.file span) (called_classes (callee c.declared c.namespace name)) ∷ []
    IsWayOfNode (MessageNode m other span) scope l =
        IsWayOfMessage m scope l
        ⊎ (IsWayOfTranslation (uses_of m) scope (starts_at c.file span) (c.translation m) l
        ⊎ IsWayOfFallback other scope (starts_at c.file span) l)
    IsWayOfNode _ scope l = l ≡ []

    pub IsWayOfNodes : Nodes → Scope → List PathPart → Type 0
    IsWayOfNodes no_node scope l = l ≡ []
    IsWayOfNodes (node n ns) scope l = IsBoth (IsWayOfNode n scope) (IsWayOfNodes ns (scope_past n scope)) l

    pub IsWayOfOther : Otherwise → Scope → List PathPart → Type 0
    IsWayOfOther no_otherwise scope l = l ≡ []
    IsWayOfOther (otherwise body) scope l = IsWayOfNodes body scope l

    pub IsWayOfArms : Arms → Scope → List PathPart → Type 0
    IsWayOfArms no_arm scope l = ⊥
    IsWayOfArms (arm e body arms) scope l = IsWayOfNodes body (narrowed e scope) l ⊎ IsWayOfArms arms scope l

    pub IsWayOfCases : Cases → Scope → List PathPart → Type 0
    IsWayOfCases no_case scope l = ⊥
    IsWayOfCases (case values body cases) scope l = IsWayOfNodes body scope l ⊎ IsWayOfCases cases scope l

    pub IsWayOfMessage : Message → Scope → List PathPart → Type 0
    IsWayOfMessage (message desc meaning body span) scope l = IsWayOfBody body scope l

    pub IsWayOfBody : MessageBody → Scope → List PathPart → Type 0
    IsWayOfBody (Parts ns) scope l = IsWayOfNodes ns scope l
    IsWayOfBody (Plural e offset cases other) scope l = IsWayOfPlural cases scope l ⊎ IsWayOfBody other scope l
    IsWayOfBody (Select e cases other) scope l = IsWayOfSelect cases scope l ⊎ IsWayOfBody other scope l

    pub IsWayOfPlural : PluralCases → Scope → List PathPart → Type 0
    IsWayOfPlural no_plural_case scope l = ⊥
    IsWayOfPlural (plural_case n body cases) scope l = IsWayOfBody body scope l ⊎ IsWayOfPlural cases scope l

    pub IsWayOfSelect : SelectCases → Scope → List PathPart → Type 0
    IsWayOfSelect no_select_case scope l = ⊥
    IsWayOfSelect (select_case word body cases) scope l = IsWayOfBody body scope l ⊎ IsWayOfSelect cases scope l
