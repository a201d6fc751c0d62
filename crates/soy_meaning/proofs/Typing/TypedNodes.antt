-- What the checker demands of nodes, part by part.
use Rattle.std.proofs.Common.{◌≡◌, Bool, true, false, List, [], ◌∷◌, Option, Some, None, if◌then◌else◌}
use Rattle.std.specs.Prelude.{bytes_eq, is_some, not, ◌&&◌, ◌||◌, Ok, Result}
use Rattle.soy_base.specs.declared.fault.Span.{Span}
use Rattle.soy_rules.specs.Accepts.{accepts}
use Rattle.soy_rules.specs.Bodies.{Around, is_printed, param_of}
use Rattle.soy_tree.specs.Expressions.{Expr}
use Rattle.soy_tree.specs.Formed.{is_formed_expr}
use Rattle.soy_tree.specs.MessageText.{MessageItem, Character, Printed, Cut, PrintCut, TagCut}
use Rattle.soy_rules.specs.Narrowing.{narrowed}
use Rattle.soy_tree.specs.Nodes.{Node, Nodes, Otherwise, Arms, Cases, Arguments, Given, Message, Fallback, MessageBody}
use Rattle.soy_tree.specs.Nodes.{PluralCases, SelectCases, TextNode, Print, If, Switch, For, Let, LetBlock, Call}
use Rattle.soy_tree.specs.Nodes.{MessageNode, no_node, node, no_otherwise, otherwise, no_arm, arm, no_case, case}
use Rattle.soy_tree.specs.Nodes.{no_argument, argument, Plain, Block, message, no_fallback, fallback, Parts, Plural}
use Rattle.soy_tree.specs.Nodes.{Select, no_plural_case, plural_case, no_select_case, select_case}
use Rattle.soy_rules.specs.Placeholders.{Use}
use Rattle.soy_rules.specs.Templates.{Declared, callee, kind_type, param_type}
use Rattle.soy_tree.specs.Trees.{Param}
use Rattle.soy_rules.specs.Faults.{TypeFault, followed_by}
use Rattle.soy_rules.specs.Members.{has_block, joined, type_without_null}
use Rattle.soy_rules.specs.TypeOf.{Scope, choice_type, fitting, type_of, variable_type}
use Rattle.soy_tree.specs.Types.{Name, SoyType, ListType}
use Rattle.soy_meaning.specs.Paths.PlanOfNodes.{body_scope, scope_past}
use Rattle.soy_rules.specs.Placeholders.{cut_of_role}

-- ---- expressions

pub record HasType (e : Expr) (scope : Scope) : Type 0 where
  pub of : SoyType
  pub formed : is_formed_expr e ≡ true
  pub typed : type_of e scope ≡ Ok of

pub record IsPrintable (e : Expr) (scope : Scope) : Type 0 where
  pub of : SoyType
  pub formed : is_formed_expr e ≡ true
  pub typed : type_of e scope ≡ Ok of
  pub printed : is_printed of ≡ true

pub record IsListed (e : Expr) (scope : Scope) : Type 0 where
  pub each : SoyType
  pub formed : is_formed_expr e ≡ true
  pub typed : type_of e scope ≡ Ok (ListType each)

pub record IsTaken (to : SoyType) (e : Expr) (scope : Scope) : Type 0 where
  pub of : SoyType
  pub formed : is_formed_expr e ≡ true
  pub typed : type_of e scope ≡ Ok of
  pub takes : accepts to of ≡ true

-- the types of `a ?: b` and `c ? a : b`, a step at a time
abbrev pub coalesced_type : Span → SoyType → SoyType → Result SoyType TypeFault
coalesced_type span t u =
    fitting (not (has_block t || has_block u)) (joined (type_without_null t) u) span t u

abbrev pub coalesced_second : Expr → Scope → Span → SoyType → Result SoyType TypeFault
coalesced_second b scope span t = followed_by (type_of b scope) (λ u. coalesced_type span t u)

abbrev pub chosen_second : Expr → Scope → Span → SoyType → SoyType → Result SoyType TypeFault
chosen_second b scope span s t = followed_by (type_of b scope) (λ u. choice_type span s t u)

abbrev pub chosen_first : Expr → Expr → Scope → Span → SoyType → Result SoyType TypeFault
chosen_first a b scope span s = followed_by (type_of a scope) (λ t. chosen_second b scope span s t)

-- ---- the placeholders of a message

abbrev pub ItemsPrintable : List MessageItem → Scope → Type 0
ItemsPrintable [] scope = Unit {0}
ItemsPrintable (Character c span ∷ rest) scope = ItemsPrintable rest scope
ItemsPrintable (Printed e phname span ∷ rest) scope = IsPrintable e scope × ItemsPrintable rest scope

abbrev pub CutPrintable : Option Cut → Scope → Type 0
CutPrintable (Some (PrintCut e phname span)) scope = IsPrintable e scope
CutPrintable (Some (TagCut tag)) scope = ItemsPrintable tag scope
CutPrintable _ scope = Unit {0}

abbrev pub UsesPrintable : List Use → Scope → Type 0
UsesPrintable [] scope = Unit {0}
UsesPrintable (u ∷ uses) scope = CutPrintable (cut_of_role u.role) scope × UsesPrintable uses scope

-- ---- calls

abbrev pub GivenTaken : Given → SoyType → Scope → Type 0
GivenTaken (Plain e) to scope = IsTaken to e scope
GivenTaken (Block kind body) to scope = accepts to (kind_type kind) ≡ true

-- a variable that is handed on
pub record HandsOn (to : SoyType) (name : Name) (scope : Scope) : Type 0 where
  pub of : SoyType
  pub there : variable_type name scope ≡ Some of
  pub takes : accepts to of ≡ true

abbrev pub LeftTo : Bool → Param → Scope → Type 0
LeftTo true p scope = HandsOn (param_type p) p.name scope
LeftTo false p scope = p.required ≡ false

abbrev pub ParamTakes : Option Given → Bool → Param → Scope → Type 0
ParamTakes None hands p scope = LeftTo hands p scope
ParamTakes (Some given) hands p scope = GivenTaken given (param_type p) scope

abbrev pub given_of : Name → Arguments → Option Given
given_of name no_argument = None
given_of name (argument other given span rest) = if bytes_eq other name then Some given else given_of name rest

abbrev pub ParamsTake : List Param → Arguments → Bool → List Param → Scope → Type 0
ParamsTake [] given all own scope = Unit {0}
ParamsTake (p ∷ ps) given all own scope =
    ParamTakes (given_of p.name given) (all && is_some (param_of p.name own)) p scope
    × ParamsTake ps given all own scope

abbrev pub CalleeTakes : Option Declared → Arguments → Bool → List Param → Scope → Type 0
CalleeTakes None given all own scope = ⊥
CalleeTakes (Some d) given all own scope = ParamsTake d.template.params given all own scope

-- ---- nodes

module _ (a : Around) where
  abbrev mutual
    pub NodeTyped : Node → Scope → Type 0
    NodeTyped (TextNode text span) scope = Unit {0}
    NodeTyped (Print e phname span) scope = IsPrintable e scope
    NodeTyped (If arms other span) scope = ArmsTyped arms scope × OtherTyped other scope
    NodeTyped (Switch e cases other span) scope = CasesTyped cases scope × OtherTyped other scope
    NodeTyped (For name index e body span) scope =
        IsListed e scope × NodesTyped body (body_scope name index (type_of e scope) scope)
    NodeTyped (Let name e span) scope = HasType e scope
    NodeTyped (LetBlock name kind body span) scope = NodesTyped body scope
    NodeTyped (Call name all given span) scope =
        CalleeTakes (callee a.declared a.namespace name) given all a.params scope × ArgumentsTyped given scope
    NodeTyped (MessageNode m other span) scope = MessageTyped m scope × FallbackTyped other scope

    pub NodesTyped : Nodes → Scope → Type 0
    NodesTyped no_node scope = Unit {0}
    NodesTyped (node n ns) scope = NodeTyped n scope × NodesTyped ns (scope_past n scope)

    pub OtherTyped : Otherwise → Scope → Type 0
    OtherTyped no_otherwise scope = Unit {0}
    OtherTyped (otherwise body) scope = NodesTyped body scope

    pub ArmsTyped : Arms → Scope → Type 0
    ArmsTyped no_arm scope = Unit {0}
    ArmsTyped (arm e body arms) scope = NodesTyped body (narrowed e scope) × ArmsTyped arms scope

    pub CasesTyped : Cases → Scope → Type 0
    CasesTyped no_case scope = Unit {0}
    CasesTyped (case values body cases) scope = NodesTyped body scope × CasesTyped cases scope

    pub ArgumentsTyped : Arguments → Scope → Type 0
    ArgumentsTyped no_argument scope = Unit {0}
    ArgumentsTyped (argument name given span rest) scope = GivenTyped given scope × ArgumentsTyped rest scope

    pub GivenTyped : Given → Scope → Type 0
    GivenTyped (Plain e) scope = HasType e scope
    GivenTyped (Block kind body) scope = NodesTyped body scope

    pub MessageTyped : Message → Scope → Type 0
    MessageTyped (message desc meaning body span) scope = BodyTyped body scope

    pub FallbackTyped : Fallback → Scope → Type 0
    FallbackTyped no_fallback scope = Unit {0}
    FallbackTyped (fallback m) scope = MessageTyped m scope

    pub BodyTyped : MessageBody → Scope → Type 0
    BodyTyped (Parts ns) scope = NodesTyped ns scope
    BodyTyped (Plural e offset cases other) scope = PluralTyped cases scope × BodyTyped other scope
    BodyTyped (Select e cases other) scope = SelectTyped cases scope × BodyTyped other scope

    pub PluralTyped : PluralCases → Scope → Type 0
    PluralTyped no_plural_case scope = Unit {0}
    PluralTyped (plural_case n body cases) scope = BodyTyped body scope × PluralTyped cases scope

    pub SelectTyped : SelectCases → Scope → Type 0
    SelectTyped no_select_case scope = Unit {0}
    SelectTyped (select_case word body cases) scope = BodyTyped body scope × SelectTyped cases scope
