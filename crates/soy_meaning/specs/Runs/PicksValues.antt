-- When the choices of expressions are between values.
--
-- A variable is marked where it may be bound to a block. `a ?: b` and `c ? a : b` pick one of two, which is no choice
-- of the run; so neither may be a block, in an expression that is printed or bound to a name. A parameter is marked
-- where its type has html or attributes, and what may be a block is given to marked parameters alone. The rules of
-- types ask for as much.
-- Example: `{$x ? $a : $b}` picks values where `$a` and `$b` are strings, and doesn't where they are blocks.
use Rattle.std.specs.Prelude.{Bool, true, false, not, ◌&&◌, ◌||◌, List, [], ◌∷◌, Option, Some, None, IsTrue, is_some}
use Rattle.std.specs.Prelude.{bytes_eq, if◌then◌else◌}
use Rattle.soy_base.specs.declared.kind.Kind.{Kind}
use Rattle.soy_base.specs.declared.kind.Kind.TheVariants as kind
use Rattle.soy_tree.specs.Types.{Name}
use Rattle.soy_rules.specs.Members.{has_block}
use Rattle.soy_rules.specs.Bodies.{param_of}
use Rattle.soy_tree.specs.Expressions.{Expr, Variable, Coalesce, Conditional}
use Rattle.soy_tree.specs.MessageText.{MessageItem, Character, Printed, Cut, PrintCut, TagCut}
use Rattle.soy_tree.specs.Nodes.{Node, Nodes, Otherwise, Arms, Cases, Arguments, Given, Fallback, MessageBody}
use Rattle.soy_tree.specs.Nodes.{PluralCases, SelectCases, Print, If, Switch, For, Let, LetBlock, Call, MessageNode}
use Rattle.soy_tree.specs.Nodes.{no_node, node, no_otherwise, otherwise, no_arm, arm, no_case, case, no_argument}
use Rattle.soy_tree.specs.Nodes.{argument, Plain, Block, message, no_fallback, fallback, Parts, Plural, Select}
use Rattle.soy_tree.specs.Nodes.{no_plural_case, plural_case, no_select_case, select_case}
use Rattle.soy_rules.specs.Placeholders.{Use}
use Rattle.soy_rules.specs.Templates.{Declared, callee, param_type}
use Rattle.soy_tree.specs.Trees.{Param}
use Rattle.soy_pieces.specs.Pieces.{RunContext, context_in}
use Rattle.soy_rules.specs.Placeholders.{uses_of}
use Rattle.soy_rules.specs.Placeholders.{cut_of_role}

-- the variables that are visible, and whether each may be bound to a block
abbrev pub Marks : Type 0
Marks = List (Name × Bool)

abbrev pub is_marked : Name → Marks → Bool
is_marked name [] = false
is_marked name (m ∷ marks) = if bytes_eq m.0 name then m.1 else is_marked name marks

-- ---- expressions

-- whether the value of an expression may be a block
abbrev pub may_give_block : Expr → Marks → Bool
may_give_block (Variable name span) marks = is_marked name marks
may_give_block (Coalesce a b span) marks = may_give_block a marks || may_give_block b marks
may_give_block (Conditional c a b span) marks = may_give_block a marks || may_give_block b marks
may_give_block _ marks = false

abbrev pub picks_values : Expr → Marks → Bool
picks_values (Coalesce a b span) marks = not (may_give_block a marks || may_give_block b marks)
picks_values (Conditional c a b span) marks = not (may_give_block a marks || may_give_block b marks)
picks_values _ marks = true

-- ---- the placeholders of a message

abbrev pub tag_picks : List MessageItem → Marks → Bool
tag_picks [] marks = true
tag_picks (Character c span ∷ rest) marks = tag_picks rest marks
tag_picks (Printed e phname span ∷ rest) marks = picks_values e marks && tag_picks rest marks

abbrev pub cut_picks : Option Cut → Marks → Bool
cut_picks (Some (PrintCut e phname span)) marks = picks_values e marks
cut_picks (Some (TagCut tag)) marks = tag_picks tag marks
cut_picks _ marks = true

abbrev pub uses_pick : List Use → Marks → Bool
uses_pick [] marks = true
uses_pick (u ∷ uses) marks = cut_picks (cut_of_role u.role) marks && uses_pick uses marks

-- ---- calls

abbrev pub is_block_kind : Kind → Bool
is_block_kind kind.Text = false
is_block_kind _ = true

abbrev pub given_mark : Given → Marks → Bool
given_mark (Plain e) marks = may_give_block e marks
given_mark (Block kind body) marks = is_block_kind kind

abbrev pub argument_marks : Arguments → Marks → Marks
argument_marks no_argument marks = []
argument_marks (argument name given span rest) marks = (name, given_mark given marks) ∷ argument_marks rest marks

abbrev pub mark_of : Name → Marks → Option Bool
mark_of name [] = None
mark_of name (m ∷ marks) = if bytes_eq m.0 name then Some m.1 else mark_of name marks

abbrev pub param_mark : Option Bool → Bool → Bool
param_mark None other = other
param_mark (Some given) other = given

-- what may be a block is given, or handed on, to parameters that may be blocks
abbrev pub params_take : List Param → Marks → Bool → List Param → Marks → Bool
params_take [] given all own marks = true
params_take (p ∷ ps) given all own marks =
    (not (param_mark (mark_of p.name given) ((all && is_some (param_of p.name own)) && is_marked p.name marks))
    || has_block (param_type p)) && params_take ps given all own marks

abbrev pub callee_takes : Option Declared → Marks → Bool → List Param → Marks → Bool
callee_takes None given all own marks = true
callee_takes (Some d) given all own marks = params_take d.template.params given all own marks

abbrev pub param_marks : List Param → Marks
param_marks [] = []
param_marks (p ∷ ps) = (p.name, has_block (param_type p)) ∷ param_marks ps

-- ---- nodes

abbrev pub marks_past : Node → Marks → Marks
marks_past (Let name e span) marks = (name, may_give_block e marks) ∷ marks
marks_past (LetBlock name kind body span) marks = (name, is_block_kind kind) ∷ marks
marks_past _ marks = marks

abbrev pub turn_marks : Name → Option Name → Marks → Marks
turn_marks name None marks = (name, false) ∷ marks
turn_marks name (Some index) marks = (index, false) ∷ ((name, false) ∷ marks)

abbrev pub FallbackPicks : Fallback → Marks → Type 0
FallbackPicks no_fallback marks = Unit {0}
FallbackPicks (fallback m) marks = IsTrue (uses_pick (uses_of m) marks)

module _ (c : RunContext) where
  abbrev mutual
    pub NodePicks : Node → Marks → Type 0
    NodePicks (Print e phname span) marks = IsTrue (picks_values e marks)
    NodePicks (If arms other span) marks = ArmsPick arms marks × OtherPicks other marks
    NodePicks (Switch e cases other span) marks = CasesPick cases marks × OtherPicks other marks
    NodePicks (For name index e body span) marks = NodesPick body (turn_marks name index marks)
    NodePicks (Let name e span) marks = IsTrue (picks_values e marks)
    NodePicks (LetBlock name kind body span) marks = NodesPick body marks
    NodePicks (Call name all given span) marks =
        IsTrue (callee_takes (callee c.declared c.namespace name) (argument_marks given marks) all c.params marks)
        × ArgumentsPick given marks
    NodePicks (MessageNode (message desc meaning body within) other span) marks =
        IsTrue (uses_pick (uses_of (message desc meaning body within)) marks) × BodyPicks body marks
        × FallbackPicks other marks
    NodePicks _ marks = Unit {0}

    pub NodesPick : Nodes → Marks → Type 0
    NodesPick no_node marks = Unit {0}
    NodesPick (node n ns) marks = NodePicks n marks × NodesPick ns (marks_past n marks)

    pub OtherPicks : Otherwise → Marks → Type 0
    OtherPicks no_otherwise marks = Unit {0}
    OtherPicks (otherwise body) marks = NodesPick body marks

    pub ArmsPick : Arms → Marks → Type 0
    ArmsPick no_arm marks = Unit {0}
    ArmsPick (arm e body arms) marks = NodesPick body marks × ArmsPick arms marks

    pub CasesPick : Cases → Marks → Type 0
    CasesPick no_case marks = Unit {0}
    CasesPick (case values body cases) marks = NodesPick body marks × CasesPick cases marks

    pub ArgumentsPick : Arguments → Marks → Type 0
    ArgumentsPick no_argument marks = Unit {0}
    ArgumentsPick (argument name given span rest) marks = GivenPicks given marks × ArgumentsPick rest marks

    pub GivenPicks : Given → Marks → Type 0
    GivenPicks (Plain e) marks = IsTrue (picks_values e marks)
    GivenPicks (Block kind body) marks = NodesPick body marks

    pub BodyPicks : MessageBody → Marks → Type 0
    BodyPicks (Parts ns) marks = NodesPick ns marks
    BodyPicks (Plural e offset cases other) marks = PluralPicks cases marks × BodyPicks other marks
    BodyPicks (Select e cases other) marks = SelectPicks cases marks × BodyPicks other marks

    pub PluralPicks : PluralCases → Marks → Type 0
    PluralPicks no_plural_case marks = Unit {0}
    PluralPicks (plural_case n body cases) marks = BodyPicks body marks × PluralPicks cases marks

    pub SelectPicks : SelectCases → Marks → Type 0
    SelectPicks no_select_case marks = Unit {0}
    SelectPicks (select_case word body cases) marks = BodyPicks body marks × SelectPicks cases marks

-- the expressions of these templates pick values
abbrev pub TemplatesPick : RunContext → List Declared → Type 0
TemplatesPick c [] = Unit {0}
TemplatesPick c (d ∷ ds) =
    NodesPick (context_in c d) d.template.body (param_marks d.template.params) × TemplatesPick c ds
