-- When a program stands for typed trees, with the places of their holes, under a bundle.
--
-- Each template of the trees, in their order, is a routine under its full name; the ops of its body stand in its block.
-- Each command is one op, in source order; a text is one unless it is empty, and a message is the ops of the text that
-- the bundle chooses: of its source, of its translation or of its fallback's. The bodies in a command are blocks that
-- end before its op. A default of a source's plural or select is its arm `other`. What a call hands over stands in
-- source order, and behind it the caller's parameters that `data="all"` hands on: those of the callee's that the
-- caller has and no param names. A print, a call and `#` have the place of their hole.
-- Example: for the body `{if $x}a{/if}{$y}` the block of `If ($x, the block of "a")` and `Print $y` stands, and the
-- block of the op `Static "a"` before it.
use Rattle.std.specs.Prelude.{◌≡◌, ℕ, ◌+◌, ◌≤◌, Bool, false, not, ◌&&◌, List, [], ◌∷◌, ◌++◌, Option, Some, None}
use Rattle.std.specs.Prelude.{if◌then◌else◌, bytes_eq, codes, is_some, length, map}
use Rattle.soy_base.specs.declared.place.Place.{Place}
use Rattle.plural_rules.specs.declared.category.Category.TheVariants as category
use Rattle.soy_tree.specs.Types.{Name}
use Rattle.soy_rules.specs.Bodies.{names_given, param_of}
use Rattle.soy_base.specs.Among.{is_among}
use Rattle.soy_tree.specs.MessageParts.{MsgParts}
use Rattle.soy_tree.specs.Nodes.{Node, Nodes, Otherwise, Arms, Cases, Arguments, Given, Message, MessageBody}
use Rattle.soy_tree.specs.Nodes.{PluralCases, SelectCases, TextNode, Print, If, Switch, For, Let, LetBlock, Call}
use Rattle.soy_tree.specs.Nodes.{MessageNode, no_node, node, no_otherwise, otherwise, no_arm, arm, no_case, case}
use Rattle.soy_tree.specs.Nodes.{no_argument, argument, message, Parts, Plural, Select, no_plural_case, plural_case}
use Rattle.soy_tree.specs.Nodes.{no_select_case, select_case}
use Rattle.soy_tree.specs.Nodes as nodes
use Rattle.soy_rules.specs.Templates.{Declared, callee, called_name, declared, full_name, is_visible_from}
use Rattle.soy_tree.specs.Trees.{Param, Tree}
use Rattle.soy_pieces.specs.Pieces.{ChosenText, TheFallback, TheOwn, TheSource, chosen_text}
use Rattle.soy_rules.specs.Placeholders.{uses_of}
use Rattle.soy_pieces.specs.Site.{starts_at}
use Rattle.template_ir.specs.HoleCounts.{arm_holes, body_holes, case_holes, given_holes, node_holes, nodes_holes}
use Rattle.template_ir.specs.HoleCounts.{plural_holes, select_holes, source_holes, translation_holes}
use Rattle.template_ir.specs.Ops.{Branch, Choice, Handed, HandedBy, Op, Program, Routine, CallOp, ForOp, HandedBlock}
use Rattle.template_ir.specs.Ops.{HandedSame, HandedValue, IfOp, LetBlockOp, LetOp, PluralOp, SelectOp, SwitchOp}
use Rattle.template_ir.specs.StandFor.{StandsNothing, StandsOp, StandsParts, StandsPrint, StandsText, place_of}
use Rattle.template_ir.specs.declared.op.Block.{Block}
use Rattle.template_ir.specs.declared.op.ExactBlock.{ExactBlock}
use Rattle.template_ir.specs.declared.op.NamedBlock.{NamedBlock}
use Rattle.template_ir.specs.declared.op.WordBlock.{WordBlock}
use Rattle.soy_rules.specs.Language.{Language}

-- what the ops of a template go by: its file, namespace and parameters, the templates of all files, the translation of
-- a message, the places of all holes, and all ops
pub record CompileContext : Type 0 where
  pub file : ℕ
  pub namespace : Name
  pub params : List Param
  pub declared : List Declared
  pub translation : Message → Option MsgParts
  pub places : List Place
  pub ops : List Op

-- the same with more ops at the end
abbrev pub with_more : CompileContext → List Op → CompileContext
with_more c more = record c { ops = c.ops ++ more }

-- ---- calls

-- how many templates stand before the first of a full name that may be called from a namespace; all, where there is
-- none
abbrev pub number_of : Name → Name → List Declared → ℕ
number_of namespace name [] = 0
number_of namespace name (d ∷ ds) =
    if bytes_eq (full_name d) name
    then (if is_visible_from namespace d then 0 else 1 + length ds)
    else 1 + number_of namespace name ds

abbrev pub callee_number : List Declared → Name → Name → ℕ
callee_number all namespace name = number_of namespace (called_name namespace name) all

-- the parameters that `data="all"` hands on: those of these that the caller has too and no param names
abbrev pub handed_on_names : Bool → List Param → List Name → List Param → List Name
handed_on_names hands own given [] = []
handed_on_names hands own given (p ∷ ps) =
    if hands && is_some (param_of p.name own) && not (is_among given p.name)
    then p.name ∷ handed_on_names hands own given ps
    else handed_on_names hands own given ps

abbrev pub params_there : Option Declared → List Param
params_there None = []
params_there (Some d) = d.template.params

abbrev pub same_handed : Name → Handed
same_handed name = record { name = name; by = HandedSame }

-- ---- messages

abbrev pub other_arm : Block → NamedBlock
other_arm b = record { category = category.Other; body = b }

abbrev pub other_word : Block → WordBlock
other_word b = record { is = codes "other"; body = b }

-- ---- nodes

module _ (c : CompileContext) where
  abbrev mutual
    -- a node whose first hole has this number, as the ops from a position up to an end
    pub StandsNode : Node → ℕ → ℕ → ℕ → Type 0
    StandsNode (TextNode text span) hole at end = StandsText c.places c.ops text at end
    StandsNode (Print e phname span) hole at end = StandsPrint c.places c.ops e hole at end
    StandsNode (If arms other span) hole at end =
        (branches : List Branch) × (rest : Option Block) × StandsArms arms branches hole at
        × StandsOther other rest (hole + arm_holes c.translation arms) at
        × StandsOp c.places c.ops (IfOp branches rest) at end
    StandsNode (Switch e cases other span) hole at end =
        (choices : List Choice) × (rest : Option Block) × StandsCases cases choices hole at
        × StandsOther other rest (hole + case_holes c.translation cases) at
        × StandsOp c.places c.ops (SwitchOp e choices rest) at end
    StandsNode (For name index e body span) hole at end =
        (b : Block) × (b.end ≤ at) × StandsNodes body hole b.first b.end
        × StandsOp c.places c.ops (ForOp name index e b) at end
    StandsNode (Let name e span) hole at end = StandsOp c.places c.ops (LetOp name e) at end
    StandsNode (LetBlock name kind body span) hole at end =
        (b : Block) × (b.end ≤ at) × StandsNodes body hole b.first b.end
        × StandsOp c.places c.ops (LetBlockOp name kind b) at end
    StandsNode (Call name all given span) hole at end =
        (handed : List Handed)
        × StandsGiven given (handed_on_names all c.params (names_given given)
        (params_there (callee c.declared c.namespace name))) handed (hole + 1) at
        × StandsOp c.places c.ops (CallOp (record {
          template = callee_number c.declared c.namespace name;
          given = handed;
          place = place_of c.places hole;
          site = starts_at c.file span;
        })) at end
    StandsNode (MessageNode m other span) hole at end =
        StandsMessage (chosen_text c.translation m other) m hole at end

    pub StandsNodes : Nodes → ℕ → ℕ → ℕ → Type 0
    StandsNodes no_node hole at end = StandsNothing at end
    StandsNodes (node n ns) hole at end =
        (past : ℕ) × StandsNode n hole at past × StandsNodes ns (hole + node_holes c.translation n) past end

    -- bodies, whose blocks end before a position
    pub StandsOther : Otherwise → Option Block → ℕ → ℕ → Type 0
    StandsOther no_otherwise None hole before = Unit {0}
    StandsOther (otherwise body) (Some b) hole before =
        (b.end ≤ before) × StandsNodes body hole b.first b.end
    StandsOther _ _ hole before = ⊥

    pub StandsArms : Arms → List Branch → ℕ → ℕ → Type 0
    StandsArms no_arm [] hole before = Unit {0}
    StandsArms (arm e body arms) (b ∷ branches) hole before =
        (b.when ≡ e) × (b.body.end ≤ before) × StandsNodes body hole b.body.first b.body.end
        × StandsArms arms branches (hole + nodes_holes c.translation body) before
    StandsArms _ _ hole before = ⊥

    pub StandsCases : Cases → List Choice → ℕ → ℕ → Type 0
    StandsCases no_case [] hole before = Unit {0}
    StandsCases (case values body cases) (b ∷ choices) hole before =
        (b.values ≡ values) × (b.body.end ≤ before) × StandsNodes body hole b.body.first b.body.end
        × StandsCases cases choices (hole + nodes_holes c.translation body) before
    StandsCases _ _ hole before = ⊥

    -- the params of a call, and behind them what is handed on under these names
    pub StandsGiven : Arguments → List Name → List Handed → ℕ → ℕ → Type 0
    StandsGiven no_argument same handed hole before = handed ≡ map same_handed same
    StandsGiven (argument name given span rest) same (h ∷ handed) hole before =
        (h.name ≡ name) × StandsHanded given h.by hole before
        × StandsGiven rest same handed (hole + given_holes c.translation given) before
    StandsGiven _ same [] hole before = ⊥

    pub StandsHanded : Given → HandedBy → ℕ → ℕ → Type 0
    StandsHanded (nodes.Plain e) (HandedValue given) hole before = given ≡ e
    StandsHanded (nodes.Block kind body) (HandedBlock of b) hole before =
        (of ≡ kind) × (b.end ≤ before) × StandsNodes body hole b.first b.end
    StandsHanded _ _ hole before = ⊥

    -- ---- messages

    pub StandsMessage : ChosenText → Message → ℕ → ℕ → ℕ → Type 0
    StandsMessage TheSource (message desc meaning body span) hole at end = StandsSource body hole at end
    StandsMessage (TheOwn parts) m hole at end =
        StandsParts c.places c.ops (uses_of m) parts (hole + source_holes c.translation m) at end
    StandsMessage (TheFallback other parts) m hole at end =
        StandsParts c.places c.ops (uses_of other) parts
        (hole + (source_holes c.translation m + translation_holes c.translation m)) at end

    pub StandsSource : MessageBody → ℕ → ℕ → ℕ → Type 0
    StandsSource (Parts ns) hole at end = StandsNodes ns hole at end
    StandsSource (Plural e offset cases other) hole at end =
        (exact : List ExactBlock) × (b : Block) × StandsPluralCases cases exact hole at
        × (b.end ≤ at)
        × StandsSource other (hole + plural_holes c.translation cases) b.first b.end
        × StandsOp c.places c.ops (PluralOp e offset false exact (other_arm b ∷ [])) at end
    StandsSource (Select e cases other) hole at end =
        (words : List WordBlock) × (b : Block) × StandsSelectCases cases words hole at
        × (b.end ≤ at)
        × StandsSource other (hole + select_holes c.translation cases) b.first b.end
        × StandsOp c.places c.ops (SelectOp e (words ++ (other_word b ∷ []))) at end

    pub StandsPluralCases : PluralCases → List ExactBlock → ℕ → ℕ → Type 0
    StandsPluralCases no_plural_case [] hole before = Unit {0}
    StandsPluralCases (plural_case n body cases) (b ∷ blocks) hole before =
        (b.is ≡ n) × (b.body.end ≤ before) × StandsSource body hole b.body.first b.body.end
        × StandsPluralCases cases blocks (hole + body_holes c.translation body) before
    StandsPluralCases _ _ hole before = ⊥

    pub StandsSelectCases : SelectCases → List WordBlock → ℕ → ℕ → Type 0
    StandsSelectCases no_select_case [] hole before = Unit {0}
    StandsSelectCases (select_case word body cases) (b ∷ blocks) hole before =
        (b.is ≡ word) × (b.body.end ≤ before) × StandsSource body hole b.body.first b.body.end
        × StandsSelectCases cases blocks (hole + body_holes c.translation body) before
    StandsSelectCases _ _ hole before = ⊥

-- ---- templates

module _ (l : Language) (all : List Declared) (places : List Place) (ops : List Op) where
  abbrev pub context_of_template : Declared → CompileContext
  context_of_template d = record {
    file = d.file;
    namespace = d.namespace;
    params = d.template.params;
    declared = all;
    translation = l.translation;
    places = places;
    ops = ops;
  }

  pub record StandsTemplate (d : Declared) (r : Routine) (hole : ℕ) : Type 0 where
    pub name : r.name ≡ full_name d
    pub kind : r.kind ≡ d.template.kind
    pub private : r.private ≡ d.template.private
    pub params : r.params ≡ d.template.params
    pub within : r.body.end ≤ length ops
    pub body : StandsNodes (context_of_template d) d.template.body hole r.body.first r.body.end

  abbrev pub StandsTemplates : List Declared → List Routine → ℕ → Type 0
  StandsTemplates [] [] hole = Unit {0}
  StandsTemplates (d ∷ ds) (r ∷ routines) hole =
      StandsTemplate d r hole × StandsTemplates ds routines (hole + nodes_holes l.translation d.template.body)
  StandsTemplates _ _ hole = ⊥

-- the program stands for the trees
pub record Compiles (trees : List Tree) (places : List Place) (l : Language) (p : Program) : Type 0 where
  pub templates : StandsTemplates l (declared trees) places p.ops (declared trees) p.templates 0
  pub direction : p.direction ≡ l.direction
  pub plural : p.plural ≡ l.plural
  pub ordinal : p.ordinal ≡ l.ordinal
