-- What ops stand for, by the number of the first hole: the relations of `Compiles` over what the compiler goes by.
use Rattle.std.specs.Prelude.{ℕ, ◌+◌, ◌≤◌, List, [], ◌∷◌, Option, Some, None}
use Rattle.soy_base.specs.declared.place.Place.{Place}
use Rattle.soy_rules.specs.Placeholders.{uses_of}
use Rattle.soy_tree.specs.Expressions.{Expr}
use Rattle.soy_tree.specs.MessageParts.{ExactArms, MsgPart, MsgParts, NamedArms, Placeholder, SelectArms}
use Rattle.soy_tree.specs.Nodes.{Arguments, Arms, Cases, Message, MessageBody, Node, Nodes, PluralCases, SelectCases}
use Rattle.soy_tree.specs.Nodes.{Print, TextNode, no_node, node}
use Rattle.soy_rules.specs.Placeholders.{Use}
use Rattle.soy_tree.specs.Types.{Name}
use Rattle.soy_tree.specs.ViewNodes.{view_message}
use Rattle.template_ir.specs.Compiles.{StandsArms, StandsCases, StandsGiven, StandsNode, StandsNodes, StandsPluralCases}
use Rattle.template_ir.specs.Compiles.{StandsSelectCases, StandsSource}
use Rattle.template_ir.specs.Ops.{Branch, Choice, Handed, Op}
use Rattle.template_ir.specs.StandFor.{StandsExact, StandsNamed, StandsNothing, StandsPart, StandsParts, StandsPrint}
use Rattle.template_ir.specs.StandFor.{StandsText, StandsWords}
use Rattle.template_ir.specs.declared.op.Block.{Block}
use Rattle.template_ir.specs.declared.op.ExactBlock.{ExactBlock}
use Rattle.template_ir.specs.declared.op.NamedBlock.{NamedBlock}
use Rattle.template_ir.specs.declared.op.WordBlock.{WordBlock}
use Rattle.ir_build.specs.ViewScene.{context_of}
use Rattle.ir_build.specs.declared.source.Source.{Source}
use Rattle.ir_build.specs.declared.scene.Scene.{Scene}

-- ---- nodes: what is said of own ops

abbrev pub nodes_stand : Scene → Nodes → ℕ → List Op → ℕ → ℕ → Type 0
nodes_stand s ns hole all at end = StandsNodes (context_of s all) ns hole at end

abbrev pub node_stands : Scene → Node → ℕ → List Op → ℕ → ℕ → Type 0
node_stands s n hole all at end = StandsNode (context_of s all) n hole at end

abbrev pub body_stands : Scene → MessageBody → ℕ → List Op → ℕ → ℕ → Type 0
body_stands s body hole all at end = StandsSource (context_of s all) body hole at end

-- ---- nodes: what is said of blocks

-- a block that ends before a position, of which this is said
abbrev pub block_stands : (ℕ → List Op → ℕ → ℕ → Type 0) → Block → ℕ → List Op → ℕ → Type 0
block_stands Stands b hole all before = (b.end ≤ before) × Stands hole all b.first b.end

abbrev pub arms_stand : Scene → Arms → List Branch → ℕ → List Op → ℕ → Type 0
arms_stand s arms branches hole all before = StandsArms (context_of s all) arms branches hole before

abbrev pub cases_stand : Scene → Cases → List Choice → ℕ → List Op → ℕ → Type 0
cases_stand s cases choices hole all before = StandsCases (context_of s all) cases choices hole before

-- params alone, without what is handed on
abbrev pub given_stand : Scene → Arguments → List Handed → ℕ → List Op → ℕ → Type 0
given_stand s given handed hole all before = StandsGiven (context_of s all) given [] handed hole before

abbrev pub plural_cases_stand : Scene → PluralCases → List ExactBlock → ℕ → List Op → ℕ → Type 0
plural_cases_stand s cases blocks hole all before = StandsPluralCases (context_of s all) cases blocks hole before

abbrev pub select_cases_stand : Scene → SelectCases → List WordBlock → ℕ → List Op → ℕ → Type 0
select_cases_stand s cases blocks hole all before = StandsSelectCases (context_of s all) cases blocks hole before

-- ---- translations

abbrev pub source_uses : Source → List Use
source_uses s = uses_of (view_message s.message.now)

abbrev pub part_stands : Source → MsgPart → ℕ → List Op → ℕ → ℕ → Type 0
part_stands s p hole all at end = StandsPart s.places.now all (source_uses s) p hole at end

abbrev pub parts_stand : Source → MsgParts → ℕ → List Op → ℕ → ℕ → Type 0
parts_stand s ps hole all at end = StandsParts s.places.now all (source_uses s) ps hole at end

abbrev pub exact_stand : Source → ExactArms → List ExactBlock → ℕ → List Op → ℕ → Type 0
exact_stand s arms blocks hole all before = StandsExact s.places.now all (source_uses s) arms blocks hole before

abbrev pub named_stand : Source → NamedArms → List NamedBlock → ℕ → List Op → ℕ → Type 0
named_stand s arms blocks hole all before = StandsNamed s.places.now all (source_uses s) arms blocks hole before

abbrev pub words_stand : Source → SelectArms → List WordBlock → ℕ → List Op → ℕ → Type 0
words_stand s arms blocks hole all before = StandsWords s.places.now all (source_uses s) arms blocks hole before

-- of a translation of a message
abbrev pub translation_stands : List Place → Message → MsgParts → ℕ → List Op → ℕ → ℕ → Type 0
translation_stands places m ps hole all at end = StandsParts places all (uses_of m) ps hole at end

-- a placeholder of a name
abbrev pub named_part : Name → MsgPart
named_part name = Placeholder name

-- the op of a plural or select, which there isn't where its selector has no name
abbrev pub selected_ops : Option Expr → (Expr → Op) → List Op
selected_ops None make = []
selected_ops (Some e) make = make e ∷ []

-- ---- placeholders

-- of a text or a print that stands for a placeholder
abbrev pub placed_stands : List Place → Node → ℕ → List Op → ℕ → ℕ → Type 0
placed_stands places (TextNode text span) hole all at end = StandsText places all text at end
placed_stands places (Print e phname span) hole all at end = StandsPrint places all e hole at end
placed_stands places _ hole all at end = StandsNothing at end

abbrev pub placed_holes : Node → ℕ
placed_holes (Print e phname span) = 1
placed_holes _ = 0

abbrev pub all_placed_stand : List Place → Nodes → ℕ → List Op → ℕ → ℕ → Type 0
all_placed_stand places no_node hole all at end = StandsNothing at end
all_placed_stand places (node n ns) hole all at end =
    (past : ℕ) × placed_stands places n hole all at past
    × all_placed_stand places ns (hole + placed_holes n) all past end

abbrev pub all_placed_holes : Nodes → ℕ
all_placed_holes no_node = 0
all_placed_holes (node n ns) = placed_holes n + all_placed_holes ns
