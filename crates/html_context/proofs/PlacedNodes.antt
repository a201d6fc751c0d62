-- The walk of the texts and prints that stand for a placeholder is that of the placeholder.
use Rattle.std.proofs.Common.{◌≡◌, ℕ, List, [], ◌∷◌, ◌++◌, Option, Some, None, Result, Ok, Err}
use Rattle.std.proofs.Common.{refl, ap, ◌∙◌}
use Rattle.html_state.specs.declared.row.State.{State}
use Rattle.soy_tree.specs.Types.{Name}
use Rattle.soy_rules.specs.TypeOf.{Scope}
use Rattle.soy_rules.specs.Faults.{followed_by}
use Rattle.soy_tree.specs.Nodes.{Message}
use Rattle.soy_tree.specs.MessageText.{Character, Cut, MessageItem, PrintCut, Printed, TagCut, TextCut}
use Rattle.soy_tree.specs.ViewNodes.{nodes_of}
use Rattle.msg_extract.specs.NamedNodes.{named_nodes}
use Rattle.msg_extract.specs.PlaceholderNodes.{BegunText, nodes_behind}
use Rattle.msg_extract.specs.PlaceholderNodes.{placeholders_of}
use Rattle.soy_meaning.specs.Walks.PageMachine.{page_machine}
use Rattle.soy_meaning.specs.Paths.Plan.{Hole}
use Rattle.soy_pieces.specs.Site.{Site}
use Rattle.soy_rules.specs.Placeholders.{uses_of}
use Rattle.soy_meaning.specs.Paths.PlanOfParts.{cut_plan, printed_classes, tag_plan, text_plan}
use Rattle.soy_rules.specs.Placeholders.{placeholder_cut}
use Rattle.soy_meaning.specs.Walks.Walk.{WalkFault, Walked, walk}
use Rattle.msg_extract.proofs.Naming.NamedCuts.{named_cut, nodes_there}
use Rattle.html_context.specs.PlacedNodes.{placed_nodes}

itself : (r : Result (Walked State) WalkFault) → followed_by r (λ v. Ok v) ≡ r
itself (Ok v) = refl
itself (Err f) = refl

same_after : (r : Result (Walked State) WalkFault) (f g : Walked State → Result (Walked State) WalkFault)
    → ((v : Walked State) → f v ≡ g v) → followed_by r f ≡ followed_by r g
same_after (Ok v) f g same = same v
same_after (Err e) f g same = refl

-- ---- the nodes of a cut

abbrev begun_text : BegunText → List ℕ
begun_text None = []
begun_text (Some text) = text.0

tag_walk : (scope : Scope) (at : Site) (begun : BegunText) (tag : List MessageItem) (w : Walked State)
    → walk page_machine (placed_nodes scope at (nodes_of (nodes_behind begun tag))) w
    ≡ walk page_machine (tag_plan scope at (begun_text begun) tag) w
tag_walk scope at None [] w = refl
tag_walk scope at (Some text) [] w = itself (walk page_machine (text_plan at text.0) w)
tag_walk scope at None (Character c span ∷ rest) w = tag_walk scope at (Some (c ∷ [], span)) rest w
tag_walk scope at (Some text) (Character c span ∷ rest) w =
    tag_walk scope at (Some (text.0 ++ (c ∷ []), text.1)) rest w
tag_walk scope at None (Printed e phname span ∷ rest) w =
    same_after (walk page_machine (Hole at (printed_classes e scope)) w)
    (λ v. walk page_machine (placed_nodes scope at (nodes_of (nodes_behind None rest))) v)
    (λ v. walk page_machine (tag_plan scope at [] rest) v) (λ v. tag_walk scope at None rest v)
tag_walk scope at (Some text) (Printed e phname span ∷ rest) w =
    same_after (walk page_machine (text_plan at text.0) w)
    (λ u. followed_by (walk page_machine (Hole at (printed_classes e scope)) u)
    (λ v. walk page_machine (placed_nodes scope at (nodes_of (nodes_behind None rest))) v))
    (λ u. followed_by (walk page_machine (Hole at (printed_classes e scope)) u)
    (λ v. walk page_machine (tag_plan scope at [] rest) v))
    (λ u. same_after (walk page_machine (Hole at (printed_classes e scope)) u)
    (λ v. walk page_machine (placed_nodes scope at (nodes_of (nodes_behind None rest))) v)
    (λ v. walk page_machine (tag_plan scope at [] rest) v) (λ v. tag_walk scope at None rest v))

cut_walk : (scope : Scope) (at : Site) (cut : Option Cut) (w : Walked State)
    → walk page_machine (placed_nodes scope at (nodes_there cut)) w ≡ walk page_machine (cut_plan scope at cut) w
cut_walk scope at None w = refl
cut_walk scope at (Some (TextCut text)) w = refl
cut_walk scope at (Some (PrintCut e phname span)) w = itself (walk page_machine (Hole at (printed_classes e scope)) w)
cut_walk scope at (Some (TagCut tag)) w = tag_walk scope at None tag w

pub placed_cut : (m : Message) (name : Name) (scope : Scope) (at : Site) (w : Walked State)
    → walk page_machine (placed_nodes scope at (named_nodes name (placeholders_of m))) w
    ≡ walk page_machine (cut_plan scope at (placeholder_cut name (uses_of m) (uses_of m))) w
placed_cut m name scope at w =
    ap (λ ns. walk page_machine (placed_nodes scope at ns) w) (named_cut m name)
    ∙ cut_walk scope at (placeholder_cut name (uses_of m) (uses_of m)) w
