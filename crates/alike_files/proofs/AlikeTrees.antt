-- Trees that are alike are equal without spans. So they have the same walk, ids and catalogue, but for positions.
use Rattle.std.proofs.Common.{◌≡◌, List, [], ◌∷◌, map, Option, refl, sym, ap, ◌∙◌}
use Rattle.std.specs.Prelude.{Result}
use Rattle.html_state.specs.declared.row.State.{State}
use Rattle.soy_tree.specs.MessageParts.{MsgParts}
use Rattle.soy_tree.specs.Nodes.{Message}
use Rattle.soy_tree.specs.Trees.{Tree}
use Rattle.soy_tree.specs.declared.bundle.Bundle.{Bundle}
use Rattle.soy_tree.specs.declared.bundle.Translation.{Translation}
use Rattle.msg_extract.specs.Catalogue.{catalogue_of}
use Rattle.msg_extract.specs.MessageId.{id_of}
use Rattle.msg_extract.specs.MessagesIn.{tree_messages}
use Rattle.msg_extract.specs.Translations.{translation_of}
use Rattle.soy_meaning.specs.Walks.AcceptedTrees.{walk_trees}
use Rattle.soy_meaning.specs.Walks.PageMachine.{page_machine}
use Rattle.soy_meaning.specs.Paths.PlanOfNodes.{trees_plan}
use Rattle.soy_meaning.specs.Walks.Walk.{Walked, WalkFault, walk, walked}
use Rattle.html_context.specs.ChosenTranslation.{chosen_translation}
use Rattle.soy_format.specs.WithoutSpans.{message_without_spans, tree_without_spans}
use Rattle.alike_files.specs.AllAlike.{AllAlike}
use Rattle.alike_files.specs.IdsIn.{ids_in}
use Rattle.alike_files.specs.WithoutPositions.{result_without_position}
use Rattle.alike_files.proofs.CanonicalTexts.{id_same}
use Rattle.alike_files.proofs.Catalogues.{catalogue_same, tree_messages_same}
use Rattle.alike_files.proofs.NodePlans.{ReadsNoSpan, trees_plan_same}
use Rattle.alike_files.proofs.Walks.{walk_placeless, walk_same}

-- trees that are alike are equal without spans
pub alike_trees : (trees others : List Tree) → AllAlike trees others
    → map tree_without_spans trees ≡ map tree_without_spans others
alike_trees [] [] alike = refl
alike_trees (tree ∷ trees) (other ∷ others) alike = rw (alike.0, alike_trees trees others alike.1) refl
alike_trees [] (other ∷ others) alike = absurd alike
alike_trees (tree ∷ trees) [] alike = absurd alike

-- ---- the walk

-- the translations of a bundle read no span
pub chosen_same : (messages : List Translation) → ReadsNoSpan (chosen_translation messages)
chosen_same messages m = ap (translation_of messages) (id_same m)

walk_trees_same : (translation : Message → Option MsgParts) → ReadsNoSpan translation → (trees : List Tree)
    → walk_trees translation (map tree_without_spans trees) ≡ walk_placeless (walk_trees translation trees)
walk_trees_same translation same trees =
    ap (λ p. walk page_machine p (walked [] [])) (trees_plan_same translation same trees)
    ∙ walk_same page_machine (trees_plan translation trees) (walked [] [])

-- the walk over trees under the translations of a bundle
abbrev pub walk_under : Bundle → List Tree → Result (Walked State) WalkFault
walk_under language trees = walk_trees (chosen_translation language.messages) trees

pub walk_under_same : (language : Bundle) (trees : List Tree)
    → walk_under language (map tree_without_spans trees) ≡ walk_placeless (walk_under language trees)
walk_under_same language trees =
    walk_trees_same (chosen_translation language.messages) (chosen_same language.messages) trees

-- ---- ids

messages_ids : (ms : List Message) → map id_of (map message_without_spans ms) ≡ map id_of ms
messages_ids [] = refl
messages_ids (m ∷ ms) = rw (id_same m, messages_ids ms) refl

tree_ids_same : (tree : Tree) → map id_of (tree_messages (tree_without_spans tree)) ≡ map id_of (tree_messages tree)
tree_ids_same tree = ap (map id_of) (tree_messages_same tree) ∙ messages_ids (tree_messages tree)

ids_same : (trees : List Tree) → ids_in (map tree_without_spans trees) ≡ ids_in trees
ids_same [] = refl
ids_same (tree ∷ trees) = rw (tree_ids_same tree, ids_same trees) refl

-- **the ids of messages**
pub ids_alike : (trees others : List Tree) → AllAlike trees others → ids_in trees ≡ ids_in others
ids_alike trees others alike =
    sym (ids_same trees) ∙ (ap ids_in (alike_trees trees others alike) ∙ ids_same others)

-- **and the catalogue, but for positions**
pub catalogues_alike : (trees others : List Tree) → AllAlike trees others
    → result_without_position (catalogue_of trees) ≡ result_without_position (catalogue_of others)
catalogues_alike trees others alike =
    sym (catalogue_same trees) ∙ (ap catalogue_of (alike_trees trees others alike) ∙ catalogue_same others)
