-- The uses whose names the code keeps.
-- Example: of a message without prints, tags and selectors they are none.
use Rattle.std.specs.Prelude.{◌≡◌, List, false, map}
use Rattle.soy_tree.specs.ViewNodes.{view_body}
use Rattle.soy_tree.specs.declared.node.Message as code_message
use Rattle.soy_rules.specs.Placeholders.{Use}
use Rattle.msg_extract.specs.NameGroups.{AreNames}
use Rattle.msg_extract.specs.Canonical.Pieces.{body_pieces, uses_in}
use Rattle.msg_extract.specs.Views.ViewKeys.{view_groups}
use Rattle.msg_extract.specs.Views.ViewPieces.{view_piece}
use Rattle.msg_extract.specs.declared.names.Names.{Names}

abbrev pub named_uses : Names → List Use
named_uses names = uses_in (map view_piece names.pieces)

-- the base names, contents and names that are kept are those of these uses
abbrev pub HasNames : Names → Type 0
HasNames names =
    AreNames (named_uses names) names.groups.bases.keys (view_groups names.groups.contents.items) names.texts

-- pieces and names that are those of a message
pub record AreNamesOf (kept : Names) (m : code_message.Message) : Type 0 where
  pub pieces : map view_piece kept.pieces ≡ body_pieces false (view_body m.body)
  pub names : HasNames kept
