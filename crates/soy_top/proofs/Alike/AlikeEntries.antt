-- In trees that are alike a full name is that of the same template.
use Rattle.std.proofs.Common.{◌≡◌, List, sym, ap, ◌∙◌}
use Rattle.soy_rules.specs.Templates.{declared}
use Rattle.soy_tree.specs.Trees.{Tree}
use Rattle.soy_tree.specs.Types.{Name}
use Rattle.soy_front.specs.Entries.{entry_number, is_entry_template}
use Rattle.alike_files.specs.AllAlike.{AllAlike}
use Rattle.alike_files.proofs.AlikeMeanings.{alike_declared, position_same}
use Rattle.alike_files.proofs.DeclaredTemplates.{declared_without_spans}

-- **which template has a name**
pub entries_alike : (trees others : List Tree) (name : Name) → AllAlike trees others
    → entry_number name (declared trees) ≡ entry_number name (declared others)
entries_alike trees others name alike =
    sym (position_same declared_without_spans (is_entry_template name) (declared trees))
    ∙ (ap (entry_number name) (alike_declared trees others alike)
    ∙ position_same declared_without_spans (is_entry_template name) (declared others))
