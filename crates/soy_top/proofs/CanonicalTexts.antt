-- The bytes of canonical source, and the answer to a file that has a tree.
use Rattle.std.proofs.Common.{◌≡◌, ◌≤◌, ℕ, List, [], ◌∷◌, String, length, sym, ap, ◌∙◌, subst, encode_utf8_all}
use Rattle.std.specs.Prelude.{Ok}
use Rattle.std.specs.Str.{chars}
use Rattle.std.specs.String.{string_bytes}
use Rattle.std.proofs.lemmas.Str.{IsUtf8-string_bytes, encodes-chars}
use Rattle.soy_format.specs.Formatted.{formatted_tree}
use Rattle.soy_front.proofs.FilesLaws.{trees_within}
use Rattle.soy_front.proofs.SourceLaws.{deserved, only}
use Rattle.soy_front.specs.Deserves.{Deserves}
use Rattle.soy_front.specs.FilesDeserve.HaveTrees.{none, one_more}
use Rattle.soy_front.specs.Sources.{source_answer}
use Rattle.soy_top.specs.Answer.{Done, canonical_source, tree_answer}
use Rattle.soy_top.specs.Words.{Word}
use Rattle.soy_tree.specs.ViewTrees.{view_tree}
use Rattle.soy_tree.specs.declared.tree.Tree.{Tree}

-- a text of these characters has these bytes
pub canonical_bytes : {A : Type 0} (tree : Tree) (text : String A)
    → chars (string_bytes text) ≡ formatted_tree (view_tree tree) → string_bytes text ≡ canonical_source tree
canonical_bytes tree text is =
    sym (encodes-chars (string_bytes text) (IsUtf8-string_bytes text)) ∙ ap encode_utf8_all is

-- a file that is read as a tree deserves it
pub tree_deserved : (bytes : List ℕ) (tree : Tree) → source_answer bytes ≡ Ok tree → Deserves bytes (Ok tree)
tree_deserved bytes tree read = subst (Deserves bytes) read (deserved bytes)

-- a file that deserves a tree is answered by its canonical source
pub tree_answered : (name : Word) (bytes : List ℕ) (tree : Tree) (text : List ℕ) → Deserves bytes (Ok tree)
    → text ≡ canonical_source tree → tree_answer name bytes (source_answer bytes) ≡ Done text
tree_answered name bytes tree text has is = ap (tree_answer name bytes) (only bytes (Ok tree) has) ∙ ap Done (sym is)

-- and it is within the limit of files
pub tree_within : (bytes : List ℕ) (tree : Tree) → Deserves bytes (Ok tree) → length bytes ≤ 1048576
tree_within bytes tree has = (trees_within (bytes ∷ []) (tree ∷ []) (one_more bytes tree [] [] has none)).0
