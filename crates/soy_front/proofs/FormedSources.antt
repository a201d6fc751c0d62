-- The trees of files are formed, as the checker asks, and there is one for each file.
use Rattle.std.proofs.Common.{◌≡◌, ℕ, true, List, length, refl, arith}
use Rattle.std.specs.Prelude.{Result, Ok, Err}
use Rattle.std.specs.List.{list_all}
use Rattle.std.specs.Str.{chars}
use Rattle.std.proofs.lemmas.Bool.{and_from}
use Rattle.soy_base.specs.declared.fault.Fault.{Fault}
use Rattle.soy_parser.proofs.FormedTrees.{text_formed}
use Rattle.soy_tree.specs.declared.tree.Tree.{Tree}
use Rattle.soy_tree.specs.Formed.{AreFormed, is_formed_tree}
use Rattle.soy_tree.specs.ViewTrees.{view_tree, view_trees}
use Rattle.soy_front.specs.Deserves.{Deserves}
use Rattle.soy_front.specs.Deserves.Deserves.{NotUtf8, TooLarge, NoToken, NoFile, File}
use Rattle.soy_front.specs.FilesDeserve.{HaveTrees}
use Rattle.soy_front.specs.FilesDeserve.HaveTrees.{none, one_more}

abbrev IsFormed : Result Tree Fault → Type 0
IsFormed (Ok tree) = is_formed_tree (view_tree tree) ≡ true
IsFormed (Err fault) = Unit {0}

formed_by : (bytes : List ℕ) (read : Result Tree Fault) → Deserves bytes read → IsFormed read
formed_by bytes _ (NotUtf8 offset v) = tt
formed_by bytes _ (TooLarge utf8 over) = tt
formed_by bytes _ (NoToken offset is first) = tt
formed_by bytes _ (NoFile tokens fault is are refused) = tt
formed_by bytes _ (File tokens tree is are parsed) = text_formed (chars bytes) tokens tree are parsed

pub trees_formed : (contents : List (List ℕ)) (trees : List Tree) → HaveTrees contents trees
    → AreFormed (view_trees trees)
trees_formed _ _ none = refl
trees_formed _ _ (one_more bytes tree contents trees d h) =
    and_from (is_formed_tree (view_tree tree)) (list_all is_formed_tree (view_trees trees))
    (formed_by bytes (Ok tree) d) (trees_formed contents trees h)

pub as_many : (contents : List (List ℕ)) (trees : List Tree) → HaveTrees contents trees → length trees ≡ length contents
as_many _ _ none = refl
as_many _ _ (one_more bytes tree contents trees d h) = omega (arith, as_many contents trees h)
