-- Typed trees: what the checker demands of them holds, they are formed, and there are fewer than 2^32 of them.
-- Example: of the text `{namespace a}` the tree is typed.
use Rattle.std.specs.Prelude.{◌≡◌, ℕ, ◌<◌, ◌^◌, List, [], ◌∷◌, ◌++◌, length, Option, Some, None, slice_get}
use Rattle.soy_tree.specs.declared.tree.Tree as code
use Rattle.soy_tree.specs.declared.tree.Template as code_template
use Rattle.soy_tree.specs.declared.tree.Param as code_param
use Rattle.soy_tree.specs.ViewTrees.{view_trees}
use Rattle.soy_tree.specs.Formed.{AreFormed}
use Rattle.soy_rules.specs.Demands.{check_fault}

pub record AreTyped (trees : List code.Tree) : Type 0 where
  pub demands : check_fault (view_trees trees) ≡ None
  pub formed : AreFormed (view_trees trees)
  pub few : length trees < 2 ^ 32

-- the templates of all trees, in order of first appearance
abbrev pub templates_of : List code.Tree → List code_template.Template
templates_of [] = []
templates_of (tree ∷ trees) = tree.templates ++ templates_of trees

abbrev pub params_there : Option code_template.Template → List code_param.Param
params_there None = []
params_there (Some t) = t.params

-- the parameters of the template of a number, and none where there is no such template
abbrev pub params_at : ℕ → List code_template.Template → List code_param.Param
params_at number templates = params_there (slice_get templates number)
