-- The trees that those of the code stand for.
use Rattle.std.specs.Prelude.{List, map}
use Rattle.soy_tree.specs.declared.tree.Param as code_param
use Rattle.soy_tree.specs.declared.tree.Template as code_template
use Rattle.soy_tree.specs.declared.tree.Tree as code
use Rattle.soy_tree.specs.Trees.{Param, Template, Tree}
use Rattle.soy_tree.specs.ViewTypes.{view_type}
use Rattle.soy_tree.specs.ViewNodes.{view_nodes}

abbrev pub view_param : code_param.Param → Param
view_param p = record { name = p.name; of = view_type p.of; required = p.required; span = p.span }

abbrev pub view_params : List code_param.Param → List Param
view_params = map view_param

abbrev pub view_template : code_template.Template → Template
view_template t =
    record {
      name = t.name;
      kind = t.kind;
      private = t.private;
      params = view_params t.params;
      body = view_nodes
          t.body;
      span = t.span;
    }

abbrev pub view_tree : code.Tree → Tree
view_tree t = record { namespace = t.namespace; templates = map view_template t.templates }

abbrev pub view_trees : List code.Tree → List Tree
view_trees = map view_tree
