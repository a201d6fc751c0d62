-- What the code's lists of templates, and what it checks a body against, stand for.
use Rattle.std.specs.Prelude.{List, map}
use Rattle.soy_rules.specs.Templates.{Declared}
use Rattle.soy_rules.specs.Bodies.{Around}
use Rattle.soy_rules.specs.ViewTemplates.{view_declared}
use Rattle.soy_tree.specs.ViewTrees.{view_params}
use Rattle.soy_check.specs.declared.template.Indexed.{Indexed}
use Rattle.soy_check.specs.declared.around.Around as code

abbrev pub view_indexed : Indexed → Declared
view_indexed one = view_declared one.declared

abbrev pub view_all : List Indexed → List Declared
view_all = map view_indexed

abbrev pub view_around : code.Around → Around
view_around a =
    record {
      declared = view_all a.declared.now;
      namespace = a.namespace.now;
      params = view_params a.own.now.declared.template.now.params;
    }
