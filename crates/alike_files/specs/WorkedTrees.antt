-- Worked trees of one template, `m` of the namespace `t`, which prints one variable.
-- Example: `{namespace t}{template m}{$x}{/template}` has such a tree.
use Rattle.std.specs.Prelude.{ℕ, ◌+◌, false, [], ◌∷◌, None, codes}
use Rattle.soy_base.specs.declared.fault.Span.{Span}
use Rattle.soy_base.specs.declared.kind.Kind.TheVariants as kind
use Rattle.soy_tree.specs.Expressions.{Variable}
use Rattle.soy_tree.specs.Nodes.{Print, no_node, node}
use Rattle.soy_tree.specs.Trees.{Tree}
use Rattle.soy_tree.specs.Types.{Name}

abbrev pub short_span : ℕ → Span
short_span at = record { start = at; end = at + 2 }

-- the variable is printed at an offset
abbrev pub printing : Name → ℕ → Tree
printing name at =
    record {
      namespace = codes "t";
      templates = record {
        name = codes "m";
        kind = kind.Html;
        private = false;
        params = [];
        body = node (Print (Variable name (short_span at)) None (short_span at)) no_node;
        span = short_span at;
      } ∷ [];
    }
