-- What a run goes by under a bundle: the templates of all files, and of what the bundle brings the translations, the
-- direction and the categories by its rules. File, namespace and parameters are set by each template that is run.
-- Example: without a bundle no message has a translation, and the direction is left to right.
use Rattle.std.specs.Prelude.{List, [], if◌then◌else◌}
use Rattle.plural_rules.specs.Category.{category_of}
use Rattle.plural_rules.specs.declared.category.Category.TheVariants as category
use Rattle.soy_rules.specs.Templates.{Declared}
use Rattle.soy_pieces.specs.Pieces.{RunContext}
use Rattle.soy_rules.specs.Language.{Language}

-- what runs of trees go by under a bundle
abbrev pub language_context : Language → List Declared → RunContext
language_context l all = record {
  file = 0;
  namespace = [];
  params = [];
  declared = all;
  translation = l.translation;
  category = λ ordinal n. category_of (if ordinal then l.ordinal else l.plural) n;
  direction = l.direction;
}
