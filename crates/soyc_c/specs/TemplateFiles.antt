-- The names and the contents of the files of templates.
--
-- Example: those of the templates of one file a.soy are the names "a.soy" and its content.
use Rattle.std.specs.Prelude.{ℕ, List}
use Rattle.soy_front.specs.ViewSources.{view_contents}
use Rattle.soy_page.specs.declared.templates.Templates.{Templates}
use Rattle.soy_top.specs.Words.{Word, command_words}

abbrev pub file_names : Templates → List Word
file_names templates = command_words templates.names.items

abbrev pub file_contents : Templates → List (List ℕ)
file_contents templates = view_contents templates.sources.items
