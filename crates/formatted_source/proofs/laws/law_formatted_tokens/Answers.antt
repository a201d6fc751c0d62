use Rattle.soy_tree.specs.ViewTrees.{view_tree}
use Rattle.soy_parser.proofs.FormedTrees.{text_formed}
use Rattle.soy_format.specs.Formatted.{formatted_tree}
use Rattle.formatted_source.specs.TreeLexemes.{tree_lexemes}
use Rattle.formatted_source.proofs.LexedTexts.{lexes_as}
use Rattle.formatted_source.proofs.Sourced.SourcedNodes.{text_tree}
use Rattle.formatted_source.proofs.Written.TreesWritten.{tree_written}
use Rattle.formatted_source.proofs.laws.law_formatted_tokens.Goals as goal

pub returns-clause-by_its_form : goal.returns-clause-by_its_form
returns-clause-by_its_form c = λ t formed sourced. tree_written t formed sourced

pub returns-clause-of_a_text : goal.returns-clause-of_a_text
returns-clause-of_a_text c = λ text tokens t are file.
    tree_written (view_tree t) (text_formed text tokens t are file) (text_tree text tokens t are file)

pub returns-clause-lexed : goal.returns-clause-lexed
returns-clause-lexed c = λ text tokens t are file number page answer is within lexed.
    lexes_as number page (formatted_tree (view_tree t)) (tree_lexemes (view_tree t)) answer
    (tree_written (view_tree t) (text_formed text tokens t are file) (text_tree text tokens t are file)) is within lexed
