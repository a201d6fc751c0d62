use Rattle.soy_tree.specs.ViewTrees.{view_params}
use Rattle.soy_types.proofs.TokenFacts.{text_read}
use Rattle.soy_types.proofs.data.read_text.Goals as goal

pub returns-clause-value : goal.returns-clause-value
returns-clause-value c =
    text_read (view_params c.args.params.now) c.args.text.now c.in-Ok.reader c.read_document.result
    c.in-Ok.ensures.ok c.read_document.ensures.value
