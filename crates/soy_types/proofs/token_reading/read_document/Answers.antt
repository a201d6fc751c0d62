use Rattle.soy_tree.specs.ViewTrees.{view_params}
use Rattle.soy_tree.specs.ViewValues.{view_value}
use Rattle.soy_types.proofs.TokenFacts.{document_read}
use Rattle.soy_types.proofs.token_reading.read_document.Goals as goal

pub returns-in-None-clause-value : goal.returns-in-None-clause-value
returns-in-None-clause-value c =
    document_read (view_params c.args.params.now) c.args.reader.now c.next_object.new.reader (view_value c.in-Ok.value)
    c.in-Ok.ensures.value c.in-None.ensures.value.0
