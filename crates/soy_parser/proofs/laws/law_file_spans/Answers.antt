use Rattle.soy_parser.proofs.AscendingTrees.{file_ascends, text_ascends}
use Rattle.soy_parser.proofs.laws.law_file_spans.Goals as goal

pub returns-clause-in_order : goal.returns-clause-in_order
returns-clause-in_order c = file_ascends

pub returns-clause-of_a_text : goal.returns-clause-of_a_text
returns-clause-of_a_text c = text_ascends
