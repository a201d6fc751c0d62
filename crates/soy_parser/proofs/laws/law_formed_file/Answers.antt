use Rattle.soy_parser.proofs.FormedTrees.{file_formed, text_formed}
use Rattle.soy_parser.proofs.laws.law_formed_file.Goals as goal

pub returns-clause-formed : goal.returns-clause-formed
returns-clause-formed c = file_formed

pub returns-clause-of_a_text : goal.returns-clause-of_a_text
returns-clause-of_a_text c = text_formed
