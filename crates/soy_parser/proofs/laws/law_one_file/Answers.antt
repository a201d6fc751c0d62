use Rattle.soy_parser.proofs.OfFiles.FileMachine.{spelled_same, begun_depths, begun_words}
use Rattle.soy_parser.proofs.laws.law_one_file.Goals as goal

pub returns-clause-one_file : goal.returns-clause-one_file
returns-clause-one_file c = spelled_same

pub returns-clause-one_depth : goal.returns-clause-one_depth
returns-clause-one_depth c = begun_depths

pub returns-clause-one_word : goal.returns-clause-one_word
returns-clause-one_word c = begun_words
