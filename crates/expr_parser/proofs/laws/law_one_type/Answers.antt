use Rattle.expr_parser.proofs.TypeMachine.{spelled_same, begun_depths, begun_words}
use Rattle.expr_parser.proofs.laws.law_one_type.Goals as goal

pub returns-clause-one_type : goal.returns-clause-one_type
returns-clause-one_type c = spelled_same

pub returns-clause-one_depth : goal.returns-clause-one_depth
returns-clause-one_depth c = begun_depths

pub returns-clause-one_word : goal.returns-clause-one_word
returns-clause-one_word c = begun_words
