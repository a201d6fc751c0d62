use Rattle.soy_parser.proofs.OfFiles.FileAnswers.{one_file_answer}
use Rattle.soy_parser.proofs.laws.law_one_answer.Goals as goal

pub returns : goal.returns
returns c = one_file_answer
