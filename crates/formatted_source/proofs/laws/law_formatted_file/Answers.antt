use Rattle.formatted_source.proofs.ReadFiles.{source_read, source_spelled}
use Rattle.formatted_source.proofs.laws.law_formatted_file.Goals as goal

pub returns-clause-is_file : goal.returns-clause-is_file
returns-clause-is_file c = λ text tokens t are file own whole. source_spelled text tokens t are file own whole

pub returns-clause-reads : goal.returns-clause-reads
returns-clause-reads c = λ text tokens t are file number page lexed is within answered.
    source_read text tokens t are file number page lexed is within answered
