use Rattle.msg_extract.proofs.Texts.CanonicalReads.{canonical_reads}
use Rattle.msg_extract.proofs.laws.law_canonical_text.Goals as goal

pub returns : goal.returns
returns c = canonical_reads
