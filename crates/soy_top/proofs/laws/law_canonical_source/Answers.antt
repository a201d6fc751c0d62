use Rattle.soy_top.proofs.ReadBacks.{canonical_alike, formatted_again, formatted_canonical, read_back}
use Rattle.soy_top.proofs.laws.law_canonical_source.Goals as goal

pub returns-clause-formatted : goal.returns-clause-formatted
returns-clause-formatted c = formatted_canonical

pub returns-clause-read_back : goal.returns-clause-read_back
returns-clause-read_back c = read_back

pub returns-clause-again : goal.returns-clause-again
returns-clause-again c = formatted_again

pub returns-clause-alike : goal.returns-clause-alike
returns-clause-alike c = canonical_alike
