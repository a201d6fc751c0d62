use Rattle.icu_text.proofs.PatternComplete.{one_pattern}
use Rattle.icu_text.proofs.laws.law_one_pattern.Goals as goal

pub returns : goal.returns
returns c = one_pattern
