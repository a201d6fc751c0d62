use Rattle.std.proofs.Common.{true, None, refl}
use Rattle.soy_lexer.specs.declared.mode.Mode.TheVariants.{Outside}
use Rattle.soy_lexer.proofs.SomeSegments.{whole_source_text, fault_within}
use Rattle.soy_lexer.proofs.laws.law_segments_are_the_text.Goals as goal

pub returns-clause-whole : goal.returns-clause-whole
returns-clause-whole c = λ text segments whole. whole_source_text 0 (Outside true) text segments None whole refl

pub returns-clause-within : goal.returns-clause-within
returns-clause-within c = fault_within
