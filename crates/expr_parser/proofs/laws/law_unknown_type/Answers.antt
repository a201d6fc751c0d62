use Rattle.std.proofs.Common.{refl}
use Rattle.expr_parser.proofs.TypeReads.{unknown-is}
use Rattle.expr_parser.proofs.laws.law_unknown_type.Goals as goal

pub returns-clause-after_a_token : goal.returns-clause-after_a_token
returns-clause-after_a_token c = unknown-is

pub returns-clause-at_the_start : goal.returns-clause-at_the_start
returns-clause-at_the_start c less_follows = refl
