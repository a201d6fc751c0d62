use Rattle.soy_lexer.proofs.LongestTokens.{command_token, token_reaches}
use Rattle.soy_lexer.proofs.laws.law_longest_token.Goals as goal

pub returns-clause-token : goal.returns-clause-token
returns-clause-token c = command_token

pub returns-clause-longest : goal.returns-clause-longest
returns-clause-longest c = token_reaches
