use Rattle.std.proofs.Common.{subst, arith}
use Rattle.std.specs.Str.{chars}
use Rattle.soy_lexer.specs.InOrder.{InOrder}
use Rattle.soy_lexer.proofs.Ordered.{tokens_in_order}
use Rattle.soy_base.proofs.Texts.{byte_len-chars}
use Rattle.soy_lexer.proofs.lexer.lex.Goals as goal

pub lexed-requires : goal.lexed-requires
lexed-requires c = omega (arith, byte_len-chars c.args.text.now c.utf8.text, c.if-text-gt-LARGEST_FILE.false)

pub returns-in-Ok-clause-in_order : goal.returns-in-Ok-clause-in_order
returns-in-Ok-clause-in_order c =
    subst (λ n. InOrder 0 n c.in-Ok.tokens.items) (byte_len-chars c.args.text.now c.utf8.text)
    (tokens_in_order (chars c.args.text.now) c.in-Ok.tokens.items c.in-Ok.ensures)
