use Rattle.std.proofs.Common.{length, subst}
use Rattle.soy_parser.specs.ParsesFile.{ParsesFile}
use Rattle.soy_front.proofs.SourceAnswers.{parsed-reads, parsed-within, unlexed-reads, unlexed-within}
use Rattle.soy_front.proofs.sources.read_text.Goals as goal

pub returns-in-Ok-clause-reads : goal.returns-in-Ok-clause-reads
returns-in-Ok-clause-reads c =
    parsed-reads c.args.text.now c.in-Ok.tokens.items c.parse.result c.in-Ok.ensures.lexes
    (subst (λ ts. ParsesFile 0 ts c.parse.result) c.as_slice.ensures.value c.parse.ensures)

pub returns-in-Ok-clause-within : goal.returns-in-Ok-clause-within
returns-in-Ok-clause-within c =
    parsed-within (length c.args.text.now) c.in-Ok.tokens.items c.parse.result c.in-Ok.ensures.in_order
    (subst (λ ts. ParsesFile 0 ts c.parse.result) c.as_slice.ensures.value c.parse.ensures)

pub returns-in-Err-clause-reads : goal.returns-in-Err-clause-reads
returns-in-Err-clause-reads c = unlexed-reads c.args.text.now c.in-Err.refusal c.in-Err.ensures.lexes

pub returns-in-Err-clause-within : goal.returns-in-Err-clause-within
returns-in-Err-clause-within c =
    unlexed-within c.args.text.now c.in-Err.refusal c.utf8.text c.in-Err.ensures.lexes
