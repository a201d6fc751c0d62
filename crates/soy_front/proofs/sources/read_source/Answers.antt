use Rattle.std.proofs.Common.{◌∙◌}
use Rattle.soy_front.proofs.SourceAnswers.{text-reads, source_answer-bytes}
use Rattle.soy_front.proofs.sources.read_source.Goals as goal

pub returns-in-Ok-clause-reads : goal.returns-in-Ok-clause-reads
returns-in-Ok-clause-reads c =
    let utf8 = c.in-Ok.ensures.cases in
    text-reads c.args.bytes.now c.in-Ok.text.now c.read_text.result utf8.0 utf8.1 c.read_text.ensures.reads

pub returns-in-Err-clause-reads : goal.returns-in-Err-clause-reads
returns-in-Err-clause-reads c =
    source_answer-bytes c.args.bytes.now c.valid_up_to.result c.in-Err.ensures.cases.0
    (c.valid_up_to.ensures ∙ c.in-Err.ensures.valid_len)
