use Rattle.std.proofs.Common.{◌+◌, ◌∙◌, ap, sym}
use Rattle.expr_parser.specs.Depths.{is_within}
use Rattle.soy_parser.specs.FileSteps.{depth_in, file_step}
use Rattle.soy_parser.proofs.OfFiles.Reaching.{is_reached, not_reached}
use Rattle.soy_parser.proofs.OfFiles.ReadingSteps.{none_goes_on, goes_too_deep, reads_on}
use Rattle.soy_parser.proofs.reading.read_on.Goals as goal

pub returns-then-not-branch : goal.returns-then-not-branch
returns-then-not-branch c =
    none_goes_on c.args.file c.loop-token.end c.loop-token.token-index c.args.tokens.now c.token-item.result
    c.loop-token.state _ c.loop-token-test.true (sym c.token-item.is) c.loop-token.invariant
    (sym c.unknown_before.ensures ∙ c.in_default.is)
    (not_reached c.in_ok-step.field-0 c.step.new.self (file_step c.loop-token.state c.token-item.result)
    c.in_ok-step.ensures c.if-not-branch.true)

pub returns-then-not-is_within : goal.returns-then-not-is_within
returns-then-not-is_within c =
    goes_too_deep c.args.file c.loop-token.end c.loop-token.token-index c.args.tokens.now c.token-item.result
    c.loop-token.state _ c.loop-token-test.true (sym c.token-item.is) c.loop-token.invariant
    (sym c.unknown_before.ensures ∙ c.in_default.is)
    c.step.new.self (is_reached c.in_ok-step.field-0 c.step.new.self
    (file_step c.loop-token.state c.token-item.result) c.in_ok-step.ensures c.if-not-branch.false)
    (sym (c.if-not-is_within.ensures ∙ ap (λ n. is_within 0 (n + depth_in c.step.new.self.spot)) c.len-blocks.ensures))

pub loop-token-preserved : goal.loop-token-preserved
loop-token-preserved c =
    reads_on c.args.file c.loop-token.end c.loop-token.token-index c.args.tokens.now c.token-item.result
    c.loop-token.state _ c.loop-token-test.true (sym c.token-item.is) c.loop-token.invariant
    (sym c.unknown_before.ensures ∙ c.in_default.is)
    c.step.new.self (is_reached c.in_ok-step.field-0 c.step.new.self
    (file_step c.loop-token.state c.token-item.result) c.in_ok-step.ensures c.if-not-branch.false)
    (sym (c.if-not-is_within.ensures ∙ ap (λ n. is_within 0 (n + depth_in c.step.new.self.spot)) c.len-blocks.ensures))
