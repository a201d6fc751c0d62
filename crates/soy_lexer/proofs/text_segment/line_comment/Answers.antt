use Rattle.std.proofs.Common.{◌++◌, codes}
use Rattle.std.specs.Str.{chars}
use Rattle.soy_base.specs.Cuts.{prefix_while, after_while}
use Rattle.soy_lexer.specs.Found.{begins}
use Rattle.soy_lexer.specs.Segment.Segment.{Skipped}
use Rattle.soy_lexer.specs.TextSegment.{continues_line}
use Rattle.soy_lexer.proofs.TextSegments.{line_opens, line_prefix, line_steps, without_prefix}
use Rattle.soy_lexer.proofs.text_segment.line_comment.Goals as goal

pub returns-in_err-after_prefix : goal.returns-in_err-after_prefix
returns-in_err-after_prefix c =
    without_prefix (codes "//") (codes "//") line_opens
    (λ inner. begins (Skipped (codes "//" ++ prefix_while continues_line inner)) (after_while continues_line inner))
    (chars c.args.text.now)
    c.from_residual.result c.in_err-after_prefix.ensures c.from_residual.ensures

pub before-comment-requires : goal.before-comment-requires
before-comment-requires c = (
  codes "//" ++ prefix_while continues_line (chars c.in_ok-after_prefix.field-0.now),
  line_prefix (chars c.args.text.now) (chars c.in_ok-after_prefix.field-0.now) (chars c.split_line.result.1.now)
      c.in_ok-after_prefix.ensures c.split_line.ensures.rest,
)

pub returns : goal.returns
returns c =
    line_steps (chars c.args.text.now) (chars c.in_ok-after_prefix.field-0.now) (chars c.split_line.result.1.now)
    (chars c.before-comment.result.now) c.begins.result
    c.in_ok-after_prefix.ensures c.split_line.ensures.rest c.before-comment.ensures c.begins.ensures
