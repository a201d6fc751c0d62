use Rattle.std.proofs.Common.{codes}
use Rattle.std.specs.Str.{chars}
use Rattle.soy_base.specs.Cuts.{cut}
use Rattle.soy_lexer.specs.TextSegment.{closed_comment}
use Rattle.soy_lexer.proofs.TextSegments.{comment_opens, without_prefix, after_it, with_prefix}
use Rattle.soy_lexer.proofs.text_segment.block_comment.Goals as goal

pub returns-in_err-inner : goal.returns-in_err-inner
returns-in_err-inner c =
    without_prefix (codes "/*") (codes "/*") comment_opens (λ inner. closed_comment (cut (codes "*/") inner))
    (chars c.args.text.now)
    c.from_residual.result c.in_err-inner.ensures c.from_residual.ensures

pub closed_comment-requires : goal.closed_comment-requires
closed_comment-requires c =
    after_it (codes "/*") (codes "/*") comment_opens (λ inner. closed_comment (cut (codes "*/") inner))
    (chars c.args.text.now) (chars c.in_ok-inner.inner.now) c.in_ok-inner.ensures

pub returns : goal.returns
returns c =
    with_prefix (codes "/*") (codes "/*") comment_opens (λ inner. closed_comment (cut (codes "*/") inner))
    (chars c.args.text.now)
    (chars c.in_ok-inner.inner.now) c.closed_comment.result c.in_ok-inner.ensures c.closed_comment.ensures
