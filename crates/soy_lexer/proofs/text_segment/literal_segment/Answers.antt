use Rattle.std.proofs.Common.{codes}
use Rattle.std.specs.Str.{chars}
use Rattle.soy_base.specs.Cuts.{cut}
use Rattle.soy_lexer.specs.TextSegment.{closed_literal}
use Rattle.soy_lexer.proofs.TextSegments.{literal_opens, without_prefix, after_it, with_prefix}
use Rattle.soy_lexer.proofs.text_segment.literal_segment.Goals as goal

pub returns-in_err-inner : goal.returns-in_err-inner
returns-in_err-inner c =
    without_prefix (codes "{literal}") (codes "{literal}") literal_opens
    (λ inner. closed_literal (cut (codes "{/literal}") inner)) (chars c.args.text.now)
    c.from_residual.result c.in_err-inner.ensures c.from_residual.ensures

pub closed_literal-requires : goal.closed_literal-requires
closed_literal-requires c =
    after_it (codes "{literal}") (codes "{literal}") literal_opens
    (λ inner. closed_literal (cut (codes "{/literal}") inner)) (chars c.args.text.now)
    (chars c.in_ok-inner.inner.now) c.in_ok-inner.ensures

pub returns : goal.returns
returns c =
    with_prefix (codes "{literal}") (codes "{literal}") literal_opens
    (λ inner. closed_literal (cut (codes "{/literal}") inner)) (chars c.args.text.now)
    (chars c.in_ok-inner.inner.now) c.closed_literal.result c.in_ok-inner.ensures c.closed_literal.ensures
