use Rattle.std.proofs.Common.{◌++◌, codes, ap, sym, subst, ◌∙◌}
use Rattle.std.specs.Str.{chars}
use Rattle.soy_lexer.specs.Found.{begins}
use Rattle.soy_lexer.specs.Segment.Segment.{Skipped}
use Rattle.soy_lexer.specs.ReadsSegment.{ReadsSegment}
use Rattle.soy_lexer.specs.TextSegment.{closed_comment}
use Rattle.soy_lexer.proofs.TextSegments.{comment_closes, no_delimiter, cut_there, up_to_delimiter, before_delimiter}
use Rattle.soy_lexer.proofs.text_segment.closed_comment.Goals as goal

pub before-comment-requires : goal.before-comment-requires
before-comment-requires c = (
  codes "/*" ++ (chars c.in-Some.field-0-0.now ++ codes "*/"),
  up_to_delimiter (codes "*/") (codes "*/") comment_closes (codes "/*") (chars c.args.inner.now) (chars c.args.text.now)
      c.requires
      (chars c.in-Some.field-0-0.now) (chars c.in-Some.rest.now) c.in-Some.ensures,
)

pub returns-in-Some : goal.returns-in-Some
returns-in-Some c =
    let there = cut_there (codes "*/") (codes "*/") comment_closes (codes "/*") (chars c.args.inner.now)
    (chars c.args.text.now) c.requires
    (chars c.in-Some.field-0-0.now) (chars c.in-Some.rest.now) c.in-Some.ensures in
    let same = before_delimiter (codes "*/") (codes "*/") comment_closes (codes "/*") (chars c.args.inner.now)
    (chars c.args.text.now) c.requires
    (chars c.in-Some.field-0-0.now) (chars c.in-Some.rest.now) (chars c.before-comment.result.now) c.in-Some.ensures
    c.before-comment.ensures in
    subst (λ f. ReadsSegment f c.begins.result)
    (ap (λ p. begins (Skipped p) (chars c.in-Some.rest.now)) same ∙ sym (ap closed_comment there)) c.begins.ensures

pub returns-in-None : goal.returns-in-None
returns-in-None c =
    ap closed_comment (no_delimiter (codes "*/") (codes "*/") comment_closes (codes "/*") (chars c.args.inner.now)
    (chars c.args.text.now) c.requires c.in-None.ensures)
