use Rattle.std.proofs.Common.{◌++◌, codes, ap, sym, subst}
use Rattle.std.specs.Str.{chars}
use Rattle.soy_lexer.specs.ReadsSegment.{ReadsSegment}
use Rattle.soy_lexer.specs.TextSegment.{closed_literal}
use Rattle.soy_lexer.proofs.TextSegments.{literal_closes, no_delimiter, cut_there, up_to_delimiter, before_delimiter}
use Rattle.soy_lexer.proofs.text_segment.closed_literal.Goals as goal

pub before-requires : goal.before-requires
before-requires c = (
  codes "{literal}" ++ (chars c.in-Some.literal.now ++ codes "{/literal}"),
  up_to_delimiter (codes "{/literal}") (codes "{/literal}") literal_closes (codes "{literal}") (chars c.args.inner.now)
      (chars c.args.text.now) c.requires
      (chars c.in-Some.literal.now) (chars c.in-Some.rest.now) c.in-Some.ensures,
)

pub begins-requires : goal.begins-requires
begins-requires c =
    before_delimiter (codes "{/literal}") (codes "{/literal}") literal_closes (codes "{literal}")
    (chars c.args.inner.now) (chars c.args.text.now) c.requires
    (chars c.in-Some.literal.now) (chars c.in-Some.rest.now) (chars c.before-in-Some.result.now) c.in-Some.ensures
    c.before-in-Some.ensures

pub returns-in-Some : goal.returns-in-Some
returns-in-Some c =
    let there = cut_there (codes "{/literal}") (codes "{/literal}") literal_closes (codes "{literal}")
    (chars c.args.inner.now) (chars c.args.text.now) c.requires
    (chars c.in-Some.literal.now) (chars c.in-Some.rest.now) c.in-Some.ensures in
    subst (λ f. ReadsSegment f c.begins.result) (sym (ap closed_literal there)) c.begins.ensures

pub returns-in-None : goal.returns-in-None
returns-in-None c =
    ap closed_literal (no_delimiter (codes "{/literal}") (codes "{/literal}") literal_closes (codes "{literal}")
    (chars c.args.inner.now) (chars c.args.text.now) c.requires c.in-None.ensures)
