use Rattle.std.proofs.Common.{◌≡◌, [], ◌∷◌, true, false, None, ap, arith, ◌∙◌}
use Rattle.std.specs.Str.{chars}
use Rattle.std.specs.Str.Iter.{chars_rest}
use Rattle.std.proofs.lemmas.List.{nil_from_length}
use Rattle.std.proofs.lemmas.Str.{chars_past_char, chars-nil, IsUtf8-past_char}
use Rattle.bidi_order.specs.MarkupTokens.{read_all, tokens_of}
use Rattle.soy_base.specs.Piece.Piece.{Static}
use Rattle.bidi_preview.specs.ReadingSteps.{view_reader}
use Rattle.bidi_preview.proofs.PageReadings.{finds_more, ends_page}
use Rattle.bidi_preview.proofs.PageEnds.{directions_end, if_ok_then}
use Rattle.bidi_preview.proofs.page.find_directions.Goals as goal

pub loop-c-preserved : goal.loop-c-preserved
loop-c-preserved c =
    let left = chars_past_char (chars_rest c.loop-c.c-iterator) (chars_rest c.next.new.self) c.in-Some.c
    c.loop-c.invariant.utf8 c.in-Some.ensures.steps.0 in
    let goes : c.in_ok-more.more ≡ true = grind (arith, c.if-not-more.false) in
    record {
      utf8 =
          IsUtf8-past_char (chars_rest c.loop-c.c-iterator) (chars_rest c.next.new.self) c.in-Some.c
          c.loop-c.invariant.utf8 c.in-Some.ensures.steps.0;
      names = c.in_ok-read.ensures.names;
      found =
          finds_more c.in_ok-more.more _ _ c.in-Some.c _ _ _ _ _ _ _ goes left c.in_ok-more.ensures
          c.in_ok-read.ensures.answers
          ∙ c.loop-c.invariant.found;
    }

pub returns-then-not-more : goal.returns-then-not-more
returns-then-not-more c =
    let left = chars_past_char (chars_rest c.loop-c.c-iterator) (chars_rest c.next.new.self) c.in-Some.c
    c.loop-c.invariant.utf8 c.in-Some.ensures.steps.0 in
    let ends : c.in_ok-more.more ≡ false = grind (arith, c.if-not-more.true) in
    if_ok_then _ _ c.done.result (λ directions here. directions_end c.loop-c.directions.opened
    c.loop-c.directions.answers.items
    (read_all None (view_reader c.loop-c.reader.state c.loop-c.reader.reader)
    (chars (chars_rest c.loop-c.c-iterator))).0
    (tokens_of (Static (chars c.args.page.now) ∷ [])) directions.items
    (ends_page c.in_ok-more.more _ _ c.in-Some.c _ _ _ ends left c.in_ok-more.ensures)
    c.loop-c.invariant.found here) c.done.ensures

pub returns : goal.returns
returns c = if_ok_then _ _ c.done-2.result (λ directions here. directions_end c.loop-c.directions.opened
    c.loop-c.directions.answers.items
    (read_all None (view_reader c.loop-c.reader.state c.loop-c.reader.reader)
    (chars (chars_rest c.loop-c.c-iterator))).0
    (tokens_of (Static (chars c.args.page.now) ∷ [])) directions.items
    (ap (λ l. (read_all None (view_reader c.loop-c.reader.state c.loop-c.reader.reader) l).0)
    (ap chars (nil_from_length (chars_rest c.loop-c.c-iterator) c.in-None.ensures.steps.0.0) ∙ chars-nil))
    c.loop-c.invariant.found here) c.done-2.ensures
