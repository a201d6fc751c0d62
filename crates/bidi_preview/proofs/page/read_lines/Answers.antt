use Rattle.std.proofs.Common.{◌≡◌, ℕ, true, false, List, None, ap, sym, subst, arith, ◌∙◌}
use Rattle.std.specs.Str.{IsUtf8, chars}
use Rattle.std.specs.Str.Iter.{chars_rest}
use Rattle.std.proofs.lemmas.List.{nil_from_length}
use Rattle.std.proofs.lemmas.Str.{chars_past_char, chars-nil, IsUtf8-past_char}
use Rattle.bidi_order.specs.Lines.{direction_level}
use Rattle.bidi_order.specs.MarkupTokens.{read_all}
use Rattle.bidi_preview.specs.LinesSoFar.{view_lines}
use Rattle.bidi_preview.specs.ReadingSteps.{tokens_given, view_reader}
use Rattle.bidi_preview.specs.Seen.{seen}
use Rattle.bidi_preview.proofs.PageLines.{ReadSoFar}
use Rattle.bidi_preview.proofs.PageReadings.{ends_page}
use Rattle.bidi_preview.proofs.PageEnds.{begins_page, if_ok_then, lines_end, reads_on}
use Rattle.bidi_preview.proofs.page.read_lines.Goals as goal

pub loop-c-init : goal.loop-c-init
loop-c-init c =
    let rest : chars_rest c.into_iter-c-iterator.result ≡ c.args.page.now =
    ap chars_rest c.into_iter-c-iterator.ensures.into_iter_gives ∙ c.chars-c-items.ensures.rest in
    let both : ReadSoFar (direction_level c.args.context) (seen (chars c.args.page.now) c.args.context)
    (view_lines c.new-lines.result)
    (read_all None (view_reader c.new-reader.result.state c.new-reader.result.reader)
    (chars (chars_rest c.into_iter-c-iterator.result))).0 =
    begins_page (chars c.args.page.now) c.args.context c.args.directions.items (view_lines c.new-lines.result)
    (view_reader c.new-reader.result.state c.new-reader.result.reader)
    (chars (chars_rest c.into_iter-c-iterator.result)) c.new-reader.ensures (ap chars rest) c.new-lines.ensures.page
    c.requires in
    record {
      utf8 = subst (λ (bytes : List ℕ). IsUtf8 bytes) (sym rest) c.utf8.page;
      context = c.new-lines.ensures.context;
      texts = both.0;
      known = both.1;
    }

pub loop-c-preserved : goal.loop-c-preserved
loop-c-preserved c =
    let left = chars_past_char (chars_rest c.loop-c.c-iterator) (chars_rest c.next.new.self) c.in-Some.c
    c.loop-c.invariant.utf8 c.in-Some.ensures.steps.0 in
    let goes : c.in_ok-more.more ≡ true = grind (arith, c.if-not-more.false) in
    let both : ReadSoFar (direction_level c.args.context) (seen (chars c.args.page.now) c.args.context)
    (view_lines c.read-in-loop-c.new.self)
    (read_all None (view_reader c.read.new.self.state c.read.new.self.reader) (chars (chars_rest c.next.new.self))).0 =
    reads_on c.in_ok-more.more (view_reader c.loop-c.reader.state c.loop-c.reader.reader)
    (view_reader c.read.new.self.state c.read.new.self.reader) c.in-Some.c
    (tokens_given c.read.new.given.characters.items c.read.new.given.tag)
    (chars (chars_rest c.loop-c.c-iterator)) (chars (chars_rest c.next.new.self)) c.args.context
    c.loop-c.lines.context (seen (chars c.args.page.now) c.args.context) (view_lines c.loop-c.lines)
    (view_lines c.read-in-loop-c.new.self) goes left c.in_ok-more.ensures c.loop-c.invariant.context
    c.in_ok-read.ensures.texts (c.loop-c.invariant.texts, c.loop-c.invariant.known) in
    record {
      utf8 =
          IsUtf8-past_char (chars_rest c.loop-c.c-iterator) (chars_rest c.next.new.self) c.in-Some.c
          c.loop-c.invariant.utf8 c.in-Some.ensures.steps.0;
      context = c.in_ok-read.ensures.context ∙ c.loop-c.invariant.context;
      texts = both.0;
      known = both.1;
    }

pub returns-then-not-more : goal.returns-then-not-more
returns-then-not-more c =
    let left = chars_past_char (chars_rest c.loop-c.c-iterator) (chars_rest c.next.new.self) c.in-Some.c
    c.loop-c.invariant.utf8 c.in-Some.ensures.steps.0 in
    let ends : c.in_ok-more.more ≡ false = grind (arith, c.if-not-more.true) in
    if_ok_then _ _ c.done.result (λ texts here. lines_end (direction_level c.args.context) (view_lines c.loop-c.lines)
    (read_all None (view_reader c.loop-c.reader.state c.loop-c.reader.reader)
    (chars (chars_rest c.loop-c.c-iterator))).0
    texts (seen (chars c.args.page.now) c.args.context)
    (ends_page c.in_ok-more.more _ _ c.in-Some.c _ _ _ ends left c.in_ok-more.ensures)
    c.loop-c.invariant.texts here) c.done.ensures

pub returns : goal.returns
returns c = if_ok_then _ _ c.done-2.result (λ texts here. lines_end (direction_level c.args.context)
    (view_lines c.loop-c.lines)
    (read_all None (view_reader c.loop-c.reader.state c.loop-c.reader.reader)
    (chars (chars_rest c.loop-c.c-iterator))).0
    texts (seen (chars c.args.page.now) c.args.context)
    (ap (λ l. (read_all None (view_reader c.loop-c.reader.state c.loop-c.reader.reader) l).0)
    (ap chars (nil_from_length (chars_rest c.loop-c.c-iterator) c.in-None.ensures.steps.0.0) ∙ chars-nil))
    c.loop-c.invariant.texts here) c.done-2.ensures
