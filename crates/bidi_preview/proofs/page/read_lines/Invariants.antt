use Rattle.std.proofs.Common.{◌≡◌, None}
use Rattle.std.specs.Str.{chars, IsUtf8}
use Rattle.std.specs.Str.Iter.{chars_rest}
use Rattle.bidi_order.specs.Lines.{direction_level}
use Rattle.bidi_order.specs.MarkupTokens.{read_all}
use Rattle.bidi_preview.specs.LinesSoFar.{view_lines}
use Rattle.bidi_preview.specs.PageSteps.{AreKnown, page_texts}
use Rattle.bidi_preview.specs.ReadingSteps.{view_reader}
use Rattle.bidi_preview.specs.Seen.{seen}
use Rattle.bidi_preview.proofs.page.read_lines.Given as goal

abbrev pub invariant-loop-c : goal.invariant-loop-c
invariant-loop-c l = record {
  utf8 : IsUtf8 (chars_rest l.c-iterator);
  context : l.lines.context ≡ l.fn.context;
  texts : page_texts (direction_level l.fn.context) (view_lines l.lines)
      (read_all None (view_reader l.reader.state l.reader.reader) (chars (chars_rest l.c-iterator))).0
      ≡ seen (chars l.page) l.fn.context;
  known : AreKnown (view_lines l.lines)
      (read_all None (view_reader l.reader.state l.reader.reader) (chars (chars_rest l.c-iterator))).0;
}
