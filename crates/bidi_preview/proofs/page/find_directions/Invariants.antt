use Rattle.std.proofs.Common.{◌≡◌, [], ◌∷◌, None}
use Rattle.std.specs.Str.{chars, IsUtf8}
use Rattle.std.specs.Str.Iter.{chars_rest}
use Rattle.bidi_order.specs.MarkupTokens.{read_all, tokens_of}
use Rattle.soy_base.specs.Piece.Piece.{Static}
use Rattle.bidi_preview.specs.AutoDirections.{answers_from}
use Rattle.bidi_preview.specs.ReadingSteps.{view_reader}
use Rattle.bidi_preview.specs.SearchedNames.{AreCounted}
use Rattle.bidi_preview.proofs.page.find_directions.Given as goal

abbrev pub invariant-loop-c : goal.invariant-loop-c
invariant-loop-c l = record {
  utf8 : IsUtf8 (chars_rest l.c-iterator);
  names : AreCounted l.directions;
  found : answers_from l.directions.opened l.directions.answers.items
      (read_all None (view_reader l.reader.state l.reader.reader) (chars (chars_rest l.c-iterator))).0
      ≡ answers_from [] [] (tokens_of (Static (chars l.page) ∷ []));
}
