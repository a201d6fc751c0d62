use Rattle.std.proofs.Common.{◌≡◌, ◌++◌, List, None, drop}
use Rattle.bidi_order.specs.Lines.{direction_level}
use Rattle.bidi_order.specs.MarkupTokens.{MarkupToken, labelled_characters}
use Rattle.bidi_preview.specs.LinesSoFar.{view_lines}
use Rattle.bidi_preview.specs.PageSteps.{AreKnown, page_texts}
use Rattle.bidi_preview.proofs.lines.Lines.read_characters.Given as goal

abbrev pub invariant-loop-c : goal.invariant-loop-c
invariant-loop-c l = record {
  context : l.self.context ≡ l.initial.self.context;
  texts : (rest : List MarkupToken)
      → AreKnown (view_lines l.initial.self) (labelled_characters None l.characters ++ rest)
      → (page_texts (direction_level l.initial.self.context) (view_lines l.initial.self)
      (labelled_characters None l.characters ++ rest)
      ≡ page_texts (direction_level l.initial.self.context) (view_lines l.self)
      (labelled_characters None (drop l.c-index l.characters) ++ rest))
      × AreKnown (view_lines l.self) (labelled_characters None (drop l.c-index l.characters) ++ rest);
}
