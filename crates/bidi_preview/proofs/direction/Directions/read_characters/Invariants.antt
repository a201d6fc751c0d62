use Rattle.std.proofs.Common.{◌≡◌, ◌++◌, List, None, drop}
use Rattle.bidi_order.specs.MarkupTokens.{MarkupToken, labelled_characters}
use Rattle.bidi_preview.specs.AutoDirections.{answers_from}
use Rattle.bidi_preview.specs.SearchedNames.{AreCounted}
use Rattle.bidi_preview.proofs.direction.Directions.read_characters.Given as goal

abbrev pub invariant-loop-c : goal.invariant-loop-c
invariant-loop-c l = record {
  names : AreCounted l.self;
  answers : (rest : List MarkupToken)
      → answers_from l.self.opened l.self.answers.items
      (labelled_characters None (drop l.c-index l.characters) ++ rest)
      ≡ answers_from l.initial.self.opened l.initial.self.answers.items
      (labelled_characters None l.characters ++ rest);
}
