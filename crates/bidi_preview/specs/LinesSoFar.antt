-- What the code keeps of a page, as the definitions have it.
use Rattle.std.specs.Prelude.{drop}
use Rattle.bidi_order.specs.Lines.{direction_level}
use Rattle.bidi_preview.specs.PageSteps.{PageSoFar}
use Rattle.bidi_preview.specs.declared.lines.Lines.{Lines}

abbrev pub view_lines : Lines → PageSoFar
view_lines l = record {
  opened = l.opened;
  directions = drop l.next l.directions.items;
  base = direction_level l.base;
  characters = l.characters.items;
  texts = l.texts;
}
