-- What a text that is the answer is: a page, a catalogue, that files are accepted, the summary of a workload, the lines
-- of a script, the lines of a page as they are seen, or the canonical source of a file.
--
-- Example: where the words are `extract t.soy`, it is the catalogue of t.soy.
use Rattle.std.specs.Prelude.{ℕ, List}
use Rattle.soy_io.specs.FileOf.{Files}
use Rattle.soy_top.specs.Commands.IsCatalogue.{IsCatalogue}
use Rattle.soy_top.specs.Commands.IsChecked.{IsChecked}
use Rattle.soy_top.specs.Commands.IsFormatted.{IsFormatted}
use Rattle.soy_top.specs.Commands.IsGenerated.{IsGenerated}
use Rattle.soy_top.specs.Commands.IsPage.{IsPage}
use Rattle.soy_top.specs.Commands.IsPlayed.{IsPlayed}
use Rattle.soy_top.specs.Commands.IsPreview.{IsPreview}
use Rattle.soy_top.specs.Words.{Word}

pub data IsText (files : Files) (words : List Word) (text : List ℕ) : Type 0 where
  Page : IsPage files words text → IsText files words text
  Checked : IsChecked files words text → IsText files words text
  Catalogue : IsCatalogue files words text → IsText files words text
  Generated : IsGenerated words text → IsText files words text
  Played : IsPlayed files words text → IsText files words text
  Formatted : IsFormatted files words text → IsText files words text
  Previewed : IsPreview files words text → IsText files words text
