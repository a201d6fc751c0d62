-- What a text that ends too deep is: a page up to a call, or nothing, where a `preview` ends at a call.
--
-- Example: of a `preview` whose template calls itself without end it is the empty text.
use Rattle.std.specs.Prelude.{◌≡◌, ℕ, List, []}
use Rattle.soy_io.specs.FileOf.{Files}
use Rattle.soy_top.specs.Commands.IsPage.{IsStoppedPage}
use Rattle.soy_top.specs.Commands.IsPreview.{IsStoppedPreview}
use Rattle.soy_top.specs.Words.{Word}

pub data IsStopped (files : Files) (words : List Word) (text line : List ℕ) : Type 0 where
  StoppedPage : IsStoppedPage files words text line → IsStopped files words text line
  StoppedPreview : IsStoppedPreview files words line → text ≡ [] → IsStopped files words text line
