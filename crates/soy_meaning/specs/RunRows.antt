-- What the laws on runs say of the worked rows of soy_pieces: how the frames of a row nest, and what they ask of its
-- file.
--
-- Example: in the body `{let $b kind="html"}<i>{$x}</i>{/let}{$b}{$b}` the frame of the block fills both holes. The
-- body `<i>{$x}</i><i>{$x}</i>` gives the same pieces, and no frame is in it.
use Rattle.std.specs.Prelude.{◌≡◌, ℕ, List, [], ◌∷◌, Ok, codes}
use Rattle.soy_base.specs.declared.kind.Kind.TheVariants as kind
use Rattle.soy_base.specs.declared.place.Place.{Place}
use Rattle.soy_base.specs.declared.place.ValueClass.TheVariants as class
use Rattle.soy_tree.specs.Types.{Name, SoyType}
use Rattle.soy_tree.specs.Nodes.{Node}
use Rattle.soy_rules.specs.Templates.{declared}
use Rattle.soy_meaning.specs.Paths.Filled.{Filled, filled_end, frame_before, text_before, value_before}
use Rattle.soy_pieces.specs.Pieces.{RunContext}
use Rattle.soy_meaning.specs.Walks.AcceptedTrees.{walk_trees}
use Rattle.soy_meaning.specs.Runs.PicksValues.{TemplatesPick}
use Rattle.soy_meaning.specs.Walks.States.{IsMember}
use Rattle.soy_meaning.specs.Runs.TranslationFits.{TranslationsFit}
use Rattle.soy_meaning.specs.Walks.Walk.{walked}
use Rattle.soy_pieces.specs.RowTrees.{site_at}
use Rattle.soy_pieces.specs.RunRows.{row_template, row_trees}

-- ---- blocks

-- what fills its path: the frame of the block in each of its two holes
abbrev pub block_filled : List ℕ → Filled → Filled
block_filled text rest =
    text_before (codes "<i>") (value_before (site_at 0) (class.Text ∷ []) class.Text text
    (text_before (codes "</i>") rest))

abbrev pub blocks_filled : List ℕ → Filled
blocks_filled text =
    frame_before (site_at 0) (class.Html ∷ []) kind.Html (block_filled text filled_end)
    (frame_before (site_at 0) (class.Html ∷ []) kind.Html (block_filled text filled_end) filled_end)

-- the same pieces where nothing nests, `<i>{$x}</i><i>{$x}</i>`
abbrev pub flat_filled : List ℕ → Filled
flat_filled text = block_filled text (block_filled text filled_end)

-- ---- what the laws ask of a row

-- what the laws on runs ask of the file of a row: its template is declared, its translations fit, its expressions pick
-- values; and the walk gives these places to its holes
pub record MeetsPremises (c : RunContext) (params : List (Name × SoyType)) (body : List Node) (places : List Place) :
    Type 0 where
  pub declares : c.declared ≡ declared (row_trees params body)
  pub member : IsMember (row_template params body) c.declared
  pub translations : TranslationsFit c.translation c.declared
  pub picks : TemplatesPick c c.declared
  pub walks : walk_trees c.translation (row_trees params body) ≡ Ok (walked [] places)
