-- An html page, taken as one static text, is read from its start to its end without a fault, and so are the characters
-- of its bytes: no character of it is one that the tokenizer's profile refuses.
-- Example: `<b><span dir="ltr">a</span></b>` is read so, as the text of 31 characters that it is.
use Rattle.std.specs.Prelude.{◌≡◌, ℕ, List, Ok}
use Rattle.std.specs.Str.{IsUtf8, chars}
use Rattle.html_state.specs.AfterPieces.{after_piece}
use Rattle.soy_base.specs.Piece.{Static}
use Rattle.html_state.specs.Start.{start}
use Rattle.html_state.specs.declared.row.State.{State}
use Rattle.soy_base.specs.declared.kind.Kind.TheVariants as kind
use Rattle.soy_pieces.specs.Meaning.{joined_pieces}
use Rattle.soy_top.specs.Rendered.{Rendered, page_pieces, page_text}

pub record IsOneText (page : Rendered) : Type 0 where
  pub characters : page.entry.template.kind ≡ kind.Html
      → (last : State)
      × (after_piece (start kind.Html) (Static (joined_pieces (page_pieces page page.input))) ≡ Ok last)
  pub bytes : page.entry.template.kind ≡ kind.Html → (given : List ℕ) → IsUtf8 given → given ≡ page_text page
      → (last : State) × (after_piece (start kind.Html) (Static (chars given)) ≡ Ok last)
