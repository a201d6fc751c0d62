-- A page read one character at a time, as the code keeps what is known of it, and what a character gives.
--
-- What is known of a page beside the tokenizer's state is the tag that is being read, and the characters of text that
-- may be a reference. A static text has no label.
use Rattle.std.specs.Prelude.{◌≡◌, ℕ, Bool, true, false, List, [], ◌∷◌, ◌++◌, Option, Some, None, option_map}
use Rattle.html_state.specs.declared.row.State.{State}
use Rattle.bidi_order.specs.MarkupTokens.{MarkupToken, PageReading, labelled_characters, read_all}
use Rattle.bidi_order.specs.MarkupTokens.MarkupToken.{StartTag, EndTag}
use Rattle.bidi_preview.specs.declared.reading.GivenTag.{GivenTag}
use Rattle.bidi_preview.specs.declared.reading.GivenTag.TheVariants as given
use Rattle.bidi_preview.specs.declared.reading.Reader.{Reader}

-- the characters that may be a reference, if an `&` is pending
abbrev pub pending_of : Bool → List ℕ → Option (List ℕ)
pending_of true letters = Some letters
pending_of false letters = None

abbrev pub view_reader : State → Reader → PageReading
view_reader state r = record {
  state = state;
  tag = r.tag;
  reference = pending_of r.reference.begun r.reference.letters.items;
  opening = None;
}

-- the tokens that a character gives
abbrev pub tokens_given : List ℕ → Option GivenTag → List MarkupToken
tokens_given characters None = labelled_characters None characters
tokens_given characters (Some (given.Start name dir)) =
    StartTag name.items (option_map (λ d. d.items) dir) None ∷ []
tokens_given characters (Some (given.End name)) = EndTag name.items ∷ []

-- a character gives these tokens before those of the rest of a text; where it is a fault, nothing comes any more
abbrev pub GivesRest : Bool → PageReading → ℕ → List MarkupToken → PageReading → Type 0
GivesRest true before c tokens after = (text : List ℕ)
    → (read_all None before (c ∷ text)).0 ≡ tokens ++ (read_all None after text).0
GivesRest false before c tokens after = (text : List ℕ) → (read_all None before (c ∷ text)).0 ≡ []
