-- A page read token by token, as the code keeps what is known of it: the texts of the lines that ended, and the line
-- that has begun.
use Rattle.std.specs.Prelude.{◌≡◌, ℕ, Bool, true, false, if◌then◌else◌, List, [], ◌∷◌, ◌++◌, map, filter, drop, Option}
use Rattle.std.specs.Prelude.{Some}
use Rattle.std.specs.Prelude.{None, slice_index_or}
use Rattle.bidi_order.specs.Elements.{DirAttribute, OpenElement, has_override}
use Rattle.bidi_order.specs.Elements.DirAttribute.{IsLtr, IsRtl}
use Rattle.bidi_order.specs.Lines.{RestOfLines, element_start, lines_from, next_line, past_tag}
use Rattle.bidi_order.specs.MarkupTokens.{MarkupToken}
use Rattle.bidi_order.specs.WithinLimit.{line_characters}
use Rattle.bidi_preview.specs.AutoDirections.{auto_directions, goes_by_content}
use Rattle.bidi_preview.specs.Seen.{is_shown, shown_line, shown_text}

pub record PageSoFar : Type 0 where
  pub opened : List OpenElement
  -- those of the elements that go by their content, from here on
  pub directions : List Bool
  pub base : ℕ
  pub characters : List ℕ
  pub texts : List (List ℕ)

-- the texts of a page, where the rest of it gives this rest of the line and these lines
abbrev pub with_rest : PageSoFar → RestOfLines → List (List ℕ)
with_rest p rest =
    p.texts ++ filter is_shown (shown_text p.base (p.characters ++ line_characters rest.0) ∷ map shown_line rest.1)

-- the texts of a page, where these tokens are the rest of it
abbrev pub page_texts : ℕ → PageSoFar → List MarkupToken → List (List ℕ)
page_texts context p rest = with_rest p (lines_from context p.opened rest)

abbrev pub names_of : List OpenElement → List (List ℕ)
names_of opened = map (λ (e : OpenElement). e.name) opened

-- the directions that are known are those that the rest needs
abbrev pub AreKnown : PageSoFar → List MarkupToken → Type 0
AreKnown p rest = p.directions ≡ auto_directions (names_of p.opened) rest

-- the same of several tokens
abbrev pub GoOn : ℕ → PageSoFar → List MarkupToken → PageSoFar → Type 0
GoOn context before tokens after = (rest : List MarkupToken) → AreKnown before (tokens ++ rest)
    → (page_texts context before (tokens ++ rest) ≡ page_texts context after rest) × AreKnown after rest

-- the direction of an element, where those of the elements that go by their content are known
abbrev pub taken_direction : List ℕ → Option DirAttribute → List Bool → Option Bool
taken_direction name (Some IsLtr) directions = Some false
taken_direction name (Some IsRtl) directions = Some true
taken_direction name dir directions =
    if goes_by_content name dir then Some (slice_index_or directions 0 false) else None

-- those that are left
abbrev pub left_directions : List ℕ → Option DirAttribute → List Bool → List Bool
left_directions name dir directions = if goes_by_content name dir then drop 1 directions else directions

-- a text, where it is shown
abbrev pub shown_of : List ℕ → List (List ℕ)
shown_of text = if is_shown text then text ∷ [] else []

-- a tag gives what is known now, and then what follows a tag of this name
abbrev pub GoesPast : ℕ → PageSoFar → MarkupToken → List ℕ → PageSoFar → Type 0
GoesPast context before token name now = (rest : List MarkupToken) → AreKnown before (token ∷ rest)
    → (page_texts context before (token ∷ rest)
    ≡ with_rest now (past_tag context name now.opened (lines_from context now.opened rest)))
    × AreKnown now rest

-- a line has ended, and one has begun
abbrev pub EndsLine : ℕ → PageSoFar → PageSoFar → Type 0
EndsLine context before after = (after.opened ≡ before.opened) × (after.directions ≡ before.directions)
    × ((rest : RestOfLines) → with_rest before (next_line context before.opened rest) ≡ with_rest after rest)

-- a line has ended unless the tag was inline
abbrev pub EndsUnless : Bool → ℕ → PageSoFar → PageSoFar → Type 0
EndsUnless true context before after = before ≡ after
EndsUnless false context before after = EndsLine context before after

-- the element of a start tag, with the direction that is known for it
abbrev pub known_element : List ℕ → Option DirAttribute → List Bool → OpenElement
known_element name d directions = record {
  name = name;
  direction = taken_direction name d directions;
  overrides = has_override name d;
  label = None;
}

-- after the start tag of an element that isn't void
abbrev pub page_opened : List ℕ → Option DirAttribute → PageSoFar → PageSoFar
page_opened name d p = record p {
  opened = known_element name d p.directions ∷ p.opened;
  directions = left_directions name d p.directions;
  characters = p.characters ++ line_characters (element_start (known_element name d p.directions));
}
