-- The directions of the elements that go by their content, in the order of their start tags, and how they are found in
-- one pass over the tokens of a page (WHATWG HTML, "The dir attribute").
--
-- Of each open element it is known for which such element a strong character directly in it would decide: the innermost
-- one around it whose content stands apart, where that one goes by its content.
--
-- `<bdi>1<b>` with U+05D0 in it gives one direction, from right to left, at that letter.
use Rattle.std.specs.Prelude.{ℕ, zero, suc, Bool, true, false, ◌||◌, if◌then◌else◌, List, [], ◌∷◌, ◌++◌, length}
use Rattle.std.specs.Prelude.{Option, Some, None, codes}
use Rattle.std.specs.Option.{is_some}
use Rattle.std.specs.Str.{bytes_eq}
use Rattle.bidi_class.specs.Class.{bidi_class}
use Rattle.bidi_text.specs.Estimate.{is_right_to_left, is_strong}
use Rattle.bidi_order.specs.Elements.{DirAttribute, content_right_to_left, dir_attribute, is_void, left_open}
use Rattle.bidi_order.specs.Elements.DirAttribute.{IsAuto}
use Rattle.bidi_order.specs.MarkupTokens.{MarkupToken}
use Rattle.bidi_order.specs.MarkupTokens.MarkupToken.{Character, StartTag, EndTag}

-- the direction of an element goes by its content
abbrev pub goes_by_content : List ℕ → Option DirAttribute → Bool
goes_by_content name None = bytes_eq name (codes "bdi")
goes_by_content name (Some IsAuto) = true
goes_by_content name (Some _) = false

-- its content doesn't count for the elements around it
abbrev pub is_apart : List ℕ → Option DirAttribute → Bool
is_apart name dir = is_some dir || bytes_eq name (codes "bdi")

-- ---- what is to be found

abbrev pub start_names : List ℕ → List (List ℕ) → List (List ℕ)
start_names name names = if is_void name then names else name ∷ names

abbrev pub end_names : List ℕ → List (List ℕ) → List (List ℕ)
end_names name names = elim (left_open (λ (n : List ℕ). n) name names) [ None ↦ names | Some left ↦ left ]

-- the direction of an element that goes by its content, and of no other
abbrev pub own_direction : List ℕ → Option DirAttribute → List (List ℕ) → List MarkupToken → List Bool
own_direction name dir names rest =
    if is_void name then []
    else (if goes_by_content name dir then content_right_to_left (name ∷ names) [] rest ∷ [] else [])

-- the directions from some tokens on, inside elements of these names
abbrev pub auto_directions : List (List ℕ) → List MarkupToken → List Bool
auto_directions names [] = []
auto_directions names (Character c label ∷ rest) = auto_directions names rest
auto_directions names (StartTag name dir label ∷ rest) =
    own_direction name (dir_attribute dir) names rest ++ auto_directions (start_names name names) rest
auto_directions names (EndTag name ∷ rest) = auto_directions (end_names name names) rest

-- ---- how it is found

-- an open element, and the number of the answer for which a strong character directly in it decides
pub record OpenName : Type 0 where
  pub name : List ℕ
  pub waits : Option ℕ

abbrev pub top_waits : List OpenName → Option ℕ
top_waits [] = None
top_waits (w ∷ ws) = w.waits

-- an answer is given where none was
abbrev pub answer_at : ℕ → Bool → List (Option Bool) → List (Option Bool)
answer_at k b [] = []
answer_at zero b (None ∷ answers) = Some b ∷ answers
answer_at zero b (Some a ∷ answers) = Some a ∷ answers
answer_at (suc k) b (a ∷ answers) = a ∷ answer_at k b answers

abbrev pub with_answer : Option ℕ → Bool → List (Option Bool) → List (Option Bool)
with_answer None b answers = answers
with_answer (Some k) b answers = answer_at k b answers

-- after a character
abbrev pub character_answers : Option ℕ → ℕ → List (Option Bool) → List (Option Bool)
character_answers waits c answers =
    if is_strong (bidi_class c) then with_answer waits (is_right_to_left (bidi_class c)) answers else answers

-- an element, which is the next to have an answer of this number
abbrev pub new_name : List ℕ → Option DirAttribute → ℕ → List OpenName → OpenName
new_name name dir n opened = record {
  name = name;
  waits = if goes_by_content name dir then Some n else (if is_apart name dir then None else top_waits opened);
}

abbrev pub start_opened : List ℕ → Option DirAttribute → ℕ → List OpenName → List OpenName
start_opened name dir n opened = if is_void name then opened else new_name name dir n opened ∷ opened

abbrev pub start_answers : List ℕ → Option DirAttribute → List (Option Bool) → List (Option Bool)
start_answers name dir answers =
    if is_void name then answers else (if goes_by_content name dir then answers ++ None ∷ [] else answers)

abbrev pub end_opened : List ℕ → List OpenName → List OpenName
end_opened name opened =
    elim (left_open (λ (w : OpenName). w.name) name opened) [ None ↦ opened | Some left ↦ left ]

-- the answers after some tokens; what has none then is from left to right
abbrev pub answers_from : List OpenName → List (Option Bool) → List MarkupToken → List (Option Bool)
answers_from opened answers [] = answers
answers_from opened answers (Character c (Some k) ∷ rest) = answers_from opened answers rest
answers_from opened answers (Character c None ∷ rest) =
    answers_from opened (character_answers (top_waits opened) c answers) rest
answers_from opened answers (StartTag name dir label ∷ rest) =
    answers_from (start_opened name (dir_attribute dir) (length answers) opened)
    (start_answers name (dir_attribute dir) answers) rest
answers_from opened answers (EndTag name ∷ rest) = answers_from (end_opened name opened) answers rest

abbrev pub or_left : Option Bool → Bool
or_left None = false
or_left (Some b) = b
