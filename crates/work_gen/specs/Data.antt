-- The data: items that are drawn, as compact JSON.
--
-- Each item is drawn in the order who, text (two words), link, n. The JSON has the members of an item in the order of
-- their names, no white space outside its strings, and a comma between two items. No word and no link has a character
-- that a string of JSON escapes, so each stands there as it is (RFC 8259, section 7).
-- Example: an item is `{"link":"/a","n":149,"text":"x y tea","who":"R&D"}`.
use Rattle.std.specs.Prelude.{ℕ, zero, suc, List, [], ◌∷◌, ◌++◌, codes, slice_index_or}
use Rattle.std.specs.Fmt.{decimal}
use Rattle.work_gen.specs.Draws.{pick, state_after}

-- peace in Hebrew: shin, lamed, vav, final mem
abbrev pub shalom : List ℕ
shalom = 0x5e9 ∷ 0x5dc ∷ 0x5d5 ∷ 0x5dd ∷ []

-- peace in Arabic: seen, lam, alef, meem
abbrev pub salam : List ℕ
salam = 0x633 ∷ 0x644 ∷ 0x627 ∷ 0x645 ∷ []

-- the words, counted from 0; the last one is empty
abbrev pub words : List (List ℕ)
words =
    codes "tea" ∷ codes "Käse" ∷ shalom ∷ salam ∷ codes "a<b" ∷ codes "R&D" ∷ codes "x y" ∷ codes "" ∷ []

-- the links, counted from 0
abbrev pub links : List (List ℕ)
links =
    codes "/a" ∷ codes "https://e.example/?q=1&r=2" ∷ codes "mailto:a@e.example" ∷ codes "javascript:1" ∷ []

-- the text with a number, below their length
abbrev pub text_at : List (List ℕ) → ℕ → List ℕ
text_at texts index = slice_index_or texts index []

pub record Item : Type 0 where
  pub who : List ℕ
  pub text : List ℕ
  pub link : List ℕ
  pub n : ℕ

-- the item that is drawn from a state, by five draws
abbrev pub item_from : ℕ → Item
item_from state = record {
  who = text_at words (pick 8 state);
  text = text_at words (pick 8 (state_after 1 state)) ++ (codes " " ++ text_at words (pick 8 (state_after 2 state)));
  link = text_at links (pick 4 (state_after 3 state));
  n = pick 200 (state_after 4 state);
}

-- so many items, one after the other
unfoldable pub items_from : ℕ → ℕ → List Item
items_from zero state = []
items_from (suc count) state = item_from state ∷ items_from count (state_after 5 state)

abbrev pub item_json : Item → List ℕ
item_json item =
    codes "{\"link\":\"" ++ (item.link ++ (codes "\",\"n\":" ++ (decimal item.n ++ (codes ",\"text\":\"" ++ (item.text
    ++ (codes "\",\"who\":\"" ++ (item.who ++ codes "\"}")))))))

-- a comma, unless nothing stands before it
abbrev pub comma_after : ℕ → List ℕ
comma_after zero = []
comma_after (suc before) = codes ","

-- these items, with a comma between two, after so many items
abbrev pub items_json : ℕ → List Item → List ℕ
items_json before [] = []
items_json before (item ∷ items) = comma_after before ++ (item_json item ++ items_json (suc before) items)

-- the data with so many items that a number decides
abbrev pub data_json : ℕ → ℕ → List ℕ
data_json count number = codes "{\"items\":[" ++ (items_json 0 (items_from count number) ++ codes "]}")
