-- The bytes of an item, and the items that are left.
use Rattle.std.proofs.Common.{◌≡◌, ℕ, suc, ◌+◌, ◌-◌, ◌^◌, ◌<◌, List, [], ◌++◌, codes, refl, ap, ◌∙◌, sym, arith}
use Rattle.std.proofs.Common.{append_assoc, add-one, encode_utf8_all}
use Rattle.std.specs.Fmt.{decimal}
use Rattle.work_gen.specs.Data.{Item, comma_after, item_from, item_json, items_from, items_json, links, text_at, words}
use Rattle.work_gen.specs.Draws.{next_state, pick, state_after}
use Rattle.work_gen.proofs.Encoded.{Spells, joined, known, literal, number}

-- an item of these texts and this number
abbrev made : List ℕ → List ℕ → List ℕ → List ℕ → ℕ → Item
made who first second link n = record {
  who = who;
  text = first ++ (codes " " ++ second);
  link = link;
  n = n;
}

item_bytes : (who first second link : List ℕ) (n : ℕ) {who_bytes first_bytes second_bytes link_bytes : List ℕ}
    → who_bytes ≡ encode_utf8_all who → first_bytes ≡ encode_utf8_all first → second_bytes ≡ encode_utf8_all second
    → link_bytes ≡ encode_utf8_all link → n < 2 ^ 64 → Spells (item_json (made who first second link n))
    (codes "{\"link\":\"" ++ (link_bytes ++ (codes "\",\"n\":" ++ (decimal n ++ (codes ",\"text\":\"" ++ (first_bytes
    ++ (codes " " ++ (second_bytes ++ (codes "\",\"who\":\"" ++ (who_bytes ++ codes "\"}"))))))))))
item_bytes who first second link n is_who is_first is_second is_link h =
    let words = joined (known first is_first) (joined (literal (codes " ") refl) (known second is_second)) in
    let spelled = joined (literal (codes "{\"link\":\"") refl) (joined (known link is_link)
    (joined (literal (codes "\",\"n\":") refl) (joined (number n h) (joined (literal (codes ",\"text\":\"") refl)
    (joined words (joined (literal (codes "\",\"who\":\"") refl) (joined (known who is_who)
    (literal (codes "\"}") refl))))))))
    in record { bytes = spelled.bytes ∙ simp append_assoc }

-- the item of five draws in a row
module _ (state after1 after2 after3 after4 : ℕ) (first_draw : after1 ≡ next_state state)
    (second_draw : after2 ≡ next_state after1) (third_draw : after3 ≡ next_state after2)
    (fourth_draw : after4 ≡ next_state after3) where
  drawn : (who first second link n : ℕ) → who ≡ pick 8 state → first ≡ pick 8 after1 → second ≡ pick 8 after2
      → link ≡ pick 4 after3 → n ≡ pick 200 after4
      → made (text_at words who) (text_at words first) (text_at words second) (text_at links link) n ≡ item_from state
  drawn who first second link n is_who is_first is_second is_link is_n =
      rw (is_who, is_first, is_second, is_link, is_n, fourth_draw, third_draw, second_draw, first_draw) refl

  pub drawn_bytes : (who first second link n : ℕ) {who_bytes first_bytes second_bytes link_bytes : List ℕ}
      → who ≡ pick 8 state → first ≡ pick 8 after1 → second ≡ pick 8 after2 → link ≡ pick 4 after3
      → n ≡ pick 200 after4 → who_bytes ≡ encode_utf8_all (text_at words who)
      → first_bytes ≡ encode_utf8_all (text_at words first) → second_bytes ≡ encode_utf8_all (text_at words second)
      → link_bytes ≡ encode_utf8_all (text_at links link) → Spells (item_json (item_from state))
      (codes "{\"link\":\"" ++ (link_bytes ++ (codes "\",\"n\":" ++ (decimal n ++ (codes ",\"text\":\"" ++ (first_bytes
      ++ (codes " " ++ (second_bytes ++ (codes "\",\"who\":\"" ++ (who_bytes ++ codes "\"}"))))))))))
  drawn_bytes who first second link n is_who is_first is_second is_link is_n who_is first_is second_is link_is =
      let small : n < 2 ^ 64 = omega (arith, is_n) in
      let spelled = item_bytes (text_at words who) (text_at words first) (text_at words second) (text_at links link) n
      who_is first_is second_is link_is small in
      let same = drawn who first second link n is_who is_first is_second is_link is_n in
      record { bytes = ap (λ item. encode_utf8_all (item_json item)) (sym same) ∙ spelled.bytes }

-- one more item
items_left : (before count : ℕ) → before < count → count - before ≡ suc (count - (before + 1))
items_left before count h = omega arith

pub items_step : (before count state : ℕ) → before < count → items_json before (items_from (count - before) state)
    ≡ comma_after before
    ++ (item_json (item_from state)
    ++ items_json (before + 1) (items_from (count - (before + 1)) (state_after 5 state)))
unfolding items_from
items_step before count state h = rw (items_left before count h) (simp add-one)

-- none is left
pub items_done : (before count state : ℕ) → before ≡ count → items_json before (items_from (count - before) state) ≡ []
unfolding items_from
items_done before count state e = let none : count - before ≡ 0 = omega arith in rw none refl

-- what is written and what is left, after one more item
pub one_more : (old mid new comma item rest whole : List ℕ) → mid ≡ old ++ comma → new ≡ mid ++ item
    → old ++ (comma ++ (item ++ rest)) ≡ whole → new ++ rest ≡ whole
one_more old mid new comma item rest whole e f g =
    rw (f, e) (simp append_assoc g)
