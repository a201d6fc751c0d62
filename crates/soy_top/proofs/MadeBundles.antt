-- The bundle that `gen` makes: its strings, and that it has no number.
use Rattle.std.proofs.Common.{◌≡◌, ℕ, Bool, true, false, ◌||◌, List, [], ◌∷◌, refl, encode_utf8_all, nat_cmp}
use Rattle.std.proofs.Common.{Ordering, Less, Equal, Greater, Global, String, rules, string_bytes}
use Rattle.std.specs.Ordering.{match_ordering}
use Rattle.std.specs.Cmp.Lexicographic.{slice_cmp}
use Rattle.serde_json.specs.Data.{Members, member, no_members, put, string}
use Rattle.serde_json.specs.View.{view}
use Rattle.serde_json.specs.Written.{has_float, members_have_float}
use Rattle.serde_json.specs.declared.value.Value.{the_lemmas}
use Rattle.serde_json.specs.declared.value.Value.TheVariants as value
use Rattle.soy_top.specs.MadeBundle.{bundle_data, translation, with_translations}
use Rattle.msg_extract.specs.declared.catalogue.Listed.{Listed}

-- a string is seen as its bytes
pub view_string : (s : String Global) → view (value.String s) ≡ string (string_bytes s)
view_string s = search (rules, the_lemmas)

neither : (a b : Bool) → (a || b) ≡ false → (a ≡ false) × (b ≡ false)
neither true b h = cc
neither false b h = (refl, h)

none_in : (o : Ordering) (a b c : Members) → members_have_float a ≡ false → members_have_float b ≡ false
    → members_have_float c ≡ false → members_have_float (match_ordering o a b c) ≡ false
none_in Less a b c none_a none_b none_c = none_a
none_in Equal a b c none_a none_b none_c = none_b
none_in Greater a b c none_a none_b none_c = none_c

-- nor have members with one more string
put_none : (key text : List ℕ) (ms : Members) → members_have_float ms ≡ false
    → members_have_float (put key (string text) ms) ≡ false
put_none key text no_members none = refl
put_none key text (member k d ms) none =
    let both = neither (has_float d) (members_have_float ms) none in
    none_in (slice_cmp nat_cmp key k) _ _ _ none both.1 (rw both.0 (put_none key text ms both.1))

translations_none : (made : Members) (rows : List Listed) → members_have_float made ≡ false
    → members_have_float (with_translations made rows) ≡ false
translations_none made [] none = none
translations_none made (row ∷ rows) none =
    translations_none (put (encode_utf8_all row.id) (string (translation row)) made) rows
    (put_none (encode_utf8_all row.id) (translation row) made none)

pub no_float : (rows : List Listed) → has_float (bundle_data rows) ≡ false
no_float rows = rw (translations_none no_members rows refl) refl
