-- A text without a control of ASCII and without a byte that begins a character from U+0080 to U+00BF or from U+2000 to
-- U+2FFF is clean: no row of a class that is cleaned covers another character. The printable characters of ASCII are
-- such.
use Rattle.std.proofs.Common.{◌≡◌, ℕ, zero, suc, ◌+◌, ◌/◌, ◌<◌, ◌≤◌, Bool, true, false, not, ◌&&◌, ◌||◌, nat_lt, nat_le}
use Rattle.std.proofs.Common.{List, [], ◌∷◌, refl, sym, ap, ◌∙◌, ◌⊎◌, inl, inr, ⊎_elim, encode_utf8, encode_utf8_all}
use Rattle.std.proofs.Common.{slice_index_or, arith, if◌then◌else◌}
use Rattle.std.specs.Prelude.{◌==◌}
use Rattle.std.specs.List.{list_all, list_any}
use Rattle.std.specs.Str.{chars, IsAscii, IsUtf8}
use Rattle.std.proofs.lemmas.Bool.{and_from, and_parts, cases_lt, or_from, true≢false}
use Rattle.std.proofs.lemmas.Bool.Decides.{nat_tests}
use Rattle.std.proofs.lemmas.List.Folds.{list_all-append}
use Rattle.std.proofs.lemmas.Str.{encode_ascii, encodes-chars}
use Rattle.std.proofs.lemmas.Str.Ascii.{IsAscii-nil}
use lib.Utf8.{encode}
use Rattle.bidi_class.specs.declared.class.Class.{Class}
use Rattle.bidi_class.specs.Class.{Characters, begins_isolate, bidi_class, class_rows, first_class, is_covered, is_in}
use Rattle.bidi_class.specs.Class.Characters.{Categories, Points}
use Rattle.bidi_class.specs.Pairs.{ends_isolate}
use Rattle.bidi_text.specs.Clean.{is_separator}
use Rattle.esc_table.specs.LeadBytes.{lead_byte}
use Rattle.value_cursor.specs.Cleaned.{is_clean, is_clean_byte, is_printable}
use Rattle.value_cursor.proofs.ShareTables.{split}

abbrev is_clean_class : Class → Bool
is_clean_class class = not (begins_isolate class || ends_isolate class) && not (is_separator class)

-- the character is no control of ASCII and in neither of the two blocks
abbrev is_safe : ℕ → Bool
is_safe c = nat_le 32 c && ((nat_lt c 128 || nat_le 192 c) && (nat_lt c 8192 || nat_le 12288 c))

-- a range without safe characters
abbrev is_apart : ℕ × ℕ → Bool
is_apart range =
    nat_lt range.1 32 || ((nat_le 128 range.0 && nat_lt range.1 192) || (nat_le 8192 range.0 && nat_lt range.1 12288))

abbrev all_apart : Characters → Bool
all_apart (Points ranges) = list_all is_apart ranges
all_apart (Categories categories) = false

range_apart : (range : ℕ × ℕ) (c : ℕ) → is_apart range ≡ true → is_safe c ≡ true → is_in c range ≡ false
range_apart range c apart e = grind (arith, nat_tests)

ranges_apart : (ranges : List (ℕ × ℕ)) (c : ℕ) → list_all is_apart ranges ≡ true → is_safe c ≡ true
    → list_any (is_in c) ranges ≡ false
ranges_apart [] c apart e = refl
ranges_apart (range ∷ ranges) c apart e =
    let parts = and_parts (is_apart range) (list_all is_apart ranges) apart in
    or_from (is_in c range) (list_any (is_in c) ranges) (range_apart range c parts.0 e)
    (ranges_apart ranges c parts.1 e)

none_covered : (covers : Characters) (c : ℕ) → all_apart covers ≡ true → is_safe c ≡ true → is_covered covers c ≡ false
none_covered (Points ranges) c apart e = ranges_apart ranges c apart e
none_covered (Categories categories) c apart e = cc

second : (a b : Bool) → (a || b) ≡ true → a ≡ false → b ≡ true
second true b e none = cc
second false b e none = e

-- each row of another class passes, and the class of all other characters
abbrev passes : Class × Characters → Bool
passes row = is_clean_class row.0 || all_apart row.1

row_class : (good covered : Bool) (class : Class) (other : Class) → (good ≡ true → is_clean_class class ≡ true)
    → (good ≡ false → covered ≡ false) → is_clean_class other ≡ true
    → is_clean_class (if covered then class else other) ≡ true
row_class true true class other here apart rest = here refl
row_class true false class other here apart rest = rest
row_class false true class other here apart rest = let e = apart refl in cc
row_class false false class other here apart rest = rest

first_passes : (rows : List (Class × Characters)) (c : ℕ) → list_all passes rows ≡ true → is_safe c ≡ true
    → is_clean_class (first_class rows c) ≡ true
first_passes [] c are e = refl
first_passes (row ∷ rows) c are e =
    let parts = and_parts (passes row) (list_all passes rows) are in
    row_class (is_clean_class row.0) (is_covered row.1 c) row.0 (first_class rows c) (λ here. here)
    (λ none. none_covered row.1 c (second (is_clean_class row.0) (all_apart row.1) parts.0 none) e)
    (first_passes rows c parts.1 e)

clean_safe : (c : ℕ) → is_safe c ≡ true → is_clean c ≡ true
unfolding bidi_class
clean_safe c e = first_passes class_rows c refl e

-- ---- the first byte says so

lead_low : (c : ℕ) → c < 128 → lead_byte c ≡ c
lead_low c low = ap (λ l. slice_index_or l 0 0) (encode_ascii c low)

lead_two : (c : ℕ) → 128 ≤ c → c < 2048 → lead_byte c ≡ 192 + c / 64
unfolding encode
lead_two c high small = grind (arith, nat_tests)

lead_three : (c : ℕ) → 2048 ≤ c → c < 65536 → lead_byte c ≡ 224 + c / 4096
unfolding encode
lead_three c high small = grind (arith, nat_tests)

one_of_two : (c n m : ℕ) → (c < n) ⊎ (m ≤ c) → (nat_lt c n || nat_le m c) ≡ true
one_of_two c n m apart =
    ⊎_elim
    (λ (below : c < n). grind (arith, nat_tests, below))
    (λ (above : m ≤ c). grind (arith, nat_tests, above))
    apart

safe_from : (c : ℕ) → 32 ≤ c → (c < 128) ⊎ (192 ≤ c) → (c < 8192) ⊎ (12288 ≤ c) → is_safe c ≡ true
safe_from c printable latin general =
    let first : nat_le 32 c ≡ true = grind (arith, nat_tests, printable) in
    and_from (nat_le 32 c) _ first
    (and_from (nat_lt c 128 || nat_le 192 c) (nat_lt c 8192 || nat_le 12288 c) (one_of_two c 128 192 latin)
    (one_of_two c 8192 12288 general))

no_control : (c : ℕ) → nat_le 32 (lead_byte c) ≡ true → 32 ≤ c
no_control c e =
    ⊎_elim
    (λ (low : c < 32).
    let is : lead_byte c ≡ c = lead_low c (omega (arith, low)) in
    let least : nat_le 32 c ≡ true = ap (nat_le 32) (sym is) ∙ e in
    grind (arith, nat_tests, least))
    (λ high. high)
    (cases_lt c 32)

not_latin : (c : ℕ) → not (lead_byte c == 194) ≡ true → (c < 128) ⊎ (192 ≤ c)
not_latin c e =
    ⊎_elim
    (λ (low : c < 128). inl low)
    (λ high. ⊎_elim
    (λ (below : c < 192).
    let quotient : 192 + c / 64 ≡ 194 = omega (arith, high, below) in
    let is : lead_byte c ≡ 194 = lead_two c high (omega (arith, below)) ∙ quotient in
    absurd (true≢false (sym e ∙ ap (λ b. not (b == 194)) is)))
    (λ above. inr above)
    (cases_lt c 192))
    (cases_lt c 128)

not_general : (c : ℕ) → not (lead_byte c == 226) ≡ true → (c < 8192) ⊎ (12288 ≤ c)
not_general c e =
    ⊎_elim
    (λ (low : c < 8192). inl low)
    (λ high. ⊎_elim
    (λ (below : c < 12288).
    let quotient : 224 + c / 4096 ≡ 226 = omega (arith, high, below) in
    let is : lead_byte c ≡ 226 = lead_three c (omega (arith, high)) (omega (arith, below)) ∙ quotient in
    absurd (true≢false (sym e ∙ ap (λ b. not (b == 226)) is)))
    (λ above. inr above)
    (cases_lt c 12288))
    (cases_lt c 8192)

lead_safe : (c : ℕ) → is_clean_byte (lead_byte c) ≡ true → is_safe c ≡ true
lead_safe c e =
    let outer = and_parts (nat_le 32 (lead_byte c) && not (lead_byte c == 194)) (not (lead_byte c == 226)) e in
    let inner = and_parts (nat_le 32 (lead_byte c)) (not (lead_byte c == 194)) outer.0 in
    safe_from c (no_control c inner.0) (not_latin c inner.1) (not_general c outer.1)

characters_clean : (cs : List ℕ) → list_all is_clean_byte (encode_utf8_all cs) ≡ true → list_all is_clean cs ≡ true
characters_clean [] e = refl
characters_clean (c ∷ cs) e =
    let parts = and_parts (list_all is_clean_byte (encode_utf8 c)) (list_all is_clean_byte (encode_utf8_all cs))
    (sym (list_all-append is_clean_byte (encode_utf8 c) (encode_utf8_all cs)) ∙ e) in
    let first = and_parts _ _ (sym (ap (list_all is_clean_byte) (split c)) ∙ parts.0) in
    and_from (is_clean c) (list_all is_clean cs) (clean_safe c (lead_safe c first.0)) (characters_clean cs parts.1)

pub bytes_clean : (text : List ℕ) → IsUtf8 text → list_all is_clean_byte text ≡ true
    → list_all is_clean (chars text) ≡ true
bytes_clean text utf8 e =
    characters_clean (chars text) (ap (list_all is_clean_byte) (encodes-chars text utf8) ∙ e)

-- ---- printable bytes

printable_below : (byte : ℕ) → is_printable byte ≡ true → byte < 128
printable_below byte e = grind (arith, nat_tests)

printable_clean_byte : (byte : ℕ) → is_printable byte ≡ true → is_clean_byte byte ≡ true
printable_clean_byte byte e = grind (arith, nat_tests)

all_clean_bytes : (bytes : List ℕ) → list_all is_printable bytes ≡ true → list_all is_clean_byte bytes ≡ true
all_clean_bytes [] e = refl
all_clean_bytes (byte ∷ bytes) e =
    let parts = and_parts (is_printable byte) (list_all is_printable bytes) e in
    and_from (is_clean_byte byte) (list_all is_clean_byte bytes) (printable_clean_byte byte parts.0)
    (all_clean_bytes bytes parts.1)

pub printable_ascii : (bytes : List ℕ) → list_all is_printable bytes ≡ true → IsAscii bytes
printable_ascii [] e i = IsAscii-nil i
printable_ascii (byte ∷ bytes) e zero =
    printable_below byte (and_parts (is_printable byte) (list_all is_printable bytes) e).0
printable_ascii (byte ∷ bytes) e (suc i) =
    printable_ascii bytes (and_parts (is_printable byte) (list_all is_printable bytes) e).1 i

pub printable_clean : (text : List ℕ) → IsUtf8 text → list_all is_printable text ≡ true
    → list_all is_clean (chars text) ≡ true
printable_clean text utf8 e = bytes_clean text utf8 (all_clean_bytes text e)
