-- The bytes of texts, part by part, and what a string grew by.
use Rattle.std.proofs.Common.{◌≡◌, ℕ, ◌^◌, ◌<◌, Bool, true, false, ◌&&◌, nat_lt, List, [], ◌∷◌, ◌++◌, String}
use Rattle.std.proofs.Common.{encode_utf8_all}
use Rattle.std.proofs.Common.{refl, sym, ap, ◌∙◌, append_assoc, append-nil}
use borrow.Author.Tests.{ltb-true}
use Rattle.std.specs.Fmt.{decimal}
use Rattle.std.specs.Str.{IsAscii, IsUtf8, chars}
use Rattle.std.specs.String.{string_bytes}
use Rattle.std.proofs.lemmas.Fmt.{IsAscii-decimal}
use Rattle.std.proofs.lemmas.Str.{chars-IsAscii, chars-nil, chars_from_encodes, encodes-IsAscii, encodes-append}
use Rattle.std.proofs.lemmas.Str.{encodes-chars}
use Rattle.std.proofs.lemmas.Str.{IsUtf8-string_bytes}
use Rattle.std.proofs.lemmas.Str.Ascii.{IsAscii-cons, IsAscii-nil}
use Rattle.soy_base.specs.Appends.{Appends}

-- each is an ASCII character
abbrev pub is_ascii : List ℕ → Bool
is_ascii [] = true
is_ascii (b ∷ bs) = nat_lt b 128 && is_ascii bs

both : (a b : Bool) → (a && b) ≡ true → (a ≡ true) × (b ≡ true)
both true b e = (refl, e)
both false b e = cc

IsAscii-from_test : (bs : List ℕ) → is_ascii bs ≡ true → IsAscii bs
IsAscii-from_test [] e = IsAscii-nil
IsAscii-from_test (b ∷ bs) e =
    let h : (nat_lt b 128 ≡ true) × (is_ascii bs ≡ true) = both (nat_lt b 128) (is_ascii bs) e in
    IsAscii-cons b bs (ltb-true _ _ h.0) (IsAscii-from_test bs h.1)

pub chars-ascii : (bs : List ℕ) → is_ascii bs ≡ true → chars bs ≡ bs
chars-ascii bs e = chars-IsAscii bs (IsAscii-from_test bs e)

-- the characters have these bytes
pub record Spells (cs bs : List ℕ) : Type 0 where
  pub bytes : encode_utf8_all cs ≡ bs

pub literal : (bs : List ℕ) → is_ascii bs ≡ true → Spells bs bs
literal bs e = record { bytes = encodes-IsAscii bs (IsAscii-from_test bs e) }

pub number : (n : ℕ) → n < 2 ^ 64 → Spells (decimal n) (decimal n)
number n h = record { bytes = encodes-IsAscii (decimal n) (IsAscii-decimal n h) }

pub text : (bs : List ℕ) → IsUtf8 bs → Spells (chars bs) bs
text bs h = record { bytes = encodes-chars bs h }

-- a text whose bytes are known to be those
pub known : (cs : List ℕ) {bs : List ℕ} → bs ≡ encode_utf8_all cs → Spells cs bs
known cs e = record { bytes = sym e }

pub joined : {a b x y : List ℕ} → Spells a x → Spells b y → Spells (a ++ b) (x ++ y)
joined {a = a} {b = b} {x = x} e f = record {
  bytes = encodes-append a b ∙ ap (λ l. l ++ encode_utf8_all b) e.bytes ∙ ap (λ l. x ++ l) f.bytes;
}

-- what a string grew by, from its bytes
pub appends_bytes : {A : Type 0} (old new : String A) {cs bs : List ℕ} → Spells cs bs
    → string_bytes new ≡ string_bytes old ++ bs → Appends old new cs
appends_bytes old new {cs = cs} e grew =
    let whole = joined (text (string_bytes old) (IsUtf8-string_bytes old)) e in
    sym (chars_from_encodes (chars (string_bytes old) ++ cs) (string_bytes new) (IsUtf8-string_bytes new)
    (whole.bytes ∙ sym grew))

-- a string that was empty has what it grew by
pub appends_first : {A : Type 0} (old new : String A) (cs : List ℕ) → string_bytes old ≡ [] → Appends old new cs
    → chars (string_bytes new) ≡ cs
appends_first old new cs e grew = grew ∙ ap (λ l. l ++ cs) (ap chars e ∙ chars-nil)

-- a string that did not grow, and one that grew twice
pub appends_none : {A : Type 0} (s : String A) → Appends s s []
appends_none s = sym (append-nil (chars (string_bytes s)))

pub appends_twice : {A : Type 0} (a b c : String A) (x y : List ℕ) → Appends a b x → Appends b c y
    → Appends a c (x ++ y)
appends_twice a b c x y e f = f ∙ ap (λ l. l ++ y) e ∙ append_assoc (chars (string_bytes a)) x y
