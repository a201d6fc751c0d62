-- The characters of ASCII texts.
use Rattle.std.proofs.Common.{◌≡◌, ℕ, Bool, true, false, ◌&&◌, ◌==◌, nat_lt, List, [], ◌∷◌, ap, ◌∙◌, refl, arith}
use Rattle.std.proofs.Common.{bytes_eq}
use borrow.Author.Tests.{ltb-true}
use Rattle.std.specs.Str.{IsAscii, chars}
use Rattle.std.proofs.lemmas.Bool.Decides.{nat_tests}
use Rattle.std.proofs.lemmas.Str.{chars-IsAscii, chars-nil}
use Rattle.std.proofs.lemmas.Str.Ascii.{IsAscii-nil, IsAscii-cons}
use Rattle.msg_extract.specs.Canonical.Ascii.{is_ascii}

both : (a b : Bool) → (a && b) ≡ true → (a ≡ true) × (b ≡ true)
both true b e = (refl, e)
both false b e = cc

is_ascii-IsAscii : (bs : List ℕ) → is_ascii bs ≡ true → IsAscii bs
is_ascii-IsAscii [] e = IsAscii-nil
is_ascii-IsAscii (b ∷ bs) e =
    let h : (nat_lt b 128 ≡ true) × (is_ascii bs ≡ true) = both (nat_lt b 128) (is_ascii bs) e in
    IsAscii-cons b bs (ltb-true _ _ h.0) (is_ascii-IsAscii bs h.1)

pub chars_ascii : (bs : List ℕ) → is_ascii bs ≡ true → chars bs ≡ bs
chars_ascii bs e = chars-IsAscii bs (is_ascii-IsAscii bs e)

number_swapped : (a b : ℕ) → (a == b) ≡ (b == a)
number_swapped a b = grind (arith, nat_tests)

pub same_swapped : (a b : List ℕ) → bytes_eq a b ≡ bytes_eq b a
same_swapped [] [] = refl
same_swapped [] (d ∷ ds) = refl
same_swapped (c ∷ cs) [] = refl
same_swapped (c ∷ cs) (d ∷ ds) = rw (number_swapped c d, same_swapped cs ds) refl

-- of no bytes
pub no_characters : (bytes : List ℕ) → bytes ≡ [] → chars bytes ≡ []
no_characters bytes e = rw e chars-nil
