-- The characters of ASCII texts.
use Rattle.std.proofs.Common.{◌≡◌, ℕ, Bool, true, false, ◌&&◌, nat_lt, List, [], ◌∷◌, refl}
use borrow.Author.Tests.{ltb-true}
use Rattle.std.specs.Str.{IsAscii, chars}
use Rattle.std.proofs.lemmas.Str.{chars-IsAscii, chars-nil}
use Rattle.std.proofs.lemmas.Str.Ascii.{IsAscii-nil, IsAscii-cons}
use Rattle.soy_format.specs.Ascii.{is_ascii}

both : (a b : Bool) → (a && b) ≡ true → (a ≡ true) × (b ≡ true)
both true b e = (refl, e)
both false b e = cc

is_ascii-IsAscii : (bs : List ℕ) → is_ascii bs ≡ true → IsAscii bs
is_ascii-IsAscii [] e = IsAscii-nil
is_ascii-IsAscii (b ∷ bs) e =
    let h : (nat_lt b 128 ≡ true) × (is_ascii bs ≡ true) = both (nat_lt b 128) (is_ascii bs) e in
    IsAscii-cons b bs (ltb-true _ _ h.0) (is_ascii-IsAscii bs h.1)

pub chars_ascii : (bs : List ℕ) → is_ascii bs ≡ true → chars bs ≡ bs
chars_ascii bs e = chars-IsAscii bs (is_ascii-IsAscii bs e)

-- of no bytes
pub no_characters : (bytes : List ℕ) → bytes ≡ [] → chars bytes ≡ []
no_characters bytes e = rw e chars-nil
