-- The characters of words in ASCII are their bytes, and the one symbol that is a `<`.
use Rattle.std.proofs.Common.{◌≡◌, Bool, true, false, List, refl}
use Rattle.std.specs.Prelude.{ℕ, codes, if◌then◌else◌}
use Rattle.std.specs.Str.{bytes_eq, chars}
use Rattle.expr_parser.specs.TypeTerminals.{is_less, type_symbol}
use Rattle.expr_parser.specs.declared.type_terminal.TypeTerminal.{TypeTerminal}
use Rattle.expr_parser.specs.declared.type_terminal.TypeTerminal.TheVariants as terminal

pub chars_html : chars (codes "html") ≡ codes "html"
unfolding chars
chars_html = refl

pub chars_attributes : chars (codes "attributes") ≡ codes "attributes"
unfolding chars
chars_attributes = refl

pub chars_text : chars (codes "text") ≡ codes "text"
unfolding chars
chars_text = refl

pub chars_private : chars (codes "private") ≡ codes "private"
unfolding chars
chars_private = refl

pub chars_all : chars (codes "all") ≡ codes "all"
unfolding chars
chars_all = refl

pub chars_other : chars (codes "other") ≡ codes "other"
unfolding chars
chars_other = refl

-- no other symbol of types is a `<`
none_is_less : (a b c d e f : Bool) → is_less (if a then terminal.Greater else if b then terminal.Comma else
    if c then terminal.Colon else if d then terminal.Bar else if e then terminal.OpenBracket else
    if f then terminal.CloseBracket else terminal.Other) ≡ false
none_is_less true b c d e f = refl
none_is_less false true c d e f = refl
none_is_less false false true d e f = refl
none_is_less false false false true e f = refl
none_is_less false false false false true f = refl
none_is_less false false false false false true = refl
none_is_less false false false false false false = refl

first_is_less : (a : Bool) (rest : TypeTerminal) → is_less rest ≡ false
    → is_less (if a then terminal.Less else rest) ≡ a
first_is_less true rest e = refl
first_is_less false rest e = e

pub less_by_text : (text : List ℕ) → is_less (type_symbol text) ≡ bytes_eq text (codes "<")
less_by_text text = first_is_less _ _ (none_is_less (bytes_eq text (codes ">")) (bytes_eq text (codes ","))
    (bytes_eq text (codes ":")) (bytes_eq text (codes "|")) (bytes_eq text (codes "[")) (bytes_eq text (codes "]")))
