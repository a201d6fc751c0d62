-- A text begins with an ASCII word by its bytes exactly where it does by its characters.
use Rattle.std.proofs.Common.{◌≡◌, ℕ, true, nat_eq, List, ◌++◌, length, drop, encode_utf8_all, refl, sym, ap, ◌∙◌}
use Rattle.std.specs.List.{starts_with}
use Rattle.std.specs.Str.{IsUtf8, IsAscii, chars}
use Rattle.std.proofs.lemmas.Str.{chars-append, chars-IsAscii, encodes-append, encodes-IsAscii, encodes-chars}
use Rattle.std.proofs.lemmas.Str.{IsUtf8-from_ascii}
use Rattle.std.proofs.lemmas.Slice.Eq.{starts_is}
use Rattle.std.proofs.lemmas.Bool.Decides.{Decides-eqb}
use Rattle.bidi_text.proofs.Flags.{same_test}

-- what begins with a word by its bytes, and what follows it
begins_with : (text word : List ℕ) → starts_with nat_eq text word ≡ true → text ≡ word ++ drop (length word) text
begins_with text word h = (starts_is Decides-eqb text word (starts_with nat_eq text word) refl).0 h

begins : (text word rest : List ℕ) → text ≡ word ++ rest → starts_with nat_eq text word ≡ true
begins text word rest h = (starts_is Decides-eqb text word (starts_with nat_eq text word) refl).1 rest h

pub starts_with-chars : (text word : List ℕ) → IsUtf8 text → IsAscii word
    → starts_with nat_eq text word ≡ starts_with nat_eq (chars text) word
starts_with-chars text word utf8 ascii =
    same_test _ _
    (λ h. begins (chars text) word (chars (drop (length word) text))
    (ap chars (begins_with text word h) ∙ chars-append word (drop (length word) text) (IsUtf8-from_ascii word ascii)
    ∙ ap (λ prefix. prefix ++ chars (drop (length word) text)) (chars-IsAscii word ascii)))
    (λ h. let rest = drop (length word) (chars text) in
    begins text word (encode_utf8_all rest)
    (sym (encodes-chars text utf8) ∙ ap encode_utf8_all (begins_with (chars text) word h) ∙ encodes-append word rest
    ∙ ap (λ prefix. prefix ++ encode_utf8_all rest) (encodes-IsAscii word ascii)))
