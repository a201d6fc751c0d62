-- Bytes and characters of a text that grows, and how the escaped text grows by one character.
use Rattle.std.proofs.Common.{◌≡◌, ℕ, ◌≤◌, List, [], ◌∷◌, ◌++◌, ◌∙◌, ap, sym, encode_utf8_all, append-nil, length, take}
use Rattle.std.proofs.Common.{length-append, arith}
use Rattle.std.specs.Str.{chars, IsUtf8}
use Rattle.std.specs.String.Boundary.{IsSplitPoint}
use Rattle.std.proofs.Math.Seq.{take-append_seam}
use Rattle.std.proofs.lemmas.Grind.{flat_map-append}
use Rattle.std.proofs.lemmas.Str.{encodes-append, encodes-chars, IsCharBoundary-from_take}
use Rattle.esc_table.specs.EscapedText.{escaped_character, escaped_text}

-- where characters were added at the end, so were their bytes
pub bytes_added : (old new more : List ℕ) → IsUtf8 old → IsUtf8 new → chars new ≡ chars old ++ more
    → new ≡ old ++ encode_utf8_all more
bytes_added old new more text text' added =
    sym (encodes-chars new text') ∙ ap encode_utf8_all added ∙ encodes-append (chars old) more
    ∙ ap (λ prefix. prefix ++ encode_utf8_all more) (encodes-chars old text)

-- then the old bytes are the prefix of the new ones
pub prefix_stays : (old new more : List ℕ) → IsUtf8 old → IsUtf8 new → chars new ≡ chars old ++ more
    → take (length old) new ≡ old
prefix_stays old new more text text' added =
    ap (take (length old)) (bytes_added old new more text text' added) ∙ take-append_seam old (encode_utf8_all more)

-- so the new text may be cut where the old one ended
pub cut_at_old : (old new more : List ℕ) → IsUtf8 old → IsUtf8 new → chars new ≡ chars old ++ more
    → IsSplitPoint new (length old)
cut_at_old old new more text text' added =
    let within : length old ≤ length new =
    omega (arith, ap length (bytes_added old new more text text' added), length-append old (encode_utf8_all more))
    in
    let boundary = IsCharBoundary-from_take new (length old) text' within
    (rw (prefix_stays old new more text text' added) text) in
    (boundary.0, λ _. boundary.1)

-- more characters add what stands for them
pub more_escaped : (rows : List (ℕ × List ℕ)) (text more : List ℕ)
    → escaped_text rows (text ++ more) ≡ escaped_text rows text ++ escaped_text rows more
more_escaped rows text more = flat_map-append (escaped_character rows) text more

-- one more character adds what stands for it
pub next_escaped : (rows : List (ℕ × List ℕ)) (text : List ℕ) (c : ℕ) →
    escaped_text rows (text ++ c ∷ []) ≡ escaped_text rows text ++ escaped_character rows c
next_escaped rows text c =
    more_escaped rows text (c ∷ []) ∙ ap (λ more. escaped_text rows text ++ more)
    (append-nil (escaped_character rows c))
