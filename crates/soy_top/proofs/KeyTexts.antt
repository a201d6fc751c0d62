-- The text of a key of a JSON pointer, character by character.
use Rattle.std.proofs.Common.{◌≡◌, ℕ, List, [], ◌∷◌, ◌++◌, sym, ap, ◌∙◌, append_assoc, append-nil}
use Rattle.std.specs.Prelude.{encode_utf8_all}
use Rattle.std.specs.List.{flat_map}
use Rattle.std.proofs.lemmas.Str.{encodes-append}
use Rattle.soy_top.specs.Pointer.{key_character}

abbrev key_bytes : List ℕ → List ℕ
key_bytes characters = encode_utf8_all (flat_map key_character characters)

-- one more character was added
pub key_more : (old new whole left others : List ℕ) (c : ℕ) → left ≡ c ∷ others
    → new ≡ old ++ encode_utf8_all (key_character c) → old ++ key_bytes left ≡ whole → new ++ key_bytes others ≡ whole
key_more old new whole left others c split is so_far =
    ap (λ t. t ++ key_bytes others) is
    ∙ (append_assoc old (encode_utf8_all (key_character c)) (key_bytes others)
    ∙ (ap (λ t. old ++ t) (sym (encodes-append (key_character c) (flat_map key_character others)))
    ∙ (ap (λ r. old ++ key_bytes r) (sym split) ∙ so_far)))

-- all were added
pub key_whole : (old whole left : List ℕ) → left ≡ [] → old ++ key_bytes left ≡ whole → old ≡ whole
key_whole old whole left none so_far = sym (append-nil old) ∙ (ap (λ r. old ++ key_bytes r) (sym none) ∙ so_far)
