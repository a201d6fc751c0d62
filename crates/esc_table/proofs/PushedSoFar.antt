-- What is pushed of a text so far: what stands for a prefix of it, so that what stands for the rest is still to come.
use Rattle.std.proofs.Common.{◌≡◌, ℕ, List, ◌++◌, ◌∙◌, sym, ap, length, encode_utf8, append-nil, append_assoc}
use Rattle.std.specs.Str.{chars, IsUtf8}
use Rattle.std.proofs.lemmas.List.{nil_from_length}
use Rattle.std.proofs.lemmas.Str.{chars-append, chars-nil, chars_past_char}
use Rattle.esc_table.specs.EscapedText.{escaped_character, escaped_text}
use Rattle.esc_table.proofs.EscapedParts.{more_escaped}

pub record PushedSoFar (rows : List (ℕ × List ℕ)) (start out rest text : List ℕ) : Type 0 where
  pub whole : out ++ escaped_text rows (chars rest) ≡ start ++ escaped_text rows (chars text)
  pub utf8 : IsUtf8 rest
  pub more : List ℕ
  pub grown : out ≡ start ++ more

module _ (rows : List (ℕ × List ℕ)) where
  -- what stands for the first character, and then for the rest
  pub first_pushed : (text rest : List ℕ) (c : ℕ) (out out' : List ℕ) → IsUtf8 text → text ≡ encode_utf8 c ++ rest
      → out' ≡ out ++ escaped_character rows c
      → out' ++ escaped_text rows (chars rest) ≡ out ++ escaped_text rows (chars text)
  first_pushed text rest c out out' utf8 split grows =
      ap (λ l. l ++ escaped_text rows (chars rest)) grows ∙ append_assoc out (escaped_character rows c)
      (escaped_text rows (chars rest))
      ∙ ap (λ l. out ++ escaped_text rows l) (sym (chars_past_char text rest c utf8 split))

  -- a prefix that stands for itself, and then what stands for the rest
  pub prefix_pushed : (text prefix rest out out' : List ℕ) → IsUtf8 prefix → text ≡ prefix ++ rest
      → escaped_text rows (chars prefix) ≡ chars prefix → out' ≡ out ++ chars prefix
      → out' ++ escaped_text rows (chars rest) ≡ out ++ escaped_text rows (chars text)
  prefix_pushed text prefix rest out out' utf8 split plain grows =
      ap (λ l. l ++ escaped_text rows (chars rest)) grows
      ∙ append_assoc out (chars prefix) (escaped_text rows (chars rest))
      ∙ ap (λ l. out ++ (l ++ escaped_text rows (chars rest))) (sym plain)
      ∙ ap (λ l. out ++ l) (sym (more_escaped rows (chars prefix) (chars rest)))
      ∙ ap (λ l. out ++ escaped_text rows l) (sym (ap chars split ∙ chars-append prefix rest utf8))

  -- a prefix that stands for itself and then what stands for more of the text
  pub next_pushed : (start out rest text prefix others rest' pushed out' : List ℕ)
      → PushedSoFar rows start out rest text → IsUtf8 prefix → rest ≡ prefix ++ others
      → escaped_text rows (chars prefix) ≡ chars prefix → pushed ≡ out ++ chars prefix
      → out' ++ escaped_text rows (chars rest') ≡ pushed ++ escaped_text rows (chars others) → IsUtf8 rest'
      → ((more : List ℕ) × (out' ≡ pushed ++ more))
      → PushedSoFar rows start out' rest' text
  next_pushed start out rest text prefix others rest' pushed out' so_far utf8 split plain prefix_grows grows utf8_rest
      longer = record {
        whole = grows ∙ prefix_pushed rest prefix others out pushed utf8 split plain prefix_grows ∙ so_far.whole;
        utf8 = utf8_rest;
        more = (so_far.more ++ chars prefix) ++ longer.0;
        grown = longer.1 ∙ ap (λ l. l ++ longer.0) (prefix_grows ∙ ap (λ l. l ++ chars prefix) so_far.grown
            ∙ append_assoc start so_far.more (chars prefix))
            ∙ append_assoc start (so_far.more ++ chars prefix) longer.0;
      }

  -- where nothing is left, all is pushed
  pub all_pushed : (start out rest text : List ℕ) → length rest ≡ 0 → PushedSoFar rows start out rest text
      → out ≡ start ++ escaped_text rows (chars text)
  all_pushed start out rest text none so_far =
      sym (ap (λ l. out ++ escaped_text rows l) (ap chars (nil_from_length rest none) ∙ chars-nil) ∙ append-nil out)
      ∙ so_far.whole
