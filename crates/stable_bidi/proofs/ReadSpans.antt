-- The tokens of a value in its span, where it stands in data.
use Rattle.std.proofs.Common.{◌≡◌, ℕ, false, ◌==◌, List, [], ◌∷◌, ◌++◌, map, refl, sym, ap, subst, ◌∙◌, Option, Some}
use Rattle.std.proofs.Common.{codes, append_assoc, inl, inr, eqb-true}
use Rattle.std.proofs.lemmas.Bool.{both_ways, cases_Bool, eq-eqb, ne_eqb}
use Rattle.soy_base.specs.declared.direction.Dir.{Dir}
use Rattle.soy_base.specs.declared.direction.Dir.TheVariants.{Ltr, Rtl}
use Rattle.esc_table.specs.EscapedText.{escaped_character, escaped_text}
use Rattle.esc_table.specs.HtmlRows.{html_rows}
use Rattle.bidi_text.specs.Clean.{cleaned_text}
use Rattle.bidi_text.specs.Estimate.{estimated_direction}
use Rattle.bidi_text.specs.Wrap.{direction_word, wrapped_text}
use Rattle.bidi_order.specs.MarkupTokens.{TagReading, labelled_characters, no_tag, read_all}
use Rattle.bidi_order.specs.MarkupTokens.MarkupToken.{Character, StartTag, EndTag}
use Rattle.stable_bidi.specs.TokenParts.{in_data, span_tokens, unescaped}
use Rattle.stable_bidi.proofs.TextReads.{tokens_before}

module _ (k : ℕ) (tag : TagReading) (opening : Option ℕ) where
  -- this text before a rest gives one character and then what the rest gives
  abbrev Reads : List ℕ → ℕ → List ℕ → Type 0
  Reads text c rest = read_all (Some k) (in_data tag opening) (text ++ rest)
      ≡ tokens_before (Character c (Some k) ∷ []) (read_all (Some k) (in_data tag opening) rest)

  -- a character without a row
  reads_plain : (c : ℕ) (rest : List ℕ) → (c == 60) ≡ false → (c == 38) ≡ false → Reads (c ∷ []) c rest
  reads_plain c rest no_tag no_reference = rw (no_tag, no_reference) refl

  -- a character with a row
  reads_row : (c d : ℕ) (text rest : List ℕ) → c ≡ d → escaped_character html_rows d ≡ text
      → Reads text (unescaped d) rest
      → Reads (escaped_character html_rows c) (unescaped c) rest
  reads_row c d text rest is row_is reads =
      subst (λ x. Reads (escaped_character html_rows x) (unescaped x) rest) (sym is)
      (subst (λ t. Reads t (unescaped d) rest) (sym row_is) reads)

  -- any character, as its row or itself
  reads_one : (c : ℕ) (rest : List ℕ) → Reads (escaped_character html_rows c) (unescaped c) rest
  reads_one c rest =
      elim (cases_Bool (0 == c)) [
        | inl is ↦ reads_row c 0 (0xFFFD ∷ []) rest (sym (eqb-true 0 c is)) refl refl
        | inr no0 ↦ elim (cases_Bool (13 == c)) [
          | inl is ↦ reads_row c 13 (codes "&#13;") rest (sym (eqb-true 13 c is)) refl refl
          | inr no13 ↦ elim (cases_Bool (34 == c)) [
            | inl is ↦ reads_row c 34 (codes "&quot;") rest (sym (eqb-true 34 c is)) refl refl
            | inr no34 ↦ elim (cases_Bool (38 == c)) [
              | inl is ↦ reads_row c 38 (codes "&amp;") rest (sym (eqb-true 38 c is)) refl refl
              | inr no38 ↦ elim (cases_Bool (39 == c)) [
                | inl is ↦ reads_row c 39 (codes "&#39;") rest (sym (eqb-true 39 c is)) refl refl
                | inr no39 ↦ elim (cases_Bool (60 == c)) [
                  | inl is ↦ reads_row c 60 (codes "&lt;") rest (sym (eqb-true 60 c is)) refl refl
                  | inr no60 ↦ elim (cases_Bool (62 == c)) [
                    | inl is ↦ reads_row c 62 (codes "&gt;") rest (sym (eqb-true 62 c is)) refl refl
                    | inr no62 ↦
                        let own : escaped_character html_rows c ≡ c ∷ [] =
                        rw (no0, no13, no34, no38, no39, no60, no62) refl in
                        let same : unescaped c ≡ c = rw (turned 0 c no0) refl in
                        subst (λ t. Reads t (unescaped c) rest) (sym own)
                        (subst (λ x. Reads (c ∷ []) x rest) (sym same)
                        (reads_plain c rest (turned 60 c no60) (turned 38 c no38)))
                  ]
                ]
              ]
            ]
          ]
        ]
      ]
    where
      turned : (n c : ℕ) → (n == c) ≡ false → (c == n) ≡ false
      turned n c differ = ne_eqb c n (λ e. both_ways (n == c) differ (eq-eqb n c (sym e)))

  -- an escaped text before a rest gives its characters
  reads_escaped : (text rest : List ℕ) → read_all (Some k) (in_data tag opening) (escaped_text html_rows text ++ rest)
      ≡ tokens_before (labelled_characters (Some k) (map unescaped text)) (read_all (Some k) (in_data tag opening) rest)
  reads_escaped [] rest = refl
  reads_escaped (c ∷ text) rest =
      ap (read_all (Some k) (in_data tag opening))
      (append_assoc (escaped_character html_rows c) (escaped_text html_rows text) rest)
      ∙ reads_one c (escaped_text html_rows text ++ rest)
      ∙ ap (tokens_before (Character (unescaped c) (Some k) ∷ [])) (reads_escaped text rest)

-- a span's start tag before a rest
reads_start : (k : ℕ) (tag : TagReading) (opening : Option ℕ) (d : Dir) (rest : List ℕ)
    → read_all (Some k) (in_data tag opening) (codes "<span dir=\"" ++ (direction_word d ++ (codes "\">" ++ rest)))
    ≡ tokens_before (StartTag (codes "span") (Some (direction_word d)) (Some k) ∷ [])
    (read_all (Some k) (in_data no_tag (Some k)) rest)
reads_start k tag opening Ltr rest = refl
reads_start k tag opening Rtl rest = refl

-- a span's end tag
reads_end : (k : ℕ) → read_all (Some k) (in_data no_tag (Some k)) (codes "</span>")
    ≡ (EndTag (codes "span") ∷ [], Some (in_data no_tag (Some k)))
reads_end k = refl

-- a text in its span
pub reads_wrapped : (k : ℕ) (tag : TagReading) (opening : Option ℕ) (text : List ℕ) (context : Dir)
    → read_all (Some k) (in_data tag opening) (wrapped_text text context)
    ≡ (
      span_tokens k (estimated_direction text context) (map unescaped (cleaned_text text)) [],
      Some (in_data no_tag (Some k)),
    )
reads_wrapped k tag opening text context =
    reads_start k tag opening (estimated_direction text context)
    (escaped_text html_rows (cleaned_text text) ++ codes "</span>")
    ∙ ap
    (tokens_before (StartTag (codes "span") (Some (direction_word (estimated_direction text context))) (Some k) ∷ []))
    (reads_escaped k no_tag (Some k) (cleaned_text text) (codes "</span>")
    ∙ ap (tokens_before (labelled_characters (Some k) (map unescaped (cleaned_text text)))) (reads_end k))
