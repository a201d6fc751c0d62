-- Forms with an opening and a closing, in bytes.
use Rattle.std.proofs.Common.{◌≡◌, ℕ, List, [], ◌∷◌, ◌++◌, None, codes, encode_utf8_all, refl, sym, ap, ◌∙◌}
use Rattle.std.proofs.Common.{append_assoc}
use Rattle.std.specs.List.{flat_map}
use Rattle.std.specs.Option.{option_map_or}
use Rattle.std.specs.Str.{chars, IsUtf8}
use Rattle.std.proofs.lemmas.Str.{encodes-chars}
use lib.Utf8.{encode}
use Rattle.soy_base.specs.declared.direction.Dir.{Dir}
use Rattle.soy_base.specs.declared.direction.Dir.TheVariants.{Ltr, Rtl}
use Rattle.soy_base.specs.declared.place.ValueClass.{ValueClass}
use Rattle.soy_base.specs.declared.place.ValueClass.TheVariants as class
use Rattle.esc_table.specs.EscapedText.{escaped_text}
use Rattle.escapers.specs.declared.escaper.Escaper.{Escaper}
use Rattle.escapers.specs.declared.escaper.Escaper.TheVariants as escaper
use Rattle.escapers.specs.Esc.{escaped_character}
use Rattle.escapers.specs.JsRows.{js_rows}
use Rattle.escapers.specs.JsValue.{js_literal, js_value, js_word}
use Rattle.bidi_text.specs.Wrap.{direction_word}
use Rattle.value_cursor.specs.BytesLeft.{bytes_from, source}
use Rattle.value_cursor.specs.declared.cleaning.Cleaning.TheVariants as cleaning
use Rattle.value_cursor.specs.declared.plan.Plan.{Plan}
use Rattle.value_cursor.proofs.Forms.{encodes_three, escaped_bytes, plain_text}

-- one ASCII character
encoded_quote : encode_utf8_all (codes "'") ≡ 39 ∷ []
unfolding encode
encoded_quote = refl

encoded_space : encode_utf8_all (codes " ") ≡ 32 ∷ []
unfolding encode
encoded_space = refl

-- a body by an escaper by characters alone, of the text itself
pub own_bytes : (plan : Plan) (how : Escaper) (text : List ℕ) → plan.how ≡ how → plan.cleaning ≡ cleaning.Nothing
    → plan.instead ≡ None
    → bytes_from plan (source plan text) 0 ≡ encode_utf8_all (flat_map (escaped_character how) (chars text))
own_bytes plan how text is nothing own =
    ap (λ other. bytes_from plan (option_map_or (λ o. o.now) other text) 0) own ∙ escaped_bytes plan how is nothing text

pub literal_bytes : (plan : Plan) (text : List ℕ) → plan.how ≡ escaper.JsString → plan.cleaning ≡ cleaning.Nothing
    → plan.instead ≡ None
    → (39 ∷ bytes_from plan (source plan text) 0) ++ 39 ∷ [] ≡ encode_utf8_all (js_literal (chars text))
literal_bytes plan text is nothing own =
    ap (λ l. (39 ∷ l) ++ 39 ∷ []) (own_bytes plan escaper.JsString text is nothing own)
    ∙ sym (encodes_three (codes "'") (escaped_text js_rows (chars text)) (codes "'")
    ∙ ap (λ l. (l ++ encode_utf8_all (escaped_text js_rows (chars text))) ++ l) encoded_quote)

pub word_bytes : (plan : Plan) (text : List ℕ) → plan.how ≡ escaper.Plain → plan.cleaning ≡ cleaning.Nothing
    → plan.instead ≡ None
    → (32 ∷ bytes_from plan (source plan text) 0) ++ 32 ∷ [] ≡ encode_utf8_all (js_word (chars text))
word_bytes plan text is nothing own =
    ap (λ l. (32 ∷ l) ++ 32 ∷ []) (own_bytes plan escaper.Plain text is nothing own
    ∙ ap encode_utf8_all (plain_text (chars text)))
    ∙ sym (encodes_three (codes " ") (chars text) (codes " ") ∙ ap (λ l. (l ++ encode_utf8_all (chars text)) ++ l)
    encoded_space)

-- the same of a text's own bytes
pub literal_text : (text : List ℕ)
    → (39 ∷ encode_utf8_all (flat_map (escaped_character escaper.JsString) (chars text))) ++ 39 ∷ []
    ≡ encode_utf8_all (js_literal (chars text))
literal_text text =
    sym (encodes_three (codes "'") (escaped_text js_rows (chars text)) (codes "'")
    ∙ ap (λ l. (l ++ encode_utf8_all (escaped_text js_rows (chars text))) ++ l) encoded_quote)

pub word_text : (text : List ℕ) → IsUtf8 text → encode_utf8_all (js_word (chars text)) ≡ (32 ∷ text) ++ 32 ∷ []
word_text text utf8 =
    encodes_three (codes " ") (chars text) (codes " ")
    ∙ ap (λ l. (l ++ encode_utf8_all (chars text)) ++ l) encoded_space
    ∙ ap (λ l. (32 ∷ l) ++ 32 ∷ []) (encodes-chars text utf8)

pub plain_bytes : (text : List ℕ) → IsUtf8 text
    → encode_utf8_all (flat_map (escaped_character escaper.Plain) (chars text)) ≡ text
plain_bytes text utf8 = ap encode_utf8_all (plain_text (chars text)) ∙ encodes-chars text utf8

-- every value but a string is a word
pub other_value : (what : ValueClass) (text : List ℕ) → (what ≡ class.Text → ⊥) → js_value what text ≡ js_word text
other_value class.Text text other = absurd (other refl)
other_value class.Int text other = refl
other_value class.Bool text other = refl
other_value class.Null text other = refl
other_value class.Html text other = refl
other_value class.Attributes text other = refl

-- ---- the element around a wrapped text

abbrev pub opening_bytes : Dir → List ℕ
opening_bytes direction = encode_utf8_all (codes "<span dir=\"" ++ (direction_word direction ++ codes "\">"))

pub wrapped_bytes : (direction : Dir) (body : List ℕ)
    → encode_utf8_all (codes "<span dir=\"" ++ (direction_word direction ++ (codes "\">" ++ (body ++ codes "</span>"))))
    ≡ (opening_bytes direction ++ encode_utf8_all body) ++ encode_utf8_all (codes "</span>")
wrapped_bytes direction body =
    ap encode_utf8_all (ap (λ l. codes "<span dir=\"" ++ l)
    (sym (append_assoc (direction_word direction) (codes "\">") (body ++ codes "</span>")))
    ∙ sym (append_assoc (codes "<span dir=\"") (direction_word direction ++ codes "\">") (body ++ codes "</span>")))
    ∙ encodes_three (codes "<span dir=\"" ++ (direction_word direction ++ codes "\">")) body (codes "</span>")

pub span_end : encode_utf8_all (codes "</span>") ≡ codes "</span>"
unfolding encode
span_end = refl

pub span_ltr : opening_bytes Ltr ≡ codes "<span dir=\"ltr\">"
unfolding encode
span_ltr = refl

pub span_rtl : opening_bytes Rtl ≡ codes "<span dir=\"rtl\">"
unfolding encode
span_rtl = refl

-- ---- what stands instead of a text

pub uri_instead : encode_utf8_all (codes "about:invalid#zSoyz") ≡ codes "about:invalid#zSoyz"
unfolding encode
uri_instead = refl

pub css_instead : encode_utf8_all (codes "zSoyz") ≡ codes "zSoyz"
unfolding encode
css_instead = refl
