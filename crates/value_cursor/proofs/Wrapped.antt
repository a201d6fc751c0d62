-- The forms of a wrapped text are those of the cleaned text's characters, escaped by the rows of HTML.
use Rattle.std.proofs.Common.{◌≡◌, ℕ, ◌+◌, Bool, true, false, ◌&&◌, if◌then◌else◌, List, [], ◌∷◌, ◌++◌, None, Some}
use Rattle.std.proofs.Common.{length, refl, sym, ap, subst, ◌∙◌, append_assoc, append-nil, length-append, codes}
use Rattle.std.proofs.Common.{encode_utf8_all, arith}
use Rattle.std.specs.Char.{len_utf8}
use Rattle.std.specs.List.{flat_map, enumerate_from, list_all}
use Rattle.std.specs.Option.{option_map_or}
use Rattle.std.proofs.lemmas.Grind.{flat_map-append}
use Rattle.bidi_text.specs.Estimate.{estimated_direction}
use Rattle.bidi_text.specs.Wrap.{wrapped_text}
use Rattle.soy_base.specs.declared.direction.Dir.{Dir}
use Rattle.bidi_text.specs.Clean.{cleaned_character, cleaned_text, is_dropped, is_isolate_control, spaced}
use Rattle.esc_table.specs.EscapedText.{escaped_character as row_or_character, escaped_text}
use Rattle.esc_table.specs.HtmlRows.{html_rows}
use Rattle.escapers.specs.declared.escaper.Escaper.TheVariants as escaper
use Rattle.escapers.specs.Esc.{escaped_character}
use Rattle.soy_base.specs.ByteLength.{byte_len}
use Rattle.value_cursor.specs.BytesLeft.{form, forms}
use Rattle.value_cursor.specs.Cleaned.{Cleans, cleaned, is_clean, is_left_out}
use Rattle.value_cursor.specs.declared.cleaning.Cleaning.{Cleaning}
use Rattle.value_cursor.specs.declared.cleaning.Cleaning.TheVariants as cleaning
use Rattle.value_cursor.specs.declared.plan.Plan.{Plan}
use Rattle.value_cursor.proofs.Enclosed.{opening_bytes, span_end, wrapped_bytes}
use Rattle.value_cursor.proofs.Forms.{escaped_forms}
use Rattle.value_cursor.proofs.LeftOut.{clean_at, left_out_is_dropped}
use Rattle.value_cursor.proofs.PlainRuns.{clean_itself}

-- a text that is wrapped is cleaned
cleaned_is : (what : Cleaning) (text before : List ℕ) (offset c : ℕ) (after : List ℕ) → Cleans what text
    → text ≡ before ++ (c ∷ after)
    → cleaned what offset c ≡ (if is_isolate_control c && is_left_out what offset then None else Some (spaced c))
cleaned_is cleaning.Nothing text before offset c after cleans whole =
    sym (clean_itself false c (clean_at before c after (subst (λ t. list_all is_clean t ≡ true) whole cleans)))
cleaned_is cleaning.Unpaired text before offset c after cleans whole = refl
cleaned_is (cleaning.Marked marks) text before offset c after cleans whole = refl

-- a character's form, by whether it is left out
form_by : (flag : Bool) (c : ℕ)
    → option_map_or (row_or_character html_rows) (if flag then None else Some (spaced c)) [] ≡ flat_map
    (row_or_character html_rows) (if flag then [] else spaced c ∷ [])
form_by true c = refl
form_by false c = sym (append-nil (row_or_character html_rows (spaced c)))

byte_len-snoc : (prefix : List ℕ) (c : ℕ) → byte_len (prefix ++ c ∷ []) ≡ byte_len prefix + len_utf8 c
byte_len-snoc [] c = omega arith
byte_len-snoc (d ∷ prefix) c = omega (arith, byte_len-snoc prefix c)

module _ (plan : Plan) (text : List ℕ) (html : plan.how ≡ escaper.Html) (cleans : Cleans plan.cleaning text) where
  form_is : (before : List ℕ) (c : ℕ) (after : List ℕ) → text ≡ before ++ (c ∷ after) → form plan (byte_len before) c
      ≡ flat_map (row_or_character html_rows) (cleaned_character text (length before, c))
  form_is before c after whole =
      ap (λ how. option_map_or (escaped_character how) (cleaned plan.cleaning (byte_len before) c) []) html
      ∙ ap (λ o. option_map_or (row_or_character html_rows) o [])
      (cleaned_is plan.cleaning text before (byte_len before) c after cleans whole
      ∙ ap (λ b. if b then None else Some (spaced c))
      (left_out_is_dropped plan.cleaning text before c after cleans whole))
      ∙ form_by (is_dropped text (length before, c)) c

  forms_are : (before cs : List ℕ) → text ≡ before ++ cs → forms plan (byte_len before) cs
      ≡ flat_map (row_or_character html_rows) (flat_map (cleaned_character text) (enumerate_from (length before) cs))
  forms_are before [] whole = refl
  forms_are before (c ∷ cs) whole =
      ap (λ l. l ++ forms plan (byte_len before + len_utf8 c) cs) (form_is before c cs whole)
      ∙ ap (λ l. flat_map (row_or_character html_rows) (cleaned_character text (length before, c)) ++ l)
      (ap (λ n. forms plan n cs) (sym (byte_len-snoc before c))
      ∙ forms_are (before ++ c ∷ []) cs (whole ∙ sym (append_assoc before (c ∷ []) cs))
      ∙ ap (λ n. flat_map (row_or_character html_rows) (flat_map (cleaned_character text) (enumerate_from n cs)))
      (length-append before (c ∷ [])))
      ∙ sym (flat_map-append (row_or_character html_rows) (cleaned_character text (length before, c))
      (flat_map (cleaned_character text) (enumerate_from (length before + 1) cs)))

  pub forms_cleaned : forms plan 0 text ≡ escaped_text html_rows (cleaned_text text)
  forms_cleaned = forms_are [] text refl

-- a text that needs no cleaning, in bytes
pub wrapped_clean : (text : List ℕ) (context direction : Dir) → list_all is_clean text ≡ true
    → direction ≡ estimated_direction text context
    → (opening_bytes direction ++ encode_utf8_all (flat_map (escaped_character escaper.Html) text)) ++ codes "</span>"
    ≡ encode_utf8_all (wrapped_text text context)
wrapped_clean text context direction clean is =
    let plan : Plan = record { how = escaper.Html; cleaning = cleaning.Nothing; instead = None } in
    let estimated : Dir = estimated_direction text context in
    let body : List ℕ = escaped_text html_rows (cleaned_text text) in
    let same : flat_map (escaped_character escaper.Html) text ≡ body =
    sym (escaped_forms plan escaper.Html refl refl 0 text) ∙ forms_cleaned plan text refl clean in
    ap (λ d. (opening_bytes d ++ encode_utf8_all (flat_map (escaped_character escaper.Html) text))
    ++ codes "</span>") is
    ∙ ap (λ l. (opening_bytes estimated ++ encode_utf8_all l) ++ codes "</span>") same
    ∙ ap (λ l. (opening_bytes estimated ++ encode_utf8_all body) ++ l) (sym span_end)
    ∙ sym (wrapped_bytes estimated body)
