-- The prefix whose characters stand for themselves, by the tables and by the sets of URIs.
use Rattle.std.proofs.Common.{◌≡◌, ℕ, Bool, true, false, not, ◌&&◌, eqb, List, [], ◌∷◌, Some, refl, sym, ap, subst, ◌∙◌}
use Rattle.std.proofs.Common.{⊎_elim, unwrap_or, if◌then◌else◌}
use Rattle.std.specs.Prelude.{is_none, take_while}
use Rattle.std.specs.Char.{is_ascii_alphanumeric}
use Rattle.std.specs.List.{list_all}
use Rattle.std.specs.Str.{bytes_eq}
use Rattle.std.proofs.lemmas.Bool.{and_parts, cases_Bool, cond-true, cond-false, eqb-true, not-true, or_left}
use Rattle.std.proofs.lemmas.List.Sums.{take_while-cons}
use Rattle.soy_base.specs.Cuts.{prefix_while}
use Rattle.esc_table.specs.EscapedText.{escaped_character as row_or_character}
use Rattle.esc_table.specs.HtmlRows.{html_rows}
use Rattle.esc_table.specs.PlainPrefix.{has_no_row, plain_prefix as rowless_prefix}
use Rattle.esc_table.specs.RowText.{row_text}
use Rattle.escapers.specs.declared.escaper.Escaper.{Escaper}
use Rattle.escapers.specs.declared.escaper.Escaper.TheVariants as escaper
use Rattle.escapers.specs.CssRows.{css_rows}
use Rattle.escapers.specs.Esc.{is_by_characters}
use Rattle.escapers.specs.JsRows.{js_rows}
use Rattle.escapers.specs.PlainPrefix.{plain_prefix, stands_for_itself}
use Rattle.escapers.specs.UriComponent.{is_unreserved}
use Rattle.escapers.specs.UriNormal.{is_normal}
use Rattle.escapers.proofs.AlphanumericTexts.{alphanumeric_row, has_no_alphanumeric_row}
use Rattle.escapers.proofs.UriForms.{itself, normal_itself, unreserved_itself}

-- ---- prefixes by a test

-- tests that agree have one prefix
same_prefix : (p q : ℕ → Bool) → ((c : ℕ) → p c ≡ q c) → (cs : List ℕ) → prefix_while p cs ≡ prefix_while q cs
same_prefix p q same [] = refl
same_prefix p q same (c ∷ cs) =
    ap (λ b. if b then c ∷ prefix_while p cs else []) (same c) ∙ ap (λ l. if q c then c ∷ l else [])
    (same_prefix p q same cs)

-- it is that of the library
take_while-prefix : (test : ℕ → Bool) (cs : List ℕ) → take_while test cs ≡ prefix_while test cs
take_while-prefix test [] = refl
take_while-prefix test (c ∷ cs) =
    take_while-cons test c cs ∙ ap (λ l. if test c then c ∷ l else []) (take_while-prefix test cs)

-- and the whole where all pass
whole_prefix : (test : ℕ → Bool) (cs : List ℕ) → list_all test cs ≡ true → cs ≡ prefix_while test cs
whole_prefix test [] all = refl
whole_prefix test (c ∷ cs) all =
    let parts = and_parts _ _ all in
    ap (λ l. c ∷ l) (whole_prefix test cs parts.1) ∙ sym (cond-true (test c) (c ∷ prefix_while test cs) [] parts.0)

-- ---- tables

-- no row's text is its character alone
abbrev has_no_own : List (ℕ × List ℕ) → Bool
has_no_own rows = list_all (λ row. not (bytes_eq row.1 (row.0 ∷ []))) rows

-- so a character stands for itself exactly where it has no row
row_itself : (rows : List (ℕ × List ℕ)) (c : ℕ) → has_no_own rows ≡ true
    → has_no_row rows c ≡ bytes_eq (row_or_character rows c) (c ∷ [])
row_itself [] c none = sym (itself (c ∷ []))
row_itself (row ∷ rows) c none =
    let parts = and_parts _ _ none in
    ⊎_elim
    (λ same.
    let here : row_text (row ∷ rows) c ≡ Some row.1 = cond-true (eqb row.0 c) (Some row.1) (row_text rows c) same in
    ap is_none here
    ∙ sym (ap (λ o. bytes_eq (unwrap_or o (c ∷ [])) (c ∷ [])) here ∙ subst (λ d. bytes_eq row.1 (d ∷ []) ≡ false)
    (eqb-true row.0 c same) (not-true _ parts.0)))
    (λ other.
    let later : row_text (row ∷ rows) c ≡ row_text rows c = cond-false (eqb row.0 c) (Some row.1) (row_text rows c)
    other in
    ap is_none later ∙ row_itself rows c parts.1 ∙ sym (ap (λ o. bytes_eq (unwrap_or o (c ∷ [])) (c ∷ [])) later))
    (cases_Bool (eqb row.0 c))

-- the prefix without rows is the one whose characters stand for themselves
by_rows : (rows : List (ℕ × List ℕ)) → has_no_own rows ≡ true → (cs : List ℕ) →
    rowless_prefix rows cs ≡ prefix_while (λ c. bytes_eq (row_or_character rows c) (c ∷ [])) cs
by_rows rows none cs =
    take_while-prefix (has_no_row rows) cs
    ∙ same_prefix (has_no_row rows) (λ c. bytes_eq (row_or_character rows c) (c ∷ []))
    (λ c. row_itself rows c none) cs

pub html_prefix : (cs : List ℕ) → rowless_prefix html_rows cs ≡ plain_prefix escaper.Html cs
html_prefix = by_rows html_rows refl

pub js_prefix : (cs : List ℕ) → rowless_prefix js_rows cs ≡ plain_prefix escaper.JsString cs
js_prefix = by_rows js_rows refl

pub css_prefix : (cs : List ℕ) → rowless_prefix css_rows cs ≡ plain_prefix escaper.CssString cs
css_prefix = by_rows css_rows refl

-- ---- URIs and plain texts

pub component_prefix : (cs : List ℕ) → prefix_while is_unreserved cs ≡ plain_prefix escaper.UriComponent cs
component_prefix = same_prefix is_unreserved (stands_for_itself escaper.UriComponent) unreserved_itself

pub normal_prefix : (cs : List ℕ) → prefix_while is_normal cs ≡ plain_prefix escaper.UriNormal cs
normal_prefix = same_prefix is_normal (stands_for_itself escaper.UriNormal) normal_itself

all_themselves : (cs : List ℕ) → list_all (stands_for_itself escaper.Plain) cs ≡ true
all_themselves [] = refl
all_themselves (c ∷ cs) = ap (λ b. b && list_all (stands_for_itself escaper.Plain) cs) (itself (c ∷ []))
    ∙ all_themselves cs

pub whole_plain : (cs : List ℕ) → cs ≡ plain_prefix escaper.Plain cs
whole_plain cs = whole_prefix (stands_for_itself escaper.Plain) cs (all_themselves cs)

-- ---- letters and digits stand for themselves by each escaper by characters

by_row : (rows : List (ℕ × List ℕ)) (c : ℕ) → has_no_alphanumeric_row rows ≡ true → is_ascii_alphanumeric c ≡ true
    → bytes_eq (row_or_character rows c) (c ∷ []) ≡ true
by_row rows c none is = ap (λ o. bytes_eq (unwrap_or o (c ∷ [])) (c ∷ [])) (alphanumeric_row rows c none is)
    ∙ itself (c ∷ [])

alphanumeric_itself : (how : Escaper) (c : ℕ) → is_by_characters how ≡ true → is_ascii_alphanumeric c ≡ true
    → stands_for_itself how c ≡ true
alphanumeric_itself escaper.Html c by is = by_row html_rows c refl is
alphanumeric_itself escaper.UriNormal c by is = sym (normal_itself c) ∙ or_left _ _ (or_left _ _ is)
alphanumeric_itself escaper.UriComponent c by is = sym (unreserved_itself c) ∙ or_left _ _ is
alphanumeric_itself escaper.JsString c by is = by_row js_rows c refl is
alphanumeric_itself escaper.CssString c by is = by_row css_rows c refl is
alphanumeric_itself escaper.Plain c by is = itself (c ∷ [])
alphanumeric_itself escaper.Wrap c by is = itself (c ∷ [])
alphanumeric_itself escaper.UriStart c by is = itself (c ∷ [])
alphanumeric_itself escaper.JsValue c by is = itself (c ∷ [])
alphanumeric_itself escaper.CssValue c by is = itself (c ∷ [])
alphanumeric_itself escaper.AsIs c by is = itself (c ∷ [])

alphanumeric_all_themselves : (how : Escaper) → is_by_characters how ≡ true → (cs : List ℕ)
    → list_all is_ascii_alphanumeric cs ≡ true → list_all (stands_for_itself how) cs ≡ true
alphanumeric_all_themselves how by [] are = refl
alphanumeric_all_themselves how by (c ∷ cs) are =
    let parts = and_parts _ _ are in
    ap (λ b. b && list_all (stands_for_itself how) cs) (alphanumeric_itself how c by parts.0)
    ∙ alphanumeric_all_themselves how by cs parts.1

pub alphanumeric_prefix : (how : Escaper) → is_by_characters how ≡ true → (cs : List ℕ)
    → list_all is_ascii_alphanumeric cs ≡ true → cs ≡ plain_prefix how cs
alphanumeric_prefix how by cs are = whole_prefix (stands_for_itself how) cs (alphanumeric_all_themselves how by cs are)
