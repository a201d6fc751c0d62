-- The state of a page goes on as that of a walk.
use Rattle.std.proofs.Common.{◌≡◌, ◌⊎◌, ℕ, Bool, true, false, not, eqb, ◌&&◌, List, [], ◌∷◌, refl, ap, sym, subst, ◌∙◌}
use Rattle.std.proofs.Common.{inl, inr}
use Rattle.std.specs.Prelude.{⊤, Option, Some, None, Result, Ok, Err, IsTrue, drop, if◌then◌else◌}
use Rattle.std.specs.Char.{is_ascii_alphanumeric}
use Rattle.soy_base.specs.Among.{is_among}
use Rattle.soy_base.specs.Characters.{ampersand, equals_sign, number_sign, semicolon}
use Rattle.soy_base.specs.declared.code.Code.{Code}
use Rattle.soy_base.specs.declared.code.Code.TheVariants as code
use Rattle.soy_base.specs.declared.kind.Kind.TheVariants as kind
use Rattle.soy_base.specs.declared.place.Place.TheVariants as place
use Rattle.soy_base.specs.declared.place.Placing.{Placing}
use Rattle.soy_base.specs.declared.place.Placing.TheVariants.{Takes, Refuses}
use Rattle.script_state.specs.CssPlacing.{css_placing}
use Rattle.html_state.specs.declared.row.AttributeValue.{AttributeValue}
use Rattle.html_state.specs.declared.row.AttributeValue.TheVariants as value
use Rattle.html_state.specs.declared.row.HtmlRow.{HtmlRow}
use Rattle.html_state.specs.declared.row.HtmlRow.TheVariants as row
use Rattle.html_state.specs.declared.row.Reference.{Reference}
use Rattle.html_state.specs.declared.row.Reference.TheVariants as reference
use Rattle.html_state.specs.declared.row.State.{State}
use Rattle.html_state.specs.declared.row.Tag.{Tag}
use Rattle.html_state.specs.declared.row.Tag.TheVariants as tag
use Rattle.html_state.specs.declared.row.TagRow.{TagRow}
use Rattle.html_state.specs.declared.row.TagRow.TheVariants as tag_row
use Rattle.html_state.specs.declared.row.UriName.{UriName}
use Rattle.html_state.specs.declared.row.UriPart.{UriPart}
use Rattle.html_state.specs.declared.row.UriPart.TheVariants as part
use Rattle.html_state.specs.EndsName.{ends_name}
use Rattle.html_state.specs.Follows.{Follows, FollowsOn, FollowsOutside, FollowsRow, FollowsTag, FollowsTagRow}
use Rattle.html_state.specs.Follows.{IsOutside, IsPastPrinted}
use Rattle.html_state.specs.Kept.{prefix_with}
use Rattle.html_state.specs.Next.{ampersand_next, at_row, is_decided, text_end, reference_begun_next, begun_reference}
use Rattle.html_state.specs.Next.{has_references, has_references_in_tag, is_quoted, is_quoted_in_tag, is_style_in_tag}
use Rattle.html_state.specs.Next.{is_style_value, is_unquoted, is_unquoted_in_tag, is_uri_in_tag, is_uri_value}
use Rattle.html_state.specs.Next.{name_end, name_next, next, numeric_next, pending, plain_next, reference_next}
use Rattle.html_state.specs.References.{name_begun, reference_names}
use Rattle.html_state.specs.RowNext.{after_tag, in_tag, row_next}
use Rattle.html_state.specs.TagRowNext.{past_name, tag_row_next}
use Rattle.html_state.specs.Texts.{and_then}

-- ---- rows

-- a row within a tag follows itself
pub same_tag_row : (inner : TagRow) → FollowsTagRow inner inner
same_tag_row tag_row.BeforeName = refl
same_tag_row (tag_row.AttributeName n) = refl
same_tag_row (tag_row.BeforeValue a) = refl
same_tag_row (tag_row.Quoted q v) = refl
same_tag_row (tag_row.Unquoted v) = refl
same_tag_row tag_row.AfterQuoted = refl
same_tag_row tag_row.SelfClosing = refl
same_tag_row tag_row.AfterPrinted = tt

-- outside of a block of attributes a row follows itself
pub same_row : (now : HtmlRow) → FollowsRow None now now
same_row (row.InTag around inner) = (refl, same_tag_row inner)
same_row row.Outside = tt
same_row row.Data = refl
same_row row.TagOpen = refl
same_row row.EndTagOpen = refl
same_row (row.TagName k n) = refl
same_row (row.MarkupDeclaration p) = refl
same_row (row.InDeclaration d) = refl
same_row (row.Within e) = refl
same_row (row.BegunEndTag e b) = refl
same_row row.Plain = refl

-- what the rows lead to: the walk has a fault or leaves its tag, or the page goes on
abbrev pub RowsFollow : Option Tag → Result HtmlRow Code → Result HtmlRow Code → Type 0
RowsFollow around page (Err _) = ⊤
RowsFollow around page (Ok walk) = IsOutside walk ⊎ ((now : HtmlRow) × (page ≡ Ok now) × FollowsRow around now walk)

same_result : (o : Result HtmlRow Code) → RowsFollow None o o
same_result (Err fault) = tt
same_result (Ok now) = inr (now, refl, same_row now)

-- past the end of a tag, or within it
tag_end : (around : Option Tag) (page walk : Tag) → FollowsTag around page walk →
    RowsFollow around (Ok (after_tag page)) (Ok (after_tag walk))
tag_end None page walk is = subst (λ t. RowsFollow None (Ok (after_tag t)) (Ok (after_tag walk))) (sym is)
    (same_result (Ok (after_tag walk)))
tag_end (Some around) page walk is = subst (λ t. RowsFollow (Some around) (Ok (after_tag page)) (Ok (after_tag t)))
    (sym is.1) (inl tt)

tag_on : (around : Option Tag) (page walk : Tag) → FollowsTag around page walk → (o : Result (Option TagRow) Code) →
    RowsFollow around (and_then (λ following. Ok (in_tag page following)) o)
    (and_then (λ following. Ok (in_tag walk following)) o)
tag_on around page walk is (Err fault) = tt
tag_on around page walk is (Ok None) = tag_end around page walk is
tag_on around page walk is (Ok (Some inner)) = inr (row.InTag page inner, refl, (is, same_tag_row inner))

-- past a printed block of attributes what ends a name leads on alike
printed_next : (static : Bool) (inner : TagRow) (c : ℕ) → IsPastPrinted inner → ends_name c ≡ true →
    tag_row_next static inner c ≡ Ok (past_name c)
printed_next static tag_row.BeforeName c is ends = rw ends refl
printed_next static tag_row.AfterPrinted c is ends = rw ends refl
printed_next static (tag_row.AttributeName name) c is ends = rw ends refl
printed_next static tag_row.AfterQuoted c is ends = rw ends refl
printed_next static (tag_row.BeforeValue attribute) c never ends = absurd never
printed_next static (tag_row.Quoted quote value) c never ends = absurd never
printed_next static (tag_row.Unquoted value) c never ends = absurd never
printed_next static tag_row.SelfClosing c never ends = absurd never

printed_on : (around : Option Tag) (static : Bool) (page walk : Tag) (inner : TagRow) (c : ℕ) →
    FollowsTag around page walk → IsPastPrinted inner →
    (ends : Bool) → ends_name c ≡ ends →
    RowsFollow around (and_then (λ following. Ok (in_tag page following)) (tag_row_next static inner c))
    (and_then (λ following. Ok (in_tag walk following)) (if ends then Ok (past_name c) else Err code.InName))
printed_on around static page walk inner c is past true ends =
    subst (λ o. RowsFollow around (and_then (λ following. Ok (in_tag page following)) o)
    (Ok (in_tag walk (past_name c)))) (sym (printed_next static inner c past ends))
    (tag_on around page walk is (Ok (past_name c)))
printed_on around static page walk inner c is past false ends = tt

in_tag_on : (around : Option Tag) (static : Bool) (page walk : Tag) (inner within : TagRow) (c : ℕ) →
    FollowsTag around page walk → FollowsTagRow inner within →
    RowsFollow around (row_next static (row.InTag page inner) c) (row_next static (row.InTag walk within) c)
in_tag_on around static page walk inner tag_row.AfterPrinted c is past =
    printed_on around static page walk inner c is past (ends_name c) refl
in_tag_on around static page walk inner tag_row.BeforeName c is same =
    subst (λ i. RowsFollow around (row_next static (row.InTag page i) c)
    (row_next static (row.InTag walk tag_row.BeforeName) c)) (sym same)
    (tag_on around page walk is (tag_row_next static tag_row.BeforeName c))
in_tag_on around static page walk inner (tag_row.AttributeName n) c is same =
    subst (λ i. RowsFollow around (row_next static (row.InTag page i) c)
    (row_next static (row.InTag walk (tag_row.AttributeName n)) c)) (sym same)
    (tag_on around page walk is (tag_row_next static (tag_row.AttributeName n) c))
in_tag_on around static page walk inner (tag_row.BeforeValue a) c is same =
    subst (λ i. RowsFollow around (row_next static (row.InTag page i) c)
    (row_next static (row.InTag walk (tag_row.BeforeValue a)) c)) (sym same)
    (tag_on around page walk is (tag_row_next static (tag_row.BeforeValue a) c))
in_tag_on around static page walk inner (tag_row.Quoted q v) c is same =
    subst (λ i. RowsFollow around (row_next static (row.InTag page i) c)
    (row_next static (row.InTag walk (tag_row.Quoted q v)) c)) (sym same)
    (tag_on around page walk is (tag_row_next static (tag_row.Quoted q v) c))
in_tag_on around static page walk inner (tag_row.Unquoted v) c is same =
    subst (λ i. RowsFollow around (row_next static (row.InTag page i) c)
    (row_next static (row.InTag walk (tag_row.Unquoted v)) c)) (sym same)
    (tag_on around page walk is (tag_row_next static (tag_row.Unquoted v) c))
in_tag_on around static page walk inner tag_row.AfterQuoted c is same =
    subst (λ i. RowsFollow around (row_next static (row.InTag page i) c)
    (row_next static (row.InTag walk tag_row.AfterQuoted) c)) (sym same)
    (tag_on around page walk is (tag_row_next static tag_row.AfterQuoted c))
in_tag_on around static page walk inner tag_row.SelfClosing c is same =
    subst (λ i. RowsFollow around (row_next static (row.InTag page i) c)
    (row_next static (row.InTag walk tag_row.SelfClosing) c)) (sym same)
    (tag_on around page walk is (tag_row_next static tag_row.SelfClosing c))

-- outside of tags
outside_on : (around : Option Tag) (static : Bool) (page walk : HtmlRow) (c : ℕ) → FollowsOutside around page walk →
    RowsFollow around (row_next static page c) (row_next static walk c)
outside_on None static page walk c same = subst (λ r. RowsFollow None (row_next static r c) (row_next static walk c))
    (sym same) (same_result (row_next static walk c))
outside_on (Some around) static page walk c never = absurd never

pub row_on : (around : Option Tag) (static : Bool) (page walk : HtmlRow) (c : ℕ) → FollowsRow around page walk →
    RowsFollow around (row_next static page c) (row_next static walk c)
row_on around static (row.InTag page inner) (row.InTag walk within) c f =
    in_tag_on around static page walk inner within c f.0 f.1
row_on around static page row.Outside c f = inl tt
row_on around static page row.Data c f = outside_on around static page row.Data c f
row_on around static page row.TagOpen c f = outside_on around static page row.TagOpen c f
row_on around static page row.EndTagOpen c f = outside_on around static page row.EndTagOpen c f
row_on around static page (row.TagName k n) c f = outside_on around static page (row.TagName k n) c f
row_on around static page (row.MarkupDeclaration p) c f = outside_on around static page (row.MarkupDeclaration p) c f
row_on around static page (row.InDeclaration d) c f = outside_on around static page (row.InDeclaration d) c f
row_on around static page (row.Within e) c f = outside_on around static page (row.Within e) c f
row_on around static page (row.BegunEndTag e b) c f = outside_on around static page (row.BegunEndTag e b) c f
row_on around static page row.Plain c f = outside_on around static page row.Plain c f
row_on around static row.Data (row.InTag walk within) c f =
    outside_on around static row.Data (row.InTag walk within) c f
row_on around static row.TagOpen (row.InTag walk within) c f =
    outside_on around static row.TagOpen (row.InTag walk within) c f
row_on around static row.EndTagOpen (row.InTag walk within) c f =
    outside_on around static row.EndTagOpen (row.InTag walk within) c f
row_on around static (row.TagName k n) (row.InTag walk within) c f =
    outside_on around static (row.TagName k n) (row.InTag walk within) c f
row_on around static (row.MarkupDeclaration p) (row.InTag walk within) c f =
    outside_on around static (row.MarkupDeclaration p) (row.InTag walk within) c f
row_on around static (row.InDeclaration d) (row.InTag walk within) c f =
    outside_on around static (row.InDeclaration d) (row.InTag walk within) c f
row_on around static (row.Within e) (row.InTag walk within) c f =
    outside_on around static (row.Within e) (row.InTag walk within) c f
row_on around static (row.BegunEndTag e b) (row.InTag walk within) c f =
    outside_on around static (row.BegunEndTag e b) (row.InTag walk within) c f
row_on around static row.Plain (row.InTag walk within) c f =
    outside_on around static row.Plain (row.InTag walk within) c f
row_on around static row.Outside (row.InTag walk within) c f =
    outside_on around static row.Outside (row.InTag walk within) c f

-- ---- tests of rows that don't read the tag

tests_alike : (test : TagRow → Bool) → test tag_row.BeforeName ≡ test tag_row.AfterPrinted →
    ((name : List ℕ) → test (tag_row.AttributeName name) ≡ test tag_row.AfterPrinted) →
    test tag_row.AfterQuoted ≡ test tag_row.AfterPrinted → (inner within : TagRow) → FollowsTagRow inner within →
    test inner ≡ test within
tests_alike test before name after tag_row.BeforeName tag_row.AfterPrinted past = before
tests_alike test before name after tag_row.AfterPrinted tag_row.AfterPrinted past = refl
tests_alike test before name after (tag_row.AttributeName n) tag_row.AfterPrinted past = name n
tests_alike test before name after tag_row.AfterQuoted tag_row.AfterPrinted past = after
tests_alike test before name after (tag_row.BeforeValue a) tag_row.AfterPrinted never = absurd never
tests_alike test before name after (tag_row.Quoted q v) tag_row.AfterPrinted never = absurd never
tests_alike test before name after (tag_row.Unquoted v) tag_row.AfterPrinted never = absurd never
tests_alike test before name after tag_row.SelfClosing tag_row.AfterPrinted never = absurd never
tests_alike test before name after inner tag_row.BeforeName same = ap test same
tests_alike test before name after inner (tag_row.AttributeName n) same = ap test same
tests_alike test before name after inner (tag_row.BeforeValue a) same = ap test same
tests_alike test before name after inner (tag_row.Quoted q v) same = ap test same
tests_alike test before name after inner (tag_row.Unquoted v) same = ap test same
tests_alike test before name after inner tag_row.AfterQuoted same = ap test same
tests_alike test before name after inner tag_row.SelfClosing same = ap test same

outside_alike : (test : HtmlRow → Bool) (around : Option Tag) (page walk : HtmlRow) → FollowsOutside around page walk →
    test page ≡ test walk
outside_alike test None page walk same = ap test same
outside_alike test (Some around) page walk never = absurd never

-- a test of rows that is one of rows within the tag there
rows_alike : (test : HtmlRow → Bool) (inner_test : TagRow → Bool) →
    ((around : Tag) (inner : TagRow) → test (row.InTag around inner) ≡ inner_test inner) →
    ((inner within : TagRow) → FollowsTagRow inner within → inner_test inner ≡ inner_test within) →
    (around : Option Tag) (page walk : HtmlRow) → FollowsRow around page walk → (IsOutside walk → ⊥) →
    test page ≡ test walk
rows_alike test inner_test in_tags alike around (row.InTag page inner) (row.InTag walk within) f not_outside =
    in_tags page inner ∙ (alike inner within f.1 ∙ sym (in_tags walk within))
rows_alike test inner_test in_tags alike around page row.Outside f not_outside = absurd (not_outside tt)
rows_alike test inner_test in_tags alike around page row.Data f not_outside = outside_alike test around page row.Data f
rows_alike test inner_test in_tags alike around page row.TagOpen f not_outside =
    outside_alike test around page row.TagOpen f
rows_alike test inner_test in_tags alike around page row.EndTagOpen f not_outside =
    outside_alike test around page row.EndTagOpen f
rows_alike test inner_test in_tags alike around page (row.TagName k n) f not_outside =
    outside_alike test around page (row.TagName k n) f
rows_alike test inner_test in_tags alike around page (row.MarkupDeclaration p) f not_outside =
    outside_alike test around page (row.MarkupDeclaration p) f
rows_alike test inner_test in_tags alike around page (row.InDeclaration d) f not_outside =
    outside_alike test around page (row.InDeclaration d) f
rows_alike test inner_test in_tags alike around page (row.Within e) f not_outside =
    outside_alike test around page (row.Within e) f
rows_alike test inner_test in_tags alike around page (row.BegunEndTag e b) f not_outside =
    outside_alike test around page (row.BegunEndTag e b) f
rows_alike test inner_test in_tags alike around page row.Plain f not_outside =
    outside_alike test around page row.Plain f
rows_alike test inner_test in_tags alike around row.Data (row.InTag walk within) f not_outside =
    outside_alike test around row.Data (row.InTag walk within) f
rows_alike test inner_test in_tags alike around row.TagOpen (row.InTag walk within) f not_outside =
    outside_alike test around row.TagOpen (row.InTag walk within) f
rows_alike test inner_test in_tags alike around row.EndTagOpen (row.InTag walk within) f not_outside =
    outside_alike test around row.EndTagOpen (row.InTag walk within) f
rows_alike test inner_test in_tags alike around (row.TagName k n) (row.InTag walk within) f not_outside =
    outside_alike test around (row.TagName k n) (row.InTag walk within) f
rows_alike test inner_test in_tags alike around (row.MarkupDeclaration p) (row.InTag walk within) f not_outside =
    outside_alike test around (row.MarkupDeclaration p) (row.InTag walk within) f
rows_alike test inner_test in_tags alike around (row.InDeclaration d) (row.InTag walk within) f not_outside =
    outside_alike test around (row.InDeclaration d) (row.InTag walk within) f
rows_alike test inner_test in_tags alike around (row.Within e) (row.InTag walk within) f not_outside =
    outside_alike test around (row.Within e) (row.InTag walk within) f
rows_alike test inner_test in_tags alike around (row.BegunEndTag e b) (row.InTag walk within) f not_outside =
    outside_alike test around (row.BegunEndTag e b) (row.InTag walk within) f
rows_alike test inner_test in_tags alike around row.Plain (row.InTag walk within) f not_outside =
    outside_alike test around row.Plain (row.InTag walk within) f
rows_alike test inner_test in_tags alike around row.Outside (row.InTag walk within) f not_outside =
    outside_alike test around row.Outside (row.InTag walk within) f

-- ---- a static character

-- the test that a row is past its tag, with what follows where it isn't
led_on : (around : Option Tag) (c : ℕ) (page : Result HtmlRow Code) (walk : HtmlRow) →
    (IsOutside walk ⊎ ((now : HtmlRow) × (page ≡ Ok now) × FollowsRow around now walk)) →
    (decided : (IsOutside walk) ⊎ (IsOutside walk → ⊥)) →
    FollowsOn around (and_then (λ following. Ok (pending following (begun_reference following c))) page)
    (Ok (pending walk (begun_reference walk c)))
led_on around c page walk (inl outside) decided = inl outside
led_on around c page walk (inr f) (inl outside) = inl outside
led_on around c page walk (inr f) (inr not_outside) =
    inr (
      pending f.0 (begun_reference f.0 c),
      ap (and_then (λ following. Ok (pending following (begun_reference following c)))) f.1,
      (
        f.2,
        ap (λ b. if eqb c ampersand && b then reference.Begun [] else reference.Decided)
            (rows_alike has_references has_references_in_tag (λ t i. refl)
            (tests_alike has_references_in_tag refl (λ n. refl) refl) around f.0 walk f.2 not_outside),
      ),
    )

outside_or_not : (walk : HtmlRow) → IsOutside walk ⊎ (IsOutside walk → ⊥)
outside_or_not row.Outside = inl tt
outside_or_not (row.InTag t i) = inr (λ never. never)
outside_or_not row.Data = inr (λ never. never)
outside_or_not row.TagOpen = inr (λ never. never)
outside_or_not row.EndTagOpen = inr (λ never. never)
outside_or_not (row.TagName k n) = inr (λ never. never)
outside_or_not (row.MarkupDeclaration p) = inr (λ never. never)
outside_or_not (row.InDeclaration d) = inr (λ never. never)
outside_or_not (row.Within e) = inr (λ never. never)
outside_or_not (row.BegunEndTag e b) = inr (λ never. never)
outside_or_not row.Plain = inr (λ never. never)

result_on : (around : Option Tag) (c : ℕ) (page walk : Result HtmlRow Code) → RowsFollow around page walk →
    FollowsOn around (and_then (λ following. Ok (pending following (begun_reference following c))) page)
    (and_then (λ following. Ok (pending following (begun_reference following c))) walk)
result_on around c page (Err fault) f = tt
result_on around c page (Ok walk) f = led_on around c page walk f (outside_or_not walk)

choose : (around : Option Tag) (b d : Bool) (page_then page_else walk_then walk_else : Result State Code) → b ≡ d →
    FollowsOn around page_then walk_then → FollowsOn around page_else walk_else →
    FollowsOn around (if b then page_then else page_else) (if d then walk_then else walk_else)
choose around true true page_then page_else walk_then walk_else same on_then on_else = on_then
choose around false false page_then page_else walk_then walk_else same on_then on_else = on_else
choose around true false page_then page_else walk_then walk_else same on_then on_else = cc
choose around false true page_then page_else walk_then walk_else same on_then on_else = cc

module _ (around : Option Tag) (page walk : HtmlRow) (f : FollowsRow around page walk) (not_outside : IsOutside walk →
    ⊥) (c : ℕ) where
  style_alike : is_style_value page ≡ is_style_value walk
  style_alike = rows_alike is_style_value is_style_in_tag (λ t i. refl)
      (tests_alike is_style_in_tag refl (λ n. refl) refl) around page walk f not_outside

  quoted_alike : is_quoted page ≡ is_quoted walk
  quoted_alike = rows_alike is_quoted is_quoted_in_tag (λ t i. refl)
      (tests_alike is_quoted_in_tag refl (λ n. refl) refl) around page walk f not_outside

  unquoted_alike : is_unquoted page ≡ is_unquoted walk
  unquoted_alike = rows_alike is_unquoted is_unquoted_in_tag (λ t i. refl)
      (tests_alike is_unquoted_in_tag refl (λ n. refl) refl) around page walk f not_outside

  uri_alike : is_uri_value page ≡ is_uri_value walk
  uri_alike = rows_alike is_uri_value is_uri_in_tag (λ t i. refl)
      (tests_alike is_uri_in_tag refl (λ n. refl) refl) around page walk f not_outside

  plain_on : FollowsOn around (plain_next page c) (plain_next walk c)
  plain_on =
      choose around (eqb c ampersand && is_style_value page) (eqb c ampersand && is_style_value walk)
      (Err code.Reference) _ (Err code.Reference) _
      (ap (λ b. eqb c ampersand && b) style_alike) tt
      (result_on around c (row_next true page c) (row_next true walk c) (row_on around true page walk c f))

  pending_on : (now : Reference) → FollowsOn around (Ok (pending page now)) (Ok (pending walk now))
  pending_on now = inr (pending page now, refl, (f, refl))

  ampersand_on : FollowsOn around (ampersand_next page c) (ampersand_next walk c)
  ampersand_on =
      choose around (eqb c number_sign) (eqb c number_sign) _ _ _ _ refl
      (choose around (is_uri_value page) (is_uri_value walk) (Err code.Reference)
      (Ok (pending page (reference.Begun (prefix_with [] c)))) (Err code.Reference)
      (Ok (pending walk (reference.Begun (prefix_with [] c)))) uri_alike tt
      (pending_on (reference.Begun (prefix_with [] c))))
      (choose around (is_ascii_alphanumeric c && not (is_unquoted page))
      (is_ascii_alphanumeric c && not (is_unquoted walk)) (Ok (pending page (name_begun (prefix_with [] c))))
      (plain_next page c) (Ok (pending walk (name_begun (prefix_with [] c)))) (plain_next walk c)
      (ap (λ b. is_ascii_alphanumeric c && not b) unquoted_alike) (pending_on (name_begun (prefix_with [] c))) plain_on)

  numeric_on : (o : Result Reference Code) → FollowsOn around (and_then (λ following. Ok (pending page following)) o)
      (and_then (λ following. Ok (pending walk following)) o)
  numeric_on (Ok following) = pending_on following
  numeric_on (Err fault) = tt

  end_on : (is_name : Bool) → FollowsOn around (name_end page is_name c) (name_end walk is_name c)
  end_on is_name =
      choose around (eqb c semicolon) (eqb c semicolon) _ _ _ _ refl
      (choose around is_name is_name (Ok (at_row page)) (Err code.Reference) (Ok (at_row walk))
      (Err code.Reference) refl (pending_on reference.Decided) tt)
      (choose around (eqb c equals_sign && is_quoted page) (eqb c equals_sign && is_quoted walk) (plain_next page c)
      (Err code.Ampersand) (plain_next walk c) (Err code.Ampersand)
      (ap (λ b. eqb c equals_sign && b) quoted_alike) plain_on tt)

  name_on : (letters : List ℕ) → FollowsOn around (name_next page letters c) (name_next walk letters c)
  name_on letters =
      choose around (is_ascii_alphanumeric c) (is_ascii_alphanumeric c)
      (Ok (pending page (name_begun (prefix_with letters c)))) (name_end page (is_among reference_names letters) c)
      (Ok (pending walk (name_begun (prefix_with letters c))))
      (name_end walk (is_among reference_names letters) c) refl
      (pending_on (name_begun (prefix_with letters c))) (end_on (is_among reference_names letters))

  begun_on : (prefix : List ℕ) → FollowsOn around (reference_begun_next page prefix c)
      (reference_begun_next walk prefix c)
  begun_on [] = ampersand_on
  begun_on (first ∷ rest) =
      choose around (eqb first number_sign) (eqb first number_sign)
      (and_then (λ following. Ok (pending page following)) (numeric_next rest c)) (name_next page (first ∷ rest) c)
      (and_then (λ following. Ok (pending walk following)) (numeric_next rest c))
      (name_next walk (first ∷ rest) c) refl
      (numeric_on (numeric_next rest c)) (name_on (first ∷ rest))

  reference_on : (now : Reference) → FollowsOn around (reference_next page now c) (reference_next walk now c)
  reference_on reference.Decided = plain_on
  reference_on (reference.Begun prefix) = begun_on prefix
  reference_on reference.NoName =
      choose around (is_ascii_alphanumeric c) (is_ascii_alphanumeric c) (Ok (pending page reference.NoName))
      (name_end page false c) (Ok (pending walk reference.NoName)) (name_end walk false c) refl
      (pending_on reference.NoName) (end_on false)

-- ---- past the end of the walk's tag

outside_choose : (around : Option Tag) (b : Bool) (page walk_then walk_else : Result State Code) →
    FollowsOn around page walk_then → FollowsOn around page walk_else →
    FollowsOn around page (if b then walk_then else walk_else)
outside_choose around true page walk_then walk_else on_then on_else = on_then
outside_choose around false page walk_then walk_else on_then on_else = on_else

module _ (around : Option Tag) (page : Result State Code) (c : ℕ) where
  plain_outside : FollowsOn around page (plain_next row.Outside c)
  plain_outside =
      outside_choose around (eqb c ampersand && false) page (Err code.Reference)
      (Ok (pending row.Outside (begun_reference row.Outside c))) tt (inl tt)

  ampersand_outside : FollowsOn around page (ampersand_next row.Outside c)
  ampersand_outside =
      outside_choose around (eqb c number_sign) page (Ok (pending row.Outside (reference.Begun (prefix_with [] c)))) _
      (inl tt)
      (outside_choose around (is_ascii_alphanumeric c && true) page
      (Ok (pending row.Outside (name_begun (prefix_with [] c)))) (plain_next row.Outside c) (inl tt) plain_outside)

  end_outside : (is_name : Bool) → FollowsOn around page (name_end row.Outside is_name c)
  end_outside is_name =
      outside_choose around (eqb c semicolon) page (if is_name then Ok (at_row row.Outside) else Err code.Reference) _
      (outside_choose around is_name page (Ok (at_row row.Outside)) (Err code.Reference) (inl tt) tt)
      (outside_choose around (eqb c equals_sign && false) page (plain_next row.Outside c)
      (Err code.Ampersand) plain_outside tt)

  numeric_outside : (o : Result Reference Code) → FollowsOn around page
      (and_then (λ following. Ok (pending row.Outside following)) o)
  numeric_outside (Ok following) = inl tt
  numeric_outside (Err fault) = tt

  begun_outside : (prefix : List ℕ) → FollowsOn around page (reference_begun_next row.Outside prefix c)
  begun_outside [] = ampersand_outside
  begun_outside (first ∷ rest) =
      outside_choose around (eqb first number_sign) page
      (and_then (λ following. Ok (pending row.Outside following)) (numeric_next rest c))
      (name_next row.Outside (first ∷ rest) c)
      (numeric_outside (numeric_next rest c))
      (outside_choose around (is_ascii_alphanumeric c) page
      (Ok (pending row.Outside (name_begun (prefix_with (first ∷ rest) c))))
      (name_end row.Outside (is_among reference_names (first ∷ rest)) c) (inl tt)
      (end_outside (is_among reference_names (first ∷ rest))))

  outside_stays : (now : Reference) → FollowsOn around page (reference_next row.Outside now c)
  outside_stays reference.Decided = plain_outside
  outside_stays (reference.Begun prefix) = begun_outside prefix
  outside_stays reference.NoName =
      outside_choose around (is_ascii_alphanumeric c) page (Ok (pending row.Outside reference.NoName))
      (name_end row.Outside false c) (inl tt) (end_outside false)

outside_row : (walk : HtmlRow) → IsOutside walk → walk ≡ row.Outside
outside_row row.Outside is = refl
outside_row (row.InTag t i) never = absurd never
outside_row row.Data never = absurd never
outside_row row.TagOpen never = absurd never
outside_row row.EndTagOpen never = absurd never
outside_row (row.TagName k n) never = absurd never
outside_row (row.MarkupDeclaration p) never = absurd never
outside_row (row.InDeclaration d) never = absurd never
outside_row (row.Within e) never = absurd never
outside_row (row.BegunEndTag e b) never = absurd never
outside_row row.Plain never = absurd never

step_cases : (around : Option Tag) (page walk : State) (c : ℕ) → Follows around page walk →
    (IsOutside walk.row ⊎ (IsOutside walk.row → ⊥)) → FollowsOn around (next page c) (next walk c)
step_cases around page walk c f (inl outside) =
    subst (λ r. FollowsOn around (next page c) (reference_next r walk.reference c)) (sym (outside_row walk.row outside))
    (outside_stays around (next page c) c walk.reference)
step_cases around page walk c f (inr not_outside) =
    subst (λ r. FollowsOn around (reference_next page.row r c) (next walk c)) (sym f.1)
    (reference_on around page.row walk.row f.0 not_outside c walk.reference)

pub page_step : (around : Option Tag) (page walk : State) (c : ℕ) → Follows around page walk →
    FollowsOn around (next page c) (next walk c)
page_step around page walk c f = step_cases around page walk c f (outside_or_not walk.row)

-- ---- the end of a static text

end_if : (decided : Bool) (page walk : State) → (if decided then Ok walk else Err code.Ampersand) ≡ Ok walk →
    (if decided then Ok page else Err code.Ampersand) ≡ Ok page
end_if true page walk is = refl
end_if false page walk is = cc

pub page_text_end : (around : Option Tag) (page walk : State) → Follows around page walk → text_end walk ≡ Ok walk →
    text_end page ≡ Ok page
page_text_end around page walk f is =
    subst (λ r. (if is_decided r then Ok page else Err code.Ampersand) ≡ Ok page) (sym f.1)
    (end_if (is_decided walk.reference) page walk is)
