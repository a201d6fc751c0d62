-- A static character in a declaration or comment, and in an element whose content isn't data.
use Rattle.std.proofs.Common.{◌≡◌, ℕ, ◌==◌, ◌&&◌, ◌||◌, List, [], ◌∷◌, take, refl, Option, Some, None, Result, Ok}
use Rattle.std.proofs.Common.{Err, codes, length}
use Rattle.std.specs.Str.{bytes_eq}
use Rattle.soy_base.specs.Characters.{less_than, minus_sign}
use Rattle.soy_base.specs.declared.code.Code.{Code}
use Rattle.soy_base.specs.declared.code.Code.TheVariants as code
use Rattle.html_state.specs.AfterAll.{after_all}
use Rattle.html_state.specs.DeclarationNext.{declaration_next}
use Rattle.html_state.specs.ElementNamed.{element_name}
use Rattle.html_state.specs.ElementNext.{element_next, end_tag, may_end_element}
use Rattle.html_state.specs.EndsName.{ends_name}
use Rattle.html_state.specs.Kept.{name_with}
use Rattle.html_state.specs.RowNext.{begun_end, begun_or, end_tag_next, given_up, goes_on_begun, in_declaration}
use Rattle.html_state.specs.RowNext.{in_tag, markup_declaration_next, within_next}
use Rattle.html_state.specs.TagRowNext.{past_name}
use Rattle.html_state.specs.Texts.{and_then, is_prefix}
use Rattle.html_state.specs.declared.row.Begun.{Begun}
use Rattle.html_state.specs.declared.row.Begun.TheVariants as begun
use Rattle.html_state.specs.declared.row.DeclarationRow.{DeclarationRow}
use Rattle.html_state.specs.declared.row.DeclarationRow.TheVariants as declaration
use Rattle.html_state.specs.declared.row.Element.{Element}
use Rattle.html_state.specs.declared.row.HtmlRow.{HtmlRow}
use Rattle.html_state.specs.declared.row.HtmlRow.TheVariants as row
use Rattle.html_state.specs.declared.row.State.{State}
use Rattle.html_state.specs.declared.row.Tag.{Tag}
use Rattle.html_state.specs.declared.row.Tag.TheVariants as tag
use Rattle.html_state.specs.declared.row.TagKind.TheVariants as kind
use Rattle.html_state.specs.declared.row.TagRow.TheVariants as tag_row
use Rattle.bidi_order.specs.MarkupTokens.{character_read}
use Rattle.bidi_order.specs.MarkupTokens.MarkupToken.{EndTag}
use Rattle.stable_bidi.proofs.KnownPage.{Known, reading}
use Rattle.stable_bidi.proofs.InTagSteps.{past_step}
use Rattle.stable_bidi.proofs.RowReads.{RowStep, RowStepsTo, name_read, nothing_read, reference_after, row_step_if}
use Rattle.stable_bidi.proofs.RowReads.{row_steps_if}

module _ (s : State) (c : ℕ) (k : Known) (x y : List ℕ) where
  -- ---- declarations and comments

  -- to a row of a declaration, or past its end
  declared_step : (before : HtmlRow) (o : Option DeclarationRow) → k.opening ≡ None
      → ((after : HtmlRow) (z : List ℕ) → character_read before after None c (reading s k z) ≡ ([], reading s k z))
      → ((after : HtmlRow) → k.reference ≡ reference_after before after k.reference c)
      → RowStep s before (in_declaration o) c k x y
  declared_step before None none reads pending =
      nothing_read s c k x y before row.Data (reads row.Data) tt tt (pending row.Data)
  declared_step before (Some inner) none reads pending =
      let after : HtmlRow = row.InDeclaration inner in
      nothing_read s c k x y before after (reads after) tt none (pending after)

  -- behind a `<!`
  pub markup_step : (prefix : List ℕ) → k.opening ≡ None
      → RowStep s (row.MarkupDeclaration prefix) (markup_declaration_next prefix c) c k x y
  markup_step prefix none =
      let before : HtmlRow = row.MarkupDeclaration prefix in
      let more : List ℕ = name_with prefix c in
      row_step_if s c k x y before (bytes_eq more (codes "--")) (row.InDeclaration declaration.CommentStart) _
      (nothing_read s c k x y before (row.InDeclaration declaration.CommentStart) (λ z. refl) tt none refl)
      (row_step_if s c k x y before (bytes_eq more (codes "doctype")) (row.InDeclaration declaration.Doctype) _
      (nothing_read s c k x y before (row.InDeclaration declaration.Doctype) (λ z. refl) tt none refl)
      (row_step_if s c k x y before (is_prefix more (codes "--") || is_prefix more (codes "doctype"))
      (row.MarkupDeclaration more) _
      (nothing_read s c k x y before (row.MarkupDeclaration more) (λ z. refl) tt none refl)
      (declared_step before (declaration_next declaration.BogusComment c) none (λ after z. refl) (λ after. refl))))

  -- in a declaration or comment
  pub declaration_step : (inner : DeclarationRow) → k.opening ≡ None
      → RowStep s (row.InDeclaration inner) (in_declaration (declaration_next inner c)) c k x y
  declaration_step inner none =
      declared_step (row.InDeclaration inner) (declaration_next inner c) none (λ after z. refl) (λ after. refl)

  -- ---- the text of an element

  -- what is read on the way to a row within an element is nothing
  abbrev IsSilent : HtmlRow → Type 0
  IsSilent before = ((e : Element) → RowStep s before (row.Within e) c k x y)
      × ((e : Element) (b : Begun) → RowStep s before (row.BegunEndTag e b) c k x y)

  -- a character of the text
  element_step : (before : HtmlRow) (silent : IsSilent before) (now : Element) (c' : ℕ)
      → RowStepsTo s c k x y before (within_next now c')
  element_step before silent now c' =
      row_steps_if s c k x y before (c' == less_than) (Ok (row.BegunEndTag now (begun.EndTag 1))) _
      (silent.1 now (begun.EndTag 1)) (on (element_next now c'))
    where
      on : (o : Result Element Code)
          → RowStepsTo s c k x y before (and_then (λ following. Ok (row.Within following)) o)
      on (Err fault) = tt
      on (Ok e) = silent.0 e

  -- an end tag that goes on otherwise is text
  given_up_step : (before : HtmlRow) (silent : IsSilent before) (now : Element) (characters : List ℕ)
      → RowStepsTo s c k x y before (given_up now characters c)
  given_up_step before silent now characters = on (after_all element_next now characters)
    where
      on : (o : Result Element Code)
          → RowStepsTo s c k x y before (and_then (λ following. within_next following c) o)
      on (Err fault) = tt
      on (Ok e) = element_step before silent e c

  -- so within an element
  within_silent : (now : Element) → k.opening ≡ None → IsSilent (row.Within now)
  within_silent now none = (
    λ e. nothing_read s c k x y (row.Within now) (row.Within e) (λ z. refl) tt none refl,
    λ e b. nothing_read s c k x y (row.Within now) (row.BegunEndTag e b) (λ z. refl) tt none refl,
  )

  -- within an element
  pub within_step : (now : Element) → k.opening ≡ None → RowStepsTo s c k x y (row.Within now) (within_next now c)
  within_step now none = element_step (row.Within now) (within_silent now none) now c

  -- ---- what may be the end tag of an element

  -- so behind a `<` there
  begun_silent : (now : Element) (how : Begun) → k.opening ≡ None → IsSilent (row.BegunEndTag now how)
  begun_silent now how none = (
    λ e. nothing_read s c k x y (row.BegunEndTag now how) (row.Within e) (λ z. refl) tt none refl,
    λ e b. nothing_read s c k x y (row.BegunEndTag now how) (row.BegunEndTag e b) (λ z. refl) tt none refl,
  )

  -- it ends
  begun_ended : (now : Element) (how : Begun) → k.opening ≡ None
      → RowStep s (row.BegunEndTag now how) row.Data c k x y
  begun_ended now how none = record {
    tokens = EndTag (element_name now) ∷ [];
    are = (tt, tt);
    next = k;
    x_after = x;
    y_after = y;
    one = refl;
    other = refl;
    at = tt;
    opened = tt;
    pending = refl;
  }

  -- it ends, goes on in a tag, or was none
  begun_on : (now : Element) (how : Begun) → k.opening ≡ None
      → RowStepsTo s c k x y (row.BegunEndTag now how) (begun_end now how c)
  begun_on now (begun.EndTag count) none =
      let before : HtmlRow = row.BegunEndTag now (begun.EndTag count) in
      let around : Tag = tag.Named kind.End (element_name now) in
      row_steps_if s c k x y before (count == length (end_tag now) && ends_name c) _ _
      (row_steps_if s c k x y before (may_end_element now) (Ok (in_tag around (past_name c))) (Err code.Script)
      (past_step s c k x y before around
      (name_read s c k x y before (row.InTag around tag_row.SelfClosing) (element_name now) (λ z. refl) tt none refl)
      (begun_ended now (begun.EndTag count) none)
      (name_read s c k x y before (row.InTag around tag_row.BeforeName) (element_name now) (λ z. refl) tt none refl))
      tt)
      (given_up_step before (begun_silent now (begun.EndTag count) none) now (take count (end_tag now)))
  begun_on now begun.Bang none =
      given_up_step (row.BegunEndTag now begun.Bang) (begun_silent now begun.Bang none) now (codes "<!")
  begun_on now begun.BangDash none =
      let before : HtmlRow = row.BegunEndTag now begun.BangDash in
      row_steps_if s c k x y before (c == minus_sign) (Err code.Script) _ tt
      (given_up_step before (begun_silent now begun.BangDash none) now (codes "<!-"))

  -- behind a `<` in an element
  pub begun_step : (now : Element) (how : Begun) → k.opening ≡ None
      → RowStepsTo s c k x y (row.BegunEndTag now how) (end_tag_next now how c)
  begun_step now how none = on (goes_on_begun now how c)
    where
      on : (o : Option Begun)
          → RowStepsTo s c k x y (row.BegunEndTag now how) (begun_or now o (begun_end now how c))
      on (Some following) = (begun_silent now how none).1 now following
      on None = begun_on now how none
