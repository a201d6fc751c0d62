-- A static character at any row of the tokenizer: two pages that know the value of an attribute apart, as its name
-- isn't `dir`, give the same tokens and know the same after it but for such a value.
use Rattle.std.proofs.Common.{◌≡◌, ℕ, true, List, refl}
use Rattle.std.proofs.lemmas.Bool.{both_ways}
use Rattle.html_state.specs.Next.{has_references}
use Rattle.html_state.specs.RowNext.{row_next}
use Rattle.html_state.specs.declared.row.HtmlRow.{HtmlRow}
use Rattle.html_state.specs.declared.row.HtmlRow.TheVariants as row
use Rattle.html_state.specs.declared.row.State.{State}
use Rattle.html_state.specs.declared.row.Tag.TheVariants as tag
use Rattle.html_state.specs.declared.row.TagRow.TheVariants as tag_row
use Rattle.stable_bidi.proofs.KnownPage.{AtRow, IsOpened, Known}
use Rattle.stable_bidi.proofs.DataSteps.{data_step, end_open_step, in_text, open_step}
use Rattle.stable_bidi.proofs.ElementSteps.{begun_step, declaration_step, markup_step, within_step}
use Rattle.stable_bidi.proofs.InTagSteps.{in_tag_step, name_step, quoted_stays, unquoted_stays}
use Rattle.stable_bidi.proofs.RowReads.{RowStep, RowStepsTo, nothing_read}

module _ (s : State) (c : ℕ) (k : Known) (x y : List ℕ) where
  -- by the table
  pub row_steps : (before : HtmlRow) → AtRow before k.attribute x y → IsOpened before k.opening
      → RowStepsTo s c k x y before (row_next true before c)
  row_steps row.Data at none = data_step s c k x y
  row_steps row.TagOpen at none = open_step s c k x y none
  row_steps row.EndTagOpen at none = end_open_step s c k x y none
  row_steps (row.TagName how n) at none = name_step s c k x y how n none
  row_steps (row.InTag (tag.Named how n) inner) at none = in_tag_step s c k x y how n inner none at
  row_steps (row.InTag tag.Block inner) never none = absurd never
  row_steps (row.MarkupDeclaration prefix) at none = markup_step s c k x y prefix none
  row_steps (row.InDeclaration inner) at none = declaration_step s c k x y inner none
  row_steps (row.Within e) at none = within_step s c k x y e none
  row_steps (row.BegunEndTag e how) at none = begun_step s c k x y e how none
  row_steps row.Outside at none = nothing_read s c k x y row.Outside row.Outside (λ z. refl) tt none refl
  row_steps row.Plain never none = absurd never

  -- where a reference may be pending, the row may stay
  pub row_stays : (before : HtmlRow) → AtRow before k.attribute x y → IsOpened before k.opening
      → has_references before ≡ true → RowStep s before before c k x y
  row_stays row.Data at none has = in_text s c k x y row.Data tt tt
  row_stays (row.Within e) at none has =
      nothing_read s c k x y (row.Within e) (row.Within e) (λ z. refl) tt none refl
  row_stays (row.InTag (tag.Named how n) (tag_row.Quoted q v)) at none has = quoted_stays s c k x y how n q v none at
  row_stays (row.InTag (tag.Named how n) (tag_row.Unquoted v)) at none has = unquoted_stays s c k x y how n v none at
  row_stays (row.InTag (tag.Named how n) tag_row.BeforeName) at none has = absurd (both_ways _ refl has)
  row_stays (row.InTag (tag.Named how n) tag_row.AfterPrinted) at none has = absurd (both_ways _ refl has)
  row_stays (row.InTag (tag.Named how n) (tag_row.AttributeName m)) at none has = absurd (both_ways _ refl has)
  row_stays (row.InTag (tag.Named how n) (tag_row.BeforeValue a)) at none has = absurd (both_ways _ refl has)
  row_stays (row.InTag (tag.Named how n) tag_row.AfterQuoted) at none has = absurd (both_ways _ refl has)
  row_stays (row.InTag (tag.Named how n) tag_row.SelfClosing) at none has = absurd (both_ways _ refl has)
  row_stays (row.InTag tag.Block inner) never none has = absurd never
  row_stays row.TagOpen at none has = absurd (both_ways _ refl has)
  row_stays row.EndTagOpen at none has = absurd (both_ways _ refl has)
  row_stays (row.TagName how n) at none has = absurd (both_ways _ refl has)
  row_stays (row.MarkupDeclaration prefix) at none has = absurd (both_ways _ refl has)
  row_stays (row.InDeclaration inner) at none has = absurd (both_ways _ refl has)
  row_stays (row.BegunEndTag e how) at none has = absurd (both_ways _ refl has)
  row_stays row.Outside at none has = absurd (both_ways _ refl has)
  row_stays row.Plain never none has = absurd never
