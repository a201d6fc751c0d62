-- A static character in a tag, at any row: two pages that know the value of an attribute apart, as its name isn't
-- `dir`, know the same after it but for such a value.
use Rattle.std.proofs.Common.{ℕ, true, List}
use Rattle.html_state.specs.TagRowNext.{tag_row_next}
use Rattle.html_state.specs.declared.row.TagRow.{TagRow}
use Rattle.html_state.specs.declared.row.TagRow.TheVariants as tag_row
use Rattle.stable_bidi.proofs.KnownPage.{AtTagRow, Known}
use Rattle.stable_bidi.proofs.AttributeNames.{before_name_steps, name_steps, printed_steps, reads_before}
use Rattle.stable_bidi.proofs.AttributeNames.{reads_closing, reads_quoted}
use Rattle.stable_bidi.proofs.AttributeValues.{quoted_steps, unquoted_steps, value_steps}
use Rattle.stable_bidi.proofs.TagReads.{TagStepsTo}

-- by the table of the rows in a tag
pub tag_steps : (c : ℕ) (k : Known) (x y : List ℕ) (inner : TagRow) → AtTagRow inner k.attribute x y
    → TagStepsTo c k x y inner (tag_row_next true inner c)
tag_steps c k x y tag_row.BeforeName at = before_name_steps c k x y tag_row.BeforeName (reads_before c k x y)
tag_steps c k x y tag_row.AfterPrinted at = printed_steps c k x y
tag_steps c k x y (tag_row.AttributeName n) at = name_steps c k x y n at
tag_steps c k x y (tag_row.BeforeValue a) at = value_steps c k x y a at
tag_steps c k x y (tag_row.Quoted q v) at = quoted_steps c k x y q v at
tag_steps c k x y (tag_row.Unquoted v) at = unquoted_steps c k x y v at
tag_steps c k x y tag_row.AfterQuoted at = before_name_steps c k x y tag_row.AfterQuoted (reads_quoted c k x y)
tag_steps c k x y tag_row.SelfClosing at = before_name_steps c k x y tag_row.SelfClosing (reads_closing c k x y)
