-- A value that keeps the walk's place leads the page's state to the one that a value leaves behind.
use Rattle.std.proofs.Common.{List, ap, subst, sym, ℕ, ◌∙◌, ◌≡◌}
use Rattle.std.specs.Prelude.{None, Ok, Option, Some}
use Rattle.html_state.proofs.KeptPlaces.{quoted_holds, row_holds, value_rows}
use Rattle.html_state.proofs.PageFrames.{page_value}
use Rattle.html_state.specs.AfterValue.{after_value}
use Rattle.html_state.specs.Follows.{Follows, FollowsOutside, FollowsRow, FollowsTag, FollowsTagRow, LeadsPage}
use Rattle.html_state.specs.KeepsPlace.{KeepsPlaceAt}
use Rattle.html_state.specs.Leads.{Leads, LeadsRow, marked}
use Rattle.html_state.specs.Next.{pending}
use Rattle.html_state.specs.StatePlacing.{placing, row_placing, tag_name, tag_row_placing}
use Rattle.html_state.specs.Texts.{and_then}
use Rattle.html_state.specs.declared.row.HtmlRow.{HtmlRow}
use Rattle.html_state.specs.declared.row.HtmlRow.TheVariants as row
use Rattle.html_state.specs.declared.row.State.{State}
use Rattle.html_state.specs.declared.row.Tag.{Tag}
use Rattle.html_state.specs.declared.row.TagRow.{TagRow}
use Rattle.html_state.specs.declared.row.TagRow.TheVariants as tag_row
use Rattle.soy_base.proofs.Results.{ok_same}

-- in a tag: only a quoted value takes one
in_tag_leads : (around : Option Tag) (page walk : Tag) (inner within : TagRow) (out : List ℕ) →
    FollowsTag around page walk → FollowsTagRow inner within →
    KeepsPlaceAt (tag_row_placing walk within) out → LeadsRow (row.InTag page inner) out
in_tag_leads around page walk inner (tag_row.Quoted quote now) out is same safe =
    subst (λ i. LeadsRow (row.InTag page i) out) (sym same) (quoted_holds page quote (tag_name walk) now out safe)
in_tag_leads around page walk inner tag_row.AfterPrinted out is past never = absurd never
in_tag_leads around page walk inner _ out is same never = absurd never

-- outside of tags the page's row is the walk's
outside_leads : (around : Option Tag) (page walk : HtmlRow) (out : List ℕ) → FollowsOutside around page walk →
    KeepsPlaceAt (row_placing walk) out → LeadsRow page out
outside_leads None page walk out same safe = subst (λ r. LeadsRow r out) (sym same) (row_holds walk out safe)
outside_leads (Some around) page walk out never safe = absurd never

-- every row
row_leads : (around : Option Tag) (page walk : HtmlRow) (out : List ℕ) → FollowsRow around page walk →
    KeepsPlaceAt (row_placing walk) out → LeadsRow page out
row_leads around (row.InTag page inner) (row.InTag walk within) out f safe =
    in_tag_leads around page walk inner within out f.0 f.1 safe
row_leads around page row.Outside out f never = absurd never
row_leads around page walk out f safe = outside_leads around page walk out f safe

-- the page's own state leads to what a value leaves behind it
pub page_leads : (around : Option Tag) (page walk : State) (out : List ℕ) → Follows around page walk →
    KeepsPlaceAt (placing walk) out → Leads page out
page_leads around page walk out f safe =
    let leads : LeadsRow page.row out = row_leads around page.row walk.row out f.0 safe in (
      pending leads.0 page.reference,
      value_rows page.reference page.row out ∙ ap (and_then (λ now. Ok (pending now page.reference))) leads.1,
      ap (λ r. pending r page.reference) leads.2,
    )

-- which goes on as the walk's
pub page_goes_on : (around : Option Tag) (page walk : State) (out : List ℕ) → Follows around page walk →
    KeepsPlaceAt (placing walk) out → Follows around (after_value page) (after_value walk)
page_goes_on around page walk out f safe =
    let leads : Leads page out = page_leads around page walk out f safe in
    let follows : LeadsPage around page walk out = page_value around page walk out f safe in
    let same : follows.0 ≡ leads.0 = ok_same follows.0 leads.0 (sym follows.1 ∙ leads.1) in
    subst (λ s. Follows around s (after_value walk)) (ap (marked page) same ∙ leads.2) follows.2
