-- The state of a page goes on as that of a walk over templates.
--
-- A walk follows each block and each template by itself. It begins a block of attributes in a tag without a name, where
-- the page is in a real tag, the one around the block. After the block the walk keeps the mark that a block was
-- printed, where the page is past the block's last attribute. In all else their states are the same. Where the walk has
-- left its tag, nothing is said of the page.
-- Example: in `<p {$b}` with the block `class="a"` the page is after a quoted value, in `p`, where the walk of the
-- block is in its own tag and that around it in AfterPrinted.
use Rattle.std.specs.Prelude.{◌≡◌, ◌⊎◌, ⊤, ℕ, List, Option, Some, None, Result, Ok, Err, IsTrue, false}
use Rattle.soy_base.specs.declared.code.Code.{Code}
use Rattle.soy_base.specs.declared.code.Code.TheVariants as code
use Rattle.soy_base.specs.declared.kind.Kind.TheVariants as kind
use Rattle.soy_base.specs.declared.place.Place.TheVariants as place
use Rattle.soy_base.specs.declared.place.Placing.{Placing}
use Rattle.soy_base.specs.declared.place.Placing.TheVariants.{Takes, Refuses}
use Rattle.html_state.specs.declared.row.HtmlRow.{HtmlRow}
use Rattle.html_state.specs.declared.row.HtmlRow.TheVariants as row
use Rattle.html_state.specs.declared.row.Reference.TheVariants as reference
use Rattle.html_state.specs.declared.row.State.{State}
use Rattle.html_state.specs.declared.row.Tag.{Tag}
use Rattle.html_state.specs.declared.row.Tag.TheVariants as tag
use Rattle.html_state.specs.declared.row.TagRow.{TagRow}
use Rattle.html_state.specs.declared.row.TagRow.TheVariants as tag_row
use Rattle.html_state.specs.AfterAll.{after_all}
use Rattle.html_state.specs.AfterValue.{after_value, row_after_value}
use Rattle.html_state.specs.Leads.{marked}
use Rattle.html_state.specs.MayEnd.{may_end}
use Rattle.html_state.specs.Next.{value_character_next}
use Rattle.html_state.specs.Start.{start}

-- the tags of page and walk, in a block of attributes that stands in this tag, or in none
abbrev pub FollowsTag : Option Tag → Tag → Tag → Type 0
FollowsTag None page walk = page ≡ walk
FollowsTag (Some around) page walk = (page ≡ around) × (walk ≡ tag.Block)

-- a page may be in this row past a printed block of attributes
abbrev pub IsPastPrinted : TagRow → Type 0
IsPastPrinted tag_row.BeforeName = ⊤
IsPastPrinted tag_row.AfterPrinted = ⊤
IsPastPrinted (tag_row.AttributeName _) = ⊤
IsPastPrinted tag_row.AfterQuoted = ⊤
IsPastPrinted _ = ⊥

abbrev pub FollowsTagRow : TagRow → TagRow → Type 0
FollowsTagRow page tag_row.AfterPrinted = IsPastPrinted page
FollowsTagRow page walk = page ≡ walk

-- outside of tags, which a block of attributes never is
abbrev pub FollowsOutside : Option Tag → HtmlRow → HtmlRow → Type 0
FollowsOutside None page walk = page ≡ walk
FollowsOutside (Some _) page walk = ⊥

abbrev pub FollowsRow : Option Tag → HtmlRow → HtmlRow → Type 0
FollowsRow around page row.Outside = ⊤
FollowsRow around (row.InTag page inner) (row.InTag walk within) = FollowsTag around page walk
    × FollowsTagRow inner within
FollowsRow around page walk = FollowsOutside around page walk

abbrev pub Follows : Option Tag → State → State → Type 0
Follows around page walk = FollowsRow around page.row walk.row × (page.reference ≡ walk.reference)

-- ---- what the laws of it say

abbrev pub IsOutside : HtmlRow → Type 0
IsOutside row.Outside = ⊤
IsOutside _ = ⊥

-- where a character is no fault of the walk's, the walk leaves its tag, or the page goes on as it does
abbrev pub FollowsOn : Option Tag → Result State Code → Result State Code → Type 0
FollowsOn around page (Err _) = ⊤
FollowsOn around page (Ok walk) = IsOutside walk.row ⊎ ((now : State) × (page ≡ Ok now) × Follows around now walk)

-- where the walk takes a value, the page takes it at the same place, but that a real tag may refuse the start of a URI
abbrev pub PlacedAlike : Option Tag → Placing → Placing → Type 0
PlacedAlike around page (Refuses _) = ⊤
PlacedAlike (Some _) page (Takes place.UriStart) = (page ≡ Takes place.UriStart) ⊎ (page ≡ Refuses code.UriStart)
PlacedAlike around page (Takes point) = page ≡ Takes point

-- these characters and the mark lead the page to a state that goes on as the walk's after its value
abbrev pub LeadsPage : Option Tag → State → State → List ℕ → Type 0
LeadsPage around page walk out =
    (now : State) × (after_all value_character_next page out ≡ Ok now)
    × Follows around (marked page now) (after_value walk)

-- a block of attributes that the walk prints: there is a tag around it, and where the block may end, the page goes on
-- as the walk does past it
abbrev pub FramesAttributes : Option Tag → State → State → Type 0
FramesAttributes around page walk =
    (inside : Tag) × Follows (Some inside) page (start kind.Attributes)
    × ((now ended : State) → Follows (Some inside) now ended → IsTrue (may_end kind.Attributes ended) →
    ended.reference ≡ reference.Decided → Follows around now (after_value walk))

-- a block of HTML likewise, in no tag
abbrev pub FramesHtml : Option Tag → State → State → Type 0
FramesHtml around page walk =
    Follows None page (start kind.Html)
    × ((now ended : State) → Follows None now ended → IsTrue (may_end kind.Html ended) →
    ended.reference ≡ reference.Decided → Follows around now (after_value walk))
