-- A page that is asked for keeps its markup and its visual order, and within the limits it is that of the template.
use Rattle.std.proofs.Common.{◌≡◌, ◌≤◌, ℕ, List, Bool, true, false, Option, Some, None, length, ltb-false, refl}
use Rattle.std.specs.Prelude.{IfSome, Ok, if◌then◌else◌, nat_lt}
use Rattle.std.specs.Str.{is_utf8}
use Rattle.soy_front.specs.Compiled.{AreCompiled}
use Rattle.soy_page.specs.declared.templates.Templates.{Templates}
use Rattle.soy_top.specs.MarkupKept.{MarkupIsKept}
use Rattle.soy_top.specs.OrderKept.{OrderIsKept}
use Rattle.soy_top.specs.Rendered.{Rendered}
use Rattle.soy_top.proofs.KeptPages.{markup_kept, order_kept}
use Rattle.soy_top.proofs.Options.{if_so}
use Rattle.soy_top.proofs.PageParts.{PageParts, front_parts}
use Rattle.soyc_c.specs.Opening.{asked_page, entry_page, named_page}
use Rattle.soyc_c.specs.SlotCalls.{AreKnown, OnPage}
use Rattle.soyc_c.specs.TemplateFiles.{file_contents, file_names}
use Rattle.soyc_c.specs.declared.held.Held.{Held}
use Rattle.soyc_c.specs.declared.held.Held.TheVariants as held

module _ (t : Templates) (content : Option (List ℕ))
    (are : AreCompiled (file_contents t) content t.compiled) (name json : List ℕ) where
  entry_parts : length json ≤ 4194304 → IfSome (entry_page t are.of name json) PageParts
  entry_parts few =
      front_parts (file_names t) (file_contents t) content name json few (Ok are.of) are.answered

  named_parts : (large : Bool) → nat_lt 4194304 (length json) ≡ large
      → IfSome (if large then None else entry_page t are.of name json) PageParts
  named_parts true is = tt
  named_parts false is = entry_parts (ltb-false 4194304 (length json) is)

  asked_by : (utf8 : Bool) → IfSome (if utf8 then named_page t are.of name json else None) PageParts
  asked_by true = named_parts (nat_lt 4194304 (length json)) refl
  asked_by false = tt

  asked_parts : IfSome (asked_page t are.of name json) PageParts
  asked_parts = asked_by (is_utf8 name)

  asked_markup : IfSome (asked_page t are.of name json) MarkupIsKept
  asked_markup = if_so (asked_page t are.of name json) PageParts MarkupIsKept asked_parts markup_kept

  asked_order : IfSome (asked_page t are.of name json) OrderIsKept
  asked_order = if_so (asked_page t are.of name json) PageParts OrderIsKept asked_parts order_kept

-- **the page that is asked for of what a slot holds**
pub same_markup : (slot : Option Held) (name json : List ℕ) → IfSome slot AreKnown → OnPage MarkupIsKept slot name json
same_markup (Some (held.Templates t)) name json known =
    record { there = known; each = λ content are. asked_markup t content are name json }
same_markup (Some (held.Page page)) name json known = tt
same_markup None name json known = tt

pub same_order : (slot : Option Held) (name json : List ℕ) → IfSome slot AreKnown → OnPage OrderIsKept slot name json
same_order (Some (held.Templates t)) name json known =
    record { there = known; each = λ content are. asked_order t content are name json }
same_order (Some (held.Page page)) name json known = tt
same_order None name json known = tt
