-- The reply to a call that opens, by its limits.
use Rattle.std.proofs.Common.{◌≡◌, ◌<◌, ◌≤◌, ℕ, List, [], Bool, true, false}
use Rattle.std.proofs.Common.{Option, None, Ok, Err, length, refl, sym, subst, ap}
use Rattle.std.proofs.Common.{◌∙◌, arith, le-ltb, lt-ltb}
use Rattle.std.specs.Prelude.{Result, codes, if◌then◌else◌, nat_lt}
use Rattle.std.specs.Str.{IsUtf8, is_utf8}
use Rattle.std.proofs.lemmas.Str.{IsUtf8-from_is_utf8, is_utf8-from_IsUtf8}
use Rattle.soy_base.specs.declared.code.Code.TheVariants as code
use Rattle.soy_front.specs.FrontAnswer.{Front}
use Rattle.soy_page.specs.PageState.{PageState}
use Rattle.soy_page.specs.declared.templates.Templates.{Templates}
use Rattle.soy_top.specs.Answer.{entry_of}
use Rattle.soy_top.specs.Line.{too_large_line}
use Rattle.soy_top.specs.Rendered.{Rendered}
use Rattle.soyc_c.specs.Compiling.{refused}
use Rattle.soyc_c.specs.FaultNumbers.{numbers_elsewhere}
use Rattle.soyc_c.specs.FaultParts.{Absent}
use Rattle.soyc_c.specs.Opening.{OpensAs, asked_page, entry_page, entry_reply, named_page, named_reply, open_reply}
use Rattle.soyc_c.specs.SlotReply.{Replies, SlotReply, bare}
use Rattle.soyc_c.specs.declared.unfilled.Unfilled.{Unfilled}
use Rattle.soyc_c.specs.declared.unfilled.Unfilled.TheVariants as unfilled

-- by the same reply and the same page
opens_same : (t : Templates) (reply other : SlotReply) (asked wanted : Option Rendered)
    (result : Result PageState Unfilled)
    → other ≡ reply → wanted ≡ asked → OpensAs t reply asked result → OpensAs t other wanted result
opens_same t reply other asked wanted result replies pages h =
    subst (λ r. OpensAs t r wanted result) (sym replies) (subst (λ p. OpensAs t reply p result) (sym pages) h)

pub replies_same : (reply other : SlotReply) (u : Unfilled) → other ≡ reply → Replies reply u → Replies other u
replies_same reply other u same h = subst (λ r. Replies r u) (sym same) h

not_utf8 : (name : List ℕ) (b : Bool) → is_utf8 name ≡ b → (IsUtf8 name → ⊥) → b ≡ false
not_utf8 name true is never = absurd (never (IsUtf8-from_is_utf8 name is))
not_utf8 name false is never = refl

module _ (t : Templates) (of : Front) (name json : List ℕ) where
  -- a name that is UTF-8
  pub opens_text : (result : Result PageState Unfilled) → IsUtf8 name
      → OpensAs t (named_reply of name json) (named_page t of name json) result
      → OpensAs t (open_reply of name json) (asked_page t of name json) result
  opens_text result utf8 h =
      let is = is_utf8-from_IsUtf8 name utf8 in
      opens_same t _ _ _ _ result (ap (λ b. if b then named_reply of name json else bare 7) is)
      (ap (λ b. if b then named_page t of name json else None) is) h

  pub opens_no_text : (IsUtf8 name → ⊥) → Replies (open_reply of name json) (unfilled.Status 7)
  opens_no_text never =
      let is = not_utf8 name (is_utf8 name) refl never in
      (sym (ap (λ b. if b then named_reply of name json else bare 7) is), omega arith)

  -- data within their limit
  pub opens_few : (result : Result PageState Unfilled) → length json ≤ 4194304
      → OpensAs t (entry_reply name json (entry_of of name)) (entry_page t of name json) result
      → OpensAs t (named_reply of name json) (named_page t of name json) result
  opens_few result few h =
      let is = le-ltb 4194304 (length json) few in
      opens_same t _ _ _ _ result (ap (λ b.
      if b then refused (too_large_line (codes "data")) code.TooLarge Absent (numbers_elsewhere 4 code.TooLarge)
      else entry_reply name json (entry_of of name)) is)
      (ap (λ b. if b then None else entry_page t of name json) is) h

  pub opens_large : (u : Unfilled) → 4194304 < length json
      → Replies (refused (too_large_line (codes "data")) code.TooLarge Absent (numbers_elsewhere 4 code.TooLarge)) u
      → Replies (named_reply of name json) u
  opens_large u large h =
      replies_same _ _ u (ap (λ b.
      if b then refused (too_large_line (codes "data")) code.TooLarge Absent (numbers_elsewhere 4 code.TooLarge)
      else entry_reply name json (entry_of of name)) (lt-ltb 4194304 (length json) large)) h
