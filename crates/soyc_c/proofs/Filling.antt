-- A slot that is filled with what was made, or of which the reply says why it isn't.
use Rattle.std.proofs.Common.{◌≡◌, ℕ, ◌<◌, List, Option, Some, None, Ok}
use Rattle.std.proofs.Common.{Err, inl, inr, refl, sym, subst, ap, ◌∙◌, arith}
use Rattle.std.specs.Prelude.{IfOk, IfErr, Result}
use Rattle.soyc_c.specs.SlotCalls.{FillsSlot, IsGiven, IsReplied}
use Rattle.soyc_c.specs.SlotReply.{Answers, Replies, SlotReply, bare, stop_answer, unfilled_reply}
use Rattle.soyc_c.specs.Stops.{StopsAt}
use Rattle.soyc_c.specs.declared.held.Held.{Held}
use Rattle.soyc_c.specs.declared.parts.Stop.{Stop}
use Rattle.soyc_c.specs.declared.parts.Stop.TheVariants.{Malformed, Memory}
use Rattle.soyc_c.specs.declared.report.Report.{Report}
use Rattle.soyc_c.specs.declared.unfilled.Unfilled.{Unfilled}
use Rattle.soyc_c.specs.declared.unfilled.Unfilled.TheVariants as unfilled

module _ (reply : SlotReply) (status : ℕ) (err err_after : List ℕ) (fault : Report) where
  given_reply : (u : Unfilled) → Replies reply u → IsGiven (unfilled_reply u) status err err_after fault
      → IsReplied reply status err err_after fault
  given_reply unfilled.Memory replies given = inr given
  given_reply (unfilled.Status s) replies given =
      inl (subst (λ r. IsGiven r status err err_after fault) replies.0 given)
  given_reply (unfilled.Fault said) replies given =
      inl (subst (λ r. IsGiven r status err err_after fault) replies.0 given)

  -- no such answer has the status 0
  never_done : (u : Unfilled) → Replies reply u → IsGiven (unfilled_reply u) status err err_after fault
      → status ≡ 0 → ⊥
  never_done unfilled.Memory replies given is = omega (arith, given.status_is, is)
  never_done (unfilled.Status s) replies given is = omega (arith, given.status_is, is, replies.1)
  never_done (unfilled.Fault said) replies given is = omega (arith, given.status_is, is, replies.1)

  module _ {B : Type 0} (value : B → Held) (IsWanted : Held → Type 0) (new : Option Held) where
    pub fills : (made : Result B Unfilled) → IfOk made (λ b. IsWanted (value b)) → Answers reply made
        → IfOk made (λ b. IsGiven (bare 0) status err err_after fault × (new ≡ Some (value b)))
        → IfErr made (λ u. IsGiven (unfilled_reply u) status err err_after fault × (new ≡ None))
        → FillsSlot reply IsWanted status new err err_after fault
    fills (Ok b) wanted done given refused = record {
      replied = inl (subst (λ r. IsGiven r status err err_after fault) (sym done) given.0);
      kept = λ not_done. absurd (not_done given.0.status_is);
      filled_with = λ is_done. (value b, given.1, wanted);
    }
    fills (Err u) wanted replies given refused = record {
      replied = given_reply u replies refused.0;
      kept = λ not_done. refused.1;
      filled_with = λ is_done. absurd (never_done u replies refused.0 is_done);
    }

-- a call whose parts can't be read is answered so
pub stop_replies : {A : Type 0} (stop : Stop) (found : Option A) (reply : SlotReply) → StopsAt stop found
    → (found ≡ None → reply ≡ bare 7) → Replies reply (stop_answer stop)
stop_replies Malformed found reply is none = (sym (none is), omega arith)
stop_replies Memory found reply is none = tt
