-- What is given of the reply to a call, and the page that it is.
use Rattle.std.proofs.Common.{◌≡◌, ℕ, false, ◌==◌, List, [], Option, Some, None, refl, sym, ap, ◌∙◌}
use Rattle.std.proofs.Common.{length, inl, inr, ◌⊎◌}
use Rattle.std.specs.Prelude.{IfSome, option_and_then, if◌then◌else◌}
use Rattle.soy_top.specs.Answer.{Answer, Usage, Read, Refused, Done, TooDeep, answer}
use Rattle.soy_top.specs.MarkupKept.{MarkupIsKept}
use Rattle.soy_top.specs.OrderKept.{OrderIsKept}
use Rattle.soy_top.proofs.KeptPages.{same_markup, same_order}
use Rattle.soyc_c.specs.Call.{Call}
use Rattle.soyc_c.proofs.PartBytes.{filled-nothing}
use Rattle.soyc_c.specs.Reply.{answer_reply, call_page, call_reply, given, memory_status}
use Rattle.soyc_c.specs.Room.{filled}
use Rattle.soyc_c.specs.Stops.{StopsAt, stop_status}
use Rattle.soyc_c.specs.declared.parts.Stop.{Stop}
use Rattle.soyc_c.specs.declared.parts.Stop.TheVariants.{Malformed, Memory}

-- no reply has the status of memory that ran out
answer-within_memory : (a : Answer) → ((answer_reply a).status == memory_status) ≡ false
answer-within_memory Usage = refl
answer-within_memory (Read file) = refl
answer-within_memory (Refused line) = refl
answer-within_memory (Done text) = refl
answer-within_memory (TooDeep text line) = refl

reply-within_memory : (call : Option Call) → ((call_reply call).status == memory_status) ≡ false
reply-within_memory None = refl
reply-within_memory (Some call) = answer-within_memory (answer call.files call.words)

-- so at its status its texts are given
pub given-reply : (result : ℕ) (call : Option Call) (text : List ℕ) → result ≡ (call_reply call).status
    → given result text ≡ text
given-reply result call text is =
    ap (λ n. given n text) is ∙ ap (λ b. if b then [] else text) (reply-within_memory call)

-- of a run that ended so, the status, the texts in the rooms and their lengths are those of the reply
pub ended-room : (result : ℕ) (call : Option Call) (text taken room now : List ℕ)
    → result ≡ (call_reply call).status → now ≡ filled room taken → taken ≡ text
    → now ≡ filled room (given result text)
ended-room result call text taken room now is fills same =
    fills ∙ ap (filled room) (same ∙ sym (given-reply result call text is))

pub ended-length : (result : ℕ) (call : Option Call) (text taken : List ℕ) (n : ℕ)
    → result ≡ (call_reply call).status → n ≡ length taken → taken ≡ text → n ≡ length (given result text)
ended-length result call text taken n is counts same =
    counts ∙ ap length (same ∙ sym (given-reply result call text is))

-- a call that stops has the status of its reply, or memory ran out, and nothing is given of it
pub stopped-status : (stop : Stop) (call : Option Call) → StopsAt stop call
    → (stop_status stop ≡ (call_reply call).status) ⊎ (stop_status stop ≡ memory_status)
stopped-status Malformed call is = inl (sym (ap (λ o. (call_reply o).status) is))
stopped-status Memory call is = inr refl

no_out : (stop : Stop) (call : Option Call) → StopsAt stop call → given (stop_status stop) (call_reply call).out ≡ []
no_out Malformed call is = ap (λ o. given 7 (call_reply o).out) is
no_out Memory call is = refl

no_err : (stop : Stop) (call : Option Call) → StopsAt stop call → given (stop_status stop) (call_reply call).err ≡ []
no_err Malformed call is = ap (λ o. given 7 (call_reply o).err) is
no_err Memory call is = refl

without : (room text : List ℕ) → text ≡ [] → room ≡ filled room text
without room text none = sym (filled-nothing room) ∙ ap (filled room) (sym none)

pub stopped-out : (stop : Stop) (call : Option Call) (room : List ℕ) → StopsAt stop call
    → room ≡ filled room (given (stop_status stop) (call_reply call).out)
stopped-out stop call room is = without room (given (stop_status stop) (call_reply call).out) (no_out stop call is)

pub stopped-err : (stop : Stop) (call : Option Call) (room : List ℕ) → StopsAt stop call
    → room ≡ filled room (given (stop_status stop) (call_reply call).err)
stopped-err stop call room is = without room (given (stop_status stop) (call_reply call).err) (no_err stop call is)

pub stopped-out_length : (stop : Stop) (call : Option Call) → StopsAt stop call
    → 0 ≡ length (given (stop_status stop) (call_reply call).out)
stopped-out_length stop call is = sym (ap length (no_out stop call is))

pub stopped-err_length : (stop : Stop) (call : Option Call) → StopsAt stop call
    → 0 ≡ length (given (stop_status stop) (call_reply call).err)
stopped-err_length stop call is = sym (ap length (no_err stop call is))

-- the page of a call keeps its markup and its order
pub call_markup : (call : Option Call) → IfSome (option_and_then call_page call) MarkupIsKept
call_markup None = tt
call_markup (Some call) = same_markup (Some call.files) call.words

pub call_order : (call : Option Call) → IfSome (option_and_then call_page call) OrderIsKept
call_order None = tt
call_order (Some call) = same_order (Some call.files) call.words
