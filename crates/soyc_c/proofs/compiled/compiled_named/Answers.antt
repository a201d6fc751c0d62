use Rattle.std.proofs.Common.{Err, List, Option, ℕ, ◌≡◌, sym, subst}
use Rattle.std.specs.Prelude.{option_map}
use Rattle.soy_front.specs.Accepted.{FirstFault}
use Rattle.soy_front.specs.DetailAnswer.{front_detail}
use Rattle.soy_front.specs.FrontAnswer.{front_answer}
use Rattle.soy_front.specs.ViewSources.{view_contents}
use Rattle.soy_front.proofs.FrontAnswers.{fault_answered}
use Rattle.soy_top.specs.Words.{command_words}
use Rattle.soyc_c.specs.SlotReply.{Replies}
use Rattle.soyc_c.proofs.CompileCalls.{front-done, front-refused}
use Rattle.soyc_c.proofs.compiled.compiled_named.Goals as goal

pub returns-in-Ok-clause-answers : goal.returns-in-Ok-clause-answers
returns-in-Ok-clause-answers c =
    let are = rw c.as_slice.ensures.value at c.in-Ok.ensures.compiles in
    front-done (command_words c.args.names.items) (view_contents c.args.sources.items) c.args.bundle.now _ _ are.of
    are.answered

pub returns-in-Err-Because-clause-answers : goal.returns-in-Err-Because-clause-answers
returns-in-Err-Because-clause-answers c =
    let names = command_words c.args.names.items in
    let contents = view_contents c.args.sources.items in
    let content : Option (List ℕ) = option_map (λ b. b.now) c.args.content in
    let refusal = c.in-Err-Because.refusal in
    let first : FirstFault contents content refusal.fault =
    rw (c.as_slice.ensures.value, c.in-Err-Because.field-0-is) at c.in-Err-Because.ensures.compiles
    in
    let goes : refusal.detail ≡ front_detail contents content =
    rw (c.as_slice.ensures.value, c.in-Err-Because.field-0-is) at c.in-Err-Because.ensures.detail
    in
    subst (λ r. Replies r c.front_fault.result)
    (sym (front-refused names contents c.args.bundle.now (front_detail contents content) refusal.detail
    (front_answer contents content) refusal.fault (fault_answered contents content refusal.fault first) goes))
    (rw (c.as_slice-in-Err-Because.ensures.value, c.as_slice-in-Err-Because-2.ensures.value) at c.front_fault.ensures)
