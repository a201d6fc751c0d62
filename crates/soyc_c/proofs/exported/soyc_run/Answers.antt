use Rattle.std.proofs.Common.{inl, ap, ◌∙◌}
use Rattle.soyc_c.specs.Call.{call_at}
use Rattle.soyc_c.proofs.Replies.{call_markup, call_order, ended-length, ended-room, stopped-err, stopped-err_length}
use Rattle.soyc_c.proofs.Replies.{stopped-out, stopped-out_length, stopped-status}
use Rattle.soyc_c.proofs.exported.soyc_run.Goals as goal

pub returns-in-Ok-clause-status : goal.returns-in-Ok-clause-status
returns-in-Ok-clause-status c = inl (c.give.ensures.status ∙ ap (λ r. r.status) c.in-Ok.ensures.ok)

pub returns-in-Ok-clause-out : goal.returns-in-Ok-clause-out
returns-in-Ok-clause-out c =
    ended-room _ (call_at c.args.bytes.now c.args.words.now c.args.files.now) _ _ _ _
    (c.give.ensures.status ∙ ap (λ r. r.status) c.in-Ok.ensures.ok) c.give.ensures.out
    (ap (λ r. r.out) c.in-Ok.ensures.ok)

pub returns-in-Ok-clause-err : goal.returns-in-Ok-clause-err
returns-in-Ok-clause-err c =
    ended-room _ (call_at c.args.bytes.now c.args.words.now c.args.files.now) _ _ _ _
    (c.give.ensures.status ∙ ap (λ r. r.status) c.in-Ok.ensures.ok) c.give.ensures.err
    (ap (λ r. r.err) c.in-Ok.ensures.ok)

pub returns-in-Ok-clause-out_length : goal.returns-in-Ok-clause-out_length
returns-in-Ok-clause-out_length c =
    ended-length _ (call_at c.args.bytes.now c.args.words.now c.args.files.now) _ _ _
    (c.give.ensures.status ∙ ap (λ r. r.status) c.in-Ok.ensures.ok) c.give.ensures.out_length
    (ap (λ r. r.out) c.in-Ok.ensures.ok)

pub returns-in-Ok-clause-err_length : goal.returns-in-Ok-clause-err_length
returns-in-Ok-clause-err_length c =
    ended-length _ (call_at c.args.bytes.now c.args.words.now c.args.files.now) _ _ _
    (c.give.ensures.status ∙ ap (λ r. r.status) c.in-Ok.ensures.ok) c.give.ensures.err_length
    (ap (λ r. r.err) c.in-Ok.ensures.ok)

pub returns-in-Ok-clause-same_markup : goal.returns-in-Ok-clause-same_markup
returns-in-Ok-clause-same_markup c = call_markup (call_at c.args.bytes.now c.args.words.now c.args.files.now)

pub returns-in-Ok-clause-same_visual_order : goal.returns-in-Ok-clause-same_visual_order
returns-in-Ok-clause-same_visual_order c = call_order (call_at c.args.bytes.now c.args.words.now c.args.files.now)

pub returns-in-Err-clause-status : goal.returns-in-Err-clause-status
returns-in-Err-clause-status c = rw c.stop_number.ensures (stopped-status _ _ c.in-Err.ensures.err)

pub returns-in-Err-clause-out : goal.returns-in-Err-clause-out
returns-in-Err-clause-out c =
    rw c.stop_number.ensures (stopped-out c.in-Err.stop (call_at c.args.bytes.now c.args.words.now c.args.files.now) _
    c.in-Err.ensures.err)

pub returns-in-Err-clause-err : goal.returns-in-Err-clause-err
returns-in-Err-clause-err c =
    rw c.stop_number.ensures (stopped-err c.in-Err.stop (call_at c.args.bytes.now c.args.words.now c.args.files.now) _
    c.in-Err.ensures.err)

pub returns-in-Err-clause-out_length : goal.returns-in-Err-clause-out_length
returns-in-Err-clause-out_length c =
    rw c.stop_number.ensures (stopped-out_length c.in-Err.stop
    (call_at c.args.bytes.now c.args.words.now c.args.files.now) c.in-Err.ensures.err)

pub returns-in-Err-clause-err_length : goal.returns-in-Err-clause-err_length
returns-in-Err-clause-err_length c =
    rw c.stop_number.ensures (stopped-err_length c.in-Err.stop
    (call_at c.args.bytes.now c.args.words.now c.args.files.now) c.in-Err.ensures.err)

pub returns-in-Err-clause-same_markup : goal.returns-in-Err-clause-same_markup
returns-in-Err-clause-same_markup c = call_markup (call_at c.args.bytes.now c.args.words.now c.args.files.now)

pub returns-in-Err-clause-same_visual_order : goal.returns-in-Err-clause-same_visual_order
returns-in-Err-clause-same_visual_order c = call_order (call_at c.args.bytes.now c.args.words.now c.args.files.now)
