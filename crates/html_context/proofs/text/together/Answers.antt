use Rattle.std.proofs.Common.{List, [], Err, subst, ap, ◌∙◌}
use Rattle.std.specs.Str.{chars}
use Rattle.std.specs.Str.Iter.{chars_rest}
use Rattle.std.proofs.lemmas.List.{nil_from_length}
use Rattle.std.proofs.lemmas.Str.{chars_past_char, chars-nil, IsUtf8-past_char}
use Rattle.std.proofs.lemmas.Result.{err_from_is_err_and}
use Rattle.html_state.specs.Next.{next, text_end}
use Rattle.html_state.specs.declared.row.State.{State}
use Rattle.soy_meaning.specs.Walks.PageMachine.{page_machine}
use Rattle.soy_meaning.specs.Walks.Walk.{met_at, moved_states}
use Rattle.html_context.specs.Walks.{Gives, items_of, view_site}
use Rattle.html_context.proofs.TextSteps.{left_more, left_fails, left_ends}
use Rattle.html_context.proofs.text.together.Goals as goal

pub returns-in_err-now : goal.returns-in_err-now
returns-in_err-now c =
    let p = err_from_is_err_and c.from_residual.result c.from_residual.ensures.1 in
    let left = chars_past_char (chars_rest c.loop-c.c-iterator) (chars_rest c.next.new.self) c.in-Some.c
    c.loop-c.invariant.utf8 c.in-Some.ensures.steps.0 in
    rw (p.1, p.2) (left_fails (view_site c.args.at) c.in-Some.c (chars (chars_rest c.loop-c.c-iterator))
    (chars (chars_rest c.next.new.self)) (chars c.args.text.now) c.loop-c.now.items c.args.states.items
    c.in_err-now.field-0.0 left c.loop-c.invariant.rest
    (subst (λ (l : List State). Gives items_of (met_at (view_site c.args.at)
    (moved_states page_machine (λ s. next s c.in-Some.c) [] l)) (Err c.in_err-now.field-0.0)) c.deref.ensures.value
    c.in_err-now.ensures))

pub loop-c-preserved : goal.loop-c-preserved
loop-c-preserved c =
    let left = chars_past_char (chars_rest c.loop-c.c-iterator) (chars_rest c.next.new.self) c.in-Some.c
    c.loop-c.invariant.utf8 c.in-Some.ensures.steps.0 in
    record {
      utf8 = IsUtf8-past_char (chars_rest c.loop-c.c-iterator) (chars_rest c.next.new.self) c.in-Some.c
          c.loop-c.invariant.utf8 c.in-Some.ensures.steps.0;
      rest = left_more (view_site c.args.at) c.in-Some.c (chars (chars_rest c.loop-c.c-iterator))
          (chars (chars_rest c.next.new.self)) c.loop-c.now.items c.in_ok-now.now.items _ left
          (rw c.deref.ensures.value at c.in_ok-now.ensures) c.loop-c.invariant.rest;
    }

pub returns : goal.returns
returns c =
    left_ends (view_site c.args.at) (chars (chars_rest c.loop-c.c-iterator)) (chars c.args.text.now) c.loop-c.now.items
    c.args.states.items c.ended.result
    (ap chars (nil_from_length (chars_rest c.loop-c.c-iterator) c.in-None.ensures.steps.0.0) ∙ chars-nil)
    c.loop-c.invariant.rest (subst (λ (l : List State). Gives items_of
    (met_at (view_site c.args.at) (moved_states page_machine text_end [] l)) c.ended.result) c.deref-2.ensures.value
    c.ended.ensures)
