use Rattle.std.proofs.Common.{◌∷◌, [], ap, ◌∙◌}
use Rattle.std.specs.Str.{chars}
use Rattle.std.specs.Str.Iter.{chars_rest}
use Rattle.std.proofs.lemmas.List.{nil_from_length}
use Rattle.std.proofs.lemmas.Str.{chars_past_char, chars-nil, IsUtf8-past_char}
use Rattle.soy_meaning.specs.Walks.PageMachine.{page_machine}
use Rattle.soy_meaning.specs.Walks.Walk.{met_at, states_after_text}
use Rattle.html_context.specs.Walks.{view_site}
use Rattle.html_context.proofs.TextSteps.{one_end_fails, one_ends, one_fails, one_more}
use Rattle.html_context.proofs.text.alone.Goals as goal

pub returns-in-Err : goal.returns-in-Err
returns-in-Err c =
    let left = chars_past_char (chars_rest c.loop-c.c-iterator) (chars_rest c.next.new.self) c.in-Some.c
    c.loop-c.invariant.utf8 c.in-Some.ensures.steps.0 in
    rw c.stop.ensures
    (one_fails (view_site c.args.at) c.in-Some.c (chars (chars_rest c.loop-c.c-iterator))
    (chars (chars_rest c.next.new.self)) c.loop-c.now
    (states_after_text page_machine (chars c.args.text.now) (c.args.state ∷ [])) c.in-Err.code left c.in-Err.ensures.err
    c.loop-c.invariant.rest)

pub loop-c-preserved : goal.loop-c-preserved
loop-c-preserved c =
    let left = chars_past_char (chars_rest c.loop-c.c-iterator) (chars_rest c.next.new.self) c.in-Some.c
    c.loop-c.invariant.utf8 c.in-Some.ensures.steps.0 in
    record {
      utf8 = IsUtf8-past_char (chars_rest c.loop-c.c-iterator) (chars_rest c.next.new.self) c.in-Some.c
          c.loop-c.invariant.utf8 c.in-Some.ensures.steps.0;
      rest = one_more c.in-Some.c (chars (chars_rest c.loop-c.c-iterator)) (chars (chars_rest c.next.new.self))
          c.loop-c.now c.step.new.self
          (states_after_text page_machine (chars c.args.text.now) (c.args.state ∷ [])) left c.in_default.ensures.ok
          c.loop-c.invariant.rest;
    }

pub returns-in-Ok : goal.returns-in-Ok
returns-in-Ok c =
    ap (λ r. met_at (view_site c.args.at) r)
    (one_ends (chars (chars_rest c.loop-c.c-iterator)) c.loop-c.now c.loop-c.now
    (states_after_text page_machine (chars c.args.text.now) (c.args.state ∷ []))
    (ap chars (nil_from_length (chars_rest c.loop-c.c-iterator) c.in-None.ensures.steps.0.0) ∙ chars-nil)
    c.in-Ok.ensures.ok c.loop-c.invariant.rest)

pub returns-in-Err-end_text : goal.returns-in-Err-end_text
returns-in-Err-end_text c =
    rw c.stop-in-Err-end_text.ensures
    (one_end_fails (view_site c.args.at) (chars (chars_rest c.loop-c.c-iterator)) c.loop-c.now
    (states_after_text page_machine (chars c.args.text.now) (c.args.state ∷ [])) c.in-Err-end_text.code
    (ap chars (nil_from_length (chars_rest c.loop-c.c-iterator) c.in-None.ensures.steps.0.0) ∙ chars-nil)
    c.in-Err-end_text.ensures.err c.loop-c.invariant.rest)
