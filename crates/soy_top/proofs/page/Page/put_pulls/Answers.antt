use Rattle.std.proofs.Common.{◌≡◌, ◌≤◌, ◌<◌, length, refl, sym, subst, ap, ◌∙◌, arith}
use Rattle.render_core.specs.Rest.{rest_bytes, rest_end}
use Rattle.soy_io.proofs.AddedParts.{added-nil}
use Rattle.soy_front.specs.ViewSources.{view_contents}
use Rattle.soy_top.specs.declared.output.End.TheVariants as end
use Rattle.soy_top.specs.Answer.{run_text}
use Rattle.soy_top.specs.Runs.ViewOutput.{IsEnd, page_run, view_end}
use Rattle.soy_top.specs.Words.{command_words}
use Rattle.soy_top.proofs.Took.{PutSoFar, left_within, prefix_of_prefix, put_more, put_none, put_part, put_whole}
use Rattle.soy_top.proofs.Pulling.{done_whole, end_solid, left_fewer, no_text_by, pulled_none, pulled_stop}
use Rattle.soy_top.proofs.Pulling.{pulled_within, text_solid}
use Rattle.soy_top.proofs.page.Page.put_pulls.Goals as goal

pub loop-rendering-init : goal.loop-rendering-init
loop-rendering-init g c =
    let o = page_run c.args.self.now in
    let began = ap rest_bytes c.in-Ok.ensures.rest ∙ text_solid o in
    record {
      fits = c.in-Ok.ensures.fits;
      so_far = subst (λ bs. PutSoFar (g.K.Sink.taken c.args.out.now) (g.K.Sink.taken c.args.out.now) (run_text o) bs)
          (sym began) (put_none (g.K.Sink.taken c.args.out.now) (run_text o));
      same_end = ap rest_end c.in-Ok.ensures.rest ∙ end_solid o;
      untouched = λ h. refl;
      later = omega arith;
      has_room = c.requires.room;
    }

pub returns-in-Ok-eq0-clause-ok : goal.returns-in-Ok-eq0-clause-ok
returns-in-Ok-eq0-clause-ok g c =
    let inv = c.loop-rendering.invariant in
    let zero_given : c.in-Ok-eq0.field-0 ≡ 0 = omega (arith, c.in-Ok-eq0.field-0-test) in
    let none = pulled_none _ _ _ _ _ _ _ _ _ c.in-Ok-eq0.field-0 refl c.in-Ok-eq0.ensures.pulls zero_given
    inv.has_room (done_whole _ _ _ inv.fits.done) in
    put_whole _ _ _ _ inv.so_far none.0

pub returns-in-Ok-eq0-clause-end : goal.returns-in-Ok-eq0-clause-end
returns-in-Ok-eq0-clause-end g c =
    let inv = c.loop-rendering.invariant in
    let zero_given : c.in-Ok-eq0.field-0 ≡ 0 = omega (arith, c.in-Ok-eq0.field-0-test) in
    let none = pulled_none _ _ _ _ _ _ _ _ _ c.in-Ok-eq0.field-0 refl c.in-Ok-eq0.ensures.pulls zero_given
    inv.has_room (done_whole _ _ _ inv.fits.done) in
    subst (λ e. IsEnd (view_end (command_words c.args.self.now.names.now) (view_contents c.args.self.now.sources.now) e)
    end.Whole) (sym none.1 ∙ inv.same_end) tt

pub returns-in-Ok-eq0-clause-no_text : goal.returns-in-Ok-eq0-clause-no_text
returns-in-Ok-eq0-clause-no_text g c =
    let inv = c.loop-rendering.invariant in
    no_text_by _ _ _ _ _ (λ h. inv.untouched (omega (arith, h)))

pub returns-in-Err-clause-err : goal.returns-in-Err-clause-err
returns-in-Err-clause-err g c =
    let inv = c.loop-rendering.invariant in
    put_part _ _ _ _ _ inv.so_far
    (prefix_of_prefix _ _ _ _ _ c.in-Err.stop.taken c.in-Ok-pull.ensures.bytes (omega (arith, c.in-Err.ensures.within))
    c.in-Err.ensures.err)

pub returns-in-Err-clause-no_text : goal.returns-in-Err-clause-no_text
returns-in-Err-clause-no_text g c =
    let inv = c.loop-rendering.invariant in
    let within = pulled_within _ _ _ _ _ _ _ _ _ c.in-Ok-pull.n c.in-Ok-pull.ensures.pulls in
    let fewer = left_fewer _ _ c.pull.new.room c.in-Ok-pull.n c.in-Ok-pull.ensures.bytes
    (omega (arith, within, c.pull.auto.room)) in
    let least = left_within _ _ _ _ inv.so_far in
    let some : 0 < c.in-Ok-pull.n = omega (arith, c.in-Ok-pull.n-test) in
    no_text_by _ _ _ _ _ (λ (h : length (run_text (page_run c.args.self.now)) ≤ 0).
    absurd (omega (arith, h, fewer, least, some)))

pub loop-rendering-preserved : goal.loop-rendering-preserved
loop-rendering-preserved g c =
    let inv = c.loop-rendering.invariant in
    let within = pulled_within _ _ _ _ _ _ _ _ _ c.in-Ok-pull.n c.in-Ok-pull.ensures.pulls in
    let fewer = left_fewer _ _ c.pull.new.room c.in-Ok-pull.n c.in-Ok-pull.ensures.bytes
    (omega (arith, within, c.pull.auto.room)) in
    let least = left_within _ _ _ _ inv.so_far in
    let some : 0 < c.in-Ok-pull.n = omega (arith, c.in-Ok-pull.n-test) in
    record {
      fits = c.in-Ok-pull.ensures.fits;
      so_far = put_more _ _ _ _ _ _ _ inv.so_far c.in-Ok-pull.ensures.bytes c.in_default-put_all.ensures.ok;
      same_end = sym c.in-Ok-pull.ensures.end ∙ inv.same_end;
      untouched = λ h. absurd (omega (arith, h, fewer, least, some));
      later = omega (arith, inv.later, c.in_default-put_all.ensures.later);
      has_room = omega (arith, inv.has_room, c.pull.auto.room);
    }

pub returns-in-Ok-call_line-clause-ok : goal.returns-in-Ok-call_line-clause-ok
returns-in-Ok-call_line-clause-ok g c =
    put_whole _ _ _ _ c.loop-rendering.invariant.so_far (pulled_stop _ _ _ _ _ _ _ _ _ c.in-Err-Because.call
    c.in-Err-Because.field-0 c.in-Err-Because.field-0-is refl c.in-Err-Because.ensures.pulls).0

pub returns-in-Ok-call_line-clause-end : goal.returns-in-Ok-call_line-clause-end
returns-in-Ok-call_line-clause-end g c =
    let stop = pulled_stop _ _ _ _ _ _ _ _ _ c.in-Err-Because.call c.in-Err-Because.field-0
    c.in-Err-Because.field-0-is refl c.in-Err-Because.ensures.pulls in
    subst (λ e. IsEnd (view_end (command_words c.args.self.now.names.now) (view_contents c.args.self.now.sources.now) e)
    (end.AtCall c.in-Ok-call_line.line)) (sym stop.1 ∙ c.loop-rendering.invariant.same_end)
    c.in-Ok-call_line.ensures

pub returns-in-Ok-call_line-clause-no_text : goal.returns-in-Ok-call_line-clause-no_text
returns-in-Ok-call_line-clause-no_text g c =
    let inv = c.loop-rendering.invariant in
    no_text_by _ _ _ _ _ (λ h. inv.untouched (omega (arith, h)))

pub returns-in-Err-call_line-clause-err : goal.returns-in-Err-call_line-clause-err
returns-in-Err-call_line-clause-err g c =
    put_part _ _ _ _ _ c.loop-rendering.invariant.so_far (0, added-nil _)

pub returns-in-Err-call_line-clause-no_text : goal.returns-in-Err-call_line-clause-no_text
returns-in-Err-call_line-clause-no_text g c =
    let inv = c.loop-rendering.invariant in
    no_text_by _ _ _ _ _ (λ h. inv.untouched (omega (arith, h)))

pub returns-in-Err-OutOfMemory-clause-err : goal.returns-in-Err-OutOfMemory-clause-err
returns-in-Err-OutOfMemory-clause-err g c =
    put_part _ _ _ _ _ c.loop-rendering.invariant.so_far (0, added-nil _)

pub returns-in-Err-OutOfMemory-clause-no_text : goal.returns-in-Err-OutOfMemory-clause-no_text
returns-in-Err-OutOfMemory-clause-no_text g c =
    let inv = c.loop-rendering.invariant in
    no_text_by _ _ _ _ _ (λ h. inv.untouched (omega (arith, h)))
