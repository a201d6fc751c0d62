use Rattle.std.proofs.Common.{◌≡◌, ℕ, ◌≤◌, List, length, refl, sym, ap, ◌∙◌, arith}
use Rattle.render_core.specs.Rest.{rest_bytes, rest_end, rest_of}
use Rattle.soy_tree.specs.ViewValues.{view_value}
use Rattle.soy_top.specs.Answer.{run_text}
use Rattle.soy_top.specs.Runs.ViewOutput.{page_run}
use Rattle.soy_top.proofs.Previews.Gathering.{gathered_none, gathered_whole, gathered_with, too_many}
use Rattle.soy_top.proofs.Pulling.{done_whole, end_solid, pulled_none, pulled_stop, pulled_within, text_solid}
use Rattle.soy_top.proofs.seen.gather_pulls.Goals as goal

pub loop-bytes-init : goal.loop-bytes-init
loop-bytes-init g c =
    let o = page_run c.args.page.now in record {
      fits = c.in-Ok.ensures.fits;
      so_far = gathered_none _ _ _ (ap rest_bytes c.in-Ok.ensures.rest ∙ text_solid o) c.new-bytes.ensures.items;
      same_end = ap rest_end c.in-Ok.ensures.rest ∙ end_solid o;
      few = omega (arith, ap length c.new-bytes.ensures.items);
      has_room = c.requires.room;
    }

pub returns-in-Ok-eq0 : goal.returns-in-Ok-eq0
returns-in-Ok-eq0 g c =
    let inv = c.loop-bytes.invariant in
    let zero_given : c.in-Ok-eq0.field-0 ≡ 0 = omega (arith, c.in-Ok-eq0.field-0-test) in
    let none = pulled_none _ _ _ _ _ _ _ _ _ c.in-Ok-eq0.field-0 refl c.in-Ok-eq0.ensures.pulls zero_given
    inv.has_room (done_whole _ _ _ inv.fits.done) in
    let whole = gathered_whole _ _ _ inv.so_far none.0 in
    (omega (arith, inv.few, ap length whole), whole, sym inv.same_end ∙ none.1)

pub loop-bytes-preserved : goal.loop-bytes-preserved
loop-bytes-preserved g c =
    let inv = c.loop-bytes.invariant in record {
      fits = c.in-Ok-pull.ensures.fits;
      so_far = gathered_with _ _ _ inv.so_far _ _ _ c.in-Ok-pull.ensures.bytes
          c.in_ok-push_given-in-Ok-pull.ensures.bytes;
      same_end = sym c.in-Ok-pull.ensures.end ∙ inv.same_end;
      few = c.in_ok-push_given-in-Ok-pull.ensures.few;
      has_room = omega (arith, inv.has_room, c.pull.auto.room);
    }

pub returns-in-Err-Because : goal.returns-in-Err-Because
returns-in-Err-Because g c =
    let inv = c.loop-bytes.invariant in
    let rest : List ℕ = rest_bytes (rest_of c.args.page.now.program (view_value c.args.page.now.input)
    c.loop-bytes.rendering) in
    let stop = pulled_stop _ _ _ _ _ _ _ _ _ c.in-Err-Because.call c.in-Err-Because.field-0
    c.in-Err-Because.field-0-is refl c.in-Err-Because.ensures.pulls in
    let whole : c.loop-bytes.bytes.items ≡ run_text (page_run c.args.page.now) =
    gathered_whole (run_text (page_run c.args.page.now)) rest c.loop-bytes.bytes.items inv.so_far stop.0 in
    (omega (arith, inv.few, ap length whole), sym inv.same_end ∙ stop.1)

pub returns-then-len-n : goal.returns-then-len-n
returns-then-len-n g c =
    let inv = c.loop-bytes.invariant in
    let rest : List ℕ = rest_bytes (rest_of c.args.page.now.program (view_value c.args.page.now.input)
    c.loop-bytes.rendering) in
    let others : List ℕ = rest_bytes (rest_of c.args.page.now.program (view_value c.args.page.now.input)
    c.pull.new.self) in
    let given : c.in-Ok-pull.n ≤ length c.loop-bytes.room =
    pulled_within _ _ _ _ _ _ _ _ _ c.in-Ok-pull.n c.in-Ok-pull.ensures.pulls in
    too_many (run_text (page_run c.args.page.now)) rest c.loop-bytes.bytes.items inv.so_far 1048576 c.in-Ok-pull.n
    c.pull.new.room others c.in-Ok-pull.ensures.bytes
    (omega (arith, given, c.pull.auto.room)) (omega (arith, inv.few, c.len.ensures, c.if-len-n.true))
