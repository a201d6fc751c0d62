use Rattle.std.proofs.Common.{◌≡◌, ℕ, List, Err, ap, arith, length, take, refl, sym, codes, ◌∙◌}
use Rattle.std.proofs.lemmas.List.{with_items_is}
use Rattle.soy_base.specs.declared.memory.Refusal.TheVariants.{Because}
use Rattle.std.proofs.lemmas.Result.{IfOk-weaker}
use Rattle.soy_desk.specs.DeskRun.{DeskAnswer, PullCall}
use Rattle.soy_top.specs.Line.{ended}
use Rattle.soy_top.specs.Scripts.Played.{given_line, named_line}
use Rattle.soy_top.proofs.CheckedLines.{pull_shows}
use Rattle.soy_top.proofs.play.pull.Goals as goal

pub returns-in-Ok : goal.returns-in-Ok
returns-in-Ok g c =
    let call : PullCall DeskAnswer = record {
      room = c.as_mut_slice.result.now;
      room_after = c.pull.new.room;
      steps = c.args.steps.now;
      steps_after = c.pull.new.steps;
      answer = c.pull.result;
    } in
    let value : length c.as_mut_slice.result.now ≡ length c.resize.new.self.items =
    ap length c.as_mut_slice.ensures.value in
    let same : length c.pull.new.room ≡ c.resize.new.self.len =
    omega (arith, c.pull.auto.room, value, c.resize.new.self.ok.0) in
    IfOk-weaker c.given_line.result _ _ (λ text is first second.
    pull_shows first second c.args.name c.args.count call _ _ _ _ _ c.in-Ok.is
    (ap length c.as_mut_slice.ensures.value ∙ (sym c.resize.new.self.ok.0 ∙ c.in_ok-resize.ensures.len))
    c.pull.ensures refl
    (is ∙ ap (λ (bs : List ℕ). ended (given_line c.args.name bs))
    (c.as_slice.ensures.value ∙ (c.truncate.ensures.items ∙ ap (λ (bs : List ℕ). take c.in-Ok.n bs)
    (with_items_is c.resize.new.self c.pull.new.room same))))) c.given_line.ensures

pub returns-in-Err-Because-TooDeep : goal.returns-in-Err-Because-TooDeep
returns-in-Err-Because-TooDeep g c =
    let call : PullCall DeskAnswer = record {
      room = c.as_mut_slice.result.now;
      room_after = c.pull.new.room;
      steps = c.args.steps.now;
      steps_after = c.pull.new.steps;
      answer = c.pull.result;
    } in
    IfOk-weaker c.named_line.result _ _ (λ text is first second.
    pull_shows first second c.args.name c.args.count call _ (named_line (codes "toodeep") c.args.name) _ _ _
    (c.in-Err-Because-TooDeep.is
    ∙ ap Err (c.in-Err-Because-TooDeep.field-0-is ∙ ap Because c.in-Err-Because-TooDeep.field-0-0-is))
    (ap length c.as_mut_slice.ensures.value ∙ (sym c.resize.new.self.ok.0 ∙ c.in_ok-resize.ensures.len))
    c.pull.ensures refl is) c.named_line.ensures

pub returns-in-Err-Because-Unknown : goal.returns-in-Err-Because-Unknown
returns-in-Err-Because-Unknown g c =
    let call : PullCall DeskAnswer = record {
      room = c.as_mut_slice.result.now;
      room_after = c.pull.new.room;
      steps = c.args.steps.now;
      steps_after = c.pull.new.steps;
      answer = c.pull.result;
    } in
    IfOk-weaker c.named_line-in-Err-Because-Unknown.result _ _ (λ text is first second.
    pull_shows first second c.args.name c.args.count call _ (named_line (codes "unknown") c.args.name) _ _ _
    (c.in-Err-Because-Unknown.is
    ∙ ap Err (c.in-Err-Because-Unknown.field-0-is ∙ ap Because c.in-Err-Because-Unknown.field-0-0-is))
    (ap length c.as_mut_slice.ensures.value ∙ (sym c.resize.new.self.ok.0 ∙ c.in_ok-resize.ensures.len))
    c.pull.ensures refl is)
    c.named_line-in-Err-Because-Unknown.ensures
