use Rattle.std.proofs.Common.{Bool, true, false, ap, subst}
use Rattle.soy_tree.specs.ViewValues.{view_value}
use Rattle.render_core.specs.Finds.{HasItem}
use Rattle.render_core.specs.Frames.{mark_of}
use Rattle.render_core.specs.Seen.{cells_seen}
use Rattle.render_core.specs.Variables.{cell_at}
use Rattle.render_core.proofs.Sights.{items_at}
use Rattle.render_core.proofs.TextEnds.{same_stays}
use Rattle.render_core.proofs.Turns.{turn_goes, turns_end, turns_none, turns_plain}
use Rattle.render_core.proofs.stack.Machine.step_turn.Goals as goal

pub leave-requires : goal.leave-requires
leave-requires c =
    let p = c.args.scene.now.program.now in
    let input = view_value c.args.scene.now.input.now in
    let old = c.args.self.now in
    record {
      mark = ap mark_of c.requires.top;
      fits = c.requires.fits;
      plain = turns_plain p input old c.args.round c.requires.top;
      none = turns_none p input old c.args.round c.requires.top c.in-None.ensures;
    }

pub leave-requires-else-has_item : goal.leave-requires-else-has_item
leave-requires-else-has_item c =
    let p = c.args.scene.now.program.now in
    let v = c.args.scene.now.input.now in
    let input = view_value v in
    let old = c.args.self.now in
    let r = c.args.round in
    let at = c.point.ensures in
    let none = items_at c.point.result p v old.bound at.program at.input at.bound r.list r.next false
    (subst (λ (has : Bool). HasItem r.next (cell_at (cells_seen c.point.result) r.list).part has) c.if-has_item.false
    c.has_item.ensures) in
    record {
      mark = ap mark_of c.requires.top;
      fits = c.requires.fits;
      plain = turns_plain p input old r c.requires.top;
      none = turns_end p input old r c.requires.top none;
    }

pub returns-in-Ok : goal.returns-in-Ok
returns-in-Ok c n =
    let p = c.args.scene.now.program.now in
    let v = c.args.scene.now.input.now in
    let input = view_value v in
    let old = c.args.self.now in
    let r = c.args.round in
    let at = c.point.ensures in
    let some = items_at c.point.result p v old.bound at.program at.input at.bound r.list r.next true
    (subst (λ (has : Bool). HasItem r.next (cell_at (cells_seen c.point.result) r.list).part has) c.if-has_item.true
    c.has_item.ensures) in
    let ends = c.in-Ok.ensures in
    turn_goes p input old c.turn.new.self r c.in-Some.index.now c.in-Some.body.now c.is_some.result n c.requires.top
    c.requires.fits c.is_some.ensures c.in-Some.ensures some ends.top ends.below ends.texts ends.bound

pub returns-in-Err : goal.returns-in-Err
returns-in-Err c n =
    let p = c.args.scene.now.program.now in
    let input = view_value c.args.scene.now.input.now in
    same_stays p input c.args.self.now c.turn.new.self n c.in-Err.ensures.stays c.requires.fits
