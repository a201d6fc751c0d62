use Rattle.std.proofs.Common.{◌≡◌, ◌+◌, ◌≤◌, refl, arith, rules}
use mir.Facts.{to_z-of_z}
use mir.Syntax.{w64}
use mir.Val.{SFits}
use Rattle.soy_rules.specs.Val.{Known}
use Rattle.soy_tree.specs.Values.{IntValue}
use Rattle.soy_tree.specs.ViewValues.{view_value}
use Rattle.template_ir.specs.Run.{value_gives}
use Rattle.template_ir.specs.declared.op.Op.TheVariants as op
use Rattle.render_core.proofs.Moves.{same_self, stays_in}
use Rattle.render_core.specs.Stepping.{output}
use Rattle.render_core.proofs.Gives.{does_step}
use Rattle.render_core.proofs.stack.Machine.step_number.Goals as goal

pub returns-in-Err-clause-stepped : goal.returns-in-Err-clause-stepped
returns-in-Err-clause-stepped c n =
    let p = c.args.scene.now.program.now in
    let input = view_value c.args.scene.now.input.now in
    let old = c.args.self.now in
    let f = c.args.ahead in
    stays_in p input old old f (op.Number c.args.place) 0
    (value_gives p.dir c.args.place (IntValue f.number)) n n c.requires.top c.requires.op c.requires.low refl
    (let low : n ≤ n = omega arith in let high : n ≤ n + 0 = omega arith in (low, high)) c.requires.fits
    (same_self p input old)

pub returns-clause-stepped : goal.returns-clause-stepped
returns-clause-stepped c n =
    let p = c.args.scene.now.program.now in
    let input = view_value c.args.scene.now.input.now in
    let old = c.args.self.now in
    let f = c.args.ahead in
    let fits : SFits w64 f.number = search rules in
    let shows = simp (to_z-of_z fits) at c.in-Ok.ensures in
    does_step p input old c.print_shown.new.self f (op.Number c.args.place) 0
    (value_gives p.dir c.args.place (IntValue f.number)) n n
    (output c.args.room.now c.print_shown.new.room c.print_shown.new.piece) c.print_shown.result
    c.requires.top c.requires.fits
    c.requires.op c.requires.low refl (let same : n ≡ n + 0 = omega arith in same)
    (c.print_shown.ensures.does (Known (IntValue f.number)) shows)
