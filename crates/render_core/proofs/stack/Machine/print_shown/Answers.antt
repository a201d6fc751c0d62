use Rattle.std.proofs.Common.{subst, length}
use Rattle.soy_tree.specs.ViewValues.{view_value}
use Rattle.render_core.specs.Variables.{cells_of}
use Rattle.render_core.specs.Shows.{Shows}
use Rattle.render_core.specs.Stepping.{output}
use Rattle.render_core.specs.declared.showing.Shown.{Shown}
use Rattle.render_core.proofs.Gives.{block_prints, value_prints}
use Rattle.render_core.proofs.stack.Machine.print_shown.Goals as goal

pub returns-in-Value-clause-does : goal.returns-in-Value-clause-does
returns-in-Value-clause-does c b shows =
    let p = c.args.scene.now.program.now in
    let input = view_value c.args.scene.now.input.now in
    let old = c.args.self.now in
    let f = c.args.ahead in
    let class = c.in-Value.class in
    let text = c.in-Value.print in
    let n = length old.bound in
    let out = output c.args.room.now c.print_value.new.room c.print_value.new.piece in
    value_prints p input old c.print_value.new.self f c.args.place text class n out c.print_value.result b
    c.requires.top c.requires.fits c.print_value.ensures.gave
    (subst (λ (s : Shown). Shows p (cells_of p input old.bound) n b s) c.in-Value.is shows)

pub returns-in-Ok-clause-does : goal.returns-in-Ok-clause-does
returns-in-Ok-clause-does c b shows =
    let p = c.args.scene.now.program.now in
    let input = view_value c.args.scene.now.input.now in
    let old = c.args.self.now in
    let n = length old.bound in
    block_prints p input old c.enter_kept.new.self c.args.ahead c.args.place c.in-Block.kept b c.requires.top
    c.requires.fits c.in-Ok.ensures.top c.in-Ok.ensures.below c.in-Ok.ensures.texts c.in-Ok.ensures.bound
    (subst (λ (s : Shown). Shows p (cells_of p input old.bound) n b s) c.in-Block.is shows)

pub returns-in-Err-clause-does : goal.returns-in-Err-clause-does
returns-in-Err-clause-does c b shows = c.in-Err.ensures.stays
