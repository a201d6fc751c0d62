use Rattle.std.proofs.Common.{◌≡◌, sym, ap, take, ◌∙◌}
use Rattle.soy_tree.specs.ViewValues.{view_value}
use Rattle.soy_expr.specs.Parts.{child}
use Rattle.render_core.specs.Variables.{cell_at, cells_of, led, path_steps}
use Rattle.render_core.specs.declared.held.Held.TheVariants as held
use Rattle.render_core.proofs.Cells.{part_is, part_lost, part_lower, part_none}
use Rattle.render_core.proofs.Values.{led_null}
use Rattle.render_core.proofs.parts.+bound_part.Goals as goal

pub returns-in-Made : goal.returns-in-Made
returns-in-Made t c p =
    let input = view_value c.args.input.now in
    let bound = c.args.bound.now in
    part_is p input bound c.args.at c.in-Some.variable.now _ c.in-Some.ensures
    c.in-Made.is

pub returns-in-Root : goal.returns-in-Root
returns-in-Root t c p =
    let input = view_value c.args.input.now in
    let bound = c.args.bound.now in
    part_is p input bound c.args.at c.in-Some.variable.now _ c.in-Some.ensures
    c.in-Root.is

pub returns-in-Block : goal.returns-in-Block
returns-in-Block t c p =
    let input = view_value c.args.input.now in
    let bound = c.args.bound.now in
    part_is p input bound c.args.at c.in-Some.variable.now _ c.in-Some.ensures
    c.in-Block.is

pub returns-then-is_root : goal.returns-then-is_root
returns-then-is_root t c p =
    let input = view_value c.args.input.now in
    let bound = c.args.bound.now in
    let root = c.is_root.ensures c.if-is_root.true in
    let whole : input ≡ (cell_at (cells_of p input bound) c.in-Item.of).part =
    part_is p input bound c.in-Item.of root.0 held.Root (sym root.1) root.2 in
    c.child.ensures
    ∙ (ap (child c.in-Item.number) (whole
    ∙ sym (part_lower p input bound c.args.at c.in-Item.of c.if-of-at.true))
    ∙ part_is p input bound c.args.at c.in-Some.variable.now _ c.in-Some.ensures
    c.in-Item.is)

pub returns-else-is_root : goal.returns-else-is_root
returns-else-is_root t c p =
    let input = view_value c.args.input.now in
    let bound = c.args.bound.now in
    let n = c.in-Item.number in
    c.child_of.ensures
    ∙ (ap (child n) (c.bound_part.ensures p
    ∙ sym (part_lower p input bound c.args.at c.in-Item.of c.if-of-at.true))
    ∙ part_is p input bound c.args.at c.in-Some.variable.now _ c.in-Some.ensures
    c.in-Item.is)

pub returns-else-of-at : goal.returns-else-of-at
returns-else-of-at t c p =
    let input = view_value c.args.input.now in
    let bound = c.args.bound.now in
    ap (child c.in-Item.number)
    (sym (part_lost p input bound c.args.at c.in-Item.of c.if-of-at.false))
    ∙ part_is p input bound c.args.at c.in-Some.variable.now _ c.in-Some.ensures
    c.in-Item.is

pub returns-then-root-at : goal.returns-then-root-at
returns-then-root-at t c p =
    let input = view_value c.args.input.now in
    let bound = c.args.bound.now in
    let cells = take c.args.at (cells_of p input bound) in
    let steps = path_steps c.in-Part.path in
    c.followed_from.ensures
    ∙ (ap (led steps) (c.bound_part-then-root-at.ensures p
    ∙ (sym (part_lower p input bound c.args.at c.root_of-root.result c.if-root-at.true)
    ∙ ap (λ k. (cell_at cells k).part) c.root_of-root.ensures))
    ∙ part_is p input bound c.args.at c.in-Some.variable.now _ c.in-Some.ensures
    c.in-Part.is)

pub returns-else-root-at : goal.returns-else-root-at
returns-else-root-at t c p =
    let input = view_value c.args.input.now in
    let bound = c.args.bound.now in
    let cells = take c.args.at (cells_of p input bound) in
    let steps = path_steps c.in-Part.path in
    sym (led_null steps)
    ∙ (ap (led steps)
    (sym (part_lost p input bound c.args.at c.root_of-root.result c.if-root-at.false)
    ∙ ap (λ k. (cell_at cells k).part) c.root_of-root.ensures)
    ∙ part_is p input bound c.args.at c.in-Some.variable.now _ c.in-Some.ensures
    c.in-Part.is)

pub returns-in-None : goal.returns-in-None
returns-in-None t c p =
    let input = view_value c.args.input.now in
    let bound = c.args.bound.now in
    sym (part_none p input bound c.args.at (sym c.in-None.ensures))
