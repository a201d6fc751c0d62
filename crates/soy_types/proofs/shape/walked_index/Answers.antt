use Rattle.std.proofs.Common.{bytes_eq, drop, sym, ap, ◌∙◌, ◌||◌, ◌+◌}
use Rattle.soy_types.specs.Filling.{has_entry}
use Rattle.soy_types.proofs.Shapes.{entry_at, entry_left}
use Rattle.soy_types.proofs.shape.walked_index.Goals as goal

pub returns-then-is_named : goal.returns-then-is_named
returns-then-is_named c =
    let e = c.index-entries-index.result in
    let same = ap (bytes_eq c.args.key.now) (sym c.text.ensures.bytes) ∙ sym c.is_named.ensures ∙ c.if-is_named.true in
    entry_at c.args.entries.now c.loop-index.index e c.args.key.now c.loop-index-test.true c.index-entries-index.is same

pub loop-index-preserved : goal.loop-index-preserved
loop-index-preserved c =
    let e = c.index-entries-index.result in
    let same = ap (bytes_eq c.args.key.now) (sym c.text.ensures.bytes) ∙ sym c.is_named.ensures ∙ c.if-is_named.false in
    let es = c.args.entries.now in
    let i = c.loop-index.index in
    c.loop-index.invariant ∙ entry_left es i e c.args.key.now c.loop-index-test.true c.index-entries-index.is
    ∙ ap (λ b. b || has_entry c.args.key.now (drop (i + 1) es)) same
