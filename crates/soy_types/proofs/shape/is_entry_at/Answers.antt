use Rattle.std.proofs.Common.{bytes_eq, ap, ◌∙◌}
use Rattle.soy_types.proofs.Shapes.{named_where}
use Rattle.soy_types.proofs.shape.is_entry_at.Goals as goal

pub returns-in-Some : goal.returns-in-Some
returns-in-Some c =
    let found = c.in-Some.ensures.lookup in
    named_where c.is_named.result c.args.entries.now c.args.index c.in-Some.entry.now c.args.key.now found.3.0 found.1
    (c.is_named.ensures ∙ ap (bytes_eq c.args.key.now) c.text.ensures.bytes)
