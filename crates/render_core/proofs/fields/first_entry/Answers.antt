use Rattle.std.proofs.Common.{ap, sym, ◌∙◌}
use Rattle.std.specs.Prelude.{bytes_eq}
use Rattle.render_core.proofs.Values.{entry_first}
use Rattle.render_core.proofs.fields.first_entry.Goals as goal

pub returns-then-is-clause-some : goal.returns-then-is-clause-some
returns-then-is-clause-some c =
    entry_first c.args.entries.now c.loop-number.number c.index-entries-number.result c.args.name.now
    c.loop-number-test.true c.index-entries-number.is
    (ap (bytes_eq c.index-entries-number.result.name) (sym c.text.ensures.characters)
    ∙ (sym c.is.ensures ∙ c.if-is.true)) c.loop-number.invariant
