use Rattle.std.proofs.Common.{◌≡◌, rules}
use Rattle.bidi_preview.proofs.SearchedElements.{ends_one}
use Rattle.bidi_preview.proofs.direction.Directions.read_end.Goals as goal

pub returns-clause-opened : goal.returns-clause-opened
returns-clause-opened c =
    let some : c.count.result ≡ 0 → ⊥ = search rules in
    ends_one c.args.name.now c.args.self.now.opened c.loop-element.self.opened c.pop.new.self
    c.args.self.now.names.counts c.count.result c.requires c.count.ensures some c.in_default.ensures.0
    c.loop-element.invariant.left
