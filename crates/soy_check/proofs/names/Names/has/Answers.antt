use Rattle.std.proofs.Common.{◌∙◌, ap, sym, ℕ, List}
use Rattle.soy_base.specs.Among.{is_among}
use Rattle.soy_check.proofs.Keys.{is_seen, seen}
use Rattle.soy_check.proofs.names.Names.has.Goals as goal

pub returns : goal.returns
returns c =
    let keys = c.self.inside.names.keys in
    c.contains.ensures
    ∙ sym (is_seen keys c.text.result.now c.text.utf8 c.self.invariant)
    ∙ ap (λ (n : List ℕ). is_among (seen keys) n) c.text.ensures.characters
    ∙ ap (λ ns. is_among ns c.args.name.now) c.self.view_is
