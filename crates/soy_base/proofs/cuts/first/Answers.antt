use Rattle.soy_base.proofs.Texts.{next-first}
use Rattle.soy_base.proofs.cuts.first.Goals as goal

pub returns : goal.returns
returns c =
    next-first c.args.text.now c.chars-characters.result.rest.now c.next.new.self.rest.now c.as_str.result.now
    c.in_ok-character.character c.utf8.text
    c.chars-characters.ensures.rest c.in_ok-character.ensures.steps.0 c.as_str.ensures
