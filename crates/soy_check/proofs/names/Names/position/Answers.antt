use Rattle.std.proofs.Common.{◌∙◌, ap, ℕ, List, reverse}
use Rattle.std.specs.List.{position}
use Rattle.std.specs.Str.{bytes_eq}
use Rattle.soy_check.proofs.Keys.{position-names, seen}
use Rattle.soy_check.proofs.names.Names.position.Goals as goal

pub returns : goal.returns
returns c =
    c.get_index_of.ensures.index
    ∙ position-names c.self.inside.names.keys c.text.result.now c.text.utf8 c.self.invariant
    ∙ ap (λ (n : List ℕ). position (bytes_eq n) (reverse (seen c.self.inside.names.keys))) c.text.ensures.characters
    ∙ ap (λ (names : List (List ℕ)). position (bytes_eq c.args.name.now) (reverse names)) c.self.view_is
