use Rattle.std.proofs.Common.{◌++◌, ◌∷◌, [], ap, ◌∙◌}
use Rattle.std.specs.Str.{chars}
use Rattle.std.proofs.lemmas.Str.{chars-nil}
use Rattle.soy_parser.proofs.heads.text_of.Goals as goal

pub returns : goal.returns
returns c =
    c.new.ensures ∙ c.in_ok-push_char.ensures.ok
    ∙ ap (λ bytes. chars bytes ++ (c.args.c ∷ [])) c.new-text.ensures.bytes
    ∙ ap (λ cs. cs ++ (c.args.c ∷ [])) chars-nil
