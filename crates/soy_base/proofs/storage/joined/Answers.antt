use Rattle.std.proofs.Common.{ap, ◌∙◌, ◌++◌}
use Rattle.std.specs.Str.{chars}
use Rattle.std.proofs.lemmas.Str.{chars-append}
use Rattle.soy_base.proofs.storage.joined.Goals as goal

pub returns-in-Ok-try_push_str : goal.returns-in-Ok-try_push_str
returns-in-Ok-try_push_str c =
    ap chars (c.in-Ok-try_push_str.ensures.ok ∙ ap (λ before. before ++ c.args.more.now) c.in-Ok.ensures.ok)
    ∙ chars-append c.args.text.now c.args.more.now c.utf8.text
