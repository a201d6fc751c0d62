use Rattle.std.proofs.Common.{◌∙◌, sym}
use Rattle.std.specs.Str.{chars}
use Rattle.escapers.proofs.uri.push_uri_start.Goals as goal

pub returns-else-may_start_uri : goal.returns-else-may_start_uri
unfolding chars
returns-else-may_start_uri c =
    rw (sym c.may_start_uri.ensures ∙ c.if-may_start_uri.false) c.push_text.ensures.ok
