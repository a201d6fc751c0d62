use Rattle.std.proofs.Common.{◌∙◌, ap, not, sym}
use Rattle.std.specs.Str.{chars}
use Rattle.escapers.specs.UriStart.{has_scheme}
use Rattle.escapers.proofs.SchemeSearch.{before_colon, no_colon}
use Rattle.escapers.proofs.uri.has_scheme.Goals as goal

pub returns-in-Some : goal.returns-in-Some
returns-in-Some c =
    ap not c.has_scheme_end.ensures
    ∙ sym (ap has_scheme c.in-Some.ensures.around.1 ∙ before_colon (chars c.in-Some.before.now) _
    c.in-Some.ensures.around.0)

pub returns-in-None : goal.returns-in-None
returns-in-None c = sym (no_colon (chars c.args.text.now) c.in-None.ensures.around)
