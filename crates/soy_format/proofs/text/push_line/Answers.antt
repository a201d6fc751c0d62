use Rattle.std.proofs.Common.{◌++◌, ap, ◌∙◌, List, ℕ}
use Rattle.std.specs.Str.{chars}
use Rattle.std.specs.String.{string_bytes}
use Rattle.std.proofs.lemmas.Result.{on_ok_weaker}
use Rattle.soy_format.proofs.TextLines.{only_line, longer_line}
use Rattle.soy_format.proofs.text.push_line.Goals as goal

pub returns-in-None : goal.returns-in-None
returns-in-None c =
    on_ok_weaker c.push_only.result
    (λ h. h ∙ ap (λ (l : List ℕ). chars (string_bytes c.args.out.now) ++ l)
    (only_line c.args.before.now c.args.last c.utf8.before c.ranges.last.0 c.in-None.ensures)) c.push_only.ensures

pub returns-in-Some : goal.returns-in-Some
returns-in-Some c =
    on_ok_weaker c.push_ends.result
    (λ h. h ∙ ap (λ (l : List ℕ). chars (string_bytes c.args.out.now) ++ l)
    (longer_line c.args.before.now (chars c.in-Some.inner.now) c.in-Some.start c.args.last c.utf8.before
    c.ranges.last.0 c.in-Some.ensures)) c.push_ends.ensures
