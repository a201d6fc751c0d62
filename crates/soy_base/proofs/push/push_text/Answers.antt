use Rattle.std.proofs.lemmas.Str.{chars-append, IsUtf8-string_bytes}
use Rattle.soy_base.proofs.push.push_text.Goals as goal

pub returns-clause-ok : goal.returns-clause-ok
returns-clause-ok c = rw c.in_ok-push_str.ensures.bytes (chars-append _ _ (IsUtf8-string_bytes c.args.out.now))
