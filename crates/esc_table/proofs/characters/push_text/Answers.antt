use Rattle.std.proofs.Common.{◌++◌, ◌∙◌, ap, sym, append-nil, arith}
use Rattle.std.specs.Str.{chars}
use Rattle.std.specs.String.{string_bytes}
use Rattle.std.proofs.lemmas.Bool.Decides.{nat_tests}
use Rattle.std.proofs.lemmas.List.{nil_from_length}
use Rattle.std.proofs.lemmas.Str.{chars-append, chars-nil, IsUtf8-string_bytes}
use Rattle.esc_table.proofs.characters.push_text.Goals as goal

pub returns-in_ok-push_str-clause-ok : goal.returns-in_ok-push_str-clause-ok
returns-in_ok-push_str-clause-ok c =
    rw c.in_ok-push_str.ensures.bytes (chars-append _ _ (IsUtf8-string_bytes c.args.out.now))

pub returns-else-not-is_empty-clause-ok : goal.returns-else-not-is_empty-clause-ok
returns-else-not-is_empty-clause-ok c =
    sym (ap (λ l. chars (string_bytes c.args.out.now) ++ l)
    (ap chars (nil_from_length c.args.text.now (grind (arith, nat_tests, c.if-not-is_empty.ensures))) ∙ chars-nil)
    ∙ append-nil (chars (string_bytes c.args.out.now)))
