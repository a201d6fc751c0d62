use Rattle.std.proofs.Common.{◌≡◌, [], ◌∷◌, ◌++◌, encode_utf8, append-nil, ap, sym, ◌∙◌}
use Rattle.std.specs.Str.{chars}
use Rattle.std.specs.String.{string_bytes}
use Rattle.std.proofs.lemmas.Str.{chars-append, chars-nil, chars_past_char, IsUtf8-encode, IsUtf8-string_bytes}
use Rattle.soy_base.proofs.push.push_char.Goals as goal

pub returns-clause-ok : goal.returns-clause-ok
returns-clause-ok c =
    let one : chars (encode_utf8 c.args.c) ≡ c.args.c ∷ [] =
    chars_past_char (encode_utf8 c.args.c) [] c.args.c (IsUtf8-encode c.args.c c.ranges.c.0)
    (sym (append-nil (encode_utf8 c.args.c))) ∙ ap (λ rest. c.args.c ∷ rest) chars-nil in
    rw c.in_ok-push.ensures.bytes (chars-append _ _ (IsUtf8-string_bytes c.args.out.now)
    ∙ ap (λ more. chars (string_bytes c.args.out.now) ++ more) one)
