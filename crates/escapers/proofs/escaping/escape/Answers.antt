use Rattle.std.proofs.Common.{◌≡◌, ℕ, List, [], ◌++◌, Option, None, Some, ap, sym, ◌∙◌, encode_utf8_all}
use Rattle.std.specs.Prelude.{option_map, IsSomeAnd}
use Rattle.std.specs.Str.{chars}
use Rattle.std.specs.String.{string_bytes}
use Rattle.std.proofs.lemmas.Str.{chars-nil, encodes-chars, IsUtf8-string_bytes}
use Rattle.escapers.specs.Esc.{esc}
use Rattle.escapers.proofs.escaping.escape.Goals as goal

-- what is pushed to an empty text is the whole
from_empty : (start new : List ℕ) (given : Option (List ℕ)) → start ≡ [] → IsSomeAnd given (λ more. new ≡ start ++ more)
    → given ≡ Some new
from_empty start new None empty never = absurd never
from_empty start new (Some more) empty added = ap Some (sym (added ∙ ap (λ l. l ++ more) empty))

in_characters : goal.returns-clause-escaped
in_characters c =
    from_empty (chars (string_bytes c.new-out.result)) (chars (string_bytes c.push.new.out))
    (esc c.args.how c.args.class (chars c.args.text.now)) (ap chars c.new-out.ensures.bytes ∙ chars-nil)
    c.in_ok-push.ensures

pub returns-clause-escaped : goal.returns-clause-escaped
returns-clause-escaped c = in_characters c

pub returns-clause-bytes : goal.returns-clause-bytes
returns-clause-bytes c =
    ap (option_map encode_utf8_all) (in_characters c)
    ∙ ap Some (encodes-chars (string_bytes c.push.new.out) (IsUtf8-string_bytes c.push.new.out))
