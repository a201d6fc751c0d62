use Rattle.std.proofs.Common.{◌≡◌, ◌∷◌, arith}
use Rattle.json.specs.Token.{Token}
use Rattle.soy_types.proofs.TokenFacts.{string_read}
use Rattle.soy_types.proofs.token_reading.next_string.Goals as goal

pub returns-in-Some-String-clause-value : goal.returns-in-Some-String-clause-value
returns-in-Some-String-clause-value c =
    let first : c.args.reader.now ≡ Token.string c.in-Some-String.text.now ∷ c.next.new.self = grind arith in
    λ depth.
    string_read depth c.args.reader.now c.next.new.self c.in-Some-String.text.now c.lent_text.result first
    c.lent_text.ensures.value
