use Rattle.std.proofs.Common.{◌≡◌, ◌∷◌, arith}
use Rattle.json.specs.Token.{Token}
use Rattle.soy_types.proofs.TokenFacts.{int_read_of}
use Rattle.soy_types.proofs.token_reading.next_int.Goals as goal

pub returns-in-Some-Number-clause-value : goal.returns-in-Some-Number-clause-value
returns-in-Some-Number-clause-value c =
    let first : c.args.reader.now ≡ Token.number c.in-Some-Number.text.now ∷ c.next.new.self = grind arith in
    λ depth.
    int_read_of depth c.args.reader.now c.next.new.self c.in-Some-Number.text.now c.lent_number.result first
    c.lent_number.ensures.value c.lent_number.ensures.has_value
