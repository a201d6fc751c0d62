use Rattle.std.proofs.Common.{◌≡◌, ◌∷◌, arith}
use Rattle.json.specs.Token.{Token}
use Rattle.soy_types.proofs.TokenFacts.{bool_read_of}
use Rattle.soy_types.proofs.Views.{view_bool}
use Rattle.soy_types.proofs.token_reading.next_bool.Goals as goal

pub returns-in-Some-Bool-clause-value : goal.returns-in-Some-Bool-clause-value
returns-in-Some-Bool-clause-value c =
    let b = c.in-Some-Bool.value in
    let first : c.args.reader.now ≡ Token.boolean b ∷ c.next.new.self = grind arith in
    λ depth. bool_read_of depth c.args.reader.now c.next.new.self b _ first (view_bool b)
