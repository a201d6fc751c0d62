use Rattle.std.proofs.Common.{◌≡◌, true, ◌∙◌, arith}
use Rattle.std.proofs.lemmas.Bool.Decides.{nat_tests}
use Rattle.soy_top.specs.Asked.{are_digits}
use Rattle.soy_top.proofs.Numbers.{parsed_number}
use Rattle.soy_top.proofs.command.number_of.Goals as goal

pub returns : goal.returns
returns c =
    let few : are_digits c.args.word.now ≡ true = grind (arith, nat_tests) in
    c.ok.ensures.value ∙ parsed_number c.args.word.now c.parse.result c.parse.ensures.value.0 few
