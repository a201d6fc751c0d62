use Rattle.std.proofs.Common.{◌≡◌, true, ◌∙◌, arith}
use Rattle.std.proofs.lemmas.Bool.Decides.{nat_tests}
use Rattle.std.specs.Str.{chars}
use Rattle.soy_top.specs.Scripts.Script.{is_numeral}
use Rattle.soy_top.proofs.Plays.ScriptTexts.{parsed_numeral}
use Rattle.soy_top.proofs.script.number_of.Goals as goal

pub returns : goal.returns
returns c =
    let numeral : is_numeral (chars c.args.text.now) ≡ true = grind (arith, nat_tests) in
    c.ok.ensures.value ∙ parsed_numeral c.args.text.now c.parse.result c.utf8.text c.parse.ensures.value.0 numeral
