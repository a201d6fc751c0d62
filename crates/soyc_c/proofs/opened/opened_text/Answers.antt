use Rattle.std.proofs.Common.{arith}
use Rattle.soyc_c.proofs.OpeningLimits.{opens_few}
use Rattle.soyc_c.proofs.opened.opened_text.Goals as goal

pub returns-else-json-gt-DATA_LIMIT : goal.returns-else-json-gt-DATA_LIMIT
returns-else-json-gt-DATA_LIMIT c = λ content are.
    opens_few c.args.shared.now are.of c.args.name.now c.args.json.now c.opened_named.result
    (omega (arith, c.if-json-gt-DATA_LIMIT.false)) (c.opened_named.ensures content are)
