use Rattle.std.proofs.Common.{encode_utf8_all}
use Rattle.json.specs.Value.{value_view}
use Rattle.soy_types.proofs.LentFacts.{member_found}
use Rattle.soy_types.proofs.lent.member_of.Goals as goal

pub returns : goal.returns
returns c =
    member_found c.last_named.result c.text.result.now (encode_utf8_all c.args.name.now) (value_view c.args.json.now)
    c.last_named.ensures c.text.ensures.bytes
