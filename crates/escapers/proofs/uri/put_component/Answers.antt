use Rattle.std.proofs.Common.{◌∙◌, ap, sym, encode_utf8_all}
use Rattle.escapers.proofs.UriForms.{component_encoded, encoded_bytes}
use Rattle.escapers.proofs.uri.put_component.Goals as goal

pub returns-else-is_unreserved : goal.returns-else-is_unreserved
returns-else-is_unreserved c =
    c.put_encoded.ensures
    ∙ sym (ap encode_utf8_all (component_encoded c.args.c (sym c.is_unreserved.ensures ∙ c.if-is_unreserved.false))
    ∙ encoded_bytes c.args.c c.ranges.c.0)
