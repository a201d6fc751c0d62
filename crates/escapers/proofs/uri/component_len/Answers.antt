use Rattle.std.proofs.Common.{◌∙◌, ap, sym, ◌*◌}
use Rattle.soy_base.specs.ByteLength.{byte_len}
use Rattle.escapers.proofs.UriForms.{component_encoded, encoded_len}
use Rattle.escapers.proofs.uri.component_len.Goals as goal

pub returns-else-is_unreserved : goal.returns-else-is_unreserved
returns-else-is_unreserved c =
    ap (λ n. 3 * n) c.len_utf8.ensures.value
    ∙ sym (ap byte_len (component_encoded c.args.c (sym c.is_unreserved.ensures ∙ c.if-is_unreserved.false))
    ∙ encoded_len c.args.c c.ranges.c.0)
