use Rattle.std.proofs.Common.{◌∙◌, ap, sym, ◌*◌}
use Rattle.soy_base.specs.ByteLength.{byte_len}
use Rattle.escapers.proofs.UriForms.{normal_encoded, encoded_len, not_ampersand}
use Rattle.escapers.proofs.uri.normal_len.Goals as goal

pub returns-else-is_normal : goal.returns-else-is_normal
returns-else-is_normal c =
    ap (λ n. 3 * n) c.len_utf8.ensures.value
    ∙ sym (ap byte_len (normal_encoded c.args.c (not_ampersand c.args.c c.if-c-eq38.false)
    (sym c.is_normal.ensures ∙ c.if-is_normal.false)) ∙ encoded_len c.args.c c.ranges.c.0)
