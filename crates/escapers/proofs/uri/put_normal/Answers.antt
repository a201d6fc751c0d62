use Rattle.std.proofs.Common.{◌∙◌, ap, sym, encode_utf8_all}
use Rattle.escapers.proofs.UriForms.{encoded_bytes, normal_encoded, not_ampersand}
use Rattle.escapers.proofs.uri.put_normal.Goals as goal

pub returns-else-is_normal : goal.returns-else-is_normal
returns-else-is_normal c =
    c.put_encoded.ensures
    ∙ sym (ap encode_utf8_all (normal_encoded c.args.c (not_ampersand c.args.c c.if-c-eq38.false)
    (sym c.is_normal.ensures ∙ c.if-is_normal.false)) ∙ encoded_bytes c.args.c c.ranges.c.0)
