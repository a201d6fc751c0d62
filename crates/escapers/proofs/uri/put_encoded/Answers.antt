use Rattle.std.proofs.Common.{◌∙◌, ap, arith}
use Rattle.std.specs.List.{flat_map}
use Rattle.std.proofs.lemmas.List.{take_all}
use Rattle.escapers.specs.PercentEncoded.{encoded_byte}
use Rattle.escapers.proofs.UriForms.{one_fits, one_more}
use Rattle.escapers.proofs.uri.put_encoded.Goals as goal

pub push-requires : goal.push-requires
push-requires c = record {
  size = one_fits c.as_bytes-bytes.result.now c.loop-byte.tail c.percent_encode_byte.result.now c.loop-byte.byte-index
      c.loop-byte-test.true
      (omega (arith, c.type_inv.bytes c.loop-byte.byte-index)) c.percent_encode_byte.ensures c.loop-byte.invariant
      c.args.c (c.as_bytes-bytes.ensures.value ∙ c.encode_utf8.ensures.value);
}

pub loop-byte-preserved : goal.loop-byte-preserved
loop-byte-preserved c =
    one_more c.as_bytes-bytes.result.now c.loop-byte.tail c.percent_encode_byte.result.now c.loop-byte.byte-index
    c.loop-byte-test.true
    (omega (arith, c.type_inv.bytes c.loop-byte.byte-index)) c.percent_encode_byte.ensures c.loop-byte.invariant
    c.push.new.self c.push.ensures

pub returns : goal.returns
returns c =
    c.loop-byte.invariant
    ∙ ap (flat_map encoded_byte)
    (take_all c.loop-byte.byte-index c.as_bytes-bytes.result.now c.loop-byte-test.false
    ∙ c.as_bytes-bytes.ensures.value ∙ c.encode_utf8.ensures.value)
