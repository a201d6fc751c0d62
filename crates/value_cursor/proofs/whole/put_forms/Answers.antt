use Rattle.std.proofs.Common.{◌+◌, ◌∷◌, ap, drop, get_or, sym, arith}
use Rattle.std.specs.List.{flat_map}
use Rattle.std.proofs.lemmas.List.{drop_more}
use Rattle.value_cursor.specs.ByteForms.{byte_form}
use Rattle.value_cursor.proofs.Givings.{gives_after}
use Rattle.value_cursor.proofs.Wholes.{more_given}
use Rattle.value_cursor.proofs.whole.put_forms.Goals as goal

pub loop-byte-preserved : goal.loop-byte-preserved
loop-byte-preserved c =
    let form = byte_form c.args._how in
    let bytes = c.args.bytes.now in
    let i = c.loop-byte.byte-index in
    let byte = get_or bytes i 0 in
    let rest = drop (i + 1) bytes in
    record {
      gives = more_given form byte rest
          (gives_after (flat_map form (byte ∷ rest)) c.loop-byte.invariant.gives
          (ap (flat_map form) (sym (drop_more bytes i 0 c.loop-byte-test.true))))
          (c.put_form-filled.ensures.gives (flat_map form rest));
      bound = omega (arith, c.loop-byte.invariant.bound, c.put_form-filled.ensures.bound);
    }
