use Rattle.std.proofs.Common.{◌≡◌, ◌++◌, sym, arith}
use Rattle.std.proofs.lemmas.List.{take-append-drop}
use Rattle.soy_top.proofs.Took.{put_none, put_more, put_part, prefix_of_prefix}
use Rattle.soy_top.proofs.page.put_bytes.Goals as goal

pub loop-rest-init : goal.loop-rest-init
loop-rest-init g c = record { so_far = put_none _ _; later = omega arith }

pub loop-rest-preserved : goal.loop-rest-preserved
loop-rest-preserved g c =
    let split : c.loop-rest.rest.now ≡ c.split_at.result.0.now ++ c.split_at.result.1.now =
    rw (c.split_at.ensures.front, c.split_at.ensures.back) (sym (take-append-drop 4096 c.loop-rest.rest.now)) in
    record {
      so_far = put_more _ _ _ _ _ _ _ c.loop-rest.invariant.so_far split c.in_default.ensures.ok;
      later = omega (arith, c.in_default.ensures.later);
    }

pub returns-in-Err-clause-err : goal.returns-in-Err-clause-err
returns-in-Err-clause-err g c =
    let split : c.loop-rest.rest.now ≡ c.split_at.result.0.now ++ c.split_at.result.1.now =
    rw (c.split_at.ensures.front, c.split_at.ensures.back) (sym (take-append-drop 4096 c.loop-rest.rest.now)) in
    put_part _ _ _ _ _ c.loop-rest.invariant.so_far
    (prefix_of_prefix _ _ _ _ _ c.in-Err.stop.taken split (omega (arith, c.in-Err.ensures.within))
    c.in-Err.ensures.err)

pub returns-in-Err-put_all-clause-err : goal.returns-in-Err-put_all-clause-err
returns-in-Err-put_all-clause-err g c =
    put_part _ _ _ _ _ c.loop-rest.invariant.so_far (c.in-Err-put_all.stop.taken, c.in-Err-put_all.ensures.err)
