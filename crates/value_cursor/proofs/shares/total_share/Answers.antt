use Rattle.std.proofs.Common.{sym, take-append-drop, arith}
use Rattle.value_cursor.proofs.Totals.{chunk_counted, none_counted}
use Rattle.value_cursor.proofs.shares.total_share.Goals as goal

pub loop-rest-init : goal.loop-rest-init
loop-rest-init c = none_counted c.args.shares.now c.args.bytes.now

pub loop-rest-preserved : goal.loop-rest-preserved
loop-rest-preserved c =
    chunk_counted c.args.shares.now c.args.bytes.now c.loop-rest.rest.now c.split_at.result.0.now
    c.split_at.result.1.now
    c.loop-rest.total c.chunk_share-share.result c.loop-rest.invariant
    (rw (c.split_at.ensures.front, c.split_at.ensures.back) (sym (take-append-drop _ c.loop-rest.rest.now)))
    c.chunk_share-share.ensures.total c.chunk_share-share.ensures.bound (omega (arith, c.if-share.false))
