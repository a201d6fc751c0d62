use Rattle.std.proofs.Common.{◌≡◌, length, slice_get, sym, ap, ◌∙◌, arith}
use Rattle.soy_expr.proofs.SameLists.{fields_end, fields_longer}
use Rattle.soy_expr.proofs.joining.+comparing.Goals as goal

pub are_same_fields-returns-in-Some-field_at : goal.are_same_fields-returns-in-Some-field_at
are_same_fields-returns-in-Some-field_at t c =
    let e : c.loop-number.number ≡ length c.args.left.now = omega arith in
    sym (c.loop-number.invariant ∙ fields_longer c.args.left.now c.args.right.now c.loop-number.number
    c.in-Some-field_at.field-0.now (omega arith) (ap (slice_get c.args.right.now) e
    ∙ sym c.in-Some-field_at.ensures))

pub are_same_fields-returns-in-None : goal.are_same_fields-returns-in-None
are_same_fields-returns-in-None t c =
    let e : c.loop-number.number ≡ length c.args.left.now = omega arith in
    sym (c.loop-number.invariant ∙ fields_end c.args.left.now c.args.right.now c.loop-number.number (omega arith)
    (ap (slice_get c.args.right.now) e ∙ sym c.in-None.ensures))
