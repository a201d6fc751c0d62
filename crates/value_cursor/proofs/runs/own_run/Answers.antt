use Rattle.std.proofs.Common.{ap, drop, length, length-append, take, take-append-drop, arith}
use Rattle.value_cursor.proofs.SharedRuns.{found_boundary, found_plain, whole_plain}
use Rattle.value_cursor.proofs.runs.own_run.Goals as goal

pub split_at-requires : goal.split_at-requires
split_at-requires c =
    let found = rw c.as_bytes.ensures.value at c.in-Some.ensures in
    found_boundary c.args._how c.args.shares.now c.requires c.args.text.now c.in-Some.at
    c.utf8.text found.0 found.1 found.2

pub returns-in-Some-clause-plain : goal.returns-in-Some-clause-plain
returns-in-Some-clause-plain c =
    let found = rw c.as_bytes.ensures.value at c.in-Some.ensures in
    rw c.split_at.ensures.front (found_plain c.args._how c.args.shares.now c.requires
    c.args.text.now c.in-Some.at c.utf8.text found.0 found.1 found.2)

pub returns-in-None-clause-plain : goal.returns-in-None-clause-plain
returns-in-None-clause-plain c =
    whole_plain c.args._how c.args.shares.now c.requires c.args.text.now c.utf8.text
    (rw c.as_bytes.ensures.value at c.in-None.ensures)

pub returns-in-Some-clause-size : goal.returns-in-Some-clause-size
returns-in-Some-clause-size c =
    let text = c.args.text.now in
    let at = c.in-Some.at in
    omega (
      arith,
      ap length c.split_at.ensures.front,
      ap length c.split_at.ensures.back,
      ap length (take-append-drop at text),
      length-append (take at text) (drop at text),
    )
