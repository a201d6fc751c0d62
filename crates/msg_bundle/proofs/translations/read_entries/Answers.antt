use Rattle.std.proofs.Common.{[], append-nil, sym, ◌∙◌, subst}
use Rattle.std.proofs.lemmas.Result.{err_from_is_err_and}
use Rattle.serde_json.specs.View.{members_view}
use Rattle.msg_bundle.specs.Translations.{AreTranslations}
use Rattle.msg_bundle.proofs.EntrySteps.{next_faults, next_reads, next_refused, none_left}
use Rattle.msg_bundle.proofs.OneEach.{one_each}
use Rattle.msg_bundle.proofs.translations.read_entries.Goals as goal

pub loop-id-preserved : goal.loop-id-preserved
loop-id-preserved c =
    let o_is = c.source_of-source.ensures c.args.rows.now c.loop-id.invariant.finds in
    record {
      read = next_reads c.args.rows.now c.args.entries.now.entries _ c.next.new.self c.in-Some.id.now
          c.in-Some.entry.now c.in-Some.ensures.steps _ _ _ _ c.as_str.ensures.value
          c.as_str-in-loop-id.ensures.value c.text_in.ensures o_is _ _ _ c.in_ok-read_next.ensures
          c.loop-id.invariant.read;
      fault = next_faults c.args.rows.now c.args.entries.now.entries _ c.next.new.self c.in-Some.id.now
          c.in-Some.entry.now c.in-Some.ensures.steps _ _ _ _ c.as_str.ensures.value
          c.as_str-in-loop-id.ensures.value c.text_in.ensures o_is _ _ _ c.in_ok-read_next.ensures
          c.loop-id.invariant.fault;
      finds = c.loop-id.invariant.finds;
    }

pub returns-in_err-read_next-clause-read : goal.returns-in_err-read_next-clause-read
returns-in_err-read_next-clause-read c =
    let o_is = c.source_of-source.ensures c.args.rows.now c.loop-id.invariant.finds in
    let p =
    err_from_is_err_and c.from_residual-in_err-read_next.result c.from_residual-in_err-read_next.ensures.1 in
    rw (p.1, p.2) (next_refused c.args.rows.now c.args.entries.now.entries _ c.next.new.self c.in-Some.id.now
    c.in-Some.entry.now c.in-Some.ensures.steps _ _ _ _ c.as_str.ensures.value c.as_str-in-loop-id.ensures.value
    c.text_in.ensures o_is _ _ _ c.in_err-read_next.ensures c.loop-id.invariant.fault)

read_all : goal.returns-clause-read
read_all c =
    subst (AreTranslations c.args.rows.now (members_view c.args.entries.now.entries))
    (append-nil c.loop-id.translations ∙ sym c.done.ensures)
    (c.loop-id.invariant.read [] (none_left c.args.rows.now c.loop-id.id-iterator c.in-None.ensures.steps.0))

pub returns-clause-read : goal.returns-clause-read
returns-clause-read c = read_all c

pub returns-clause-one_each : goal.returns-clause-one_each
returns-clause-one_each c =
    one_each c.args.rows.now c.args.entries.now.entries c.done.result c.iter-id-items.ensures.ordered (read_all c)
