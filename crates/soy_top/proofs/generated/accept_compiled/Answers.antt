use Rattle.std.proofs.Common.{Ok, Err, ap, sym, ◌∙◌, codes}
use Rattle.soy_top.specs.Answer.{Done, summed_page}
use Rattle.soy_top.specs.Generated.{workload_entry, workload_json}
use Rattle.soy_top.specs.declared.output.Output.TheVariants as output
use Rattle.soy_top.proofs.Answering.{rendered_same}
use Rattle.soy_top.proofs.generated.accept_compiled.Goals as goal

pub returns-in_ok-page_summary-in-Ok : goal.returns-in_ok-page_summary-in-Ok
returns-in_ok-page_summary-in-Ok c = λ content are.
    rendered_same summed_page (codes "gen.json") are.of _ (workload_entry c.args.workload.now) _
    (workload_json c.args.workload.now) (Ok (output.Text c.in_ok-page_summary-in-Ok.field-0)) c.text.ensures.bytes
    (c.as_bytes.ensures.value ∙ c.text-2.ensures.bytes)
    (c.in-Ok.ensures.accepts content are summed_page ∙ ap Done (sym c.in_ok-page_summary-in-Ok.ensures))

pub returns-in-Err : goal.returns-in-Err
returns-in-Err c = λ content are.
    rendered_same summed_page (codes "gen.json") are.of _ (workload_entry c.args.workload.now) _
    (workload_json c.args.workload.now) (Err c.in-Err.ending) c.text.ensures.bytes
    (c.as_bytes.ensures.value ∙ c.text-2.ensures.bytes) (c.in-Err.ensures.accepts content are summed_page)
