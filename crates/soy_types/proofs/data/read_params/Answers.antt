use Rattle.std.proofs.lemmas.List.{drop_all}
use Rattle.soy_types.proofs.Views.{view_record}
use Rattle.soy_tree.specs.declared.value.Value as code_value
use Rattle.std.proofs.Common.{sym}
use Rattle.std.specs.Prelude.{Ok, Err}
use Rattle.soy_tree.specs.ViewTrees.{view_params}
use Rattle.soy_types.specs.Paths.{all_read}
use Rattle.soy_types.specs.ReadData.{param_results}
use Rattle.std.proofs.Common.{◌++◌, map, ap, ◌∙◌}
use Rattle.serde_json.specs.View.{view}
use Rattle.soy_rules.specs.Templates.{param_type}
use Rattle.soy_tree.specs.Values.{RecordValue}
use Rattle.soy_tree.specs.ViewTrees.{view_param}
use Rattle.soy_tree.specs.ViewValues.{entries_of, view_entry, view_value}
use Rattle.soy_types.specs.Paths.{onward}
use Rattle.soy_types.specs.Read.{value_at}
use Rattle.soy_types.proofs.Results.{ends, goes_on, named_read, params_left, stops}
use Rattle.soy_types.proofs.Shortness.{entries_short-more}
use Rattle.soy_types.proofs.data.read_params.Goals as goal

pub returns-in-Err-clause-value : goal.returns-in-Err-clause-value
returns-in-Err-clause-value c =
    let p = c.param-item.result in
    let d = view c.args.json.now in
    let q = params_left c.args.params.now d c.loop-param.param-index p c.loop-param-test.true c.param-item.is in
    let whole =
    c.loop-param.invariant.read
    ∙ ap (λ x. onward (λ rest. map view_entry c.loop-param.entries.items ++ rest) x) q in
    let named =
    named_read p.name c.text-name.result.now (value_at (param_type (view_param p))) d view_entry (Err c.in-Err.refusal)
    c.text-name.ensures.characters c.text-name.ensures.bytes (c.in-Err.ensures.value _ c.read_param.ensures.value) in
    stops view_entry view_value (λ es. RecordValue (entries_of es)) _ c.loop-param.entries.items _ _ c.in-Err.refusal
    whole named

pub returns-clause-value : goal.returns-clause-value
returns-clause-value c =
    let nil = drop_all c.loop-param.param-index c.args.params.now c.loop-param-test.false in
    let whole =
    c.loop-param.invariant.read
    ∙ ap (λ x. onward (λ rest. map view_entry c.loop-param.entries.items ++ rest)
    (all_read (param_results (view_params x) (view c.args.json.now)))) nil in
    ends view_entry (λ es. RecordValue (entries_of es)) _ c.loop-param.entries.items whole
    ∙ ap Ok (sym (ap (λ es. view_value (code_value.Fields es)) c.new.ensures ∙ view_record c.loop-param.entries.items))

pub loop-param-preserved : goal.loop-param-preserved
loop-param-preserved c =
    let p = c.param-item.result in
    let d = view c.args.json.now in
    let q = params_left c.args.params.now d c.loop-param.param-index p c.loop-param-test.true c.param-item.is in
    let whole =
    c.loop-param.invariant.read
    ∙ ap (λ x. onward (λ rest. map view_entry c.loop-param.entries.items ++ rest) x) q in
    let named =
    named_read p.name c.text-name.result.now (value_at (param_type (view_param p))) d view_entry (Ok c.in-Ok.entry)
    c.text-name.ensures.characters c.text-name.ensures.bytes (c.in-Ok.ensures.value _ c.read_param.ensures.value) in
    record {
      read = rw c.in_ok-put-in-Ok.ensures.ok
          (goes_on view_entry _ c.loop-param.entries.items _ _ c.in-Ok.entry whole named);
      short = rw c.in_ok-put-in-Ok.ensures.ok
          (entries_short-more view_entry c.loop-param.entries.items c.in-Ok.entry c.loop-param.invariant.short
          (c.in-Ok.ensures.short c.read_param.ensures.short));
    }
