use Rattle.std.proofs.Common.{◌≡◌, Some, sym, ◌∙◌, ap}
use Rattle.std.specs.Prelude.{option_map}
use Rattle.serde_json.specs.View.{view}
use Rattle.soy_types.specs.ReadData.{json_of}
use Rattle.soy_types.proofs.data.read_exactly.Goals as goal

pub returns-in-Some-clause-value : goal.returns-in-Some-clause-value
returns-in-Some-clause-value c =
    let e : json_of c.args.bytes.now ≡ Some (view c.in-Some.json) =
    sym c.in_ok-json.ensures ∙ ap (option_map view) c.in-Some.is in
    rw e (c.fault_of.ensures.value _ c.read_params.ensures.value)
