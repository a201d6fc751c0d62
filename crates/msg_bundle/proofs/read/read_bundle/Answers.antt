use Rattle.serde_json.specs.View.{view}
use Rattle.msg_bundle.proofs.ReadSteps.{json_read}
use Rattle.msg_bundle.proofs.read.read_bundle.Goals as goal

pub returns-in-Ok-clause-read : goal.returns-in-Ok-clause-read
returns-in-Ok-clause-read c =
    json_read c.args.bytes.now c.args.catalogue.now.messages (view c.in-Ok.json) c.in-Ok.ensures.ok c.bundle_of.result
    (rw c.items.ensures at c.bundle_of.ensures.read)
