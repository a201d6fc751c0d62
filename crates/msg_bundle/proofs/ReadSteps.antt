-- A JSON value that was read, and what is said of it.
use Rattle.std.proofs.Common.{ℕ, List}
use Rattle.std.specs.Prelude.{Result, Ok, Err}
use Rattle.serde_json.specs.Data.{Data}
use Rattle.soy_base.specs.declared.memory.Refusal.{Refusal}
use Rattle.soy_base.specs.declared.memory.Refusal.TheVariants as refusal
use Rattle.soy_tree.specs.declared.bundle.Bundle.{Bundle}
use Rattle.msg_extract.specs.declared.catalogue.Listed.{Listed}
use Rattle.msg_bundle.specs.declared.fault.BundleFault.{BundleFault}
use Rattle.msg_bundle.specs.ReadsBundle as reads
use Rattle.msg_bundle.specs.ReadsBundle.{IsJson, ReadsBundle, ReadsJson}

pub json_read : (bytes : List ℕ) (rows : List Listed) (json : Data) → IsJson bytes json
    → (r : Result Bundle (Refusal BundleFault)) → ReadsJson json rows r → ReadsBundle bytes rows r
json_read bytes rows json is (Ok bundle) h = record { json = json; reads = is; is = h }
json_read bytes rows json is (Err (refusal.Because fault)) h = reads.json json is h
json_read bytes rows json is (Err refusal.OutOfMemory) h = tt
