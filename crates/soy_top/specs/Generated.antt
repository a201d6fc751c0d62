-- The inputs that a `gen` renders, which its workload has as texts: its source, its data, and the template's name, as
-- UTF-8 bytes. The lines of refusals name the source `gen.soy`, the bundle `gen.bundle` and the data `gen.json`.
--
-- Example: the template of each number is `gen.main`.
use Rattle.std.specs.Prelude.{ℕ, List, [], ◌∷◌, codes, encode_utf8_all, map}
use Rattle.soy_top.specs.Words.{Word}
use Rattle.work_gen.specs.declared.workload.Workload.{Workload}

abbrev pub workload_names : List Word
workload_names = codes "gen.soy" ∷ []

abbrev pub workload_files : Workload → List (List ℕ)
workload_files w = map encode_utf8_all w.sources

abbrev pub workload_json : Workload → List ℕ
workload_json w = encode_utf8_all w.json

abbrev pub workload_entry : Workload → Word
workload_entry w = encode_utf8_all w.entry
