-- The workload of a number: a source, data and the name of a template, the same at each run.
--
-- The source is the same for all numbers: 200 templates beside the one that is rendered. The data are 4,000 items that
-- the number decides.
use Rattle.std.specs.Prelude.{ℕ, [], ◌∷◌, codes}
use Rattle.work_gen.specs.declared.workload.Workload.{Workload}
use Rattle.work_gen.specs.Data.{data_json}
use Rattle.work_gen.specs.Source.{source_text}

abbrev pub workload : ℕ → Workload
workload number = record {
  sources = source_text 200 ∷ [];
  json = data_json 4000 number;
  entry = codes "gen.main";
}
