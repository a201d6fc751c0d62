-- What is answered by the inputs of a `gen`, where these go by other names.
use Rattle.std.proofs.Common.{◌≡◌, ◌≤◌, ℕ, List, Some, length, map, subst, ap, arith, codes, encode_utf8_all}
use Rattle.std.specs.Prelude.{Result}
use Rattle.std.proofs.lemmas.List.{length-map}
use Rattle.soy_front.specs.FilesAnswer.{ReadFiles}
use Rattle.soy_front.specs.ViewSources.{view_contents}
use Rattle.soy_front.specs.declared.source.Source.{Source}
use Rattle.soy_top.specs.declared.ending.Ending.{Ending}
use Rattle.soy_top.specs.declared.output.Output.{Output}
use Rattle.soy_top.specs.Accepts.{Accepts}
use Rattle.soy_top.specs.Answer.{accepted_then, bundled_answer, read_then, render_answer, summed_page, workload_answer}
use Rattle.soy_top.specs.Generated.{workload_entry, workload_files, workload_json, workload_names}
use Rattle.soy_top.specs.MadeBundle.{bundle_text}
use Rattle.soy_top.specs.Words.{Word}
use Rattle.work_gen.specs.declared.workload.Workload.{Workload}

-- there are as many files as texts
pub few_sources : (sources : List Source) (texts : List (List ℕ)) → view_contents sources ≡ map encode_utf8_all texts
    → length texts ≤ 64 → length sources ≤ 64
few_sources sources texts is few =
    omega (arith, few, ap length is, length-map sources (λ s. s.bytes), length-map texts encode_utf8_all)

module _ (w : Workload) (r : Result Output Ending) where
  pub workload_then : (names : List Word) (files : List (List ℕ)) → names ≡ workload_names → files ≡ workload_files w
      → Accepts (read_then names files (bundled_answer w names files)) r → Accepts (workload_answer w) r
  workload_then names files is_names is_files h =
      subst (λ ns. Accepts (read_then ns (workload_files w) (bundled_answer w ns (workload_files w))) r) is_names
      (subst (λ fs. Accepts (read_then names fs (bundled_answer w names fs)) r) is_files h)

  pub bundled_then : (names : List Word) (files : List (List ℕ)) (read : ReadFiles) (bundle : List ℕ)
      → bundle ≡ bundle_text read.rows
      → Accepts (accepted_then names files (codes "gen.bundle") (Some bundle)
      (render_answer summed_page (workload_entry w) (codes "gen.json") (workload_json w))) r
      → Accepts (bundled_answer w names files read) r
  bundled_then names files read bundle is h =
      subst (λ b. Accepts (accepted_then names files (codes "gen.bundle") (Some b)
      (render_answer summed_page (workload_entry w) (codes "gen.json") (workload_json w))) r) is h
