use Rattle.std.proofs.Common.{◌≡◌, ◌≤◌, [], drop}
use Rattle.soy_top.specs.Fetched.{view_fetched}
use Rattle.soy_top.specs.FilesWanted.{known_files}
use Rattle.soy_top.specs.View.{view_files}
use Rattle.soy_top.proofs.Contents.Fetching.{FetchedSoFar}
use Rattle.soy_top.proofs.fetch.fetch_all.Given as goal

abbrev pub invariant-loop-file : goal.invariant-loop-file
invariant-loop-file g l = record {
  held : g.L.Library.held l.files ≡ g.L.Library.held l.initial.files;
  later : g.L.Library.faults l.initial.files ≤ g.L.Library.faults l.files;
  untouched : view_files l.wanted ≡ [] → l.files ≡ l.initial.files;
  so_far : FetchedSoFar (known_files (g.L.Library.held l.initial.files) (view_files l.wanted)) (view_files l.wanted)
      (view_files (drop l.file-index l.wanted)) (view_fetched l.fetched);
}
