use Rattle.std.proofs.Common.{rules}
use Rattle.std.proofs.lemmas.Result.{err_from_is_err_and}
use Rattle.soy_top.proofs.Contents.Fetching.{fetched-step, fetched-all, fetch-stops, none_wanted}
use Rattle.soy_top.proofs.fetch.fetch_all.Goals as goal

pub returns-in_err-bytes-clause-fetched : goal.returns-in_err-bytes-clause-fetched
returns-in_err-bytes-clause-fetched g c =
    let p = err_from_is_err_and c.from_residual.result c.from_residual.ensures.1 in
    rw (p.1, p.2) (fetch-stops _ _ _ _ _ _ _ _ _ _ c.loop-file-test.true c.loop-file.invariant.later
    c.loop-file.invariant.so_far c.in_err-bytes.ensures.fetched c.loop-file.invariant.held)

pub loop-file-preserved : goal.loop-file-preserved
loop-file-preserved g c = record {
  held = search rules;
  later = search rules;
  untouched = λ none. absurd (none_wanted c.args.wanted.now c.loop-file.file-index c.loop-file-test.true none);
  so_far = fetched-step _ _ _ _ _ _ _ (g.L.Library.faults c.loop-file.files, g.L.Library.faults c.fetch.new.files) _
      c.loop-file-test.true c.loop-file.invariant.so_far c.in_ok-bytes.ensures.fetched c.loop-file.invariant.held
      c.in_ok-add.ensures;
}

pub returns-clause-fetched : goal.returns-clause-fetched
returns-clause-fetched g c =
    fetched-all _ c.args.wanted.now c.loop-file.file-index _ _ _ c.loop-file-test.false c.loop-file.invariant.so_far
    c.contents.ensures
