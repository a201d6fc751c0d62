-- The output took a prefix of the bytes of a page, and all of them where the run ends whole or too deep.
-- Example: at the status Done it took the whole page, and where it failed after three bytes, the first three.
use Rattle.std.specs.Prelude.{◌≡◌}
use Rattle.soy_top.specs.declared.status.Status.{Status}
use Rattle.soy_top.specs.declared.status.Status.TheVariants as status
use Rattle.soy_top.specs.Runs.Change.{Change, Took, TookPrefix}
use Rattle.soy_top.specs.Rendered.{Rendered, page_text}

pub record PageTook (page : Rendered) (out : Change) (result : Status) : Type 0 where
  pub prefix : TookPrefix out (page_text page)
  pub done : result ≡ status.Done → Took out (page_text page)
  pub too_deep : result ≡ status.TooDeep → Took out (page_text page)
