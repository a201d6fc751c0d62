-- A site: the number of a file, and an offset in it.
-- Example: of `{call m /}` at the beginning of the first file the site is 0 and 0.
use Rattle.std.specs.Prelude.{ℕ}
use Rattle.soy_base.specs.declared.fault.Span.{Span}

-- the number of a file, and an offset in it
pub record Site : Type 0 where
  pub file : ℕ
  pub at : ℕ

abbrev pub starts_at : ℕ → Span → Site
starts_at file span = record { file = file; at = span.start }
