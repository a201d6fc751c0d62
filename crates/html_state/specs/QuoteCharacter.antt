-- The character of a quote.
--
-- Example: the value of `title="it's"` is in double quotes.
use Rattle.std.specs.Prelude.{ℕ}
use Rattle.soy_base.specs.Characters.{double_quote, single_quote}
use Rattle.html_state.specs.declared.row.Quote.{Quote}
use Rattle.html_state.specs.declared.row.Quote.TheVariants as quote

abbrev pub quote_character : Quote → ℕ
quote_character quote.Single = single_quote
quote_character quote.Double = double_quote
