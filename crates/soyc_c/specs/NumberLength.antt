-- How long the number of a code is in a line, with the colon and the space before it and the space after it.
--
-- Example: of 9 it is 4, and of 11 it is 5.
use Rattle.std.specs.Prelude.{ℕ, nat_lt, if◌then◌else◌}
use Rattle.soy_base.specs.Code.{code_number}
use Rattle.soy_base.specs.declared.code.Code.{Code}

abbrev pub number_length : Code → ℕ
number_length code = if nat_lt (code_number code) 10 then 4 else 5
