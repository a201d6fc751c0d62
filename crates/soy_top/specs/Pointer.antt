-- The line of a fault of a JSON file, which is shown at a JSON pointer (RFC 6901, section 3): each step is a `/` and
-- then an index in decimal digits, or a key in which `~` is written `~0` and `/` is written `~1`.
--
-- Example: `d.json:/a~1b/3: 28 DataType`.
use Rattle.std.specs.Prelude.{ℕ, List, [], ◌∷◌, ◌++◌, ◌==◌, if◌then◌else◌, codes, encode_utf8_all}
use Rattle.std.specs.Fmt.{decimal}
use Rattle.std.specs.List.{flat_map}
use Rattle.soy_base.specs.declared.code.Code.{Code}
use Rattle.soy_base.specs.declared.path.PathStep.{PathStep}
use Rattle.soy_base.specs.declared.path.PathStep.TheVariants as path_step
use Rattle.soy_top.specs.Line.{refusal_line}
use Rattle.soy_top.specs.Words.{Word}

abbrev pub key_character : ℕ → List ℕ
key_character c = if c == 126 then codes "~0" else (if c == 47 then codes "~1" else c ∷ [])

-- a step, as UTF-8 bytes
abbrev pub pointer_step : PathStep → List ℕ
pointer_step (path_step.Key key) = 47 ∷ encode_utf8_all (flat_map key_character key)
pointer_step (path_step.Index n) = 47 ∷ decimal n

abbrev pub pointer : List PathStep → List ℕ
pointer path = flat_map pointer_step path

abbrev pub pointer_line : Word → List PathStep → Code → List ℕ
pointer_line file path code = refusal_line (file ++ (codes ":" ++ pointer path)) code
