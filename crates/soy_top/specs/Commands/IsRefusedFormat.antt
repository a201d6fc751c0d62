-- The words ask for a `format` that is refused, with this line.
--
-- The words are `format FILE`, and the library holds the file. It is over its limit (2), or it is within it and deserves
-- a fault by itself: 1, 3, 4, 5, or the 8 of an unknown type name.
-- Example: `t.soy:1:13: 4 Syntax` is the line of `format t.soy` where t.soy is `{namespace a`.
use Rattle.std.specs.Prelude.{◌≡◌, ◌≤◌, ◌<◌, ℕ, List, [], ◌∷◌, Some, Err, codes, length}
use Rattle.soy_base.specs.declared.fault.Fault.{Fault}
use Rattle.soy_front.specs.Deserves.{Deserves}
use Rattle.soy_io.specs.FileOf.{Files, file_of}
use Rattle.soy_top.specs.Line.{fault_line, too_large_line}
use Rattle.soy_top.specs.Words.{Word}
use Rattle.soy_base.specs.Limits.{largest_file}

abbrev pub AreFormat : List Word → Word → Type 0
AreFormat words name = words ≡ codes "format" ∷ name ∷ []

pub data IsRefusedFormat (files : Files) (words : List Word) (line : List ℕ) : Type 0 where
  Large : (name : Word) (bytes : List ℕ) → AreFormat words name → file_of files name ≡ Some bytes
      → largest_file < length bytes → line ≡ too_large_line name → IsRefusedFormat files words line
  Faulty : (name : Word) (bytes : List ℕ) (fault : Fault) → AreFormat words name → file_of files name ≡ Some bytes
      → length bytes ≤ largest_file → Deserves bytes (Err fault) → line ≡ fault_line name bytes fault
      → IsRefusedFormat files words line
