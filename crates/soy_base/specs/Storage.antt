-- The bytes of a text, wherever they are.
use Rattle.std.specs.Prelude.{ℕ, List}
use Rattle.std.specs.String.{string_bytes}
use Rattle.soy_base.specs.declared.storage.Storage.{Storage}
use Rattle.soy_base.specs.declared.storage.Storage.TheVariants as storage

abbrev pub storage_bytes : Storage → List ℕ
storage_bytes (storage.Inline short) = short.bytes
storage_bytes (storage.Heap long) = string_bytes long
