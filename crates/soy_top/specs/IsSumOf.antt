-- What is known of the bytes of a page so far: how many they are, and their hash as far as it has come.
use Rattle.std.specs.Prelude.{◌≡◌, ℕ, List}
use Rattle.sha2.specs.Hashers.{Holds256}
use Rattle.soy_top.specs.Summary.{byte_count}
use Rattle.soy_top.specs.declared.summary.Summing.{Summing}

abbrev pub IsSumOf : List ℕ → Summing → Type 0
IsSumOf text sum = Holds256 sum.hasher text × (sum.count ≡ byte_count text)
