-- The contents of files.
use Rattle.std.specs.Prelude.{ℕ, List, map}
use Rattle.soy_front.specs.declared.source.Source.{Source}

abbrev pub view_contents : List Source → List (List ℕ)
view_contents sources = map (λ s. s.bytes) sources
