-- What the line of a fault in a file speaks of.
use Rattle.std.proofs.Common.{ℕ, ◌+◌, List, ◌++◌}
use Rattle.std.specs.Prelude.{codes}
use Rattle.std.specs.Fmt.{decimal}
use Rattle.soy_base.specs.Position.{breaks_within, characters_before}
use Rattle.soy_base.specs.declared.fault.Fault.{Fault}
use Rattle.soy_top.specs.Numbered.{numbered}
use Rattle.soy_top.specs.Words.{Word}

abbrev pub about_fault : List Word → List (List ℕ) → Fault → List ℕ
about_fault names contents fault =
    let bytes : List ℕ = numbered fault.file contents in
    numbered fault.file names ++ (codes ":" ++ (decimal (breaks_within bytes fault.at + 1)
    ++ (codes ":" ++ decimal (characters_before bytes fault.at + 1))))
