-- A name is among others where it has a number among them.
use Rattle.std.proofs.Common.{◌≡◌, ℕ, ◌+◌, Bool, true, false, ◌||◌, List, [], ◌∷◌, Option, Some, bytes_eq, refl}
use Rattle.std.specs.Prelude.{if◌then◌else◌, is_some}
use Rattle.soy_base.specs.Among.{is_among}
use Rattle.soy_rules.specs.FirstNames.{first_from, first_number}
use Rattle.msg_extract.proofs.Texts.AsciiTexts.{same_swapped}

number_if : (same : Bool) (at : ℕ) (later : Option ℕ) (rest : Bool) → rest ≡ is_some later
    → (same || rest) ≡ is_some (if same then Some at else later)
number_if true at later rest e = refl
number_if false at later rest e = e

among_from : (name : List ℕ) (at : ℕ) (names : List (List ℕ)) → is_among names name ≡ is_some (first_from name at names)
among_from name at [] = refl
among_from name at (n ∷ ns) =
    rw (same_swapped name n)
    (number_if (bytes_eq n name) at (first_from name (at + 1) ns) (is_among ns name) (among_from name (at + 1) ns))

pub number_among : (name : List ℕ) (names : List (List ℕ)) → is_among names name ≡ is_some (first_number name names)
number_among name names = among_from name 0 names
