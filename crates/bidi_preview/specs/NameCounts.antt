-- How often a name is among the names of open elements, and maps that have this number for each name.
--
-- Among `b`, `i`, `b` the name `b` stands twice, and `u` not at all.
use Rattle.std.specs.Prelude.{◌≡◌, ℕ, zero, suc, if◌then◌else◌, List, [], ◌∷◌, Vec}
use Rattle.std.specs.declared.cmp.Ordering.{Ordering}
use Rattle.std.specs.Option.{unwrap_or}
use Rattle.std.specs.Str.{bytes_eq}
use Rattle.std.specs.BTreeMap.{BTreeMap, get}
use Rattle.std.specs.Ordering.{nat_cmp}
use Rattle.std.specs.Cmp.Lexicographic.{slice_cmp}
use Rattle.std.proofs.Common.{Global}

abbrev pub name_count : List ℕ → List (List ℕ) → ℕ
name_count name [] = zero
name_count name (n ∷ ns) = if bytes_eq n name then suc (name_count name ns) else name_count name ns

abbrev pub compare_names : Vec ℕ Global → Vec ℕ Global → Ordering
compare_names one other = slice_cmp nat_cmp one.items other.items

-- what a map has for a name, or 0
abbrev pub count_in : BTreeMap (Vec ℕ Global) ℕ → Vec ℕ Global → ℕ
count_in counts name = unwrap_or (get compare_names counts name) 0

abbrev pub HasCounts : BTreeMap (Vec ℕ Global) ℕ → List (List ℕ) → Type 0
HasCounts counts names = (name : Vec ℕ Global) → count_in counts name ≡ name_count name.items names

-- the number of one name is set
abbrev pub SetsCount : Vec ℕ Global → ℕ → BTreeMap (Vec ℕ Global) ℕ → BTreeMap (Vec ℕ Global) ℕ → Type 0
SetsCount name count old new = (other : Vec ℕ Global)
    → count_in new other ≡ (if bytes_eq name.items other.items then count else count_in old other)
