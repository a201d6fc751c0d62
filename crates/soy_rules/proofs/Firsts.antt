-- The first numbers of names: a map that has them, while it is made, and how they are counted.
use Rattle.std.proofs.Common.{◌≡◌, ℕ, ◌+◌, Bool, true, false, List, [], ◌∷◌, map, drop, refl, ap, sym, ◌∙◌}
use Rattle.std.proofs.Common.{Bor, Option, Some, None, option_map, arith, suc}
use Rattle.std.specs.Prelude.{if◌then◌else◌}
use Rattle.std.specs.HashMap.{HashMap, get}
use Rattle.std.specs.Option.{option_or}
use Rattle.std.specs.Str.{bytes_eq, chars, IsUtf8}
use Rattle.soy_base.proofs.Texts.{bytes_eq-chars}
use Rattle.soy_rules.specs.FirstNames.{AddsFirst, HasFirstsBefore, first_from, same_bytes}

or_cases : (found : Option ℕ) (same : Bool) (at : ℕ) (rest : Option ℕ)
    → option_or (option_or found (if same then Some at else None)) rest
    ≡ option_or found (if same then Some at else rest)
or_cases None true at rest = refl
or_cases None false at rest = refl
or_cases (Some n) same at rest = refl

-- one more name is added, unless it has a number
pub next_first : {S : Type 0} (old new : HashMap (Bor (List ℕ)) ℕ S) (added : Bor (List ℕ)) (at : ℕ)
    (xs : List (Bor (List ℕ))) (x : Bor (List ℕ)) (names : List (List ℕ))
    → drop at xs ≡ x ∷ drop (at + 1) xs → IsUtf8 added.now → chars added.now ≡ x.now → AddsFirst added at old new
    → HasFirstsBefore old at (map (λ name. name.now) (drop at xs)) names
    → HasFirstsBefore new (at + 1) (map (λ name. name.now) (drop (at + 1) xs)) names
next_first old new added at xs x names here utf8 is adds before = λ name text.
    let rest : List (List ℕ) = map (λ n. n.now) (drop (at + 1) xs) in
    let found : Option ℕ = get same_bytes old name in
    let same : bytes_eq added.now name.now ≡ bytes_eq x.now (chars name.now) =
    bytes_eq-chars added.now name.now utf8 text ∙ ap (λ cs. bytes_eq cs (chars name.now)) is in
    ap (λ o. option_or o (first_from (chars name.now) (at + 1) rest)) (adds name)
    ∙ or_cases found (bytes_eq added.now name.now) at (first_from (chars name.now) (at + 1) rest)
    ∙ ap (λ b. option_or found (if b then Some at else first_from (chars name.now) (at + 1) rest)) same
    ∙ ap (λ ys. option_or found (first_from (chars name.now) at (map (λ n. n.now) ys))) (sym here)
    ∙ before name text

next_if : (same : Bool) (at : ℕ) (later rest : Option ℕ) → later ≡ option_map suc rest
    → (if same then Some (at + 1) else later) ≡ option_map suc (if same then Some at else rest)
next_if true at later rest e = let next : at + 1 ≡ suc at = omega arith in ap Some next
next_if false at later rest e = e

-- counted from the next number each is one more
pub first_later : (name : List ℕ) (at : ℕ) (names : List (List ℕ))
    → first_from name (at + 1) names ≡ option_map suc (first_from name at names)
first_later name at [] = refl
first_later name at (n ∷ ns) =
    next_if (bytes_eq n name) at (first_from name (at + 1 + 1) ns) (first_from name (at + 1) ns)
    (first_later name (at + 1) ns)
