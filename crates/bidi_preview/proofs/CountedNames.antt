-- The numbers of names, one name more or less, and what they say of a search.
use Rattle.std.proofs.Common.{◌≡◌, ◌≢◌, ℕ, zero, suc, ◌+◌, ◌-◌, Bool, true, false, if◌then◌else◌, List, [], ◌∷◌, map}
use Rattle.std.proofs.Common.{refl, sym, ap, ◌∙◌, subst, arith, Option, Some, None, Global, Vec, BTreeMap}
use Rattle.std.specs.Prelude.{cond}
use Rattle.std.specs.Map.{lookup}
use Rattle.std.specs.Option.{unwrap_or}
use Rattle.std.specs.BTreeMap.{Updates, get, is_at}
use Rattle.std.specs.Str.{bytes_eq}
use Rattle.std.proofs.lemmas.Map.Text.{is_eq-slice_cmp}
use Rattle.std.proofs.lemmas.Slice.Eq.{bytes_eq-Decides}
use Rattle.bidi_order.specs.Elements.{left_open}
use Rattle.bidi_preview.specs.NameCounts.{HasCounts, SetsCount, compare_names, count_in, name_count}

-- a number that is put into a map
pub sets_count : (name : Vec ℕ Global) (count : ℕ) (old new : BTreeMap (Vec ℕ Global) ℕ)
    → Updates compare_names old new name (Some count) → SetsCount name count old new
sets_count name count old new updates = λ other.
    ap (λ o. unwrap_or o 0) (updates.0 other) ∙ go other (is_at (compare_names name) other)
    ∙ ap (λ b. if b then count else count_in old other) (is_eq-slice_cmp name.items other.items)
  where
    go : (other : Vec ℕ Global) (b : Bool) → unwrap_or (cond b (Some count) (get compare_names old other)) 0
        ≡ (if b then count else count_in old other)
    go other true = refl
    go other false = refl

pub empty_counts : (counts : BTreeMap (Vec ℕ Global) ℕ) → counts.entries ≡ [] → HasCounts counts []
empty_counts counts none = λ name. ap (λ es. unwrap_or (lookup (is_at (compare_names name)) es) 0) none

-- one more name
pub count_added : (name key : Vec ℕ Global) (text : List ℕ) (had count : ℕ) (old new : BTreeMap (Vec ℕ Global) ℕ)
    (names : List (List ℕ)) → key.items ≡ text → text ≡ name.items → had ≡ count_in old name → count ≡ had + 1
    → SetsCount key count old new → HasCounts old names → HasCounts new (name.items ∷ names)
count_added name key text had count old new names copied same was is sets has = λ other.
    sets other ∙ ap (λ n. if bytes_eq n other.items then count else count_in old other) (copied ∙ same)
    ∙ go other (bytes_eq name.items other.items) refl
  where
    go : (other : Vec ℕ Global) (b : Bool) → bytes_eq name.items other.items ≡ b
        → (if b then count else count_in old other)
        ≡ (if b then suc (name_count other.items names) else name_count other.items names)
    go other true e =
        let one : name.items ≡ other.items = (bytes_eq-Decides name.items other.items).0 e in
        let counted : count_in old name ≡ name_count other.items names =
        has name ∙ ap (λ n. name_count n names) one in
        let next : count ≡ suc (name_count other.items names) = omega (arith, was, is, counted) in
        next
    go other false e = has other

-- the innermost name is gone
pub count_removed : (name : Vec ℕ Global) (had count : ℕ) (old new : BTreeMap (Vec ℕ Global) ℕ)
    (names : List (List ℕ)) → had ≡ count_in old name → count ≡ had - 1 → SetsCount name count old new
    → HasCounts old (name.items ∷ names) → HasCounts new names
count_removed name had count old new names was is sets has = λ other.
    sets other ∙ go other (bytes_eq name.items other.items) refl (has other)
  where
    itself : name_count name.items (name.items ∷ names) ≡ suc (name_count name.items names)
    itself = ap (λ b. if b then suc (name_count name.items names) else name_count name.items names)
        ((bytes_eq-Decides name.items name.items).1 refl)

    go : (other : Vec ℕ Global) (b : Bool) → bytes_eq name.items other.items ≡ b
        → count_in old other ≡ (if b then suc (name_count other.items names) else name_count other.items names)
        → (if b then count else count_in old other) ≡ name_count other.items names
    go other true e here =
        let one : name.items ≡ other.items = (bytes_eq-Decides name.items other.items).0 e in
        let counted : count_in old name ≡ suc (name_count other.items names) =
        has name ∙ itself ∙ ap (λ n. suc (name_count n names)) one in
        let fewer : count ≡ name_count other.items names = omega (arith, was, is, counted) in
        fewer
    go other false e here = here

module _ {X : Type 0} (name_of : X → List ℕ) (name : List ℕ) where
  -- a name that is open nowhere isn't found
  pub uncounted : (xs : List X) → name_count name (map name_of xs) ≡ 0 → left_open name_of name xs ≡ None
  uncounted [] none = refl
  uncounted (x ∷ xs) none = go (bytes_eq (name_of x) name) none (uncounted xs)
    where
      go : (b : Bool)
          → (if b then suc (name_count name (map name_of xs)) else name_count name (map name_of xs)) ≡ 0
          → (name_count name (map name_of xs) ≡ 0 → left_open name_of name xs ≡ None)
          → ◌≡◌ {A = Option (List X)} (if b then Some xs else left_open name_of name xs) None
      go true none later = absurd (omega (arith, none))
      go false none later = later none

  -- and one that isn't found is open nowhere
  pub not_found : (xs : List X) → left_open name_of name xs ≡ None → name_count name (map name_of xs) ≡ 0
  not_found [] none = refl
  not_found (x ∷ xs) none = go (bytes_eq (name_of x) name) none (not_found xs)
    where
      go : (b : Bool)
          → ◌≡◌ {A = Option (List X)} (if b then Some xs else left_open name_of name xs) None
          → (left_open name_of name xs ≡ None → name_count name (map name_of xs) ≡ 0)
          → (if b then suc (name_count name (map name_of xs)) else name_count name (map name_of xs)) ≡ 0
      go true none later = absurd (cc)
      go false none later = later none
