-- What holds of a plan holds of each frame within, and the places of a frame's holes stand where the frame does.
use Rattle.std.proofs.Common.{◌≡◌, ℕ, suc, ◌+◌, ◌≤◌, List, Option, Some, None, get_or, length, ap, ◌∙◌}
use Rattle.std.proofs.Common.{subst, arith}
use Rattle.soy_base.specs.declared.kind.Kind.{Kind}
use Rattle.soy_base.specs.declared.place.Place.{Place}
use Rattle.soy_meaning.specs.Walks.FourPoints.{StartsAs}
use Rattle.soy_meaning.specs.Walks.Holes.{hole_count, holes_before}
use Rattle.soy_meaning.specs.Walks.Machine.{Machine}
use Rattle.soy_meaning.specs.Paths.PathParts.{StandsAfter}
use Rattle.soy_meaning.specs.Paths.Plan.{Plan, Then, Either, Meet, Loop, Frame}
use Rattle.soy_meaning.specs.Walks.Points.{Address, Here, Left, Right, Inside, frame_at}
use Rattle.soy_meaning.proofs.Paths.FinePaths.{place_in_other, place_in_one, places_length}
use Rattle.soy_meaning.proofs.Walks.HolePlaces.{HolePlaces, TwoLists}
use Rattle.soy_meaning.proofs.Walks.Holds.{Holds}

some_same : (a b : Kind × Plan) → ◌≡◌ {A = Option (Kind × Plan)} (Some a) (Some b) → a ≡ b
some_same a b e = cc

none_some : (a : Kind × Plan) → ◌≡◌ {A = Option (Kind × Plan)} None (Some a) → ⊥
none_some a e = cc

frame_within : (p : Plan) (y : Address) (found : Kind × Plan) → frame_at p y ≡ Some found
    → hole_count found.1 + holes_before p y ≤ hole_count p
frame_within (Frame kind at p) Here found e =
    let same : p ≡ found.1 = ap (λ (z : Kind × Plan). z.1) (some_same (kind, p) found e) in
    subst (λ q. hole_count q + 0 ≤ hole_count p) same (omega arith)
frame_within (Frame kind at p) (Inside y) found e = frame_within p y found e
frame_within (Then p q) (Left y) found e = let r : hole_count found.1 + holes_before p y ≤ hole_count p =
    frame_within p y found e in omega (arith, r)
frame_within (Then p q) (Right y) found e = let r : hole_count found.1 + holes_before q y ≤ hole_count q =
    frame_within q y found e in omega (arith, r)
frame_within (Either p q) (Left y) found e = let r : hole_count found.1 + holes_before p y ≤ hole_count p =
    frame_within p y found e in omega (arith, r)
frame_within (Either p q) (Right y) found e = let r : hole_count found.1 + holes_before q y ≤ hole_count q =
    frame_within q y found e in omega (arith, r)
frame_within (Meet at p) (Inside y) found e = frame_within p y found e
frame_within (Loop at p) (Inside y) found e = frame_within p y found e
frame_within (Frame kind at p) (Left y) found e = absurd (none_some found e)
frame_within (Frame kind at p) (Right y) found e = absurd (none_some found e)
frame_within _ _ found e = absurd (none_some found e)

module _ {S : Type 0} (m : Machine S) where
  pub inner_holds : (p : Plan) (P : S → Type 0) → Holds m p P → (y : Address) (found : Kind × Plan)
      → frame_at p y ≡ Some found → Holds m found.1 (StartsAs m found.0)
  inner_holds (Frame kind at p) P h Here found e = subst (λ (z : Kind × Plan). Holds m z.1 (StartsAs m z.0))
      (some_same (kind, p) found e) h.0
  inner_holds (Frame kind at p) P h (Inside y) found e = inner_holds p (StartsAs m kind) h.0 y found e
  inner_holds (Then p q) P h (Left y) found e = inner_holds p P h.0 y found e
  inner_holds (Then p q) P h (Right y) found e = inner_holds q (StandsAfter m p P) h.1 y found e
  inner_holds (Either p q) P h (Left y) found e = inner_holds p P h.0 y found e
  inner_holds (Either p q) P h (Right y) found e = inner_holds q P h.1 y found e
  inner_holds (Meet at p) P h (Inside y) found e = inner_holds p P h.0 y found e
  inner_holds (Loop at p) P h (Inside y) found e = inner_holds p (StandsAfter m (Loop at p) P) h.0 y found e
  inner_holds (Frame kind at p) P h (Left y) found e = absurd (none_some found e)
  inner_holds (Frame kind at p) P h (Right y) found e = absurd (none_some found e)
  inner_holds _ P h _ found e = absurd (none_some found e)

  -- the places of a frame's holes, which stand in a list behind so many others
  pub record PlacedWithin (kind : Kind) (q : Plan) (l : List Place) (before : ℕ) : Type 0 where
    pub inner : List Place
    pub of_holes : HolePlaces m q (StartsAs m kind) inner
    pub each : (i : ℕ) (d : Place) → suc i ≤ hole_count q → get_or l (before + i) d ≡ get_or inner i d

  within_one : (X Y : List Place → Type 0) (l : List Place) (b : TwoLists X Y l) (n : ℕ) (kind : Kind) (q : Plan)
      (before : ℕ) → length b.one ≡ n → hole_count q + before ≤ n →
      PlacedWithin kind q b.one before → PlacedWithin kind q l before
  within_one X Y l b n kind q before is fits placed = record {
    inner = placed.inner;
    of_holes = placed.of_holes;
    each = λ i d low. place_in_one m X Y l b (before + i) d (omega (arith, is, fits, low)) ∙ placed.each i d low;
  }

  within_other : (X Y : List Place → Type 0) (l : List Place) (b : TwoLists X Y l) (n : ℕ) (kind : Kind) (q : Plan)
      (before : ℕ) → length b.one ≡ n →
      PlacedWithin kind q b.other before → PlacedWithin kind q l (n + before)
  within_other X Y l b n kind q before is placed = record {
    inner = placed.inner;
    of_holes = placed.of_holes;
    each = λ i d low. (let same : n + before + i ≡ n + (before + i) = omega arith in ap (λ k. get_or l k d) same
        ∙ (place_in_other m X Y l b n (before + i) d is ∙ placed.each i d low));
  }

  pub inner_places : (p : Plan) (P : S → Type 0) (l : List Place) → HolePlaces m p P l
      → (y : Address) (found : Kind × Plan) → frame_at p y ≡ Some found
      → PlacedWithin found.0 found.1 l (holes_before p y)
  inner_places (Frame kind at p) P l h Here found e =
      subst (λ (z : Kind × Plan). PlacedWithin z.0 z.1 l 0) (some_same (kind, p) found e)
      (record {
        inner = l;
        of_holes = h;
        each = λ i d low. (let same : 0 + i ≡ i = omega arith in ap (λ k. get_or l k d) same);
      })
  inner_places (Frame kind at p) P l h (Inside y) found e = inner_places p (StartsAs m kind) l h y found e
  inner_places (Then p q) P l h (Left y) found e =
      within_one (HolePlaces m p P) (HolePlaces m q (StandsAfter m p P)) l h (hole_count p) found.0 found.1
      (holes_before p y) (places_length m p P h.one h.of_one) (frame_within p y found e)
      (inner_places p P h.one h.of_one y found e)
  inner_places (Then p q) P l h (Right y) found e =
      within_other (HolePlaces m p P) (HolePlaces m q (StandsAfter m p P)) l h (hole_count p) found.0 found.1
      (holes_before q y) (places_length m p P h.one h.of_one)
      (inner_places q (StandsAfter m p P) h.other h.of_other y found e)
  inner_places (Either p q) P l h (Left y) found e =
      within_one (HolePlaces m p P) (HolePlaces m q P) l h (hole_count p) found.0 found.1 (holes_before p y)
      (places_length m p P h.one h.of_one) (frame_within p y found e)
      (inner_places p P h.one h.of_one y found e)
  inner_places (Either p q) P l h (Right y) found e =
      within_other (HolePlaces m p P) (HolePlaces m q P) l h (hole_count p) found.0 found.1 (holes_before q y)
      (places_length m p P h.one h.of_one)
      (inner_places q P h.other h.of_other y found e)
  inner_places (Meet at p) P l h (Inside y) found e = inner_places p P l h y found e
  inner_places (Loop at p) P l h (Inside y) found e = inner_places p (StandsAfter m (Loop at p) P) l h y found e
  inner_places (Frame kind at p) P l h (Left y) found e = absurd (none_some found e)
  inner_places (Frame kind at p) P l h (Right y) found e = absurd (none_some found e)
  inner_places _ P l h _ found e = absurd (none_some found e)
