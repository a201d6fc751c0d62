-- A name that the catalogue lists as a selector's is that of a selector of the message.
use Rattle.std.proofs.Common.{◌≡◌, Bool, true, false, List, [], ◌∷◌, ◌++◌, ◌⊎◌, inl, inr, Option, Some, None}
use Rattle.std.proofs.Common.{if◌then◌else◌, refl, sym}
use Rattle.std.specs.Prelude.{bytes_eq, is_some, ◌||◌}
use Rattle.std.specs.Option.{option_or}
use Rattle.std.proofs.lemmas.Slice.Eq.{bytes_eq-Decides}
use Rattle.soy_base.specs.Among.{is_among}
use Rattle.soy_tree.specs.Expressions.{Expr}
use Rattle.soy_rules.specs.Placeholders.{Role, Use, AsPlaceholder, AsPlural, AsSelect, name_of}
use Rattle.soy_tree.specs.Types.{Name}
use Rattle.msg_extract.specs.Catalogue.{is_of_kind, names_after, with_name}
use Rattle.msg_extract.specs.declared.role_names.NameKind.{NameKind}
use Rattle.msg_extract.specs.declared.role_names.NameKind.TheVariants as kind
use Rattle.soy_pieces.specs.Branch.{selector, selector_of_role}

-- the kind of the names of selectors
abbrev pub selector_kind : Bool → NameKind
selector_kind true = kind.Plural
selector_kind false = kind.Select

role_found : (of_plural : Bool) (role : Role) → is_of_kind (selector_kind of_plural) role ≡ true
    → is_some (selector_of_role of_plural role) ≡ true
role_found true (AsPlural e) h = refl
role_found false (AsSelect e) h = refl
role_found true (AsPlaceholder cut) h = let no : ⊥ = cc in absurd no
role_found false (AsPlaceholder cut) h = let no : ⊥ = cc in absurd no
role_found true (AsSelect e) h = let no : ⊥ = cc in absurd no
role_found false (AsPlural e) h = let no : ⊥ = cc in absurd no

first_found : (one other : Option Expr) → is_some one ≡ true → is_some (option_or one other) ≡ true
first_found (Some e) other h = refl
first_found None other h = let no : ⊥ = cc in absurd no

later_found : (one other : Option Expr) → is_some other ≡ true → is_some (option_or one other) ≡ true
later_found (Some e) other h = refl
later_found None other h = h

found_here : (test : Bool) (one other : Option Expr) → test ≡ true → is_some one ≡ true
    → is_some (if test then option_or one other else other) ≡ true
found_here true one other e h = first_found one other h
found_here false one other e h = let no : ⊥ = cc in absurd no

found_behind : (test : Bool) (one other : Option Expr) → is_some other ≡ true
    → is_some (if test then option_or one other else other) ≡ true
found_behind true one other h = later_found one other h
found_behind false one other h = h

-- a name among some with one more is among them, or is that one
among_last : (names : List Name) (last name : Name) → is_among (names ++ (last ∷ [])) name ≡ true
    → (is_among names name ≡ true) ⊎ (bytes_eq name last ≡ true)
among_last [] last name h = by_test (bytes_eq name last) h
  where
    by_test : (t : Bool) → (t || false) ≡ true → (false ≡ true) ⊎ (t ≡ true)
    by_test true k = inr refl
    by_test false k = inl k
among_last (n ∷ names) last name h = by_test (bytes_eq name n) (λ k. among_last names last name k) h
  where
    by_test : (t : Bool) → (is_among (names ++ (last ∷ [])) name ≡ true
        → (is_among names name ≡ true) ⊎ (bytes_eq name last ≡ true))
        → (t || is_among (names ++ (last ∷ [])) name) ≡ true
        → ((t || is_among names name) ≡ true) ⊎ (bytes_eq name last ≡ true)
    by_test true more k = inl refl
    by_test false more k = more k

with_among : (names : List Name) (last name : Name) → is_among (with_name names last) name ≡ true
    → (is_among names name ≡ true) ⊎ (bytes_eq name last ≡ true)
with_among names last name h = by_test (is_among names last) h
  where
    by_test : (t : Bool) → is_among (if t then names else names ++ (last ∷ [])) name ≡ true
        → (is_among names name ≡ true) ⊎ (bytes_eq name last ≡ true)
    by_test true k = inl k
    by_test false k = among_last names last name k

flipped : (x y : Name) → bytes_eq x y ≡ true → bytes_eq y x ≡ true
flipped x y h = (bytes_eq-Decides y x).1 (sym ((bytes_eq-Decides x y).0 h))

-- what is said of the names after one use
abbrev Found : Bool → List Use → List Name → Name → List Use → Type 0
Found of_plural all names name uses =
    (is_among names name ≡ true) ⊎ (is_some (selector of_plural name all uses) ≡ true)

step_found : (of_plural : Bool) (all : List Use) (names : List Name) (name : Name) (u : Use) (uses : List Use)
    → Found of_plural all
    (if is_of_kind (selector_kind of_plural) u.role then with_name names (name_of all u.base u.content) else names) name
    uses
    → Found of_plural all names name (u ∷ uses)
step_found of_plural all names name u uses (inr later) =
    inr (found_behind (bytes_eq (name_of all u.base u.content) name) (selector_of_role of_plural u.role)
    (selector of_plural name all uses) later)
step_found of_plural all names name u uses (inl among) = by_kind (is_of_kind (selector_kind of_plural) u.role) refl
    among
  where
    by_kind : (t : Bool) → is_of_kind (selector_kind of_plural) u.role ≡ t
        → is_among (if t then with_name names (name_of all u.base u.content) else names) name ≡ true
        → Found of_plural all names name (u ∷ uses)
    by_kind false e k = inl k
    by_kind true e k = elim (with_among names (name_of all u.base u.content) name k) [
      | inl there ↦ inl there
      | inr same ↦ inr (found_here (bytes_eq (name_of all u.base u.content) name) (selector_of_role of_plural u.role)
          (selector of_plural name all uses) (flipped name (name_of all u.base u.content) same)
          (role_found of_plural u.role e))
    ]

names_found : (of_plural : Bool) (all uses : List Use) (names : List Name) (name : Name)
    → is_among (names_after (selector_kind of_plural) all names uses) name ≡ true
    → Found of_plural all names name uses
names_found of_plural all [] names name h = inl h
names_found of_plural all (u ∷ uses) names name h =
    step_found of_plural all names name u uses
    (names_found of_plural all uses
    (if is_of_kind (selector_kind of_plural) u.role then with_name names (name_of all u.base u.content) else names) name
    h)

pub selector_there : (of_plural : Bool) (uses : List Use) (name : Name)
    → is_among (names_after (selector_kind of_plural) uses [] uses) name ≡ true
    → is_some (selector of_plural name uses uses) ≡ true
selector_there of_plural uses name h = elim (names_found of_plural uses uses [] name h) [
  | inl among ↦ (let no : ⊥ = cc in absurd no)
  | inr found ↦ found
]
