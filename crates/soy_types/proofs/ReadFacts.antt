-- What the results of parts say of one another.
use Rattle.std.proofs.Common.{◌≡◌, List, ◌∷◌, refl}
use Rattle.std.specs.Prelude.{Result, Ok, Err}
use Rattle.soy_base.specs.declared.path.PathStep.{PathStep}
use Rattle.soy_base.specs.declared.path.PathStep.TheVariants as path_step
use Rattle.soy_tree.specs.Types.{Name}
use Rattle.soy_tree.specs.Values.{Value}
use Rattle.soy_types.specs.Paths.{onward, below, headed, either_read}
use Rattle.soy_base.specs.Path.{Path}
use Rattle.soy_types.specs.Read.{under_key}

pub ok_same : {A : Type 0} {a b : A} → ◌≡◌ {A = Result A Path} (Ok a) (Ok b) → a ≡ b
ok_same {A} {a} {b} e = cc

pub onward_ok : {A B : Type 0} (f : A → B) (r : Result A Path) (b : B) → onward f r ≡ Ok b
    → (a : A) × (r ≡ Ok a) × (f a ≡ b)
onward_ok f (Ok a) b e = (a, refl, ok_same e)
onward_ok f (Err path) b e = let no : ⊥ = cc in absurd no

pub below_ok : {A : Type 0} (step : PathStep) (r : Result A Path) (a : A) → below step r ≡ Ok a → r ≡ Ok a
below_ok step (Ok b) a e = e
below_ok step (Err path) a e = let no : ⊥ = cc in absurd no

pub headed_ok : {A : Type 0} (r : Result A Path) (rest : Result (List A) Path) (all : List A) → headed r rest ≡ Ok all
    → (a : A) × (as_ : List A) × (r ≡ Ok a) × (rest ≡ Ok as_) × (a ∷ as_ ≡ all)
headed_ok (Ok a) (Ok as_) all e = (a, as_, refl, refl, ok_same e)
headed_ok (Ok a) (Err path) all e = let no : ⊥ = cc in absurd no
headed_ok (Err path) rest all e = let no : ⊥ = cc in absurd no

pub under_key_ok : (name : Name) (r : Result Value Path) (e : Name × Value) → under_key name r ≡ Ok e
    → (v : Value) × (r ≡ Ok v) × ((name, v) ≡ e)
under_key_ok name r e is =
    onward_ok (λ v. (name, v)) r e (below_ok (path_step.Key name) (onward (λ v. (name, v)) r) e is)

-- something is read
abbrev pub IsRead : {A : Type 0} → Result A Path → Type 0
IsRead (Ok a) = Unit {0}
IsRead (Err path) = ⊥

pub onward_read : {A B : Type 0} (f : A → B) (r : Result A Path) → IsRead r → IsRead (onward f r)
onward_read f (Ok a) h = tt
onward_read f (Err path) h = h

pub below_read : {A : Type 0} (step : PathStep) (r : Result A Path) → IsRead r → IsRead (below step r)
below_read step (Ok a) h = tt
below_read step (Err path) h = h

pub headed_read : {A : Type 0} (r : Result A Path) (rest : Result (List A) Path) → IsRead r → IsRead rest
    → IsRead (headed r rest)
headed_read (Ok a) rest h k = onward_read (λ as_. a ∷ as_) rest k
headed_read (Err path) rest h k = h

pub under_key_read : (name : Name) (r : Result Value Path) → IsRead r → IsRead (under_key name r)
under_key_read name r h =
    below_read (path_step.Key name) (onward (λ v. (name, v)) r) (onward_read (λ v. (name, v)) r h)

pub either_left : {A : Type 0} (a b : Result A Path) → IsRead a → IsRead (either_read a b)
either_left (Ok v) b h = tt
either_left (Err path) b h = absurd h

pub either_right : {A : Type 0} (a b : Result A Path) → IsRead b → IsRead (either_read a b)
either_right (Ok v) b h = tt
either_right (Err path) b h = h

pub not_refused : {A : Type 0} (r : Result A Path) (path : Path) → IsRead r → r ≡ Err path → ⊥
not_refused (Ok a) path h e = let no : ⊥ = cc in no
not_refused (Err q) path h e = h
