-- Faults of types and demands without their positions, and what follows results without them.
use Rattle.std.proofs.Common.{◌≡◌, Bool, true, false, Option, Some, None, refl}
use Rattle.std.specs.Prelude.{Result, Ok, Err, option_map, if◌then◌else◌}
use Rattle.std.specs.Option.{option_or}
use Rattle.soy_rules.specs.Faults.{TypeFault, followed_by}

abbrev pub fault_placeless : TypeFault → TypeFault
fault_placeless f = record f { at = 0 }

abbrev pub placeless_by : {A B : Type 0} → (A → B) → Result A TypeFault → Result B TypeFault
placeless_by g (Ok a) = Ok (g a)
placeless_by g (Err f) = Err (fault_placeless f)

abbrev pub placeless : {A : Type 0} → Result A TypeFault → Result A TypeFault
placeless (Ok a) = Ok a
placeless (Err f) = Err (fault_placeless f)

-- what follows a result is placeless where the result and each that may follow it is
pub followed : {A B : Type 0} (r s : Result A TypeFault) (next other : A → Result B TypeFault) → s ≡ placeless r
    → ((a : A) → other a ≡ placeless (next a)) → followed_by s other ≡ placeless (followed_by r next)
followed (Ok a) s next other e h = rw e (h a)
followed (Err f) s next other e h = rw e refl

-- the same where what is found has spans of its own
pub found_then : {A B C : Type 0} (g : A → B) (r : Result A TypeFault) (s : Result B TypeFault)
    (next : A → Result C TypeFault) (other : B → Result C TypeFault) → s ≡ placeless_by g r
    → ((a : A) → other (g a) ≡ placeless (next a)) → followed_by s other ≡ placeless (followed_by r next)
found_then g (Ok a) s next other e h = rw e (h a)
found_then g (Err f) s next other e h = rw e refl

-- the same of a test
pub tested : {A : Type 0} (b : Bool) (r s : Result A TypeFault) (q t : Result A TypeFault) → q ≡ placeless r
    → t ≡ placeless s → (if b then q else t) ≡ placeless (if b then r else s)
tested true r s q t e f = e
tested false r s q t e f = f

-- the first of two faults is the first of the two without positions
first_of_two : {A : Type 0} (f : A → A) (a b : Option A)
    → option_or (option_map f a) (option_map f b) ≡ option_map f (option_or a b)
first_of_two f None b = refl
first_of_two f (Some x) b = refl

pub first_same : {A : Type 0} (f : A → A) (a c b d : Option A) → c ≡ option_map f a → d ≡ option_map f b
    → option_or c d ≡ option_map f (option_or a b)
first_same f a c b d e h = rw (e, h) (first_of_two f a b)
